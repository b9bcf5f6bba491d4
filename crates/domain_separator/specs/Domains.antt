-- A domain: a protocol's identifier and a pattern, and the seed of the two.
use Rattle.std.specs.Prelude.{ℕ, cond, List, Ok, Err, Result}
use Rattle.domain_separator.specs.declared.separator.DomainSeparator.{DomainSeparator}
use Rattle.domain_separator.specs.Identifiers.{identifier, is_name}
use Rattle.domain_separator.specs.Seeds.{seed}
use Rattle.error.specs.declared.TranscriptError.{TranscriptError}
use Rattle.error.specs.declared.TranscriptError.TheVariants.{InvalidName}
use Rattle.keccak.specs.Sponge.{keccak_256}
use Rattle.pattern.specs.Patterns.{steps as steps_of}
use Rattle.render.specs.Rendering.{rendering}
use Rattle.step.specs.declared.interaction.Interaction.{Interaction}

pub record Domain : Type 0 where
  pub identifier : List ℕ
  pub steps : List Interaction

abbrev pub domain_of : DomainSeparator → Domain
domain_of d = record { identifier = d.protocol_id; steps = steps_of d.pattern }

abbrev pub domain_result : Result DomainSeparator TranscriptError → Result Domain TranscriptError
domain_result (Ok d) = Ok (domain_of d)
domain_result (Err e) = Err e

abbrev pub made_domain : ℕ → List ℕ → List Interaction → Result Domain TranscriptError
made_domain version name ss = cond (is_name name) (Ok (record { identifier = identifier version name; steps = ss })) (Err InvalidName)

-- the pattern enters by the Keccak-256 of its rendering
abbrev pub domain_seed : Domain → List ℕ
domain_seed d = seed d.identifier (keccak_256 (rendering d.steps))
