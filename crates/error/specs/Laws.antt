-- What `==` of two refusals tells: it answers that they are equal exactly where they are one.
use Rattle.std.specs.Prelude.{◌≡◌, Decides}
use Rattle.error.specs.contracts.TranscriptErrorPartialEq.TheImpl as refusal
use Rattle.error.specs.declared.TranscriptError.{TranscriptError}

-- what they carry is compared too
abbrev pub EqualityTells : Type 0
EqualityTells = (a b : TranscriptError) → Decides (refusal.ghosts.eq a b) (a ≡ b)
