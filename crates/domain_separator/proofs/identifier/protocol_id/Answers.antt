use Rattle.std.proofs.Common.{◌+◌, ◌-◌, cond, length, Ok, Err, sym, ap, ◌∙◌, arith}
use Rattle.error.specs.declared.TranscriptError.TheVariants.{InvalidName}
use Rattle.domain_separator.specs.Identifiers.{identifier}
use Rattle.domain_separator.proofs.Laying.{is_named, identifier_laid}
use Rattle.domain_separator.proofs.identifier.protocol_id.Goals as goal

pub returns : goal.returns
returns c =
    let v = c.args.version in
    let n = c.args.name.now in
    ap (λ l. Ok l) (identifier_laid v n (omega arith) _ (1 + length n - 1) c.copy_from_slice.ensures.after (omega arith))
    ∙ sym (ap (λ b. cond b (Ok (identifier v n)) (Err InvalidName)) (is_named n (omega arith) (omega arith)))
