use Rattle.std.proofs.Common.{◌≡◌, rules, ap, ◌∙◌, arith}
use Rattle.digits.specs.Digits.{number}
use Rattle.challenger.specs.Words.{group}
use Rattle.challenger.proofs.Places.{word_at, word_past}
use Rattle.challenger.proofs.word_unit.WordUnit.word.Goals as goal

pub returns-in-Some : goal.returns-in-Some
returns-in-Some c =
    let look = c.in-Some.ensures.lookup in
    c.word_of.ensures ∙ ap (λ l. number (group 3 l 0)) look.0.2 ∙ word_at c.args.bytes.now c.saturating_mul.result c.args.i c.saturating_mul.ensures (search rules)

pub returns-in-None : goal.returns-in-None
returns-in-None c =
    let over = c.in-None.ensures.lookup.0 in
    word_past c.args.bytes.now c.args.i (omega (arith, over, c.saturating_mul.ensures))

pub returns-in-Some-len3-up : goal.returns-in-Some-len3-up
returns-in-Some-len3-up c =
    let look = c.in-Some-len3-up.ensures.lookup in
    let word : c.from_be_bytes.result ≡ number (group 3 c.in-Some-len3-up.field-0.now 0) = omega (arith, c.from_be_bytes.ensures) in
    word ∙ ap (λ l. number (group 3 l 0)) look.0.2 ∙ word_at c.args.bytes.now c.saturating_mul.result c.args.i c.saturating_mul.ensures (search rules)
