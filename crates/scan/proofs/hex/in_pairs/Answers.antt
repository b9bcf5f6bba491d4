use Rattle.std.proofs.Common.{rules, tests, sym, ◌∙◌}
use Rattle.std.proofs.lemmas.Iterator.{YieldsList-from_slice}
use Rattle.std.proofs.lemmas.Iterator.Search.{all_from_yields_List}
use Rattle.scan.specs.Hex.{is_hex}
use Rattle.scan.proofs.Pairs.{in_pairs_even, in_pairs_odd}
use Rattle.scan.proofs.hex.in_pairs.Goals as goal

pub returns-then-digits-eq0 : goal.returns-then-digits-eq0
returns-then-digits-eq0 c =
    let digits = c.args.digits.now in
    all_from_yields_List is_hex _ _ _ c.all.ensures.ran (YieldsList-from_slice digits (search rules)) (λ x b q k. search (rules, tests))
    ∙ sym (in_pairs_even digits c.if-digits-eq0.true)

pub returns-else-digits-eq0 : goal.returns-else-digits-eq0
returns-else-digits-eq0 c = search (rules, in_pairs_odd)
