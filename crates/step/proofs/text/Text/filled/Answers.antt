use Rattle.std.proofs.Common.{◌≡◌, ◌≤◌, true, ◌++◌, length, drop, replicate, ap, ◌∙◌, arith}
use Rattle.std.proofs.lemmas.Bool.Decides.{nat_tests}
use Rattle.step.specs.Printable.{all_print}
use Rattle.step.proofs.Copying.{copied_whole, copied_content, copied_blank}
use Rattle.step.proofs.text.Text.filled.Goals as goal

pub invariant_of-result : goal.invariant_of-result
invariant_of-result c =
    let bs = c.args.bytes.now in
    let short : length bs ≤ 48 = grind (arith, nat_tests, c.requires) in
    let print : all_print bs ≡ true = grind (arith, nat_tests, c.requires) in
    let is = ap (λ l. l ++ drop (length bs) (replicate 48 0)) c.copy_from_slice.ensures.after in
    record {
      whole = copied_whole bs _ short is;
      fits = short;
      prints = ap all_print (copied_content bs _ short is) ∙ print;
      blank = copied_blank bs _ short is;
    }

pub returns : goal.returns
returns c =
    let bs = c.args.bytes.now in
    let short : length bs ≤ 48 = grind (arith, nat_tests, c.requires) in
    copied_content bs _ short (ap (λ l. l ++ drop (length bs) (replicate 48 0)) c.copy_from_slice.ensures.after)
