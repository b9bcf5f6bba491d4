use Rattle.std.proofs.Common.{◌≡◌, ◌<◌, ◌++◌, length, min, ap, ◌∙◌, arith}
use Rattle.digits.specs.Digits.{number_le}
use Rattle.challenger.proofs.Chunks.{takes, quad_counted, quad_full}
use Rattle.challenger.proofs.word_unit.WordUnitScalarUnit.observe_scalar.Goals as goal

pub loop-group-preserved : goal.loop-group-preserved
loop-group-preserved g c =
    let step = c.in-Some.ensures.steps in
    let rest = c.loop-group.group-iterator.rest.now in
    let xs = c.in-Some.group.now in
    let ys = c.next.new.self.rest.now in
    let invariant = c.loop-group.invariant in
    let whole : length rest ≡ length (xs ++ ys) = ap length step.1.0 in
    let size : length xs ≡ min 4 (length (xs ++ ys)) = step.1.1 ∙ (λ i. min (invariant.size i) (whole i)) in
    let some : 0 < length xs = omega (arith, step.1.2) in
    record {
      size = step.0 ∙ invariant.size;
      left = takes 4 number_le quad_counted quad_full xs ys some size g.C.CanObserve.sponge rest c.quad_of.result _ _ step.1.0 c.quad_of.ensures c.observe.ensures ∙ invariant.left;
    }
