-- Each turn writes the next lane.
use Rattle.std.proofs.Common.{ap, ◌∙◌}
use Rattle.keccak_f.specs.Permutation.{Round, ι}
use Rattle.keccak_f.specs.Lanes.{chi_lane}
use Rattle.keccak_f.proofs.Filling.{filling_more, filling_all}
use Rattle.keccak_f.proofs.Rounds.{round_lane, lanes_make_the_round}
use Rattle.keccak_f.proofs.permutation.round.Goals as goal

pub loop-x-preserved : goal.loop-x-preserved
loop-x-preserved g c =
    filling_more (round_lane c.args.a.now) _ _ _ _ c.loop-x-test.true c.loop-y-test.true
    (c.chi_lane.ensures ∙ ap (λ row. chi_lane row c.loop-x.x) c.moved_row-row.ensures)
    c.loop-x.invariant

pub returns : goal.returns
unfolding Round ι
returns g c =
    ap (λ a. ι c.args.constant a)
    (filling_all (round_lane c.args.a.now) _ c.loop-y.y c.loop-y-test.false c.loop-y.invariant ∙ lanes_make_the_round c.args.a.now)
