use Rattle.std.proofs.Common.{◌-◌, length, arith}
use Rattle.sink.proofs.Chain.{same, then, more, done}
use Rattle.render.specs.Rendering.{rendering}
use Rattle.render.proofs.Lines.{level_le, after_le, lines_step, lines_none, lines_wide}
use Rattle.render.proofs.rendering.render.Goals as goal

pub loop-position-preserved : goal.loop-position-preserved
loop-position-preserved g c =
    let w = c.decimal_len-width.result in
    let p = c.loop-position.position in
    let d = c.loop-position.depth in
    let s = c.index-steps-position.result in
    let l = c.level_of-level.result in
    let ss = c.args.steps.now in (
      more g.S.Sink.holds _ _ _ _ _ _ _
          (lines_step w p d l c.depth_past-depth.result ss s c.loop-position-test.true c.index-steps-position.is c.level_of-level.ensures c.depth_past-depth.ensures)
          c.loop-position.invariant.0 c.put_line.ensures,
      omega (arith, c.level_of-level.ensures, level_le s.hierarchy d, c.depth_past-depth.ensures, after_le s.hierarchy l, c.loop-position.invariant.1),
    )

pub returns : goal.returns
unfolding rendering
returns g c =
    let h = g.S.Sink.holds in
    let ss = c.args.steps.now in
    then h _ _ _ _ _ (then h _ _ _ _ _ c.put.ensures (then h _ _ _ _ _ c.put_decimal.ensures c.put-2.ensures))
    (same h _ _ _ _ (lines_wide c.decimal_len-width.result c.saturating_sub.result (length ss - 1) ss c.decimal_len-width.ensures c.saturating_sub.ensures)
    (done h _ _ _ _ (lines_none c.decimal_len-width.result c.loop-position.position c.loop-position.depth ss c.loop-position-test.false) c.loop-position.invariant.0))
