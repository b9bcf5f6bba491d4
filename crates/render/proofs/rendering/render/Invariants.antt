use Rattle.std.proofs.Common.{◌≤◌, drop}
use Rattle.sink.proofs.Chain.{Leaves}
use Rattle.render.specs.Rendering.{lines}
use Rattle.render.proofs.rendering.render.Given as goal

-- the lines that are left; no more scopes are open than steps were passed
abbrev pub invariant-loop-position : goal.invariant-loop-position
invariant-loop-position g l =
    Leaves g.S.Sink.holds l.initial.sink (lines l.width 0 0 l.steps) l.sink (lines l.width l.position l.depth (drop l.position l.steps))
    × (l.depth ≤ l.position)
