use Rattle.std.proofs.Common.{◌≡◌, drop}
use Rattle.challenger.specs.Sponge.{absorbed}
use Rattle.challenger.proofs.can_observe.observe_slice.Given as goal

-- what is left comes to the same
abbrev pub invariant-loop-item : goal.invariant-loop-item
invariant-loop-item g l =
    absorbed g.C.CanObserve.sponge (drop l.item-index l.items) (g.C.CanObserve.means l.challenger)
    ≡ absorbed g.C.CanObserve.sponge l.items (g.C.CanObserve.means l.initial.challenger)
