use Rattle.std.proofs.Common.{◌≡◌, ◌*◌, drop}
use Rattle.message.proofs.Values.{Partly}
use Rattle.message.proofs.take.read_values.Given as goal

abbrev pub invariant-loop-index : goal.invariant-loop-index
invariant-loop-index g l =
    (l.rest ≡ drop (l.index-counter * g.K.Codec.coding.wire.wide) l.bytes)
    × Partly g.C.CanObserve.sponge g.K.Codec.coding g.K.Codec.code g.K.Codec.uncoded l.bytes l.count l.fn.out (g.C.CanObserve.means l.fn.challenger) l.index-counter l.place-items (g.C.CanObserve.means l.challenger)
