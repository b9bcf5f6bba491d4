use Rattle.message.proofs.Writing.{Partly}
use Rattle.message.proofs.put.write_values.Given as goal

abbrev pub invariant-loop-value : goal.invariant-loop-value
invariant-loop-value g l =
    Partly g.C.CanObserve.sponge g.K.Codec.coding g.K.Codec.code l.values l.initial.out l.start (g.C.CanObserve.means l.initial.challenger) l.value-index l.at l.out (g.C.CanObserve.means l.challenger)
