-- How many words are added in.
use Rattle.keccak.proofs.Mixing.{Mixing}
use Rattle.keccak.proofs.sponge.mix.Given as goal

abbrev pub invariant-loop-i : goal.invariant-loop-i
invariant-loop-i l = Mixing l.initial.state l.state l.block l.i
