-- The four operations, each from its lemma.
use Rattle.keccak_f.proofs.Bitwise.{bit_of_xor, bit_of_and, bit_flip, bit_rot}
use Rattle.keccak_f.proofs.laws.words_act_on_bits.Goals as goal

pub returns : goal.returns
returns c = record { xors = bit_of_xor; ands = bit_of_and; flips = bit_flip; rots = bit_rot }
