-- The byte chain and the word chain: a state of 32 bytes, hashed with whatever comes.
use Rattle.std.specs.Prelude.{ℕ, List, [], ◌∷◌, slice_index}
use Rattle.challenger.specs.Sponge.{Sponge}
use Rattle.digits.specs.Digits.{big_endian}
use Rattle.chains.specs.Linked.{linked, drawn_byte}

-- a draw answers the first byte of the new state
abbrev pub chain : (ℕ → List ℕ) → ℕ → Sponge (List ℕ) ℕ
chain bytes separator = record {
  takes = λ s x. linked s separator (bytes x);
  byte = λ s. slice_index (linked s 0x01 []) 0;
  turns = λ s. linked s 0x01 [];
  bounded = drawn_byte;
}

abbrev pub byte_chain : Sponge (List ℕ) ℕ
byte_chain = chain (λ b. b ∷ []) 0x00

abbrev pub word_chain : Sponge (List ℕ) ℕ
word_chain = chain (big_endian 4) 0x02
