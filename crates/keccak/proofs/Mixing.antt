-- A block added into the state word by word.
-- Assumes nothing.
use Rattle.std.proofs.Common.{◌≡◌, ℕ, ◌+◌, ◌*◌, ◌<◌, ◌≤◌, List, length, get_or, take, drop, set, sym, ap, ◌∙◌, ap₂, ⊎_elim, arith}
use lib.Bits.{bit_xor, xor_zero_r}
use Rattle.std.proofs.lemmas.List.{get_or_past, get_or-set_other, length-set}
use Rattle.std.proofs.lemmas.List.Edits.{fill_by_more}
use Rattle.std.proofs.lemmas.List.FromFn.{fill_by_all}
use Rattle.std.proofs.lemmas.Bool.{cases_lt}
use Rattle.keccak_f.proofs.Chunks.{in_chunk}
use Rattle.keccak.specs.Sponge.{word, mixed}

word_past : (bs : List ℕ) (k : ℕ) → length bs ≤ 8 * k → word bs k ≡ 0
word_past bs k h =
    omega (
      arith,
      get_or_past bs (8 * k) 0 (omega arith),
      get_or_past bs (8 * k + 1) 0 (omega arith),
      get_or_past bs (8 * k + 2) 0 (omega arith),
      get_or_past bs (8 * k + 3) 0 (omega arith),
      get_or_past bs (8 * k + 4) 0 (omega arith),
      get_or_past bs (8 * k + 5) 0 (omega arith),
      get_or_past bs (8 * k + 6) 0 (omega arith),
      get_or_past bs (8 * k + 7) 0 (omega arith),
    )

-- the word of a chunk of 8 bytes
pub word_of_chunk : (bs chunk : List ℕ) (i : ℕ) → chunk ≡ take 8 (drop (i * 8) bs) → word chunk 0 ≡ word bs i
word_of_chunk bs chunk i e =
    omega (
      arith,
      in_chunk 8 i 0 (8 * i) bs chunk e (omega arith) (omega arith),
      in_chunk 8 i 1 (8 * i + 1) bs chunk e (omega arith) (omega arith),
      in_chunk 8 i 2 (8 * i + 2) bs chunk e (omega arith) (omega arith),
      in_chunk 8 i 3 (8 * i + 3) bs chunk e (omega arith) (omega arith),
      in_chunk 8 i 4 (8 * i + 4) bs chunk e (omega arith) (omega arith),
      in_chunk 8 i 5 (8 * i + 5) bs chunk e (omega arith) (omega arith),
      in_chunk 8 i 6 (8 * i + 6) bs chunk e (omega arith) (omega arith),
      in_chunk 8 i 7 (8 * i + 7) bs chunk e (omega arith) (omega arith),
    )

-- the first i words are added in
pub record Mixing (was is block : List ℕ) (i : ℕ) : Type 0 where
  pub long : length is ≡ 25
  pub done : (k : ℕ) → k < i → get_or is k 0 ≡ bit_xor (get_or was k 0) (word block k)
  pub left : (k : ℕ) → i ≤ k → get_or is k 0 ≡ get_or was k 0

pub mixing_more : (was is block : List ℕ) (i w : ℕ) → i < 17 → w ≡ word block i → Mixing was is block i
    → Mixing was (set is i (bit_xor (get_or is i 0) w)) block (i + 1)
mixing_more was is block i w h e m =
    let f : ℕ → ℕ = λ k. bit_xor (get_or was k 0) (word block k) in
    let v : bit_xor (get_or is i 0) w ≡ f i = ap₂ bit_xor (m.left i (omega arith)) e in
    record {
      long = length-set is i (bit_xor (get_or is i 0) w) ∙ m.long;
      done = λ k lt. ap (λ x. get_or (set is i x) k 0) v ∙ fill_by_more f is i 0 (omega (arith, m.long)) m.done k lt;
      left = λ k ge. get_or-set_other is i k (bit_xor (get_or is i 0) w) 0 (omega arith) ∙ m.left k (omega arith);
    }

pub mixing_all : (was is block : List ℕ) (i : ℕ) → i ≡ 17 → length block ≡ 136 → Mixing was is block i → is ≡ mixed was block
unfolding mixed
mixing_all was is block i e n m =
    fill_by_all (λ i. bit_xor (get_or was i 0) (word block i)) is 25 0 m.long
    (λ k h. ⊎_elim (λ lt. m.done k (omega arith))
    (λ ge. m.left k (omega arith) ∙ sym (ap (λ w. bit_xor (get_or was k 0) w) (word_past block k (omega arith)) ∙ xor_zero_r (get_or was k 0)))
    (cases_lt k 17))
