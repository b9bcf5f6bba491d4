-- Bytes packed into words: how many there are, which bytes each has, and that they tell byte strings of one length apart.
use Rattle.std.specs.Prelude.{◌≡◌, ℕ, ◌+◌, ◌*◌, ◌/◌, ◌%◌, ◌<◌, ◌≤◌, List, length, drop, slice_index, slice_index_or}
use Rattle.std.proofs.Common.{sym, ap, ◌∙◌, arith, ⊎_elim}
use Rattle.std.proofs.lemmas.List.FromFn.{length-map-range_with_len, get_or-map-range_with_len}
use Rattle.std.proofs.ByRecursion.{All-get_or, All-from_get_or}
use Rattle.std.proofs.lemmas.List.{ext_get_or, get_or_past}
use Rattle.std.proofs.lemmas.Bool.{cases_lt}
use Rattle.digits.specs.Digits.{Bytes, number, number_le, big_endian, little_endian}
use Rattle.digits.proofs.BigEndian as big
use Rattle.digits.proofs.LittleEndian as little
use Rattle.challenger.specs.Absorbing.{left_more, left_none}
use Rattle.challenger.specs.Sponge.{Sponge, absorbed}
use Rattle.challenger.specs.Unitary.{Unitary}
use Rattle.challenger.specs.Words.{group, groups, packed, words, quads}

pub length_packed : (k : ℕ) (read : List ℕ → ℕ) (bs : List ℕ) → length (packed k read bs) ≡ groups k (length bs)
length_packed k read bs = length-map-range_with_len (λ i. read (group k bs i)) 0 (groups k (length bs))

pub packed_at : (k : ℕ) (read : List ℕ → ℕ) (bs : List ℕ) (i d : ℕ) → i < groups k (length bs) → slice_index_or (packed k read bs) i d ≡ read (group k bs i)
packed_at k read bs i d h = get_or-map-range_with_len (λ j. read (group k bs j)) 0 (groups k (length bs)) i i d h (omega arith)

pub length_group : (k : ℕ) (bs : List ℕ) (i : ℕ) → length (group k bs i) ≡ k
length_group k bs i = length-map-range_with_len (λ j. slice_index bs (k * i + j)) 0 k

pub group_at : (k : ℕ) (bs : List ℕ) (i j : ℕ) → j < k → slice_index (group k bs i) j ≡ slice_index bs (k * i + j)
group_at k bs i j h = get_or-map-range_with_len (λ p. slice_index bs (k * i + p)) 0 k j j 0 h (omega arith)

byte_at : (bs : List ℕ) (i : ℕ) → Bytes bs → slice_index bs i < 256
byte_at bs i h =
    ⊎_elim (λ lt. All-get_or (λ b. b < 256) bs i 0 lt h) (λ ge. let z = get_or_past bs i 0 ge in omega arith) (cases_lt i (length bs))

group_bytes : (k : ℕ) (bs : List ℕ) (i : ℕ) → Bytes bs → Bytes (group k bs i)
group_bytes k bs i h =
    All-from_get_or (λ b. b < 256) (group k bs i) 0
    (λ j lt. let e = group_at k bs i j (omega (arith, length_group k bs i)) in let b = byte_at bs (k * i + j) h in omega arith)

-- Where each place lies in one of the groups, and the numbers tell groups apart.
module _ (k : ℕ) (read : List ℕ → ℕ) (place : (p : ℕ) → k * (p / k) + p % k ≡ p) (low : (p : ℕ) → p % k < k) (covered : (n p : ℕ) → p < n → p / k < groups k n) (tells : (xs ys : List ℕ) → Bytes xs → Bytes ys → length xs ≡ length ys → read xs ≡ read ys → xs ≡ ys) where
  pub packed_unitary : Unitary (packed k read)
  packed_unitary = record {
    sized = λ xs ys hx hy e. length_packed k read xs ∙ ap (groups k) e ∙ sym (length_packed k read ys);
    faithful = λ xs ys hx hy e w. ext_get_or 0 xs ys e (λ p lt.
        let i = p / k in
        let j = p % k in
        let at_x = packed_at k read xs i 0 (covered (length xs) p lt) in
        let at_y = packed_at k read ys i 0 (covered (length ys) p (omega arith)) in
        let both : read (group k xs i) ≡ read (group k ys i) = sym at_x ∙ ap (λ l. slice_index l i) w ∙ at_y in
        let same = tells (group k xs i) (group k ys i) (group_bytes k xs i hx) (group_bytes k ys i hy) (length_group k xs i ∙ sym (length_group k ys i)) both in
        ap (λ q. slice_index xs q) (sym (place p)) ∙ sym (group_at k xs i j (low p)) ∙ ap (λ l. slice_index l j) same ∙ group_at k ys i j (low p) ∙ ap (λ q. slice_index ys q) (place p));
  }

big_tells : (xs ys : List ℕ) → Bytes xs → Bytes ys → length xs ≡ length ys → number xs ≡ number ys → xs ≡ ys
big_tells xs ys hx hy e n = sym (big.written xs hx) ∙ (λ i. big_endian (e i) (n i)) ∙ big.written ys hy

little_tells : (xs ys : List ℕ) → Bytes xs → Bytes ys → length xs ≡ length ys → number_le xs ≡ number_le ys → xs ≡ ys
little_tells xs ys hx hy e n = sym (little.written xs hx) ∙ (λ i. little_endian (e i) (n i)) ∙ little.written ys hy

pub words_unitary : Unitary words
words_unitary = packed_unitary 3 number (λ p. omega arith) (λ p. omega arith) (λ n p h. omega arith) big_tells

pub quads_unitary : Unitary quads
quads_unitary = packed_unitary 4 number_le (λ p. omega arith) (λ p. omega arith) (λ n p h. omega arith) little_tells

-- a loop over the words, in terms of those that are left
module _ {S : Type 0} (p : Sponge S ℕ) (k : ℕ) (read : List ℕ → ℕ) (bs : List ℕ) (n i : ℕ) (all : n ≡ groups k (length bs)) where
  pub word_more : (x : ℕ) (s t : S) → i < n → x ≡ read (group k bs i) → t ≡ p.takes s x → absorbed p (drop (i + 1) (packed k read bs)) t ≡ absorbed p (drop i (packed k read bs)) s
  word_more x s t lt is e =
      let within : i < groups k (length bs) = omega arith in
      left_more p (packed k read bs) i x s t (omega (arith, length_packed k read bs)) (is ∙ sym (packed_at k read bs i x within)) e

  pub word_none : (s : S) → n ≤ i → absorbed p (drop i (packed k read bs)) s ≡ s
  word_none s h = left_none p (packed k read bs) i s (omega (arith, length_packed k read bs))
