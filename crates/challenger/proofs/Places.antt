-- The word at a place of a string: that of the bytes there, of which there may be less than three.
use Rattle.std.proofs.Common.{◌≡◌, ℕ, ◌+◌, ◌-◌, ◌*◌, ◌<◌, ◌≤◌, min, List, length, take, drop, sym, ap, ◌∙◌, arith, ⊎_elim}
use Rattle.std.specs.Prelude.{slice_index}
use Rattle.std.proofs.lemmas.Bool.{cases_lt}
use Rattle.std.proofs.lemmas.List.{get_or_past, get_or-drop, take_rest}
use Rattle.digits.specs.Digits.{number}
use Rattle.challenger.proofs.Chunks.{same_group}
use Rattle.challenger.specs.Packing.{length_packed, packed_at}
use Rattle.challenger.specs.Words.{group, groups, words}

module _ (bs : List ℕ) (start : ℕ) where
  abbrev rest : List ℕ
  rest = take (length bs - start) (drop start bs)

  byte_at : (j : ℕ) → slice_index rest j ≡ slice_index bs (start + j)
  byte_at j = ap (λ l. slice_index l j) (take_rest bs start) ∙ get_or-drop start bs j 0

  pub word_at : (i : ℕ) → start ≡ min (i * 3) 18446744073709551615 → length bs < 18446744073709551616 → number (group 3 rest 0) ≡ slice_index (words bs) i
  word_at i place max =
      ⊎_elim (λ lt.
      let at : start ≡ 3 * i = omega arith in
      ap number (same_group 3 rest bs 0 i (λ j h.
      let front : 3 * 0 + j ≡ j = omega arith in
      ap (slice_index rest) front ∙ byte_at j ∙ ap (λ n. slice_index bs (n + j)) at))
      ∙ sym (packed_at 3 number bs i 0 lt))
      (λ ge.
      let zero : (j : ℕ) → slice_index rest j ≡ 0 = λ j. byte_at j ∙ get_or_past bs (start + j) 0 (omega arith) in
      let past = get_or_past (words bs) i 0 (omega (arith, length_packed 3 number bs)) in
      let z0 = zero 0 in
      let z1 = zero 1 in
      let z2 = zero 2 in
      omega (arith, z0, z1, z2, past))
      (cases_lt i (groups 3 (length bs)))

pub word_past : (bs : List ℕ) (i : ℕ) → length bs < i * 3 → 0 ≡ slice_index (words bs) i
word_past bs i h = sym (get_or_past (words bs) i 0 (omega (arith, length_packed 3 number bs)))
