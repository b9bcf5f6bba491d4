-- Words of the bytes that are left, when one chunk of them is taken off.
use Rattle.std.proofs.Common.{◌≡◌, ℕ, zero, suc, ◌+◌, ◌*◌, ◌<◌, min, List, ◌∷◌, ◌++◌, length, get_or, sym, ap, ◌∙◌, arith, ⊎_elim}
use Rattle.std.specs.Prelude.{slice_index}
use Rattle.std.proofs.lemmas.Bool.{cases_lt}
use Rattle.std.proofs.lemmas.List.{ext_get_or, get_or_past, get_or-append-add, get_or_append_left, length-append}
use Rattle.challenger.specs.Packing.{length_packed, packed_at, length_group, group_at}
use Rattle.challenger.specs.Sponge.{Sponge, absorbed}
use Rattle.challenger.specs.Words.{group, groups, packed}

pub same_group : (k : ℕ) (bs cs : List ℕ) (i m : ℕ) → ((j : ℕ) → j < k → slice_index bs (k * i + j) ≡ slice_index cs (k * m + j)) → group k bs i ≡ group k cs m
same_group k bs cs i m e =
    ext_get_or 0 (group k bs i) (group k cs m) (length_group k bs i ∙ sym (length_group k cs m))
    (λ j h. let lt : j < k = omega (arith, length_group k bs i) in group_at k bs i j lt ∙ e j lt ∙ sym (group_at k cs m j lt))

-- One chunk is one group more, and what is left begins where it ends.
module _ (k : ℕ) (read : List ℕ → ℕ) (counted : (a b : ℕ) → 0 < a → a ≡ min k (a + b) → groups k (a + b) ≡ suc (groups k b)) (full : (a b i : ℕ) → a ≡ min k (a + b) → i < groups k b → a ≡ k) (xs ys : List ℕ) (some : 0 < length xs) (size : length xs ≡ min k (length (xs ++ ys))) where
  long : length (xs ++ ys) ≡ length xs + length ys
  long = length-append xs ys

  cut : length xs ≡ min k (length xs + length ys)
  cut = size ∙ ap (min k) long

  count : groups k (length (xs ++ ys)) ≡ suc (groups k (length ys))
  count = ap (groups k) long ∙ counted (length xs) (length ys) some cut

  first_at : (j : ℕ) → j < k → slice_index (xs ++ ys) (k * 0 + j) ≡ slice_index xs (k * 0 + j)
  first_at j h =
      ⊎_elim (λ lt. get_or_append_left xs ys 0 (k * 0 + j) (omega arith))
      (λ ge. get_or_past (xs ++ ys) (k * 0 + j) 0 (omega (arith, long, cut)) ∙ sym (get_or_past xs (k * 0 + j) 0 (omega arith)))
      (cases_lt j (length xs))

  rest_at : (i j : ℕ) → i < groups k (length ys) → slice_index (xs ++ ys) (k * suc i + j) ≡ slice_index ys (k * i + j)
  rest_at i j h =
      let whole = full (length xs) (length ys) i cut h in
      let place : k * suc i + j ≡ length xs + (k * i + j) = omega (arith, whole) in
      ap (slice_index (xs ++ ys)) place ∙ get_or-append-add xs ys (k * i + j) 0

  at : (i : ℕ) → i < length (packed k read (xs ++ ys)) → get_or (packed k read (xs ++ ys)) i 0 ≡ get_or (read (group k xs 0) ∷ packed k read ys) i 0
  at zero h = packed_at k read (xs ++ ys) 0 0 (omega (arith, count)) ∙ ap read (same_group k (xs ++ ys) xs 0 0 first_at)
  at (suc i) h =
      let within : i < groups k (length ys) = omega (arith, count, length_packed k read (xs ++ ys)) in
      packed_at k read (xs ++ ys) (suc i) 0 (omega (arith, count)) ∙ ap read (same_group k (xs ++ ys) ys (suc i) i (λ j lt. rest_at i j within)) ∙ sym (packed_at k read ys i 0 within)

  packed_more : packed k read (xs ++ ys) ≡ read (group k xs 0) ∷ packed k read ys
  packed_more =
      ext_get_or 0 (packed k read (xs ++ ys)) (read (group k xs 0) ∷ packed k read ys)
      (length_packed k read (xs ++ ys) ∙ count ∙ ap suc (sym (length_packed k read ys))) at

  -- a loop over the chunks, in terms of the bytes that are left
  pub takes : {S : Type 0} (p : Sponge S ℕ) (left : List ℕ) (x : ℕ) (s t : S) → left ≡ xs ++ ys → x ≡ read (group k xs 0) → t ≡ p.takes s x → absorbed p (packed k read ys) t ≡ absorbed p (packed k read left) s
  takes p left x s t split is e =
      ap (absorbed p (packed k read ys)) (e ∙ ap (p.takes s) is) ∙ sym (ap (λ l. absorbed p l s) (ap (packed k read) split ∙ packed_more))

pub word_counted : (a b : ℕ) → 0 < a → a ≡ min 3 (a + b) → groups 3 (a + b) ≡ suc (groups 3 b)
word_counted a b h e = omega arith

pub word_full : (a b i : ℕ) → a ≡ min 3 (a + b) → i < groups 3 b → a ≡ 3
word_full a b i e h = omega arith

pub quad_counted : (a b : ℕ) → 0 < a → a ≡ min 4 (a + b) → groups 4 (a + b) ≡ suc (groups 4 b)
quad_counted a b h e = omega arith

pub quad_full : (a b i : ℕ) → a ≡ min 4 (a + b) → i < groups 4 b → a ≡ 4
quad_full a b i e h = omega arith
