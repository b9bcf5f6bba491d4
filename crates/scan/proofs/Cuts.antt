-- Where the first line and the first word end, and what is left after them.
use Rattle.std.proofs.Common.{◌≡◌, ℕ, zero, suc, ◌+◌, ◌<◌, ◌≤◌, true, false, cond, eqb, List, [], ◌∷◌, Some, None, Option, length, get_or, take, drop, sym, refl, ap, ◌∙◌, subst, inl, inr, add-one, arith}
use Rattle.std.proofs.lemmas.List.{take_rest, drop_all, nil_from_length}
use Rattle.std.proofs.lemmas.Bool.{cond-true, cond-false, cases_Bool, eq-eqb, ne_eqb}
use Rattle.std.specs.Borrow.{Bor}
use Rattle.std.specs.Option.{unwrap_or}
use Rattle.std.specs.Slice.{IsGetRangeResult}
use Rattle.scan.specs.Lines.{lines, place, onto}
use Rattle.scan.specs.Words.{words, trimmed}

pub place_is : (b : ℕ) (xs : List ℕ) (i : ℕ) → i ≤ length xs → ((k : ℕ) → k < i → get_or xs k 0 ≡ b → ⊥) → (i < length xs → get_or xs i 0 ≡ b) → i ≡ place b xs
place_is b [] i within before found = omega arith
place_is b (x ∷ xs) zero within before found = sym (cond-true _ _ _ (eq-eqb _ _ (found (omega arith))))
place_is b (x ∷ xs) (suc i) within before found =
    ap suc (place_is b xs i (omega arith) (λ k h. before (suc k) (omega arith)) (λ h. found (omega arith))) ∙
    sym (cond-false _ _ _ (ne_eqb _ _ (before 0 (omega arith))))

-- what is left of xs from n on, where there is anything
pub got_rest : (xs : List ℕ) (n : ℕ) (got : Option (Bor (List ℕ))) (none : Bor (List ℕ)) → IsGetRangeResult xs n (length xs) got → none.now ≡ [] → (unwrap_or got none).now ≡ drop n xs
got_rest xs n None none h e = elim h.0 [ inl past ↦ e ∙ sym (drop_all n xs (omega arith)) | inr past ↦ absurd (omega arith) ]
got_rest xs n (Some x) none h e = h.0.2 ∙ take_rest xs n

lines_cut : (x : ℕ) (xs : List ℕ) → lines (x ∷ xs) ≡ take (place 10 (x ∷ xs)) (x ∷ xs) ∷ lines (drop (suc (place 10 (x ∷ xs))) (x ∷ xs))
unfolding lines
lines_cut x [] =
    elim (eqb x 10) as (λ t. cond t ([] ∷ []) (onto x []) ≡ take (cond t 0 1) (x ∷ []) ∷ lines (drop (suc (cond t 0 1)) (x ∷ []))) [ true ↦ refl | false ↦ refl ]
lines_cut x (y ∷ ys) =
    elim (eqb x 10) as (λ t. cond t ([] ∷ lines (y ∷ ys)) (onto x (lines (y ∷ ys))) ≡ take (cond t 0 (suc (place 10 (y ∷ ys)))) (x ∷ y ∷ ys) ∷ lines (drop (suc (cond t 0 (suc (place 10 (y ∷ ys))))) (x ∷ y ∷ ys)))
    [ true ↦ refl | false ↦ ap (onto x) (lines_cut y ys) ]

pub lines_none : (xs : List ℕ) → length xs ≡ 0 → lines xs ≡ []
unfolding lines
lines_none xs e = ap lines (nil_from_length xs e)

pub lines_next : (xs : List ℕ) (n : ℕ) → 0 < length xs → n ≡ place 10 xs → lines xs ≡ take n xs ∷ lines (drop (n + 1) xs)
lines_next [] n some e = absurd (omega arith)
lines_next (x ∷ xs) n some e = rw (add-one, e) (lines_cut x xs)

words_cut : (x : ℕ) (xs : List ℕ) → eqb x 32 ≡ false → words (x ∷ xs) ≡ (x ∷ take (place 32 xs) xs) ∷ words (drop (place 32 xs) xs)
unfolding words
words_cut x [] h = cond-false (eqb x 32) [] ((x ∷ []) ∷ []) h
words_cut x (y ∷ ys) h =
    elim (cases_Bool (eqb y 32)) [
      | inl e ↦ simp (h, e)
      | inr e ↦ simp (h, e) (ap (onto x) (simp e at (words_cut y ys e)))
    ]

words_begun : (xs : List ℕ) → 0 < length (trimmed xs) → words xs ≡ take (place 32 (trimmed xs)) (trimmed xs) ∷ words (drop (place 32 (trimmed xs)) (trimmed xs))
unfolding words
words_begun [] some = absurd (omega arith)
words_begun (x ∷ xs) some =
    elim (cases_Bool (eqb x 32)) [
      | inl e ↦ simp e (words_begun xs (simp e at some))
      | inr e ↦ simp e (simp e at (words_cut x xs e))
    ]

words_trimmed : (xs : List ℕ) → words (trimmed xs) ≡ words xs
unfolding words
words_trimmed [] = refl
words_trimmed (x ∷ xs) =
    elim (cases_Bool (eqb x 32)) [ inl e ↦ simp e (words_trimmed xs) | inr e ↦ simp e ]

-- of the words of xs, of which ys is left past the spaces
module _ (xs ys : List ℕ) (past : ys ≡ trimmed xs) where
  pub words_none : length ys ≡ 0 → (words xs ≡ []) × (words ys ≡ [])
  unfolding words
  words_none e = (sym (words_trimmed xs) ∙ ap words (sym past ∙ nil_from_length ys e), ap words (nil_from_length ys e))

  pub words_next : (n : ℕ) → 0 < length ys → n ≡ place 32 ys → words xs ≡ take n ys ∷ words (drop n ys)
  words_next n some e = rw (e, past) (words_begun xs (subst (λ zs. 0 < length zs) past some))
