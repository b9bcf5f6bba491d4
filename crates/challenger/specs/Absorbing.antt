-- Items absorbed in parts: one part after another comes to the same as all at once.
use Rattle.std.specs.Prelude.{◌≡◌, ℕ, ◌+◌, ◌<◌, ◌≤◌, List, [], ◌∷◌, ◌++◌, length, drop, slice_index_or, refl}
use Rattle.std.proofs.Common.{sym, ap, ◌∙◌}
use Rattle.std.proofs.lemmas.List.{drop_more, drop_all}
use Rattle.challenger.specs.Sponge.{Sponge, absorbed}

pub absorbed_append : {S I : Type 0} (p : Sponge S I) (xs ys : List I) (s : S) → absorbed p (xs ++ ys) s ≡ absorbed p ys (absorbed p xs s)
absorbed_append p [] ys s = refl
absorbed_append p (x ∷ xs) ys s = absorbed_append p xs ys (p.takes s x)

pub absorbed_push : {S I : Type 0} (p : Sponge S I) (xs : List I) (x : I) (s : S) → absorbed p (xs ++ x ∷ []) s ≡ p.takes (absorbed p xs s) x
absorbed_push p xs x s = absorbed_append p xs (x ∷ []) s

-- a loop over items, in terms of those that are left
module _ {S I : Type 0} (p : Sponge S I) (xs : List I) (i : ℕ) where
  pub left_more : (x : I) (s t : S) → i < length xs → x ≡ slice_index_or xs i x → t ≡ p.takes s x → absorbed p (drop (i + 1) xs) t ≡ absorbed p (drop i xs) s
  left_more x s t lt is e =
      ap (absorbed p (drop (i + 1) xs)) e ∙ ap (λ y. absorbed p (drop (i + 1) xs) (p.takes s y)) is ∙ sym (ap (λ l. absorbed p l s) (drop_more xs i x lt))

  pub left_none : (s : S) → length xs ≤ i → absorbed p (drop i xs) s ≡ s
  left_none s h = ap (λ l. absorbed p l s) (drop_all i xs h)
