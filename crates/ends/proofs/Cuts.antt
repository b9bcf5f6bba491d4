-- A string cut into values, place by place: the one at an index, and those before the first that a codec does not take.
use Rattle.std.proofs.Common.{◌≡◌, ℕ, zero, suc, ◌+◌, ◌*◌, ◌<◌, Bool, true, false, cond, ◌&&◌, List, [], ◌∷◌, length, get_or, take, drop, refl, ap, ◌∙◌, ap₂, suc-mul, arith}
use Rattle.codec.specs.Coding.{Wire}
use Rattle.ends.specs.Verifier.{cut, all_good, good}
use Rattle.std.proofs.lemmas.List.{drop-drop}

pub and_left : (a b : Bool) → (a && b) ≡ true → a ≡ true
and_left true b h = refl
and_left false b h = h

pub and_right : (a b : Bool) → (a && b) ≡ true → b ≡ true
and_right true b h = h
and_right false b h = let z : ◌≡◌ {A = ℕ} 0 1 = cc in absurd (omega arith)

pub and_both : (a b : Bool) → a ≡ true → b ≡ true → (a && b) ≡ true
and_both a b p q = ap₂ (λ x y. x && y) p q

pub cut_length : (n w : ℕ) (s : List ℕ) → length (cut n w s) ≡ n
cut_length zero w s = refl
cut_length (suc n) w s = ap suc (cut_length n w (drop w s))

pub cut_at : (n w i : ℕ) (s : List ℕ) → i < n → get_or (cut n w s) i [] ≡ take w (drop (i * w) s)
cut_at zero w i s h = absurd (omega arith)
cut_at (suc n) w zero s h = ap (λ m. take w (drop m s)) none
  where
    none : 0 ≡ 0 * w
    none = omega arith
cut_at (suc n) w (suc i) s h = cut_at n w i (drop w s) (omega arith) ∙ ap (take w) (drop-drop (i * w) w s ∙ ap (λ m. drop m s) more)
  where
    more : w + i * w ≡ suc i * w
    more = omega (arith, suc-mul i w)

module _ (w : Wire) where
  pub good_before : (vs : List (List ℕ)) (i : ℕ) → i < length vs → all_good w (take i vs) ≡ true → w.decodes (get_or vs i []) ≡ false
      → (good w vs ≡ take i vs) × (all_good w vs ≡ false)
  good_before [] i h a b = absurd (omega arith)
  good_before (v ∷ vs) zero h a b = (ap (λ t. cond t (v ∷ good w vs) []) b, ap (λ t. t && all_good w vs) b)
  good_before (v ∷ vs) (suc i) h a b =
      let q = good_before vs i (omega arith) (and_right (w.decodes v) _ a) b in
      let g = and_left (w.decodes v) (all_good w (take i vs)) a in
      (ap (λ t. cond t (v ∷ good w vs) []) g ∙ ap (λ r. v ∷ r) q.0, ap₂ (λ x y. x && y) g q.1)

  pub good_more : (vs : List (List ℕ)) (i : ℕ) → i < length vs → all_good w (take i vs) ≡ true → w.decodes (get_or vs i []) ≡ true → all_good w (take (suc i) vs) ≡ true
  good_more [] i h a b = absurd (omega arith)
  good_more (v ∷ vs) zero h a b = and_both _ _ b refl
  good_more (v ∷ vs) (suc i) h a b = and_both _ _ (and_left (w.decodes v) _ a) (good_more vs i (omega arith) (and_right (w.decodes v) _ a) b)

  pub good_all : (vs : List (List ℕ)) → all_good w vs ≡ true → good w vs ≡ vs
  good_all [] a = refl
  good_all (v ∷ vs) a = ap (λ t. cond t (v ∷ good w vs) []) (and_left (w.decodes v) _ a) ∙ ap (λ r. v ∷ r) (good_all vs (and_right (w.decodes v) _ a))
