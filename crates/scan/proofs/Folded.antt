-- A word of digits that `try_fold` reads one after another.
use Rattle.std.proofs.Common.{◌≡◌, ℕ, ◌+◌, ◌^◌, ◌<◌, List, [], ◌∷◌, ◌++◌, map, length, take, drop, Some, None, Option, sym, refl, ap, ◌∙◌, append-nil, arith}
use Rattle.std.specs.ControlFlow.{continue_value}
use Rattle.std.specs.Fn.{Called}
use Rattle.std.specs.Iterator.{YieldsThen, TryFoldTurn, TryFoldsItems}
use Rattle.std.specs.List.{FoldsTo}
use Rattle.std.specs.Option.{MatchOption}
use Rattle.std.proofs.lemmas.Bool.Decides.{nat_tests}
use Rattle.std.proofs.lemmas.Iterator.{YieldsList}
use Rattle.std.proofs.lemmas.Iterator.Consumers.{YieldsList-so_far, YieldsList-turn, YieldsList-end}
use Rattle.std.proofs.lemmas.List.{drop_more, take-append-drop}
use Rattle.scan.specs.Numbers.{after, more}
use Rattle.scan.proofs.Numerals.{goes, stops}
use denote.Param.Members.{Mut}

fits : (n b m : ℕ) → more n b ≡ Some m → m < 2 ^ 64
fits n b m h = grind (arith, nat_tests, h)

ends : (n : ℕ) → n < 2 ^ 64 → after n [] ≡ Some n
ends n h = grind (arith, nat_tests)

-- each call of the closure adds one digit
module _ {S A F : Type 0} (E : Type 0) (steps : S → Option A → S → Type 0) (v : A → ℕ) {g : Mut F (ℕ × (A × Unit {0})) (Option ℕ)}
    (k : (p : F) (n : ℕ) (x : A) (r : Option ℕ) (q : F) → Called g p (n, (x, tt)) r q → r ≡ more n (v x)) where
  went_on : (xs : List A) (p q : F) (n m : ℕ) → FoldsTo {P = F × ℕ} (TryFoldTurn g (λ r c. r ≡ continue_value {B = E} c)) (p, n) xs (q, m) → n < 2 ^ 64 → (rest : List ℕ) → (m < 2 ^ 64) × (after n (map v xs ++ rest) ≡ after m rest)
  went_on [] p q n m c h rest = let e : n ≡ m = ap (λ (z : F × ℕ). z.1) c in (omega (arith, e), ap (λ i. after i rest) e)
  went_on (x ∷ xs) p q n m c h rest =
      let is : more n (v x) ≡ Some c.0.1 = sym (k p n x c.1.0 c.0.0 c.1.1) ∙ c.1.2 in
      let later : (m < 2 ^ 64) × (after c.0.1 (map v xs ++ rest) ≡ after m rest) = went_on xs c.0.0 q c.0.1 m c.2 (fits n (v x) c.0.1 is) rest in
      (later.0, goes n (v x) c.0.1 (map v xs ++ rest) is ∙ later.1)

  module _ {s u : S} {all : List ℕ} (f : F) (e : YieldsList steps v s all) (r : Option ℕ) where
    answer : (xs : List A) (o : Option A) (q : F) (m : ℕ) → YieldsThen steps s xs o u → FoldsTo {P = F × ℕ} (TryFoldTurn g (λ r c. r ≡ continue_value {B = E} c)) (f, 0) xs (q, m) → MatchOption o (r ≡ Some m) (λ x. (w : Option ℕ) × (h : F) × (b : E) × Called g q (m, (x, tt)) w h × (w ≡ None) × (r ≡ None)) → r ≡ after 0 all
    answer xs None q m y c h =
        let on : (m < 2 ^ 64) × (after 0 (map v xs ++ []) ≡ after m []) = went_on xs f q 0 m c (omega arith) [] in
        let whole = YieldsList-end e xs y.0 y.1 None u refl y.2 in
        h ∙ sym (ends m on.0) ∙ sym on.1 ∙ ap (after 0) (append-nil (map v xs) ∙ whole.0)
    answer xs (Some x) q m y c h =
        let i = length xs in
        let turn = YieldsList-turn e xs y.0 y.1 (Some x) u x refl y.2 in
        let rest = drop (i + 1) all in
        let on : (m < 2 ^ 64) × (after 0 (map v xs ++ v x ∷ rest) ≡ after m (v x ∷ rest)) = went_on xs f q 0 m c (omega arith) (v x ∷ rest) in
        let none : more m (v x) ≡ None = sym (k q m x h.0 h.1 h.3) ∙ h.4 in
        let split : map v xs ++ v x ∷ rest ≡ all =
        ap (λ front. front ++ v x ∷ rest) (YieldsList-so_far e xs y.0 y.1) ∙ ap (λ d. take i all ++ d ∷ rest) turn.1 ∙
        ap (λ back. take i all ++ back) (sym (drop_more all i (v x) turn.0)) ∙ take-append-drop i all in
        h.5 ∙ sym (stops m (v x) rest none) ∙ sym on.1 ∙ ap (after 0) split

    pub folded : TryFoldsItems steps g (λ r c. r ≡ continue_value c) (λ (b : E) r. r ≡ None) s f 0 r u → r ≡ after 0 all
    folded d = answer d.0 d.1 d.2 d.3 d.4 d.5 d.6
