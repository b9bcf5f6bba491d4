-- An array made by calls of a closure that does not change.
-- Assumes nothing.
use Rattle.std.proofs.Common.{◌≡◌, ℕ, zero, suc, ◌+◌, ◌<◌, List, map, get_or, subst, ◌∙◌, arith}
use Rattle.std.specs.Array.{IsFromFnResultFrom, IsFromFnResult}
use Rattle.std.specs.Fn.{Called}
use Rattle.std.specs.List.{range_with_len}
use Rattle.std.proofs.lemmas.List.FromFn.{fill_by_all}
use denote.Param.Members.{Mut}

module _ {F B : Type 0} (g : Mut F (ℕ × Unit {0}) B) (f : F) (h : ℕ → B) (each : (i : ℕ) (y : B) (q : F) → Called g f (i, tt) y q → (y ≡ h i) × (q ≡ f)) where
  made_from : (n i : ℕ) (ys : List B) → IsFromFnResultFrom g f ys i n → (k j : ℕ) (d : B) → k < n → i + k ≡ j → get_or ys j d ≡ h j
  made_from zero i ys m k j d lt e = absurd (omega arith)
  made_from (suc n) i ys m zero j d lt e =
      let same : i ≡ j = omega arith in
      subst (λ (p : ℕ). get_or ys p d ≡ h p) same (m.2.1 d ∙ (each i m.1 m.0 m.3).0)
  made_from (suc n) i ys m (suc k) j d lt e =
      let rest = subst (λ (p : F). IsFromFnResultFrom g p ys (i + 1) n) (each i m.1 m.0 m.3).1 m.4 in
      made_from n (i + 1) ys rest k j d (omega arith) (omega arith)

  pub made_all : (ys : List B) (n : ℕ) (d : B) → IsFromFnResult g f ys n → ys ≡ map h (range_with_len 0 n)
  made_all ys n d m = fill_by_all h ys n d m.long (λ k lt. made_from n 0 ys m.each k k d lt (omega arith))
