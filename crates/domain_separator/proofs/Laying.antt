-- Parts written one after another into an array of zeros.
use Rattle.std.proofs.Common.{◌≡◌, ℕ, ◌+◌, ◌-◌, ◌≤◌, true, List, [], ◌∷◌, ◌++◌, length, drop, set, replicate, sym, refl, ap, ◌∙◌, ap₂, arith}
use borrow.Rule.Slice.PartMut.{put_mid}
use Rattle.std.proofs.lemmas.List.{take_at, drop_at, drop-replicate, set_at, append_assoc, length-append, length-replicate, replicate_more}
use Rattle.std.proofs.lemmas.Bool.Decides.{nat_tests}
use Rattle.domain_separator.specs.Identifiers.{identifier, is_name}

-- k bytes at n, where zeros begin, of which t - k are left
pub put_after : (front ys : List ℕ) (n k t m : ℕ) → length front ≡ n → t - k ≡ m → put_mid n k (front ++ replicate t 0) ys ≡ (front ++ ys) ++ replicate m 0
put_after front ys n k t m l e =
    let zeros = drop-replicate k t 0 ∙ ap (λ j. replicate j 0) e in
    ap₂ (λ x z. x ++ (ys ++ z)) (take_at front (replicate t 0) n l) (ap (drop k) (drop_at front (replicate t 0) n l) ∙ zeros)
    ∙ sym (append_assoc front ys (replicate m 0))

pub is_named : (n : List ℕ) → 1 ≤ length n → length n ≤ 62 → is_name n ≡ true
is_named n some few = grind (arith, nat_tests)

module _ (v : ℕ) (n : List ℕ) (few : length n ≤ 62) where
  abbrev zeros : List ℕ
  zeros = replicate (62 - length n) 0

  last : n ++ replicate ((62 - length n) + 1) 0 ≡ (n ++ zeros) ++ 0 ∷ []
  last = ap (λ z. n ++ z) (sym (replicate_more (62 - length n) 0)) ∙ sym (append_assoc n zeros (0 ∷ []))

  named : (k : ℕ) → k ≡ length n → put_mid 1 k (v ∷ replicate 63 0) n ≡ v ∷ ((n ++ zeros) ++ 0 ∷ [])
  named k e =
      let left : 63 - k ≡ (62 - length n) + 1 = omega arith in
      put_after (v ∷ []) n 1 k 63 ((62 - length n) + 1) refl left ∙ ap (λ l. v ∷ l) last

  long : length (v ∷ (n ++ zeros)) ≡ 63
  long = simp (length-append, length-replicate) (omega arith)

  pub identifier_laid : (xs : List ℕ) (k : ℕ) → xs ≡ n → k ≡ length n → set (put_mid 1 k (v ∷ replicate 63 0) xs) 63 (length n) ≡ identifier v n
  unfolding identifier
  identifier_laid xs k same e =
      ap (λ l. set (put_mid 1 k (v ∷ replicate 63 0) l) 63 (length n)) same ∙ ap (λ l. set l 63 (length n)) (named k e)
      ∙ set_at (v ∷ (n ++ zeros)) 0 [] (length n) 63 long ∙ ap (λ l. v ∷ l) (append_assoc n zeros (length n ∷ []))

module _ (a b : List ℕ) (la : length a ≡ 64) (lb : length b ≡ 32) where
  ab_long : length (a ++ b) ≡ 96
  ab_long = length-append a b ∙ omega arith

  two : put_mid 64 32 (a ++ replicate 37 0) b ≡ (a ++ b) ++ replicate 5 0
  two = put_after a b 64 32 37 5 la refl

  pub room : 100 ≤ length (put_mid 64 32 (a ++ replicate 37 0) b)
  room = omega (arith, ap length two ∙ length-append (a ++ b) (replicate 5 0), ab_long)

  module _ (c : List ℕ) (lc : length c ≡ 4) where
    abc_long : length ((a ++ b) ++ c) ≡ 100
    abc_long = length-append (a ++ b) c ∙ omega (arith, ab_long)

    pub laid : (x : ℕ) → set (put_mid 96 4 (put_mid 64 32 (a ++ replicate 37 0) b) c) 100 x ≡ a ++ (b ++ (c ++ x ∷ []))
    laid x =
        ap (λ l. set (put_mid 96 4 l c) 100 x) two ∙ ap (λ l. set l 100 x) (put_after (a ++ b) c 96 4 5 1 ab_long refl)
        ∙ set_at ((a ++ b) ++ c) 0 [] x 100 abc_long ∙ append_assoc (a ++ b) c (x ∷ []) ∙ append_assoc a b (c ++ x ∷ [])
