-- One part put after another, and a loop over the parts that are left.
use Rattle.std.proofs.Common.{◌≡◌, ℕ, List, [], ◌++◌, sym, subst}
use Rattle.std.proofs.lemmas.List.{append_assoc, append-nil}
use Rattle.sink.specs.Taking.{Takes}

module _ {S : Type 0} (Holds : S → List ℕ → Type 0) where
  pub same : (a b : S) (xs ys : List ℕ) → xs ≡ ys → Takes Holds a xs b → Takes Holds a ys b
  same a b xs ys e h m k = subst (λ (l : List ℕ). Holds b (m ++ l)) e (h m k)

  pub then : (a b c : S) (xs ys : List ℕ) → Takes Holds a xs b → Takes Holds b ys c → Takes Holds a (xs ++ ys) c
  then a b c xs ys h k m p = subst (λ (l : List ℕ). Holds c l) (append_assoc m xs ys) (k (m ++ xs) (h m p))

  pub nothing : (a : S) → Takes Holds a [] a
  nothing a m p = subst (λ (l : List ℕ). Holds a l) (sym (append-nil m)) p

  -- whoever takes what is left from b on has taken all from a on
  abbrev pub Leaves : S → List ℕ → S → List ℕ → Type 0
  Leaves a all b left = (c : S) → Takes Holds b left c → Takes Holds a all c

  pub more : (a b b' : S) (all left xs ys : List ℕ) → left ≡ xs ++ ys → Leaves a all b left → Takes Holds b xs b' → Leaves a all b' ys
  more a b b' all left xs ys e inv h c k = inv c (same b c (xs ++ ys) left (sym e) (then b b' c xs ys h k))

  pub done : (a b : S) (all left : List ℕ) → left ≡ [] → Leaves a all b left → Takes Holds a all b
  done a b all left e inv = inv b (same b b [] left (sym e) (nothing b))
