-- Bytes copied to the front of 48 zeros: they are held whole, and zeros stand after them.
use Rattle.std.proofs.Common.{◌≡◌, ℕ, ◌+◌, ◌-◌, ◌≤◌, List, ◌++◌, length, take, drop, replicate, refl, ap, ◌∙◌, arith}
use Rattle.std.proofs.lemmas.List.{take_at, drop_at, length-append, length-replicate, drop-replicate}

module _ (bs held : List ℕ) (short : length bs ≤ 48) (is : held ≡ bs ++ drop (length bs) (replicate 48 0)) where
  held_is : held ≡ bs ++ replicate (48 - length bs) 0
  held_is = is ∙ ap (λ l. bs ++ l) (drop-replicate (length bs) 48 0)

  pub copied_whole : length held ≡ 48
  copied_whole = ap length held_is ∙ length-append bs (replicate (48 - length bs) 0) ∙ ap (λ k. length bs + k) (length-replicate (48 - length bs) 0) ∙ omega arith

  pub copied_content : take (length bs) held ≡ bs
  copied_content = ap (take (length bs)) held_is ∙ take_at bs (replicate (48 - length bs) 0) (length bs) refl

  pub copied_blank : drop (length bs) held ≡ replicate (48 - length bs) 0
  copied_blank = ap (drop (length bs)) held_is ∙ drop_at bs (replicate (48 - length bs) 0) (length bs) refl
