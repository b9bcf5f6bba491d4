-- What a challenger means: a state, how an item changes it, and what drawing a byte gives and leaves.
use Rattle.std.specs.Prelude.{ℕ, zero, suc, ◌<◌, List, [], ◌∷◌}

pub record Sponge (State Item : Type 0) : Type 0 where
  pub takes : State → Item → State
  -- the byte that it draws, and its state then
  pub byte : State → ℕ
  pub turns : State → State
  -- what is drawn is a byte
  pub bounded : (s : State) → byte s < 256

-- the state after items, in order
abbrev pub absorbed : {S I : Type 0} → Sponge S I → List I → S → S
absorbed p [] s = s
absorbed p (x ∷ xs) s = absorbed p xs (p.takes s x)

-- n bytes drawn one after another
abbrev pub drawn : {S I : Type 0} → Sponge S I → ℕ → S → List ℕ
drawn p zero s = []
drawn p (suc n) s = p.byte s ∷ drawn p n (p.turns s)

-- the state after n draws
abbrev pub turned : {S I : Type 0} → Sponge S I → ℕ → S → S
turned p zero s = s
turned p (suc n) s = turned p n (p.turns s)
