-- The steps ahead of a player: when one is left, which it is, and what playing it leaves.
use Rattle.std.proofs.Common.{◌≡◌, ℕ, ◌+◌, ◌<◌, ◌≤◌, Bool, true, false, cond, ltb, List, [], ◌∷◌, length, drop, Ok, Err, sym, refl, ap, ◌∙◌, add-one, arith, drop-cons, ltb-false, ltb-true}
use Rattle.ends.specs.Shared.{ahead, some_left}
use Rattle.error.specs.declared.TranscriptError.TheVariants.{Ended, StepsLeft}
use Rattle.pattern.specs.Walk.{no_step, step_at}
use Rattle.player.specs.Plays.{Play, Answer, advanced, played_out}
use Rattle.std.proofs.lemmas.List.{drop_all}
use Rattle.step.specs.declared.interaction.Interaction.{Interaction}

-- the steps left when the next is played
abbrev pub rest : List Interaction → List Interaction
rest [] = []
rest (s ∷ ss) = ss

pub clash : {A : Type 0} → false ≡ true → A
clash h = absurd (let z : ◌≡◌ {A = ℕ} 0 1 = ap (λ b. cond b 1 0) h in omega arith)

-- either a step is left, and is the first ahead, or none is
pub ahead_some : (p : Play) → p.position < length p.pattern → ahead p ≡ step_at p.pattern p.position ∷ drop (p.position + 1) p.pattern
ahead_some p h = drop-cons p.pattern p.position no_step h ∙ ap (λ n. step_at p.pattern p.position ∷ drop n p.pattern) (sym (add-one p.position))

pub ahead_none : (p : Play) → length p.pattern ≤ p.position → ahead p ≡ []
ahead_none p h = drop_all p.position p.pattern h

pub some_left_is : (p : Play) → some_left (ahead p) ≡ ltb p.position (length p.pattern)
some_left_is p = go (ltb p.position (length p.pattern)) refl
  where
    go : (b : Bool) → ltb p.position (length p.pattern) ≡ b → some_left (ahead p) ≡ b
    go true h = ap some_left (ahead_some p (ltb-true _ _ h))
    go false h = ap some_left (ahead_none p (ltb-false _ _ h))

pub ahead_advanced : (p : Play) → ahead (advanced p) ≡ rest (ahead p)
ahead_advanced p = go (ltb p.position (length p.pattern)) refl
  where
    go : (b : Bool) → ltb p.position (length p.pattern) ≡ b
        → ahead (cond b (record { pattern = p.pattern; position = p.position + 1; ended = p.ended }) p) ≡ rest (ahead p)
    go true h = sym (ap rest (ahead_some p (ltb-true _ _ h)))
    go false h = ahead_none p (ltb-false _ _ h) ∙ sym (ap rest (ahead_none p (ltb-false _ _ h)))

pub advanced_ended : (p : Play) → (advanced p).ended ≡ p.ended
advanced_ended p = go (ltb p.position (length p.pattern))
  where
    go : (b : Bool) → (cond b (record { pattern = p.pattern; position = p.position + 1; ended = p.ended }) p).ended ≡ p.ended
    go true = refl
    go false = refl

-- when a player may finish
pub record PlayedOut (p : Play) : Type 0 where
  pub live : p.ended ≡ false
  pub none_left : ahead p ≡ []

none_short : (p : Play) → ahead p ≡ [] → ltb p.position (length p.pattern) ≡ false
none_short p h = sym (some_left_is p) ∙ ap some_left h

pub played_out_yes : (p : Play) → PlayedOut p → played_out p ≡ Ok tt
played_out_yes p h = rw (h.live, none_short p h.none_left)

pub yes_played_out : (p : Play) → played_out p ≡ Ok tt → PlayedOut p
yes_played_out p h = go p.ended (ltb p.position (length p.pattern)) refl refl h
  where
    go : (a b : Bool) → p.ended ≡ a → ltb p.position (length p.pattern) ≡ b → ◌≡◌ {A = Answer} (cond a (Err Ended) (cond b (Err StepsLeft) (Ok tt))) (Ok tt) → PlayedOut p
    go true b x y h = absurd (let z : ◌≡◌ {A = ℕ} 0 1 = cc in omega arith)
    go false true x y h = absurd (let z : ◌≡◌ {A = ℕ} 0 1 = cc in omega arith)
    go false false x y h = record { live = x; none_left = ahead_none p (ltb-false _ _ y) }
