-- A draft: what closing it comes to, and one step more.
use Rattle.std.proofs.Common.{◌≡◌, ℕ, List, [], ◌∷◌, ◌++◌, Some, None, Ok, Err, sym, refl, ap, ◌∙◌}
use Rattle.error.specs.declared.TranscriptError.TheVariants.{MissingEnd}
use Rattle.step.specs.declared.interaction.Interaction.{Interaction}
use Rattle.pattern.specs.Rows.{then}
use Rattle.pattern.specs.Stack.{top}
use Rattle.pattern.specs.Walk.{Open, met, ended, checked, opens, refusal_of, added}
use Rattle.pattern.proofs.Opening.{checked_opens, opens_push}
use Rattle.pattern.proofs.Stacks.{clash}

checked_ended : (ss : List Interaction) (bs : List ℕ) → opens ss ≡ Ok bs → checked ss ≡ ended ss bs
checked_ended ss bs e = checked_opens ss ∙ ap (λ m. then m (λ o. ended ss o)) e

open_end : (ss : List Interaction) (bs : List ℕ) (b : ℕ) → Some b ≡ top bs → ended ss bs ≡ Err (MissingEnd b)
open_end ss [] b t = clash cc
open_end ss (x ∷ bs) b t = let e : x ≡ b = cc in ap (λ n. Err (MissingEnd n)) e

closed_end : (ss : List Interaction) (bs : List ℕ) → None ≡ top bs → ended ss bs ≡ Ok ss
closed_end ss [] t = refl
closed_end ss (x ∷ bs) t = clash cc

pub left_open : (ss : List Interaction) (bs : List ℕ) (b : ℕ) → opens ss ≡ Ok bs → Some b ≡ top bs → Err (MissingEnd b) ≡ checked ss
left_open ss bs b e t = sym (checked_ended ss bs e ∙ open_end ss bs b t)

pub all_closed : (ss : List Interaction) (bs : List ℕ) → opens ss ≡ Ok bs → None ≡ top bs → checked ss ≡ Ok ss
all_closed ss bs e t = checked_ended ss bs e ∙ closed_end ss bs t

-- steps that leave `bs` open
module _ (ss : List Interaction) (bs : List ℕ) (e : opens ss ≡ Ok bs) where
  pub answered : (s : Interaction) (r : Open) → r ≡ met ss bs s → refusal_of r ≡ added ss s
  answered s r m = ap refusal_of m ∙ sym (ap (λ q. refusal_of (then q (λ b. met ss b s))) e)

  pub pushed : (s : Interaction) (o : List ℕ) → Ok o ≡ met ss bs s → opens (ss ++ s ∷ []) ≡ Ok o
  pushed s o m = opens_push ss s ∙ ap (λ q. then q (λ b. met ss b s)) e ∙ sym m
