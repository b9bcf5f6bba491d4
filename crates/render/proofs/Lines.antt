-- The lines that are left in a walk over the steps, and how deep the walk is.
use Rattle.std.proofs.Common.{◌≡◌, ℕ, ◌+◌, ◌<◌, ◌≤◌, List, [], ◌∷◌, ◌++◌, length, get_or, drop, decimal, sym, ap, ◌∙◌, arith}
use Rattle.std.proofs.lemmas.List.{drop_more, drop_all}
use Rattle.step.specs.declared.interaction.Hierarchy.{Hierarchy}
use Rattle.step.specs.declared.interaction.Hierarchy.TheVariants.{Atomic, Begin, End}
use Rattle.step.specs.declared.interaction.Interaction.{Interaction}
use Rattle.render.specs.Rendering.{line, lines, level, depth_after}

pub level_le : (h : Hierarchy) (depth : ℕ) → level h depth ≤ depth
level_le Atomic depth = omega arith
level_le Begin depth = omega arith
level_le End depth = omega arith

pub after_le : (h : Hierarchy) (at : ℕ) → depth_after h at ≤ at + 1
after_le Atomic at = omega arith
after_le Begin at = omega arith
after_le End at = omega arith

pub lines_step : (w p d l e : ℕ) (ss : List Interaction) (s : Interaction) → p < length ss → s ≡ get_or ss p s → l ≡ level s.hierarchy d → e ≡ depth_after s.hierarchy l → lines w p d (drop p ss) ≡ line w p l s ++ lines w (p + 1) e (drop (p + 1) ss)
lines_step w p d l e ss s lt is el ee =
    let rest = drop (p + 1) ss in
    let deep = ap (depth_after s.hierarchy) (sym el) ∙ sym ee in
    ap (lines w p d) (drop_more ss p s lt ∙ ap (λ x. x ∷ rest) (sym is)) ∙ (λ i. line w p (sym el i) s ++ lines w (p + 1) (deep i) rest)

pub lines_none : (w p d : ℕ) (ss : List Interaction) → length ss ≤ p → lines w p d (drop p ss) ≡ []
lines_none w p d ss h = ap (lines w p d) (drop_all p ss h)

pub lines_wide : (w k n : ℕ) (ss : List Interaction) → w ≡ length (decimal k) → k ≡ n → lines w 0 0 ss ≡ lines (length (decimal n)) 0 0 ss
lines_wide w k n ss e same = ap (λ v. lines v 0 0 ss) (e ∙ ap (λ j. length (decimal j)) same)
