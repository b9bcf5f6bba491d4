-- Steps that nest, and for which there are places, are all taken, and leave open what was open.
use Rattle.std.proofs.Common.{◌≡◌, ℕ, ◌+◌, ◌<◌, ◌≤◌, true, cond, List, [], ◌∷◌, ◌++◌, length, Some, None, Ok, Err, Option, sym, refl, ap, ◌∙◌, subst, arith, length-append, lt-ltb}
use Rattle.std.proofs.lemmas.List.{get_or_append_left, get_or_push}
use Rattle.step.specs.declared.interaction.Hierarchy.TheVariants.{Atomic, Begin, End}
use Rattle.step.specs.declared.interaction.Interaction.{Interaction}
use Rattle.error.specs.declared.TranscriptError.TheVariants.{MismatchedBeginEnd, InvalidKind, PatternFull}
use Rattle.step.specs.Steps.{closes}
use Rattle.pattern.specs.Nests.{Allowed, Nests, empty, leaf, scope, closer}
use Rattle.pattern.specs.Patterns.{Low}
use Rattle.pattern.specs.Rows.{then}
use Rattle.pattern.specs.Walk.{nested, placed, met, ended, checked, runs, step_at, no_step}
use Rattle.pattern.proofs.Agreeing.{allowed_admits, closer_closes}
use Rattle.pattern.proofs.Nesting.{passed}
use Rattle.pattern.proofs.Opening.{runs_more, runs_none, runs_append, checked_opens}
use Rattle.pattern.proofs.Stacks.{low_more}

-- the open openers as steps, innermost first
abbrev pub stack : List Interaction → List ℕ → List Interaction
stack before [] = []
stack before (b ∷ bs) = step_at before b ∷ stack before bs

abbrev pub innermost : List Interaction → Option Interaction
innermost [] = None
innermost (b ∷ bs) = Some b

-- steps that come later change no opener
pub stack_kept : (before ts : List Interaction) (bs : List ℕ) → Low (length before) bs → stack (before ++ ts) bs ≡ stack before bs
stack_kept before ts [] low = refl
stack_kept before ts (b ∷ bs) low =
    let one : step_at (before ++ ts) b ≡ step_at before b = get_or_append_left before ts no_step b low.0 in
    let more = stack_kept before ts bs low.1 in
    (λ i. one i ∷ more i)

pub stack_push : (before : List Interaction) (s : Interaction) (bs : List ℕ) → Low (length before) bs → stack (before ++ s ∷ []) (length before ∷ bs) ≡ s ∷ stack before bs
stack_push before s bs low =
    let one : step_at (before ++ s ∷ []) (length before) ≡ s = get_or_push before s no_step (length before) refl in
    let more = stack_kept before (s ∷ []) bs low in
    (λ i. one i ∷ more i)

pub length_push : (before : List Interaction) (s : Interaction) → length (before ++ s ∷ []) ≡ length before + 1
length_push before s = length-append before (s ∷ [])

nested_allowed : (before : List Interaction) (bs : List ℕ) (s : Interaction) (o : List ℕ) → Allowed (innermost (stack before bs)) s → Ok o ≡ nested before bs s o
nested_allowed before [] s o a = refl
nested_allowed before (b ∷ bs) s o a = sym (ap (λ v. cond v (Ok o) (Err (InvalidKind b (length before)))) (allowed_admits (step_at before b) s a))

place : (n : ℕ) (o : List ℕ) → n < 64 → Ok o ≡ placed n (Ok o)
place n o lt = sym (ap (λ v. cond v (Ok o) (Err PatternFull)) (lt-ltb n 64 lt))

module _ (before : List Interaction) (bs : List ℕ) (s : Interaction) (free : length before < 64) where
  met_leaf : s.hierarchy ≡ Atomic → Allowed (innermost (stack before bs)) s → met before bs s ≡ Ok bs
  met_leaf h a = passed before bs s Atomic h bs (Ok bs) (nested_allowed before bs s bs a) (place (length before) bs free)

  met_opener : s.hierarchy ≡ Begin → Allowed (innermost (stack before bs)) s → met before bs s ≡ Ok (length before ∷ bs)
  met_opener h a = passed before bs s Begin h (length before ∷ bs) (Ok (length before ∷ bs)) (nested_allowed before bs s (length before ∷ bs) a) (place (length before) (length before ∷ bs) free)

  met_closer : (b : ℕ) → s.hierarchy ≡ End → closes s (step_at before b) ≡ true → met before (b ∷ bs) s ≡ Ok bs
  met_closer b h c =
      passed before (b ∷ bs) s End h bs (Ok bs) (sym (ap (λ v. cond v (Ok bs) (Err (MismatchedBeginEnd b (length before)))) c)) (place (length before) bs free)

low_push : (before : List Interaction) (s : Interaction) (bs : List ℕ) → Low (length before) bs → Low (length (before ++ s ∷ [])) bs
low_push before s bs low = let long = length_push before s in low_more (length before) (length (before ++ s ∷ [])) bs (omega arith) low

-- one step is taken, and then the others
taken : (before : List Interaction) (bs : List ℕ) (s : Interaction) (ss : List Interaction) (o : List ℕ) → met before bs s ≡ Ok o → runs before bs (s ∷ ss) ≡ runs (before ++ s ∷ []) o ss
taken before bs s ss o m = runs_more before bs s ss ∙ ap (λ r. then r (λ q. runs (before ++ s ∷ []) q ss)) m

-- the steps are all taken wherever `p` is the innermost opener and there are places
abbrev Takes : Option Interaction → List Interaction → Type 0
Takes p ss = (before : List Interaction) (bs : List ℕ) → innermost (stack before bs) ≡ p → Low (length before) bs → length before + length ss ≤ 64 → runs before bs ss ≡ Ok bs

takes_leaf : (p : Option Interaction) (s : Interaction) (ss : List Interaction) → s.hierarchy ≡ Atomic → Allowed p s → Takes p ss → Takes p (s ∷ ss)
takes_leaf p s ss h a go before bs is low fits =
    let long = length_push before s in
    taken before bs s ss bs (met_leaf before bs s (omega arith) h (subst (λ q. Allowed q s) (sym is) a))
    ∙ go (before ++ s ∷ []) bs (ap innermost (stack_kept before (s ∷ []) bs low) ∙ is) (low_push before s bs low) (omega arith)

module _ (p : Option Interaction) (b : Interaction) (inner ss : List Interaction) (h : b.hierarchy ≡ Begin) (a : Allowed p b) (in' : Takes (Some b) inner) (go : Takes p ss) where
  takes_scope : Takes p (b ∷ inner ++ closer b ∷ ss)
  takes_scope before bs is low fits =
      let k = length before in
      let e = closer b in
      let first = before ++ b ∷ [] in
      let most = first ++ inner in
      let all = most ++ e ∷ [] in
      let long = length_push before b in
      let longer : length most ≡ length first + length inner = length-append first inner in
      let longest = length_push most e in
      let whole : length (inner ++ e ∷ ss) ≡ length inner + (length ss + 1) = length-append inner (e ∷ ss) ∙ omega arith in
      let low_first : Low (length first) (k ∷ bs) = (omega arith, low_push before b bs low) in
      let low-most : Low (length most) (k ∷ bs) = low_more (length first) (length most) (k ∷ bs) (omega arith) low_first in
      let is-first : stack first (k ∷ bs) ≡ b ∷ stack before bs = stack_push before b bs low in
      let is-most : stack most (k ∷ bs) ≡ b ∷ stack before bs = stack_kept first inner (k ∷ bs) low_first ∙ is-first in
      let opener : step_at most k ≡ b = cc in
      let is_all : stack all bs ≡ stack before bs = stack_kept most (e ∷ []) bs low-most.1 ∙ stack_kept first inner bs low_first.1 ∙ stack_kept before (b ∷ []) bs low in
      taken before bs b (inner ++ e ∷ ss) (k ∷ bs) (met_opener before bs b (omega arith) h (subst (λ q. Allowed q b) (sym is) a))
      ∙ runs_append first (k ∷ bs) inner (e ∷ ss)
      ∙ ap (λ r. then r (λ o. runs most o (e ∷ ss))) (in' first (k ∷ bs) (ap innermost is-first) low_first (omega arith))
      ∙ taken most (k ∷ bs) e ss bs (met_closer most bs e (omega arith) k refl (ap (closes e) opener ∙ closer_closes b h))
      ∙ go all bs (ap innermost is_all ∙ is) (low_push most e bs low-most.1) (omega arith)

nests_takes : {p : Option Interaction} {ss : List Interaction} → Nests p ss → Takes p ss
nests_takes empty before bs is low fits = runs_none before bs
nests_takes (leaf {within = p} {s = s} {rest = ss} h a n) before bs is low fits = takes_leaf p s ss h a (nests_takes n) before bs is low fits
nests_takes (scope {within = p} {opener = b} {inner = inner} {rest = ss} h a m n) before bs is low fits = takes_scope p b inner ss h a (nests_takes m) (nests_takes n) before bs is low fits

pub complete : (ss : List Interaction) → Nests None ss → length ss ≤ 64 → checked ss ≡ Ok ss
complete ss n few = checked_opens ss ∙ ap (λ m. then m (λ o. ended ss o)) (nests_takes n [] [] refl tt (omega arith))
