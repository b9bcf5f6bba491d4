-- Steps that are all taken, with every scope closed at the end, nest, and are at most 64.
use Rattle.std.proofs.Common.{◌≡◌, ℕ, ◌+◌, ◌≤◌, Bool, true, false, cond, List, [], ◌∷◌, ◌++◌, length, is_ok, Some, None, Ok, Err, sym, refl, ap, ◌∙◌, subst, arith}
use Rattle.std.proofs.lemmas.List.{append_assoc}
use Rattle.step.specs.declared.interaction.Hierarchy.{Hierarchy}
use Rattle.step.specs.declared.interaction.Hierarchy.TheVariants.{Atomic, Begin, End}
use Rattle.step.specs.declared.interaction.Interaction.{Interaction}
use Rattle.error.specs.declared.TranscriptError.{TranscriptError}
use Rattle.error.specs.declared.TranscriptError.TheVariants.{MismatchedBeginEnd, InvalidKind}
use Rattle.step.specs.Steps.{admits, closes}
use Rattle.pattern.specs.Nests.{Allowed, Nests, empty, leaf, scope, closer}
use Rattle.pattern.specs.Patterns.{Within}
use Rattle.pattern.specs.Rows.{then}
use Rattle.pattern.specs.Walk.{Open, nested, closed, structure, met, ended, checked, runs, opens, step_at}
use Rattle.pattern.proofs.Agreeing.{admits_allowed, closes_closer}
use Rattle.pattern.proofs.Complete.{stack, innermost, stack_kept, stack_push, length_push}
use Rattle.pattern.proofs.Nesting.{met_free}
use Rattle.pattern.proofs.Opening.{runs_more, runs_none, checked_opens, cond_ok, nested_ok, placed_ok, met_within}
use Rattle.pattern.proofs.Stacks.{clash}

-- ---- what may follow while scopes are open

-- the rest of the innermost scope, its closer, and what comes after
record Scoped (opener : Interaction) (After : List Interaction → Type 0) (ss : List Interaction) : Type 0 where
  inner : List Interaction
  rest : List Interaction
  joined : ss ≡ inner ++ closer opener ∷ rest
  nests : Nests (Some opener) inner
  after : After rest

abbrev Follows : List Interaction → List Interaction → Type 0
Follows [] ss = Nests None ss
Follows (b ∷ bs) ss = Scoped b (Follows bs) ss

follows_leaf : (bs : List Interaction) (s : Interaction) (ss : List Interaction) → s.hierarchy ≡ Atomic → Allowed (innermost bs) s → Follows bs ss → Follows bs (s ∷ ss)
follows_leaf [] s ss h a f = leaf h a f
follows_leaf (b ∷ bs) s ss h a f =
    record { inner = s ∷ f.inner; rest = f.rest; joined = ap (λ l. s ∷ l) f.joined; nests = leaf h a f.nests; after = f.after }

follows_opener : (bs : List Interaction) (s : Interaction) (ss : List Interaction) → s.hierarchy ≡ Begin → Allowed (innermost bs) s → Follows (s ∷ bs) ss → Follows bs (s ∷ ss)
follows_opener [] s ss h a f = subst (λ l. Nests None (s ∷ l)) (sym f.joined) (scope h a f.nests f.after)
follows_opener (b ∷ bs) s ss h a f =
    let g = f.after in
    record {
      inner = s ∷ f.inner ++ closer s ∷ g.inner;
      rest = g.rest;
      joined = ap (λ l. s ∷ l) (f.joined ∙ ap (λ l. f.inner ++ closer s ∷ l) g.joined ∙ sym (append_assoc f.inner (closer s ∷ g.inner) (closer b ∷ g.rest)));
      nests = scope h a f.nests g.nests;
      after = g.after;
    }

follows_closer : (b : Interaction) (bs : List Interaction) (s : Interaction) (ss : List Interaction) → closes s b ≡ true → Follows bs ss → Follows (b ∷ bs) (s ∷ ss)
follows_closer b bs s ss c f = record { inner = []; rest = ss; joined = ap (λ x. x ∷ ss) (closes_closer b s c); nests = empty; after = f }

-- ---- what a step that is taken says

cond_true : (v : Bool) (go o : List ℕ) (e : TranscriptError) → cond v (Ok go) (Err e) ≡ Ok o → v ≡ true
cond_true true go o e h = refl
cond_true false go o e h = clash cc

nested_says : (before : List Interaction) (bs : List ℕ) (s : Interaction) (go o : List ℕ) → nested before bs s go ≡ Ok o → Allowed (innermost (stack before bs)) s
nested_says before [] s go o e = tt
nested_says before (b ∷ bs) s go o e = admits_allowed (step_at before b) s (cond_true (admits (step_at before b) s) go o (InvalidKind b (length before)) e)

module _ (before : List Interaction) (s : Interaction) (ss : List Interaction) where
  abbrev Onwards : List ℕ → Type 0
  Onwards o = Follows (stack (before ++ s ∷ []) o) ss

  closed_follows : (bs o : List ℕ) → Within (length before) bs → closed before bs s ≡ Ok o → Onwards o → Follows (stack before bs) (s ∷ ss)
  closed_follows [] o w e f = clash cc
  closed_follows (b ∷ bs) o w e f =
      let same : bs ≡ o = cond_ok (closes s (step_at before b)) bs o (MismatchedBeginEnd b (length before)) e in
      let on : Follows (stack (before ++ s ∷ []) bs) ss = subst Onwards (sym same) f in
      follows_closer (step_at before b) (stack before bs) s ss (cond_true (closes s (step_at before b)) bs o (MismatchedBeginEnd b (length before)) e)
      (subst (λ l. Follows l ss) (stack_kept before (s ∷ []) bs w.low.1) on)

  structure_follows : (bs o : List ℕ) (h : Hierarchy) → s.hierarchy ≡ h → Within (length before) bs → structure before bs s h ≡ Ok o → Onwards o → Follows (stack before bs) (s ∷ ss)
  structure_follows bs o Atomic h w e f =
      let on : Follows (stack (before ++ s ∷ []) bs) ss = subst Onwards (sym (nested_ok before bs s bs o e)) f in
      follows_leaf (stack before bs) s ss h (nested_says before bs s bs o e) (subst (λ l. Follows l ss) (stack_kept before (s ∷ []) bs w.low) on)
  structure_follows bs o Begin h w e f =
      let on : Follows (stack (before ++ s ∷ []) (length before ∷ bs)) ss = subst Onwards (sym (nested_ok before bs s (length before ∷ bs) o e)) f in
      follows_opener (stack before bs) s ss h (nested_says before bs s (length before ∷ bs) o e) (subst (λ l. Follows l ss) (stack_push before s bs w.low) on)
  structure_follows bs o End h w e f = closed_follows bs o w e f

  met_follows : (bs o : List ℕ) → Within (length before) bs → met before bs s ≡ Ok o → Onwards o → Follows (stack before bs) (s ∷ ss)
  unfolding met
  met_follows bs o w e f = structure_follows bs o s.hierarchy refl w (placed_ok (length before) (structure before bs s s.hierarchy) o e) f

-- ---- whole sequences

abbrev Goes : List Interaction → Type 0
Goes ss = (before : List Interaction) (bs : List ℕ) → Within (length before) bs → runs before bs ss ≡ Ok [] → Follows (stack before bs) ss

goes_none : (before : List Interaction) (bs : List ℕ) → ◌≡◌ {A = Open} (Ok bs) (Ok []) → Follows (stack before bs) []
goes_none before [] e = empty
goes_none before (b ∷ bs) e = clash cc

module _ (before : List Interaction) (s : Interaction) (ss : List Interaction) (bs : List ℕ) where
  goes_by : (m : Open) → met before bs s ≡ m → Goes ss → Within (length before) bs → then m (λ o. runs (before ++ s ∷ []) o ss) ≡ Ok [] → Follows (stack before bs) (s ∷ ss)
  goes_by (Err x) e go w h = clash cc
  goes_by (Ok o) e go w h = met_follows before s ss bs o w e (go (before ++ s ∷ []) o (met_within before bs s o w e) h)

  few_by : (m : Open) (o : List ℕ) → met before bs s ≡ m → ((q : List ℕ) → runs (before ++ s ∷ []) q ss ≡ Ok o → length (before ++ s ∷ []) ≤ 64 → length (before ++ s ∷ []) + length ss ≤ 64)
      → then m (λ q. runs (before ++ s ∷ []) q ss) ≡ Ok o → length before + (length ss + 1) ≤ 64
  few_by (Err x) o e go h = clash cc
  few_by (Ok q) o e go h =
      let free = met_free before bs s q (sym e) in
      let long = length_push before s in
      let all = go q h (omega arith) in
      omega arith

goes : (ss : List Interaction) → Goes ss
goes [] before bs w e = goes_none before bs (sym (runs_none before bs) ∙ e)
goes (s ∷ ss) before bs w e = goes_by before s ss bs (met before bs s) refl (goes ss) w (sym (runs_more before bs s ss) ∙ e)

few : (ss before : List Interaction) (bs o : List ℕ) → runs before bs ss ≡ Ok o → length before ≤ 64 → length before + length ss ≤ 64
few [] before bs o e le = omega arith
few (s ∷ ss) before bs o e le =
    let all = few_by before s ss bs (met before bs s) o refl (λ q. few ss (before ++ s ∷ []) q o) (sym (runs_more before bs s ss) ∙ e) in
    omega arith

ended_closed : (ss : List Interaction) (m : Open) → is_ok (then m (λ o. ended ss o)) ≡ true → m ≡ Ok []
ended_closed ss (Err x) e = clash (let z : false ≡ true = e in cc)
ended_closed ss (Ok []) e = refl
ended_closed ss (Ok (b ∷ bs)) e = clash (let z : false ≡ true = e in cc)

module _ (ss : List Interaction) (ok : is_ok (checked ss) ≡ true) where
  all_taken : opens ss ≡ Ok []
  all_taken = ended_closed ss (opens ss) (sym (ap is_ok (checked_opens ss)) ∙ ok)

  pub sound : Nests None ss
  sound = goes ss [] [] (record { low = tt; few = omega arith }) all_taken

  pub at_most : length ss ≤ 64
  at_most = let n = few ss [] [] [] all_taken (omega arith) in omega arith
