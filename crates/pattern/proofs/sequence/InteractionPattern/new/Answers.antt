use Rattle.std.proofs.Common.{◌≡◌, ℕ, ◌+◌, List, length, take, sym, ap, ◌∙◌, subst, arith}
use Rattle.std.proofs.lemmas.List.{take_all}
use Rattle.std.proofs.lemmas.Result.{err_from_is_err_and}
use Rattle.step.specs.declared.interaction.Interaction.{Interaction}
use Rattle.pattern.specs.Patterns.{Within}
use Rattle.pattern.specs.Listed.{listed}
use Rattle.pattern.specs.Stack.{open_of}
use Rattle.pattern.specs.Walk.{met}
use Rattle.pattern.proofs.Complete.{length_push}
use Rattle.pattern.proofs.Nesting.{met_free}
use Rattle.pattern.proofs.Walking.{Going, not_made, not_nested, nested_more}
use Rattle.pattern.proofs.sequence.InteractionPattern.new.Goals as goal

-- the steps before a position, where there are just so many
so_far : (l before : List Interaction) (p : ℕ) → l ≡ before → length before ≡ p → take p l ≡ before
so_far l before p is long = ap (take p) is ∙ take_all p before (omega (arith, long))

pub returns-in_err-step : goal.returns-in_err-step
returns-in_err-step g c =
    let p = err_from_is_err_and c.from_residual.result c.from_residual.ensures.1 in
    let no' = not_made g.S.Candidate.made c.args.rows.now (listed c.loop-position.steps) _ c.loop-position.position c.loop-position-test.true c.loop-position.invariant.so _ c.index-rows-position.is c.in_err-step.ensures in
    rw (p.1, p.2) (sym no')

pub returns-in_err-scopes : goal.returns-in_err-scopes
returns-in_err-scopes g c =
    let p = err_from_is_err_and c.from_residual-in_err-scopes.result c.from_residual-in_err-scopes.ensures.1 in
    let bs = open_of c.loop-position.scopes in
    let s = c.in_ok-step.step in
    let before = so_far c.as_slice.result.now (listed c.loop-position.steps) c.loop-position.position c.as_slice.ensures c.loop-position.invariant.long in
    let refused = c.in_err-scopes.ensures.value ∙ ap (λ l. met l bs s) before in
    let no' = not_nested g.S.Candidate.made c.args.rows.now (listed c.loop-position.steps) bs c.loop-position.position c.loop-position-test.true c.loop-position.invariant.so _ c.index-rows-position.is s c.in_ok-step.ensures refused in
    rw (p.1, p.2) (sym no')

pub push-requires : goal.push-requires
push-requires g c =
    let bs = open_of c.loop-position.scopes in
    let s = c.in_ok-step.step in
    let before = so_far c.as_slice.result.now (listed c.loop-position.steps) c.loop-position.position c.as_slice.ensures c.loop-position.invariant.long in
    met_free (listed c.loop-position.steps) bs s (open_of c.in_ok-scopes.scopes) (c.in_ok-scopes.ensures.value ∙ ap (λ l. met l bs s) before)

pub loop-position-preserved : goal.loop-position-preserved
loop-position-preserved g c =
    let i = c.loop-position.invariant in
    let before = listed c.loop-position.steps in
    let p = c.loop-position.position in
    let s = c.in_ok-step.step in
    let o = c.in_ok-scopes.scopes in
    let bs = open_of c.loop-position.scopes in
    let same = so_far c.as_slice.result.now before p c.as_slice.ensures i.long in
    let taken = c.in_ok-scopes.ensures.value ∙ ap (λ l. met l bs s) same in
    let on = nested_more g.S.Candidate.made c.args.rows.now before bs p c.loop-position-test.true i.so _ c.index-rows-position.is s (open_of o) c.in_ok-step.ensures taken in
    subst (λ l. Going g.S.Candidate.made c.args.rows.now l (open_of o) (p + 1)) (sym c.push.ensures)
    (record {
      long = length_push before s ∙ ap (λ n. n + 1) i.long;
      within = subst (λ n. Within (n + 1) (open_of o)) (ap length same ∙ i.long) c.in_ok-scopes.ensures.within;
      so = on;
    })
