use Rattle.std.proofs.Common.{◌≡◌, length, is_ok, Ok, sym, ap, ◌∙◌, subst}
use Rattle.pattern.specs.declared.draft.Draft.{Draft}
use Rattle.pattern.specs.Listed.{listed}
use Rattle.pattern.specs.Patterns.{Within}
use Rattle.pattern.specs.Stack.{open_of}
use Rattle.pattern.specs.Walk.{met, opens, openers}
use Rattle.pattern.proofs.Drafting.{pushed}
use Rattle.pattern.proofs.Opening.{opened, opens_within}
use Rattle.pattern.proofs.draft.Draft.add.Goals as goal

so : (d : Draft) → opens (listed d.steps) ≡ Ok (open_of d.scopes)
so d = opened (opens (listed d.steps)) (open_of d.scopes) d.nested d.scoped

pub nest-requires : goal.nest-requires
nest-requires c =
    let d = c.args.self.now in
    subst (λ l. Within (length l) (open_of d.scopes)) (sym c.as_slice.ensures) (opens_within (listed d.steps) (open_of d.scopes) (so d))

pub invariant_of-self : goal.invariant_of-self
invariant_of-self c =
    let d = c.args.self.now in
    let s = c.args.interaction in
    let o = c.in_ok-scopes.scopes in
    let taken = c.in_ok-scopes.ensures.value ∙ ap (λ l. met l (open_of d.scopes) s) c.as_slice.ensures in
    let e = ap opens c.push.ensures ∙ pushed (listed d.steps) (open_of d.scopes) (so d) s (open_of o) taken in
    record { nested = ap is_ok e; scoped = ap openers e }
