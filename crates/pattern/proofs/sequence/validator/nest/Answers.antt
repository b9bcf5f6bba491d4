use Rattle.std.proofs.Common.{arith}
use Rattle.pattern.specs.Stack.{open_of}
use Rattle.pattern.proofs.Nesting.{place_free}
use Rattle.pattern.proofs.Stacks.{held_length}
use Rattle.pattern.proofs.sequence.validator.nest.Goals as goal

pub push-requires : goal.push-requires
push-requires c =
    let scopes = c.args.scopes in
    let free = place_free _ (open_of scopes) (c.in_ok-check_place-in-Begin.ensures (open_of scopes)) in
    omega (arith, c.requires.few, held_length scopes.at scopes.depth, free)
