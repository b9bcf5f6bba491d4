use Rattle.std.proofs.Common.{ap, ◌∙◌}
use Rattle.player.specs.Plays.{play_of, taken, advanced}
use Rattle.player.proofs.Playing.{accepted_taken}
use Rattle.player.proofs.player.stepping.PatternPlayerPattern.interact.Goals as goal

pub returns-clause-after : goal.returns-clause-after
returns-clause-after c =
    let asks = c.in_ok-expect.ensures in
    ap taken (c.advance.ensures ∙ ap advanced asks.after) ∙ accepted_taken (play_of c.args.self.now) c.args.interaction asks.answer
