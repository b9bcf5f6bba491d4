use Rattle.std.proofs.Common.{◌≤◌, sym, ap, ◌∙◌, arith}
use Rattle.driver.specs.Cores.{core_of}
use Rattle.ends.proofs.Lifting.{challenged_stops}
use Rattle.player.specs.Plays.{asked}
use Rattle.driver.proofs.driver.Driver.challenge_scalar.Goals as goal

pub returns-in_err-interact-clause-after : goal.returns-in_err-interact-clause-after
returns-in_err-interact-clause-after g c =
    let e = core_of g.C.CanObserve.means c.args.self.now in
    let h = c.in_err-interact.ensures in
    let strong : 128 ≤ g.K.Codec.coding.wire.bits = omega arith in
    let t = challenged_stops g.C.CanObserve.sponge c.args.label g.K.Codec.coding.wire e strong c.in_err-interact.field-0.0 (sym (h.answer ∙ ap (asked e.play) c.codec_step.ensures)) in
    ap (λ x. record { play = x; state = e.state }) h.play ∙ sym (ap (λ o. o.left) t)
