use Rattle.std.proofs.Common.{sym, refl, ap, ◌∙◌}
use Rattle.driver.specs.Cores.{core_of}
use Rattle.ends.proofs.Lifting.{marked_so}
use Rattle.ends.specs.Calls.{begin}
use Rattle.step.specs.declared.interaction.Hierarchy.TheVariants.{Begin}
use Rattle.step.specs.Steps.{marker_step}
use Rattle.player.specs.Plays.{asked}
use Rattle.driver.proofs.driver.Driver.begin.Goals as goal

pub returns-clause-after : goal.returns-clause-after
returns-clause-after g c =
    let e = core_of g.C.CanObserve.means c.args.self.now in
    let t = marked_so (begin c.args.kind c.args.label c.args.type_name) (marker_step Begin c.args.kind c.args.label c.args.type_name) refl e c.interact.result (c.interact.ensures.answer ∙ ap (asked e.play) c.marker.ensures) in
    ap (λ p. record { play = p; state = e.state }) c.interact.ensures.play ∙ sym (ap (λ o. o.left) t)
