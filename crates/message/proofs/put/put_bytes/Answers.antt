use Rattle.std.proofs.Common.{◌≡◌, ◌+◌, ◌++◌, length, Ok, sym, ap, ◌∙◌, arith, leb-false, leb-true}
use Rattle.challenger.specs.Sponge.{absorbed}
use Rattle.message.proofs.Putting.{puts, full, wrote_more}
use Rattle.message.specs.Payloads.{wrote}
use Rattle.std.proofs.lemmas.List.{length-append}
use Rattle.message.proofs.put.put_bytes.Goals as goal

pub returns-then-not-has_room : goal.returns-then-not-has_room
returns-then-not-has_room g c =
    let size = length-append c.args.prefix.now c.args.bytes.now in
    let h = leb-false _ _ (sym c.has_room.ensures ∙ c.if-not-has_room.true) in
    let t = full (c.args.prefix.now ++ c.args.bytes.now) c.args.out.now c.args.filled (g.C.CanObserve.means c.args.challenger.now) (absorbed g.C.CanObserve.sponge (g.U.Unit.items c.args.bytes.now) (absorbed g.C.CanObserve.sponge (g.U.Unit.items c.args.prefix.now) (g.C.CanObserve.means c.args.challenger.now))) (omega arith) in
    sym t

pub returns : goal.returns
returns g c =
    let xs = c.args.prefix.now in
    let ys = c.args.bytes.now in
    let size = length-append xs ys in
    let h = leb-true _ _ (sym c.has_room.ensures ∙ c.if-not-has_room.false) in
    let t = puts (xs ++ ys) c.args.out.now c.args.filled (g.C.CanObserve.means c.args.challenger.now) (absorbed g.C.CanObserve.sponge (g.U.Unit.items ys) (absorbed g.C.CanObserve.sponge (g.U.Unit.items xs) (g.C.CanObserve.means c.args.challenger.now))) (omega arith) in
    let total : (c.args.filled + length xs) + length ys ≡ c.args.filled + length (xs ++ ys) = omega arith in
    let buffer = c.write-2.ensures ∙ ap (λ l. wrote l (c.args.filled + length xs) ys) c.write.ensures ∙ wrote_more c.args.out.now c.args.filled xs ys (omega arith) in
    let state = c.observe_bytes-2.ensures ∙ ap (absorbed g.C.CanObserve.sponge (g.U.Unit.items ys)) c.observe_bytes.ensures in
    (λ i. record { answer = Ok (total i); buffer = buffer i; state = state i }) ∙ sym t
