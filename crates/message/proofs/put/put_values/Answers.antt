use Rattle.std.proofs.Common.{◌≡◌, ◌+◌, ◌*◌, ◌++◌, map, length, Ok, sym, ap, ◌∙◌, ap₂, arith, leb-false, leb-true}
use Rattle.challenger.specs.Sponge.{absorbed}
use Rattle.message.proofs.Putting.{puts, full, wrote_more}
use Rattle.message.proofs.Writing.{joined_wide, joined_map}
use Rattle.message.specs.Payloads.{wrote, taken_in}
use Rattle.std.specs.List.{flat_map}
use Rattle.std.proofs.lemmas.List.{length-append}
use Rattle.message.proofs.put.put_values.Goals as goal

pub returns-then-not-has_room : goal.returns-then-not-has_room
returns-then-not-has_room g c =
    let xs = c.args.prefix.now in
    let vs = c.args.values.now in
    let ys = flat_map g.K.Codec.code vs in
    let size = length-append xs ys in
    let each = joined_wide g.K.Codec.code g.K.Codec.coding.wire.wide (λ v. (g.met.K.Codec.codes v).long) vs in
    let wide = ap (λ w. length vs * w) c.wire_len-wide.ensures in
    let h = leb-false _ _ (sym c.has_room.ensures ∙ c.if-not-has_room.true) in
    let t = full (xs ++ ys) c.args.out.now c.args.filled (g.C.CanObserve.means c.args.challenger.now) (taken_in g.C.CanObserve.sponge g.U.Unit.items g.K.Codec.coding xs (map g.K.Codec.code vs) (g.C.CanObserve.means c.args.challenger.now)) (omega arith) in
    sym t

pub returns : goal.returns
returns g c =
    let xs = c.args.prefix.now in
    let vs = c.args.values.now in
    let ys = flat_map g.K.Codec.code vs in
    let size = length-append xs ys in
    let each = joined_wide g.K.Codec.code g.K.Codec.coding.wire.wide (λ v. (g.met.K.Codec.codes v).long) vs in
    let wide = ap (λ w. length vs * w) c.wire_len-wide.ensures in
    let h = leb-true _ _ (sym c.has_room.ensures ∙ c.if-not-has_room.false) in
    let t = puts (xs ++ ys) c.args.out.now c.args.filled (g.C.CanObserve.means c.args.challenger.now) (taken_in g.C.CanObserve.sponge g.U.Unit.items g.K.Codec.coding xs (map g.K.Codec.code vs) (g.C.CanObserve.means c.args.challenger.now)) (omega arith) in
    let total : (c.args.filled + length xs) + length vs * c.wire_len-wide.result ≡ c.args.filled + length (xs ++ ys) = omega arith in
    let buffer = c.write_values.ensures.buffer ∙ ap (λ l. wrote l (c.args.filled + length xs) ys) c.write.ensures ∙ wrote_more c.args.out.now c.args.filled xs ys (omega arith) in
    let state = c.write_values.ensures.state ∙ ap₂ (absorbed g.C.CanObserve.sponge) (joined_map g.K.Codec.coding.items g.K.Codec.code vs) c.observe_bytes.ensures in
    (λ i. record { answer = Ok (total i); buffer = buffer i; state = state i }) ∙ sym t
