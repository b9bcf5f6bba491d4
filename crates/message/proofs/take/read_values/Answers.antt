use Rattle.std.proofs.Common.{rules, ◌≡◌, ◌+◌, ◌*◌, ◌<◌, ◌≤◌, ◌++◌, true, false, take, drop, Err, ap, ◌∙◌, arith}
use Rattle.error.specs.declared.TranscriptError.TheVariants.{BadValue}
use Rattle.message.proofs.Values.{partly_more, partly_bad, partly_all, bytes_typed}
use Rattle.std.proofs.lemmas.List.{drop-drop, length-take-le, set-get_or}
use Rattle.message.proofs.take.read_values.Goals as goal

pub returns-in_err-value : goal.returns-in_err-value
returns-in_err-value g c =
    let k = g.K.Codec.coding in
    let l = c.loop-index in
    let i = l.index-counter in
    let bs = c.split_at.result.0.now in
    let here : bs ≡ take k.wire.wide (drop (i * k.wire.wide) c.args.bytes.now) = search rules in
    let few : i < c.args.count = omega (arith, c.loop-index-test.true, length-take-le c.args.count c.args.out.now c.requires.room) in
    let bad : k.wire.decodes bs ≡ false = search rules in
    let says : c.from_residual.result ≡ Err (BadValue i (k.wire.fault bs)) = search rules in
    let q = partly_bad g.C.CanObserve.sponge k g.K.Codec.code g.K.Codec.uncoded c.args.bytes.now c.args.count c.args.out.now (g.C.CanObserve.means c.args.challenger.now) c.requires.room i l.place-items (g.C.CanObserve.means l.challenger) few l.invariant.1 bs here bad in
    record { answer = says ∙ q.answer; stored = ap (λ l. l ++ drop c.args.count c.args.out.now) (set-get_or _ _ _) ∙ q.stored; state = q.state }

pub loop-index-preserved : goal.loop-index-preserved
loop-index-preserved g c =
    let k = g.K.Codec.coding in
    let l = c.loop-index in
    let i = l.index-counter in
    let s = c.args.bytes.now in
    let bs = c.split_at.result.0.now in
    let here : bs ≡ take k.wire.wide (drop (i * k.wire.wide) s) = search rules in
    let few : i < c.args.count = omega (arith, c.loop-index-test.true, length-take-le c.args.count c.args.out.now c.requires.room) in
    let good : k.wire.decodes bs ≡ true = search rules in
    let is : c.in_ok-value.value ≡ g.K.Codec.uncoded bs = search rules in
    let behind : c.split_at.result.1.now ≡ drop k.wire.wide (drop (i * k.wire.wide) s) = search rules in
    let next : i * k.wire.wide + k.wire.wide ≡ (i + 1) * k.wire.wide = omega arith in (
      behind ∙ drop-drop k.wire.wide (i * k.wire.wide) s ∙ ap (λ n. drop n s) next,
      partly_more g.C.CanObserve.sponge k g.K.Codec.code g.K.Codec.uncoded s c.args.count c.args.out.now (g.C.CanObserve.means c.args.challenger.now) c.requires.room i l.place-items (g.C.CanObserve.means l.challenger) few l.invariant.1 bs here c.requires.long (bytes_typed s c.type_inv.bytes) g.met.K.Codec.reads c.in_ok-value.value _ good is c.observe.ensures,
    )

pub returns : goal.returns
returns g c =
    let l = c.loop-index in
    let done : c.args.count ≤ l.index-counter = omega (arith, c.loop-index-test.false, length-take-le c.args.count c.args.out.now c.requires.room) in
    let q = partly_all g.C.CanObserve.sponge g.K.Codec.coding g.K.Codec.code g.K.Codec.uncoded c.args.bytes.now c.args.count c.args.out.now (g.C.CanObserve.means c.args.challenger.now) c.requires.room l.index-counter l.place-items (g.C.CanObserve.means l.challenger) done l.invariant.1 in
    record { answer = q.answer; stored = q.stored; state = q.state }
