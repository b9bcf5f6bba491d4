use Rattle.std.proofs.Common.{◌≡◌, ◌-◌, ◌<◌, ◌≤◌, ◌++◌, length, min, take, drop, sym, ap, ◌∙◌, arith}
use Rattle.std.proofs.lemmas.List.{take_rest, take-append-drop, length-take, length-drop, get_or-take}
use Rattle.digits.specs.Digits.{number}
use Rattle.challenger.specs.Sponge.{absorbed}
use Rattle.challenger.specs.Words.{group, words}
use Rattle.challenger.proofs.Chunks.{takes, word_counted, word_full}
use Rattle.challenger.proofs.word_unit.WordUnitUnit.observe_bytes.Goals as goal

pub loop-rest-preserved : goal.loop-rest-preserved
loop-rest-preserved g c =
    let p = g.C.CanObserve.sponge in
    let left = c.loop-rest.rest.now in
    let xs = take 3 left in
    let ys = drop 3 left in
    let whole = take-append-drop 3 left in
    let three : length xs ≡ 3 = simp length-take (omega (arith, c.in-len3-up.len_at_least)) in
    let size : length xs ≡ min 3 (length (xs ++ ys)) = omega (arith, three, ap length whole, c.in-len3-up.len_at_least) in
    let some : 0 < length xs = omega (arith, three) in
    let high = get_or-take 3 left 0 0 (omega arith) in
    let middle = get_or-take 3 left 1 0 (omega arith) in
    let low = get_or-take 3 left 2 0 (omega arith) in
    let word : c.from_be_bytes.result ≡ number (group 3 xs 0) = omega (arith, c.from_be_bytes.ensures, high, middle, low) in
    let before = g.C.CanObserve.means c.loop-rest.challenger in
    let after = g.C.CanObserve.means c.observe.new.self in
    ap (λ l. absorbed p (words l) after) (take_rest left 3) ∙ takes 3 number word_counted word_full xs ys some size p left c.from_be_bytes.result before after (sym whole) word c.observe.ensures ∙ c.loop-rest.invariant
