use Rattle.std.proofs.Common.{◌≡◌, IfOk, get_or, vec_items, sym, refl, subst, rules, tests, arith}
use Rattle.std.proofs.lemmas.Iterator.{YieldsList-from_range, YieldsList-from_map, items_from_collect}
use Rattle.std.proofs.lemmas.List.FromFn.{fill_by_all}
use Rattle.challenger.specs.Words.{words}
use Rattle.replies.proofs.items.word_items.Goals as goal

pub returns : goal.returns
returns c =
    let ws = words c.args.bytes.now in
    let n = c.word_count.result in
    subst (λ xs. IfOk c.collect.result (λ v. vec_items v ≡ xs))
    (sym (fill_by_all (λ i. get_or ws i 0) ws n 0 (sym c.word_count.ensures) (λ k l. refl)))
    (items_from_collect _ c.collect.ensures.ran
    (YieldsList-from_map _ (λ i. get_or ws i 0) (YieldsList-from_range 0 n n c.map.ensures.source (omega arith)) c.map.ensures.closure (λ x r q k. search (rules, tests))))
