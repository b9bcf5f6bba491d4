use Rattle.std.proofs.Common.{◌≡◌, ◌/◌, length, IfOk, vec_items, rules, subst, refl}
use Rattle.scan.proofs.Pairs.{meant_chunks}
use Rattle.scan.proofs.hex.Hex.to_vec.Goals as goal

pub returns : goal.returns
returns c =
    let digits = c.args.self.now.digits.now in
    subst (λ bs. IfOk c.collect.result (λ v. vec_items v ≡ bs)) (meant_chunks (length digits / 2) digits refl) (search rules)
