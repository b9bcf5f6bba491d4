-- Whatever was taken in, its digest is that of the state and the bytes that wait.
use Rattle.std.proofs.Common.{◌≡◌, sym, ap, ◌∙◌, rules}
use Rattle.keccak.specs.Hasher.{view, digest_of}
use Rattle.keccak.proofs.Blocks.{sponge_is}
use Rattle.keccak.proofs.hasher.Keccak256.digest.Goals as goal

pub returns-clause-hash : goal.returns-clause-hash
returns-clause-hash c =
    let e : c.close.result ≡ digest_of (view c.args.self) = search rules in
    λ m h. e ∙ ap digest_of h ∙ sym (sponge_is 0x01 m)
