-- A digest is four words of eight bytes each, and each byte is a remainder by 256.
use Rattle.std.proofs.Common.{◌≡◌, ℕ, ◌%◌, ◌<◌, List, [], ◌++◌, length, get_or, refl, arith}
use Rattle.digits.specs.Digits.{Bytes}
use Rattle.keccak.specs.Sponge.{sponge_256, squeezed, split}

low : (n : ℕ) → n % 256 < 256
low n = omega arith

split_more : (w : ℕ) (bs : List ℕ) → Bytes bs → Bytes (split w ++ bs)
split_more w bs t = (low _, (low _, (low _, (low _, (low _, (low _, (low _, (low _, t))))))))

squeezed_bytes : (a : List ℕ) → Bytes (squeezed a)
unfolding squeezed
squeezed_bytes a =
    let last = split (get_or a 3 0) in
    let two = split (get_or a 2 0) ++ last in
    let three = split (get_or a 1 0) ++ two in
    split_more (get_or a 0 0) three (split_more (get_or a 1 0) two (split_more (get_or a 2 0) last (split_more (get_or a 3 0) [] tt)))

length_squeezed : (a : List ℕ) → length (squeezed a) ≡ 32
unfolding squeezed
length_squeezed a = refl

pub digest_bytes : (first : ℕ) (m : List ℕ) → Bytes (sponge_256 first m)
unfolding sponge_256
digest_bytes first m = squeezed_bytes _

pub digest_length : (first : ℕ) (m : List ℕ) → length (sponge_256 first m) ≡ 32
unfolding sponge_256
digest_length first m = length_squeezed _
