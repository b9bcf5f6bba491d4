-- A hasher that takes in one part more.
-- Assumes nothing.
use Rattle.std.proofs.Common.{◌≡◌, ℕ, ◌+◌, ◌-◌, ◌<◌, ◌≤◌, List, [], ◌∷◌, ◌++◌, length, take, drop, set, replicate, sym, ap, ◌∙◌, ap₂, arith}
use borrow.Rule.Slice.PartMut.{put_mid}
use Rattle.std.proofs.lemmas.List.{length-append, length-drop, length-take-le, length-set, append_assoc, append-nil, take_at, drop_at, drop_all, take_all, take_more_set}
use Rattle.std.proofs.lemmas.Slice.{take-put_mid}
use Rattle.keccak_f.specs.Permutation.{keccak_f}
use Rattle.keccak.specs.Sponge.{mixed}
use Rattle.keccak.specs.Blocks.{View, fed}
use Rattle.keccak.specs.Hasher.{fresh, absorb_into}
use Rattle.keccak.proofs.Blocks.{fed_none, fed_more, fed_parts}

-- what was taken in before comes first
pub absorbed_more : (v w : View) (bs m : List ℕ) → w ≡ absorb_into v bs → v ≡ absorb_into fresh m → w ≡ absorb_into fresh (m ++ bs)
absorbed_more v w bs m e h = e ∙ ap (λ u. absorb_into u bs) h ∙ fed_parts (replicate 25 0) m bs

-- a whole block at the front goes in
fed_block : (a block rest : List ℕ) → length block ≡ 136 → fed (keccak_f (mixed a block)) rest ≡ fed a (block ++ rest)
fed_block a block rest n =
    sym (fed_more a (block ++ rest) (simp length-append (omega arith))
    ∙ ap₂ (λ b zs. fed (keccak_f (mixed a b)) zs) (take_at block rest 136 n) (drop_at block rest 136 n))

-- the part does not fill the block
pub part_fits : (a block part : List ℕ) (n : ℕ) → n ≤ length block → n + length part < 136 → (is : List ℕ) → is ≡ part
    → record { state = a; begun = take (n + length part) (put_mid n (n + length part - n) block is) } ≡ fed a (take n block ++ part)
part_fits a block part n h short is e =
    let long : length (take n block ++ part) < 136 = simp length-append (omega (arith, length-take-le n block h)) in
    let is-long : n + length part ≡ n + length is = ap (λ l. n + length l) (sym e) in
    let t : take (n + length part) (put_mid n (n + length part - n) block is) ≡ take n block ++ part =
    take-put_mid n (n + length part - n) block is (n + length part) is-long h ∙ ap (λ l. take n block ++ l) e in
    ap (λ l. record { state = a; begun = l }) t ∙ sym (fed_none a (take n block ++ part) long)

-- a block that is filled up to its end
filled_up : (block is : List ℕ) (n : ℕ) → length block ≡ 136 → put_mid n (136 - n) block is ≡ take n block ++ is
filled_up block is n long =
    ap (λ l. take n block ++ (is ++ l)) (drop_all (136 - n) (drop n block) (simp length-drop (omega arith)))
    ∙ ap (λ l. take n block ++ l) (append-nil is)

-- the front of the part fills the block
pub part_fills : (a block front back : List ℕ) (n : ℕ) → n < 136 → length block ≡ 136 → length front ≡ 136 - n
    → (is : List ℕ) → is ≡ front
    → fed (keccak_f (mixed a (put_mid n (136 - n) block is))) back ≡ fed a (take n block ++ (front ++ back))
part_fills a block front back n h long short is e =
    let filled = take n block ++ front in
    let f : put_mid n (136 - n) block is ≡ filled = filled_up block is n long ∙ ap (λ l. take n block ++ l) e in
    let whole : length filled ≡ 136 = simp length-append (omega (arith, length-take-le n block (omega arith))) in
    ap (λ b. fed (keccak_f (mixed a b)) back) f ∙ fed_block a filled back whole ∙ ap (λ l. fed a l) (append_assoc (take n block) front back)

pub byte_fits : (a block : List ℕ) (n byte : ℕ) → n < 135 → length block ≡ 136
    → record { state = a; begun = take (n + 1) (set block n byte) } ≡ fed a (take n block ++ byte ∷ [])
byte_fits a block n byte h long =
    let short : length (take n block ++ byte ∷ []) < 136 = simp length-append (omega (arith, length-take-le n block (omega arith))) in
    ap (λ l. record { state = a; begun = l }) (take_more_set block n byte (omega arith)) ∙ sym (fed_none a (take n block ++ byte ∷ []) short)

pub byte_fills : (a block : List ℕ) (n byte : ℕ) → n ≡ 135 → length block ≡ 136
    → record { state = keccak_f (mixed a (set block n byte)); begun = [] } ≡ fed a (take n block ++ byte ∷ [])
byte_fills a block n byte h long =
    let filled = take n block ++ byte ∷ [] in
    let f : set block n byte ≡ filled =
    sym (take_all (n + 1) (set block n byte) (simp length-set (omega arith))) ∙ take_more_set block n byte (omega arith) in
    let whole : length filled ≡ 136 = simp length-append (omega (arith, length-take-le n block (omega arith))) in
    ap (λ b. record { state = keccak_f (mixed a b); begun = [] }) f
    ∙ sym (fed_none (keccak_f (mixed a filled)) [] (omega arith)) ∙ fed_block a filled [] whole ∙ ap (λ l. fed a l) (append-nil filled)
