-- A message taken in block by block: one block more, none left, and a message in two parts.
-- Assumes nothing.
use Rattle.std.proofs.Common.{◌≡◌, ℕ, zero, suc, ◌-◌, ◌*◌, ◌/◌, ◌%◌, ◌<◌, ◌≤◌, List, [], ◌++◌, length, take, drop, replicate, sym, refl, ap, ◌∙◌, ap₂, arith}
use Rattle.std.proofs.lemmas.List.{length-drop, length-append, take-append-le, drop-append-le, drop-drop, take_all}
use Rattle.keccak_f.specs.Permutation.{keccak_f}
use Rattle.keccak.specs.Sponge.{mixed, absorbed, padding, padded, squeezed, sponge_256}
use Rattle.keccak.specs.Blocks.{View, fed, closed}
use Rattle.keccak.proofs.Padding.{length_padding}

-- a view from its two parts
pub view_of : (v : View) (a bs : List ℕ) → a ≡ v.state → bs ≡ v.begun → record { state = a; begun = bs } ≡ v
view_of v a bs e f = λ i. record { state = e i; begun = f i }

-- the state alone, with no block begun
pub begun_none : {a b : List ℕ} → a ≡ b → ◌≡◌ {A = View} (record { state = a; begun = [] }) (record { state = b; begun = [] })
begun_none e = λ i. record { state = e i; begun = [] }

-- the state a after the block at the front of bs
abbrev pub after : List ℕ → List ℕ → List ℕ
after a bs = keccak_f (mixed a (take 136 bs))

pub fed_none : (a bs : List ℕ) → length bs < 136 → fed a bs ≡ record { state = a; begun = bs }
unfolding fed absorbed
fed_none a bs h = let e : length bs / 136 ≡ 0 = omega arith in rw e

pub fed_more : (a bs : List ℕ) → 136 ≤ length bs → fed a bs ≡ fed (after a bs) (drop 136 bs)
unfolding fed absorbed
fed_more a bs h =
    let n = length (drop 136 bs) / 136 in
    let e : length bs / 136 ≡ suc n = omega (arith, length-drop 136 bs) in
    let f : drop (136 * (length bs / 136)) bs ≡ drop (136 * n) (drop 136 bs) =
    ap (λ k. drop k bs) (omega (arith, length-drop 136 bs)) ∙ sym (drop-drop (136 * n) 136 bs) in
    λ i. record { state = absorbed (e i) a bs; begun = f i }

fed_after : (n : ℕ) (a xs ys : List ℕ) → 136 * n ≤ length xs → fed (absorbed n a xs) (drop (136 * n) xs ++ ys) ≡ fed a (xs ++ ys)
unfolding absorbed
fed_after zero a xs ys h = refl
fed_after (suc n) a xs ys h =
    let le : 136 ≤ length xs = omega arith in
    let long : 136 ≤ length (xs ++ ys) = simp length-append (omega arith) in
    let e : drop (136 * suc n) xs ≡ drop (136 * n) (drop 136 xs) = ap (λ k. drop k xs) (omega arith) ∙ sym (drop-drop (136 * n) 136 xs) in
    let rest = fed_after n (after a xs) (drop 136 xs) ys (omega (arith, length-drop 136 xs)) in
    ap (λ zs. fed (absorbed n (after a xs) (drop 136 xs)) (zs ++ ys)) e ∙ rest
    ∙ sym (fed_more a (xs ++ ys) long ∙ ap₂ (λ b zs. fed (keccak_f (mixed a b)) zs) (take-append-le 136 xs ys le) (drop-append-le 136 xs ys le))

-- what waits after xs comes before ys
pub fed_parts : (a xs ys : List ℕ) → fed (fed a xs).state ((fed a xs).begun ++ ys) ≡ fed a (xs ++ ys)
unfolding fed
fed_parts a xs ys = fed_after (length xs / 136) a xs ys (omega arith)

-- the state a with m and its padding still to come is the state fed m, closed
absorbed_all : (n : ℕ) (first : ℕ) (a m : List ℕ) → n ≡ length m / 136
    → squeezed (absorbed (suc n) a (m ++ padding first (136 - length m % 136))) ≡ closed first (fed a m).state (fed a m).begun
unfolding absorbed
absorbed_all zero first a m h =
    let e = fed_none a m (omega arith) in
    let p : length m % 136 ≡ length m = omega arith in
    rw (p, e)
    (ap (λ b. squeezed (keccak_f (mixed a b))) (take_all 136 (m ++ padding first (136 - length m)) (simp (length-append, length_padding) (omega arith))))
absorbed_all (suc n) first a m h =
    let le : 136 ≤ length m = omega arith in
    let p : length m % 136 ≡ length (drop 136 m) % 136 = omega (arith, length-drop 136 m) in
    let rest = absorbed_all n first (after a m) (drop 136 m) (omega (arith, length-drop 136 m)) in
    rw (p, take-append-le, drop-append-le, fed_more a m le) rest

pub sponge_is : (first : ℕ) (m : List ℕ) → sponge_256 first m ≡ closed first (fed (replicate 25 0) m).state (fed (replicate 25 0) m).begun
unfolding sponge_256 padded
sponge_is first m =
    let e : length (m ++ padding first (136 - length m % 136)) / 136 ≡ suc (length m / 136) = simp (length-append, length_padding) (omega arith) in
    rw e (absorbed_all (length m / 136) first (replicate 25 0) m refl)
