-- A stack in an array: its top, what is below it, and one more on it.
use Rattle.std.proofs.Common.{◌≡◌, ℕ, zero, suc, ◌+◌, ◌<◌, ◌≤◌, ◌≢◌, List, [], ◌∷◌, length, get_or, set, refl, ap, add-one, arith, get_or-set_other, get_or-set_same}
use Rattle.pattern.specs.Patterns.{Low, Within}
use Rattle.pattern.specs.Stack.{held, rest}

-- no case is left where the facts say that 0 is 1
pub clash : {A : Type 0} → ◌≡◌ {A = ℕ} 0 1 → A
clash e = absurd (omega arith)

pub held_length : (xs : List ℕ) (d : ℕ) → length (held xs d) ≡ d
held_length xs zero = refl
held_length xs (suc d) = let e = held_length xs d in ap suc e

held_set : (xs : List ℕ) (d k v : ℕ) → d ≤ k → held (set xs k v) d ≡ held xs d
held_set xs zero k v h = refl
held_set xs (suc d) k v h =
    let ne : d ≢ k = omega arith in
    let tail = held_set xs d k v (omega arith) in
    rw get_or-set_other (ap (λ t. get_or xs d 0 ∷ t) tail)

pub held_push : (xs : List ℕ) (d v : ℕ) → d < length xs → held (set xs d v) (d + 1) ≡ v ∷ held xs d
held_push xs d v h =
    let tail = held_set xs d d v (omega arith) in
    rw add-one (rw get_or-set_same (ap (λ t. v ∷ t) tail))

pub low_more : (n m : ℕ) (bs : List ℕ) → n ≤ m → Low n bs → Low m bs
low_more n m [] h l = tt
low_more n m (b ∷ bs) h l = (omega (arith, l.0), low_more n m bs h l.1)

pub within_rest : (n : ℕ) (bs : List ℕ) → Within n bs → Within n (rest bs)
within_rest n [] w = w
within_rest n (b ∷ bs) w = record { low = w.low.1; few = omega (arith, w.few) }

pub within_more : (n : ℕ) (bs : List ℕ) → Within n bs → Within (n + 1) bs
within_more n bs w = record { low = low_more n (n + 1) bs (omega arith) w.low; few = omega (arith, w.few) }

pub within_push : (n : ℕ) (bs : List ℕ) → Within n bs → Within (n + 1) (n ∷ bs)
within_push n bs w = record { low = (omega arith, low_more n (n + 1) bs (omega arith) w.low); few = omega (arith, w.few) }
