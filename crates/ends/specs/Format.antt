-- The formats: the values that calls are given, the string that they make, and what a challenger takes in for them.
use Rattle.std.specs.Prelude.{ℕ, ◌≤◌, List, [], ◌∷◌, ◌++◌, map, length}
use Rattle.challenger.specs.Sponge.{Sponge, turned}
use Rattle.codec.specs.Coding.{Wire, Coding, Value, Lawful}
use Rattle.digits.specs.Digits.{big_endian, Bytes}
use Rattle.ends.specs.Calls.{Call, scalars, bytes, challenge, begin, end, abort, wired}
use Rattle.length_prefix.specs.Prefix.{width}
use Rattle.std.specs.List.{flat_map, AllByRecursion}

-- What a call is given beside its arguments: values, each as its wire bytes; bytes; or nothing.
abbrev pub Given : Call Wire → Type 0
Given (scalars label w max) = List (List ℕ)
Given (bytes label max) = List ℕ
Given (challenge label w) = Unit {0}
Given (begin kind label name) = Unit {0}
Given (end kind label name) = Unit {0}
Given abort = Unit {0}

abbrev pub Values : List (Call Wire) → Type 0
Values [] = Unit {0}
Values (c ∷ cs) = Given c × Values cs

-- as many as the length form allows, each one of the codec's
abbrev pub Allowed : (c : Call Wire) → Given c → Type 0
Allowed (scalars label w max) vs = (length vs ≤ max) × AllByRecursion (Value w) vs
Allowed (bytes label max) bs = (length bs ≤ max) × Bytes bs
Allowed (challenge label w) g = Unit {0}
Allowed (begin kind label name) g = Unit {0}
Allowed (end kind label name) g = Unit {0}
Allowed abort g = Unit {0}

abbrev pub AllAllowed : (cs : List (Call Wire)) → Values cs → Type 0
AllAllowed [] vs = Unit {0}
AllAllowed (c ∷ cs) vs = Allowed c vs.0 × AllAllowed cs vs.1

-- a count as a prefix, in the width of the maximum
abbrev pub prefix : ℕ → ℕ → List ℕ
prefix max n = big_endian (width max) n

-- ---- the string

-- A message is its count as a prefix, then its values or bytes; other calls write nothing.
abbrev pub written : (c : Call Wire) → Given c → List ℕ
written (scalars label w max) vs = prefix max (length vs) ++ flat_map (λ v. v) vs
written (bytes label max) bs = prefix max (length bs) ++ bs
written (challenge label w) g = []
written (begin kind label name) g = []
written (end kind label name) g = []
written abort g = []

abbrev pub string : (cs : List (Call Wire)) → Values cs → List ℕ
string [] vs = []
string (c ∷ cs) vs = written c vs.0 ++ string cs vs.1

-- ---- the intake

-- What a challenger goes through: it takes an item in, or is drawn from for a challenge.
pub data Event (Item : Type 0) : Type 0 where
  took : Item → Event Item
  mark : Event Item

-- The prefix and the payload pass through the unit apart; each challenge leaves one mark.
abbrev pub heard : {I : Type 0} → (List ℕ → List I) → (c : Call (Coding I)) → Given (wired c) → List (Event I)
heard u (scalars label k max) vs = map took (u (prefix max (length vs)) ++ flat_map k.items vs)
heard u (bytes label max) bs = map took (u (prefix max (length bs)) ++ u bs)
heard u (challenge label k) g = mark ∷ []
heard u (begin kind label name) g = []
heard u (end kind label name) g = []
heard u abort g = []

abbrev pub intake : {I : Type 0} → (List ℕ → List I) → (cs : List (Call (Coding I))) → Values (map wired cs) → List (Event I)
intake u [] vs = []
intake u (c ∷ cs) vs = heard u c vs.0 ++ intake u cs vs.1

-- how many bytes each challenge draws
abbrev pub draws_of : List (Call Wire) → List ℕ
draws_of [] = []
draws_of (scalars label w max ∷ cs) = draws_of cs
draws_of (bytes label max ∷ cs) = draws_of cs
draws_of (challenge label w ∷ cs) = w.draws ∷ draws_of cs
draws_of (begin kind label name ∷ cs) = draws_of cs
draws_of (end kind label name ∷ cs) = draws_of cs
draws_of (abort ∷ cs) = draws_of cs

-- a challenger's state after an intake whose marks draw so many bytes each
abbrev pub after : {S I : Type 0} → Sponge S I → List ℕ → List (Event I) → S → S
after p ns [] s = s
after p ns (took x ∷ es) s = after p ns es (p.takes s x)
after p [] (mark ∷ es) s = after p [] es s
after p (n ∷ ns) (mark ∷ es) s = after p ns es (turned p n s)

-- every codec of a message keeps its meaning
abbrev pub LawfulCalls : {I : Type 0} → List (Call (Coding I)) → Type 0
LawfulCalls [] = Unit {0}
LawfulCalls (scalars label k max ∷ cs) = Lawful k × LawfulCalls cs
LawfulCalls (bytes label max ∷ cs) = LawfulCalls cs
LawfulCalls (challenge label k ∷ cs) = LawfulCalls cs
LawfulCalls (begin kind label name ∷ cs) = LawfulCalls cs
LawfulCalls (end kind label name ∷ cs) = LawfulCalls cs
LawfulCalls (abort ∷ cs) = LawfulCalls cs
