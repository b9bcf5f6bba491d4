-- What a word of digits says.
use Rattle.std.specs.Prelude.{ℕ, ◌+◌, ◌-◌, ◌*◌, ◌^◌, Bool, true, false, cond, List, [], ◌∷◌, length, Some, None, Option, ◌==◌, nat_le, nat_lt}

-- 0 to 9
abbrev pub is_digit : ℕ → Bool
is_digit b = cond (nat_le 48 b) (nat_le b 57) false

-- digits and nothing else
abbrev pub all_digits : List ℕ → Bool
all_digits [] = true
all_digits (b ∷ bs) = cond (is_digit b) (all_digits bs) false

-- the number that digits write after others that write n
abbrev pub writes : ℕ → List ℕ → ℕ
writes n [] = n
writes n (b ∷ bs) = writes (n * 10 + (b - 48)) bs

-- a number that 64 bits hold
abbrev pub held : ℕ → Option ℕ
held n = cond (nat_lt n (2 ^ 64)) (Some n) None

-- n with one more digit
abbrev pub more : ℕ → ℕ → Option ℕ
more n b = cond (is_digit b) (held (n * 10 + (b - 48))) None

-- that number, where all are digits and 64 bits hold it
abbrev pub after : ℕ → List ℕ → Option ℕ
after n bs = cond (all_digits bs) (held (writes n bs)) None

-- one or more decimal digits, below 2^64
abbrev pub numeral : List ℕ → Option ℕ
numeral bs = cond (length bs == 0) None (after 0 bs)
