-- The count that stands at a place of a string, as the prefix of a bounded message.
use Rattle.std.specs.Prelude.{ℕ, ◌+◌, cond, List, length, take, drop, Ok, Err, Result, nat_le}
use Rattle.digits.specs.Digits.{number}
use Rattle.length_prefix.specs.Prefix.{width}

abbrev pub count_from : List ℕ → ℕ → ℕ → ℕ
count_from s place max = number (take (width max) (drop place s))

-- the count and the width; or 16 where the string is too short, and 17 where the count is over the maximum
abbrev pub bounded_len : List ℕ → ℕ → ℕ → Result (ℕ × ℕ) ℕ
bounded_len s place max = cond (nat_le (place + width max) (length s)) (cond (nat_le (count_from s place max) max) (Ok (count_from s place max, width max)) (Err 17)) (Err 16)
