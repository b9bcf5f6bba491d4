-- Which bytes make a text.
use Rattle.std.specs.Prelude.{ℕ, Bool, ◌&&◌, List, length, nat_le}
use Rattle.std.specs.List.{list_all}

-- a printable ASCII byte, the space included
abbrev pub prints : ℕ → Bool
prints b = nat_le 0x20 b && nat_le b 0x7e

abbrev pub all_print : List ℕ → Bool
all_print = list_all prints

abbrev pub is_text : List ℕ → Bool
is_text bs = nat_le (length bs) 48 && all_print bs
