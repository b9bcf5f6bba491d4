-- What a reader and a writer of prefixes rely on.
use Rattle.std.specs.Prelude.{◌≡◌, ℕ, ◌^◌, ◌<◌, ◌≤◌, true, List, ◌++◌, take, Ok}
use Rattle.digits.specs.Digits.{big_endian, Bytes}
use Rattle.length_prefix.specs.Prefix.{width, fits, encoded, decoded}

-- w holds max, and no smaller number of bytes does
pub record LeastWidth (max w : ℕ) : Type 0 where
  pub holds : max < 256 ^ w
  pub least : (k : ℕ) → max < 256 ^ k → w ≤ k

-- Of the widths of maxima below 2^64.
pub record Widths : Type 0 where
  pub least : (max : ℕ) → LeastWidth max (width max)
  pub monotone : (max more : ℕ) → max ≤ more → width max ≤ width more
  pub at_most_eight : (max : ℕ) → max < 2 ^ 64 → width max ≤ 8
  pub counts_fit : (max count : ℕ) → max < 2 ^ 64 → count ≤ max → fits count (width max) ≡ true

-- Of prefixes written and read.
pub record Prefixes : Type 0 where
  -- with any bytes after it
  pub read : (len w : ℕ) (after : List ℕ) → fits len w ≡ true → decoded (big_endian w len ++ after) w ≡ Ok len
  pub one_form : (len other w : ℕ) → fits len w ≡ true → fits other w ≡ true → encoded len w ≡ encoded other w → len ≡ other
  pub written : (buf : List ℕ) (len w : ℕ) → Bytes buf → decoded buf w ≡ Ok len → take w (encoded len w) ≡ take w buf
