-- What a codec means, as plain functions in which a value is the bytes that encode writes for it.
use Rattle.std.specs.Prelude.{◌≡◌, ℕ, ◌+◌, ◌≤◌, Bool, true, cond, List, ◌++◌, length, take, drop, Ok, Err, Result, nat_le}
use Rattle.digits.specs.Digits.{Bytes}
use Rattle.error.specs.declared.TranscriptError.{TranscriptError}
use Rattle.error.specs.declared.TranscriptError.TheVariants.{ShortBuffer}
use Rattle.step.specs.declared.text.Text.{Text}
use Rattle.step.specs.declared.type_tag.TypeTag.{TypeTag}

-- The side that no unit has a part in.
pub record Wire : Type 0 where
  pub tag : TypeTag
  pub name : Text
  -- the security bits that it declares for a sample
  pub bits : ℕ
  -- how many bytes a value has on the wire
  pub wide : ℕ
  pub decodes : List ℕ → Bool
  pub fault : List ℕ → ℕ
  -- how many bytes a sample draws, and the value that they give
  pub draws : ℕ
  pub sampled : List ℕ → List ℕ

-- A codec over a unit: also the items that the challenger takes in for a value.
pub record Coding (Item : Type 0) : Type 0 where
  pub wire : Wire
  pub items : List ℕ → List Item

-- these bytes are a value's
pub record Value (w : Wire) (v : List ℕ) : Type 0 where
  pub bytes : Bytes v
  pub long : length v ≡ w.wide
  pub good : w.decodes v ≡ true

pub record Lawful {I : Type 0} (k : Coding I) : Type 0 where
  -- decode takes no other length
  pub exact : (v : List ℕ) → Bytes v → k.wire.decodes v ≡ true → length v ≡ k.wire.wide
  pub samples : (bs : List ℕ) → Bytes bs → length bs ≡ k.wire.draws → Value k.wire (k.wire.sampled bs)
  -- one number of items for all values, and different items for different values
  pub sized : (v w : List ℕ) → Value k.wire v → Value k.wire w → length (k.items v) ≡ length (k.items w)
  pub faithful : (v w : List ℕ) → Value k.wire v → Value k.wire w → k.items v ≡ k.items w → v ≡ w

pub record Limited (w : Wire) : Type 0 where
  pub wide : w.wide ≤ 65536
  pub degree : w.tag.degree ≤ 65536
  pub draws : w.draws ≤ 65536

-- what decode answers
abbrev pub decoded : {T : Type 0} → Wire → (List ℕ → T) → List ℕ → Result T ℕ
decoded w value bs = cond (w.decodes bs) (Ok (value bs)) (Err (w.fault bs))

-- a buffer has room for n bytes after its filled part
abbrev pub room : List ℕ → ℕ → ℕ → Bool
room out filled n = nat_le (filled + n) (length out)

-- a buffer with bytes written after its filled part, where there is room
abbrev pub filled_with : List ℕ → ℕ → List ℕ → List ℕ
filled_with out filled bs = cond (room out filled (length bs)) (take filled out ++ (bs ++ drop (filled + length bs) out)) out

-- how far it is filled then
abbrev pub filled_to : List ℕ → ℕ → ℕ → Result ℕ TranscriptError
filled_to out filled n = cond (room out filled n) (Ok (filled + n)) (Err ShortBuffer)
