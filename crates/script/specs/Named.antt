-- The words for units, fields and codecs, and the numbers that are values of a codec.
use Rattle.std.specs.Prelude.{ℕ, cond, List, Some, None, codes, Option, nat_lt}
use Rattle.std.specs.Str.{bytes_eq}
use Rattle.script.specs.declared.command.UnitName.{UnitName}
use Rattle.script.specs.declared.command.UnitName.TheVariants as unit
use Rattle.script.specs.declared.command.FieldName.{FieldName}
use Rattle.script.specs.declared.command.FieldName.TheVariants as field
use Rattle.script.specs.declared.command.CodecName.{CodecName}
use Rattle.script.specs.declared.command.CodecName.TheVariants as codec
use Rattle.script.specs.declared.command.Value.{Value}
use Rattle.script.specs.declared.command.Value.TheVariants as value

-- x, where the word is this one, and otherwise what o has
abbrev pub or_for : {X : Type 0} → List ℕ → List ℕ → X → Option X → Option X
or_for word name x o = cond (bytes_eq word name) (Some x) o

-- the unit that a word names
abbrev pub unit_named : List ℕ → Option UnitName
unit_named word = or_for word (codes "byte") unit.Byte (or_for word (codes "word") unit.Word None)

-- the field that a word names
abbrev pub field_named : List ℕ → Option FieldName
field_named word =
    or_for word (codes "BabyBear") field.BabyBear (or_for word (codes "Goldilocks") field.Goldilocks None)

-- the codec that a word names
abbrev pub codec_named : List ℕ → Option CodecName
codec_named word =
    or_for word (codes "BabyBear") codec.BabyBear (
    or_for word (codes "Goldilocks") codec.Goldilocks (
    or_for word (codes "GoldilocksShort") codec.GoldilocksShort None))

-- a BabyBear value has 32 bits, and the others have 64
abbrev pub fitting : CodecName → ℕ → Option Value
fitting codec.BabyBear n = cond (nat_lt n 4294967296) (Some (value.BabyBear n)) None
fitting codec.Goldilocks n = Some (value.Goldilocks n)
fitting codec.GoldilocksShort n = Some (value.GoldilocksShort n)
