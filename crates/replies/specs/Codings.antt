-- What the names of units, fields and codecs stand for, by the library's definitions.
use Rattle.std.specs.Prelude.{ℕ, List, Result}
use Rattle.challenger.specs.Words.{words}
use Rattle.codec.specs.Coding.{Wire, decoded}
use Rattle.codecs.specs.Fields.{baby_bear, goldilocks}
use Rattle.codecs.specs.Scalars.{scalar_wire, remainder_bytes}
use Rattle.digits.specs.Digits.{number_le}
use Rattle.keccak.specs.Sponge.{keccak_256}
use Rattle.script.specs.declared.command.UnitName.{UnitName}
use Rattle.script.specs.declared.command.UnitName.TheVariants as unit
use Rattle.script.specs.declared.command.FieldName.{FieldName}
use Rattle.script.specs.declared.command.FieldName.TheVariants as field
use Rattle.script.specs.declared.command.CodecName.{CodecName}
use Rattle.script.specs.declared.command.CodecName.TheVariants as codec
use Rattle.script.specs.declared.command.Value.{Value}
use Rattle.script.specs.declared.command.Value.TheVariants as value
use Rattle.step.specs.Tags.{algebra}
use Rattle.step.specs.Texts.{content}
use Rattle.step.specs.declared.text.Text.{Text}
use Rattle.step.specs.declared.type_tag.TypeTag.{TypeTag}

-- the items of a byte string
abbrev pub items_of : UnitName → List ℕ → List ℕ
items_of unit.Byte bs = bs
items_of unit.Word bs = words bs

-- the order of a field
abbrev pub modulus_of : FieldName → ℕ
modulus_of field.BabyBear = 2013265921
modulus_of field.Goldilocks = 18446744069414584321

-- a field is identified by its name
abbrev pub name_of : FieldName → Text
name_of field.BabyBear = baby_bear
name_of field.Goldilocks = goldilocks

-- its order, one coefficient, and the digest of its identity
abbrev pub tag_of : FieldName → TypeTag
tag_of f = algebra (modulus_of f) 1 (keccak_256 (content (name_of f)))

-- wire bytes, drawn bytes and declared bits of each codec
abbrev pub wire_of : CodecName → Wire
wire_of codec.BabyBear = scalar_wire baby_bear (modulus_of field.BabyBear) 4 24 128
wire_of codec.Goldilocks = scalar_wire goldilocks (modulus_of field.Goldilocks) 8 24 128
wire_of codec.GoldilocksShort = scalar_wire goldilocks (modulus_of field.Goldilocks) 8 8 32

-- the wire bytes of a value
abbrev pub code_of : Value → List ℕ
code_of (value.BabyBear n) = remainder_bytes 4 (modulus_of field.BabyBear) n
code_of (value.Goldilocks n) = remainder_bytes 8 (modulus_of field.Goldilocks) n
code_of (value.GoldilocksShort n) = remainder_bytes 8 (modulus_of field.Goldilocks) n

-- the number that wire bytes give back, or the codec's fault
abbrev pub decoded_by : CodecName → List ℕ → Result ℕ ℕ
decoded_by k bs = decoded (wire_of k) number_le bs
