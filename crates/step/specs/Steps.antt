-- Steps: the ones that calls make, which may stand in which, and which closes which.
use Rattle.std.specs.Prelude.{ℕ, Bool, ◌&&◌, ◌||◌, ◌==◌}
use Rattle.std.specs.Str.{bytes_eq}
use Rattle.step.specs.declared.interaction.Hierarchy.{Hierarchy}
use Rattle.step.specs.declared.interaction.Hierarchy.TheVariants.{Atomic, Begin, End}
use Rattle.step.specs.declared.interaction.Interaction.{Interaction}
use Rattle.step.specs.declared.interaction.Kind.{Kind}
use Rattle.step.specs.declared.interaction.Kind.TheVariants.{Protocol, Public, Message, Hint, Challenge, Pow, Salt}
use Rattle.step.specs.declared.interaction.Length.{Length}
use Rattle.step.specs.declared.interaction.Length.TheVariants.{None, Scalar, Fixed, Bounded}
use Rattle.step.specs.declared.tag_code.TagCode.{TagCode}
use Rattle.step.specs.declared.tag_code.TagCode.TheVariants as code
use Rattle.step.specs.declared.text.Text.{Text}
use Rattle.step.specs.declared.type_tag.TypeTag.{TypeTag}
use Rattle.step.specs.Tags.{marker, raw_bytes}
use Rattle.step.specs.Texts.{u8_name}

abbrev pub bytes_step : Hierarchy → Kind → Text → Length → Interaction
bytes_step h k label length = record { hierarchy = h; kind = k; label = label; type_tag = raw_bytes; type_name = u8_name; length = length }

abbrev pub marker_step : Hierarchy → Kind → Text → Text → Interaction
marker_step h k label name = record { hierarchy = h; kind = k; label = label; type_tag = marker; type_name = name; length = None }

-- ---- tests of equality, field by field

abbrev pub hierarchy_no : Hierarchy → ℕ
hierarchy_no Atomic = 0
hierarchy_no Begin = 1
hierarchy_no End = 2

abbrev pub kind_no : Kind → ℕ
kind_no Protocol = 0
kind_no Public = 1
kind_no Message = 2
kind_no Hint = 3
kind_no Challenge = 4
kind_no Pow = 5
kind_no Salt = 6

abbrev pub length_no : Length → ℕ
length_no None = 0
length_no Scalar = 1
length_no (Fixed n) = 2
length_no (Bounded n) = 3

abbrev pub length_count : Length → ℕ
length_count None = 0
length_count Scalar = 0
length_count (Fixed n) = n
length_count (Bounded n) = n

abbrev pub code_no : TagCode → ℕ
code_no code.Marker = 0
code_no code.Bytes = 1
code_no code.Algebra = 2

abbrev pub same_hierarchy : Hierarchy → Hierarchy → Bool
same_hierarchy a b = hierarchy_no a == hierarchy_no b

abbrev pub same_kind : Kind → Kind → Bool
same_kind a b = kind_no a == kind_no b

abbrev pub same_length : Length → Length → Bool
same_length a b = length_no a == length_no b && length_count a == length_count b

abbrev pub same_text : Text → Text → Bool
same_text a b = a.len == b.len && bytes_eq a.bytes b.bytes

abbrev pub same_tag : TypeTag → TypeTag → Bool
same_tag a b =
    (code_no a.code == code_no b.code)
    && (a.modulus == b.modulus && (a.degree == b.degree && bytes_eq a.basis b.basis))

-- alike in all fields but the hierarchy
abbrev pub same_but_hierarchy : Interaction → Interaction → Bool
same_but_hierarchy a b =
    same_kind a.kind b.kind
    && (same_text a.label b.label
    && (same_tag a.type_tag b.type_tag && (same_text a.type_name b.type_name && same_length a.length b.length)))

-- alike in all six fields
unfoldable pub alike : Interaction → Interaction → Bool
alike a b = same_hierarchy a.hierarchy b.hierarchy && same_but_hierarchy a b

-- ---- nesting

-- an opener of kind Protocol allows every kind, and any other only its own
unfoldable pub admits : Interaction → Interaction → Bool
admits opener s = same_kind opener.kind Protocol || same_kind opener.kind s.kind

unfoldable pub closes : Interaction → Interaction → Bool
closes s opener = same_hierarchy s.hierarchy End && (same_hierarchy opener.hierarchy Begin && same_but_hierarchy s opener)
