-- A list of steps as text, byte by byte.
use Rattle.std.specs.Prelude.{ℕ, ◌+◌, ◌-◌, List, [], ◌∷◌, ◌++◌, length, codes, decimal}
use Rattle.sink.specs.Writing.{repeated, padded, hex_text}
use Rattle.step.specs.Texts.{content}
use Rattle.step.specs.declared.interaction.Hierarchy.{Hierarchy}
use Rattle.step.specs.declared.interaction.Hierarchy.TheVariants.{Atomic, Begin, End}
use Rattle.step.specs.declared.interaction.Interaction.{Interaction}
use Rattle.step.specs.declared.interaction.Kind.{Kind}
use Rattle.step.specs.declared.interaction.Kind.TheVariants.{Protocol, Public, Message, Hint, Challenge, Pow, Salt}
use Rattle.step.specs.declared.interaction.Length.{Length}
use Rattle.step.specs.declared.interaction.Length.TheVariants.{None, Scalar, Fixed, Bounded}
use Rattle.step.specs.declared.tag_code.TagCode.{TagCode}
use Rattle.step.specs.declared.tag_code.TagCode.TheVariants.{Marker, Bytes, Algebra}
use Rattle.step.specs.declared.type_tag.TypeTag.{TypeTag}

abbrev pub hierarchy_name : Hierarchy → List ℕ
hierarchy_name Atomic = codes "Atomic"
hierarchy_name Begin = codes "Begin"
hierarchy_name End = codes "End"

abbrev pub kind_name : Kind → List ℕ
kind_name Protocol = codes "Protocol"
kind_name Public = codes "Public"
kind_name Message = codes "Message"
kind_name Hint = codes "Hint"
kind_name Challenge = codes "Challenge"
kind_name Pow = codes "Pow"
kind_name Salt = codes "Salt"

abbrev pub length_text : Length → List ℕ
length_text None = codes "None"
length_text Scalar = codes "Scalar"
length_text (Fixed n) = codes "Fixed(" ++ (decimal n ++ codes ")")
length_text (Bounded n) = codes "Bounded(" ++ (decimal n ++ codes ")")

-- an algebra by its modulus, degree and basis
abbrev pub tag_text_by : TagCode → ℕ → ℕ → List ℕ → List ℕ
tag_text_by Marker modulus degree basis = codes "Marker"
tag_text_by Bytes modulus degree basis = codes "Bytes"
tag_text_by Algebra modulus degree basis =
    codes "Algebra(" ++ (decimal modulus ++ (codes "^" ++ (decimal degree ++ (codes ";" ++ (hex_text basis ++ codes ")")))))

abbrev pub tag_text : TypeTag → List ℕ
tag_text t = tag_text_by t.code t.modulus t.degree t.basis

-- the label's length stands before the label, so that the label may hold anything. The type name is not part of the text
abbrev pub step_text : Interaction → List ℕ
step_text s =
    hierarchy_name s.hierarchy ++ (codes " " ++ (kind_name s.kind ++ (codes " " ++
    (decimal (length (content s.label)) ++ (codes " " ++ (content s.label ++ (codes " " ++
    (length_text s.length ++ (codes " " ++ tag_text s.type_tag)))))))))

-- the step at a position, so deep in scopes: two spaces for each
unfoldable pub line : ℕ → ℕ → ℕ → Interaction → List ℕ
line width position depth s = padded width position ++ (codes " " ++ (repeated depth (codes "  ") ++ (step_text s ++ codes "\n")))

-- how deep a step stands, of so many open scopes: a closer stands as its opener does
abbrev pub level : Hierarchy → ℕ → ℕ
level Atomic depth = depth
level Begin depth = depth
level End depth = depth - 1

-- how many scopes are open after a step that stands so deep
abbrev pub depth_after : Hierarchy → ℕ → ℕ
depth_after Atomic at = at
depth_after Begin at = at + 1
depth_after End at = at

-- the lines of steps from a position on, under so many open scopes
abbrev pub lines : ℕ → ℕ → ℕ → List Interaction → List ℕ
lines width position depth [] = []
lines width position depth (s ∷ ss) =
    line width position (level s.hierarchy depth) s
    ++ lines width (position + 1) (depth_after s.hierarchy (level s.hierarchy depth)) ss

-- the number of steps is said first, so that no rendering is the beginning of another
abbrev pub header : ℕ → List ℕ
header count = codes "Plonky3 Fiat-Shamir Transcript (" ++ (decimal count ++ codes " interactions)\n")

-- positions are as wide as the last
unfoldable pub rendering : List Interaction → List ℕ
rendering steps = header (length steps) ++ lines (length (decimal (length steps - 1))) 0 0 steps
