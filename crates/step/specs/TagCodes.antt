-- The tag that a plain number says, and which tags carry no number.
use Rattle.std.specs.Prelude.{ℕ, Bool, true, false, cond, Ok, Err, Result, ◌==◌}
use Rattle.error.specs.declared.TranscriptError.{TranscriptError}
use Rattle.error.specs.declared.TranscriptError.TheVariants.{InvalidField}
use Rattle.step.specs.declared.tag_code.TagCode.{TagCode}
use Rattle.step.specs.declared.tag_code.TagCode.TheVariants.{Marker, Bytes, Algebra}

abbrev pub tag_code : ℕ → Result TagCode TranscriptError
tag_code n = cond (n == 0) (Ok Marker) (cond (n == 1) (Ok Bytes) (cond (n == 2) (Ok Algebra) (Err InvalidField)))

abbrev pub plain : TagCode → Bool
plain Marker = true
plain Bytes = true
plain Algebra = false
