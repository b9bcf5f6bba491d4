-- The step that a plain row says.
use Rattle.std.specs.Prelude.{Ok, Err, Result}
use Rattle.error.specs.declared.TranscriptError.{TranscriptError}
use Rattle.pattern.specs.declared.row.Row.{Row}
use Rattle.step.specs.declared.interaction.Interaction.{Interaction}
use Rattle.step.specs.Tags.{made_tag}
use Rattle.step.specs.Texts.{made_text}

-- go on with what was made, or refuse
abbrev pub then : {A B : Type 0} → Result A TranscriptError → (A → Result B TranscriptError) → Result B TranscriptError
then (Ok x) go = go x
then (Err e) go = Err e

abbrev pub row_step : Row → Result Interaction TranscriptError
row_step r =
    then (made_text r.label.now) (λ label.
    then (made_text r.type_name.now) (λ name.
    then (made_tag r.tag_code r.modulus r.degree r.basis) (λ tag.
    Ok (record { hierarchy = r.hierarchy; kind = r.kind; label = label; type_tag = tag; type_name = name; length = r.length }))))
