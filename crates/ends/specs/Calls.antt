-- The calls of an end, as far as prover and verifier share them, and the step that each asks of the pattern.
use Rattle.std.specs.Prelude.{ℕ, Some, None, Option}
use Rattle.codec.specs.Coding.{Wire, Coding}
use Rattle.step.specs.declared.interaction.Hierarchy.TheVariants.{Atomic, Begin, End}
use Rattle.step.specs.declared.interaction.Interaction.{Interaction}
use Rattle.step.specs.declared.interaction.Kind.{Kind}
use Rattle.step.specs.declared.interaction.Kind.TheVariants.{Message, Challenge}
use Rattle.step.specs.declared.interaction.Length.{Length}
use Rattle.step.specs.declared.interaction.Length.TheVariants.{Scalar, Bounded}
use Rattle.step.specs.declared.text.Text.{Text}
use Rattle.step.specs.Steps.{bytes_step, marker_step}

-- Add or next of at most max scalars or bytes, a challenge, begin and end of a scope, abort. Each call has a codec of its own.
pub data Call (Codec : Type 0) : Type 0 where
  scalars : (label : Text) (k : Codec) (max : ℕ) → Call Codec
  bytes : (label : Text) (max : ℕ) → Call Codec
  challenge : (label : Text) (k : Codec) → Call Codec
  begin : (kind : Kind) (label name : Text) → Call Codec
  end : (kind : Kind) (label name : Text) → Call Codec
  abort : Call Codec

-- a call by what no unit has a part in
abbrev pub wired : {I : Type 0} → Call (Coding I) → Call Wire
wired (scalars label k max) = scalars label k.wire max
wired (bytes label max) = bytes label max
wired (challenge label k) = challenge label k.wire
wired (begin kind label name) = begin kind label name
wired (end kind label name) = end kind label name
wired abort = abort

-- a leaf that carries values of a codec
abbrev pub codec_step : Kind → Text → Wire → Length → Interaction
codec_step kind label w length = record { hierarchy = Atomic; kind = kind; label = label; type_tag = w.tag; type_name = w.name; length = length }

-- The step of a call; an abort has none.
abbrev pub step : Call Wire → Option Interaction
step (scalars label w max) = Some (codec_step Message label w (Bounded max))
step (bytes label max) = Some (bytes_step Atomic Message label (Bounded max))
step (challenge label w) = Some (codec_step Challenge label w Scalar)
step (begin kind label name) = Some (marker_step Begin kind label name)
step (end kind label name) = Some (marker_step End kind label name)
step abort = None
