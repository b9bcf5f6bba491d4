-- What a bound value holds.
use Rattle.codec.specs.declared.bound.TranscriptBound.{TranscriptBound}

abbrev pub inner : {T : Type 0} → TranscriptBound T → T
inner b = b.value
