-- What a sink in memory has taken.
use Rattle.std.specs.Prelude.{◌≡◌, ℕ, List, IfOk, vec_items}
use Rattle.sink.specs.declared.vec_sink.VecSink.{VecSink}

-- the bytes m, unless memory ran out
abbrev pub Keeps : VecSink → List ℕ → Type 0
Keeps s m = IfOk s.kept (λ v. vec_items v ≡ m)
