-- The steps that a table holds: those in the places that are in use.
use Rattle.std.specs.Prelude.{List, take}
use Rattle.pattern.specs.declared.steps.Steps.{Steps}
use Rattle.step.specs.declared.interaction.Interaction.{Interaction}

abbrev pub listed : Steps → List Interaction
listed s = take s.len s.at
