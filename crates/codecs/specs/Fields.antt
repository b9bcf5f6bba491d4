-- The fields' names as texts.
use Rattle.std.specs.Prelude.{◌++◌, replicate, codes, refl}
use Rattle.std.proofs.Common.{lit≤}
use Rattle.step.specs.declared.text.Text.{Text}

abbrev pub baby_bear : Text
baby_bear = record { bytes = codes "BabyBear" ++ replicate 40 0; len = 8; whole = refl; fits = lit≤ tt; prints = refl; blank = refl }

abbrev pub goldilocks : Text
goldilocks = record { bytes = codes "Goldilocks" ++ replicate 38 0; len = 10; whole = refl; fits = lit≤ tt; prints = refl; blank = refl }
