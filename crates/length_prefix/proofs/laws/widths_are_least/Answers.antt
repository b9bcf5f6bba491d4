use Rattle.length_prefix.proofs.Width.{width_least, width_mono, width_small, count_fits}
use Rattle.length_prefix.proofs.laws.widths_are_least.Goals as goal

pub returns : goal.returns
returns c = record { least = width_least; monotone = width_mono; at_most_eight = width_small; counts_fit = count_fits }
