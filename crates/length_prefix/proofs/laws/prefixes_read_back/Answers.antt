use Rattle.length_prefix.proofs.Prefix.{read_back, one_form, written_back}
use Rattle.length_prefix.proofs.laws.prefixes_read_back.Goals as goal

pub returns : goal.returns
returns c = record { read = read_back; one_form = one_form; written = written_back }
