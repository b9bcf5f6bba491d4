use Rattle.digits.proofs.BigEndian as big
use Rattle.digits.proofs.LittleEndian as little
use Rattle.digits.proofs.bytes_read_back.Goals as goal

pub returns : goal.returns
returns c = record {
  big_endian = record { long = big.long; bytes = big.bytes; comes_back = big.read; written = big.written; small = big.small };
  little_endian = record { long = little.long; bytes = little.bytes; comes_back = little.read; written = little.written; small = little.small };
}
