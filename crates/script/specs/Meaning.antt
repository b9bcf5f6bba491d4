-- Commands as the language has them.
use Rattle.scan.specs.Hex.{bytes_of}
use Rattle.script.specs.declared.command.Line.{Line}
use Rattle.script.specs.declared.command.Line.TheVariants.{Silent, Wrong, Asks}
use Rattle.script.specs.declared.command.Command.{Command}
use Rattle.script.specs.declared.command.Command.TheVariants.{Leaf as LeafCommand}
use Rattle.script.specs.declared.command.Leaf.{Leaf}
use Rattle.script.specs.declared.command.Leaf.TheVariants.{Width, EncodeLen, DecodeLen, Keccak, Items, Encode, Decode, Bits, Tag}
use Rattle.script.specs.Language.{Query, width, encode_len, decode_len, keccak, items, encode, decode, bits, tag, Order, leaf, Says, silent, wrong, asks}

-- what the types of `src/command.rt` stand for
abbrev pub query_of : Leaf → Query
query_of (Width max) = width max
query_of (EncodeLen len w) = encode_len len w
query_of (DecodeLen h w) = decode_len (bytes_of h) w
query_of (Keccak h) = keccak (bytes_of h)
query_of (Items u h) = items u (bytes_of h)
query_of (Encode v) = encode v
query_of (Decode k h) = decode k (bytes_of h)
query_of (Bits k) = bits k
query_of (Tag f) = tag f

abbrev pub order_of : Command → Order
order_of (LeafCommand l) = leaf (query_of l)

abbrev pub asks_of : Line → Says
asks_of Silent = silent
asks_of Wrong = wrong
asks_of (Asks c) = asks (order_of c)
