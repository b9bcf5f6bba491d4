-- Answers by what they say.
use Rattle.std.specs.Prelude.{vec_items}
use Rattle.replies.specs.declared.answer.Answer.{Answer}
use Rattle.replies.specs.declared.answer.Answer.TheVariants.{Error, Number, Numbers, Bytes, Algebra, Fault, Refused, RefusedBytes}
use Rattle.replies.specs.Responses.{Response, error, number, numbers, bytes, algebra, fault, refused, refused_bytes}

-- what the type of `src/answer.rt` stands for
abbrev pub response_of : Answer → Response
response_of Error = error
response_of (Number n) = number n
response_of (Numbers v) = numbers (vec_items v)
response_of (Bytes v) = bytes (vec_items v)
response_of (Algebra t name) = algebra t.modulus t.degree t.basis name
response_of (Fault n) = fault n
response_of (Refused e) = refused e
response_of (RefusedBytes e v) = refused_bytes e (vec_items v)
