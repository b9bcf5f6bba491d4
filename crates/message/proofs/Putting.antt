-- Writing after the filled part of a buffer: with room and without, and one part after another.
use Rattle.std.proofs.Common.{◌≡◌, ℕ, ◌+◌, ◌<◌, ◌≤◌, List, [], ◌++◌, length, take, drop, Ok, Err, sym, ap, ◌∙◌, ap₂, arith, le-leb}
use borrow.Author.Tests.{lt-leb}
use Rattle.error.specs.declared.TranscriptError.TheVariants.{ShortBuffer}
use Rattle.message.specs.Payloads.{wrote, putting}
use Rattle.std.proofs.lemmas.List.{append_assoc, length-append, length-take-le, take_at, drop_at, drop-drop}

module _ {S : Type 0} (bs out : List ℕ) (filled : ℕ) (s s' : S) where
  pub puts : filled + length bs ≤ length out → putting bs out filled s s' ≡ record { answer = Ok (filled + length bs); buffer = wrote out filled bs; state = s' }
  puts h = let r = le-leb (filled + length bs) (length out) h in rw r

  pub full : length out < filled + length bs → putting bs out filled s s' ≡ record { answer = Err ShortBuffer; buffer = out; state = s }
  full h = let r = lt-leb (filled + length bs) (length out) h in rw r

pub wrote_none : (out : List ℕ) (at : ℕ) → out ≡ wrote out at []
wrote_none out at = sym (Rattle.std.proofs.lemmas.List.take-append-drop at out) ∙ ap (λ n. take at out ++ drop n out) (omega arith)

-- what comes behind what was written
pub wrote_more : (out : List ℕ) (at : ℕ) (xs ys : List ℕ) → at + length xs ≤ length out → wrote (wrote out at xs) (at + length xs) ys ≡ wrote out at (xs ++ ys)
wrote_more out at xs ys h =
    let front = take at out ++ xs in
    let behind = drop (at + length xs) out in
    let is : wrote out at xs ≡ front ++ behind = sym (append_assoc (take at out) xs behind) in
    let size : length front ≡ at + length xs = length-append (take at out) xs ∙ ap (λ n. n + length xs) (length-take-le at out (omega arith)) in
    let long = length-append xs ys in
    ap₂ (λ a b. a ++ (ys ++ b))
    (ap (take (at + length xs)) is ∙ take_at front behind (at + length xs) size)
    (sym (drop-drop (length ys) (at + length xs) (wrote out at xs)) ∙ ap (λ l. drop (length ys) (drop (at + length xs) l)) is ∙ ap (drop (length ys)) (drop_at front behind (at + length xs) size)
    ∙ drop-drop (length ys) (at + length xs) out ∙ ap (λ n. drop n out) (omega arith))
    ∙ append_assoc (take at out) xs (ys ++ drop (at + length (xs ++ ys)) out)
    ∙ ap (λ l. take at out ++ l) (sym (append_assoc xs ys (drop (at + length (xs ++ ys)) out)))

pub length_wrote : (out : List ℕ) (at : ℕ) (bs : List ℕ) → at + length bs ≤ length out → length (wrote out at bs) ≡ length out
length_wrote out at bs h =
    length-append (take at out) (bs ++ drop (at + length bs) out)
    ∙ ap₂ (λ a b. a + b) (length-take-le at out (omega arith)) (length-append bs (drop (at + length bs) out) ∙ ap (λ n. length bs + n) (Rattle.std.proofs.lemmas.List.length-drop (at + length bs) out))
    ∙ omega arith
