-- Values read one after another: after i of them, and at the end.
use Rattle.std.proofs.Common.{◌≡◌, ℕ, suc, ◌+◌, ◌*◌, ◌<◌, ◌≤◌, true, false, cond, List, [], ◌∷◌, ◌++◌, map, length, get_or, take, drop, set, Ok, Err, Result, sym, ap, ◌∙◌, ap₂, mul-le-mul_right, suc-mul, add-one, arith, w8, Fits}
use Rattle.challenger.specs.Absorbing.{absorbed_append}
use Rattle.challenger.specs.Sponge.{Sponge, absorbed}
use Rattle.codec.specs.Coding.{Wire, Coding, Value}
use Rattle.digits.specs.Digits.{Bytes}
use Rattle.ends.proofs.Cuts.{cut_length, cut_at, good_before, good_more, good_all}
use Rattle.ends.specs.Verifier.{cut, all_good, good, bad_value}
use Rattle.error.specs.declared.TranscriptError.{TranscriptError}
use Rattle.error.specs.declared.TranscriptError.TheVariants.{BadValue}
use Rattle.message.specs.Payloads.{stored_in}
use Rattle.std.proofs.ByRecursion.{All-take, All-drop, All-from_get_or}
use Rattle.std.proofs.lemmas.List.{take_all, take_more, take-append-drop, drop_more, drop-append-le, set_at, append_assoc, append-nil, map-append, length-map, length-take-le, length-take, length-drop}
use Rattle.std.specs.List.{flat_map}

pub joined_push : {A B : Type 0} (f : A → List B) (xs : List A) (x : A) → flat_map f (xs ++ (x ∷ [])) ≡ flat_map f xs ++ f x
joined_push f [] x = append-nil (f x)
joined_push f (y ∷ ys) x = ap (λ r. f y ++ r) (joined_push f ys x) ∙ sym (append_assoc (f y) (flat_map f ys) (f x))

-- the bytes at an index are a value's
pub piece_value : (w : Wire) (s : List ℕ) (n i : ℕ) → i < n → n * w.wide ≤ length s → Bytes s → w.decodes (take w.wide (drop (i * w.wide) s)) ≡ true
    → Value w (take w.wide (drop (i * w.wide) s))
piece_value w s n i h long b g =
    let m : suc i * w.wide ≤ n * w.wide = mul-le-mul_right w.wide (omega arith) in
    record {
      bytes = All-take (λ x. x < 256) w.wide _ (All-drop (λ x. x < 256) (i * w.wide) s b);
      long = simp (length-take, length-drop) (omega (arith, m, suc-mul i w.wide));
      good = g;
    }

module _ {S I T : Type 0} (p : Sponge S I) (k : Coding I) (code : T → List ℕ) (value : List ℕ → T) (s : List ℕ) (n : ℕ) (out : List T) (start : S) where
  abbrev wide : ℕ
  wide = k.wire.wide

  abbrev all : List (List ℕ)
  all = cut n wide s

  abbrev front : List T
  front = take n out

  -- the i-th value's bytes
  abbrev pub piece : ℕ → List ℕ
  piece i = take wide (drop (i * wide) s)

  -- i values read, and what the first n places then hold
  pub record Partly (i : ℕ) (now' : List T) (st : S) : Type 0 where
    pub good : all_good k.wire (take i all) ≡ true
    pub stored : now' ≡ stored_in value (take i all) front
    pub state : st ≡ absorbed p (flat_map k.items (take i all)) start

  -- what reading comes to
  pub record Read (r : Result (Unit {0}) TranscriptError) (now' : List T) (st : S) : Type 0 where
    pub answer : r ≡ cond (all_good k.wire all) (Ok tt) (Err (bad_value k.wire all))
    pub stored : now' ≡ stored_in value (good k.wire all) out
    pub state : st ≡ absorbed p (flat_map k.items (good k.wire all)) start

  -- with the places behind the first n
  behind : (vs : List (List ℕ)) → length vs ≤ n → n ≤ length out → stored_in value vs front ++ drop n out ≡ stored_in value vs out
  behind vs few room =
      append_assoc (map value vs) (drop (length vs) front) (drop n out)
      ∙ ap (λ l. map value vs ++ l)
      (sym (drop-append-le (length vs) front (drop n out) (omega (arith, few, length-take-le n out room))) ∙ ap (drop (length vs)) (take-append-drop n out))

  module _ (room : n ≤ length out) (i : ℕ) (now' : List T) (st : S) (h : i < n) (q : Partly i now' st) where
    within : i < length all
    within = omega (arith, cut_length n wide s)

    here : get_or all i [] ≡ piece i
    here = cut_at n wide i s h

    size : length (take i all) ≡ i
    size = length-take-le i all (omega (arith, within))

    -- of the bytes bs, which the codec reads as v
    pub partly_more : (bs : List ℕ) → bs ≡ piece i → n * wide ≤ length s → Bytes s → ((vs : List ℕ) → Value k.wire vs → code (value vs) ≡ vs) → (v : T) (st' : S)
        → k.wire.decodes bs ≡ true → v ≡ value bs → st' ≡ absorbed p (k.items (code v)) st → Partly (i + 1) (set now' i v) st'
    partly_more bs at long typed reads v st' g' is' e =
        let g : k.wire.decodes (piece i) ≡ true = ap k.wire.decodes (sym at) ∙ g' in
        let is : v ≡ value (piece i) = is' ∙ ap value at in
        let coded : code v ≡ piece i = ap code is ∙ reads (piece i) (piece_value k.wire s n i h long typed g) in
        let d = drop_more front i v (omega (arith, h, length-take-le n out room)) in
        let sized = length-map (take i all) value ∙ size in
        let next = take_more all i [] within in
        record {
          good = ap (λ m. all_good k.wire (take m all)) (add-one i) ∙ good_more k.wire all i within q.good (ap k.wire.decodes here ∙ g);
          stored =
              ap (λ l. set l i v) (q.stored ∙ ap (λ m. map value (take i all) ++ drop m front) size ∙ ap (λ l. map value (take i all) ++ l) d)
              ∙ set_at (map value (take i all)) (get_or front i v) (drop (i + 1) front) v i sized
              ∙ sym (append_assoc (map value (take i all)) (v ∷ []) (drop (i + 1) front))
              ∙ ap (λ x. (map value (take i all) ++ x ∷ []) ++ drop (i + 1) front) (is ∙ ap value (sym here))
              ∙ ap (λ l. l ++ drop (i + 1) front) (sym (map-append value (take i all) (get_or all i [] ∷ [])) ∙ ap (map value) (sym next))
              ∙ ap (λ m. map value (take (i + 1) all) ++ drop m front) (sym (length-take-le (i + 1) all (omega (arith, within))));
          state =
              e ∙ ap₂ (λ x y. absorbed p (k.items x) y) (coded ∙ sym here) q.state
              ∙ sym (absorbed_append p (flat_map k.items (take i all)) (k.items (get_or all i [])) start)
              ∙ ap (λ xs. absorbed p xs start) (sym (joined_push k.items (take i all) (get_or all i [])) ∙ ap (flat_map k.items) (sym next));
        }

    -- reading stops at a value that the codec does not take
    pub partly_bad : (bs : List ℕ) → bs ≡ piece i → k.wire.decodes bs ≡ false → Read (Err (BadValue i (k.wire.fault bs))) (now' ++ drop n out) st
    partly_bad bs at g =
        let is = here ∙ sym at in
        let b = good_before k.wire all i within q.good (ap k.wire.decodes is ∙ g) in
        let count : length (good k.wire all) ≡ i = ap length b.0 ∙ size in
        record {
          answer =
              ap₂ (λ m v. Err (BadValue m (k.wire.fault v))) (sym count) (sym (ap (λ m. get_or all m []) count ∙ is))
              ∙ sym (ap (λ t. cond t (Ok tt) (Err (bad_value k.wire all))) b.1);
          stored = ap (λ l. l ++ drop n out) q.stored ∙ behind (take i all) (omega (arith, h, size)) room ∙ ap (λ l. stored_in value l out) (sym b.0);
          state = q.state ∙ ap (λ l. absorbed p (flat_map k.items l) start) (sym b.0);
        }

  pub partly_all : n ≤ length out → (i : ℕ) (now' : List T) (st : S) → n ≤ i → Partly i now' st → Read (Ok tt) (now' ++ drop n out) st
  partly_all room i now' st h q =
      let whole : take i all ≡ all = take_all i all (omega (arith, cut_length n wide s)) in
      let g : all_good k.wire all ≡ true = ap (all_good k.wire) (sym whole) ∙ q.good in
      let same : take i all ≡ good k.wire all = whole ∙ sym (good_all k.wire all g) in
      record {
        answer = sym (ap (λ t. cond t (Ok tt) (Err (bad_value k.wire all))) g);
        stored = ap (λ l. l ++ drop n out) q.stored ∙ behind (take i all) (omega (arith, ap length whole, cut_length n wide s)) room ∙ ap (λ l. stored_in value l out) same;
        state = q.state ∙ ap (λ l. absorbed p (flat_map k.items l) start) same;
      }

-- what a byte slice holds are bytes
pub bytes_typed : (s : List ℕ) → ((i : ℕ) → Fits w8 (get_or s i 0)) → Bytes s
bytes_typed s t = All-from_get_or (λ b. b < 256) s 0 (λ i h. omega (arith, t i))
