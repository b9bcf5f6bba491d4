-- Values written one after another: after i of them.
use Rattle.std.proofs.Common.{◌≡◌, ℕ, suc, ◌+◌, ◌*◌, ◌<◌, ◌≤◌, true, List, [], ◌∷◌, ◌++◌, map, length, get_or, take, Ok, sym, refl, ap, ◌∙◌, ap₂, mul-le-mul_right, suc-mul, add-one, arith, le-leb}
use Rattle.challenger.specs.Absorbing.{absorbed_append}
use Rattle.challenger.specs.Sponge.{Sponge, absorbed}
use Rattle.codec.specs.Coding.{Coding, room, filled_with, filled_to}
use Rattle.message.proofs.Putting.{wrote_none, wrote_more, length_wrote}
use Rattle.message.proofs.Values.{joined_push}
use Rattle.message.specs.Payloads.{wrote}
use Rattle.std.proofs.lemmas.List.{take_more, length-append}
use Rattle.std.specs.List.{flat_map}

module _ {S I T : Type 0} (p : Sponge S I) (k : Coding I) (code : T → List ℕ) (values : List T) (out : List ℕ) (start : ℕ) (begun : S) where
  abbrev wide : ℕ
  wide = k.wire.wide

  abbrev text : ℕ → List ℕ
  text i = flat_map code (take i values)

  -- i values written
  pub record Partly (i at : ℕ) (now' : List ℕ) (st : S) : Type 0 where
    pub place : at ≡ start + i * wide
    pub size : length (text i) ≡ i * wide
    pub buffer : now' ≡ wrote out start (text i)
    pub state : st ≡ absorbed p (flat_map (λ v. k.items (code v)) (take i values)) begun

  pub partly_none : Partly 0 start out begun
  partly_none = record { place = omega arith; size = omega arith; buffer = wrote_none out start; state = refl }

  module _ (i at : ℕ) (now' : List ℕ) (st : S) (h : i < length values) (long : start + length values * wide ≤ length out) (q : Partly i at now' st) (v : T) (is : v ≡ get_or values i v) (sized : length (code v) ≡ wide) where
    more : suc i * wide ≤ length values * wide
    more = mul-le-mul_right wide (omega arith)

    room_left : at + wide ≤ length now'
    room_left = omega (arith, q.place, more, suc-mul i wide, ap length q.buffer, length_wrote out start (text i) (omega (arith, q.size, more, suc-mul i wide)))

    has_room : room now' at wide ≡ true
    has_room = le-leb (at + wide) (length now') room_left

    -- the codec does not refuse
    pub fills : filled_to now' at wide ≡ Ok (at + wide)
    fills = let r = has_room in rw r

    here : take (i + 1) values ≡ take i values ++ v ∷ []
    here = take_more values i v h ∙ ap (λ x. take i values ++ x ∷ []) (sym is)

    pub partly_more : (filled : ℕ) (buffer : List ℕ) (st' : S) → Ok filled ≡ filled_to now' at wide → buffer ≡ filled_with now' at (code v)
        → st' ≡ absorbed p (k.items (code v)) st → Partly (i + 1) filled buffer st'
    partly_more filled buffer st' o b e =
        let f = o ∙ fills in
        let end : filled ≡ at + wide = cc in
        let r : room now' at (length (code v)) ≡ true = ap (room now' at) sized ∙ has_room in
        let as_written : filled_with now' at (code v) ≡ wrote now' at (code v) = rw r in
        let text-more : text (i + 1) ≡ text i ++ code v = ap (flat_map code) here ∙ joined_push code (take i values) v in
        let count : (i + 1) * wide ≡ wide + i * wide = ap (λ n. n * wide) (add-one i) ∙ suc-mul i wide ∙ omega arith in
        let spot : at ≡ start + length (text i) = omega (arith, q.place, q.size) in
        record {
          place = omega (arith, q.place, count, end);
          size = ap length text-more ∙ length-append (text i) (code v) ∙ omega (arith, q.size, sized, count);
          buffer =
              b ∙ as_written ∙ ap₂ (λ l n. wrote l n (code v)) q.buffer spot
              ∙ wrote_more out start (text i) (code v) (omega (arith, q.size, more, suc-mul i wide)) ∙ ap (wrote out start) (sym text-more);
          state =
              e ∙ ap (absorbed p (k.items (code v))) q.state
              ∙ sym (absorbed_append p (flat_map (λ x. k.items (code x)) (take i values)) (k.items (code v)) begun)
              ∙ ap (λ xs. absorbed p xs begun) (sym (joined_push (λ x. k.items (code x)) (take i values) v) ∙ ap (flat_map (λ x. k.items (code x))) (sym here));
        }

-- values of one width, joined
pub joined_wide : {T : Type 0} (code : T → List ℕ) (wide : ℕ) → ((v : T) → length (code v) ≡ wide) → (vs : List T) → length (flat_map code vs) ≡ length vs * wide
joined_wide code wide sized [] = omega arith
joined_wide code wide sized (v ∷ vs) = length-append (code v) (flat_map code vs) ∙ omega (arith, sized v, joined_wide code wide sized vs, suc-mul (length vs) wide)

pub joined_map : {A B C : Type 0} (f : B → List C) (g : A → B) (xs : List A) → flat_map (λ x. f (g x)) xs ≡ flat_map f (map g xs)
joined_map f g [] = refl
joined_map f g (x ∷ xs) = ap (λ r. f (g x) ++ r) (joined_map f g xs)
