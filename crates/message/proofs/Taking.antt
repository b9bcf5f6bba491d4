-- Taking values where there are enough of them and room for them: it comes to what reading comes to.
use Rattle.std.proofs.Common.{◌≡◌, ℕ, ◌*◌, ◌≤◌, Bool, true, false, cond, List, length, Ok, Err, sym, refl, ap, le-leb}
use Rattle.challenger.specs.Sponge.{Sponge}
use Rattle.codec.specs.Coding.{Coding}
use Rattle.ends.proofs.Cuts.{good_all}
use Rattle.ends.specs.Questions.{Outcome}
use Rattle.ends.specs.Verifier.{cut, good, all_good, bad_value}
use Rattle.message.specs.Payloads.{taken_in, taking}

module _ {S I : Type 0} (p : Sponge S I) (u : List ℕ → List I) (k : Coding I) (prefix s : List ℕ) (count room : ℕ) (st : S) where
  abbrev vs : List (List ℕ)
  vs = cut count k.wire.wide s

  abbrev read : Outcome (Unit {0}) S
  read = record {
    answer = cond (all_good k.wire vs) (Ok tt) (Err (bad_value k.wire vs));
    stored = good k.wire vs;
    left = taken_in p u k prefix (good k.wire vs) st;
  }

  last : (b : Bool) → all_good k.wire vs ≡ b
      → cond {A = Outcome (Unit {0}) S} b (record { answer = Ok tt; stored = vs; left = taken_in p u k prefix vs st })
      (record { answer = Err (bad_value k.wire vs); stored = good k.wire vs; left = taken_in p u k prefix (good k.wire vs) st })
      ≡ record { answer = cond b (Ok tt) (Err (bad_value k.wire vs)); stored = good k.wire vs; left = taken_in p u k prefix (good k.wire vs) st }
  last true h = ap (λ l. record { answer = Ok tt; stored = l; left = taken_in p u k prefix l st }) (sym (good_all k.wire vs h))
  last false h = refl

  pub taking_reads : count * k.wire.wide ≤ length s → count ≤ room → taking p u k prefix s count room st ≡ read
  taking_reads long fits =
      let a = le-leb (count * k.wire.wide) (length s) long in
      let b = le-leb count room fits in
      rw (a, b) (last (all_good k.wire vs) refl)
