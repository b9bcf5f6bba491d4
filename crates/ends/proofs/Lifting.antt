-- What a call does to the core of an end is what it does to the end.
use Rattle.std.proofs.Common.{◌≡◌, ℕ, ◌<◌, ◌≤◌, Bool, true, false, cond, List, [], ◌∷◌, map, Some, Ok, Err, sym, refl, ◌∙◌, le-leb}
use borrow.Author.Tests.{lt-leb}
use Rattle.challenger.specs.Sponge.{Sponge}
use Rattle.codec.specs.Coding.{Wire}
use Rattle.ends.proofs.Asking.{no_to, stepping_on, stepping_stops}
use Rattle.ends.specs.Calls.{Call, challenge, step, codec_step}
use Rattle.ends.specs.Questions.{Outcome, Question, put, yes}
use Rattle.ends.specs.Shared.{Core, stopped, stepped, marked, challenged, sample, sampled_state, stepping}
use Rattle.error.specs.declared.TranscriptError.{TranscriptError}
use Rattle.error.specs.declared.TranscriptError.TheVariants.{WeakCodec}
use Rattle.player.specs.Plays.{Answer, asked, moved}
use Rattle.step.specs.declared.interaction.Interaction.{Interaction}
use Rattle.step.specs.declared.interaction.Kind.TheVariants.{Challenge}
use Rattle.step.specs.declared.interaction.Length.TheVariants.{Scalar}
use Rattle.step.specs.declared.text.Text.{Text}

module _ {E F : Type 0} (f : E → F) where
  abbrev pub lifted : {R : Type 0} → Outcome R E → Outcome R F
  lifted o = record { answer = o.answer; stored = o.stored; left = f o.left }

  abbrev pub lifted_question : Question E → Question F
  lifted_question q = record { holds = q.holds; refusal = q.refusal; stored = q.stored; leaves = f q.leaves }

  pub put_lifted : {R : Type 0} (qs : List (Question E)) (o : Outcome R E) → lifted (put qs o) ≡ put (map lifted_question qs) (lifted o)
  put_lifted [] o = refl
  put_lifted {R} (q ∷ qs) o = go q.holds (put_lifted qs o)
    where
      go : (b : Bool) → lifted (put qs o) ≡ put (map lifted_question qs) (lifted o)
          → lifted {R = R} (cond b (put qs o) (no_to q)) ≡ cond b (put (map lifted_question qs) (lifted o)) (no_to (lifted_question q))
      go true h = h
      go false h = refl

-- by what the player answers
module _ {S : Type 0} (c : Call Wire) (s : Interaction) (its : step c ≡ Some s) (e : Core S) where
  pub marked_so : (r : Answer) → r ≡ asked e.play s → marked c e ≡ record { answer = r; stored = []; left = record { play = moved e.play r; state = e.state } }
  marked_so (Ok u) h = stepping_on (λ x. x) (λ x _. x) c s its e [] (yes tt (stepped e.state e)) (sym h)
  marked_so (Err r) h = stepping_stops (λ x. x) (λ x _. x) c s its e refl [] (yes tt (stepped e.state e)) r (sym h)

module _ {S I : Type 0} (p : Sponge S I) (label : Text) (w : Wire) (e : Core S) where
  pub challenged_weak : w.bits < 128 → challenged p label w e ≡ record { answer = Err WeakCodec; stored = []; left = e }
  challenged_weak h = let t = lt-leb 128 w.bits h in rw t

  module _ (strong : 128 ≤ w.bits) where
    abbrev asking : List (Question (Core S))
    asking = stepping (λ x. x) (λ x _. x) (challenge label w) e

    abbrev drew : Outcome (List ℕ) (Core S)
    drew = yes (sample p w e.state) (stepped (sampled_state p w e.state) e)

    on : challenged p label w e ≡ put asking drew
    on = let t = le-leb 128 w.bits strong in rw t

    pub challenged_on : asked e.play (codec_step Challenge label w Scalar) ≡ Ok tt → challenged p label w e ≡ drew
    challenged_on h = on ∙ stepping_on (λ x. x) (λ x _. x) (challenge label w) (codec_step Challenge label w Scalar) refl e [] drew h

    pub challenged_stops : (r : TranscriptError) → asked e.play (codec_step Challenge label w Scalar) ≡ Err r
        → challenged p label w e ≡ record { answer = Err r; stored = []; left = stopped e }
    challenged_stops r h = on ∙ stepping_stops (λ x. x) (λ x _. x) (challenge label w) (codec_step Challenge label w Scalar) refl e refl [] drew r h
