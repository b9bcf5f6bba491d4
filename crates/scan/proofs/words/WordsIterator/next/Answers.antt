use Rattle.std.proofs.Common.{length, arith, rules, ap}
use Rattle.scan.proofs.Cuts.{words_none, words_next}
use Rattle.scan.proofs.words.WordsIterator.next.Goals as goal

pub returns-then-is_empty-clause-steps : goal.returns-then-is_empty-clause-steps
returns-then-is_empty-clause-steps c = words_none _ _ c.past_spaces-self.ensures (search rules)

pub returns-clause-steps : goal.returns-clause-steps
returns-clause-steps c =
    let past = c.past_spaces-self in
    search (rules, words_next c.args.self.now.rest.now past.result.now past.ensures c.first_of.result (search rules) (search rules))

pub returns-clause-goes : goal.returns-clause-goes
returns-clause-goes c =
    record { on = λ _. (tt, tt, omega (arith, ap length (returns-clause-steps c))); keeps = tt; rests = λ _. tt }
