use Rattle.std.proofs.Common.{◌+◌, ◌∷◌, take, ap, ◌∙◌, sym, rules}
use Rattle.scan.specs.Lines.{lines}
use Rattle.scan.proofs.Cuts.{got_rest, lines_none, lines_next}
use Rattle.scan.proofs.lines.LinesIterator.next.Goals as goal

pub returns-then-is_empty-clause-steps : goal.returns-then-is_empty-clause-steps
returns-then-is_empty-clause-steps c = search (rules, lines_none)

pub returns-clause-steps : goal.returns-clause-steps
returns-clause-steps c =
    let text = c.args.self.now.rest.now in
    let end = c.first_of-end.result in
    lines_next text end (search rules) (search rules) ∙
    ap (λ rest. take end text ∷ lines rest) (sym (ap (λ rest. rest.now) c.unwrap_or-self.ensures ∙ got_rest text (end + 1) c.get.result _ (search rules) (search rules)))
