use Rattle.permute_walks.proofs.Cited.{◌∙◌, arith, ap, sym, Err, IndexOutOfRange, found_within}
use Rattle.permute_walks.proofs.TakenOr.{all_taken, not_taken}
use Rattle.permute_walks.proofs.takes.take_in_runs.Goals as goal

pub overflow_cast-place : goal.overflow_cast-place
overflow_cast-place g c =
    omega (arith, found_within 0 c.in-Some.place (g.W.CheckedWriter.values c.args.writer.now) (sym c.in_ok-elements.ensures.found ∙ c.in-Some.is), c.requires.as_long, c.requires.few)

pub returns-in-None-clause-values : goal.returns-in-None-clause-values
returns-in-None-clause-values g c =
    let values = g.W.CheckedWriter.values c.args.writer.now in
    all_taken IndexOutOfRange values c.in_ok-elements.found c.in_ok-elements.ensures.found c.requires.written.0 _ c.in-None.is (c.in_ok-elements.ensures.items ∙ c.requires.written.1)

pub returns-in-Some-clause-values : goal.returns-in-Some-clause-values
returns-in-Some-clause-values g c =
    let values = g.W.CheckedWriter.values c.args.writer.now in
    not_taken IndexOutOfRange values c.in_ok-elements.found c.in_ok-elements.ensures.found c.in-Some.place c.in-Some.is ∙ ap (λ f. Err f) (sym c.at.ensures)
