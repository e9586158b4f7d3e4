use Rattle.explanations.specs.ArgumentLines.{names_in}
use Rattle.explanations.proofs.Walks.{line_more}
use Rattle.explanations.proofs.argument_lines.put_arguments.Goals as goal

pub loop-place-preserved : goal.loop-place-preserved
loop-place-preserved g c =
    line_more c.args.session.now.names (names_in c.args.files.now) c.args.bindings.now c.args.args.now c.loop-place.place c.index-args-place.result _ _ _
    c.loop-place-test.true c.index-args-place.is c.loop-place.invariant c.in_ok-put_new_line.ensures
