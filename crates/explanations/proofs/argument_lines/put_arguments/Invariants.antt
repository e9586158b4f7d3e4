use Rattle.std.proofs.Common.{◌≡◌, ◌++◌, drop, take}
use Rattle.explanations.specs.ArgumentLines.{argument_lines, argument_lines_after, names_in}
use Rattle.explanations.proofs.argument_lines.put_arguments.Given as goal

abbrev pub invariant-loop-place : goal.invariant-loop-place
invariant-loop-place g l =
    l.text.items ++ argument_lines_after (take l.place l.args) l.session.names (names_in l.files) l.bindings (drop l.place l.args)
    ≡ l.initial.text.items ++ argument_lines l.session.names (names_in l.files) l.bindings l.args
