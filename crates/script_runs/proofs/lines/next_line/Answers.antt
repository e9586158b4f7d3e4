use Rattle.std.proofs.Common.{sym}
use Rattle.script_runs.proofs.Cuts.{last_line, first_line}
use Rattle.script_runs.proofs.lines.next_line.Goals as goal

pub returns-in-None-clause-lines : goal.returns-in-None-clause-lines
returns-in-None-clause-lines c =
    let e = last_line c.args.script.now (sym c.in-None.ensures) in cc

pub returns-in-Some-clause-lines : goal.returns-in-Some-clause-lines
returns-in-Some-clause-lines c =
    let e = first_line c.args.script.now c.in-Some.at (sym c.in-Some.ensures) in
    rw (c.without_carriage_return-in-Some.ensures, c.split_at.ensures.front, c.split_at-in-Some.ensures.back) e
