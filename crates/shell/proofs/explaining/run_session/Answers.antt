use Rattle.std.proofs.Common.{None, Some, refl, subst}
use Rattle.clap.specs.Walk.{texts}
use Rattle.script_runs.proofs.Shown.{shows_same}
use Rattle.shell.proofs.Explained.{closes_and_explains, leaves_names, runs_meaning, same_explained}
use Rattle.shell.specs.Programs.{SaysWhy}
use Rattle.shell.proofs.explaining.run_session.Goals as goal

pub returns-in-None : goal.returns-in-None
returns-in-None g c =
    let ran = runs_meaning c.args.script.now c.args.session.inputs c.args.session.names _ _ _ c.requires.short c.requires.unbound c.run_lines-answer.ensures.runs in
    closes_and_explains (texts c.args.files.now) c.args.script.now c.args.session.inputs _ _ _ _ _ ran.written c.run_lines-answer.result None None
    ran.ends ran.shown c.in-None.ensures refl refl (shows_same _)

pub returns : goal.returns
returns g c =
    let script = c.args.script.now in
    let files = texts c.args.files.now in
    let inputs = c.args.session.inputs in
    let ran = runs_meaning script inputs c.args.session.names _ _ _ c.requires.short c.requires.unbound c.run_lines-answer.ensures.runs in
    let left = leaves_names script inputs c.args.session.names _ c.run_lines-answer.result c.requires.short c.requires.unbound c.run_lines-answer.ensures.names in
    let told = rw c.run_lines-answer.ensures.inputs at c.tell_explained.ensures in
    let same = same_explained c.run_lines-answer.new.session.names _ files inputs script c.run_lines-answer.result c.in-Some.ensures.flushed c.in-Some.stop
    left c.in-Some.ensures.end_is in
    closes_and_explains files script inputs _ _ _ _ _ ran.written c.run_lines-answer.result (Some c.in-Some.stop) told.0
    ran.ends ran.shown c.in-Some.ensures c.status_of.ensures (subst (λ text. SaysWhy c.in-Some.stop text told.0) same told.1) told.2
