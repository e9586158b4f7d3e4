use Rattle.std.proofs.Common.{◌≡◌, ℕ, ◌≤◌, List, [], length, refl}
use Rattle.std.proofs.lemmas.Bool.{le-ltb}
use Rattle.cvl_base.specs.Limits.{most_script_bytes}
use Rattle.vector_handles.specs.declared.input.Input.{Input}
use Rattle.script_runs.specs.Meaning.{from_line, lines_of, meaning}
use Rattle.script_runs.proofs.Underway.{refused_first}
use Rattle.script_runs.proofs.runs.run_gated.Goals as goal

-- the meaning of a script that is not too long
meaning_in_limit : {A : Type 0} (script : List ℕ) (inputs : List (Input A)) → length script ≤ most_script_bytes
    → meaning script inputs ≡ from_line 1 [] inputs (lines_of script)
meaning_in_limit script inputs within = rw (le-ltb most_script_bytes (length script) within) refl

pub returns-in-Ok : goal.returns-in-Ok
returns-in-Ok g c =
    rw (meaning_in_limit c.args.script.now c.args.inputs.items c.if-script-gt-MOST_SCRIPT_BYTES.false)
    (rw (c.in-Ok.ensures.names, c.in-Ok.ensures.inputs) at c.run_lines.ensures.runs)

pub returns-in-Err : goal.returns-in-Err
returns-in-Err g c = refused_first (meaning c.args.script.now c.args.inputs.items) (g.S.Sink.seen c.args.sink.now)
