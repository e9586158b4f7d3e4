use Rattle.std.proofs.Common.{[], Some, arith, vec_capacity}
use Rattle.clap.specs.Walk.{texts}
use Rattle.script_runs.proofs.Shown.{reads_both, tells_after}
use Rattle.shell.specs.Programs.{unreadable_line}
use Rattle.shell.proofs.NamedFiles.{missed_fits, stops_first, stops_later}
use Rattle.shell.proofs.Explained.{files_explained, missed_explained, starved_explained}
use Rattle.shell.proofs.Performed.{misses, runs_files}
use Rattle.shell.proofs.programs.run_files.Goals as goal

pub miss-requires-clause-fits : goal.miss-requires-clause-fits
miss-requires-clause-fits g c κs within = c.in-Ok.ensures.line_fits 0 [] (omega arith)

pub miss-requires-in-Err-read_inputs-clause-fits : goal.miss-requires-in-Err-read_inputs-clause-fits
miss-requires-in-Err-read_inputs-clause-fits g c κs within =
    let unread = c.in-Err-read_inputs.unread in
    let missed = rw c.as_slice.ensures.value at c.in-Err-read_inputs.ensures.missed in
    missed_fits (vec_capacity c.in-Ok.room.line) c.args.words.now.script.now (texts c.args.words.now.inputs.items) missed.0 unread.name.now unread.why missed.1
    c.in-Ok.ensures.line_fits

pub returns-in-Err : goal.returns-in-Err
returns-in-Err g c =
    let script = c.args.words.now.script.now in
    let names = texts c.args.words.now.inputs.items in
    let stops = stops_first script names c.in-Err.why in
    let told = c.miss.ensures in
    record {
      plain = λ no. misses g.row.A.Denot script names _ _ _ _ _ c.miss.result stops (tells_after (Some (unreadable_line script)) _ _ _ c.in-Err.ensures (told.plain no)) told.status;
      explaining = λ yes. missed_explained script names _ _ _ _ _ _ c.miss.result stops c.in-Err.ensures (told.explaining yes) told.status;
    }

pub returns-in-Err-read_inputs : goal.returns-in-Err-read_inputs
returns-in-Err-read_inputs g c =
    let unread = c.in-Err-read_inputs.unread in
    let missed = rw c.as_slice.ensures.value at c.in-Err-read_inputs.ensures.missed in
    let script = c.args.words.now.script.now in
    let names = texts c.args.words.now.inputs.items in
    let stops = stops_later script c.in-Ok-read_file.text.items names missed.0 unread.name.now unread.why missed.1 in
    let shown = reads_both _ missed.0 _ _ _ c.in-Ok-read_file.ensures missed.2 in
    let told = c.miss-in-Err-read_inputs.ensures in
    record {
      plain = λ no. misses g.row.A.Denot script names _ _ _ _ _ c.miss-in-Err-read_inputs.result stops
          (tells_after (Some (unreadable_line unread.name.now)) _ _ _ shown (told.plain no)) told.status;
      explaining = λ yes. missed_explained script names _ _ _ _ _ _ c.miss-in-Err-read_inputs.result stops shown (told.explaining yes) told.status;
    }

pub returns-in-Ok-read_inputs : goal.returns-in-Ok-read_inputs
returns-in-Ok-read_inputs g c =
    let read = rw c.as_slice.ensures.value at c.in-Ok-read_inputs.ensures.read in
    let closed = rw c.as_slice-in-Ok-read_inputs.ensures.value at c.run_inputs.ensures.plain in
    let explained = rw c.as_slice-in-Ok-read_inputs.ensures.value at c.run_inputs.ensures.explaining in
    let script = c.args.words.now.script.now in
    let names = texts c.args.words.now.inputs.items in
    record {
      plain = λ no. runs_files g.row.A.Denot script names c.in-Ok-read_file.text.items c.in-Ok-read_inputs.inputs.items _ _ _ _ c.run_inputs.result c.in-Ok-read_file.ensures read (closed no);
      explaining = λ yes. files_explained script names c.in-Ok-read_file.text.items c.in-Ok-read_inputs.inputs.items _ _ _ _ c.run_inputs.result c.in-Ok-read_file.ensures read (explained yes);
    }

pub returns-in_default-clause-explaining : goal.returns-in_default-clause-explaining
returns-in_default-clause-explaining g c = λ yes.
    starved_explained c.args.words.now.script.now (texts c.args.words.now.inputs.items) _ _ c.starve.result (c.starve.ensures.explaining yes)
