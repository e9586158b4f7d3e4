use Rattle.std.proofs.Common.{◌≡◌, ◌≤◌, List, take, length, vec_capacity}
use Rattle.clap.specs.Walk.{texts}
use Rattle.script_runs.specs.Hosts.{Read, Shows, with_reads}
use Rattle.shell.specs.Programs.{GaveInputs}
use Rattle.shell.proofs.files.read_inputs.Given as goal

-- the names so far were read, and gave the inputs
abbrev pub invariant-loop-name : goal.invariant-loop-name
invariant-loop-name g l =
    record {
      reads : List Read;
      gave : GaveInputs (texts (take l.name-index l.names)) reads l.inputs.items;
      shown : Shows (with_reads reads (g.H.Sink.seen l.initial.host)) (g.H.Sink.seen l.host);
      count : length l.inputs.items ≡ l.name-index;
      room : length l.names ≤ vec_capacity l.inputs;
    }
