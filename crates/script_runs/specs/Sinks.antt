-- What a sink does: of some bytes it takes a front of one or more, or it fails, takes none and counts one failure; of no bytes it takes
-- none and does not fail.
-- Source: this library.
use Rattle.std.specs.Prelude.{ℕ, ◌≤◌, ◌<◌, List, length, take, Result, Ok, Err}
use Rattle.script_runs.specs.Hosts.{Seen, Shows, with_failures, with_output}
use Rattle.script_runs.specs.declared.sink.SinkFault.{SinkFault}

-- what a sink has taken after it was given bytes, by its answer
abbrev pub Puts : Seen → List ℕ → Result ℕ SinkFault → Seen → Type 0
Puts before bytes (Ok n) after =
    (n ≤ length bytes) × (0 < length bytes → 0 < n) × Shows (with_output (take n bytes) before) after
Puts before bytes (Err f) after = (0 < length bytes) × Shows (with_failures 1 before) after

-- the sink took all the bytes, or a beginning that is not the whole and then it failed
abbrev pub PutsAll : Seen → List ℕ → Result (Unit {0}) SinkFault → Seen → Type 0
PutsAll before bytes (Ok done) after = Shows (with_output bytes before) after
PutsAll before bytes (Err f) after =
    (n : ℕ) × (n < length bytes) × Shows (with_failures 1 (with_output (take n bytes) before)) after
