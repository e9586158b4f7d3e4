-- The text of a stop.
-- Source: this library's program.
use Rattle.std.specs.Prelude.{ℕ, List, ◌++◌, codes}
use Rattle.std.specs.Fmt.{decimal}
use Rattle.cvl_base.specs.Faults.{fault_text}
use Rattle.script_runs.specs.declared.stop.Stop.{Stop}
use Rattle.script_runs.specs.declared.stop.Stop.TheVariants as stop

-- the line of a stop
abbrev pub line_of : Stop → ℕ
line_of (stop.Script line f) = line
line_of (stop.NoResources line) = line
line_of (stop.WriteFailed line) = line

-- why a run stopped, in words
abbrev pub reason_text : Stop → List ℕ
reason_text (stop.Script line f) = fault_text f
reason_text (stop.NoResources line) = codes "no resources"
reason_text (stop.WriteFailed line) = codes "write failed"

-- the text of a stop: the line and the reason
abbrev pub stop_text : Stop → List ℕ
stop_text why = codes "line " ++ decimal (line_of why) ++ codes ": " ++ reason_text why

-- the same as a line of standard error
abbrev pub stop_line : Stop → List ℕ
stop_line why = stop_text why ++ codes "\n"
