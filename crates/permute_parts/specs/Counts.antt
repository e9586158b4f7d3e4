-- What the parts of a permute count, put together: whether as many places got an element as take part.
-- Source: CVL's permutes, which have a result only if no index is outside or repeated; the counts of parts are this library's.
use Rattle.std.specs.Prelude.{ℕ, ◌==◌, ℤ, not, List, sum, Result, Ok}
use Rattle.c_calls.specs.Calls.{lengths_of}
use Rattle.cvl_base.specs.declared.fault.Fault.{Fault}
use Rattle.cvl_base.specs.declared.fault.FaultNo.TheVariants.{LengthMismatch}
use Rattle.cvl_base.specs.Faults.{fault}
use Rattle.cvl_base.specs.Gives.{◌>>=◌, fault_if}

-- the fault of numbers that differ, unless the counts add up to what is wanted
abbrev pub all_sent_of : List ℕ → ℕ → Result (Unit {0}) Fault
all_sent_of counts wanted = fault_if (not (sum counts == wanted)) (fault LengthMismatch) (Ok tt)

-- the same of counts of true flags, each told as an integer; they add up to no more than a vector may have elements
abbrev pub trues_fit_of : List ℤ → ℕ → Result (Unit {0}) Fault
trues_fit_of trues places = lengths_of trues >>= λ counts. all_sent_of counts places

-- the same of counts that have to add up to what the counts of true flags do
abbrev pub all_flagged_of : List ℕ → List ℤ → Result (Unit {0}) Fault
all_flagged_of counts trues = lengths_of trues >>= λ flagged. all_sent_of counts (sum flagged)
