-- Where the runs of each part go in one room, and how many elements the last run of each part has in later parts.
-- Source: Blelloch, Prefix Sums and Their Applications, 1990: a pack puts elements where the scan of the counts says; reduce_by_key of
-- Thrust over tiles.
use Rattle.std.specs.Prelude.{ℕ, ◌+◌, ◌-◌, ◌&&◌, ◌==◌, nat_lt, not, if◌then◌else◌, List, [], ◌∷◌, drop, length, sum, Result, Ok, Err}
use Rattle.std.specs.List.{zip}
use Rattle.cvl_base.specs.declared.fault.Fault.{Fault}
use Rattle.cvl_base.specs.declared.fault.FaultNo.TheVariants as no
use Rattle.cvl_base.specs.Faults.{fault}
use Rattle.cvl_base.specs.Gives.{◌>>=◌, fault_if}
use Rattle.cvl_base.specs.Limits.{most_places}
use Rattle.part_records.specs.Places.{Layout, fits_room, layout, layout_of}

-- where the next run begins behind some place: at the first begin that is before its part's end, or at the whole's end if no run begins.
-- Each part behind the place is a pair of its begin and its end
abbrev pub next_begin : ℕ → List (ℕ × ℕ) → ℕ
next_begin whole [] = whole
next_begin whole ((begin, end) ∷ parts) = if nat_lt begin end then begin else next_begin whole parts

-- how many elements are behind each part up to where the next run begins
abbrev pub run_behinds : ℕ → List (ℕ × ℕ) → List ℕ
run_behinds whole [] = []
run_behinds whole ((begin, end) ∷ parts) = (next_begin whole parts - end) ∷ run_behinds whole parts

-- the last place, or the one before if there is no other
abbrev pub last_or : ℕ → List ℕ → ℕ
last_or before [] = before
last_or before (place ∷ places) = last_or place places

-- where the runs of each part go, and what goes on behind each part
pub record RunLayout : Type 0 where
  pub layout : Layout
  pub behinds : List ℕ

-- of these numbers
abbrev pub run_layout : List ℕ → ℕ → List ℕ → RunLayout
run_layout places total behinds = record { layout = layout places total; behinds = behinds }

-- of parts with so many runs, of which the first ones begin at `begins`; the parts begin at `from`, which has the whole's end behind them
abbrev pub run_layout_of : List ℕ → List ℕ → List ℕ → RunLayout
run_layout_of counts begins from =
    record { layout = layout_of counts; behinds = run_behinds (last_or 0 from) (zip begins (drop 1 from)) }

-- the same into records of so many places; or TooLong if there are more runs than a vector has elements, and LengthMismatch if the records
-- have not one place for each part, and one more where that is asked for
abbrev pub run_layout_by : ℕ → ℕ → List ℕ → List ℕ → List ℕ → Result RunLayout Fault
run_layout_by places behinds counts begins from =
    fault_if (nat_lt most_places (sum counts)) (fault no.TooLong)
    (fault_if (not (length begins == length counts && (length from == length counts + 1)
    && (places == length counts + 1) && (behinds == length counts))) (fault no.LengthMismatch)
    (Ok (run_layout_of counts begins from)))

-- the layout, or what stood there before
abbrev pub run_layout_or : RunLayout → Result RunLayout Fault → RunLayout
run_layout_or before (Ok now) = now
run_layout_or before (Err f) = before

-- the fault of lengths that differ if a room has fewer places than there are runs
abbrev pub runs_fitted : ℕ → Result RunLayout Fault → Result (Unit {0}) Fault
runs_fitted room meaning = meaning >>= λ now. fits_room room now.layout
