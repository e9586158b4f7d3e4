-- Senders: for each place of a permute's result, the place whose element goes there.
-- Source: CVL's permute, d[i[k]] = s[k], in which k is the sender of its index.
use Rattle.std.specs.Prelude.{◌≡◌, ℕ, ◌+◌, ◌≤◌, ◌==◌, ℤ, pos, not, if◌then◌else◌, unsigned_abs, List, [], ◌∷◌, count_by, length, map}
use Rattle.std.specs.Prelude.{slice_index, Option, Some, None, Result, Ok, Err}
use Rattle.std.specs.List.{range_with_len}
use Rattle.cvl_base.specs.declared.fault.Fault.{Fault}
use Rattle.cvl_base.specs.declared.fault.FaultNo.{FaultNo}
use Rattle.cvl_base.specs.declared.fault.FaultNo.TheVariants.{IndexOutOfRange, IndexRepeated}
use Rattle.cvl_base.specs.Permutes.{first_fault, is_place, is_destination, wrongs}

-- nobody: the greatest number of 32 bits, which is no place
abbrev pub nobody : ℕ
nobody = 4294967295

-- the place of the first destination that is d; the first of all stands at the place given
abbrev pub sender_from : ℕ → List (Option ℤ) → ℕ → ℕ
sender_from place [] d = nobody
sender_from place (t ∷ ts) d = if is_destination (pos d) t then place else sender_from (place + 1) ts d

-- the senders of the places 0 to m - 1
abbrev pub senders_of : ℕ → List (Option ℤ) → ℕ → List ℕ
senders_of place destinations m = map (sender_from place destinations) (range_with_len 0 m)

-- what is wrong with an index, if the earlier places that take part are these senders
abbrev pub wrong_with : List ℕ → ℤ → Option FaultNo
wrong_with senders i =
    if not (is_place (length senders) i) then Some IndexOutOfRange
    else if not (slice_index senders (unsigned_abs i) == nobody) then Some IndexRepeated else None

-- the fault that was told, if one was
abbrev pub fault_told : {X : Type 0} → Result X Fault → Option Fault
fault_told (Ok x) = None
fault_told (Err f) = Some f

-- how many places have a sender
abbrev pub count_sent : List ℕ → ℕ
count_sent senders = count_by (λ s. not (s == nobody)) senders

-- The senders of the places 0 to m - 1, if so many destinations were stored, a later one over an earlier: at most as many places have a
-- sender. They are as many exactly if no destination was bad, and then each sender is the first.
pub record IsStored (place : ℕ) (destinations : List (Option ℤ)) (sent m : ℕ) (senders : List ℕ) : Type 0 where
  pub at_most : count_sent senders ≤ sent
  pub no_fault : count_sent senders ≡ sent → None ≡ first_fault place (wrongs m destinations)
  pub are_first : count_sent senders ≡ sent → senders ≡ senders_of place destinations m
  pub apart : None ≡ first_fault place (wrongs m destinations) → count_sent senders ≡ sent
