-- Checked sums of parts by segments, after a carry: the whole number that the elements before the part add up to, which need not fit
-- 32 bits.
-- Source: Blelloch's prescan, over whole numbers; the fault is this library's profile.
use Rattle.std.specs.Prelude.{ℕ, ℤ, pos, ◌+ℤ◌, List, Result}
use Rattle.cvl_base.specs.declared.fault.Fault.{Fault}
use Rattle.cvl_base.specs.Gives.{◌>>=◌}
use Rattle.call_laws.specs.Carried.{seg_scan_after, seg_reduce_after}
use Rattle.part_calls.specs.Sums.{all_fitting}

-- the checked scan of each segment, the first after the carry
abbrev pub checked_seg_scan_after : ℤ → List ℤ → List ℕ → Result (List ℤ) Fault
checked_seg_scan_after carry xs lengths = seg_scan_after ◌+ℤ◌ (pos 0) carry xs lengths >>= all_fitting

-- the checked sum of each segment, the first with the carry
abbrev pub checked_seg_reduce_after : ℤ → List ℤ → List ℕ → Result (List ℤ) Fault
checked_seg_reduce_after carry xs lengths = seg_reduce_after ◌+ℤ◌ (pos 0) carry xs lengths >>= all_fitting
