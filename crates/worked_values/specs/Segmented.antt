-- The segmented scans and reduces of each operator.
-- Source: CVL's segmented scans and reduces.
use Rattle.std.specs.Prelude.{ℕ, ℤ, Bool, List, Result}
use Rattle.cvl_base.specs.declared.families.BoolBinary.{BoolBinary}
use Rattle.cvl_base.specs.declared.families.IntMonoid.{IntMonoid}
use Rattle.cvl_base.specs.declared.fault.Fault.{Fault}
use Rattle.cvl_base.specs.Scans.{bool_join_of, bool_unit_of, int_join_of, int_unit_of}
use Rattle.cvl_base.specs.SegmentedCalls.{seg_reduce_of, seg_scan_of}

-- the segmented scan by an operator on integers
abbrev pub int_seg_scan_of : IntMonoid → List ℤ → List ℕ → Result (List ℤ) Fault
int_seg_scan_of operator xs lengths = seg_scan_of (int_join_of operator) (int_unit_of operator) xs lengths

-- the segmented reduce by an operator on integers
abbrev pub int_seg_reduce_of : IntMonoid → List ℤ → List ℕ → Result (List ℤ) Fault
int_seg_reduce_of operator xs lengths = seg_reduce_of (int_join_of operator) (int_unit_of operator) xs lengths

-- the segmented scan by an operator on booleans
abbrev pub bool_seg_scan_of : BoolBinary → List Bool → List ℕ → Result (List Bool) Fault
bool_seg_scan_of operator xs lengths = seg_scan_of (bool_join_of operator) (bool_unit_of operator) xs lengths

-- the segmented reduce by an operator on booleans
abbrev pub bool_seg_reduce_of : BoolBinary → List Bool → List ℕ → Result (List Bool) Fault
bool_seg_reduce_of operator xs lengths = seg_reduce_of (bool_join_of operator) (bool_unit_of operator) xs lengths
