-- Scans that continue from what stands before. A scan in parts is the scan of the whole by the law `know_scans_in_parts` of `call_laws`.
-- Source: Blelloch, Prefix Sums and Their Applications, 1990.
use Rattle.std.specs.Prelude.{Bool, ℤ, List}
use Rattle.call_table.specs.declared.families.IntMonoid.{IntMonoid}
use Rattle.call_table.specs.declared.families.BoolBinary.{BoolBinary}
use Rattle.cvl_base.specs.Folds.{scan_of}
use Rattle.cvl_base.specs.Scans.{bool_join_of, int_join_of}

-- at each place `before`, joined with the integers before the place
abbrev pub int_scan_after : IntMonoid → ℤ → List ℤ → List ℤ
int_scan_after operator before xs = scan_of (int_join_of operator) before xs

-- at each place `before`, joined with the booleans before the place
abbrev pub bool_scan_after : BoolBinary → Bool → List Bool → List Bool
bool_scan_after operator before xs = scan_of (bool_join_of operator) before xs
