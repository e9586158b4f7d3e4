use Rattle.std.proofs.Common.{subst}
use Rattle.call_table.specs.declared.families.BoolBinary.{BoolBinary}
use Rattle.call_table.specs.declared.families.IntMonoid.{IntMonoid}
use Rattle.cvl_base.specs.Scans.{bool_join_of, bool_unit_of, int_join_of, int_unit_of}
use Rattle.step_laws.proofs.AnyOrder.{in_any_order}
use Rattle.step_laws.proofs.Operators.{any_booleans, as_flags, bool_laws, int_laws}
use Rattle.step_laws.proofs.Parted.{each-also}
use Rattle.step_laws.proofs.Scanned.{told-sum}
use Rattle.step_laws.proofs.SegScanned.{Sums, seg_scans}
use Rattle.step_laws.specs.Pieces.{since_start}
use Rattle.step_laws.specs.SegmentSteps.{BoolSegReduces, BoolSegScans, IntSegReduces, IntSegScans, elements_of}
use Rattle.c_calls.specs.Numbers.{bool_binary, int_monoid}
use Rattle.c_calls.specs.Told.{Told, done}
use Rattle.step_laws.proofs.seg_scans.seg_scans_by_steps.Goals as goal

pub returns : goal.returns
returns c = record {
  integers = λ op lengths segments start summed carried end are cut items rooms first carries last.
      seg_scans int_unit_of int_join_of int_laws (int_monoid op) lengths segments start summed carried end are cut items rooms
      (λ (o : IntMonoid) is. each-also (IntSegReduces op) (Sums int_unit_of int_join_of int_laws o)
      (λ own left does. (told-sum int_unit_of int_join_of int_laws (int_monoid op) o is (since_start own.piece) own.told left.told does.0, does.1))
      start summed (in_any_order (IntSegReduces op) start summed first))
      carries.0 carries.1 (in_any_order (IntSegScans op) carried end last);
  booleans = λ op lengths segments start summed carried end are cut rooms first carries last.
      seg_scans bool_unit_of bool_join_of bool_laws (bool_binary op) lengths segments start summed carried end are cut (any_booleans (elements_of start)) rooms
      (λ (o : BoolBinary) is. each-also (BoolSegReduces op) (Sums bool_unit_of bool_join_of bool_laws o)
      (λ own left does.
      let flags = subst (λ m. Told m done own.told left.told) (as_flags (bool_binary op) does.0.0 (since_start own.piece) does.0.1) does.0.2 in
      (told-sum bool_unit_of bool_join_of bool_laws (bool_binary op) o is (since_start own.piece) own.told left.told flags, does.1))
      start summed (in_any_order (BoolSegReduces op) start summed first))
      carries.0 carries.1 (in_any_order (BoolSegScans op) carried end last);
}
