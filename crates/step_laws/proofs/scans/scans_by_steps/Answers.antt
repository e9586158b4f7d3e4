use Rattle.call_table.specs.declared.families.BoolBinary.{BoolBinary}
use Rattle.call_table.specs.declared.families.IntMonoid.{IntMonoid}
use Rattle.cvl_base.specs.Scans.{bool_join_of, bool_unit_of, int_join_of, int_unit_of}
use Rattle.step_laws.proofs.AnyOrder.{in_any_order}
use Rattle.step_laws.proofs.Operators.{any_booleans, bool_laws, bool_sums, int_laws, int_sums}
use Rattle.step_laws.proofs.Scanned.{scans}
use Rattle.step_laws.specs.FlatSteps.{BoolReduces, BoolScans, IntReduces, IntScans}
use Rattle.c_calls.specs.Numbers.{bool_binary, int_monoid}
use Rattle.step_laws.specs.Parts.{elements_of}
use Rattle.step_laws.proofs.scans.scans_by_steps.Goals as goal

pub returns : goal.returns
returns c = record {
  integers = λ op start summed carried end items few rooms first carries last.
      scans int_unit_of int_join_of int_laws (int_monoid op) start summed carried end items few rooms
      (λ (o : IntMonoid) is. int_sums op o is start summed (in_any_order (IntReduces op) start summed first))
      carries.0 carries.1 (in_any_order (IntScans op) carried end last);
  booleans = λ op start summed carried end few rooms first carries last.
      scans bool_unit_of bool_join_of bool_laws (bool_binary op) start summed carried end (any_booleans (elements_of start)) few rooms
      (λ (o : BoolBinary) is. bool_sums op o is start summed (in_any_order (BoolReduces op) start summed first))
      carries.0 carries.1 (in_any_order (BoolScans op) carried end last);
}
