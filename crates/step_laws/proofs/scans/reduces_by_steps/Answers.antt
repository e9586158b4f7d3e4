use Rattle.std.proofs.Common.{subst, sym}
use Rattle.c_calls.specs.Told.{Told, done}
use Rattle.c_calls.specs.Numbers.{bool_binary}
use Rattle.call_table.specs.declared.families.BoolBinary.{BoolBinary}
use Rattle.cvl_base.specs.Scans.{bool_join_of, bool_unit_of}
use Rattle.step_laws.proofs.Operators.{any_booleans, as_flags, bool_laws, bool_sums}
use Rattle.step_laws.specs.FlatSteps.{BoolReduces}
use Rattle.step_laws.specs.Parts.{elements_of, told_of}
use Rattle.call_table.specs.declared.families.IntMonoid.{IntMonoid}
use Rattle.cvl_base.specs.Scans.{int_join_of, int_unit_of}
use Rattle.step_laws.proofs.AnyOrder.{in_any_order}
use Rattle.step_laws.proofs.Operators.{int_laws, int_sums}
use Rattle.step_laws.proofs.Scanned.{reduces}
use Rattle.step_laws.specs.FlatSteps.{IntReduces}
use Rattle.c_calls.specs.Numbers.{int_monoid}
use Rattle.step_laws.proofs.scans.reduces_by_steps.Goals as goal

pub returns : goal.returns
returns c = record {
  integers = λ op start summed before now items few first joins.
      reduces int_unit_of int_join_of int_laws (int_monoid op) start summed before now items few
      (λ (o : IntMonoid) is. int_sums op o is start summed (in_any_order (IntReduces op) start summed first)) joins;
  booleans = λ op start summed bytes sums before now same told_same few first joins.
      let joined_flags = subst (λ m. Told m done before now) (as_flags (bool_binary op) sums (told_of summed) told_same) joins in
      subst (λ m. Told m done before now) (sym (as_flags (bool_binary op) bytes (elements_of start) same))
      (reduces bool_unit_of bool_join_of bool_laws (bool_binary op) start summed before now (any_booleans (elements_of start)) few
      (λ (o : BoolBinary) is. bool_sums op o is start summed (in_any_order (BoolReduces op) start summed first)) joined_flags);
}
