use Rattle.cvl_base.specs.Scans.{bool_join_of, bool_unit_of, int_join_of, int_unit_of}
use Rattle.c_calls.specs.Numbers.{bool_binary, int_monoid}
use Rattle.step_laws.proofs.CombineFaults.{by_rooms}
use Rattle.step_laws.proofs.combines.combine_faults.Goals as goal

pub returns : goal.returns
returns c = record {
  integers = λ op k start own room left status here many few few_places fits told fails.
      by_rooms int_unit_of int_join_of start k own here many few room few_places (int_monoid op) status left fits told fails;
  booleans = λ op k start own room left status here many few few_places fits told fails.
      by_rooms bool_unit_of bool_join_of start k own here many few room few_places (bool_binary op) status left fits told fails;
}
