use Rattle.checked_tile_scans.proofs.Cited.{is_number, rules, list_all-from_AllPass}
use Rattle.checked_tile_scans.proofs.tile_totals.Totals.new.Goals as goal

pub invariant_of-result : goal.invariant_of-result
invariant_of-result g c = record {
  numbers = list_all-from_AllPass is_number c.args.elements.now c.know_numbers.ensures;
  agrees = c.requires.agrees;
  whole = search rules;
  few = search rules;
  some = search rules;
}
