use Rattle.tile_scans.proofs.Cited.{rules, list_all-from_AllPass}
use Rattle.tile_scans.proofs.tiled.Tiled.new.Goals as goal

pub invariant_of-result : goal.invariant_of-result
invariant_of-result g c = record {
  items = list_all-from_AllPass (λ x. g.M.Monoid.is_item (g.E.Reading.item x)) c.args.elements.now c.requires.items;
  agrees = c.requires.agrees;
  whole = search rules;
  few = search rules;
  some = search rules;
}
