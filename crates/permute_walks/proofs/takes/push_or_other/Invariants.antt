use Rattle.permute_walks.proofs.Cited.{◌≡◌, ◌+◌, length, map, take, element_at, first_without, with_items, each_or}
use Rattle.permute_walks.proofs.takes.push_or_other.Given as goal

abbrev pub invariant-loop-i : goal.invariant-loop-i
invariant-loop-i g l =
    let values = map (element_at l.source) (take l.i-index l.index) in
    record {
      taken : l.run ≡ with_items l.fn.run (each_or l.other values);
      found : l.found ≡ first_without (l.fn.run.first + length l.fn.run.items) values;
    }
