use Rattle.permute_walks.proofs.Cited.{◌≡◌, ◌+◌, None, length, map, take, element_at, first_without, with_items, each_or}
use Rattle.permute_walks.proofs.takes.OneByOnePushAt.push_at.Given as goal

abbrev pub invariant-loop-k : goal.invariant-loop-k
invariant-loop-k g l =
    let values = map (element_at l.source) (take l.k l.index) in
    record {
      taken : l.run ≡ with_items l.fn.run (each_or l.other values);
      found : None ≡ first_without (l.fn.run.first + length l.fn.run.items) values;
    }
