use Rattle.std.proofs.Common.{◌≡◌, map, take, unwrap_or, vec_len, vec_capacity}
use Rattle.permute_walks.specs.Senders.{nobody}
use Rattle.permute_races.proofs.senders.senders_told.Given as goal

abbrev pub invariant-loop-slot : goal.invariant-loop-slot
invariant-loop-slot g l = record {
  items : l.senders.items ≡ map (λ least. unwrap_or least nobody) (take l.slot l.leasts);
  len : vec_len l.senders ≡ l.slot;
  room : vec_capacity l.senders ≡ l.places;
}
