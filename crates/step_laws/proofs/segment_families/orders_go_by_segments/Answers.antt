use Rattle.std.proofs.Common.{map, pos}
use Rattle.orders.specs.Orders.{order_of, rank_of, sorted_of}
use Rattle.step_laws.proofs.Families.{ordered-in, ordered-into}
use Rattle.step_laws.proofs.segment_families.orders_go_by_segments.Goals as goal

pub returns : goal.returns
returns g c = record {
  order = λ parts keys lengths room segments are few fit many. ordered-into parts keys lengths segments are few fit (λ ks. map pos (order_of ks)) room many;
  rank = λ parts keys lengths room segments are few fit many. ordered-into parts keys lengths segments are few fit (λ ks. map pos (rank_of ks)) room many;
  sort = λ parts keys lengths room segments are few fit many. ordered-into parts keys lengths segments are few fit sorted_of room many;
  sort_in = λ parts keys lengths segments are few fit. ordered-in parts keys lengths segments are few fit sorted_of;
}
