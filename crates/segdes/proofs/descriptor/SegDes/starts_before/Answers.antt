use Rattle.segdes.proofs.Cited.{ℕ, List, map, unsigned_abs, sym, subst, ltb, arith, rules}
use Rattle.std.proofs.lemmas.List.Sorted.{IsPartitionPoint-from_clause, IsPartitionedBy-ltb}
use Rattle.segdes.specs.Starts.{AreStarts}
use Rattle.segdes.proofs.Searched.{starts_rise, before_found, after_found}
use Rattle.segdes.proofs.descriptor.SegDes.starts_before.Goals as goal

pub returns : goal.returns
returns g c =
    let starts = c.as_slice.result.now in
    let place = c.args.place in
    let kept = subst (λ (xs : List ℕ). AreStarts (map unsigned_abs c.self.inside.lengths.items) xs) (sym c.as_slice.ensures.value) c.self.invariant.1.starts_are in
    let are = subst (λ (ns : List ℕ). AreStarts ns starts) c.self.view_is kept in
    let parted = IsPartitionedBy-ltb (λ n. n) starts place (starts_rise _ starts are) in
    let point = IsPartitionPoint-from_clause (λ n. ltb n place) starts _ c.partition_point.ensures.partitioned parted (λ a r q k. search rules) in
    record {
      in_count = omega (arith, are.one_each, c.partition_point.ensures.bound);
      before = before_found _ starts place _ are c.partition_point.ensures.bound point;
      others = after_found _ starts place _ are c.partition_point.ensures.bound point;
    }
