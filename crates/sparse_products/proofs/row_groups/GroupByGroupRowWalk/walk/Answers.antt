use Rattle.sparse_products.proofs.Cited.{rules, ◌≡◌, ◌+◌, ◌-◌, ◌++◌, length, length-append, drop, map, take, unsigned_abs, ap, ◌∙◌, arith, sum, zip, length-map, map-append, cut_of, length-cut}
use Rattle.sparse_products.proofs.Cited.{range_left, range_lengths, range_read, written_more, row_item, row_value, wrapping, zip_drop, zip_take}
use Rattle.sparse_products.proofs.Answered.{found_both}
use Rattle.sparse_products.proofs.Cuts.{cut_group}
use Rattle.sparse_products.proofs.row_groups.GroupByGroupRowWalk.walk.Goals as goal

pub entries_of-entries-requires : goal.entries_of-entries-requires
entries_of-entries-requires c = search (rules, range_lengths)

pub split_at-requires : goal.split_at-requires
split_at-requires c =
    let row = c.args.rows.now.lengths.now in
    let lengths = map unsigned_abs row in
    let first = c.loop-first.first in
    let k = c.min-next.result - first in
    let read = range_read row lengths first k c.args.rows.now.are_lengths.none_negative in
    omega (arith, c.entries_of-entries.ensures, ap sum read, range_left lengths first k c.min-next.result (omega (arith, c.min-next.ensures, c.loop-first-test.true)), c.loop-first.invariant.covered)

pub invariant_of-group : goal.invariant_of-group
invariant_of-group c = record {
  are_lengths = search (rules, range_lengths);
  as_many = omega (arith, c.split_at.ensures.front_len, c.split_at-in-loop-first.ensures.front_len);
  covered = omega (arith, c.entries_of-entries.ensures, c.split_at.ensures.front_len);
}

pub loop-first-preserved : goal.loop-first-preserved
loop-first-preserved c =
    let x = c.args.x.now in
    let row = c.args.rows.now.lengths.now in
    let lengths = map unsigned_abs row in
    let first = c.loop-first.first in
    let next = c.min-next.result in
    let k = next - first in
    let run = c.loop-first.run in
    let group = map unsigned_abs (take k (drop first row)) in
    let read : group ≡ take k (drop first lengths) = range_read row lengths first k c.args.rows.now.are_lengths.none_negative in
    let later : next ≡ first + k = omega (arith, c.min-next.ensures, c.loop-first-test.true) in
    let n = c.entries_of-entries.result in
    let cs = c.loop-first.columns_left.now in
    let vs = c.loop-first.values_left.now in
    let front = zip c.split_at.result.0.now c.split_at-in-loop-first.result.0.now in
    let others = zip c.split_at.result.1.now c.split_at-in-loop-first.result.1.now in
    let rows = cut_of group front in
    let left = cut_of (drop next lengths) others in
    let cut : cut_of (drop first lengths) (zip cs vs) ≡ rows ++ left = search (rules, cut_group, zip_take, zip_drop) in
    let after = c.group_into-written in
    let items = map (row_item wrapping x) rows in
    let values = map (row_value wrapping x) rows in
    let long : length items ≡ length values = omega (arith, length-map rows (row_item wrapping x), length-map rows (row_value wrapping x)) in
    record {
      whole = written_more run after.result.0 _ items _ _ after.ensures.run (ap (map (row_item wrapping x)) cut ∙ map-append (row_item wrapping x) rows left) c.loop-first.invariant.whole;
      found = found_both c.loop-first.found c.or-found.result after.result.1 (run.first + length run.items) (after.result.0.first + length after.result.0.items) values _ _ _
          c.or-found.ensures after.ensures.found
          (omega (arith, long, ap (λ r. r.first) after.ensures.run, ap (λ r. length r.items) after.ensures.run, length-append run.items items))
          (ap (map (row_value wrapping x)) cut ∙ map-append (row_value wrapping x) rows left) c.loop-first.invariant.found;
      as_many = omega (arith, c.split_at.ensures.back_len, c.split_at-in-loop-first.ensures.back_len, c.loop-first.invariant.as_many);
      covered = omega (arith, c.entries_of-entries.ensures, ap sum read, range_left lengths first k next later, c.split_at.ensures.back_len, c.loop-first.invariant.covered);
      room = search (rules, length-map, length-cut);
      within = omega (arith, c.min-next.ensures);
    }
