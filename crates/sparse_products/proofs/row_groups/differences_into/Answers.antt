use Rattle.sparse_products.proofs.Cited.{◌≡◌, ◌+◌, ◌∷◌, [], drop, map, of_z, to_z, unsigned_abs, w32, ap, arith, to_z-of_z, drop_more, read_at, length_here, written_more, between}
use Rattle.sparse_products.proofs.row_groups.differences_into.Goals as goal

pub overflow_cast-end : goal.overflow_cast-end
overflow_cast-end c = (length_here c.requires.lengths c.loop-length-test.true).fits

pub bounds-sums-end : goal.bounds-sums-end
bounds-sums-end c = let here = length_here c.requires.lengths c.loop-length-test.true in omega (arith, here.left, c.loop-length.invariant.covered)

pub loop-length-preserved : goal.loop-length-preserved
loop-length-preserved c =
    let row = c.args.lengths.now in
    let lengths = map unsigned_abs row in
    let s = c.loop-length.length-index in
    let start = c.loop-length.start in
    let n = read_at row s in
    let sums = c.args.sums.now in
    let here = length_here c.requires.lengths c.loop-length-test.true in
    let pushed = to_z w32 (of_z w32 c.difference.result) in
    let narrow : pushed ≡ c.difference.result = grind (arith, to_z-of_z) in
    let left : between sums start (drop s lengths) ≡ pushed ∷ between sums (start + n) (drop (s + 1) lengths) = cc (drop_more lengths s 0 here.within, here.is, narrow, c.difference.ensures) in
    record {
      whole = written_more c.loop-length.run c.push.new.self _ (pushed ∷ []) _ _ c.push.ensures left c.loop-length.invariant.whole;
      covered = omega (arith, here.left, c.loop-length.invariant.covered);
      room = omega (arith, ap (λ r. r.room) c.push.ensures, c.loop-length.invariant.room, c.loop-length-test.true);
    }
