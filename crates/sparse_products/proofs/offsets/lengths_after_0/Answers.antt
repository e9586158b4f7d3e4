use Rattle.sparse_products.proofs.Cited.{rules, ◌≡◌, ◌+◌, ◌++◌, ◌∙◌, arith, drop, subst, get_or, of_z, pos, sym, to_z, w32, ints, to_z-of_z, ◌≤ℤ◌, lengths_after}
use Rattle.sparse_products.proofs.RowLengths.{AreNatural, falls_short, no_offset_left, one_length_more}
use Rattle.sparse_products.proofs.offsets.lengths_after_0.Goals as goal

pub returns-in-None-clause-lengths : goal.returns-in-None-clause-lengths
returns-in-None-clause-lengths g c = search (rules, falls_short)

pub loop-row-preserved : goal.loop-row-preserved
loop-row-preserved g c =
    let offset = get_or c.args.offsets.now c.loop-row.row (pos 0) in
    let narrow : to_z w32 (of_z w32 c.in-Some.length) ≡ c.in-Some.length = grind (arith, to_z-of_z) in
    let more = one_length_more c.args.offsets.now c.loop-row.lengths.items c.loop-row.row (to_z w32 c.loop-row.before-bits) c.loop-row-test.true c.loop-row.invariant.whole c.loop-row.invariant.natural
    _ c.in-Some.ensures.0 (narrow ∙ c.in-Some.ensures.1) in
    let same : to_z w32 (of_z w32 offset) ≡ offset = grind (arith, to_z-of_z) in
    let above : pos 0 ≤ℤ offset = omega (arith, ints, c.loop-row.invariant.before, c.in-Some.ensures.0) in
    record {
      whole = (λ i. c.push_reserved.ensures.items i ++ lengths_after (same i) (drop (c.loop-row.row + 1) c.args.offsets.now)) ∙ more.0;
      natural = subst AreNatural (sym c.push_reserved.ensures.items) more.1;
      before = subst (λ z. pos 0 ≤ℤ z) (sym same) above;
      count = omega (arith, c.push_reserved.ensures.len, c.loop-row.invariant.count);
      room = omega (arith, c.push_reserved.ensures.capacity, c.loop-row.invariant.room);
    }

pub returns-clause-lengths : goal.returns-clause-lengths
returns-clause-lengths g c =
    no_offset_left c.args.offsets.now c.loop-row.lengths.items c.loop-row.row (to_z w32 c.loop-row.before-bits) (omega arith) c.loop-row.invariant.whole c.loop-row.invariant.natural
