use Rattle.sparse_products.proofs.Cited.{◌<◌, ◌+◌, ◌≡◌, ◌∙◌, ◌≤◌, ap, arith, length, pos, sym, take, of_z, to_z, w32, Some, length-set, zip, to_z-of_z, take_all, length-zip, wrap, row_total}
use Rattle.sparse_products.proofs.Cited.{are_within}
use Rattle.sparse_products.proofs.Totals.{entry_summed, sums_more}
use Rattle.sparse_products.proofs.row_groups.sums_into.Goals as goal

pub loop-k-preserved : goal.loop-k-preserved
loop-k-preserved c =
    let x = c.args.x.now in
    let columns = c.args.columns.now in
    let values = c.args.values.now in
    let k = c.loop-k.k in
    let element : to_z w32 (of_z w32 c.in-Some.element) ≡ c.in-Some.element = grind (arith, to_z-of_z) in
    let now = to_z w32 (of_z w32 c.with_product-sum.result) in
    let narrow : now ≡ c.with_product-sum.result = grind (arith, to_z-of_z) in
    let summed = entry_summed x columns values c.requires.as_many k (to_z w32 (of_z w32 c.in-Some.element)) (to_z w32 c.loop-k.sum-bits) now c.loop-k-test.true
    (sym c.element_of.ensures ∙ c.in-Some.is ∙ ap Some (sym element)) c.loop-k.invariant.within c.loop-k.invariant.last (narrow ∙ c.with_product-sum.ensures) in
    let room : k + 1 < length c.loop-k.sums = omega (arith, c.loop-k-test.true, c.requires.room, c.loop-k.auto.sums, length-set c.args.sums.now 0 (pos 0)) in
    record {
      within = summed.0;
      each = sums_more c.loop-k.sums k now (λ j. wrap (row_total x (take j (zip columns values)))) room c.loop-k.invariant.each summed.1;
      last = summed.1;
    }

pub returns : goal.returns
returns c = λ _.
    let entries = zip c.args.columns.now c.args.values.now in
    let all : length entries ≤ c.loop-k.k = omega (arith, c.loop-k-test.false, length-zip c.args.columns.now c.args.values.now) in
    record {
      within = ap (are_within (length c.args.x.now)) (sym (take_all c.loop-k.k entries all)) ∙ c.loop-k.invariant.within;
      each = λ j le. c.loop-k.invariant.each j (omega (arith, all, le));
    }
