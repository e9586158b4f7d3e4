use Rattle.sparse_products.proofs.Cited.{rules, ◌≡◌, ◌∙◌, ◌+ℤ◌, ap, arith, sym, of_z, to_z, unsigned_abs, w32, Some, to_z-of_z, w128, fitting}
use Rattle.sparse_products.proofs.Entries.{entries_done, entry_added, entry_outside, fitting_value}
use Rattle.sparse_products.proofs.row_sums.fitting_sum.Goals as goal

pub returns-in-None : goal.returns-in-None
returns-in-None c = search (rules, entry_outside, fitting_value)

pub loop-k-preserved : goal.loop-k-preserved
loop-k-preserved c =
    let element : to_z w32 (of_z w32 c.in-Some.element) ≡ c.in-Some.element = grind (arith, to_z-of_z) in
    let narrow : to_z w128 (of_z w128 c.with_whole_product-sum.result) ≡ c.with_whole_product-sum.result = grind (arith, to_z-of_z) in
    record {
      so_far = sym (entry_added ◌+ℤ◌ fitting c.args.x.now c.args.columns.now c.args.values.now c.requires.as_many c.loop-k.k (to_z w128 c.loop-k.sum-bits) _ _ c.loop-k-test.true
          (sym c.element_of.ensures ∙ c.in-Some.is ∙ ap Some (sym element)) (narrow ∙ c.with_whole_product-sum.ensures.exact)) ∙ c.loop-k.invariant.so_far;
      small = omega (arith, ap unsigned_abs narrow, c.with_whole_product-sum.ensures.near, c.loop-k.invariant.small);
    }

pub returns : goal.returns
returns c = search (rules, entries_done, fitting_value)
