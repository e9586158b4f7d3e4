use Rattle.scan_walks.proofs.Cited.{◌≡◌, ◌+ℤ◌, ◌*ℤ◌, to_z, of_z, w64, arith, to_z-of_z}
use Rattle.scan_walks.proofs.BlockLaws.{reaches}
use Rattle.scan_walks.proofs.blocks.reach.Goals as goal

pub overflow_add-result : goal.overflow_add-result
overflow_add-result c =
    let far = reaches c.args.from c.args.steps c.args.step c.ranges.from c.ranges.steps c.ranges.step in
    let back : to_z w64 (of_z w64 c.from.result) ≡ c.args.from = grind (arith, to_z-of_z) in
    let back_2 : to_z w64 (of_z w64 c.from-2.result) ≡ c.args.steps = grind (arith, to_z-of_z) in
    let back_3 : to_z w64 (of_z w64 c.from-3.result) ≡ c.args.step = grind (arith, to_z-of_z) in
    rw back (rw back_2 (rw back_3 (rw (to_z-of_z w64 (c.args.steps *ℤ c.args.step) far.0) far.1)))

pub returns : goal.returns
returns c =
    let far = reaches c.args.from c.args.steps c.args.step c.ranges.from c.ranges.steps c.ranges.step in
    let back : to_z w64 (of_z w64 c.from.result) ≡ c.args.from = grind (arith, to_z-of_z) in
    let back_2 : to_z w64 (of_z w64 c.from-2.result) ≡ c.args.steps = grind (arith, to_z-of_z) in
    let back_3 : to_z w64 (of_z w64 c.from-3.result) ≡ c.args.step = grind (arith, to_z-of_z) in
    rw back (rw back_2 (rw back_3 (rw (to_z-of_z w64 (c.args.steps *ℤ c.args.step) far.0) (to_z-of_z w64 (c.args.from +ℤ (c.args.steps *ℤ c.args.step)) far.1))))
