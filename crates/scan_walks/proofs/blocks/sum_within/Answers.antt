use Rattle.scan_walks.proofs.Cited.{◌≡◌, ◌∙◌, ◌+ℤ◌, ◌*ℤ◌, pos, to_z, of_z, w32, true, subst, arith, to_z-of_z, is_number}
use Rattle.scan_walks.proofs.BlockLaws.{block_walked}
use Rattle.scan_walks.proofs.blocks.sum_within.Goals as goal

pub returns-then-leads_within : goal.returns-then-leads_within
returns-then-leads_within c =
    let before = c.args.before.now in
    let bounds = c.bounds_of-bounds in
    let room = c.leads_within.ensures c.if-leads_within.true in
    let back : to_z w32 (of_z w32 bounds.result.sum) ≡ bounds.result.sum = grind (arith, to_z-of_z) in
    let start : to_z w32 (of_z w32 before) ≡ before = grind (arith, to_z-of_z) in
    let walked = block_walked 512 before bounds.result.least bounds.result.greatest c.args.block.now c.requires bounds.ensures.least bounds.ensures.greatest
    (subst (λ z. is_number (z +ℤ (pos 512 *ℤ bounds.result.least)) ≡ true) start room.0) (subst (λ z. is_number (z +ℤ (pos 512 *ℤ bounds.result.greatest)) ≡ true) start room.1)
    bounds.result.sum bounds.ensures.sum in
    (walked.0, back ∙ walked.1)
