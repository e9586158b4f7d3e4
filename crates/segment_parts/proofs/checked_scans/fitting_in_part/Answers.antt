use Rattle.std.proofs.Common.{◌≡◌, ◌∙◌, ◌+ℤ◌, ap, arith, drop, take, to_z, of_z, w64}
use Rattle.std.proofs.lemmas.Int.{to_z-of_z}
use Rattle.cvl_base.specs.Folds.{scan_of}
use Rattle.scan_walks.specs.Fronts.{fitting_front}
use Rattle.segment_parts.proofs.CheckedScanned.{goes_to_end, stops_in_head, stops_in_whole}
use Rattle.segment_parts.proofs.checked_scans.fitting_in_part.Goals as goal

pub returns-then-in_head-front-clause-front : goal.returns-then-in_head-front-clause-front
returns-then-in_head-front-clause-front c =
    let before = c.args.before.now in let n = c.total.result in let others = c.split_at.ensures.back in let front = c.split_at.result.0.now in
    let back : to_z w64 (of_z w64 before) ≡ before = grind (arith, to_z-of_z) in
    stops_in_head before c.args.head c.args.lengths.now c.args.a.now c.requires n c.total.ensures.value front c.split_at-2.result.0.now c.split_at-2.result.1.now
    c.split_at.ensures.front (c.split_at-2.ensures.front ∙ ap (take n) others) (c.split_at-2.ensures.back ∙ ap (drop n) others) c.fitting_of_scan-in_head.result
    (c.fitting_of_scan-in_head.ensures.front ∙ ap (λ z. fitting_front (scan_of ◌+ℤ◌ z front)) back) c.if-in_head-front.true

pub returns-then-in_whole-whole-clause-front : goal.returns-then-in_whole-whole-clause-front
returns-then-in_whole-whole-clause-front c =
    let before = c.args.before.now in let n = c.total.result in let others = c.split_at.ensures.back in let front = c.split_at.result.0.now in
    let back : to_z w64 (of_z w64 before) ≡ before = grind (arith, to_z-of_z) in
    stops_in_whole before c.args.head c.args.lengths.now c.args.a.now c.requires n c.total.ensures.value front c.split_at-2.result.0.now c.split_at-2.result.1.now
    c.split_at.ensures.front (c.split_at-2.ensures.front ∙ ap (take n) others) (c.split_at-2.ensures.back ∙ ap (drop n) others) c.fitting_of_scan-in_head.result
    (c.fitting_of_scan-in_head.ensures.front ∙ ap (λ z. fitting_front (scan_of ◌+ℤ◌ z front)) back) c.if-in_head-front.false
    c.fitting_of_whole-in_whole.result c.fitting_of_whole-in_whole.ensures.front c.if-in_whole-whole.true

pub returns-clause-front : goal.returns-clause-front
returns-clause-front c =
    let before = c.args.before.now in let n = c.total.result in let others = c.split_at.ensures.back in let front = c.split_at.result.0.now in
    let back : to_z w64 (of_z w64 before) ≡ before = grind (arith, to_z-of_z) in
    goes_to_end before c.args.head c.args.lengths.now c.args.a.now c.requires n c.total.ensures.value front c.split_at-2.result.0.now c.split_at-2.result.1.now
    c.split_at.ensures.front (c.split_at-2.ensures.front ∙ ap (take n) others) (c.split_at-2.ensures.back ∙ ap (drop n) others) c.fitting_of_scan-in_head.result
    (c.fitting_of_scan-in_head.ensures.front ∙ ap (λ z. fitting_front (scan_of ◌+ℤ◌ z front)) back) c.if-in_head-front.false
    c.fitting_of_whole-in_whole.result c.fitting_of_scan.result c.fitting_of_whole-in_whole.ensures.front c.if-in_whole-whole.false c.fitting_of_scan.ensures.front
