use Rattle.std.proofs.Common.{◌≡◌, ◌≢◌, ◌∙◌, ap, arith, length, map, not, sym, Ok, Err}
use Rattle.cvl_base.specs.declared.fault.FaultNo.TheVariants.{LengthMismatch}
use Rattle.cvl_base.specs.Faults.{fault}
use Rattle.cvl_base.specs.Packs.{count_of}
use Rattle.cvl_base.specs.Rooms.{in_room}
use Rattle.cvl_base.proofs.Rooms.{differs, fits, told}
use Rattle.flag_merges.specs.Merges.{merge_of, merged}
use Rattle.flag_merges.proofs.Counted.{are_fitting, counts_both, merge_fails, merge_right, merged_long, others_false}
use Rattle.flag_merges.proofs.merges.merge_by_flags_over.Goals as goal

pub returns-in_err-check_agree-2 : goal.returns-in_err-check_agree-2
returns-in_err-check_agree-2 g c =
    let flags = c.args.flags.now in let xs = c.args.when_true.now in let ys = c.args.when_false.now in let room = length c.args.out.now in
    let t : count_of flags ≡ length xs = sym c.true_count-count.ensures.value ∙ c.in_ok-check_agree.ensures in
    let f : count_of (map not flags) ≢ length ys = λ same. c.in_err-check_agree-2.ensures.1 (omega (arith, same, c.true_count-count.ensures.value, counts_both flags)) in
    told (in_room room (merge_of flags xs ys)) c.from_residual-in_err-check_agree-2.result c.in_err-check_agree-2.field-0.0 c.args.out.now c.from_residual-in_err-check_agree-2.ensures.1
    (ap (in_room room) (merge_fails (fault LengthMismatch) flags xs ys (others_false flags (length xs) (length ys) t f)) ∙ ap Err (sym c.in_err-check_agree-2.ensures.0))

pub returns-in_err-check_agree-3 : goal.returns-in_err-check_agree-3
returns-in_err-check_agree-3 g c =
    let flags = c.args.flags.now in let xs = c.args.when_true.now in let ys = c.args.when_false.now in let room = length c.args.out.now in
    let t : count_of flags ≡ length xs = sym c.true_count-count.ensures.value ∙ c.in_ok-check_agree.ensures in
    let f : count_of (map not flags) ≡ length ys = omega (arith, c.in_ok-check_agree-2.ensures, c.true_count-count.ensures.value, counts_both flags) in
    told (in_room room (merge_of flags xs ys)) c.from_residual-in_err-check_agree-3.result c.in_err-check_agree-3.field-0.0 c.args.out.now c.from_residual-in_err-check_agree-3.ensures.1
    (ap (in_room room) (merge_right (fault LengthMismatch) flags xs ys (are_fitting flags (length xs) (length ys) t f))
    ∙ differs room (merged flags xs ys) (λ same. c.in_err-check_agree-3.ensures.1 (sym (merged_long flags xs ys t f) ∙ same)) ∙ ap Err (sym c.in_err-check_agree-3.ensures.0))

pub write_merged-requires-clause-false_ones : goal.write_merged-requires-clause-false_ones
write_merged-requires-clause-false_ones g c = omega (arith, c.in_ok-check_agree-2.ensures, c.true_count-count.ensures.value, counts_both c.args.flags.now)

pub returns : goal.returns
returns g c =
    let flags = c.args.flags.now in let xs = c.args.when_true.now in let ys = c.args.when_false.now in let room = length c.args.out.now in
    let t : count_of flags ≡ length xs = sym c.true_count-count.ensures.value ∙ c.in_ok-check_agree.ensures in
    let f : count_of (map not flags) ≡ length ys = omega (arith, c.in_ok-check_agree-2.ensures, c.true_count-count.ensures.value, counts_both flags) in
    ap (in_room room) (merge_right (fault LengthMismatch) flags xs ys (are_fitting flags (length xs) (length ys) t f))
    ∙ fits room (merged flags xs ys) (merged_long flags xs ys t f ∙ c.in_ok-check_agree-3.ensures)
    ∙ ap Ok (sym c.write_merged.ensures)
