use Rattle.std.proofs.Common.{◌≡◌, ◌≢◌, ◌∙◌, ap, length, sym, Err}
use Rattle.flag_merges.proofs.BySegments.{counts_differ, counts_fit, false_count_differs, told_on, true_count_differs}
use Rattle.flag_merges.proofs.segments.check_segments.Goals as goal

pub returns-in_err-check_agree-clause-meaning : goal.returns-in_err-check_agree-clause-meaning
returns-in_err-check_agree-clause-meaning g c =
    let differ : length c.args.d.now ≢ length c.args.true_d.now = λ same. c.in_err-check_agree.ensures.1 (c.count.ensures.value ∙ same ∙ sym c.count-2.ensures.value) in
    told_on c.from_residual-in_err-check_agree.result c.in_err-check_agree.field-0.0 _ _ c.from_residual-in_err-check_agree.ensures.1
    (true_count_differs c.args.flags.now c.args.d.now c.args.when_true.now c.args.true_d.now c.args.when_false.now c.args.false_d.now
    c.in_ok-check_total.ensures.agrees c.in_ok-check_total-2.ensures.agrees differ ∙ ap Err (sym c.in_err-check_agree.ensures.0))

pub returns-in_err-check_agree-2-clause-meaning : goal.returns-in_err-check_agree-2-clause-meaning
returns-in_err-check_agree-2-clause-meaning g c =
    let count : length c.args.d.now ≡ length c.args.true_d.now = sym c.count.ensures.value ∙ c.in_ok-check_agree.ensures ∙ c.count-2.ensures.value in
    let differ : length c.args.d.now ≢ length c.args.false_d.now = λ same. c.in_err-check_agree-2.ensures.1 (c.count-3.ensures.value ∙ same ∙ sym c.count-4.ensures.value) in
    told_on c.from_residual-in_err-check_agree-2.result c.in_err-check_agree-2.field-0.0 _ _ c.from_residual-in_err-check_agree-2.ensures.1
    (false_count_differs c.args.flags.now c.args.d.now c.args.when_true.now c.args.true_d.now c.args.when_false.now c.args.false_d.now
    c.in_ok-check_total.ensures.agrees c.in_ok-check_total-2.ensures.agrees count c.in_ok-check_total-3.ensures.agrees differ ∙ ap Err (sym c.in_err-check_agree-2.ensures.0))

pub returns-in_err-check_counts-clause-meaning : goal.returns-in_err-check_counts-clause-meaning
returns-in_err-check_counts-clause-meaning g c =
    let count : length c.args.d.now ≡ length c.args.true_d.now = sym c.count.ensures.value ∙ c.in_ok-check_agree.ensures ∙ c.count-2.ensures.value in
    let other : length c.args.d.now ≡ length c.args.false_d.now = sym c.count-3.ensures.value ∙ c.in_ok-check_agree-2.ensures ∙ c.count-4.ensures.value in
    let miscount = c.in_err-check_counts.ensures in
    told_on c.from_residual-in_err-check_counts.result c.in_err-check_counts.field-0.0 _ _ c.from_residual-in_err-check_counts.ensures.1
    (counts_differ c.args.flags.now c.args.d.now c.args.when_true.now c.args.true_d.now c.args.when_false.now c.args.false_d.now
    c.in_ok-check_total.ensures.agrees c.in_ok-check_total-2.ensures.agrees count c.in_ok-check_total-3.ensures.agrees other
    miscount.segment miscount.within miscount.first miscount.other ∙ ap Err (sym miscount.told))

pub returns : goal.returns
returns g c =
    let count : length c.args.d.now ≡ length c.args.true_d.now = sym c.count.ensures.value ∙ c.in_ok-check_agree.ensures ∙ c.count-2.ensures.value in
    let other : length c.args.d.now ≡ length c.args.false_d.now = sym c.count-3.ensures.value ∙ c.in_ok-check_agree-2.ensures ∙ c.count-4.ensures.value in
    let fit =
    counts_fit c.args.flags.now c.args.d.now c.args.when_true.now c.args.true_d.now c.args.when_false.now c.args.false_d.now
    c.in_ok-check_total.ensures.agrees c.in_ok-check_total-2.ensures.agrees count c.in_ok-check_total-3.ensures.agrees other c.in_ok-check_counts.ensures in
    record { meaning = fit.0; true_ones = fit.1; false_ones = fit.2 }
