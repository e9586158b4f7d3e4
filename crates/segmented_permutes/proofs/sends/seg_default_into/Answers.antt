use Rattle.std.proofs.Common.{◌∙◌, ap, sym, arith, Err}
use Rattle.std.proofs.lemmas.Result.{err_from_is_err_and}
use Rattle.permute_walks.proofs.Told.{found_gives}
use Rattle.segment_sends.proofs.Through.{places-all}
use Rattle.segmented_permutes.proofs.Whole.{few_sent, seg_default-differ, seg_default_sent}
use Rattle.segmented_permutes.proofs.sends.seg_default_into.Goals as goal

pub permuted_in_one-requires-clause-few : goal.permuted_in_one-requires-clause-few
permuted_in_one-requires-clause-few g c κs within =
    few_sent c.args.source_d.now c.args.default_d.now c.args.index.now _ c.requires.in_limit c.in_ok-check_total-2.ensures.agrees (omega (arith, c.in_ok-check_agree.ensures))

pub permuted_in_one-requires-clause-whole : goal.permuted_in_one-requires-clause-whole
permuted_in_one-requires-clause-whole g c κs within =
    places-all c.args.source_d.now c.args.default_d.now c.args.index.now (omega (arith, c.in_ok-check_agree.ensures)) ∙ c.in_ok-check_total-3.ensures.agrees

pub returns-in_err-check_agree-clause-values : goal.returns-in_err-check_agree-clause-values
returns-in_err-check_agree-clause-values g c =
    let p = err_from_is_err_and c.from_residual-in_err-check_agree.result c.from_residual-in_err-check_agree.ensures.1 in
    let differ = c.in_err-check_agree.ensures in
    rw (p.1, p.2)
    (seg_default-differ c.args.source.now c.args.index.now c.args.source_d.now c.in_ok-check_total.ensures.agrees c.in_ok-check_total-2.ensures.agrees c.args.defaults.now c.args.default_d.now
    c.in_ok-check_total-3.ensures.agrees (λ same. differ.1 (c.count.ensures.value ∙ same ∙ sym c.count-2.ensures.value))
    ∙ ap (λ f. Err f) (sym differ.0))

pub returns-in-Some-clause-values : goal.returns-in-Some-clause-values
returns-in-Some-clause-values g c =
    found_gives _ c.in_ok-in_one.in_one c.in-Some.elements c.in-Some.is c.in_ok-in_one.ensures.values _
    (seg_default_sent c.args.source.now c.args.index.now c.args.source_d.now c.in_ok-check_total.ensures.agrees c.in_ok-check_total-2.ensures.agrees (omega (arith, c.requires.in_limit))
    c.args.defaults c.args.default_d.now c.in_ok-check_total-3.ensures.agrees (omega (arith, c.in_ok-check_agree.ensures)))

pub returns-clause-values : goal.returns-clause-values
returns-clause-values g c =
    c.elements_of_senders.ensures.values _ _ _ c.segment_senders-found.ensures.senders
    (seg_default_sent c.args.source.now c.args.index.now c.args.source_d.now c.in_ok-check_total.ensures.agrees c.in_ok-check_total-2.ensures.agrees (omega (arith, c.requires.in_limit))
    c.args.defaults c.args.default_d.now c.in_ok-check_total-3.ensures.agrees (omega (arith, c.in_ok-check_agree.ensures)))
