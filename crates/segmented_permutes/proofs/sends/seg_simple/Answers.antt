use Rattle.std.proofs.Common.{◌∙◌, arith, refl, sym}
use Rattle.permute_walks.proofs.Told.{found_gives, sent_permuted}
use Rattle.segment_sends.proofs.Through.{places-all}
use Rattle.segmented_permutes.proofs.Whole.{few_sent, seg_simple_sent}
use Rattle.segmented_permutes.proofs.sends.seg_simple.Goals as goal

pub permuted_in_one-requires-clause-few : goal.permuted_in_one-requires-clause-few
permuted_in_one-requires-clause-few g c κs within =
    few_sent c.args.d.now c.args.d.now c.args.index.now _ c.requires.in_limit c.in_ok-check_total-2.ensures.agrees refl

pub permuted_in_one-requires-clause-whole : goal.permuted_in_one-requires-clause-whole
permuted_in_one-requires-clause-whole g c κs within = places-all c.args.d.now c.args.d.now c.args.index.now refl ∙ c.in_ok-check_total.ensures.agrees

pub returns-in-Some-clause-values : goal.returns-in-Some-clause-values
returns-in-Some-clause-values g c =
    let total = c.in_ok-check_total.ensures.agrees in let index_total = c.in_ok-check_total-2.ensures.agrees in
    found_gives _ c.in_ok-in_one.in_one c.in-Some.elements c.in-Some.is c.in_ok-in_one.ensures.values _
    (sent_permuted (seg_simple_sent c.args.source.now c.args.index.now c.args.d.now total index_total (omega (arith, c.requires.in_limit))) _ (sym total ∙ index_total))

pub returns-clause-values : goal.returns-clause-values
returns-clause-values g c =
    let total = c.in_ok-check_total.ensures.agrees in let index_total = c.in_ok-check_total-2.ensures.agrees in
    c.elements_of_senders.ensures.values _ _ _ c.segment_senders-found.ensures.senders
    (sent_permuted (seg_simple_sent c.args.source.now c.args.index.now c.args.d.now total index_total (omega (arith, c.requires.in_limit))) _ (sym total ∙ index_total))
