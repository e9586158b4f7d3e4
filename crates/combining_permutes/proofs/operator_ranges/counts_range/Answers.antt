use Rattle.combining_permutes.proofs.Cited.{◌∙◌, ap, length, sum_of, zip, combined}
use Rattle.combining_permutes.proofs.Ones.{counted, ones}
use Rattle.combining_permutes.proofs.operator_ranges.counts_range.Goals as goal

pub returns-clause-written : goal.returns-clause-written
returns-clause-written c =
    let index = c.args.index.now in
    let m = length c.args.out.now in
    c.combine_range.ensures.joined ∙ ap (combined sum_of (zip index (ones index)) c.args.lowest) (c.fill.ensures.after (λ y is. is)) ∙ counted index c.requires.in_limit c.args.lowest m
