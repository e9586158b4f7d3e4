use Rattle.combining_permutes.proofs.Cited.{◌∙◌, ap, arith, length, Ok, sum_of, sym, zip, unless, combined, place_counts}
use Rattle.combining_permutes.proofs.Ones.{counted, ones}
use Rattle.combining_permutes.proofs.counts.counts_over.Goals as goal

pub returns : goal.returns
returns c =
    let index = c.args.index.now in
    let m = length c.args.out.now in
    ap (λ o. unless o (Ok (place_counts index 0 m))) (sym c.in_ok-check_places_alone.ensures)
    ∙ ap Ok (sym (c.combine_each.ensures.joined ∙ ap (combined sum_of (zip index (ones index)) 0) (c.fill.ensures.after (λ y is. is)) ∙ counted index (omega (arith, c.requires.in_limit.0)) 0 m))
