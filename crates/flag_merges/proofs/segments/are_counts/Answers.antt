use Rattle.std.proofs.Common.{◌≡◌, ◌∙◌, ◌-◌, ◌&&◌, ap, arith, eq-eqb, eqb, length, map, not, sym}
use Rattle.cvl_base.specs.Packs.{count_of}
use Rattle.flag_merges.proofs.Counted.{counts_both}
use Rattle.flag_merges.proofs.segments.are_counts.Goals as goal

pub returns-then-count-trues : goal.returns-then-count-trues
returns-then-count-trues c =
    let flags = c.args.flags.now in
    let falses : length flags - c.true_count-count.result ≡ count_of (map not flags) = omega (arith, c.true_count-count.ensures.value, counts_both flags) in
    ap (λ n. eqb n c.args.falses) falses
    ∙ ap (λ b. b && eqb (count_of (map not flags)) c.args.falses) (sym (eq-eqb (count_of flags) c.args.trues (sym c.true_count-count.ensures.value ∙ c.if-count-trues.true)))
