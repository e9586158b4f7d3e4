use Rattle.std.proofs.Common.{◌≡◌, ◌∙◌, ◌+◌, ◌-◌, ◌<◌, true, false, arith, below_more, drop, length, sym, take}
use Rattle.std.proofs.lemmas.List.Sums.{sum_by_more}
use Rattle.flag_merges.specs.Merges.{are_counts}
use Rattle.flag_merges.proofs.BySegments.{segment_is}
use Rattle.flag_merges.proofs.segments.check_counts.Goals as goal

pub returns-then-not-are_counts : goal.returns-then-not-are_counts
returns-then-not-are_counts c =
    let flags = c.args.flags.now in let ns = c.args.d.now in let s = c.loop-s.s in let first = c.loop-s.first in
    let lt : s < length ns = omega (arith, c.count-s-end.ensures.value, c.loop-s-test.true) in
    let here = segment_is ns flags s first c.length.result lt c.loop-s.invariant.first_is c.length.ensures in
    let is : are_counts (take (first + c.length.result - first) (drop first flags)) c.length-in-loop-s.result c.length-in-loop-s-2.result ≡ false = cc in
    record {
      segment = s;
      within = lt;
      told = c.at.ensures;
      other = (λ i. are_counts (sym here i) (sym c.length-in-loop-s.ensures i) (sym c.length-in-loop-s-2.ensures i)) ∙ is;
      first = c.loop-s.invariant.fit;
    }

pub loop-s-preserved : goal.loop-s-preserved
loop-s-preserved c =
    let flags = c.args.flags.now in let ns = c.args.d.now in let s = c.loop-s.s in let first = c.loop-s.first in
    let lt : s < length ns = omega (arith, c.count-s-end.ensures.value, c.loop-s-test.true) in
    let here = segment_is ns flags s first c.length.result lt c.loop-s.invariant.first_is c.length.ensures in
    let is : are_counts (take (first + c.length.result - first) (drop first flags)) c.length-in-loop-s.result c.length-in-loop-s-2.result ≡ true = cc in
    record {
      first_is = omega (arith, sum_by_more (λ x. x) ns s 0 lt, c.loop-s.invariant.first_is, c.length.ensures);
      fit = below_more _ _ c.loop-s.invariant.fit ((λ i. are_counts (sym here i) (sym c.length-in-loop-s.ensures i) (sym c.length-in-loop-s-2.ensures i)) ∙ is);
    }
