use Rattle.std.proofs.Common.{◌≡◌, ◌∙◌, ◌+◌, ap, arith, eqb, get_or, is_some, length, min, not, sym}
use Rattle.segment_parts.proofs.StartSums.{goes_past, stops_at}
use Rattle.segment_parts.proofs.checked_reduces.fitting_sums.Goals as goal

pub returns-then-is_none-clause-front : goal.returns-then-is_none-clause-front
returns-then-is_none-clause-front c =
    let s = c.loop-s.s in let rest = c.loop-s.rest.now in let lengths = c.args.lengths.now in
    let is_n : c.min.result ≡ min (get_or lengths s 0) (length rest) = c.min.ensures ∙ ap (λ k. min k (length rest)) c.length.ensures in
    stops_at c.args.behind.now s lengths rest c.split_at.result.0.now c.split_at.result.1.now c.min.result (eqb (s + 1) c.count.result)
    (omega (arith, c.loop-s-test.true, c.count-s-end.ensures.value)) (ap (eqb (s + 1)) c.count.ensures.value) is_n c.split_at.ensures.front c.split_at.ensures.back
    _ c.loop-s.invariant.front (sym (ap is_some c.segment_sum.ensures) ∙ c.is_none.ensures ∙ ap not c.if-is_none.true)

pub loop-s-preserved : goal.loop-s-preserved
loop-s-preserved c =
    let s = c.loop-s.s in let rest = c.loop-s.rest.now in let lengths = c.args.lengths.now in
    let is_n : c.min.result ≡ min (get_or lengths s 0) (length rest) = c.min.ensures ∙ ap (λ k. min k (length rest)) c.length.ensures in
    record {
      few = omega (arith, c.loop-s.invariant.few, c.split_at.ensures.back_len);
      front = goes_past c.args.behind.now s lengths rest c.split_at.result.0.now c.split_at.result.1.now c.min.result (eqb (s + 1) c.count.result)
          (omega (arith, c.loop-s-test.true, c.count-s-end.ensures.value)) (ap (eqb (s + 1)) c.count.ensures.value) is_n c.split_at.ensures.front c.split_at.ensures.back
          _ c.loop-s.invariant.front (sym (ap is_some c.segment_sum.ensures) ∙ c.is_none.ensures ∙ ap not c.if-is_none.false);
    }
