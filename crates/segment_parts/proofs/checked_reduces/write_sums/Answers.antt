use Rattle.std.proofs.Common.{rules, ◌≡◌, ◌∙◌, ◌+◌, ap, arith, eqb, get_or, length, min, pos, sym, take_all, w32, unwrap_or}
use Rattle.std.proofs.lemmas.Int.{to_z-of_z}
use mir.Val.{SFits}
use Rattle.segment_parts.proofs.StartSums.{last_sums, left_more, length-last_sums, written_more}
use Rattle.segment_parts.proofs.checked_reduces.write_sums.Goals as goal

pub loop-s-preserved : goal.loop-s-preserved
loop-s-preserved c =
    let s = c.loop-s.s in let rest = c.loop-s.rest.now in let lengths = c.args.lengths.now in let behind = c.args.behind.now in let r = c.unwrap_or.result in
    let is_n : c.min.result ≡ min (get_or lengths s 0) (length rest) = c.min.ensures ∙ ap (λ k. min k (length rest)) c.length.ensures in
    let fits : SFits w32 r = search rules in
    let sums = last_sums behind lengths c.args.a.now in let long = length-last_sums behind lengths c.args.a.now in
    record {
      few = omega (arith, c.loop-s.invariant.few, c.split_at.ensures.back_len);
      left = left_more behind s lengths rest c.split_at.result.0.now c.split_at.result.1.now c.min.result (eqb (s + 1) c.count.result)
          (omega (arith, c.loop-s-test.true, c.count-s-end.ensures.value)) (ap (eqb (s + 1)) c.count.ensures.value) is_n c.split_at.ensures.front c.split_at.ensures.back
          sums c.loop-s.invariant.left long (omega (arith, long, c.requires.fit));
      written = written_more behind s lengths rest c.split_at.result.0.now c.split_at.result.1.now c.min.result (eqb (s + 1) c.count.result)
          (omega (arith, c.loop-s-test.true, c.count-s-end.ensures.value)) (ap (eqb (s + 1)) c.count.ensures.value) is_n c.split_at.ensures.front c.split_at.ensures.back
          sums c.loop-s.invariant.left long (omega (arith, long, c.requires.fit)) c.loop-s.out _
          (to_z-of_z w32 r fits ∙ c.unwrap_or.ensures ∙ ap (λ v. unwrap_or v (pos 0)) c.segment_sum.ensures)
          (omega (arith, c.loop-s-test.true, c.count-s-end.ensures.value, c.requires.room, c.loop-s.auto.out)) c.loop-s.invariant.written;
    }

pub returns : goal.returns
returns c =
    let sums = last_sums c.args.behind.now c.args.lengths.now c.args.a.now in let k = c.loop-s.s in
    let long = length-last_sums c.args.behind.now c.args.lengths.now c.args.a.now in
    sym (take_all k c.loop-s.out (omega (arith, c.loop-s-test.false, c.count-s-end.ensures.value, c.requires.room, c.loop-s.auto.out)))
    ∙ c.loop-s.invariant.written ∙ take_all k sums (omega (arith, c.loop-s-test.false, c.count-s-end.ensures.value, long))
