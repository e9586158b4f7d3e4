use Rattle.std.proofs.Common.{◌∙◌, ◌<◌, arith, length, refl, sym}
use Rattle.std.proofs.lemmas.Bool.{false≢true}
use Rattle.segment_sends.proofs.Scatters.{right_all, right_here, segment_passed}
use Rattle.segment_sends.proofs.Through.{start_more}
use Rattle.segment_sends.proofs.segment_scatters.are_permutations_by.Goals as goal

pub loop-s-preserved : goal.loop-s-preserved
loop-s-preserved c =
    let d = c.args.d.now in
    let lt : c.loop-s.s < length d = omega (arith, c.count-s-end.ensures.value, c.loop-s-test.true) in
    record {
      first_is = omega (arith, start_more d c.loop-s.s lt, c.length-places.ensures, c.loop-s.invariant.first_is);
      so_far = c.loop-s.invariant.so_far
          ∙ segment_passed d c.args.index.now c.requires.total c.loop-s.s lt c.loop-s.first c.length-places.result c.loop-s.invariant.first_is c.length-places.ensures
          (c.is_segment_permutation.ensures.0 c.if-not-is_segment_permutation.false);
    }

pub returns-then-not-is_segment_permutation : goal.returns-then-not-is_segment_permutation
returns-then-not-is_segment_permutation c =
    let d = c.args.d.now in
    let lt : c.loop-s.s < length d = omega (arith, c.count-s-end.ensures.value, c.loop-s-test.true) in
    let here = right_here d c.args.index.now c.requires.total c.loop-s.s lt c.loop-s.first c.length-places.result c.loop-s.invariant.first_is c.length-places.ensures in (
      λ no. absurd (false≢true no),
      λ right. absurd (false≢true (sym c.if-not-is_segment_permutation.true ∙ c.is_segment_permutation.ensures.1 (here (right ∙ c.loop-s.invariant.so_far)))),
    )

pub returns : goal.returns
returns c = (
  λ told. right_all c.args.d.now c.args.index.now c.requires.total c.loop-s.s c.loop-s.invariant.so_far (omega (arith, c.count-s-end.ensures.value, c.loop-s-test.false)),
  λ right. refl,
)
