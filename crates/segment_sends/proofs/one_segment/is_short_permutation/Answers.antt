use Rattle.std.proofs.Common.{rules, ◌<◌, ◌≤◌, length, get_or, pos, w32, FitsSigned, arith, eq-eqb, eqb-true, count_ones}
use Rattle.std.proofs.lemmas.Bool.{false≢true}
use Rattle.permute_walks.proofs.Scattered.{named_below, right_inside}
use Rattle.permute_walks.proofs.Stored.{index_is}
use Rattle.segment_sends.proofs.OneSegment.{bits_full, bits_more, bits_none, bits_tell, few}
use Rattle.segment_sends.proofs.one_segment.is_short_permutation.Goals as goal

pub loop-i-init : goal.loop-i-init
loop-i-init c = bits_none c.args.index.now c.requires

pub returns-then-named-places : goal.returns-then-named-places
returns-then-named-places c = (
  λ no. absurd (false≢true no),
  λ right.
      let index = c.args.index.now in
      let i = get_or index c.loop-i.i-index (pos 0) in
      let fits : FitsSigned w32 i = search rules in
      let below = named_below (length index) i c.cast_unsigned-named.result fits c.cast_unsigned-named.ensures
      (right_inside index (length index) (few index c.requires) c.loop-i.i-index c.loop-i-test.true right) in
      absurd (omega (arith, below, c.if-named-places.true)),
)

pub loop-i-preserved : goal.loop-i-preserved
loop-i-preserved c =
    let index = c.args.index.now in
    let k = c.loop-i.i-index in
    let i = get_or index k (pos 0) in
    let fits : FitsSigned w32 i = search rules in
    let d = c.cast_unsigned-named.result in
    let below : d < length index = omega (arith, c.if-named-places.false) in
    let names = index_is i d fits c.cast_unsigned-named.ensures (omega (arith, below, c.requires)) in
    bits_more index c.requires k d c.loop-i.marks c.loop-i-test.true names below c.loop-i.invariant

pub returns : goal.returns
returns c =
    let index = c.args.index.now in
    let k = c.loop-i.i-index in
    let ge : length index ≤ k = omega (arith, c.loop-i-test.false) in
    let marks = c.loop-i.marks in (
      λ same. bits_tell index c.requires k ge marks c.loop-i.invariant (eqb-true (count_ones marks) (length index) same),
      λ right. eq-eqb (count_ones marks) (length index) (bits_full index c.requires k ge marks c.loop-i.invariant right),
    )
