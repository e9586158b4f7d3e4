use Rattle.std.proofs.Common.{rules, ◌≡◌, ◌∙◌, ◌∷◌, [], ◌++◌, ◌<◌, true, length, get_or, pos, w32, FitsSigned, ap, arith, sym}
use Rattle.std.proofs.lemmas.List.{take_all}
use Rattle.std.proofs.lemmas.List.Elements.{All-get_or}
use Rattle.cvl_base.specs.Permutes.{is_place}
use Rattle.permute_walks.specs.Indices.{elements_at}
use Rattle.permute_walks.proofs.Outside.{at_more}
use Rattle.permute_walks.proofs.Scattered.{named_below}
use Rattle.permute_walks.proofs.Stored.{index_is}
use Rattle.segmented_permutes.proofs.Gathers.{put_more}
use Rattle.segmented_permutes.proofs.segment_gathers.gather_short_over.Goals as goal

pub returns-then-named-places : goal.returns-then-named-places
returns-then-named-places g c =
    let index = c.args.index.now in
    let k = c.loop-k.k in
    let i = get_or index k (pos 0) in
    let m = length c.args.source.now in
    let fits : FitsSigned w32 i = search rules in
    let below = named_below m i c.cast_unsigned-named.result fits c.cast_unsigned-named.ensures
    (All-get_or (λ j. is_place m j ≡ true) index k (pos 0) c.loop-k-test.true c.requires.inside) in
    absurd (omega (arith, below, c.if-named-places.true))

pub loop-k-preserved : goal.loop-k-preserved
loop-k-preserved g c =
    let source = c.args.source.now in
    let index = c.args.index.now in
    let k = c.loop-k.k in
    let i = get_or index k (pos 0) in
    let fits : FitsSigned w32 i = search rules in
    let d = c.cast_unsigned-named.result in
    let x = c.index-source-named.result in
    let below : d < length source = omega (arith, c.if-named-places.false) in
    let names = index_is i d fits c.cast_unsigned-named.ensures (omega (arith, below, c.requires.in_limit)) in
    put_more c.loop-k.out k x (omega (arith, c.loop-k.auto.out, c.requires.as_long, c.loop-k-test.true))
    ∙ ap (λ xs. xs ++ x ∷ []) c.loop-k.invariant
    ∙ sym (at_more source index k d x c.loop-k-test.true names below c.index-source-named.is)

pub returns : goal.returns
returns g c =
    let index = c.args.index.now in
    let k = c.loop-k.k in
    sym (take_all k c.loop-k.out (omega (arith, c.loop-k.auto.out, c.requires.as_long, c.loop-k-test.false)))
    ∙ c.loop-k.invariant
    ∙ ap (elements_at c.args.source.now) (take_all k index (omega (arith, c.loop-k-test.false)))
