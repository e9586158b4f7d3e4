use Rattle.std.proofs.Common.{rules, ◌∙◌, ◌≡◌, ◌<◌, true, length, get_or, pos, w32, FitsSigned, arith, sym}
use Rattle.std.proofs.lemmas.List.Elements.{All-get_or}
use Rattle.cvl_base.specs.Permutes.{is_place}
use Rattle.permute_walks.proofs.Outside.{length-elements_at}
use Rattle.permute_walks.proofs.Scattered.{named_below}
use Rattle.permute_walks.proofs.Stored.{index_is}
use Rattle.segmented_permutes.proofs.Gathers.{one_gathered}
use Rattle.segmented_permutes.proofs.segment_gathers.gather_segment_over.Goals as goal

pub returns-then-index-eq1 : goal.returns-then-index-eq1
returns-then-index-eq1 g c =
    let index = c.args.index.now in
    let m = length c.args.source.now in
    let i = get_or index 0 (pos 0) in
    let d = c.cast_unsigned-named.result in
    let one : length index ≡ 1 = c.if-index-eq1.true in
    let fits : FitsSigned w32 i = search rules in
    let below : d < m = named_below m i d fits c.cast_unsigned-named.ensures (All-get_or (λ j. is_place m j ≡ true) index 0 (pos 0) (omega (arith, one)) c.requires.inside) in
    one_gathered c.args.source.now c.args.out.now index d c.index-source-named.result one c.requires.as_long
    (index_is i d fits c.cast_unsigned-named.ensures (omega (arith, below, c.requires.in_limit.0))) below c.index-source-named.is

pub write_over-requires-clause-as_long : goal.write_over-requires-clause-as_long
write_over-requires-clause-as_long g c = c.requires.as_long ∙ sym (length-elements_at c.args.source.now c.args.index.now c.requires.inside)
