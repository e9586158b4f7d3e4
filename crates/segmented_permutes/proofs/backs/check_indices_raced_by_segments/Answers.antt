use Rattle.std.proofs.Common.{◌∙◌, ap, subst, sym, arith, Ok}
use Rattle.cvl_base.specs.Gives.{Gives, unless}
use Rattle.permute_walks.specs.Indices.{first_outside}
use Rattle.segment_sends.proofs.Through.{destinations-all, places-all}
use Rattle.segmented_permutes.proofs.FlatIndices.{outside_flat}
use Rattle.segmented_permutes.proofs.backs.check_indices_raced_by_segments.Goals as goal

pub flat_indices-requires-clause-as_long : goal.flat_indices-requires-clause-as_long
flat_indices-requires-clause-as_long g c κs within = destinations-all c.args.index_d.now c.args.source_d.now c.args.index.now c.requires.total (sym c.requires.count)

pub flat_indices-requires-clause-in_limit : goal.flat_indices-requires-clause-in_limit
flat_indices-requires-clause-in_limit g c κs within =
    omega (arith, places-all c.args.index_d.now c.args.source_d.now c.args.index.now (sym c.requires.count), c.total-places.ensures.value, c.total-places.ensures.in_limit)

pub returns : goal.returns
returns g c =
    let whole = c.total-places.result in
    subst (Gives (λ u. u) c.check_indices_raced.result)
    (ap (λ o. unless {Y = Unit {0}} o (Ok (tt {0})))
    (ap (first_outside 0 whole) (c.deref.ensures.value ∙ c.in_ok-flat.ensures.are)
    ∙ sym (outside_flat 0 0 whole c.args.source_d.now c.args.index_d.now c.args.index.now c.requires.count (omega (arith, c.requires.total)) (omega (arith, c.total-places.ensures.value)))))
    c.check_indices_raced.ensures
