use Rattle.std.proofs.Common.{◌∙◌, ap, map-id}
use Rattle.std.specs.List.{zip}
use Rattle.combining_permutes.specs.CombiningPermutes.{combined}
use Rattle.combining_permutes.proofs.operator_ranges.items_range.Goals as goal

pub returns-clause-joined : goal.returns-clause-joined
returns-clause-joined g c =
    c.combine_range.ensures.joined ∙ ap (λ xs. combined g.M.Monoid.join (zip c.args.index.now xs) c.args.lowest c.args.out.now) (map-id c.args.source.now)
