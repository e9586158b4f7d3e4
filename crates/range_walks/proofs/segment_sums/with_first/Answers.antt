use Rattle.range_walks.proofs.Cited.{rules, ◌≡◌, ◌∷◌, ◌∙◌, ap, Bool}
use Rattle.range_walks.proofs.Few.{first_passes, others_pass}
use Rattle.range_walks.proofs.segment_sums.with_first.Goals as goal

pub join-requires-clause-second : goal.join-requires-clause-second
join-requires-clause-second g c =
    let is_item = g.M.Monoid.is_item in
    let passes : g.row.X.Denot → Bool = λ x. is_item (g.E.Reading.item x) in
    let are : c.args.xs.now ≡ c.in_ok-first.first.now ∷ c.in_ok-first.others.now = search rules in
    ap is_item c.item.ensures ∙ first_passes passes _ _ _ are c.requires.items

pub returns-clause-item : goal.returns-clause-item
returns-clause-item g c =
    let is_item = g.M.Monoid.is_item in
    let passes : g.row.X.Denot → Bool = λ x. is_item (g.E.Reading.item x) in
    let are : c.args.xs.now ≡ c.in_ok-first.first.now ∷ c.in_ok-first.others.now = search rules in
    let first = ap is_item c.item.ensures ∙ first_passes passes _ _ _ are c.requires.items in
    ap is_item c.join.ensures ∙ c.know_laws.ensures.join_is_item _ _ c.requires.before first

pub returns-clause-items : goal.returns-clause-items
returns-clause-items g c =
    let passes : g.row.X.Denot → Bool = λ x. g.M.Monoid.is_item (g.E.Reading.item x) in
    let are : c.args.xs.now ≡ c.in_ok-first.first.now ∷ c.in_ok-first.others.now = search rules in
    others_pass passes _ _ _ are c.requires.items
