use Rattle.range_walks.proofs.Cited.{rules, ◌≡◌, ◌∷◌, [], ◌∙◌, ap, sym, map, Bool, scan_of, scan_of-cons, with_items, written_twice}
use Rattle.range_walks.proofs.Few.{first_passes, others_pass}
use Rattle.range_walks.proofs.segment_scans.scan_of_segment.Goals as goal

pub scan_into-requires-clause-before : goal.scan_into-requires-clause-before
scan_into-requires-clause-before g c =
    let is_item = g.M.Monoid.is_item in
    let passes : g.row.X.Denot → Bool = λ x. is_item (g.E.Reading.item x) in
    let are : c.args.xs.now ≡ c.in-Some.first.now ∷ c.in-Some.others.now = search rules in
    ap is_item c.item.ensures ∙ first_passes passes _ _ _ are c.requires.items

pub scan_into-requires-clause-items : goal.scan_into-requires-clause-items
scan_into-requires-clause-items g c =
    let passes : g.row.X.Denot → Bool = λ x. g.M.Monoid.is_item (g.E.Reading.item x) in
    let are : c.args.xs.now ≡ c.in-Some.first.now ∷ c.in-Some.others.now = search rules in
    others_pass passes _ _ _ are c.requires.items

pub returns : goal.returns
returns g c =
    let m = g.M.Monoid in
    let item = g.E.Reading.item in
    let passes : g.row.X.Denot → Bool = λ x. m.is_item (item x) in
    let are : c.args.xs.now ≡ c.in-Some.first.now ∷ c.in-Some.others.now = search rules in
    let first = item c.in-Some.first.now in
    let others = map item c.in-Some.others.now in
    let one : c.push.new.self ≡ with_items c.args.run (m.unit ∷ []) = c.push.ensures ∙ ap (λ u. with_items c.args.run (u ∷ [])) c.unit.ensures in
    c.scan_into.ensures
    ∙ (λ i. with_items (one i) (scan_of m.join (c.item.ensures i) others))
    ∙ written_twice c.args.run (m.unit ∷ []) (scan_of m.join first others)
    ∙ ap (λ x. with_items c.args.run (m.unit ∷ scan_of m.join x others)) (sym (c.know_laws.ensures.left_unit first (first_passes passes _ _ _ are c.requires.items)))
    ∙ ap (with_items c.args.run) (sym (scan_of-cons m.join m.unit first others))
    ∙ ap (λ xs. with_items c.args.run (scan_of m.join m.unit (map item xs))) (sym are)
