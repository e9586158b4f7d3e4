use Rattle.range_walks.proofs.Cited.{rules, ◌≡◌, ◌-◌, ◌∙◌, true, map, unsigned_abs, sym, ap, subst, AllPass, length-drop, length-map, length-take, All-drop, All-map, All-take, length-scan_of}
use Rattle.range_walks.proofs.Cited.{scan_of, Stretch, with_items, written_twice, range_scan_of, scans_of}
use Rattle.range_walks.proofs.Cut.{parts_scanned}
use Rattle.range_walks.proofs.RangeParts.{parts_read}
use Rattle.range_walks.proofs.ranges.scan_range_into.Goals as goal

pub scans_into-requires-clause-items : goal.scans_into-requires-clause-items
scans_into-requires-clause-items g c =
    let item = g.E.Reading.item in
    let is_item : g.row.X.Denot → Type 0 = λ x. g.M.Monoid.is_item (item x) ≡ true in
    let part = All-take is_item (c.args.to - c.args.from) _ (All-drop is_item c.args.from c.args.a.now c.requires.items) in
    subst (λ xs. AllPass (λ x. g.M.Monoid.is_item (item x)) xs) (sym c.parts_of_range.ensures.others) (All-drop is_item _ _ part)

pub scans_into-requires-clause-room : goal.scans_into-requires-clause-room
scans_into-requires-clause-room g c = search (rules, length-scan_of, length-map, length-drop, length-take)

pub returns : goal.returns
returns g c =
    let m = g.M.Monoid in
    let item = g.E.Reading.item in
    let parts = c.parts_of_range in
    let lengths = map unsigned_abs parts.result.1.now in
    let front = map item parts.result.0.now in
    let others = map item parts.result.2.now in
    let scans = scans_of m.join m.unit lengths others in
    let is_item : g.row.X.Denot → Type 0 = λ x. m.is_item (item x) ≡ true in
    let part = All-take is_item (c.args.to - c.args.from) _ (All-drop is_item c.args.from c.args.a.now c.requires.items) in
    let items = subst (λ xs. AllPass (λ x. m.is_item (item x)) xs) (sym parts.ensures.others) (All-drop is_item _ _ part) in
    c.scans_into.ensures
    ∙ ap (λ (r : Stretch _). with_items r scans) c.scan_into-run.ensures
    ∙ written_twice c.args.run (scan_of m.join c.args.before front) scans
    ∙ ap (with_items c.args.run) (sym (ap (range_scan_of m.join m.unit c.args.before)
    (parts_read item c.args.d.now lengths c.args.a.now parts.result.0.now parts.result.2.now c.args.from c.args.to parts.ensures.starts)
    ∙ parts_scanned c.know_laws.ensures lengths c.args.before front others (All-map (λ y. m.is_item y ≡ true) item parts.result.2.now items)))
