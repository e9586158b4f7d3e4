use Rattle.scan_walks.proofs.Cited.{rules, ◌≡◌, ◌∙◌, ℕ, [], List, Ok, arith, length, map, sum, sym, ap, length-scans_of, scans_of, map-id, all_written}
use Rattle.fresh.specs.Places.{IsAllOf, Site, Stretch, stretch, with_items}
use Rattle.scan_walks.proofs.Segmented.{seg_scan-fits}
use Rattle.scan_walks.proofs.vectors.seg_scan_vec.Goals as goal

-- the run of the whole room, in which the scans of all segments stand
scanned : {Item : Type 0} (join : Item → Item → Item) (unit : Item) (ls d : List ℕ) (a : List Item) (site : Site) (run all : Stretch Item) → ls ≡ d → sum d ≡ length a
    → site.places ≡ length a → run ≡ stretch site.block 0 [] (length a) → all ≡ with_items run (scans_of join unit ls (map (λ x. x) a))
    → IsAllOf site all × (all.items ≡ scans_of join unit d a)
scanned join unit ls d a site run all same agrees places new written = search (rules, all_written, map-id, length-scans_of)

pub into_vec-requires : goal.into_vec-requires
into_vec-requires g c =
    let m = g.M.Monoid in
    (scanned m.join m.unit _ c.args.d.now c.args.a.now _ _ _ (c.lengths.ensures.read ∙ c.as_lengths-segments.ensures) c.in_ok-check_total.ensures.agrees c.in_ok-room.ensures.room
    c.in_ok-room.ensures.run c.scans_into-run.ensures).0

pub returns : goal.returns
returns g c =
    let m = g.M.Monoid in
    let a = c.args.a.now in
    let d = c.args.d.now in
    let agrees = c.in_ok-check_total.ensures.agrees in
    let sums = (scanned m.join m.unit _ d a _ _ _ (c.lengths.ensures.read ∙ c.as_lengths-segments.ensures) agrees c.in_ok-room.ensures.room c.in_ok-room.ensures.run c.scans_into-run.ensures).1 in
    let items = c.into_vec.ensures.items ∙ sums in
    record {
      values = seg_scan-fits m.join m.unit a d agrees ∙ ap (λ ys. Ok ys) (sym items);
      as_long = omega (arith, c.into_vec.ensures.len, ap length sums, length-scans_of m.join m.unit d a (omega (arith, agrees)));
    }
