use Rattle.scan_walks.proofs.Cited.{◌≡◌, ◌∙◌, ◌+◌, ◌-◌, ◌≤◌, ℕ, true, ap, arith, drop, length, map, refl, rules, scan_of, subst, sym, take, unsigned_abs, AllPass, All-drop, All-take, length-take}
use Rattle.scan_walks.proofs.Cited.{length_here, one_long, one_scanned, read_at}
use Rattle.scan_walks.proofs.InPlace.{scanning_more, segments_fit}
use Rattle.scan_walks.proofs.in_place.scans_in_turn.Goals as goal

pub overflow_cast-end : goal.overflow_cast-end
overflow_cast-end g c = (length_here c.requires.lengths c.loop-length-test.true).fits

pub slice_bounds-scan_in-end : goal.slice_bounds-scan_in-end
slice_bounds-scan_in-end g c =
    let lengths = map unsigned_abs c.args.lengths.now in let s = c.loop-length.length-index in let n = read_at c.args.lengths.now s in
    let here = length_here c.requires.lengths c.loop-length-test.true in
    let fits : c.loop-length.start + n ≤ length c.loop-length.a = segments_fit c.loop-length.invariant 1 n (one_long lengths s n here.within here.is) (omega arith) in
    search (rules, fits)

pub scan_in-requires-clause-items : goal.scan_in-requires-clause-items
scan_in-requires-clause-items g c =
    let m = g.M.Monoid in let now = c.loop-length in
    let k : ℕ = now.start + read_at c.args.lengths.now now.length-index - now.start in
    subst (λ xs. AllPass m.is_item (take k xs)) (sym now.invariant.left)
    (All-take (λ x. m.is_item x ≡ true) k (drop now.start c.args.a.now) (All-drop (λ x. m.is_item x ≡ true) now.start c.args.a.now c.requires.items))

pub loop-length-preserved : goal.loop-length-preserved
loop-length-preserved g c =
    let m = g.M.Monoid in let now = c.loop-length in let s = now.length-index in
    let lengths = map unsigned_abs c.args.lengths.now in let n = read_at c.args.lengths.now s in
    let here = length_here c.requires.lengths c.loop-length-test.true in
    let is_n = one_long lengths s n here.within here.is in
    let k : ℕ = now.start + n - now.start in
    let elements = take k (drop now.start now.a) in
    let few : length elements ≤ n = omega (arith, length-take k (drop now.start now.a)) in
    scanning_more now.invariant 1 n is_n (omega arith) k (omega arith) c.scan_in.new.a
    (c.scan_in.ensures ∙ ap (λ u. scan_of m.join u elements) c.unit.ensures ∙ one_scanned m.join m.unit lengths s n elements here.within here.is few) (s + 1) (now.start + n) refl refl
