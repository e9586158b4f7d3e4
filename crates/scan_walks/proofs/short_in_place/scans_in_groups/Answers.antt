use Rattle.scan_walks.proofs.Cited.{rules, ◌≡◌, ◌∙◌, ◌+◌, ◌-◌, ◌≤◌, ℕ, true, ap, arith, drop, length, map, refl, scans_of, subst, sum, sym, take, unsigned_abs, AllPass, All-drop, All-take}
use Rattle.scan_walks.proofs.Cited.{range_lengths, range_read}
use Rattle.scan_walks.proofs.InPlace.{scanning_more, segments_fit}
use Rattle.scan_walks.proofs.short_in_place.scans_in_groups.Goals as goal

pub total_of-requires : goal.total_of-requires
total_of-requires g c = search (rules, range_lengths)

pub overflow_add-end : goal.overflow_add-end
overflow_add-end g c =
    let row = c.args.lengths.now in let first = c.loop-first.first in let k : ℕ = c.min-next.result - first in
    let read = range_read row (map unsigned_abs row) first k c.requires.lengths.none_negative in
    let fits : c.loop-first.start + c.total_of.result ≤ length c.loop-first.a = segments_fit c.loop-first.invariant k c.total_of.result (c.total_of.ensures ∙ ap sum read) (omega arith) in
    record { fits = omega (arith, fits) }

pub slice_bounds-scans_in_group-end : goal.slice_bounds-scans_in_group-end
slice_bounds-scans_in_group-end g c =
    let row = c.args.lengths.now in let first = c.loop-first.first in let k : ℕ = c.min-next.result - first in
    let read = range_read row (map unsigned_abs row) first k c.requires.lengths.none_negative in
    let fits : c.loop-first.start + c.total_of.result ≤ length c.loop-first.a = segments_fit c.loop-first.invariant k c.total_of.result (c.total_of.ensures ∙ ap sum read) (omega arith) in
    search (rules, fits)

pub scans_in_group-requires-clause-lengths : goal.scans_in_group-requires-clause-lengths
scans_in_group-requires-clause-lengths g c = search (rules, range_lengths)

pub scans_in_group-requires-clause-items : goal.scans_in_group-requires-clause-items
scans_in_group-requires-clause-items g c =
    let m = g.M.Monoid in let now = c.loop-first in
    let k : ℕ = now.start + c.total_of.result - now.start in
    subst (λ xs. AllPass m.is_item (take k xs)) (sym now.invariant.left)
    (All-take (λ x. m.is_item x ≡ true) k (drop now.start c.args.a.now) (All-drop (λ x. m.is_item x ≡ true) now.start c.args.a.now c.requires.items))

pub loop-first-preserved : goal.loop-first-preserved
loop-first-preserved g c =
    let m = g.M.Monoid in let now = c.loop-first in let row = c.args.lengths.now in
    let k : ℕ = c.min-next.result - now.first in let n = c.total_of.result in
    let read = range_read row (map unsigned_abs row) now.first k c.requires.lengths.none_negative in
    let m' : ℕ = now.start + n - now.start in
    scanning_more now.invariant k n (c.total_of.ensures ∙ ap sum read) (omega arith) m' (omega arith) c.scans_in_group.new.a
    (c.scans_in_group.ensures ∙ ap (λ ls. scans_of m.join m.unit ls (take m' (drop now.start now.a))) read)
    c.min-next.result (now.start + n) (omega (arith, c.min-next.ensures, c.loop-first-test.true)) refl
