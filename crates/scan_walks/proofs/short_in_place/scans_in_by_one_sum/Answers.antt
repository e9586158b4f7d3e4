use Rattle.scan_walks.proofs.Cited.{◌≡◌, ◌+◌, ◌<◌, ◌∙◌, ◌∷◌, ◌++◌, [], get_or, map, unsigned_abs, take, refl, sym, subst, ap, arith, true, IsTrue, sum, All-get_or, All-take, length}
use Rattle.scan_walks.proofs.Cited.{take_more_set, reduces_of}
use Rattle.range_walks.proofs.OneSum.{begins_anew, goes_on, none_yet, sum_joined}
use Rattle.range_walks.proofs.SegmentNumbers.{holder, none_scanned, reduced_is_item, scans_more}
use Rattle.scan_walks.proofs.InPlace.{still_at, still_behind}
use Rattle.scan_walks.proofs.short_in_place.scans_in_by_one_sum.Goals as goal
use Rattle.scan_walks.proofs.short_in_place.scans_in_by_one_sum.Goals.{then-ends-place-eq0, else-ends-place-eq0}

pub loop-place-init : goal.loop-place-init
loop-place-init g c =
    let m = g.M.Monoid in
    let lengths = map unsigned_abs c.args.lengths.now in
    record { so_far = c.unit-unit.ensures ∙ none_yet m.join m.unit lengths; scanned = sym (none_scanned m.join m.unit lengths); left = refl }

pub join-so_far-requires-clause-first : goal.join-so_far-requires-clause-first
join-so_far-requires-clause-first g c =
    let m = g.M.Monoid in
    let now = c.loop-place in
    let lengths = map unsigned_abs c.args.lengths.now in
    let ends = c.args.ends.now in
    let xs = c.args.a.now in
    let here = holder c.args.lengths.now ends _ now.place _ c.requires.ends (omega (arith, c.requires.total)) c.requires.places c.loop-place-test.true refl c.requires.few in
    let within : now.place < sum lengths = omega (arith, c.loop-place-test.true, c.requires.total) in
    let next = sum (take now.place ends) + get_or ends now.place 0 in
    let items = All-take (λ y. m.is_item y ≡ true) now.place xs c.requires.items in
    let is : c.if-ends-place-eq0.sum ≡ get_or (reduces_of m.join m.unit lengths (take now.place xs)) next m.unit =
    elim c.if-ends-place-eq0.branch [
      | then-ends-place-eq0 w ↦ w.sum-is ∙ goes_on m.join m.unit lengths ends xs now.place _ (omega (arith, w.if-ends-place-eq0.true)) now.invariant.so_far
      | else-ends-place-eq0 w ↦ w.sum-is ∙ c.unit-unit.ensures ∙ begins_anew m.join m.unit lengths ends xs now.place c.requires.ends within (omega (arith, w.if-ends-place-eq0.false)) here.holds
    ] in
    ap m.is_item is ∙ reduced_is_item c.know_laws.ensures lengths (take now.place xs) next m.unit items here.own

pub join-so_far-requires-clause-second : goal.join-so_far-requires-clause-second
join-so_far-requires-clause-second g c =
    let m = g.M.Monoid in let a = c.args.a.now in let i = c.loop-place.place in let x = c.index-a-place.result in
    let within : i < length a = omega (arith, c.loop-place-test.true) in
    let same : x ≡ get_or a i x = c.index-a-place.is ∙ still_at c.loop-place.a a i c.loop-place.invariant.left x in
    subst (λ y. IsTrue (m.is_item y)) (sym same) (All-get_or (λ y. m.is_item y ≡ true) a i x within c.requires.items)

pub loop-place-preserved : goal.loop-place-preserved
loop-place-preserved g c =
    let m = g.M.Monoid in
    let now = c.loop-place in
    let lengths = map unsigned_abs c.args.lengths.now in
    let ends = c.args.ends.now in
    let xs = c.args.a.now in
    let i = now.place in
    let x = c.index-a-place.result in
    let here = holder c.args.lengths.now ends _ i _ c.requires.ends (omega (arith, c.requires.total)) c.requires.places c.loop-place-test.true refl c.requires.few in
    let some : i < length xs = omega (arith, c.loop-place-test.true) in
    let within : i < sum lengths = omega (arith, c.loop-place-test.true, c.requires.total) in
    let sum_now = c.if-ends-place-eq0.sum in
    let is : sum_now ≡ get_or (reduces_of m.join m.unit lengths (take i xs)) (sum (take i ends) + get_or ends i 0) m.unit =
    elim c.if-ends-place-eq0.branch [
      | then-ends-place-eq0 w ↦ w.sum-is ∙ goes_on m.join m.unit lengths ends xs i _ (omega (arith, w.if-ends-place-eq0.true)) now.invariant.so_far
      | else-ends-place-eq0 w ↦ w.sum-is ∙ c.unit-unit.ensures ∙ begins_anew m.join m.unit lengths ends xs i c.requires.ends within (omega (arith, w.if-ends-place-eq0.false)) here.holds
    ] in
    let read : x ≡ get_or xs i x = c.index-a-place.is ∙ still_at now.a xs i now.invariant.left x in
    record {
      so_far = sum_joined m.join m.unit lengths xs i _ sum_now x c.join-so_far.result here.holds some read is c.join-so_far.ensures
          ∙ ap (λ s. get_or (reduces_of m.join m.unit lengths (take (i + 1) xs)) s m.unit) here.number;
      scanned = take_more_set now.a i sum_now (omega (arith, some)) ∙ ap (λ ys. ys ++ sum_now ∷ []) now.invariant.scanned
          ∙ sym (scans_more m.join m.unit lengths xs i _ m.unit sum_now here.holds some is);
      left = still_behind now.a xs i now.invariant.left sum_now;
    }
