use Rattle.std.proofs.Common.{◌≡◌, ◌∙◌, ◌+◌, ◌++◌, ◌∷◌, [], ℕ, List, ap, arith, length, map, slice_set, sym, take}
use Rattle.std.proofs.lemmas.List.{length-set, take_all, take_more_set}
use Rattle.cvl_base.specs.Folds.{scan_of}
use Rattle.text_parts.proofs.Taken.{scan-more, taken-more, taken-within}
use Rattle.text_parts.proofs.places.write_places.Goals as goal

pub overflow_add-place : goal.overflow_add-place
overflow_add-place g c =
    omega (arith, c.loop-k.invariant.place, c.taken-place.ensures, c.requires.few, taken-within g.S.Takes.taken c.args.told.now c.loop-k.k c.loop-k-test.true)

pub loop-k-preserved : goal.loop-k-preserved
loop-k-preserved g c =
    let f = g.S.Takes.taken in let told = c.args.told.now in let k = c.loop-k.k in let before = c.loop-k.invariant in let within = c.loop-k-test.true in
    record {
      place = omega (arith, taken-more f told k within, before.place, c.taken-place.ensures);
      placed = take_more_set c.loop-k.places k c.loop-k.place (omega (arith, within, c.requires.room, c.loop-k.auto.places))
          ∙ (λ i. before.placed i ++ before.place i ∷ []) ∙ sym (scan-more f told k within);
    }

pub returns : goal.returns
returns g c =
    let told = c.args.told.now in let n = length told in let places = c.loop-k.places in
    let at : c.loop-k.k ≡ n = omega (arith, c.loop-k-test.false, c.loop-k.auto.k-end) in
    let all : take n told ≡ told = take_all n told (omega arith) in
    let scanned = λ (ts : List ℕ). scan_of ◌+◌ 0 (map g.S.Takes.taken ts) in
    let before : take n places ≡ scanned told =
    ap (λ k. take k places) (sym at) ∙ c.loop-k.invariant.placed ∙ ap (λ k. scanned (take k told)) at ∙ ap scanned all in
    sym (take_all (n + 1) (slice_set places n c.args.end) (omega (arith, length-set places n c.args.end, c.requires.room, c.loop-k.auto.places)))
    ∙ take_more_set places n c.args.end (omega (arith, c.requires.room, c.loop-k.auto.places))
    ∙ ap (λ ns. ns ++ c.args.end ∷ []) before
