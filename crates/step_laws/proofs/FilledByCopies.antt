-- A distribute by segments by steps.
use Rattle.std.proofs.Common.{◌≡◌, ◌++◌, ◌-◌, ◌≤◌, ◌∙◌, ℕ, zero, suc, ℤ, pos, true, List, [], ◌∷◌, length, map, take, replicate, Result, Ok, refl, sym, ap, arith, subst, All, take_all}
use Rattle.std.proofs.lemmas.Bool.{and_from, eq-eqb}
use Rattle.std.proofs.lemmas.List.{length-replicate, replicate-append-replicate}
use Rattle.std.proofs.lemmas.List.Elements.{All-head, All-tail}
use Rattle.std.specs.List.{AllZip}
use Rattle.cvl_base.specs.Gives.{◌>>=◌}
use Rattle.cvl_base.specs.Limits.{most_places}
use Rattle.cvl_base.specs.Lists.{joined}
use Rattle.cvl_base.specs.SegmentedCalls.{seg_distribute_within}
use Rattle.cvl_base.specs.declared.fault.Fault.{Fault}
use Rattle.pack_dist.proofs.Distributed.{copies, lists-fit, lists-whole}
use Rattle.pack_dist.specs.Lists.{copies_of}
use Rattle.segment_fills.proofs.Parts.{part-distributes, part-with}
use Rattle.segment_fills.proofs.Written.{take-both}
use Rattle.segment_fills.specs.Calls.{part_distribute_by}
use Rattle.segment_fills.specs.Fills.{copies_in_part, is_part_with, part_distribute_of, with_head}
use Rattle.c_calls.specs.Calls.{by_segments, lengths_of}
use Rattle.c_calls.specs.Told.{RoomTold, Told, done}
use Rattle.step_laws.specs.FillParts.{ArePartsOf, FillPart, done_behind, room_of}
use Rattle.step_laws.specs.FillSteps.{Copies}
use Rattle.step_laws.proofs.Answered.{tells_done, within}
use Rattle.step_laws.proofs.Filled.{Fits, Holds, all-fit, filled, held, held_from}
use Rattle.step_laws.proofs.Parted.{alike_where}
use Rattle.step_laws.proofs.SegmentLengths.{are_lengths, few-of, nested}

module _ {X : Type 0} (d : X) where
  -- copies, from whatever place on
  abbrev of : X → ℕ → ℕ → List X
  of x a n = replicate n x

  holds : Holds of
  holds = record { more = λ x a n m. replicate-append-replicate n m x; long = λ x a n. length-replicate n x }

  in-part : (before head : ℕ) (lengths : List ℕ) (values : List X) (n : ℕ) → head ≤ n → length values ≡ length (with_head head lengths)
      → copies_in_part head lengths values n ≡ held of holds d before head lengths values n
  in-part before zero lengths [] n few one_each = let all : n - 0 ≡ n = omega arith in ap (λ k. take k (joined (copies_of [] lengths))) (sym all)
  in-part before zero lengths (v ∷ vs) n few one_each = let all : n - 0 ≡ n = omega arith in ap (λ k. take k (joined (copies_of (v ∷ vs) lengths))) (sym all)
  in-part before (suc h) lengths [] n few one_each = absurd (omega (arith, one_each))
  in-part before (suc h) lengths (v ∷ vs) n few one_each =
      let long = length-replicate (suc h) v in
      let all : take n (replicate (suc h) v) ≡ replicate (suc h) v = take_all n (replicate (suc h) v) (omega (arith, long, few)) in
      take-both n (replicate (suc h) v) (joined (copies_of vs lengths)) ∙ λ i. all i ++ take (n - long i) (joined (copies_of vs lengths))

  abbrev own_held : FillPart X X → List X
  own_held p = copies_in_part p.head p.lengths p.values (length p.room)

  written : (own left : FillPart X X) → Copies own left → Fits own → left.room ≡ own_held own
  written own left does fit =
      let n = length own.room in
      let whole : is_part_with own.head own.lengths (length own.values) n ≡ true = and_from _ _ fit.part (eq-eqb _ _ fit.one_each) in
      let call : List ℕ → Result (List X) Fault = λ segments. part_distribute_of own.head segments own.values n in
      let meaning : part_distribute_by own.head (map pos own.lengths) own.values own.room ≡ Ok (own_held own) =
      within own.room (by_segments (map pos own.lengths) call) fit.few_elements
      ∙ ap (λ r. r >>= call) (are_lengths own.lengths fit.few_lengths fit.small)
      ∙ part-distributes own.head own.lengths own.values n whole in
      let told : Told (Ok (own_held own)) does.0.0 own.room left.room = subst (λ m. Told m does.0.0 own.room left.room) meaning does.0.1 in
      told.1

  each-held : (before : ℕ) (parts : List (FillPart X X)) → All Fits parts → joined (map own_held parts) ≡ held_from of holds d before parts
  each-held before [] fit = refl
  each-held before (p ∷ parts) fit =
      let own = All-head Fits p parts fit in
      let part = part-with p.head p.lengths (length p.values) (length p.room) (and_from _ _ own.part (eq-eqb _ _ own.one_each)) in
      let first = in-part before p.head p.lengths p.values (length p.room) (omega (arith, part.enough)) own.one_each in
      let rest = each-held (done_behind before p.head p.lengths (length p.room)) parts (All-tail Fits p parts fit) in
      λ i. first i ++ rest i

  pub distributes : (lengths : List ℤ) (segments : List ℕ) (values : List X) (start end : List (FillPart X X)) → lengths_of lengths ≡ Ok segments → ArePartsOf segments values start
      → AllZip Copies start end → RoomTold (by_segments lengths (seg_distribute_within most_places values)) done (room_of start) (room_of end)
  distributes lengths segments values start end is are copied =
      let few = few-of lengths segments is in
      let fit : All Fits start = all-fit segments values start few.0 few.1 are in
      let whole = joined (copies_of values segments) in
      let now : room_of end ≡ whole =
      ap joined (alike_where Copies Fits own_held (λ p. p.room) written start end copied fit)
      ∙ each-held 0 start fit ∙ filled of holds d segments values start are in
      let long : length whole ≡ length (room_of start) =
      sym (lists-whole (copies 0) values segments are.one_each) ∙ (nested segments (room_of start) are.whole.0 are.whole.1).0 in
      let meaning : by_segments lengths (seg_distribute_within most_places values) ≡ Ok whole =
      ap (λ r. r >>= seg_distribute_within most_places values) is ∙ lists-fit (copies most_places) values segments are.one_each few.1 in
      subst (λ m. RoomTold m done (room_of start) (room_of end)) (sym meaning)
      (subst (λ ys. RoomTold (Ok whole) done (room_of start) ys) (sym now) (tells_done whole (room_of start) long))
