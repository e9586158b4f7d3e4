-- The least places that a closed board tells, where each tile was given to a worker who answered all of its places.
-- Source: what the definitions of Slots, LeastBoards and Facts imply.
use Rattle.std.specs.Prelude.{None, Some, Option}
use Rattle.std.proofs.Common.{◌≡◌, refl, sym, ap, ◌∙◌, ℕ, zero, suc, ◌+◌, ◌-◌, ◌/◌, ◌<◌, ◌≤◌, cond, true, false, IsTrue, List, [], ◌∷◌, length, get_or, arith, eq-eqb, inl, inr}
use Rattle.std.specs.List.{All, Any, sum_by}
use Rattle.std.proofs.lemmas.Bool.{cases_Bool, eqb-true, true≢false}
use Rattle.std.proofs.lemmas.Bool.Decides.{leb_tells}
use Rattle.std.proofs.lemmas.Grind.{common_steps}
use Rattle.std.proofs.lemmas.List.{ext_get_or}
use Rattle.std.proofs.lemmas.List.Elements.{All-head, All-tail}
use Rattle.std.proofs.lemmas.List.FromFn.{get_or-map-range_with_len, length-map-range_with_len}
use Rattle.std.proofs.lemmas.List.Sums.{sum_by-cons}
use Rattle.std.proofs.lemmas.Option.{none-some}
use Rattle.least_boards.specs.Seats.{Seated}
use Rattle.least_boards.specs.LeastBoards.{IsLeastEnd, LeastView}
use Rattle.least_boards.specs.LeastPasses.{lowered_in, lowest_of, no_place, seen_in, word_of_place}
use Rattle.least_boards.specs.Hands.{times}
use Rattle.least_boards.specs.Slots.{is_slot, least_from, leasts_of}
use Rattle.least_boards.proofs.LeastEnding.{target_within}
use Rattle.least_boards.specs.declared.least_pass.LeastPass.{LeastPass}
use Rattle.crew.specs.Facts.{HasFacts}
use Rattle.cvl_base.specs.Limits.{most_elements}
use Rattle.tile_plan.specs.Ranges.{Tiling, range_of, tile_count}
use Rattle.least_races.specs.Facts.{HasAnswered, IsCutInto, IsOver}

-- a place of the slot that is at most each place of the slot, or none where the slot has no place, is the slot's least place
module _ (slot : ℕ) where
  has_slot : (target : Option ℕ) → is_slot slot target ≡ true → target ≡ Some slot
  has_slot None is = absurd (true≢false (sym is))
  has_slot (Some x) is = ap Some (eqb-true x slot is)

  first_is : (place : ℕ) (w : Option ℕ) → place < no_place → ((p : ℕ) → w ≡ Some p → place ≤ p) → word_of_place w ≤ place → w ≡ Some place
  first_is place None few from least = absurd (omega (arith, few, least))
  first_is place (Some p) few from least = let same : p ≡ place = omega (arith, from p refl, least) in ap Some same

  later : (target : Option ℕ) (targets : List (Option ℕ)) (k : ℕ) → is_slot slot target ≡ false → get_or (target ∷ targets) k None ≡ Some slot
      → (1 ≤ k) × (get_or targets (k - 1) None ≡ Some slot)
  later target targets zero other is = absurd (true≢false (sym (ap (is_slot slot) is ∙ eq-eqb slot slot refl) ∙ other))
  later target targets (suc k) other is = let same : suc k - 1 ≡ k = omega arith in (omega arith, ap (λ n. get_or targets n None) same ∙ is)

  pub least_is : (place : ℕ) (targets : List (Option ℕ)) (w : Option ℕ) → place + length targets ≤ no_place
      → ((p : ℕ) → w ≡ Some p → (place ≤ p) × (get_or targets (p - place) None ≡ Some slot))
      → ((k : ℕ) → get_or targets k None ≡ Some slot → word_of_place w ≤ place + k)
      → w ≡ least_from place targets slot
  least_is place [] None few of_slot least = refl
  least_is place [] (Some p) few of_slot least = absurd (none-some slot (of_slot p refl).1)
  least_is place (target ∷ targets) w few of_slot least =
      elim (cases_Bool (is_slot slot target)) [
        | inl is ↦
            first_is place w (omega (arith, few)) (λ p same. (of_slot p same).0) (omega (arith, least 0 (has_slot target is)))
            ∙ ap (λ b. cond b (Some place) (least_from (place + 1) targets slot)) (sym is)
        | inr other ↦
            least_is (place + 1) targets w (omega (arith, few))
            (λ p same.
            let at = of_slot p same in
            let past = later target targets (p - place) other at.1 in
            let next : p - (place + 1) ≡ p - place - 1 = omega arith in (omega (arith, at.0, past.0), ap (λ n. get_or targets n None) next ∙ past.1))
            (λ k is. let low = least (suc k) is in omega (arith, low))
            ∙ ap (λ b. cond b (Some place) (least_from (place + 1) targets slot)) (sym other)
      ]

-- each place lies in a tile
tile_at : (len tile place : ℕ) → 1 ≤ tile → place < len → (t : ℕ) × (t < tile_count len tile) × ((range_of len tile t).0 ≤ place) × (place < (range_of len tile t).1)
tile_at len tile place some within = (place / tile, grind (arith, common_steps), grind (arith, common_steps), grind (arith, common_steps))

module _ (board : LeastView) (plan : Tiling) where
  -- one of the workers was given the tile, and answered the place
  reached : (place slot t word : ℕ) → (range_of plan.len plan.tile t).0 ≤ place → place < (range_of plan.len plan.tile t).1
      → slot < board.slots → get_or board.targets place None ≡ Some slot → (seats : List (Seated LeastPass))
      → All (HasFacts (HasAnswered board plan) (λ seat. seat.pass.hand.given)) seats → 1 ≤ sum_by (λ seat. times t seat.pass.hand.given) seats
      → word ≤ lowest_of (λ seat. lowered_in slot seat.pass) seats → word ≤ lowest_of (λ seat. seen_in slot seat.pass) seats → word ≤ place
  reached place slot t word begun not_past within is [] facts some lowered seen = absurd (omega (arith, some))
  reached place slot t word begun not_past within is (seat ∷ seats) facts some lowered seen =
      elim (leb_tells 1 (times t seat.pass.hand.given)) [
        | inl e ↦
            elim (All-head (HasFacts (HasAnswered board plan) (λ s. s.pass.hand.given)) seat seats facts t e.1 place slot begun not_past within is) [
              | inl low ↦ omega (arith, low, lowered)
              | inr less ↦ omega (arith, less, seen)
            ]
        | inr e ↦
            reached place slot t word begun not_past within is seats
            (All-tail (HasFacts (HasAnswered board plan) (λ s. s.pass.hand.given)) seat seats facts)
            (omega (arith, some, e.1, sum_by-cons (λ (s : Seated LeastPass). times t s.pass.hand.given) seat seats)) (omega (arith, lowered)) (omega (arith, seen))
      ]

  some_done : (seats : List (Seated LeastPass)) → 1 ≤ length seats → All (λ seat. IsTrue seat.is_done) seats → Any (λ seat. IsTrue seat.is_done) seats
  some_done [] some done = absurd (omega (arith, some))
  some_done (seat ∷ seats) some done = (0, seat, omega arith, refl, done 0 seat (omega arith))

  -- so the board tells the least places of all targets
  pub leasts_are : (targets : List (Option ℕ)) (slots : ℕ) (seats : List (Seated LeastPass)) (leasts : List (Option ℕ))
      → IsOver board targets slots → IsCutInto board plan → 1 ≤ plan.tile → length targets ≤ most_elements
      → 1 ≤ length seats → All (λ seat. IsTrue seat.is_done) seats → All (HasFacts (HasAnswered board plan) (λ seat. seat.pass.hand.given)) seats
      → IsLeastEnd board seats leasts → leasts ≡ leasts_of targets slots
  leasts_are targets slots seats leasts over cut tile few some done facts end =
      let same = over.of_targets in
      let long : length leasts ≡ slots = end.as_many ∙ over.of_slots in
      let given = end.given.every (some_done seats some done) in
      let has_few : 0 + length board.targets ≤ no_place = omega (arith, few, ap length same) in
      let at : (slot : ℕ) → slot < board.slots → get_or leasts slot None ≡ least_from 0 board.targets slot =
      λ slot below.
      least_is slot 0 board.targets (get_or leasts slot None) has_few
      (λ p is. let zero_off : p - 0 ≡ p = omega arith in (omega arith, ap (λ n. get_or board.targets n None) zero_off ∙ end.of_slot slot p below is))
      (λ place is.
      let found = tile_at plan.len plan.tile place tile (omega (arith, target_within board.targets place slot is, cut.whole)) in
      let once = given found.0 (omega (arith, found.1, cut.cut)) in
      let word = end.least slot below in
      omega (arith, reached place slot found.0 _ found.2 found.3 below is seats facts (omega (arith, once)) (omega (arith, word)) (end.seen slot below))) in
      ext_get_or None leasts (leasts_of targets slots)
      (long ∙ sym (length-map-range_with_len (least_from 0 targets) 0 slots))
      (λ slot below.
      let inside : slot < slots = omega (arith, below, long) in
      at slot (omega (arith, below, end.as_many))
      ∙ ap (λ ts. least_from 0 ts slot) same
      ∙ sym (get_or-map-range_with_len (least_from 0 targets) 0 slots slot slot None inside (omega arith)))
