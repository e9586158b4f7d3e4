-- A run that is written by the elements of pieces.
-- Source: what the definitions of runs imply.
use Rattle.std.proofs.Common.{◌≡◌, sym, ap, ap₂, ◌∙◌, ℕ, ◌+◌, ◌-◌, ◌≤◌, List, [], ◌++◌, length, take, drop, min, arith, length-append}
use Rattle.std.proofs.lemmas.List.{length-take, length-drop, take_min, drop_all, take_all, drop_min}
use Rattle.fresh.specs.Parts.{part}
use Rattle.fresh.specs.Places.{Stretch, stretch, with_items}
use Rattle.fresh.proofs.Written.{nothing_written, written_twice}
use Rattle.tile_plan.proofs.Fronts.{take_of_both, drop_of_both}

module _ {X : Type 0} where
  -- the run with what the pieces passed have at its places, and `left` elements are still to be passed before the first
  pub record IsWritten (old : Stretch X) (passed : List X) (left : ℕ) (now : Stretch X) : Type 0 where
    pub before : left ≡ old.first - length passed
    pub is : now ≡ with_items old (part passed old.first old.room)

  pub none_written : (old : Stretch X) (left : ℕ) → left ≡ old.first → IsWritten old [] left old
  none_written old left first = record {
    before = omega (arith, first);
    is = sym (ap (λ xs. with_items old (take old.room xs)) (drop_all old.first [] (omega arith)) ∙ ap (with_items old) (take_all old.room [] (omega arith)) ∙ nothing_written old);
  }

  -- the same after a piece more, of which `wanted` comes from that place on, and `fitting` has room in the run
  pub written_more : (old now next : Stretch X) (left : ℕ) (passed piece wanted fitting : List X) → IsWritten old passed left now
      → wanted ≡ drop (min left (length piece)) piece → fitting ≡ take (min (length wanted) now.room) wanted → next ≡ with_items now fitting
      → IsWritten old (passed ++ piece) (left - min left (length piece)) next
  written_more old now next left passed piece wanted fitting w wanted_is fitting_is next_is =
      let both = length-append passed piece in
      let n : ℕ = old.room in
      let start : ℕ = old.first in
      let here : now.room ≡ n - length (take n (drop start passed)) = ap (λ s. s.room) w.is in
      let from : drop (min left (length piece)) piece ≡ drop (start - length passed) piece = drop_min left piece ∙ ap (λ k. drop k piece) w.before in
      let room : now.room ≡ n - length (drop start passed) = omega (arith, here, length-take n (drop start passed)) in
      let swapped : min (length wanted) now.room ≡ min now.room (length wanted) = omega arith in
      let cut : fitting ≡ take (n - length (drop start passed)) (drop (start - length passed) piece) =
      fitting_is ∙ ap (λ k. take k wanted) swapped ∙ take_min now.room wanted ∙ ap₂ take room (wanted_is ∙ from) in
      record {
        before = omega (arith, both, w.before);
        is = next_is
            ∙ ap (λ (s : Stretch X). with_items s fitting) w.is
            ∙ written_twice old (part passed start n) fitting
            ∙ ap (with_items old) (ap (λ xs. part passed start n ++ xs) cut
            ∙ sym (ap (take n) (drop_of_both start passed piece) ∙ take_of_both n (drop start passed) (drop (start - length passed) piece)));
      }

  -- what all pieces write of a run
  pub all_written : (old now : Stretch X) (passed whole : List X) (left : ℕ) → old.items ≡ [] → old.first + old.room ≤ length whole → passed ≡ whole → IsWritten old passed left now
      → now ≡ stretch old.block old.first (part whole old.first old.room) 0
  all_written old now passed whole left empty within all w =
      let items : part passed old.first old.room ≡ part whole old.first old.room = ap (λ xs. part xs old.first old.room) all in
      let long : length (part passed old.first old.room) ≡ old.room = ap length items ∙ omega (arith, length-take old.room (drop old.first whole), length-drop old.first whole, within) in
      let none : old.room - length (part passed old.first old.room) ≡ 0 = omega (arith, long) in
      w.is ∙ (λ i. stretch old.block old.first ((ap (λ xs. xs ++ part passed old.first old.room) empty ∙ items) i) (none i))
