-- Permutes by steps: what the parts write and count together, and that it is the call's.
use Rattle.std.proofs.Common.{◌≡◌, ◌+◌, ◌++◌, ◌∙◌, ℕ, ℤ, List, [], ◌∷◌, length, length-append}
use Rattle.std.proofs.Common.{map, sum, Option, Some, None, Result, Ok, All, refl, sym, ap, arith, subst}
use Rattle.std.proofs.Common.{option_map, slice_get, unwrap_or, zip, drop}
use Rattle.std.proofs.lemmas.List.{length-map, map-append}
use Rattle.std.proofs.lemmas.List.Elements.{All-head, All-tail}
use Rattle.std.proofs.lemmas.Option.{slice_get-map}
use Rattle.std.proofs.lemmas.Slice.Zip.{length-zip}
use Rattle.std.specs.List.{AllZip}
use Rattle.cvl_base.proofs.Lists.{sum-cons}
use Rattle.cvl_base.specs.declared.fault.Fault.{Fault}
use Rattle.cvl_base.specs.Lists.{joined}
use Rattle.c_calls.specs.Told.{Told}
use Rattle.part_calls.specs.Ranges.{count_of_range, marks_of_range, room_of_range}
use Rattle.permute_walks.proofs.LastSent.{lasts_both, length-last_senders}
use Rattle.permute_walks.proofs.Written.{count_both, written_both}
use Rattle.permute_walks.specs.Marks.{words_for}
use Rattle.permute_walks.specs.Senders.{last_senders, written_over}
use Rattle.step_laws.proofs.Parted.{alike_where}
use Rattle.step_laws.specs.PermuteSteps.{Writes}
use Rattle.step_laws.specs.RangeParts.{BeginAt, RangePart, counts_of, room_of}

-- what a part writes over has an element for each place of its range
abbrev pub AsLong : {X : Type 0} → (RangePart X → List X) → RangePart X → Type 0
AsLong base p = length (base p) ≡ length p.room

module _ {X : Type 0} (source : List X) (ts : List (Option ℤ)) where
  -- ---- two ranges side by side

  range-both : (low : ℕ) (room more : List X)
      → room_of_range source ts low (room ++ more) ≡ room_of_range source ts low room ++ room_of_range source ts (low + length room) more
  range-both low room more =
      rw (length-append room more, ← lasts_both 0 ts low (length room) (length more))
      (sym (written_both source (last_senders 0 ts low (length room)) (last_senders 0 ts (low + length room) (length more)) room more (length-last_senders 0 ts low (length room))))

  pub range-long : (low : ℕ) (room : List X) → length (room_of_range source ts low room) ≡ length room
  range-long low room =
      let lasts = last_senders 0 ts low (length room) in
      length-map (zip lasts room) (λ p. unwrap_or (slice_get source p.0) p.1) ∙ omega (arith, length-zip lasts room, length-last_senders 0 ts low (length room))

  -- ---- all ranges

  module _ (f : X → X) (base : RangePart X → List X) where
    made-from : (place : ℕ) (parts : List (RangePart X)) → BeginAt place parts → All (AsLong base) parts
        → joined (map (λ p. map f (room_of_range source ts p.from (base p))) parts) ≡ map f (room_of_range source ts place (joined (map base parts)))
    made-from place [] at long = refl
    made-from place (p ∷ parts) at long =
        let rest = joined (map base parts) in
        let next : place + length p.room ≡ place + length (base p) = ap (λ n. place + n) (sym (All-head (AsLong base) p parts long)) in
        ap (λ n. map f (room_of_range source ts n (base p)) ++ joined (map (λ p. map f (room_of_range source ts p.from (base p))) parts)) at.0
        ∙ ap (λ zs. map f (room_of_range source ts place (base p)) ++ zs) (made-from (place + length p.room) parts at.1 (All-tail (AsLong base) p parts long))
        ∙ ap (λ n. map f (room_of_range source ts place (base p)) ++ map f (room_of_range source ts n rest)) next
        ∙ sym (map-append f (room_of_range source ts place (base p)) (room_of_range source ts (place + length (base p)) rest))
        ∙ ap (map f) (sym (range-both place (base p) rest))

  counted-from : (place : ℕ) (parts : List (RangePart X)) → BeginAt place parts
      → sum (map (λ p. count_of_range ts p.from (length p.room)) parts) ≡ count_of_range ts place (length (room_of parts))
  counted-from place [] at = refl
  counted-from place (p ∷ parts) at =
      sum-cons (count_of_range ts p.from (length p.room)) (map (λ p. count_of_range ts p.from (length p.room)) parts)
      ∙ ap (λ n. count_of_range ts n (length p.room) + sum (map (λ p. count_of_range ts p.from (length p.room)) parts)) at.0
      ∙ ap (λ n. count_of_range ts place (length p.room) + n) (counted-from (place + length p.room) parts at.1)
      ∙ count_both 0 ts place (length p.room) (length (room_of parts))
      ∙ ap (λ n. count_of_range ts place n) (sym (length-append p.room (room_of parts)))

  -- what a part leaves of its words of marks
  abbrev pub marked : RangePart X → List ℕ
  marked p = marks_of_range ts p.from (length p.room) ++ drop (words_for (length p.room)) p.marks

  module _ (base : RangePart X → List X) (call : RangePart X → Result (List X × List ℕ × ℕ) Fault) where
    -- a part's call has the value of its range
    abbrev pub HasRange : RangePart X → Type 0
    HasRange p = call p ≡ Ok (room_of_range source ts p.from (base p), marked p, count_of_range ts p.from (length p.room))

  -- parts whose calls have such values, seen by a function of elements, leave these
  module _ (f : X → X) (base : RangePart X → List X) (call : RangePart X → Result (List X × List ℕ × ℕ) Fault) where
    abbrev pub IsMade : RangePart X → Type 0
    IsMade p = call p ≡ Ok (map f (room_of_range source ts p.from (base p)), marked p, count_of_range ts p.from (length p.room))

    given : (own left : RangePart X) → Writes call own left → IsMade own
        → ◌≡◌ {A = List X × List ℕ × ℕ} (left.room, left.marks, left.count)
        (map f (room_of_range source ts own.from (base own)), marked own, count_of_range ts own.from (length own.room))
    given own left ((status, told), alone) is =
        let has : Told (Ok (map f (room_of_range source ts own.from (base own)), marked own, count_of_range ts own.from (length own.room))) status
        (own.room, own.marks, own.count) (left.room, left.marks, left.count) =
        subst (λ m. Told m status (own.room, own.marks, own.count) (left.room, left.marks, left.count)) is told in
        has.1

    pub made : (start end : List (RangePart X)) → BeginAt 0 start → All (AsLong base) start → All IsMade start → AllZip (Writes call) start end
        → room_of end ≡ map f (room_of_range source ts 0 (joined (map base start)))
    made start end at long are writes =
        ap joined (alike_where (Writes call) IsMade (λ p. map f (room_of_range source ts p.from (base p))) (λ p. p.room)
        (λ own left does is. ap (λ (t : List X × List ℕ × ℕ). t.0) (given own left does is)) start end writes are)
        ∙ made-from f base 0 start at long

    pub counted : (start end : List (RangePart X)) → BeginAt 0 start → All IsMade start → AllZip (Writes call) start end
        → sum (counts_of end) ≡ count_of_range ts 0 (length (room_of start))
    counted start end at are writes =
        ap sum (alike_where (Writes call) IsMade (λ p. count_of_range ts p.from (length p.room)) (λ p. p.count)
        (λ own left does is. ap (λ (t : List X × List ℕ × ℕ). t.2) (given own left does is)) start end writes are)
        ∙ counted-from 0 start at

-- ---- views of the elements

module _ {X Y : Type 0} (h : X → Y) where
  or_mapped : (o : Option X) (x : X) → unwrap_or (option_map h o) (h x) ≡ h (unwrap_or o x)
  or_mapped None x = refl
  or_mapped (Some y) x = refl

  pub written-map : (source : List X) (senders : List ℕ) (values : List X) → written_over (map h source) senders (map h values) ≡ map h (written_over source senders values)
  written-map source [] values = refl
  written-map source (s ∷ senders) [] = refl
  written-map source (s ∷ senders) (v ∷ values) =
      ap (λ o. unwrap_or o (h v) ∷ written_over (map h source) senders (map h values)) (slice_get-map h source s)
      ∙ ap (λ y. y ∷ written_over (map h source) senders (map h values)) (or_mapped (slice_get source s) v)
      ∙ ap (λ ys. h (unwrap_or (slice_get source s) v) ∷ ys) (written-map source senders values)
