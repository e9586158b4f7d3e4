-- A transpose by one step: the ranges of all parts are the transpose of the whole.
use Rattle.std.proofs.Common.{◌≡◌, ◌+◌, ◌*◌, ◌++◌, ◌≤◌, ◌∙◌, ℕ, List, [], ◌∷◌, drop, length, length-append, map, take, Ok, refl, sym, ap, arith, subst, le-ltb}
use Rattle.std.proofs.lemmas.List.{drop-drop, take_all}
use Rattle.std.proofs.Math.Seq.{take-add}
use Rattle.std.specs.List.{AllZip}
use Rattle.cvl_base.specs.declared.fault.FaultNo.TheVariants.{LengthMismatch}
use Rattle.cvl_base.specs.Faults.{fault}
use Rattle.cvl_base.specs.Gives.{◌>>=◌, fault_if}
use Rattle.cvl_base.specs.Limits.{most_places}
use Rattle.cvl_base.specs.Lists.{joined}
use Rattle.c_calls.specs.Calls.{in_limit}
use Rattle.c_calls.specs.Told.{RoomTold, Told, done}
use Rattle.part_calls.specs.TransposeRanges.{few_turned_of}
use Rattle.step_laws.proofs.Answered.{tells_done, within}
use Rattle.step_laws.proofs.Parted.{alike_where}
use Rattle.step_laws.proofs.RangesMade.{ends-within}
use Rattle.step_laws.proofs.SendersBySteps.{ranged}
use Rattle.step_laws.specs.RangeParts.{BeginAt, RangePart, room_of}
use Rattle.step_laws.specs.SenderSteps.{Turns}
use Rattle.transposes.proofs.Sources.{transpose_there}
use Rattle.transposes.specs.Transposes.{transpose_of, transpose_range_of}

module _ {X : Type 0} (rows columns : ℕ) (source values : List X) (is : transpose_of rows columns source ≡ Ok values) (long : length values ≡ length source)
    (few : length source ≤ most_places) where
  -- a range that ends within the whole
  abbrev Ends : RangePart X → Type 0
  Ends p = p.from + length p.room ≤ length source

  abbrev part_of : RangePart X → List X
  part_of p = take (length p.room) (drop p.from values)

  turned : (p : RangePart X) → Ends p → few_turned_of rows columns p.from (length p.room) source ≡ Ok (part_of p)
  turned p ends =
      ranged (length source) p.from (length p.room) (transpose_range_of rows columns p.from (length p.room) source) few (omega (arith, ends, few))
      ∙ ap (λ b. fault_if b (fault LengthMismatch) (transpose_of rows columns source >>= λ all. Ok (take (length p.room) (drop p.from all))))
      (le-ltb (length source) (p.from + length p.room) ends)
      ∙ ap (λ r. r >>= λ all. Ok (take (length p.room) (drop p.from all))) is

  joined-from : (place : ℕ) (parts : List (RangePart X)) → BeginAt place parts → joined (map part_of parts) ≡ take (length (room_of parts)) (drop place values)
  joined-from place [] at = refl
  joined-from place (p ∷ parts) at =
      let rest = drop place values in let n = length p.room in
      ap (λ k. take n (drop k values) ++ joined (map part_of parts)) at.0
      ∙ ap (λ zs. take n rest ++ zs) (joined-from (place + n) parts at.1)
      ∙ ap (λ zs. take n rest ++ take (length (room_of parts)) zs) (sym (drop-drop n place values))
      ∙ sym (take-add n (length (room_of parts)) rest)
      ∙ ap (λ m. take m rest) (sym (length-append p.room (room_of parts)))

  pub turned-all : (start end : List (RangePart X)) → length (room_of start) ≡ length source → BeginAt 0 start → AllZip (Turns rows columns source) start end → room_of end ≡ values
  turned-all start end as_room at turns =
      ap joined (alike_where (Turns rows columns source) Ends part_of (λ p. p.room)
      (λ own left does ends. let has : Told (Ok (part_of own)) does.0.0 own.room left.room = subst (λ m. Told m does.0.0 own.room left.room) (turned own ends) does.0.1 in has.1)
      start end turns (ends-within (length source) 0 start at (omega (arith, as_room))))
      ∙ joined-from 0 start at ∙ take_all (length (room_of start)) values (omega (arith, as_room, long))

pub transposed : {X : Type 0} (rows columns : ℕ) (source : List X) (start end : List (RangePart X)) → rows * columns ≡ length source → length source ≤ most_places
    → length (room_of start) ≡ length source → BeginAt 0 start → AllZip (Turns rows columns source) start end
    → RoomTold (in_limit source (transpose_of rows columns source)) done (room_of start) (room_of end)
transposed rows columns source start end shape few as_room at turns =
    let whole = transpose_there rows columns source shape in
    let now : room_of end ≡ whole.values = turned-all rows columns source whole.values whole.is whole.long few start end as_room at turns in
    subst (λ m. RoomTold m done (room_of start) (room_of end)) (sym (within source (transpose_of rows columns source) few ∙ whole.is))
    (subst (λ zs. RoomTold (Ok whole.values) done (room_of start) zs) (sym now) (tells_done whole.values (room_of start) (whole.long ∙ sym as_room)))
