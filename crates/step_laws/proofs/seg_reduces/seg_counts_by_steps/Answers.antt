use Rattle.std.proofs.Common.{◌≡◌, ◌∙◌, ℕ, ℤ, pos, List, map, take, Result, Ok, All, ap, arith, sym, subst}
use Rattle.std.proofs.lemmas.List.{length-take}
use Rattle.std.proofs.lemmas.Option.{same_Some}
use Rattle.std.specs.List.{AllZip}
use Rattle.std.specs.Result.{result_ok}
use Rattle.call_table.specs.declared.families.IntMonoid.{IntMonoid}
use Rattle.call_table.specs.declared.families.IntMonoid.TheVariants.{Add}
use Rattle.c_calls.specs.Calls.{by_operator, by_segments}
use Rattle.c_calls.specs.Told.{RoomTold, done}
use Rattle.cvl_base.specs.declared.fault.Fault.{Fault}
use Rattle.cvl_base.specs.Gives.{◌>>=◌}
use Rattle.cvl_base.specs.Integers.{sum_of}
use Rattle.cvl_base.specs.Scans.{int_join_of, int_unit_of}
use Rattle.cvl_base.specs.SegmentedCalls.{counts_of, seg_reduce_of}
use Rattle.flag_calls.specs.Flags.{count_in, flags_of}
use Rattle.segment_parts.specs.Behinds.{seg_behinds_of}
use Rattle.segment_parts.specs.ReduceCalls.{one_if_true}
use Rattle.step_laws.proofs.AnyOrder.{in_any_order}
use Rattle.step_laws.proofs.Answered.{is_given, past_limit}
use Rattle.step_laws.proofs.Operators.{int_laws}
use Rattle.step_laws.proofs.Parted.{each-where}
use Rattle.step_laws.proofs.SegCounted.{count-sums, numbers, seg-counts}
use Rattle.step_laws.proofs.SegReduced.{Fits, Heads, few-elements, reduces}
use Rattle.step_laws.proofs.SegmentLengths.{few-of, nested}
use Rattle.step_laws.specs.ReduceParts.{ReducePart, behinds_of, elements_of, room_of, starts_of, told_of}
use Rattle.step_laws.specs.ReduceSteps.{CountsHead, CountsStarts}
use Rattle.step_laws.proofs.seg_reduces.seg_counts_by_steps.Goals as goal

-- what a part that counts its head tells is a sum
add_heads : (start told : List (ReducePart ℕ ℤ)) → AllZip CountsHead start told → All Fits start → AllZip (Heads int_unit_of int_join_of int_laws one_if_true Add) start told
add_heads start told counted fit =
    each-where CountsHead (Heads int_unit_of int_join_of int_laws one_if_true Add) Fits
    (λ own left does fits.
    let head = take own.head own.elements in (
      count-sums head (omega (arith, length-take own.head own.elements, fits.few_elements))
          ∙ past_limit _ _ (count_in head) left.told (is_given _ own.told left.told does.0),
      does.1,
    ))
    start told counted fit

heads : (start told : List (ReducePart ℕ ℤ)) → AllZip CountsHead start told → (o : IntMonoid) → ◌≡◌ {A = Result IntMonoid Fault} (Ok Add) (Ok o) → All Fits start
    → AllZip (Heads int_unit_of int_join_of int_laws one_if_true o) start told
heads start told counted o is fit =
    subst (λ p. AllZip (Heads int_unit_of int_join_of int_laws one_if_true p) start told) (same_Some Add o (ap result_ok is)) (add_heads start told counted fit)

pub returns : goal.returns
returns c = λ op lengths segments start told known end is_add is are rooms first goes last.
    let bytes : List ℕ = elements_of start in
    let few = few-of lengths segments is in
    let behinds : RoomTold (seg_behinds_of sum_of (pos 0) (starts_of told) (told_of told)) done (behinds_of told) (behinds_of known) =
    subst (λ r. RoomTold (by_operator r (λ o. seg_behinds_of (int_join_of o) (int_unit_of o) (starts_of told) (told_of told))) done (behinds_of told) (behinds_of known)) is_add goes.0 in
    let whole : RoomTold (by_segments lengths (seg_reduce_of sum_of (pos 0) (map one_if_true bytes))) done (room_of start) (room_of end) =
    reduces int_unit_of int_join_of int_laws one_if_true (Ok Add) lengths segments start told known end is are (numbers bytes) rooms
    (heads start told (in_any_order CountsHead start told first)) behinds goes.1 (in_any_order CountsStarts known end last) in
    let same : by_segments lengths (seg_reduce_of sum_of (pos 0) (map one_if_true bytes)) ≡ by_segments lengths (counts_of (flags_of bytes)) =
    ap (λ r. r >>= seg_reduce_of sum_of (pos 0) (map one_if_true bytes)) is
    ∙ seg-counts segments bytes (nested segments bytes are.whole.0 are.whole.1).0 (few-elements segments start are rooms few.0 few.1)
    ∙ sym (ap (λ r. r >>= counts_of (flags_of bytes)) is) in
    subst (λ m. RoomTold m done (room_of start) (room_of end)) same whole
