use Rattle.std.proofs.Common.{◌≡◌, ◌∙◌, ℕ, ℤ, pos, Bool, List, map, take, Ok, ap, sym, subst}
use Rattle.std.proofs.lemmas.List.{map-id}
use Rattle.std.specs.List.{AllPass, AllZip}
use Rattle.call_table.specs.declared.families.BoolBinary.{BoolBinary}
use Rattle.call_table.specs.declared.families.IntMonoid.{IntMonoid}
use Rattle.c_calls.specs.Calls.{by_operator, by_segments, in_limit}
use Rattle.c_calls.specs.Numbers.{bool_binary, int_monoid}
use Rattle.c_calls.specs.Told.{RoomTold, Told, done}
use Rattle.cvl_base.specs.Folds.{fold_of}
use Rattle.cvl_base.specs.ItemWords.{is_number}
use Rattle.cvl_base.specs.Scans.{bool_join_of, bool_unit_of, int_join_of, int_unit_of}
use Rattle.cvl_base.specs.SegmentedCalls.{seg_reduce_of}
use Rattle.flag_calls.specs.Flags.{flag_of, flags_of}
use Rattle.segment_parts.specs.Reduces.{part_reduces_of}
use Rattle.step_laws.proofs.AnyOrder.{in_any_order}
use Rattle.step_laws.proofs.Answered.{is_given, past_limit}
use Rattle.step_laws.proofs.Operators.{any_booleans, bool_laws, int_laws}
use Rattle.step_laws.proofs.Parted.{each-also}
use Rattle.step_laws.proofs.Scanned.{told-sum}
use Rattle.step_laws.proofs.SegReduced.{Heads, ReducesStarts, reduces}
use Rattle.step_laws.specs.ReduceParts.{ReducePart, elements_of, room_of}
use Rattle.step_laws.specs.ReduceSteps.{BoolReducesHead, BoolReducesStarts, IntReducesHead, IntReducesStarts}
use Rattle.step_laws.proofs.seg_reduces.seg_reduces_by_steps.Goals as goal

-- ---- integers, which are read as themselves

abbrev itself : ℤ → ℤ
itself x = x

int_heads : (op : ℕ) (o : IntMonoid) → int_monoid op ≡ Ok o → (start told : List (ReducePart ℤ ℤ)) → AllZip (IntReducesHead op) start told
    → AllZip (Heads int_unit_of int_join_of int_laws itself o) start told
int_heads op o is start told reduced =
    each-also (IntReducesHead op) (Heads int_unit_of int_join_of int_laws itself o)
    (λ own left does.
    let head = take own.head own.elements in
    (ap (fold_of (int_join_of o) (int_unit_of o)) (map-id head) ∙ told-sum int_unit_of int_join_of int_laws (int_monoid op) o is head own.told left.told does.0, does.1))
    start told reduced

int_starts : (op : ℕ) (known end : List (ReducePart ℤ ℤ)) → AllZip (IntReducesStarts op) known end
    → AllZip (ReducesStarts int_unit_of int_join_of int_laws itself (int_monoid op)) known end
int_starts op known end reduced =
    each-also (IntReducesStarts op) (ReducesStarts int_unit_of int_join_of int_laws itself (int_monoid op))
    (λ own left does. (
      (
        does.0.0,
        subst
            (λ xs. RoomTold (by_operator (int_monoid op) (λ o. in_limit own.elements (by_segments (map pos own.lengths) (λ segments.
            part_reduces_of (int_join_of o) (int_unit_of o) own.behind own.head segments xs)))) does.0.0 own.room left.room)
            (sym (map-id own.elements)) does.0.1,
      ),
      does.1,
    ))
    known end reduced

-- ---- booleans, which are read from bytes

bool_heads : (op : ℕ) (o : BoolBinary) → bool_binary op ≡ Ok o → (start told : List (ReducePart ℕ Bool)) → AllZip (BoolReducesHead op) start told
    → AllZip (Heads bool_unit_of bool_join_of bool_laws flag_of o) start told
bool_heads op o is start told reduced =
    each-also (BoolReducesHead op) (Heads bool_unit_of bool_join_of bool_laws flag_of o)
    (λ own left does.
    let head = take own.head own.elements in
    let known : Told (in_limit head (Ok (fold_of (bool_join_of o) (bool_unit_of o) (flags_of head)))) done own.told left.told =
    subst (λ r. Told (by_operator r (λ p. in_limit head (Ok (fold_of (bool_join_of p) (bool_unit_of p) (flags_of head))))) done own.told left.told) is does.0 in
    (past_limit _ _ (fold_of (bool_join_of o) (bool_unit_of o) (flags_of head)) left.told (is_given _ own.told left.told known), does.1))
    start told reduced

pub returns : goal.returns
returns c = record {
  integers = λ op lengths segments start told known end is are items rooms first goes last.
      subst (λ xs. RoomTold (by_operator (int_monoid op) (λ o. by_segments lengths (seg_reduce_of (int_join_of o) (int_unit_of o) xs))) done (room_of start) (room_of end))
      (map-id (elements_of start))
      (reduces int_unit_of int_join_of int_laws itself (int_monoid op) lengths segments start told known end is are
      (subst (AllPass is_number) (sym (map-id (elements_of start))) items) rooms
      (λ (o : IntMonoid) known_operator fit. int_heads op o known_operator start told (in_any_order (IntReducesHead op) start told first))
      goes.0 goes.1 (int_starts op known end (in_any_order (IntReducesStarts op) known end last)));
  booleans = λ op lengths segments start told known end is are rooms first goes last.
      reduces bool_unit_of bool_join_of bool_laws flag_of (bool_binary op) lengths segments start told known end is are
      (any_booleans (flags_of (elements_of start))) rooms
      (λ (o : BoolBinary) known_operator fit. bool_heads op o known_operator start told (in_any_order (BoolReducesHead op) start told first))
      goes.0 goes.1 (in_any_order (BoolReducesStarts op) known end last);
}
