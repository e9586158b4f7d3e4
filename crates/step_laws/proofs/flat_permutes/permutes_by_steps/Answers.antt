use Rattle.std.proofs.Common.{◌≡◌, ◌∙◌, length, arith, refl, sym, get_or}
use Rattle.std.proofs.lemmas.List.{length-map}
use Rattle.cvl_base.specs.Limits.{most_places}
use Rattle.cvl_base.specs.Packs.{count_of}
use Rattle.cvl_base.specs.Permutes.{all_destinations, default_of, flagged_destinations, select_of, simple_of}
use Rattle.c_calls.specs.Calls.{in_limit}
use Rattle.flag_calls.specs.Flags.{flag_of, flags_of}
use Rattle.step_laws.proofs.AnyOrder.{in_any_order}
use Rattle.step_laws.proofs.Counted.{no-more}
use Rattle.step_laws.proofs.FlagsCounted.{trues-fit, trues-misfit}
use Rattle.step_laws.proofs.PermutedBySteps.{default-by, default-range, misfits, select-by, select-range, settled, simple-by, simple-range}
use Rattle.step_laws.proofs.RangesMade.{ends-within, words-each}
use Rattle.step_laws.specs.CountSteps.{Counts}
use Rattle.step_laws.specs.Parts.{elements_of}
use Rattle.step_laws.specs.PermuteSteps.{Writes, default_in, permute_in, select_in}
use Rattle.step_laws.specs.RangeParts.{defaults_of, room_of}
use Rattle.step_laws.proofs.flat_permutes.permutes_by_steps.Goals as goal

pub returns : goal.returns
returns g c = record {
  simple = λ source index start end before places marks status long few as_room at lays have writes told.
      let within = ends-within most_places 0 start at (omega (arith, as_room, few)) in
      let enough = words-each start before places marks at lays have in
      settled source (all_destinations index) (λ p. p.room) (permute_in source index) start end at (λ k d lt. refl)
      (λ k d lt. simple-range source index long few (get_or start k d) (within k d lt) (enough k d lt)) (length index) status told
      (in_any_order (Writes (permute_in source index)) start end writes) (in_limit index (simple_of source index))
      (simple-by source index long few (room_of start) as_room);
  select = λ source index shares counted start end before places marks status long flagged few few_parts counts fit at lays have writes told.
      let bytes = elements_of shares in let flags = flags_of bytes in
      let as_flags : length index ≡ length flags = flagged ∙ sym (length-map bytes flag_of) in
      let as_many : count_of flags ≡ length (room_of start) =
      trues-fit shares counted (omega (arith, flagged, few)) few_parts (in_any_order Counts shares counted counts) (length (room_of start)) fit in
      let within = ends-within most_places 0 start at (omega (arith, as_many, no-more bytes, flagged, few)) in
      let enough = words-each start before places marks at lays have in
      settled source (flagged_destinations index flags) (λ p. p.room) (select_in source index flags) start end at (λ k d lt. refl)
      (λ k d lt. select-range source index long few (get_or start k d) (within k d lt) (enough k d lt) flags as_flags) (length (room_of start)) status told
      (in_any_order (Writes (select_in source index flags)) start end writes) (in_limit index (select_of source index flags))
      (select-by source index long few flags as_flags (length (room_of start)) as_many (room_of start) refl);
  too_many_or_few = λ source index shares counted room status long flagged few few_parts counts fit other.
      let bytes = elements_of shares in
      misfits source index long few (flags_of bytes) (flagged ∙ sym (length-map bytes flag_of)) room
      (trues-misfit shares counted (omega (arith, flagged, few)) few_parts (in_any_order Counts shares counted counts) room status fit other);
  over_defaults = λ source index start end before places marks status long few few_places as_long at lays have writes told.
      let within = ends-within most_places 0 start at (omega (arith, few_places)) in
      let enough = words-each start before places marks at lays have in
      settled source (all_destinations index) (λ p. p.defaults) (default_in source index) start end at as_long
      (λ k d lt. default-range source index long few (get_or start k d) (within k d lt) (enough k d lt) (as_long k d lt)) (length index) status told
      (in_any_order (Writes (default_in source index)) start end writes) (in_limit index (default_of source index (defaults_of start)))
      (default-by source index long few (defaults_of start));
}
