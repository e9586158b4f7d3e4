use Rattle.std.proofs.Common.{◌≡◌, ◌∙◌, length, Ok, arith, sym, get_or, subst}
use Rattle.std.proofs.lemmas.List.{length-map}
use Rattle.cvl_base.proofs.Elementwise.{if_as_long-fits}
use Rattle.cvl_base.specs.Limits.{most_places}
use Rattle.cvl_base.specs.Permutes.{all_destinations, flagged_destinations}
use Rattle.c_calls.specs.Calls.{in_limit}
use Rattle.c_calls.specs.Told.{Told}
use Rattle.first_senders.specs.FirstSenders.{first_senders_of, first_senders_to, select_first_senders_of}
use Rattle.flag_calls.specs.Flags.{flag_of, flags_of}
use Rattle.part_calls.specs.SenderRanges.{counted_senders}
use Rattle.permute_parts.specs.Counts.{all_sent_of}
use Rattle.permute_walks.proofs.EachSent.{all_take_part, flagged_take_part}
use Rattle.step_laws.proofs.AnyOrder.{in_any_order}
use Rattle.step_laws.proofs.Answered.{within}
use Rattle.step_laws.proofs.FlagsCounted.{all-flagged}
use Rattle.step_laws.proofs.RangesMade.{ends-within}
use Rattle.step_laws.proofs.SendersBySteps.{found, ranged}
use Rattle.step_laws.specs.CountSteps.{Counts}
use Rattle.step_laws.specs.Parts.{elements_of}
use Rattle.step_laws.specs.RangeParts.{counts_of, room_of}
use Rattle.step_laws.specs.SenderSteps.{FindsSenders, select_senders_in, senders_in}
use Rattle.step_laws.proofs.senders.senders_by_steps.Goals as goal

pub returns : goal.returns
returns c = record {
  all = λ index start end status few few_places at finds told.
      let ts = all_destinations index in
      let ends = ends-within most_places 0 start at (omega (arith, few_places)) in
      found ts (senders_in index) start end status (in_limit index (first_senders_of index (length (room_of start))))
      (within index (first_senders_of index (length (room_of start))) few) at
      (λ k d lt. let p = get_or start k d in ranged (length index) p.from (length p.room) (Ok (counted_senders ts p.from (length p.room))) few (ends k d lt))
      (in_any_order (FindsSenders (senders_in index)) start end finds)
      (subst (λ n. Told (all_sent_of (counts_of end) n) status tt tt) (sym (all_take_part index)) told);
  flagged = λ index shares counted start end status flagged few few_places few_parts counts at finds told.
      let bytes = elements_of shares in let flags = flags_of bytes in
      let as_flags : length index ≡ length flags = flagged ∙ sym (length-map bytes flag_of) in
      let ts = flagged_destinations index flags in
      let m = length (room_of start) in
      let ends = ends-within most_places 0 start at (omega (arith, few_places)) in
      found ts (select_senders_in index flags) start end status (in_limit index (select_first_senders_of index flags m))
      (within index (select_first_senders_of index flags m) few ∙ if_as_long-fits index flags (first_senders_to ts m) as_flags) at
      (λ k d lt. let p = get_or start k d in
      ranged (length index) p.from (length p.room) _ few (ends k d lt) ∙ if_as_long-fits index flags (Ok (counted_senders ts p.from (length p.room))) as_flags)
      (in_any_order (FindsSenders (select_senders_in index flags)) start end finds)
      (subst (λ n. Told (all_sent_of (counts_of end) n) status tt tt) (sym (flagged_take_part index flags as_flags))
      (all-flagged shares counted (omega (arith, flagged, few)) few_parts (in_any_order Counts shares counted counts) (counts_of end) status told));
}
