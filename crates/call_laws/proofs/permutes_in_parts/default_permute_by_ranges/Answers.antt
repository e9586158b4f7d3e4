use Rattle.call_laws.proofs.Cited.{◌∙◌, length, sym, all_destinations, if_as_long-fits, length-all_destinations, all_take_part}
use Rattle.call_laws.proofs.ByRanges.{over-counted, over-written}
use Rattle.call_laws.proofs.Sending.{if_as_long-Ok}
use Rattle.call_laws.proofs.permutes_in_parts.default_permute_by_ranges.Goals as goal

pub returns : goal.returns
returns g c = record {
  written = λ source defaults index long few all.
      rw (if_as_long-fits source index _ long)
      (over-written source (all_destinations index) (length index) long (length-all_destinations index) few defaults (all ∙ sym (all_take_part index)));
  counted = λ source defaults result index long few p.
      over-counted source (all_destinations index) (length index) long (length-all_destinations index) few defaults result (if_as_long-Ok source index _ result p).1 ∙ all_take_part index;
}
