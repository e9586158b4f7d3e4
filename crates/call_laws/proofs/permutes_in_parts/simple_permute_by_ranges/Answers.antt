use Rattle.call_laws.proofs.Cited.{length, all_destinations, if_as_long-fits, length-all_destinations, all_take_part}
use Rattle.call_laws.proofs.ByRanges.{all-counted, all-written}
use Rattle.call_laws.proofs.Sending.{if_as_long-Ok}
use Rattle.call_laws.proofs.permutes_in_parts.simple_permute_by_ranges.Goals as goal

pub returns : goal.returns
returns g c = record {
  written = λ source room index long few as_room all.
      rw (if_as_long-fits source index _ long)
      (all-written source (all_destinations index) (length index) long (length-all_destinations index) few room (length index) as_room (all_take_part index) all);
  counted = λ source room result index long few as_room p.
      all-counted source (all_destinations index) (length index) long (length-all_destinations index) few room (length index) as_room (all_take_part index) result
      (if_as_long-Ok source index _ result p).1;
}
