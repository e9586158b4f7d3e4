use Rattle.call_laws.proofs.Cited.{length, count_of, flagged_destinations, if_as_long-fits, length-flagged_destinations, flagged_take_part}
use Rattle.call_laws.proofs.ByRanges.{all-counted, all-written}
use Rattle.call_laws.proofs.Sending.{if_as_long-Ok}
use Rattle.call_laws.proofs.permutes_in_parts.select_permute_by_ranges.Goals as goal

pub returns : goal.returns
returns g c = record {
  written = λ source room index flags long few flagged as_room all.
      let as_many = length-flagged_destinations index flags flagged in
      rw (if_as_long-fits source index _ long, if_as_long-fits index flags _ flagged)
      (all-written source (flagged_destinations index flags) (length index) long as_many few room (count_of flags) as_room (flagged_take_part index flags flagged) all);
  counted = λ source room result index flags long few flagged as_room p.
      all-counted source (flagged_destinations index flags) (length index) long (length-flagged_destinations index flags flagged) few room (count_of flags) as_room
      (flagged_take_part index flags flagged) result (if_as_long-Ok index flags _ result (if_as_long-Ok source index _ result p).1).1;
}
