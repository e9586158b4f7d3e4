use Rattle.call_laws.proofs.Cited.{◌+◌, length, length-append, sym, last_senders, lasts_both, length-last_senders}
use Rattle.permute_walks.proofs.Written.{count_both, written_both}
use Rattle.call_laws.proofs.permutes_in_parts.range_in_parts.Goals as goal

pub returns : goal.returns
returns g c = record {
  written = λ source ts low room more.
      rw (length-append room more, ← lasts_both 0 ts low (length room) (length more))
      (sym (written_both source (last_senders 0 ts low (length room)) (last_senders 0 ts (low + length room) (length more)) room more (length-last_senders 0 ts low (length room))));
  counted = λ ts low n m. sym (count_both 0 ts low n m);
}
