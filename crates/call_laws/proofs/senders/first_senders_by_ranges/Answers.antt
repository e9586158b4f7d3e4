use Rattle.call_laws.proofs.FirstSent.{named-all, named-parts, senders-ranges}
use Rattle.call_laws.proofs.senders.first_senders_by_ranges.Goals as goal

pub returns : goal.returns
returns c = record { ranges = senders-ranges; named = named-parts; all_named = λ ts m. named-all m 0 ts }
