use Rattle.call_laws.proofs.CombinedRanges.{all-named, counts-ranges, joined-ranges, named-ranges}
use Rattle.call_laws.proofs.combining_ranges.combining_by_ranges.Goals as goal

pub returns : goal.returns
returns g c = record {
  joined = joined-ranges;
  counted = counts-ranges;
  named = named-ranges;
  all_named = all-named;
}
