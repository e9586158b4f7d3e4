use Rattle.call_laws.proofs.CutResults.{cut-again}
use Rattle.call_laws.proofs.Segments.{first-fault, joined-meaning}
use Rattle.call_laws.proofs.segmented.segmented_lists_law.Goals as goal

pub returns : goal.returns
returns g c = record {
  results = joined-meaning;
  first_fault = λ place call good bad others lists f same fails. rw (first-fault place call good bad others lists f same fails);
  cut_again = cut-again;
}
