use Rattle.call_laws.proofs.Cited.{ap, map}
use Rattle.call_laws.proofs.Owned.{count-filter, filter-filter}
use Rattle.combining_permutes.specs.CombiningPermutes.{names}
use Rattle.call_laws.proofs.owners.combining_by_owners.Goals as goal

pub returns : goal.returns
returns g c = record {
  joined = λ owns sends d has. ap (map (λ p. p.1)) (filter-filter (λ p. names d p.0) (λ p. owns p.0) (λ p. has p.0) sends);
  counted = λ owns index d has. count-filter (names d) owns has index;
}
