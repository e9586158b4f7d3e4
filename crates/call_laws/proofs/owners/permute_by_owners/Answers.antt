use Rattle.call_laws.proofs.Cited.{ap, pos, true, zip, option_map}
use Rattle.call_laws.proofs.Owned.{find-filter}
use Rattle.cvl_base.specs.Permutes.{is_destination}
use Rattle.std.proofs.lemmas.Map.Views.{any-filter_same}
use Rattle.call_laws.proofs.owners.permute_by_owners.Goals as goal

pub returns : goal.returns
returns g c = record {
  sent = λ owns source destinations d has. ap (option_map (λ p. p.1))
      (find-filter (λ p. is_destination (pos d) p.0) (λ p. owns p.0) (λ p. has p.0) (zip destinations source));
  repeated = λ owns earlier d has. any-filter_same (is_destination d) owns true has earlier;
}
