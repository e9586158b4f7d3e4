use Rattle.std.proofs.Common.{refl}
use Rattle.std.proofs.lemmas.List.Sums.{fold_more}
use Rattle.operators.proofs.FoldLaws.{fold_of_push, fold_of_is_item, fold_of-append}
use Rattle.operators.proofs.folds.know_folds.Goals as goal

pub returns : goal.returns
returns g c = record {
  of_none = refl;
  one_more = fold_of_push g.M.Monoid.join g.M.Monoid.unit;
  front = fold_more g.M.Monoid.join g.M.Monoid.unit;
  item = fold_of_is_item g.met.M.Monoid.laws;
  appended = fold_of-append g.met.M.Monoid.laws;
}
