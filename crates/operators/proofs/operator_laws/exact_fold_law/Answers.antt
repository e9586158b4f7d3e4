use Rattle.operators.proofs.ExactFolds.{exact_fold, exact_fold_on, total-is_word}
use Rattle.operators.proofs.operator_laws.exact_fold_law.Goals as goal

pub returns : goal.returns
returns c = record { total = exact_fold; onward = exact_fold_on; item = total-is_word }
