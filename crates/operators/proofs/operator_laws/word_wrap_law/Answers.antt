use Rattle.operators.specs.ExactLaws.{is_word_wrapped, only_word_wrapped}
use Rattle.operators.proofs.operator_laws.word_wrap_law.Goals as goal

pub returns : goal.returns
returns c = record { wrapped = is_word_wrapped; only = only_word_wrapped }
