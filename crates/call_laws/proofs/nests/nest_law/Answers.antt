use Rattle.call_laws.proofs.Cited.{◌∙◌, ap, length, sum, sym}
use Rattle.call_laws.proofs.Cuts.{nest-meaning, sum-lengths}
use Rattle.call_laws.proofs.nests.nest_law.Goals as goal

pub returns-clause-meaning : goal.returns-clause-meaning
returns-clause-meaning g c = nest-meaning

pub returns-clause-none : goal.returns-clause-none
returns-clause-none g c = λ lengths xs lists misfits is. misfits (sym (ap sum is.has_lengths) ∙ sum-lengths lists ∙ ap length is.has_elements)
