use Rattle.call_reader.proofs.Cited.{ℕ, List, sym, ap, ◌∙◌, arith, Ok, sum}
use Rattle.call_reader.proofs.NestedMarks.{nest_given, lengths_given, total_given}
use Rattle.call_reader.proofs.nested_reads.described.Goals as goal

pub from_vec-requires : goal.from_vec-requires
from_vec-requires g c = lengths_given _ _ _ c.requires.read (omega (arith, c.requires.few.0, c.args.numbers.ok.0)) (omega (arith, c.requires.few.1, c.args.lengths.ok.0))

pub returns-clause-values : goal.returns-clause-values
returns-clause-values g c =
    nest_given _ _ _ c.requires.read (omega (arith, c.requires.few.0, c.args.numbers.ok.0)) (omega (arith, c.requires.few.1, c.args.lengths.ok.0))
    ∙ ap (λ (lengths : List ℕ). Ok (c.args.numbers.items, lengths)) (sym (c.in_ok-descriptor.ensures ∙ c.from_vec.ensures))

pub returns-clause-total : goal.returns-clause-total
returns-clause-total g c = ap sum (c.in_ok-descriptor.ensures ∙ c.from_vec.ensures) ∙ total_given _ _ _ c.requires.read ∙ sym c.args.numbers.ok.0
