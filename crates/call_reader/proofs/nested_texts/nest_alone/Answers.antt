use Rattle.call_reader.proofs.Cited.{sym, ◌∙◌, arith}
use Rattle.call_reader.proofs.NestedMarks.{behind_fault}
use Rattle.call_reader.proofs.nested_texts.nest_alone.Goals as goal

pub fault_there-requires-then-not-has_no_token-clause-fault : goal.fault_there-requires-then-not-has_no_token-clause-fault
fault_there-requires-then-not-has_no_token-clause-fault g c =
    let lists = c.in-Ok.lists in
    behind_fault c.args.bytes.now c.in-Some.inner.now lists.rest.now c.in-Some-after_closing.behind.now lists.numbers.items lists.lengths.items _
    (rw c.in-Ok.is at c.in_ok-lists.ensures.read) c.in-Some.ensures.marks c.in-Some-after_closing.ensures.marks (sym c.has_no_token.ensures ∙ c.if-not-has_no_token.true) (omega arith)
