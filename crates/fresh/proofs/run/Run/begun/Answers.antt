use Rattle.fresh.proofs.Cited.{◌≡◌, ◌-◌, [], ◌∙◌, arith, nil_from_length, stretch}
use Rattle.fresh.proofs.Places.{begun}
use Rattle.fresh.proofs.run.Run.begun.Goals as goal

pub invariant_of-result : goal.invariant_of-result
invariant_of-result g c =
    let at = c.requires.place in let laid = c.requires.laid in
    (begun c.args.cells c.args.base.ptr c.args.len c.args.written laid.0 at.0 at.1 at.2 laid.1 laid.2 laid.3).0

pub returns-clause-empty : goal.returns-clause-empty
returns-clause-empty g c = λ none.
    let at = c.requires.place in let laid = c.requires.laid in
    let items : laid.0 ≡ [] = nil_from_length laid.0 (laid.1 ∙ none) in
    let left : c.args.len - c.args.written ≡ c.args.len = omega (arith, none) in
    (begun c.args.cells c.args.base.ptr c.args.len c.args.written laid.0 at.0 at.1 at.2 laid.1 laid.2 laid.3).1 ∙ (λ i. stretch c.args.base.ptr 0 (items i) (left i))
