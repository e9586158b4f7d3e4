use Rattle.segdes.proofs.Cited.{ℕ, List, arith, subst}
use Rattle.segdes.specs.Starts.{AreStarts}
use Rattle.segdes.proofs.Searched.{at_start}
use Rattle.segdes.proofs.Sums.{segment_within}
use Rattle.segdes.proofs.descriptor.SegDes.start.Goals as goal

pub returns-clause-within : goal.returns-clause-within
returns-clause-within g c =
    let d = c.args.self.now in
    let starts = c.self.inside.starts.items in
    let are = subst (λ (ns : List ℕ). AreStarts ns starts) c.self.view_is c.self.invariant.1.starts_are in
    omega (arith, are.one_each, c.index.ensures, at_start d starts c.args.s c.index.result.now are (omega (arith, are.one_each, c.requires)), segment_within d c.args.s c.requires)
