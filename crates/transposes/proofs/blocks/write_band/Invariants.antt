use Rattle.std.proofs.Common.{◌-◌, ◌≤◌}
use Rattle.transposes.specs.Transposes.{IsTransposedIn}
use Rattle.transposes.proofs.blocks.write_band.Given as goal

abbrev pub invariant-loop-left : goal.invariant-loop-left
invariant-loop-left g l = record {
  inside : l.left ≤ l.count;
  moved : IsTransposedIn l.matrix.rows l.matrix.columns l.from l.top l.bottom 0 l.left l.matrix.elements.now l.fn.out l.out;
}

abbrev pub decreases-loop-left : goal.decreases-loop-left
decreases-loop-left g l = l.count - l.left
