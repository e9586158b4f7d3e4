use Rattle.std.proofs.Common.{◌-◌, ◌≤◌}
use Rattle.transposes.specs.Transposes.{IsTransposedIn}
use Rattle.transposes.proofs.blocks.transpose_columns.Given as goal

abbrev pub invariant-loop-top : goal.invariant-loop-top
invariant-loop-top g l = record {
  inside : l.top ≤ l.matrix.rows;
  moved : IsTransposedIn l.matrix.rows l.matrix.columns l.from 0 l.top 0 l.count l.matrix.elements.now l.fn.out l.out;
}

abbrev pub decreases-loop-top : goal.decreases-loop-top
decreases-loop-top g l = l.matrix.rows - l.top
