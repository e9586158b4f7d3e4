use Rattle.transposes.specs.Transposes.{IsTransposedIn}
use Rattle.transposes.proofs.blocks.write_block.Given as goal

abbrev pub invariant-loop-column : goal.invariant-loop-column
invariant-loop-column g l = IsTransposedIn l.matrix.rows l.matrix.columns l.from l.top l.bottom l.left l.column l.matrix.elements.now l.fn.out l.out
