use Rattle.std.proofs.Common.{◌+◌, arith}
use Rattle.transposes.proofs.Moved.{column_more}
use Rattle.transposes.proofs.Shapes.{element_within}
use Rattle.transposes.proofs.blocks.write_block.Goals as goal

pub write_strided-requires-clause-within : goal.write_strided-requires-clause-within
write_strided-requires-clause-within g c = λ k lt.
    omega (
      arith,
      c.args.matrix.now.long,
      element_within c.args.matrix.now.rows c.args.matrix.now.columns (c.args.top + k) (c.args.from + c.loop-column.column)
          (omega (arith, lt, c.requires.rows_within)) (omega (arith, c.loop-column-test.true, c.requires.columns_within)),
    )

pub loop-column-preserved : goal.loop-column-preserved
loop-column-preserved g c =
    column_more c.loop-column.invariant c.requires.rows_within c.loop-column.auto.column c.write_strided.new.out c.write_strided.ensures.written c.write_strided.ensures.others
    (omega (arith, c.requires.some_rows))
