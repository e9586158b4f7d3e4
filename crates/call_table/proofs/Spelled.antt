-- Each call's name reads back as that call.
use Rattle.std.proofs.Common.{◌≡◌, false, Some, refl}
use Rattle.call_table.specs.declared.families.IntBinary.TheVariants as int
use Rattle.call_table.specs.declared.families.Unary.TheVariants.{Not}
use Rattle.call_table.specs.declared.families.Comparison.TheVariants.{Greater}
use Rattle.call_table.specs.declared.families.BoolBinary.TheVariants as bool
use Rattle.call_table.specs.declared.families.IntMonoid.TheVariants as monoid
use Rattle.call_table.specs.declared.families.Form.TheVariants.{Simple}
use Rattle.call_table.specs.declared.families.Cut.TheVariants.{Flat, Segmented}
use Rattle.call_table.specs.declared.families.Element.TheVariants.{Integer, Boolean}
use Rattle.call_table.specs.declared.operation.Op.{Op}
use Rattle.call_table.specs.declared.operation.Op.TheVariants.{Ints2, Ints1, Compare, Bools2, Bools1, Choose}
use Rattle.call_table.specs.declared.operation.Op.TheVariants.{Scan, Reduce, BoolScan, BoolReduce, Permute, Length, Count}
use Rattle.call_table.specs.declared.operation.Op.TheVariants.{Pack, Distribute, Index, Extract, Replace}
use Rattle.call_table.specs.declared.operation.Op.TheVariants.{CheckedScan, CheckedReduce, Write}
use Rattle.call_table.specs.Calls.{spelling_of, is_write}
use Rattle.call_table.specs.Spellings.{op_of, int_binaries, unaries, comparisons, bool_binaries, int_monoids, forms, elements}

pub read_back : (op : Op) → is_write op ≡ false → op_of (spelling_of op) ≡ Some op
unfolding op_of int_binaries unaries comparisons bool_binaries int_monoids forms elements
read_back (Ints2 (int.Monoid monoid.Add)) h = refl
read_back (Ints2 int.Sub) h = refl
read_back (Ints1 Not) h = refl
read_back (Compare Greater) h = refl
read_back (Bools2 bool.And) h = refl
read_back (Bools1 Not) h = refl
read_back (Choose Integer) h = refl
read_back (Scan monoid.Add Flat) h = refl
read_back (Scan _ Segmented) h = refl
read_back (Reduce monoid.Add Flat) h = refl
read_back (Reduce _ Segmented) h = refl
read_back (CheckedScan Flat) h = refl
read_back (CheckedReduce Flat) h = refl
read_back (BoolScan bool.And Flat) h = refl
read_back (BoolScan _ Segmented) h = refl
read_back (BoolReduce bool.And Flat) h = refl
read_back (BoolReduce _ Segmented) h = refl
read_back (Permute Simple Flat Integer) h = refl
read_back (Permute _ Segmented Integer) h = refl
read_back (Permute _ _ Boolean) h = refl
read_back (Length Integer) h = refl
read_back (Count Flat) h = refl
read_back (Pack Flat Integer) h = refl
read_back (Pack _ Boolean) h = refl
read_back (Distribute Flat Integer) h = refl
read_back (Distribute _ Boolean) h = refl
read_back (Index Flat) h = refl
read_back (Extract Flat Integer) h = refl
read_back (Extract _ Boolean) h = refl
read_back (Replace Flat Integer) h = refl
read_back (Replace _ Boolean) h = refl
read_back Write h = cc
read_back _ h = refl
