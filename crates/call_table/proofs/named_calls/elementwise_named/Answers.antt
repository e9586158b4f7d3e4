use Rattle.std.proofs.Common.{◌∷◌, ◌++◌, [], map}
use Rattle.call_table.specs.declared.families.Element.TheVariants.{Integer, Boolean}
use Rattle.call_table.specs.declared.operation.Op.TheVariants.{Ints2, Ints1, Compare, Bools2, Bools1, Choose, IntFromBool, BoolFromInt}
use Rattle.call_table.specs.Operators.{int_binaries, int_monoids, unaries, comparisons, bool_binaries}
use Rattle.call_table.specs.Spellings.{is_spelled}
use Rattle.call_table.proofs.Joined.{in_turn}
use Rattle.call_table.proofs.named_calls.elementwise_named.Goals as goal

pub returns : goal.returns
unfolding int_binaries int_monoids unaries comparisons bool_binaries
returns c =
    let named = is_spelled c.args.word.now in
    let of_ints = map Ints2 int_binaries ++ map Ints1 unaries ++ map Compare comparisons ++ Choose Integer ∷ BoolFromInt ∷ [] in
    let of_bools = map Bools2 bool_binaries ++ map Bools1 unaries ++ Choose Boolean ∷ IntFromBool ∷ [] in
    in_turn named of_ints of_bools c.or.ensures c.first_of_class.ensures c.first_of_class-2.ensures
