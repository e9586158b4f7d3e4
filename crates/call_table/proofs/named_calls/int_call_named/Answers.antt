use Rattle.std.proofs.Common.{◌∷◌, ◌++◌, [], map}
use Rattle.call_table.specs.declared.families.Element.TheVariants.{Integer}
use Rattle.call_table.specs.declared.operation.Op.TheVariants.{Scan, Reduce, Permute, CheckedScan, CheckedReduce, Pack, Index}
use Rattle.call_table.specs.Operators.{int_monoids}
use Rattle.call_table.specs.Spellings.{element_calls, forms, is_spelled}
use Rattle.call_table.proofs.Joined.{in_turn}
use Rattle.call_table.proofs.named_calls.int_call_named.Goals as goal

pub returns : goal.returns
unfolding int_monoids forms
returns c =
    let cut = c.args.cut in let named = is_spelled c.args.word.now in
    let scans = map (λ o. Scan o cut) int_monoids ++ CheckedScan cut ∷ [] in
    let reduces = map (λ o. Reduce o cut) int_monoids ++ CheckedReduce cut ∷ [] in
    let permutes = map (λ form. Permute form cut Integer) forms in
    let others = element_calls cut Integer in
    let two = in_turn named scans reduces c.or.ensures c.first_of_class.ensures c.first_of_class-2.ensures in
    let three = in_turn named (scans ++ reduces) permutes c.or-2.ensures two c.first_of_class-3.ensures in
    let four = in_turn named (scans ++ reduces ++ permutes) others c.or-3.ensures three c.first_of_class-4.ensures in
    in_turn named (scans ++ reduces ++ permutes ++ others) (Pack cut Integer ∷ Index cut ∷ []) c.or-4.ensures four c.first_of_class-5.ensures
