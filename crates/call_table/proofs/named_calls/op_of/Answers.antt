use Rattle.std.proofs.Common.{◌++◌}
use Rattle.call_table.specs.declared.families.Cut.TheVariants.{Flat, Segmented}
use Rattle.call_table.specs.Spellings.{cut_calls, elementwise_calls, is_spelled, op_of, other_calls}
use Rattle.call_table.proofs.Joined.{found_after, found_before, in_turn}
use Rattle.call_table.proofs.named_calls.op_of.Goals as goal

pub returns-in_default : goal.returns-in_default
unfolding op_of
returns-in_default c =
    let named = is_spelled c.args.word.now in let some = c.in_default.not-None in
    let flat = found_before named elementwise_calls (cut_calls Flat) c.elementwise_named.ensures some in
    let segmented = found_before named (elementwise_calls ++ cut_calls Flat) (cut_calls Segmented) flat some in
    found_before named (elementwise_calls ++ cut_calls Flat ++ cut_calls Segmented) other_calls segmented some

pub returns-in_default-cut_call_named : goal.returns-in_default-cut_call_named
unfolding op_of
returns-in_default-cut_call_named c =
    let named = is_spelled c.args.word.now in let some = c.in_default-cut_call_named.not-None in
    let flat = found_after named elementwise_calls (cut_calls Flat) c.elementwise_named.ensures c.in-None.is c.cut_call_named.ensures in
    let segmented = found_before named (elementwise_calls ++ cut_calls Flat) (cut_calls Segmented) flat some in
    found_before named (elementwise_calls ++ cut_calls Flat ++ cut_calls Segmented) other_calls segmented some

pub returns-in-None-cut_call_named : goal.returns-in-None-cut_call_named
unfolding op_of
returns-in-None-cut_call_named c =
    let named = is_spelled c.args.word.now in
    let flat = found_after named elementwise_calls (cut_calls Flat) c.elementwise_named.ensures c.in-None.is c.cut_call_named.ensures in
    let segmented = found_after named (elementwise_calls ++ cut_calls Flat) (cut_calls Segmented) flat c.in-None-cut_call_named.is
    c.cut_call_named-in-None-cut_call_named.ensures in
    in_turn named (elementwise_calls ++ cut_calls Flat ++ cut_calls Segmented) other_calls c.or.ensures segmented c.other_call_named.ensures
