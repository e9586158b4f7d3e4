use Rattle.call_table.specs.Spellings.{bool_calls, int_calls, is_spelled}
use Rattle.call_table.proofs.Joined.{in_turn}
use Rattle.call_table.proofs.named_calls.cut_call_named.Goals as goal

pub returns : goal.returns
returns c = in_turn (is_spelled c.args.word.now) (int_calls c.args.cut) (bool_calls c.args.cut) c.or.ensures c.int_call_named.ensures c.bool_call_named.ensures
