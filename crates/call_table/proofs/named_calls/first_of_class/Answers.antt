use Rattle.std.proofs.Common.{◌++◌, sym, bytes_eq, ◌≡◌, drop, false, ◌∙◌}
use Rattle.call_table.proofs.Classes.{after_first, of_no_call}
use Rattle.call_table.proofs.named_calls.first_of_class.Goals as goal

pub returns-else-is_joined : goal.returns-else-is_joined
returns-else-is_joined c =
    let word = c.args.word.now in let letters = c.args.class.now ++ c.args.cut_and_element.now in
    let joined = rw (c.min-operator.ensures, after_first 3 word) at c.is_joined.ensures in
    let otherwise : bytes_eq (drop 3 word) letters ≡ false = sym joined ∙ c.if-is_joined.false in
    sym (of_no_call word letters c.args.calls.now c.requires otherwise)
