use Rattle.std.proofs.Common.{◌≡◌, false, sym, ◌∙◌}
use Rattle.cvl_base.specs.Calls.{is_write}
use Rattle.explained_calls.proofs.call_words.CallWordsWords.put.Goals as goal

pub returns : goal.returns
returns g c =
    let no_write : is_write c.args.self.now.0 ≡ false = sym c.is_write.ensures ∙ c.if-is_write.false in
    rw no_write (rw (c.operands.ensures, c.gives.ensures) at c.put-2.ensures)
