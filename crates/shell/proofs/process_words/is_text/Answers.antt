use Rattle.std.proofs.Common.{◌∙◌}
use Rattle.shell.proofs.TextWords.{read_is_text}
use Rattle.shell.proofs.process_words.is_text.Goals as goal

pub returns : goal.returns
returns c = c.is_ok.ensures.value ∙ read_is_text _ _ c.args.word.now c.from_utf8.result c.from_utf8.ensures.cases
