use Rattle.shell.proofs.TextWords.{text_is_read}
use Rattle.shell.proofs.process_words.text.Goals as goal

pub unwrap-requires : goal.unwrap-requires
unwrap-requires c = text_is_read _ _ c.args.word.now c.from_utf8.result c.from_utf8.ensures.cases c.requires
