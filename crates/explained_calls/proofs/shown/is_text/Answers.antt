use Rattle.std.proofs.Common.{◌∙◌}
use Rattle.explained_calls.proofs.TextRead.{read_is_text}
use Rattle.explained_calls.proofs.shown.is_text.Goals as goal

pub returns : goal.returns
returns c = c.is_ok.ensures.value ∙ read_is_text _ _ c.args.bytes.now c.from_utf8.result c.from_utf8.ensures.cases
