use Rattle.call_reader.proofs.NestedMarks.{text-read, read-text, one-pair}
use Rattle.call_reader.proofs.nested_laws.nested_text_laws.Goals as goal

pub returns : goal.returns
returns c = record { read = text-read; no_other = read-text; one_pair = one-pair }
