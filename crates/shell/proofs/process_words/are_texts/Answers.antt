use Rattle.std.proofs.Common.{rules, ◌≡◌, ◌∙◌, false, sym, arith}
use Rattle.std.specs.Str.{is_utf8}
use Rattle.std.proofs.lemmas.List.Folds.{list_all-map, list_all_at}
use Rattle.shell.proofs.process_words.are_texts.Goals as goal

pub returns-then-not-is_text : goal.returns-then-not-is_text
returns-then-not-is_text c =
    let words = c.args.words.now in
    let is : is_utf8 c.word-item.result.items ≡ false = search rules in
    sym (list_all-map is_utf8 (λ word. word.items) words ∙ list_all_at (λ word. is_utf8 word.items) words c.loop-word.word-index _ (omega arith) (rw c.word-item.is at is))
