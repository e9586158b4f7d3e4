use Rattle.std.proofs.Common.{◌≡◌, map, take, true}
use Rattle.std.specs.List.{list_all}
use Rattle.std.specs.Str.{is_utf8}
use Rattle.shell.proofs.process_words.are_texts.Given as goal

-- the words so far are UTF-8
abbrev pub invariant-loop-word : goal.invariant-loop-word
invariant-loop-word l = list_all is_utf8 (map (λ word. word.items) (take l.word-index l.words)) ≡ true
