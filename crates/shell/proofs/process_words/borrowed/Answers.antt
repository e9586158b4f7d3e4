use Rattle.std.proofs.Common.{◌∙◌, sym, arith}
use Rattle.std.specs.Str.{is_utf8}
use Rattle.std.proofs.lemmas.List.Folds.{list_all-map}
use Rattle.std.proofs.lemmas.List.Sums.{AllPass-from_list_all}
use Rattle.shell.proofs.process_words.borrowed.Goals as goal

pub text-requires : goal.text-requires
text-requires c =
    let words = c.args.words.now in
    let all = sym (list_all-map is_utf8 (λ word. word.items) words) ∙ c.requires in
    rw (c.as_slice.ensures.value, c.word-item.is) (AllPass-from_list_all (λ word. is_utf8 word.items) words all c.loop-word.word-index _ (omega arith))
