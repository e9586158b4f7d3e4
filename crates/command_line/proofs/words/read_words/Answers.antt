use Rattle.command_line.proofs.Cited.{◌∙◌, ap, sym, codes, texts}
use Rattle.command_line.specs.Reads.{is_set_in, number_given, number_in}
use Rattle.command_line.proofs.Defaults.{explain_by_default, same_number, tile_by_default, workers_by_default}
use Rattle.command_line.proofs.words.read_words.Goals as goal

pub returns-clause-tile_default : goal.returns-clause-tile_default
returns-clause-tile_default c = λ out.
    let words = texts c.args.words.now in
    same_number (number_given (codes "tile") words) c.in_ok-words_of.field-0.config.tile 4096
    (ap (number_in (codes "tile")) (sym c.in_ok-matches.ensures.rows) ∙ c.in_ok-words_of.ensures.tile)
    (tile_by_default words out)

pub returns-clause-workers_default : goal.returns-clause-workers_default
returns-clause-workers_default c = λ out.
    let words = texts c.args.words.now in
    same_number (number_given (codes "workers") words) c.in_ok-words_of.field-0.config.workers 4
    (ap (number_in (codes "workers")) (sym c.in_ok-matches.ensures.rows) ∙ c.in_ok-words_of.ensures.workers)
    (workers_by_default words out)

pub returns-clause-explain_default : goal.returns-clause-explain_default
returns-clause-explain_default c = λ out.
    c.in_ok-words_of.ensures.explain ∙ ap (is_set_in (codes "explain")) c.in_ok-matches.ensures.rows ∙ explain_by_default (texts c.args.words.now) out
