use Rattle.sparse_products.proofs.Cited.{◌≡◌, ◌∙◌, ap, arith, length, sym, Err}
use Rattle.sparse_products.proofs.Answered.{not_as_many, not_the_total}
use Rattle.sparse_products.proofs.answers.check_entries.Goals as goal
use Rattle.sparse_products.proofs.answers.check_entries.Goals.{else-values-columns-via-then-values-columns+else-entries-columns, else-values-columns-via-else-values-columns}

pub returns : goal.returns
returns c = λ lengths adds_up.
    elim c.else-values-columns.branch [
      | else-values-columns-via-then-values-columns+else-entries-columns w ↦ let as_many : length c.args.values.now ≡ length c.args.columns.now = omega arith in
          not_the_total c.args.places lengths c.args.columns.now c.args.values.now c.in_ok-check_places_alone.ensures as_many (λ same. omega arith) ∙ ap Err (sym c.new.ensures)
      | else-values-columns-via-else-values-columns w ↦
          not_as_many c.args.places lengths c.args.columns.now c.args.values.now c.in_ok-check_places_alone.ensures (λ same. omega arith) ∙ ap Err (sym c.new.ensures)
    ]
