use Rattle.std.proofs.Common.{ap, option_map, sym, ◌∙◌}
use Rattle.explained_values.proofs.Parts.{a_line, no_line}
use Rattle.explained_values.specs.KindFaults.{holding_words}
use Rattle.explained_values.specs.Arguments.{kind_in}
use Rattle.explained_values.proofs.kind_faults.put_kind_fault.Goals as goal

pub returns-in-None : goal.returns-in-None
returns-in-None g c =
    no_line (λ placed. holding_words c.args.op placed.0 placed.1.word (kind_in placed.1.value)) _ c.args.text.now.items
    (sym c.refused.ensures ∙ ap (option_map (λ placed. (placed.0, placed.1.now))) c.in-None.is)

pub returns-in-Some : goal.returns-in-Some
returns-in-Some g c =
    a_line c.put_holding.result (λ placed. holding_words c.args.op placed.0 placed.1.word (kind_in placed.1.value)) _
    (c.in-Some.found.0, c.in-Some.found.1.now) _ _
    (sym c.refused.ensures ∙ ap (option_map (λ placed. (placed.0, placed.1.now))) c.in-Some.is)
    (rw (c.word.ensures, c.kind.ensures) at c.put_holding.ensures)
