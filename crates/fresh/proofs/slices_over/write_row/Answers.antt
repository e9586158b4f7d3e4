use Rattle.fresh.proofs.Cited.{[], refl, sym, ap, ◌∙◌, subst, somes, stretch}
use Rattle.core.specs.Mem.Slots.{slots_items}
use Rattle.fresh.specs.contracts.slices_over.write_row.F-FnOnce.{words}
use Rattle.fresh.proofs.Places.{somes_filled, somes_map}
use Rattle.fresh.proofs.slices_over.write_row.Goals as goal

pub returns-clause-items : goal.returns-clause-items
returns-clause-items g c =
    let run = c.write.result in (
      run,
      subst (λ s. (words g.row.T g.row.F g.F.FnOnce).post c.args.write s run) (c.begun.ensures.empty refl ∙ λ i. stretch (c.emptied-cells.ensures.base i) 0 [] (c.len-len.ensures i)) c.write.ensures,
      sym (somes_map (slots_items c.filled_row.result)) ∙ ap somes (sym c.filled_row.ensures.items ∙ c.into_cells-cells.ensures.cells.2) ∙ somes_filled run.items run.room,
    )
