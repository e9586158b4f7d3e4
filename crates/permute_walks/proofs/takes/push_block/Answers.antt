use Rattle.permute_walks.proofs.Cited.{◌∙◌, ◌-◌, ◌++◌, length, ap, sym, arith, stretch, with_items, elements_at}
use Rattle.permute_walks.proofs.Blocks.{each_inside, none_missing}
use Rattle.permute_walks.proofs.Outside.{all_inside, length-elements_at, none_outside}
use Rattle.permute_walks.proofs.takes.push_block.Goals as goal

pub returns-then-count_outside-eq0-clause-run : goal.returns-then-count_outside-eq0-clause-run
returns-then-count_outside-eq0-clause-run g c =
    let run = c.args.run in
    let source = c.args.source.now in
    let index = c.args.index.now in
    let inside = all_inside 0 (length source) index (none_outside 0 (length source) index (omega (arith, c.count_outside.ensures, c.if-count_outside-eq0.true))) in
    c.write_elements_at.ensures
    ∙ ap (λ n. stretch run.block run.first (run.items ++ elements_at source index) (run.room - n)) (sym (length-elements_at source index inside))
    ∙ ap (with_items run) (each_inside source c.args.other index inside)

pub returns-then-count_outside-eq0-clause-found : goal.returns-then-count_outside-eq0-clause-found
returns-then-count_outside-eq0-clause-found g c =
    let source = c.args.source.now in
    let index = c.args.index.now in
    let inside = all_inside 0 (length source) index (none_outside 0 (length source) index (omega (arith, c.count_outside.ensures, c.if-count_outside-eq0.true))) in
    none_missing source c.args.other _ index inside
