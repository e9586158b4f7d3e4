use Rattle.permute_walks.proofs.Cited.{rules, ◌≡◌, ◌+◌, ◌++◌, ◌∙◌, ap, arith, length, sym, map-id, part, stretch, written_of}
use Rattle.permute_walks.proofs.Standing.{are_copies}
use Rattle.permute_walks.proofs.before.BeforeWriter.write.Goals as goal

pub returns-in-Some : goal.returns-in-Some
returns-in-Some g c = search (rules, are_copies)

pub returns-in-Defaults : goal.returns-in-Defaults
returns-in-Defaults g c =
    let run = c.args.run in let values = c.in-Defaults.values.now in
    let start : run.first + length run.items ≡ run.first = omega (arith, ap length c.requires.empty) in
    c.fill_by.ensures.values (λ x. x) (λ x y same. same)
    ∙ (λ i. stretch run.block run.first (c.requires.empty i ++ part (map-id values i) (start i) run.room) 0)
    ∙ ap (λ b. stretch run.block run.first (part (written_of b) run.first run.room) 0) (sym c.in-Defaults.is)
