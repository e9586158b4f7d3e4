use Rattle.permute_walks.proofs.Cited.{rules, ◌≡◌, ◌+◌, ◌++◌, ◌∙◌, ap, arith, length, slice_get, sym, unwrap_or, part, stretch, written_of, elements_or, written_over}
use Rattle.permute_walks.proofs.Standing.{length-before, over_first}
use Rattle.permute_walks.proofs.elements.ElementsWriter.write.Goals as goal

pub fill_by-requires-clause-within : goal.fill_by-requires-clause-within
fill_by-requires-clause-within g c =
    let w = c.args.self.now in omega (arith, ap length c.requires.empty, length-before w.source.now w.senders.now w.before w.as_long, w.as_long, c.requires.within)

pub fill_by_both-requires-clause-in_first : goal.fill_by_both-requires-clause-in_first
fill_by_both-requires-clause-in_first g c =
    let w = c.args.self.now in omega (arith, ap length c.requires.empty, length-before w.source.now w.senders.now w.before w.as_long, w.as_long, c.requires.within)

pub fill_by_both-requires-clause-in_second : goal.fill_by_both-requires-clause-in_second
fill_by_both-requires-clause-in_second g c = search (rules, length-before)

pub returns-in-Some : goal.returns-in-Some
returns-in-Some g c =
    let run = c.args.run in let w = c.args.self.now in
    let start : run.first + length run.items ≡ run.first = omega (arith, ap length c.requires.empty) in
    let other = c.in-Some.first.now in
    let are : elements_or w.source.now other w.senders.now ≡ written_over w.source.now w.senders.now (written_of w.before) = search (rules, over_first) in
    c.fill_by.ensures.values (λ sender. unwrap_or (slice_get w.source.now sender) other) (λ sender z p. search rules)
    ∙ (λ i. stretch run.block run.first (c.requires.empty i ++ part (are i) (start i) run.room) 0)

pub returns-in-Defaults : goal.returns-in-Defaults
returns-in-Defaults g c =
    let run = c.args.run in let w = c.args.self.now in
    let start : run.first + length run.items ≡ run.first = omega (arith, ap length c.requires.empty) in
    c.fill_by_both.ensures (λ sender default. unwrap_or (slice_get w.source.now sender) default) (λ sender default z p. search rules)
    ∙ (λ i. stretch run.block run.first (c.requires.empty i ++ part (written_over w.source.now w.senders.now (written_of (sym c.in-Defaults.is i))) (start i) run.room) 0)
