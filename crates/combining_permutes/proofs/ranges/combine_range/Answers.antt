use Rattle.combining_permutes.proofs.Cited.{◌≡◌, ◌∙◌, ◌+◌, ◌≤◌, arith, length, length-take-le, map, sym, take}
use Rattle.combining_permutes.proofs.Joined.{walked_all}
use Rattle.combining_permutes.proofs.Owned.{few_between, joined_block}
use Rattle.combining_permutes.proofs.ranges.combine_range.Goals as goal

pub overflow_add-named : goal.overflow_add-named
overflow_add-named g c =
    let first = c.loop-first.first in
    let j = length (take c.min-many.result c.loop-first.list) in
    let same : j ≡ c.min-many.result = length-take-le c.min-many.result c.loop-first.list (omega (arith, c.min-many.ensures, c.min-many.array_long)) in
    omega (
      arith,
      c.join_block-listed.ensures.counted,
      few_between c.args.index.now c.args.lowest (c.args.lowest + length c.loop-first.out) first j,
      same,
      c.min-many.ensures,
      c.loop-first.invariant.few,
      c.loop-first-test.true,
      c.requires.in_limit,
    )

pub loop-first-preserved : goal.loop-first-preserved
loop-first-preserved g c =
    let first = c.loop-first.first in
    let many = c.min-many.result in
    let within : first + many ≤ length c.args.index.now = omega (arith, c.min-many.ensures, c.loop-first-test.true) in
    let same = length-take-le many c.loop-first.list (omega (arith, c.min-many.ensures, c.min-many.array_long)) in
    joined_block c.loop-first.invariant c.loop-first.auto.out many within (length (take many c.loop-first.list)) same c.join_block-listed.new.out c.join_block-listed.result
    c.join_block-listed.ensures.joined c.join_block-listed.ensures.items c.join_block-listed.ensures.counted

pub returns-clause-joined : goal.returns-clause-joined
returns-clause-joined g c =
    let item = g.E.Reading.item in
    sym (walked_all g.M.Monoid.join c.args.index.now (map item c.args.source.now) c.args.lowest c.loop-first.first c.loop-first.out (omega (arith, c.loop-first-test.false)))
    ∙ sym c.loop-first.invariant.joined
