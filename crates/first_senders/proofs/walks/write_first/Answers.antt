use Rattle.first_senders.proofs.Cited.{◌≡◌, ◌∙◌, ◌+◌, ◌-◌, Some, ap, arith, drop, length, set, subst, sym, take, to_z, w32, destination_if}
use Rattle.std.proofs.lemmas.Int.{to_z_pos}
use Rattle.first_senders.proofs.Faults.{part_long}
use Rattle.first_senders.proofs.Found.{IsWrittenBehind, walked_on, written_all, written_below, written_beyond, written_here, written_none, written_skip}
use Rattle.first_senders.proofs.walks.write_first.Goals as goal

pub loop-left-init : goal.loop-left-init
loop-left-init g c =
    let all = g.D.Destinations.destinations c.args.destinations.now in
    record {
      in_count = omega arith;
      few = omega arith;
      behind = written_none (take c.args.count (drop c.args.first all)) c.args.lowest (length c.args.out.now) c.args.count c.fill.new.self
          (sym (part_long all c.args.first c.args.count c.requires.within)) (c.fill.ensures.after (λ y is. is));
    }

pub loop-left-preserved-then-place-lowest : goal.loop-left-preserved-then-place-lowest
loop-left-preserved-then-place-lowest g c =
    let named = c.in-Some.ensures.named in let at = c.in-Some.place - c.args.lowest in
    walked_on c.loop-left.invariant c.requires.within (omega (arith, c.loop-left-test.true)) (omega arith)
    (λ to lt here. written_here _ to lt c.in-Some.place
    (here ∙ c.at-takes_part.ensures ∙ ap (destination_if c.at-takes_part.result.0.now) c.if-takes_part.true ∙ ap (λ j. Some j) named.1) (omega (arith, c.if-place-lowest.true))
    (omega (arith, named.0)) (set c.loop-left.out at (to_z w32 (c.loop-left.left - 1))) (c.loop-left.named + 1)
    (ap (set c.loop-left.out at) (to_z_pos w32 (c.loop-left.left - 1) (omega (arith, c.loop-left.invariant.in_count, c.requires.within, c.requires.in_limit)))) (omega arith))

pub loop-left-preserved-else-place-lowest : goal.loop-left-preserved-else-place-lowest
loop-left-preserved-else-place-lowest g c =
    walked_on c.loop-left.invariant c.requires.within (omega (arith, c.loop-left-test.true)) (omega arith)
    (λ to lt here. written_below _ to lt c.in-Some.place
    (here ∙ c.at-takes_part.ensures ∙ ap (destination_if c.at-takes_part.result.0.now) c.if-takes_part.true ∙ ap (λ j. Some j) c.in-Some.ensures.named.1) (omega (arith, c.if-place-lowest.false)))

pub loop-left-preserved-in_default : goal.loop-left-preserved-in_default
loop-left-preserved-in_default g c =
    walked_on c.loop-left.invariant c.requires.within (omega (arith, c.loop-left-test.true)) (omega arith)
    (λ to lt here. written_beyond _ to lt c.at-takes_part.result.0.now
    (here ∙ c.at-takes_part.ensures ∙ ap (destination_if c.at-takes_part.result.0.now) c.if-takes_part.true) (λ d same. omega (arith, c.in_default.ensures.named d same)))

pub loop-left-preserved : goal.loop-left-preserved
loop-left-preserved g c =
    walked_on c.loop-left.invariant c.requires.within (omega (arith, c.loop-left-test.true)) (omega arith)
    (λ to lt here. written_skip _ to lt (here ∙ c.at-takes_part.ensures ∙ ap (destination_if c.at-takes_part.result.0.now) c.if-takes_part.false))

pub returns-clause-written : goal.returns-clause-written
returns-clause-written g c =
    let all = g.D.Destinations.destinations c.args.destinations.now in
    let ts = take c.args.count (drop c.args.first all) in
    let m = length c.args.out.now in
    let none : c.loop-left.left ≡ 0 = omega (arith, c.loop-left-test.false) in
    written_all ts c.args.lowest m c.loop-left.out c.loop-left.named
    (subst (λ n. IsWrittenBehind ts c.args.lowest m n c.loop-left.out c.loop-left.named) none c.loop-left.invariant.behind)
