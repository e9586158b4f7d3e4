use Rattle.status_word.proofs.Cited.{◌≡◌, refl, sym, ap, ◌∙◌, length, get_or, arith, drop_all}
use Rattle.status_word.specs.Codings.{coding_of}
use Rattle.status_word.specs.Locals.{action_of}
use Rattle.status_word.specs.Worlds.{local_at, left_of, scene_after, steps_of}
use Rattle.status_word.proofs.Lowered.{acted_same, run_lowers}
use Rattle.status_word.proofs.Reaching.{counts, run_more, steps_more, takes_is}
use Rattle.status_word.proofs.world.World.run.Goals as goal
use Rattle.status_word.proofs.world.World.run.Goals.{in-Took, in-Idle}

pub loop-actor-init : goal.loop-actor-init
loop-actor-init g c = (refl, omega arith, omega arith, refl)

pub step-requires-after_bounds : goal.step-requires-after_bounds
step-requires-after_bounds g c κs within =
    omega (arith, c.requires c.loop-actor.actor-index 0 c.loop-actor-test.true, c.loop-actor.invariant.3)

pub loop-actor-preserved : goal.loop-actor-preserved
loop-actor-preserved g c =
    let m = coding_of g.M.Monoid.join g.M.Monoid.unit g.M.Packed.to_word g.M.Packed.from_word in
    let now = c.loop-actor.self in
    let actors = c.args.actors.now in
    let i = c.loop-actor.actor-index in
    let inv = c.loop-actor.invariant in
    let local = local_at now (get_or actors i 0) in
    let next = c.step.ensures.world in
    let world = run_more m actors c.args.self.now now _ i c.loop-actor-test.true next inv.0 in
    let counted = steps_more m actors c.args.self.now now _ i c.loop-actor-test.true next in
    let locals = ap (λ s. length s.locals) next ∙ (acted_same m now (get_or actors i 0) local (action_of local)).1 ∙ inv.3 in
    elim c.match-step.branch [
      | in-Took w ↦ (world, omega (arith, w.steps-is, inv.1, counted, takes_is local, ap counts w.in-Took.ensures.stepped), omega (arith, w.steps-is, inv.2), locals)
      | in-Idle w ↦ (world, omega (arith, w.steps-is, inv.1, counted, takes_is local, ap counts w.in-Idle.ensures.stepped), omega (arith, w.steps-is, inv.2), locals)
    ]

pub returns : goal.returns
returns g c =
    let m = coding_of g.M.Monoid.join g.M.Monoid.unit g.M.Packed.to_word g.M.Packed.from_word in
    let inv = c.loop-actor.invariant in
    let none = drop_all c.loop-actor.actor-index c.args.actors.now (omega (arith, c.loop-actor-test.false)) in
    let world = sym (inv.0 ∙ ap (scene_after m c.loop-actor.self) none) in
    let steps : c.loop-actor.steps ≡ steps_of m c.args.self.now c.args.actors.now = omega (arith, inv.1, ap (steps_of m c.loop-actor.self) none) in
    record { world = world; steps = steps; bound = omega (arith, steps, ap left_of world, run_lowers m c.args.actors.now c.args.self.now c.requires) }
