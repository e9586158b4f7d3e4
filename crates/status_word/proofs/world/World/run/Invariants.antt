use Rattle.status_word.proofs.Cited.{◌≡◌, ◌+◌, ◌≤◌, length, drop}
use Rattle.status_word.specs.Codings.{coding_of}
use Rattle.status_word.specs.Worlds.{scene_after, steps_of}
use Rattle.status_word.proofs.world.World.run.Given as goal

-- the workers that are left lead from here to the end
abbrev pub invariant-loop-actor : goal.invariant-loop-actor
invariant-loop-actor g l =
    let m = coding_of g.M.Monoid.join g.M.Monoid.unit g.M.Packed.to_word g.M.Packed.from_word in
    (scene_after m l.fn.self l.actors ≡ scene_after m l.self (drop l.actor-index l.actors))
    × (steps_of m l.fn.self l.actors ≡ l.steps + steps_of m l.self (drop l.actor-index l.actors))
    × (l.steps ≤ l.actor-index)
    × (length l.self.locals ≡ length l.fn.self.locals)
