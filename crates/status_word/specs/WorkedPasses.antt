-- Worked passes over two tiles: one worker was given tile 0, told its sum and saw its prefix; the other was given tile 1, and then told
-- that no tile is left.
use Rattle.std.specs.Prelude.{ℤ}
use Rattle.status_word.specs.declared.pass.Pass.{Pass}
use Rattle.status_word.specs.Passes.{new_pass, given_tile, told_done, looked, told_state}
use Rattle.status_word.specs.WorkedWorlds.{worked_sums}

-- the pass of the worker that was given tile 0
abbrev pub worked_pass : Pass ℤ
worked_pass = looked (told_state (given_tile (new_pass worked_sums) 0) 0 1) 0 2

-- the pass of the worker that was given tile 1
abbrev pub other_pass : Pass ℤ
other_pass = told_done (given_tile (new_pass worked_sums) 1)
