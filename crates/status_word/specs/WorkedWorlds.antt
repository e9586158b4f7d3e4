-- The world of the worked values: two tiles with the sums 5 and 7 in which no segment starts, under addition.
use Rattle.std.specs.Prelude.{◌≡◌, ℕ, ℤ, pos, Bool, false, List, [], ◌∷◌, replicate}
use Rattle.cvl_base.specs.Integers.{sum_of}
use Rattle.cvl_base.specs.ItemWords.{same_word}
use Rattle.status_word.specs.declared.local.Local.TheVariants.{Stopped}
use Rattle.status_word.specs.Codings.{Coding, coding_of}
use Rattle.status_word.specs.Worlds.{Scene, new_scene, scene_after, steps_of}

-- addition, with its statuses as words
abbrev pub additions : Coding ℤ
additions = coding_of sum_of (pos 0) same_word same_word

-- the sums of the two tiles
abbrev pub worked_sums : List (Bool × ℤ)
worked_sums = (false, pos 5) ∷ (false, pos 7) ∷ []

-- the world after these steps of so many workers
abbrev pub worked_world : ℕ → List ℕ → Scene ℤ
worked_world workers actors = scene_after additions (new_scene worked_sums workers) actors

-- how many of these steps did something
abbrev pub worked_steps : ℕ → List ℕ → ℕ
worked_steps workers actors = steps_of additions (new_scene worked_sums workers) actors

-- the workers that take the turns, in order
abbrev pub worked_turns : List ℕ
worked_turns = 0 ∷ 1 ∷ 1 ∷ 1 ∷ 1 ∷ 1 ∷ 0 ∷ 0 ∷ 0 ∷ 1 ∷ []

-- the words of the prefixes 5 and 12
abbrev pub worked_words : List ℕ
worked_words = 9223372036854775813 ∷ 9223372036854775820 ∷ []

-- three workers over no tile
abbrev pub empty_world : List ℕ → Scene ℤ
empty_world actors = scene_after additions (new_scene [] 3) actors

-- the same in a world without tiles
abbrev pub empty_steps : List ℕ → ℕ
empty_steps actors = steps_of additions (new_scene [] 3) actors

-- all workers have stopped, and the claim word and the words are these
pub record AllStopped (w : Scene ℤ) (claims : ℕ) (words : List ℕ) (workers : ℕ) : Type 0 where
  pub claimed : w.claims ≡ claims
  pub told : w.words ≡ words
  pub stopped : w.locals ≡ replicate workers Stopped
