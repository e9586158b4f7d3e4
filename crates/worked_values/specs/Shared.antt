-- How many threads share a call, by the number of workers, and what each thread has in the end; the tiles and workers of a race.
-- Source: this library's profile.
use Rattle.std.specs.Prelude.{ℕ, suc, ◌-◌, List, [], ◌∷◌, ◌++◌, map}
use Rattle.cvl_base.specs.Configs.{TilesAndWorkers}
use Rattle.sharing.specs.Shares.{first_of_two, share_of_first}

-- tiles of so many elements, and so many workers
abbrev pub tiles_and_workers : ℕ → ℕ → TilesAndWorkers
tiles_and_workers tile workers = record { tile = tile; workers = workers }

-- for 1, 3, 4 and 64 workers
abbrev pub by_workers : (ℕ → ℕ → ℕ) → ℕ → List ℕ
by_workers threads items = map (λ workers. threads workers items) (1 ∷ 3 ∷ 4 ∷ 64 ∷ [])

-- what each of the threads has if forks cut them in two, at most so many in a row, until each stands alone
abbrev pub forked : ℕ → ℕ → ℕ → List ℕ
forked (suc times) (suc (suc more)) items =
    let threads = suc (suc more) in
    let few = first_of_two threads in
    let front = share_of_first few threads items in
    forked times few front ++ forked times (threads - few) (items - front)
forked times threads items = items ∷ []

-- what each has if one thread after another takes its share of the rest
abbrev pub in_turn : ℕ → ℕ → List ℕ
in_turn (suc (suc others)) items =
    let front = share_of_first 1 (suc (suc others)) items in
    front ∷ in_turn (suc others) (items - front)
in_turn threads items = items ∷ []
