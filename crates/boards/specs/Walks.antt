-- What a look-back has done so far, as its worker's pass before and after.
-- Source: the decoupled look-back of Merrill and Garland, 2016.
use Rattle.std.specs.Prelude.{◌≡◌, ℕ, ◌+◌, ◌<◌, ◌≤◌, ◌⊎◌, max, Bool, List}
use Rattle.status_word.specs.declared.pass.Pass.{Pass}
use Rattle.cvl_base.specs.TileSums.{own_sum, upto_tile}
use Rattle.status_word.specs.Passes.{WasTold, known_at, seen_at, told_at}
use Rattle.boards.specs.declared.look_back.Found.{Found}
use Rattle.boards.specs.declared.look_back.Found.TheVariants.{Sum, Prefix}

-- what was found of tile `at` is true
abbrev pub IsTrueOfTile : {Item : Type 0} → (Item → Item → Item) → Item → List (Bool × Item) → ℕ → Found Item → Type 0
IsTrueOfTile join unit sums at (Sum starts value) = (starts, value) ≡ own_sum unit sums at
IsTrueOfTile join unit sums at (Prefix starts value) = (starts, value) ≡ upto_tile join unit sums at

-- the state of a status by its number: 1 a sum, 2 a prefix
abbrev pub rank_of : {Item : Type 0} → Found Item → ℕ
rank_of (Sum starts value) = 1
rank_of (Prefix starts value) = 2

-- one look at tile `at`, whose state is known to be this afterwards, and perhaps its sum published
pub record IsOneLook {Item : Type 0} (at rank : ℕ) (old new : Pass Item) : Type 0 where
  pub looks : new.looks ≡ old.looks + 1
  pub known : known_at at new ≡ rank
  pub told : (told_at at old ≤ told_at at new) × (told_at at new ≤ max (told_at at old) 1)
  pub seen : seen_at at old ≤ seen_at at new
  pub others : (x : ℕ) → ¬ (x ≡ at) → (told_at x new ≡ told_at x old) × (seen_at x new ≡ seen_at x old)
  pub kept : (x rank when : ℕ) → WasTold x rank when old → WasTold x rank when new
  pub hand : new.hand ≡ old.hand
  pub sums : new.sums ≡ old.sums

-- one look at each of the tiles from `at` to before t, none of which had a published prefix
pub record IsWalk {Item : Type 0} (t at : ℕ) (old new : Pass Item) : Type 0 where
  pub looks : new.looks + at ≡ old.looks + t
  pub known : (x : ℕ) → at ≤ x → x < t → known_at x new ≡ 1
  pub told : (x : ℕ) → (told_at x old ≤ told_at x new) × (told_at x new ≤ max (told_at x old) 1)
  pub seen : (x : ℕ) → seen_at x old ≤ seen_at x new
  pub others : (x : ℕ) → (x < at) ⊎ (t ≤ x) → (told_at x new ≡ told_at x old) × (seen_at x new ≡ seen_at x old)
  pub kept : (x rank when : ℕ) → WasTold x rank when old → WasTold x rank when new
  pub hand : new.hand ≡ old.hand
  pub sums : new.sums ≡ old.sums
