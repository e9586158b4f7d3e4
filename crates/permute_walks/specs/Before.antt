-- What stands in the places of a permute's result before elements are sent there.
-- Source: CVL's permutes: a simple or select permute sends an element to each place, and in a default permute a default stays.
use Rattle.std.specs.Prelude.{◌≡◌, ℕ, List, [], ◌∷◌, length, replicate, Option, Result, Ok}
use Rattle.cvl_base.specs.declared.fault.Fault.{Fault}
use Rattle.cvl_base.specs.Gives.{unless}
use Rattle.permute_walks.specs.declared.before.Before.{Before}
use Rattle.permute_walks.specs.declared.before.Before.TheVariants as before
use Rattle.permute_walks.specs.Senders.{written_over}

-- the first of a list in place of each
abbrev pub copies_of_first : {X : Type 0} → List X → List X
copies_of_first [] = []
copies_of_first (x ∷ xs) = x ∷ replicate (length xs) x

module _ {X : Type 0} where
  -- a value for each place
  abbrev pub values_of : Before X → List X
  values_of (before.Any values) = values.now
  values_of (before.Defaults values) = values.now

  -- what is written there: one for all of them, if they do not matter
  abbrev pub written_of : Before X → List X
  written_of (before.Any values) = copies_of_first values.now
  written_of (before.Defaults values) = values.now

  -- what may stand there: as many values, and those that stay are these
  abbrev pub MayStand : Before X → List X → Type 0
  MayStand (before.Any values) others = length others ≡ length values.now
  MayStand (before.Defaults values) others = others ≡ values.now

-- A permute means the first fault, or else what the elements of the senders, one for each place, make of whatever may stand there.
pub record IsPermuted {X : Type 0} (source : List X) (b : Before X) (meaning : Result (List X) Fault) (first : Option Fault)
    (senders : List ℕ) : Type 0 where
  pub is : (stands : List X) → MayStand b stands → meaning ≡ unless first (Ok (written_over source senders stands))
  pub as_many : length senders ≡ length (values_of b)
