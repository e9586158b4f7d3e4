-- What contracts see of a run of places and of the room of a vector to be.
use Rattle.std.specs.Prelude.{◌≡◌, ℕ, ◌+◌, ◌-◌, ◌^◌, ◌<◌, ◌≤◌, List, [], ◌∷◌, ◌++◌, map, length, replicate, slice_index_or, Option, Some}
use Rattle.std.specs.Prelude.{None, refl}
use Rattle.std.specs.Coded.{Coded, code_by, coded×, coded_list, coded_ℕ}
use denote.RawPtr.{Ptr, coded_ptr}
use Rattle.fresh.specs.declared.cells.Cells.{Cells}

-- a run: the block that it is a part of, the number of its first place there, the items written so far from that place on, and how many
-- empty places follow
pub record Stretch (X : Type 0) : Type 0 where
  pub block : Ptr
  pub first : ℕ
  pub items : List X
  pub room : ℕ

-- the room of a vector to be: its block, and how many places the block has
pub record Site : Type 0 where
  pub block : Ptr
  pub places : ℕ

module _ {X : Type 0} where
  -- a stretch as data of proofs
  abbrev pub stretch_code : Coded X → Coded (Stretch X)
  stretch_code c = code_by (Ptr × (ℕ × (List X × ℕ))) (coded× coded_ptr (coded× coded_ℕ (coded× (coded_list c) coded_ℕ)))
      (λ s. (s.block, (s.first, (s.items, s.room)))) (λ p. record { block = p.0; first = p.1.0; items = p.1.1.0; room = p.1.1.1 })
      (λ _. refl)

  -- the stretch from the place `first` of a block on: its items, and the places left behind them
  abbrev pub stretch : Ptr → ℕ → List X → ℕ → Stretch X
  stretch block first items room = record { block = block; first = first; items = items; room = room }

  -- the run after these items were written after its own
  abbrev pub with_items : Stretch X → List X → Stretch X
  with_items s xs = stretch s.block s.first (s.items ++ xs) (s.room - length xs)

  -- the number of the place after the last
  abbrev pub end : Stretch X → ℕ
  end s = s.first + length s.items + s.room

  -- the second begins where the first ends
  abbrev pub Follows : Stretch X → Stretch X → Type 0
  Follows s next = (next.block ≡ s.block) × (next.first ≡ end s)

  -- it is all of the room
  abbrev pub IsAllOf : Site → Stretch X → Type 0
  IsAllOf site s = (s.block ≡ site.block) × (s.first ≡ 0) × (end s ≡ site.places)

  -- it is a whole block of so many places, and full
  abbrev pub IsWhole : Stretch X → Ptr → ℕ → Type 0
  IsWhole s block places = (s.block ≡ block) × (s.first ≡ 0) × (s.room ≡ 0) × (length s.items ≡ places)

  -- the values that are there
  abbrev pub somes : List (Option X) → List X
  somes [] = []
  somes (None ∷ cs) = somes cs
  somes (Some x ∷ cs) = x ∷ somes cs

  -- the places begin with the items, and the others are empty
  abbrev pub filled : List X → ℕ → List (Option X)
  filled xs room = map Some xs ++ replicate room None

  -- what holds of the fields of a run of len places from the one numbered `first` on, the first `written` of which are written
  pub record IsRun (c : Cells X) (base : Ptr) (first len written : ℕ) : Type 0 where
    pub place : (c.at ≡ base) × (c.from ≡ first)
    pub count : (length (somes c.slots) ≡ written) × (written ≤ len) × (first + len < 2 ^ 63)
    pub laid : c.slots ≡ filled (somes c.slots) (len - written)

-- a site as data of proofs
abbrev pub site_code : Coded Site
site_code = code_by (Ptr × ℕ) (coded× coded_ptr coded_ℕ) (λ s. (s.block, s.places)) (λ p. record { block = p.0; places = p.1 }) (λ _. refl)

module _ {X : Type 0} where
  -- the n items ys belong, by P, to the numbers from `start` on
  pub record GoWith (P : ℕ → X → Type 0) (start n : ℕ) (ys : List X) : Type 0 where
    pub count : length ys ≡ n
    pub each : (k : ℕ) (d : X) → k < n → P (start + k) (slice_index_or ys k d)
