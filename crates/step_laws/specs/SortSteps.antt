-- The steps of orders, ranks and sorts in parts, each by what its export is proved to do.
-- Source: Knuth, The Art of Computer Programming, volume 3, 5.2.5, sorting by distribution, the least significant digit first; the parts
-- are this library's.
use Rattle.std.specs.Prelude.{◌≡◌, ◌≢◌, ◌==◌, ℕ, ◌+◌, ◌-◌, ◌*◌, ◌/◌, ◌%◌, ◌^◌, ◌≤◌, ℤ, List, [], ◌∷◌, length, map, MatchResult, Ok}
use Rattle.std.specs.List.{All, AllZip, enumerate_from, filter, flat_map, range_with_len}
use Rattle.cvl_base.specs.Limits.{most_places}
use Rattle.digit_partitions.specs.Ends.{digit_ends}
use Rattle.digit_partitions.specs.Partitions.{most_digits, partitioned}
use Rattle.digit_partitions.specs.Pieces.{IsRange, digit_piece}
use Rattle.part_calls.specs.SenderRanges.{senders_range_of}
use Rattle.sort_parts.specs.Cuts.{IsCutBetween, fits_parts}
use Rattle.sort_parts.specs.Passes.{key_bits_of, passes_by}
use Rattle.stable_sorts.specs.Placed.{with_key, with_values}
use Rattle.stable_sorts.specs.Steps.{IsBlock, digit_of_pass}
use Rattle.stable_sorts.specs.declared.keys.Placed.{Placed}
use Rattle.step_laws.specs.Parts.{FillsAlone, Part, TellsAlone, told_of}
use Rattle.step_laws.specs.SortParts.{BlocksAlone, GathersAlone, HasBlock, HasBothRooms, HaveShares, KnowPlaces, PassPart, SharesAlone}
use Rattle.step_laws.specs.SortParts.{ValuesPart, WritesAlone, blocks_of, ends_of, result_of, whole_of}
use Rattle.step_laws.specs.Steps.{InParts}
use Rattle.c_calls.specs.Calls.{in_limit}
use Rattle.c_calls.specs.Told.{Told, done}
use Rattle.c_calls.specs.declared.status.CvlStatus.{CvlStatus}

-- what an export that has no fault but that of its operands is proved to do: it is done if these agree, and then a room holds the value,
-- which else is as before
pub record Makes {Y : Type 0} (agree : Type 0) (value : Y) (status : CvlStatus) (before now : Y) : Type 0 where
  pub is_done : agree → status ≡ done
  pub written : status ≡ done → now ≡ value
  pub as_before : status ≢ done → now ≡ before

-- ---- a pass

module _ {X : Type 0} (key : X → ℤ) (pass : ℕ) where
  -- the digit of an element
  abbrev pub digit : X → ℕ
  digit x = digit_of_pass pass (key x)

  -- a part writes its elements in the order of the digit, and where each digit ends
  abbrev pub Blocks : PassPart X → PassPart X → Type 0
  Blocks own left =
      ((status : CvlStatus)
      × Makes {Y = List X × List ℕ} (IsBlock pass own.before (length own.elements) (length own.block) (length own.ends))
      (partitioned digit most_digits own.elements, map (λ e. own.before + e) (digit_ends digit most_digits own.elements))
      status (own.block, own.ends) (left.block, left.ends))
      × BlocksAlone own left

module _ {X : Type 0} where
  -- once: the pieces are cut between the parts, by shares, or there is a fault
  abbrev pub CutsOnce : List ℕ → List (PassPart X) → CvlStatus → List ℕ × List ℕ → List ℕ × List ℕ → Type 0
  CutsOnce shares parts status before now =
      Told (in_limit (ends_of parts) (fits_parts (length shares) (length (ends_of parts)) (length before.0) (length before.1))) status tt tt
      × MatchResult (in_limit (ends_of parts) (fits_parts (length shares) (length (ends_of parts)) (length before.0) (length before.1)))
      (λ _. IsCutBetween (length shares - 1) (ends_of parts) now.0 now.1) (λ _. now ≡ before)

  -- a part gathers its pieces of these parts' blocks, whatever it answers
  abbrev pub Gathers : List (PassPart X) → PassPart X → PassPart X → Type 0
  Gathers parts own left =
      ((status : CvlStatus)
      × Makes (IsRange (blocks_of parts) (ends_of parts) most_digits (length parts) own.piece own.count (length own.range))
      (flat_map (digit_piece (blocks_of parts) (ends_of parts) most_digits (length parts)) (range_with_len own.piece own.count))
      status own.range left.range)
      × GathersAlone own left

-- A pass by steps, of parts of which there is one at least: each part makes its block, the pieces are cut between the parts, once, and each
-- part gathers its own. The shares by which they are cut may be any.
pub record IsPassBySteps {X : Type 0} (key : X → ℤ) (pass : ℕ) (start end : List (PassPart X)) : Type 0 where
  pub some : 1 ≤ length start
  pub few : length start * most_digits ≤ most_places
  pub places : KnowPlaces start
  pub rooms : All HasBlock start
  pub blocked : List (PassPart X)
  pub blocks : InParts (Blocks key pass) start blocked
  pub shares : List ℕ
  pub before : List ℕ × List ℕ
  pub now : List ℕ × List ℕ
  pub as_many : length shares ≡ length start + 1
  pub pieces_room : length before.0 ≡ length shares
  pub places_room : length before.1 ≡ length shares
  pub status : CvlStatus
  pub cut : CutsOnce shares blocked status before now
  pub shared : List (PassPart X)
  pub shares_alone : AllZip SharesAlone blocked shared
  pub have_shares : HaveShares now.0 now.1 shared
  pub gathers : InParts (Gathers shared) shared end

-- passes by steps, each of what the one before left, in any parts
abbrev pub ByPasses : {X : Type 0} → (X → ℤ) → List ℕ → List X → List X → Type 0
ByPasses key [] elements after = after ≡ elements
ByPasses {X} key (pass ∷ passes) elements after =
    (start : List (PassPart X)) × (end : List (PassPart X)) × (whole_of start ≡ elements) × IsPassBySteps key pass start end
    × ByPasses key passes (result_of end) after

-- ---- which passes

-- the numbers of the bits that are set, of the lowest three
abbrev pub passes_in : ℕ → List ℕ
passes_in bits = filter (λ pass. bits / 2 ^ pass % 2 == 1) (range_with_len 0 3)

-- a part tells the bits that are set in all of its keys, and those that are set in any
abbrev pub TellsBits : Part ℤ (ℤ × ℤ) ℤ → Part ℤ (ℤ × ℤ) ℤ → Type 0
TellsBits own left = Told (in_limit own.elements (Ok (key_bits_of own.elements))) done own.told left.told × TellsAlone own left

-- Each part of some keys tells its bits; these say, once, which passes a sort makes.
pub record FindsPasses (start : List (Part ℤ (ℤ × ℤ) ℤ)) (bits : ℕ) : Type 0 where
  pub left : List (Part ℤ (ℤ × ℤ) ℤ)
  pub tells : InParts TellsBits start left
  pub before : ℕ
  pub told : Told (passes_by (map (λ b. b.0) (told_of left)) (map (λ b. b.1) (told_of left))) done before bits

-- ---- before the passes, and behind them

-- a part writes each of its keys beside its place; `before` is how many stand before the part
abbrev pub PlacesKeys : Part ℤ ℕ Placed → Part ℤ ℕ Placed → Type 0
PlacesKeys own left =
    ((status : CvlStatus)
    × Makes ((length own.room ≡ length own.elements) × (own.before + length own.elements ≤ most_places))
    (map with_key (enumerate_from own.before own.elements)) status own.room left.room)
    × FillsAlone own left

-- a part writes each of its keys, turned to a direction, beside its value
abbrev pub PlacesValues : (ℤ → ℤ) → Part (ℤ × ℤ) ℕ Placed → Part (ℤ × ℤ) ℕ Placed → Type 0
PlacesValues turned own left =
    ((status : CvlStatus)
    × Makes ((length (map (λ e. e.1) own.elements) ≡ length (map (λ e. e.0) own.elements))
    × (length own.room ≡ length (map (λ e. e.0) own.elements)))
    (with_values turned (map (λ e. e.0) own.elements) (map (λ e. e.1) own.elements)) status own.room left.room)
    × FillsAlone own left

-- a part writes what is read of each of its elements
abbrev pub Reads : (Placed → ℤ) → Part Placed ℕ ℤ → Part Placed ℕ ℤ → Type 0
Reads read own left =
    ((status : CvlStatus) × Makes (length own.room ≡ length own.elements) (map read own.elements) status own.room left.room)
    × FillsAlone own left

-- a part writes the key of each of its elements, turned to a direction, in one room, and its value in another
abbrev pub ReadsBoth : (ℤ → ℤ) → ValuesPart → ValuesPart → Type 0
ReadsBoth turned own left =
    ((status : CvlStatus)
    × Makes {Y = List ℤ × List ℤ} (HasBothRooms own) (map (λ p. turned p.key) own.placed, map (λ p. p.place) own.placed)
    status (own.keys, own.values) (left.keys, left.values))
    × WritesAlone own left

-- a part writes for each place of its range, of which `before` is the first, where the order has it
abbrev pub FindsPlaces : List ℤ → Part ℤ ℕ ℤ → Part ℤ ℕ ℤ → Type 0
FindsPlaces order own left =
    ((status : CvlStatus)
    × Told (senders_range_of order own.before (length own.room)) status (own.room, own.told) (left.room, left.told))
    × (left ≡ record own { told = left.told; room = left.room })
