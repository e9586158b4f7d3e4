-- What is left of one range of a call after its checks.
use Rattle.part_calls.proofs.Cited.{◌+◌, ◌≡◌, ◌≤◌, eq-eqb, le-ltb, length, List, most_places, refl, Result, ℕ}
use Rattle.cvl_base.specs.declared.fault.Fault.{Fault}
use Rattle.cvl_base.specs.Elementwise.{if_as_long}
use Rattle.part_calls.specs.Limits.{range_within}

module _ {I Y : Type 0} (index : List I) (low n : ℕ) (few : length index ≤ most_places) (within : low + n ≤ most_places) (call : Result Y Fault) where
  -- neither the index nor the range is too long
  pub after_limits : range_within (length index) low n call ≡ call
  after_limits = rw (le-ltb most_places (length index) few, le-ltb most_places (low + n) within) refl

  -- and there is an index for each element
  pub after_sends : {X : Type 0} (source : List X) → length source ≡ length index → range_within (length index) low n (if_as_long source index call) ≡ call
  after_sends source agree =
      rw (le-ltb most_places (length index) few, le-ltb most_places (low + n) within, eq-eqb (length source) (length index) agree) refl
