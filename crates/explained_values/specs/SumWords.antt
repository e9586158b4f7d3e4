-- Sums that do not fit.
-- Source: this library's profile.
use Rattle.std.specs.Prelude.{ℕ, ◌-◌, ◌++◌, List, [], codes, map, sum, unsigned_abs}
use Rattle.std.specs.Fmt.{decimal}
use Rattle.cvl_base.specs.declared.operation.Op.{Op}
use Rattle.cvl_base.specs.declared.operation.Op.TheVariants as op
use Rattle.bound_names.specs.Arguments.{integers_in}
use Rattle.explained_values.specs.Arguments.{Spelled, spelled_at, element_name}
use Rattle.explained_values.specs.Segments.{part_words, places_of, segment_at}

-- how far a sum goes: a scan has at each place the sum of the elements before it, and a reduce that of all
abbrev pub end_words : Op → List ℕ → ℕ → List ℕ
end_words (op.CheckedScan cut) vector place = codes " up to " ++ element_name vector (place - 1)
end_words _ vector place = []

module _ {A : Type 0} where
  -- `the sum of v up to v[4] does not fit 32 bits`, `the sum of segment 1 of v does not fit 32 bits`
  abbrev pub overflow_words : Op → List (Spelled A) → ℕ → List ℕ
  overflow_words call args place =
      let vector = (spelled_at args 0).word in
      codes "the sum of " ++ part_words (segment_at (places_of call) args place) vector ++ end_words call vector place
      ++ codes " does not fit 32 bits"

  -- `the lengths in v add up to 5000000, and a vector has at most 4194304 elements`
  abbrev pub total_words : Spelled A → List ℕ
  total_words a = codes "the lengths in " ++ a.word ++ codes " add up to " ++ decimal (sum (map unsigned_abs (integers_in a.value)))
      ++ codes ", and a vector has at most 4194304 elements"
