-- What it means to be a permute of a source, place by place.
-- Source: CVL's permute, d[i[k]] = s[k], and back permute, d[k] = s[i[k]].
use Rattle.std.specs.Prelude.{◌≡◌, ◌≢◌, ℕ, ◌<◌, ℤ, pos, Bool, true, IsTrue, List, length, slice_get, Option, Some}
use Rattle.cvl_base.specs.Extracts.{element_at}
use Rattle.cvl_base.specs.Packs.{count_of}
use Rattle.cvl_base.specs.Permutes.{is_place}

-- each element goes to its index, and no two go to the same place
pub record IsSimplePermute {X : Type 0} (source : List X) (index : List ℤ) (result : List X) : Type 0 where
  pub one_index_each : length source ≡ length index
  pub as_long : length result ≡ length index
  pub within : (k : ℕ) (i : ℤ) → slice_get index k ≡ Some i → IsTrue (is_place (length index) i)
  pub once : (j k : ℕ) (i : ℤ) → slice_get index j ≡ Some i → slice_get index k ≡ Some i → j ≡ k
  pub sent : (k d : ℕ) → slice_get index k ≡ Some (pos d) → slice_get result d ≡ slice_get source k

-- the same for only the places whose flag is true, which are as many as the result has places
pub record IsSelectPermute {X : Type 0} (source : List X) (index : List ℤ) (flags : List Bool) (result : List X) : Type 0 where
  pub one_index_each : length source ≡ length index
  pub one_flag_each : length index ≡ length flags
  pub as_long : length result ≡ count_of flags
  pub within : (k : ℕ) (i : ℤ) → slice_get flags k ≡ Some true → slice_get index k ≡ Some i
      → IsTrue (is_place (count_of flags) i)
  pub once : (j k : ℕ) (i : ℤ) → slice_get flags j ≡ Some true → slice_get flags k ≡ Some true → slice_get index j ≡ Some i
      → slice_get index k ≡ Some i → j ≡ k
  pub sent : (k d : ℕ) → slice_get flags k ≡ Some true → slice_get index k ≡ Some (pos d)
      → slice_get result d ≡ slice_get source k

-- each element goes to its index, and a place that gets none keeps its default
pub record IsDefaultPermute {X : Type 0} (source : List X) (index : List ℤ) (defaults result : List X) : Type 0 where
  pub one_index_each : length source ≡ length index
  pub as_long : length result ≡ length defaults
  pub within : (k : ℕ) (i : ℤ) → slice_get index k ≡ Some i → IsTrue (is_place (length defaults) i)
  pub once : (j k : ℕ) (i : ℤ) → slice_get index j ≡ Some i → slice_get index k ≡ Some i → j ≡ k
  pub sent : (k d : ℕ) → slice_get index k ≡ Some (pos d) → slice_get result d ≡ slice_get source k
  pub kept : (d : ℕ) → ((k : ℕ) → slice_get index k ≢ Some (pos d)) → slice_get result d ≡ slice_get defaults d

-- each place has the source's element at its index; that there is one follows, since the result is as long as the index
pub record IsBackPermute {X : Type 0} (source : List X) (index : List ℤ) (result : List X) : Type 0 where
  pub as_long : length result ≡ length index
  pub taken : (k : ℕ) (i : ℤ) → slice_get index k ≡ Some i → slice_get result k ≡ element_at source i

-- no place before k is bad: each that takes part has its destination in the result, and no two have the same
pub record IsGoodBefore (m : ℕ) (destinations : List (Option ℤ)) (k : ℕ) : Type 0 where
  pub within : (j : ℕ) (i : ℤ) → j < k → slice_get destinations j ≡ Some (Some i) → IsTrue (is_place m i)
  pub once : (h j : ℕ) (i : ℤ) → h < j → j < k → slice_get destinations h ≡ Some (Some i)
      → slice_get destinations j ≢ Some (Some i)

-- the indices before place k are places of a result of m elements
abbrev pub AreWithin : ℕ → List ℤ → ℕ → Type 0
AreWithin m index k = (j : ℕ) (i : ℤ) → j < k → slice_get index j ≡ Some i → IsTrue (is_place m i)

-- no two of the indices before place k are the same
abbrev pub AreOnce : List ℤ → ℕ → Type 0
AreOnce index k = (h j : ℕ) (i : ℤ) → h < j → j < k → slice_get index h ≡ Some i → slice_get index j ≢ Some i

-- the same for only those indices whose flag is true
abbrev pub AreWithinFlagged : ℕ → List ℤ → List Bool → ℕ → Type 0
AreWithinFlagged m index flags k =
    (j : ℕ) (i : ℤ) → j < k → slice_get flags j ≡ Some true → slice_get index j ≡ Some i → IsTrue (is_place m i)

-- no two places before k with a true flag have the same index
abbrev pub AreOnceFlagged : List ℤ → List Bool → ℕ → Type 0
AreOnceFlagged index flags k =
    (h j : ℕ) (i : ℤ) → h < j → j < k → slice_get flags h ≡ Some true → slice_get flags j ≡ Some true →
    slice_get index h ≡ Some i → slice_get index j ≢ Some i
