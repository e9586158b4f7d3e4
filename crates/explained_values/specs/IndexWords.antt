-- What an index points into, and the earlier index that is the same.
-- Source: CVL's permutes, extract and replace, in this library's profile.
use Rattle.std.specs.Prelude.{ℕ, ℤ, Bool, true, false, ◌+◌, ◌++◌, ◌&&◌, List, [], codes, drop, position, take, slice_index, if◌then◌else◌}
use Rattle.std.specs.Prelude.{Option, Some, None, option_and_then, option_map}
use Rattle.std.specs.Option.{option_map_or}
use Rattle.std.specs.List.{zip}
use Rattle.std.specs.Ordering.{int_eq}
use Rattle.cvl_base.specs.declared.families.Form.TheVariants.{Simple, Back, Select, Default}
use Rattle.cvl_base.specs.declared.operation.Op.{Op}
use Rattle.cvl_base.specs.declared.operation.Op.TheVariants as op
use Rattle.cvl_base.specs.Packs.{count_of}
use Rattle.bound_names.specs.Arguments.{booleans_in, integers_in, lengths_in}
use Rattle.explained_calls.specs.Sentences.{counted}
use Rattle.explained_values.specs.declared.index_words.Target.{Target}
use Rattle.explained_values.specs.Arguments.{Spelled, spelled_at, element_name, elements_in, integer_at}
use Rattle.explained_values.specs.Segments.{part_words, places_of, segment_at, segment_in, start_at}

-- what an index points into: the argument at the first place, cut by the descriptor at the second; all of its elements, or only its true
-- flags
abbrev target : ℕ → ℕ → Bool → Target
target vector descriptor true_ones = record { vector = vector; descriptor = descriptor; true_ones = true_ones }

-- what the index of each call points into: the elements of a vector, or its true flags, by the places of the arguments; the descriptor has
-- the vector's segments
abbrev pub target_of : Op → Target
target_of (op.Permute Simple cut e) = target 0 2 false
target_of (op.Permute Back cut e) = target 0 2 false
target_of (op.Permute Select cut e) = target 2 3 true
target_of (op.Permute Default cut e) = target 2 4 false
target_of (op.Replace cut e) = target 0 3 false
target_of _ = target 0 2 false

module _ {A : Type 0} where
  -- how many elements, or true flags, there are in the vector or in a segment of it
  abbrev pub amount_in : Target → Option ℕ → Spelled A → List ℕ → ℕ
  amount_in target None vector lengths = if target.true_ones then count_of (booleans_in vector.value) else elements_in vector.value
  amount_in target (Some segment) vector lengths =
      if target.true_ones then count_of (segment_in lengths segment (booleans_in vector.value)) else slice_index lengths segment

  -- `v has 8 elements`, `segment 1 of flags has 1 true flag`
  abbrev pub places_words : Op → List (Spelled A) → ℕ → List ℕ
  places_words op args place =
      let target = target_of op in
      let segment = segment_at (places_of op) args place in
      let vector = spelled_at args target.vector in
      let lengths = lengths_in (spelled_at args target.descriptor).value in
      part_words segment vector.word ++ codes " has "
      ++ counted (amount_in target segment vector lengths) (if target.true_ones then codes "true flag" else codes "element")

-- whether a permute takes places by flags
abbrev pub has_flags : Op → Bool
has_flags (op.Permute Select cut e) = true
has_flags _ = false

-- how far after the start the first place before another has this index
abbrev pub same_before : List ℤ → ℕ → ℕ → ℤ → Option ℕ
same_before index start place i = position (λ j. int_eq j i) (drop start (take place index))

-- the same among places whose flag is true
abbrev pub same_flagged_before : List ℤ → List Bool → ℕ → ℕ → ℤ → Option ℕ
same_flagged_before index flags start place i =
    position (λ p. p.1 && int_eq p.0 i) (drop start (take place (zip index flags)))

-- `, which index[1] sent to before`
abbrev pub sender_words : List ℕ → ℕ → List ℕ
sender_words index first = codes ", which " ++ element_name index first ++ codes " sent to before"

module _ {A : Type 0} where
  -- the first place of the same segment, before this one, with this index
  abbrev pub first_sender : Op → List (Spelled A) → ℕ → ℤ → Option ℕ
  first_sender op args place i =
      let index = integers_in (spelled_at args 1).value in
      let start = start_at (places_of op) args place in
      option_map (λ k. start + k)
      (if has_flags op then same_flagged_before index (booleans_in (spelled_at args 2).value) start place i
      else same_before index start place i)

  -- the first place that has the same index as this one
  abbrev pub first_place : Op → List (Spelled A) → ℕ → Option ℕ
  first_place op args place = option_and_then (first_sender op args place) (integer_at (spelled_at args 1).value place)

  -- which earlier index is the same
  abbrev pub repeated_words : Op → List (Spelled A) → ℕ → List ℕ
  repeated_words op args place = option_map_or (sender_words (spelled_at args 1).word) (first_place op args place) []
