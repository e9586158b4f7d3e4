-- The families of calls that take either type of elements: the value of each call from its arguments, by their places.
-- Source: CVL's calls, in this library's profile.
use Rattle.std.specs.Prelude.{ℕ, List, length, Option, Result, Ok, ℤ, pos}
use Rattle.cvl_base.specs.declared.value.Value.{Value}
use Rattle.cvl_base.specs.declared.value.Value.TheVariants as value
use Rattle.cvl_base.specs.declared.families.Cut.{Cut}
use Rattle.cvl_base.specs.declared.families.Cut.TheVariants.{Flat, Segmented}
use Rattle.cvl_base.specs.declared.families.Form.{Form}
use Rattle.cvl_base.specs.declared.families.Form.TheVariants.{Simple, Back, Select, Default}
use Rattle.cvl_base.specs.declared.fault.Fault.{Fault}
use Rattle.cvl_base.specs.Distributes.{distribute_of}
use Rattle.cvl_base.specs.Elementwise.{choose_of}
use Rattle.cvl_base.specs.Extracts.{extract_of, replace_of}
use Rattle.cvl_base.specs.Folds.{fold_of, scan_of}
use Rattle.cvl_base.specs.Gives.{◌>>=◌}
use Rattle.cvl_base.specs.Packs.{pack_of}
use Rattle.cvl_base.specs.Permutes.{simple_of, back_of, select_of, default_of}
use Rattle.cvl_base.specs.SegmentedCalls.{seg_scan_of, seg_reduce_of, seg_simple_of, seg_back_of, seg_select_of, seg_default_of}
use Rattle.cvl_base.specs.SegmentedCalls.{seg_pack_of, seg_distribute_of, seg_extract_of, seg_replace_of}
use Rattle.bound_names.specs.Arguments.{integers_in, booleans_in, lengths_in, integer_in}
use Rattle.vector_handles.specs.ElementTypes.{ElementType}

-- the value of the argument at each place
abbrev pub ArgumentAt : Type 0 → Type 0
ArgumentAt A = ℕ → Option (Value A)

module _ {A X : Type 0} where
  -- a permute from its source, its index and its defaults; the other arguments are flags and what cuts the vectors
  abbrev permuted_whole : Form → List X → List ℤ → List X → ArgumentAt A → Result (List X) Fault
  permuted_whole Simple source index defaults arg = simple_of source index
  permuted_whole Back source index defaults arg = back_of source index
  permuted_whole Select source index defaults arg = select_of source index (booleans_in (arg 2))
  permuted_whole Default source index defaults arg = default_of source index defaults

  -- the same within segments; the descriptors are the last arguments
  abbrev permuted_by_segments : Form → List X → List ℤ → List X → ArgumentAt A → Result (List X) Fault
  permuted_by_segments Simple source index defaults arg = seg_simple_of source index (lengths_in (arg 2))
  permuted_by_segments Back source index defaults arg = seg_back_of source index (lengths_in (arg 2)) (lengths_in (arg 3))
  permuted_by_segments Select source index defaults arg =
      seg_select_of source index (booleans_in (arg 2)) (lengths_in (arg 3))
  permuted_by_segments Default source index defaults arg =
      seg_default_of source index defaults (lengths_in (arg 3)) (lengths_in (arg 4))

  -- a permute of this form, of the whole or by segments
  abbrev pub permuted : Form → Cut → List X → List ℤ → List X → ArgumentAt A → Result (List X) Fault
  permuted form Flat source index defaults arg = permuted_whole form source index defaults arg
  permuted form Segmented source index defaults arg = permuted_by_segments form source index defaults arg

  -- a pack of a vector; the other arguments are flags and what cuts the vectors
  abbrev pub packed : Cut → List X → ArgumentAt A → Result (List X) Fault
  packed Flat xs arg = pack_of xs (booleans_in (arg 1))
  packed Segmented xs arg = seg_pack_of xs (booleans_in (arg 1)) (lengths_in (arg 2))

module _ {A X : Type 0} (e : ElementType A X) where
  -- the value with one element, and with a vector
  abbrev pub single : Result X Fault → Result (Value A) Fault
  single answer = answer >>= λ x. Ok (e.single x)

  -- a vector as a value
  abbrev pub vector : Result (List X) Fault → Result (Value A) Fault
  vector answer = answer >>= λ xs. Ok (e.vector xs)

  -- a choice by flags between two vectors
  abbrev pub choose_value : ArgumentAt A → Result (Value A) Fault
  choose_value arg = vector (choose_of (booleans_in (arg 0)) (e.vector_in (arg 1)) (e.vector_in (arg 2)))

  -- a scan of the whole or of each segment
  abbrev pub scan_value : (X → X → X) → X → Cut → ArgumentAt A → Result (Value A) Fault
  scan_value join unit Flat arg = vector (Ok (scan_of join unit (e.vector_in (arg 0))))
  scan_value join unit Segmented arg = vector (seg_scan_of join unit (e.vector_in (arg 0)) (lengths_in (arg 1)))

  -- a reduce of the whole or of each segment
  abbrev pub reduce_value : (X → X → X) → X → Cut → ArgumentAt A → Result (Value A) Fault
  reduce_value join unit Flat arg = single (Ok (fold_of join unit (e.vector_in (arg 0))))
  reduce_value join unit Segmented arg = vector (seg_reduce_of join unit (e.vector_in (arg 0)) (lengths_in (arg 1)))

  -- a permute of a vector by its index, over defaults if its form has them
  abbrev pub permute_value : Form → Cut → ArgumentAt A → Result (Value A) Fault
  permute_value form cut arg =
      vector (permuted form cut (e.vector_in (arg 0)) (integers_in (arg 1)) (e.vector_in (arg 2)) arg)

  -- the number of elements of a vector
  abbrev pub length_value : ArgumentAt A → Result (Value A) Fault
  length_value arg = Ok (value.Integer (pos (length (e.vector_in (arg 0)))))

  -- a pack of the whole or of each segment
  abbrev pub pack_value : Cut → ArgumentAt A → Result (Value A) Fault
  pack_value cut arg = vector (packed cut (e.vector_in (arg 0)) arg)

  -- copies of one value, or of one value for each segment
  abbrev pub distribute_value : Cut → ArgumentAt A → Result (Value A) Fault
  distribute_value Flat arg = vector (distribute_of (e.single_in (arg 0)) (integer_in (arg 1)))
  distribute_value Segmented arg = vector (seg_distribute_of (e.vector_in (arg 0)) (lengths_in (arg 1)))

  -- one element of a vector, or of each segment
  abbrev pub extract_value : Cut → ArgumentAt A → Result (Value A) Fault
  extract_value Flat arg = single (extract_of (e.vector_in (arg 0)) (integer_in (arg 1)))
  extract_value Segmented arg =
      vector (seg_extract_of (e.vector_in (arg 0)) (integers_in (arg 1)) (lengths_in (arg 2)))

  -- a vector with one element replaced, or one of each segment
  abbrev pub replace_value : Cut → ArgumentAt A → Result (Value A) Fault
  replace_value Flat arg = vector (replace_of (e.vector_in (arg 0)) (integer_in (arg 1)) (e.single_in (arg 2)))
  replace_value Segmented arg =
      vector (seg_replace_of (e.vector_in (arg 0)) (integers_in (arg 1)) (e.vector_in (arg 2)) (lengths_in (arg 3)))
