-- The segmented calls of the table, each by its flat call.
-- Source: CVL's segmented operations.
use Rattle.std.specs.Prelude.{ℕ, ℤ, pos, Bool, List, map, Result, Ok}
use Rattle.cvl_base.specs.declared.fault.Fault.{Fault}
use Rattle.cvl_base.specs.Distributes.{distribute_within, index_within}
use Rattle.cvl_base.specs.Extracts.{extract_of, replace_of}
use Rattle.cvl_base.specs.Gives.{◌>>=◌}
use Rattle.cvl_base.specs.Limits.{most_elements}
use Rattle.operators.specs.Folds.{fold_of, scan_of}
use Rattle.cvl_base.specs.Nests.{nest}
use Rattle.cvl_base.specs.Packs.{count_of, pack_of}
use Rattle.cvl_base.specs.Permutes.{simple_of, back_of, select_of, default_of}
use Rattle.cvl_base.specs.Segmented.{beside, of_two, of_three, in_vector, at_segment, one_each, end_to_end}

-- ---- scans and reduces

-- a scan of each segment
abbrev pub seg_scan_of : {Item : Type 0} → (Item → Item → Item) → Item → List Item → List ℕ → Result (List Item) Fault
seg_scan_of join unit xs lengths = end_to_end (in_vector lengths) (λ ys. Ok (scan_of join unit ys)) (nest lengths xs)

-- a reduce of each segment, one value a segment
abbrev pub seg_reduce_of : {Item : Type 0} → (Item → Item → Item) → Item → List Item → List ℕ → Result (List Item) Fault
seg_reduce_of join unit xs lengths = one_each (in_vector lengths) (λ ys. Ok (fold_of join unit ys)) (nest lengths xs)

-- ---- permutes; a fault has its place in the index

-- a simple permute of each segment
abbrev pub seg_simple_of : {X : Type 0} → List X → List ℤ → List ℕ → Result (List X) Fault
seg_simple_of source index lengths =
    end_to_end (in_vector lengths) (of_two simple_of) (beside (nest lengths source) (nest lengths index))

-- a back permute of each segment; the sources' segments may have other lengths than the indices'
abbrev pub seg_back_of : {X : Type 0} → List X → List ℤ → List ℕ → List ℕ → Result (List X) Fault
seg_back_of source index source_lengths index_lengths =
    end_to_end (in_vector index_lengths) (of_two back_of) (beside (nest source_lengths source) (nest index_lengths index))

-- a select permute of each segment
abbrev pub seg_select_of : {X : Type 0} → List X → List ℤ → List Bool → List ℕ → Result (List X) Fault
seg_select_of source index flags lengths =
    end_to_end (in_vector lengths) (of_three select_of) (beside (beside (nest lengths source) (nest lengths index)) (nest lengths flags))

-- a default permute of each segment, over the defaults of that segment
abbrev pub seg_default_of : {X : Type 0} → List X → List ℤ → List X → List ℕ → List ℕ → Result (List X) Fault
seg_default_of source index defaults source_lengths default_lengths =
    end_to_end (in_vector source_lengths) (of_three default_of)
    (beside (beside (nest source_lengths source) (nest source_lengths index)) (nest default_lengths defaults))

-- ---- pack and count

-- they are also the lengths of what a segmented pack keeps, or a segmented select permute
abbrev pub seg_count_of : List Bool → List ℕ → Result (List ℕ) Fault
seg_count_of flags lengths = one_each (in_vector lengths) (λ fs. Ok (count_of fs)) (nest lengths flags)

-- the same as integers
abbrev pub counts_of : List Bool → List ℕ → Result (List ℤ) Fault
counts_of flags lengths = seg_count_of flags lengths >>= λ counts. Ok (map pos counts)

-- a pack of each segment
abbrev pub seg_pack_of : {X : Type 0} → List X → List Bool → List ℕ → Result (List X) Fault
seg_pack_of xs flags lengths = end_to_end (in_vector lengths) (of_two pack_of) (beside (nest lengths xs) (nest lengths flags))

-- ---- distribute and index: the count of a segment is its length

-- a value for each segment, as often as the segment is long, with a limit on the total
abbrev pub seg_distribute_within : {X : Type 0} → ℕ → List X → List ℕ → Result (List X) Fault
seg_distribute_within most values lengths =
    end_to_end (in_vector lengths) (of_two (λ value n. distribute_within most value (pos n))) (beside (Ok values) (Ok lengths))

-- an arithmetic progression for each segment, with a limit on the total
abbrev pub seg_index_within : ℕ → List ℤ → List ℤ → List ℕ → Result (List ℤ) Fault
seg_index_within most inits strides lengths =
    end_to_end (in_vector lengths) (of_three (λ init stride n. index_within most init stride (pos n)))
    (beside (beside (Ok inits) (Ok strides)) (Ok lengths))

-- the same with the limit of scripts and sessions
abbrev pub seg_distribute_of : {X : Type 0} → List X → List ℕ → Result (List X) Fault
seg_distribute_of = seg_distribute_within most_elements

-- the same with the limit of scripts
abbrev pub seg_index_of : List ℤ → List ℤ → List ℕ → Result (List ℤ) Fault
seg_index_of = seg_index_within most_elements

-- ---- extract and replace: one index for each segment, and a fault has the segment's number

-- one element of each segment, at an index that counts from its start
abbrev pub seg_extract_of : {X : Type 0} → List X → List ℤ → List ℕ → Result (List X) Fault
seg_extract_of xs index lengths = one_each at_segment (of_two extract_of) (beside (nest lengths xs) (Ok index))

-- one element of each segment replaced, at an index that counts from its start
abbrev pub seg_replace_of : {X : Type 0} → List X → List ℤ → List X → List ℕ → Result (List X) Fault
seg_replace_of xs index values lengths =
    end_to_end at_segment (of_three replace_of) (beside (beside (nest lengths xs) (Ok index)) (Ok values))
