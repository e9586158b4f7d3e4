-- Permutes of integers on the segments, and replaces on segments that are named.
-- Source: CVL's segmented permutes and replace.
use Prim.Native.String.{String}
use Rattle.std.specs.Prelude.{ℤ, List, Result}
use Rattle.cvl_base.specs.declared.fault.Fault.{Fault}
use Rattle.cvl_base.specs.SegmentedCalls.{seg_back_of, seg_default_of, seg_replace_of, seg_select_of}
use Rattle.worked_values.specs.Written.{bools, ints, lengths, segments}

-- the segments of the index have 3, 0 and 1 elements
abbrev pub seg_back : String → String → Result (List ℤ) Fault
seg_back source index = seg_back_of (ints source) (ints index) segments (lengths "3 0 1")

-- a select permute by the segments 2, 0 and 3, from its text
abbrev pub seg_select : String → String → String → Result (List ℤ) Fault
seg_select source index flags = seg_select_of (ints source) (ints index) (bools flags) segments

-- the segments of the defaults have 3, 1 and 3 elements
abbrev pub seg_default : String → String → String → Result (List ℤ) Fault
seg_default source index defaults = seg_default_of (ints source) (ints index) (ints defaults) segments (lengths "3 1 3")

-- a replace in each segment, from its text
abbrev pub seg_replace : String → String → String → String → Result (List ℤ) Fault
seg_replace vector index values cut = seg_replace_of (ints vector) (ints index) (ints values) (lengths cut)
