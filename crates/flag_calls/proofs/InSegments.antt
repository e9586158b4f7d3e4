-- How many bytes of each segment are true.
-- Source: what the definitions of nests and map imply.
use Rattle.std.proofs.Common.{◌≡◌, ◌∙◌, ℕ, List, [], ◌∷◌, length, map, drop, refl, Ok, arith}
use Rattle.std.specs.Prelude.{sum}
use Rattle.std.proofs.lemmas.List.{drop-map, length-map, take-map}
use Rattle.std.proofs.lemmas.Simd.{map-map}
use Rattle.cvl_base.specs.Nests.{cut_of}
use Rattle.cvl_base.specs.Packs.{count_of}
use Rattle.cvl_base.specs.Segmented.{in_vector}
use Rattle.cvl_base.specs.SegmentedCalls.{counts_of}
use Rattle.cvl_base.proofs.Nests.{length-cut, nest-fits}
use Rattle.cvl_base.proofs.Segmented.{results-ok}
use Rattle.flag_calls.specs.Flags.{count_in, flag_of, flags_of}

cut_flags : (lengths bytes : List ℕ) → cut_of lengths (flags_of bytes) ≡ map flags_of (cut_of lengths bytes)
cut_flags [] bytes = refl
cut_flags (n ∷ lengths) bytes = rw (take-map flag_of n bytes, drop-map flag_of n bytes, cut_flags lengths (drop n bytes))

module _ (lengths bytes : List ℕ) where
  pub counts_long : length (map count_in (cut_of lengths bytes)) ≡ length lengths
  counts_long = length-map (cut_of lengths bytes) count_in ∙ length-cut lengths bytes

  pub counts_fit : sum lengths ≡ length bytes → counts_of (flags_of bytes) lengths ≡ Ok (map count_in (cut_of lengths bytes))
  counts_fit fits =
      rw (nest-fits lengths (flags_of bytes) (omega (arith, fits, length-map bytes flag_of)), results-ok (in_vector lengths) count_of 0 (cut_of lengths (flags_of bytes)), cut_flags lengths bytes)
      (simp map-map)
