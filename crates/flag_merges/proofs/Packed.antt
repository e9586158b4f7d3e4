-- A merge and two packs: each undoes the other.
use Rattle.std.proofs.Common.{◌≡◌, ◌∙◌, Bool, true, false, not, List, [], ◌∷◌, length, map, zip, refl, sym, ap, arith, Ok}
use Rattle.std.specs.List.{filter}
use Rattle.std.proofs.lemmas.List.{length-map}
use Rattle.cvl_base.specs.declared.fault.FaultNo.TheVariants.{LengthMismatch}
use Rattle.cvl_base.specs.Faults.{fault}
use Rattle.cvl_base.specs.Gives.{fault_if}
use Rattle.cvl_base.specs.Packs.{count_of, pack_of}
use Rattle.cvl_base.proofs.Elementwise.{if_as_long-fits}
use Rattle.cvl_base.proofs.Packs.{count-cons}
use Rattle.flag_merges.specs.Merges.{are_counts, merge_of, merged}
use Rattle.flag_merges.proofs.Counted.{are_fitting, falses_fit, merge_right, merged_long, trues_fit}
use Rattle.std.proofs.lemmas.Bool.{eqb-true}
use Rattle.std.proofs.Common.{eqb}

module _ {X : Type 0} where
  abbrev kept : List X → List Bool → List X
  kept zs flags = map (λ p. p.0) (filter (λ p. p.1) (zip zs flags))

  -- ---- the packs of a merge

  trues_kept : (flags : List Bool) (xs ys : List X) → count_of flags ≡ length xs → count_of (map not flags) ≡ length ys → kept (merged flags xs ys) flags ≡ xs
  trues_kept [] [] ys t f = refl
  trues_kept [] (x ∷ xs) ys t f = absurd (omega (arith, t))
  trues_kept (true ∷ flags) [] ys t f = absurd (omega (arith, t, count-cons true flags))
  trues_kept (true ∷ flags) (x ∷ xs) ys t f = ap (λ zs. x ∷ zs) (trues_kept flags xs ys (omega (arith, t, count-cons true flags)) (omega (arith, f, count-cons false (map not flags))))
  trues_kept (false ∷ flags) xs [] t f = absurd (omega (arith, f, count-cons true (map not flags)))
  trues_kept (false ∷ flags) xs (y ∷ ys) t f = trues_kept flags xs ys (omega (arith, t, count-cons false flags)) (omega (arith, f, count-cons true (map not flags)))

  falses_kept : (flags : List Bool) (xs ys : List X) → count_of flags ≡ length xs → count_of (map not flags) ≡ length ys → kept (merged flags xs ys) (map not flags) ≡ ys
  falses_kept [] xs [] t f = refl
  falses_kept [] xs (y ∷ ys) t f = absurd (omega (arith, f))
  falses_kept (true ∷ flags) [] ys t f = absurd (omega (arith, t, count-cons true flags))
  falses_kept (true ∷ flags) (x ∷ xs) ys t f = falses_kept flags xs ys (omega (arith, t, count-cons true flags)) (omega (arith, f, count-cons false (map not flags)))
  falses_kept (false ∷ flags) xs [] t f = absurd (omega (arith, f, count-cons true (map not flags)))
  falses_kept (false ∷ flags) xs (y ∷ ys) t f = ap (λ zs. y ∷ zs) (falses_kept flags xs ys (omega (arith, t, count-cons false flags)) (omega (arith, f, count-cons true (map not flags))))

  from_merge : (b : Bool) (flags : List Bool) (xs ys zs : List X) → are_counts flags (length xs) (length ys) ≡ b → fault_if (not b) (fault LengthMismatch) (Ok (merged flags xs ys)) ≡ Ok zs
      → (b ≡ true) × (merged flags xs ys ≡ zs)
  from_merge true flags xs ys zs is gives = let same : merged flags xs ys ≡ zs = cc in (refl, same)
  from_merge false flags xs ys zs is gives = absurd (cc)

  pub packs_back : (flags : List Bool) (xs ys zs : List X) → merge_of flags xs ys ≡ Ok zs → (pack_of zs flags ≡ Ok xs) × (pack_of zs (map not flags) ≡ Ok ys)
  packs_back flags xs ys zs gives =
      let told = from_merge (are_counts flags (length xs) (length ys)) flags xs ys zs refl gives in
      let t = trues_fit flags (length xs) (length ys) told.0 in
      let f = falses_fit flags (length xs) (length ys) told.0 in
      let long = merged_long flags xs ys t f in (
        ap (λ us. pack_of us flags) (sym told.1) ∙ if_as_long-fits (merged flags xs ys) flags (Ok (kept (merged flags xs ys) flags)) long ∙ ap Ok (trues_kept flags xs ys t f),
        ap (λ us. pack_of us (map not flags)) (sym told.1)
            ∙ if_as_long-fits (merged flags xs ys) (map not flags) (Ok (kept (merged flags xs ys) (map not flags))) (long ∙ sym (length-map flags not)) ∙ ap Ok (falses_kept flags xs ys t f),
      )

  -- ---- the merge of two packs

  trues_long : (flags : List Bool) (zs : List X) → length zs ≡ length flags → count_of flags ≡ length (kept zs flags)
  trues_long [] [] same = refl
  trues_long [] (z ∷ zs) same = absurd (omega (arith, same))
  trues_long (flag ∷ flags) [] same = absurd (omega (arith, same))
  trues_long (true ∷ flags) (z ∷ zs) same = omega (arith, count-cons true flags, trues_long flags zs (omega (arith, same)))
  trues_long (false ∷ flags) (z ∷ zs) same = omega (arith, count-cons false flags, trues_long flags zs (omega (arith, same)))

  both_merged : (flags : List Bool) (zs : List X) → length zs ≡ length flags → merged flags (kept zs flags) (kept zs (map not flags)) ≡ zs
  both_merged [] [] same = refl
  both_merged [] (z ∷ zs) same = absurd (omega (arith, same))
  both_merged (flag ∷ flags) [] same = absurd (omega (arith, same))
  both_merged (true ∷ flags) (z ∷ zs) same = ap (λ us. z ∷ us) (both_merged flags zs (omega (arith, same)))
  both_merged (false ∷ flags) (z ∷ zs) same = ap (λ us. z ∷ us) (both_merged flags zs (omega (arith, same)))

  from_pack : (b : Bool) (flags : List Bool) (xs zs : List X) → fault_if (not b) (fault LengthMismatch) (Ok (kept zs flags)) ≡ Ok xs → (b ≡ true) × (kept zs flags ≡ xs)
  from_pack true flags xs zs gives = let same : kept zs flags ≡ xs = cc in (refl, same)
  from_pack false flags xs zs gives = absurd (cc)

  pub merges_back : (flags : List Bool) (xs ys zs : List X) → pack_of zs flags ≡ Ok xs → pack_of zs (map not flags) ≡ Ok ys → merge_of flags xs ys ≡ Ok zs
  merges_back flags xs ys zs first second =
      let trues = from_pack (eqb (length zs) (length flags)) flags xs zs first in
      let falses = from_pack (eqb (length zs) (length (map not flags))) (map not flags) ys zs second in
      let same = eqb-true (length zs) (length flags) trues.0 in
      let t : count_of flags ≡ length xs = trues_long flags zs same ∙ ap length trues.1 in
      let f : count_of (map not flags) ≡ length ys = trues_long (map not flags) zs (same ∙ sym (length-map flags not)) ∙ ap length falses.1 in
      merge_right (fault LengthMismatch) flags xs ys (are_fitting flags (length xs) (length ys) t f)
      ∙ ap Ok ((λ i. merged flags (sym trues.1 i) (sym falses.1 i)) ∙ both_merged flags zs same)
