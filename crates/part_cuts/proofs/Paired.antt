-- Places of parts by their places in two other vectors.
use Rattle.std.proofs.Common.{◌≡◌, ◌≢◌, ◌∙◌, ◌+◌, ◌==◌, ◌&&◌, ◌<◌, ℕ, Bool, true, false, not, List, [], ◌∷◌, ◌++◌, length, map, take, get_or, Ok, Err, refl, sym, ap, arith}
use Rattle.std.proofs.lemmas.List.{length-map, map_more}
use Rattle.std.proofs.lemmas.List.Folds.{list_all_more, list_all_at}
use Rattle.std.proofs.lemmas.List.Sums.{AllPass-from_list_all}
use Rattle.std.proofs.lemmas.Slice.Zip.{get_or-zip, length-zip}
use Rattle.std.specs.List.{list_all, zip}
use Rattle.cvl_base.proofs.Elementwise.{if_as_long-fits, if_as_long-misfits}
use Rattle.cvl_base.proofs.Rooms.{differs}
use Rattle.cvl_base.specs.declared.fault.FaultNo.TheVariants as no
use Rattle.cvl_base.specs.Faults.{fault}
use Rattle.cvl_base.specs.Gives.{fault_if}
use Rattle.cvl_base.specs.Rooms.{in_room}
use Rattle.part_cuts.specs.Pairs.{are_places, ends_at, paired_places_of, places_of_pairs}

-- the last of one place more
pub ends_at-push : (len : ℕ) (places : List ℕ) (place : ℕ) → ends_at len (places ++ place ∷ []) ≡ (place == len)
ends_at-push len [] place = refl
ends_at-push len (p ∷ []) place = refl
ends_at-push len (p ∷ q ∷ places) place = ends_at-push len (q ∷ places) place

refused_in : {X : Type 0} (b : Bool) (xs : List X) (room : ℕ) → length xs ≢ room → in_room room (fault_if (not b) (fault no.LengthMismatch) (Ok xs)) ≡ Err (fault no.LengthMismatch)
refused_in true xs room other = differs room xs other
refused_in false xs room other = refl

module _ (has_place : ℕ → ℕ → Bool) (place : ℕ → ℕ → ℕ) (xs ys : List ℕ) where
  pub length-pairs : length xs ≡ length ys → length (places_of_pairs has_place place xs ys) ≡ length ys
  length-pairs long = omega (arith, length-map (zip xs ys) (λ p. place p.0 p.1), length-zip xs ys, long)

  module _ (len : ℕ) where
    pub paired : length xs ≡ length ys → are_places has_place place xs ys len ≡ true → paired_places_of has_place place xs ys len ≡ Ok (places_of_pairs has_place place xs ys)
    paired long are =
        if_as_long-fits xs ys _ long ∙ ap (λ b. fault_if (not b) (fault no.LengthMismatch) (Ok (places_of_pairs has_place place xs ys))) are

    pub unpaired : length xs ≡ length ys → are_places has_place place xs ys len ≡ false → paired_places_of has_place place xs ys len ≡ Err (fault no.LengthMismatch)
    unpaired long are =
        if_as_long-fits xs ys _ long ∙ ap (λ b. fault_if (not b) (fault no.LengthMismatch) (Ok (places_of_pairs has_place place xs ys))) are

    pub misfits : (room : ℕ) → length xs ≢ length ys → in_room room (paired_places_of has_place place xs ys len) ≡ Err (fault no.LengthMismatch)
    misfits room other = ap (in_room room) (if_as_long-misfits xs ys _ other)

    pub crowded : (room : ℕ) → length xs ≡ length ys → length ys ≢ room → in_room room (paired_places_of has_place place xs ys len) ≡ Err (fault no.LengthMismatch)
    crowded room long other =
        ap (in_room room) (if_as_long-fits xs ys _ long)
        ∙ refused_in (are_places has_place place xs ys len) (places_of_pairs has_place place xs ys) room (λ same. other (sym (length-pairs long) ∙ same))

-- a loop over the pairs, at the one with number k
module _ (xs ys : List ℕ) (k : ℕ) (within : k < length xs) (long : length xs ≡ length ys) where
  pub within_pairs : k < length (zip xs ys)
  within_pairs = omega (arith, within, long, length-zip xs ys)

  pub pair_at : get_or (zip xs ys) k (0, 0) ≡ (get_or xs k 0, get_or ys k 0)
  pair_at = get_or-zip xs ys k (0, 0) within (omega (arith, within, long))

  pub all_more : (test : ℕ → ℕ → Bool) → list_all (λ p. test p.0 p.1) (take k (zip xs ys)) ≡ true → test (get_or xs k 0) (get_or ys k 0) ≡ true
      → list_all (λ p. test p.0 p.1) (take (k + 1) (zip xs ys)) ≡ true
  all_more test before here =
      list_all_more (λ p. test p.0 p.1) (zip xs ys) k (0, 0) within_pairs ∙ ap (λ b. b && test (get_or (zip xs ys) k (0, 0)).0 (get_or (zip xs ys) k (0, 0)).1) before
      ∙ ap (λ (p : ℕ × ℕ). test p.0 p.1) pair_at ∙ here

  pub not_all : (test : ℕ → ℕ → Bool) → test (get_or xs k 0) (get_or ys k 0) ≡ false → list_all (λ p. test p.0 p.1) (zip xs ys) ≡ false
  not_all test here = list_all_at (λ p. test p.0 p.1) (zip xs ys) k (0, 0) within_pairs (ap (λ (p : ℕ × ℕ). test p.0 p.1) pair_at ∙ here)

  pub one_of_all : (test : ℕ → ℕ → Bool) → list_all (λ p. test p.0 p.1) (zip xs ys) ≡ true → test (get_or xs k 0) (get_or ys k 0) ≡ true
  one_of_all test all =
      sym (ap (λ (p : ℕ × ℕ). test p.0 p.1) pair_at) ∙ AllPass-from_list_all (λ p. test p.0 p.1) (zip xs ys) all k (0, 0) within_pairs

  pub places_more : (place : ℕ → ℕ → ℕ) → map (λ p. place p.0 p.1) (take (k + 1) (zip xs ys)) ≡ map (λ p. place p.0 p.1) (take k (zip xs ys)) ++ place (get_or xs k 0) (get_or ys k 0) ∷ []
  places_more place =
      map_more (λ p. place p.0 p.1) (zip xs ys) k (0, 0) within_pairs
      ∙ ap (λ (p : ℕ × ℕ). map (λ q. place q.0 q.1) (take k (zip xs ys)) ++ place p.0 p.1 ∷ []) pair_at
