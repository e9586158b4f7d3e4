-- The script of line of sight binds `v` to the visible places: a slope is above the greatest before it where it is above
-- each of them.
use Rattle.std.proofs.Common.{◌≡◌, refl, sym, ap, ◌∙◌, ℕ, zero, suc, ◌-◌, ◌<◌, ◌≤◌, Bool, true, false, List, [], ◌∷◌, length, map, codes, ℤ}
use Rattle.std.proofs.Common.{pos, negsuc, ◌-ℤ◌, ◌*ℤ◌, Some, Ok, Err, Result, slice_get, arith}
use Rattle.std.specs.Prelude.{int_lt, ◌<ℤ◌, ◌&&◌, not, unwrap_or, unsigned_abs}
use Rattle.std.specs.Int.{is_negative}
use Rattle.std.specs.List.{list_all, range_with_len, AllPass}
use Rattle.std.proofs.lemmas.Bool.{false≢true, le-ltb, ltb-true}
use Rattle.std.proofs.lemmas.Int.{ints}
use Rattle.std.proofs.lemmas.List.Folds.{list_all-map}
use Rattle.std.proofs.lemmas.Option.{unwrap_or-slice_get}
use Rattle.cvl_base.specs.declared.fault.FaultNo.TheVariants.{IndexOutOfRange}
use Rattle.cvl_base.specs.declared.refused.Refused.{Refused}
use Rattle.cvl_base.specs.declared.value.Value.TheVariants as value
use Rattle.cvl_base.specs.Faults.{fault_at}
use Rattle.cvl_base.specs.Gives.{◌>>=◌, Gives}
use Rattle.cvl_base.specs.Integers.{IsFloor}
use Rattle.cvl_base.specs.Limits.{most_elements}
use Rattle.vector_handles.specs.declared.input.Input.TheVariants as input
use Rattle.vector_handles.specs.Names.{Entries, value_at}
use Rattle.recipes.specs.declared.scripts.TheConstants.{LINE_OF_SIGHT}
use Rattle.recipes.specs.Recipes.{GivesBound, HasBooleans, bound_by, names_bound}
use Rattle.recipes.specs.Visibility.{AreExact, is_altitude, is_steeper, is_visible, visible_of, rise}
use Rattle.recipes.proofs.Answered.{is_answer}
use Rattle.recipes.proofs.Calls.{one_value}
use Rattle.recipes.proofs.Fractions.{floors_as_fractions}
use Rattle.recipes.proofs.Greatest.{greatest_less, less_true}
use Rattle.recipes.proofs.SightScript.{least, run}
use Rattle.recipes.proofs.SightValues.{bound, flags, height, seen, slope_at, slopes}
use Rattle.recipes.proofs.Slopes.{slope_is_floor}
use Rattle.recipes.proofs.Tables.{after_first, same_map, same_tests, table}

-- ---- altitudes

altitude_at : (a : List ℤ) (k : ℕ) → AllPass is_altitude a → k < length a → is_altitude (unwrap_or (slice_get a k) (pos 0)) ≡ true
altitude_at a k low below = ap is_altitude (unwrap_or-slice_get a k (pos 0)) ∙ low k (pos 0) below

altitude_is : (z : ℤ) → is_altitude z ≡ true → (h : ℕ) × (z ≡ pos h) × (h < 32768)
altitude_is (pos h) is =
    let positive : is_negative (pos h) ≡ false = le-ltb h 0 (omega arith) in
    (h, refl, ltb-true h 32768 (sym (ap (λ b. not b && int_lt (pos h) (pos 32768)) positive) ∙ is))
altitude_is (negsuc h) is = absurd (false≢true is)

rise_low : (x y : ℤ) → is_altitude x ≡ true → is_altitude y ≡ true → unsigned_abs (x -ℤ y) ≤ 32767
rise_low x y p q =
    let u = altitude_is x p in
    let v = altitude_is y q in
    let x_is : x ≡ pos u.0 = u.1 in
    let y_is : y ≡ pos v.0 = v.1 in
    omega (arith, ints, u.2, v.2)

module _ (a : List ℤ) (exact : AreExact a) where
  low_rise : (k : ℕ) → k < length a → unsigned_abs (rise a k) ≤ 32767
  low_rise k below =
      rise_low (height a k) (height a 0) (altitude_at a k exact.low below)
      (altitude_at a 0 exact.low (omega (arith, exact.some)))

  floor_at : (k : ℕ) → 1 ≤ k → k < length a → IsFloor (rise a k *ℤ pos 65536) k (slope_at a k) × (least <ℤ slope_at a k)
  floor_at k some below = slope_is_floor (height a k) (height a 0) k (low_rise k below) some (omega (arith, exact.few))

  steeper : (i j : ℕ) → 1 ≤ i → i < length a → 1 ≤ j → j < length a → int_lt (slopes a j) (slope_at a i) ≡ is_steeper a i j
  steeper i j i_some i_below j_some j_below =
      ap (λ s. int_lt s (slope_at a i)) (sym (after_first least (slope_at a) j j_some))
      ∙ floors_as_fractions (rise a i) (rise a j) (slope_at a i) (slope_at a j) i j
      (floor_at i i_some i_below).0 (floor_at j j_some j_below).0
      (omega (arith, exact.few)) (omega (arith, exact.few))

  flag_is : (k : ℕ) → k < length a → flags a k ≡ is_visible a k
  flag_is zero below = refl
  flag_is (suc k) below =
      let y = slope_at a (suc k) in
      let above : int_lt least y ≡ true = less_true least y (floor_at (suc k) (omega arith) below).1 in
      let before : suc k - 1 ≡ k = omega arith in
      greatest_less least y (table (slopes a) (suc k))
      ∙ (λ i. above i && (above i && list_all (λ x. int_lt x y) (map (slopes a) (range_with_len 1 k))))
      ∙ list_all-map (λ x. int_lt x y) (slopes a) (range_with_len 1 k)
      ∙ same_tests (λ j. int_lt (slopes a j) y) (is_steeper a (suc k)) 1 k (λ j j_some j_below. steeper (suc k) j (omega arith) below j_some (omega arith))
      ∙ ap (λ m. list_all (is_steeper a (suc k)) (range_with_len 1 m)) (sym before)

  flags_are : table (flags a) (length a) ≡ visible_of a
  flags_are = same_map (flags a) (is_visible a) 0 (length a) (λ k _ below. flag_is k (omega arith))

-- ---- what the script binds

module _ (A : Type 0) where
  -- what the run of the script answers is whether each place is visible
  pub sight_given : (a : List ℤ) → AreExact a → {X : Type 0} (view : X → List Bool) (answer : Result X Refused)
      → GivesBound {A = A} (λ v. value.Booleans (view v)) answer LINE_OF_SIGHT.now (input.Vector a ∷ []) (codes "v") → Gives view answer (Ok (visible_of a))
  sight_given a exact view answer gives =
      is_answer (λ (bs : List Bool). value.Booleans bs) view answer (bound_by LINE_OF_SIGHT.now (input.Vector a ∷ []) (codes "v")) (visible_of a) (λ b c same. cc) gives
      (ap (λ r. r >>= λ names. Ok (value_at names (codes "v"))) (seen a exact.some (omega (arith, exact.few))) ∙ ap (λ bs. Ok (Some (value.Booleans bs))) (flags_are a exact))

  -- no altitude is at fault
  pub binds_booleans : (a : List ℤ) → length a ≤ most_elements → (names : Entries A) → names_bound LINE_OF_SIGHT.now (input.Vector a ∷ []) ≡ Ok names → HasBooleans names (codes "v")
  binds_booleans [] few names is = let none : names_bound {A = A} LINE_OF_SIGHT.now (input.Vector [] ∷ []) ≡ Err (fault_at IndexOutOfRange 0) = run (input.Vector [] ∷ []) in cc
  binds_booleans (h ∷ hs) few names is =
      let all = one_value (bound (h ∷ hs) 20) names (sym (seen (h ∷ hs) (omega arith) few) ∙ is) in
      (table (flags (h ∷ hs)) (length (h ∷ hs)), sym (ap (λ ns. value_at ns (codes "v")) all))
