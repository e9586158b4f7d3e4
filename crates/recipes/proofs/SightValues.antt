-- The values of the calls of line of sight, element by element, and that its script binds them.
use Rattle.std.proofs.Common.{◌≡◌, refl, sym, ap, ◌∙◌, ℕ, suc, ◌≤◌, Bool, true, List, [], ◌∷◌, codes, drop, map, take, length, ℤ, pos, ◌+ℤ◌, ◌*ℤ◌, Ok, Result, Some, slice_get}
use Rattle.std.specs.Prelude.{ok_or, unwrap_or}
use Rattle.std.specs.List.{fold, range_with_len, slice_index_or}
use Rattle.std.proofs.lemmas.List.FromFn.{fill_by_all}
use Rattle.std.proofs.lemmas.Option.{slice_get-get_or, unwrap_or-slice_get}
use Rattle.std.proofs.lemmas.Simd.{map-map}
use Rattle.cvl_base.specs.declared.families.Comparison.TheVariants as compare
use Rattle.cvl_base.specs.declared.families.IntBinary.TheVariants as int
use Rattle.cvl_base.specs.declared.fault.Fault.{Fault}
use Rattle.cvl_base.specs.declared.fault.FaultNo.TheVariants as no
use Rattle.cvl_base.specs.declared.value.Value.{Value}
use Rattle.cvl_base.specs.declared.value.Value.TheVariants as value
use Rattle.cvl_base.specs.Conversions.{integer_of}
use Rattle.cvl_base.specs.Elementwise.{ints2_of, compare_of}
use Rattle.cvl_base.specs.Faults.{fault_at}
use Rattle.cvl_base.specs.Folds.{fold_of, scan_of}
use Rattle.cvl_base.specs.Integers.{difference_of, product_of, greater_of, is_less, is_greater, quotient_of, remainder_of, wrap}
use Rattle.cvl_base.specs.Limits.{most_elements}
use Rattle.vector_handles.specs.declared.input.Input.TheVariants as input
use Rattle.vector_handles.specs.Names.{Entries, bind}
use Rattle.recipes.specs.declared.scripts.TheConstants.{LINE_OF_SIGHT}
use Rattle.recipes.specs.Recipes.{names_bound}
use Rattle.recipes.proofs.Calls.{bound_before, goes_on, names_after_calls}
use Rattle.recipes.proofs.SightScript.{calls, least, run}
use Rattle.recipes.proofs.Slopes.{place, scaled_rise, quotient, remainder, slope, quotient_is, remainder_is}
use Rattle.recipes.proofs.Tables.{table, pairs, pairs_or, distributed, indexed, with_first, first_replaced, scanned}

module _ (a : List ℤ) where
  abbrev pub height : ℕ → ℤ
  height k = unwrap_or (slice_get a k) (pos 0)

  abbrev pub slope_at : ℕ → ℤ
  slope_at k = slope (height k) (height 0) k

  abbrev pub slopes : ℕ → ℤ
  slopes = with_first least slope_at

  -- the greatest slope before place k
  abbrev pub highest : ℕ → ℤ
  highest k = fold_of greater_of least (table slopes k)

  abbrev pub flags : ℕ → Bool
  flags = with_first true (λ k. is_greater (slopes k) (highest k))

  abbrev pub is_below : ℕ → Bool
  is_below k = is_less (remainder (height k) (height 0) k) (pos 0)

  heights_are : a ≡ table height (length a)
  heights_are = fill_by_all height a (length a) (pos 0) refl (λ k below. sym (unwrap_or-slice_get a k (pos 0)))

  first_height : 1 ≤ length a → slice_get a 0 ≡ Some (height 0)
  first_height some = slice_get-get_or a 0 (pos 0) some ∙ ap Some (sym (unwrap_or-slice_get a 0 (pos 0)))

  module _ {A : Type 0} where
    -- what the calls bind, in their order
    abbrev bindings : List (List ℕ × Value A)
    bindings =
        let n = length a in
        (codes "a", value.Integers a)
        ∷ (codes "n", value.Integer (pos n))
        ∷ (codes "a0", value.Integer (height 0))
        ∷ (codes "b", value.Integers (table (λ _. height 0) n))
        ∷ (codes "d", value.Integers (table (λ k. difference_of (height k) (height 0)) n))
        ∷ (codes "i", value.Integers (table (λ k. wrap (pos 0 +ℤ pos k *ℤ pos 1)) n))
        ∷ (codes "one", value.Integers (table (λ _. pos 1) n))
        ∷ (codes "j", value.Integers (table place n))
        ∷ (codes "k", value.Integers (table (λ _. pos 65536) n))
        ∷ (codes "p", value.Integers (table (λ k. scaled_rise (height k) (height 0)) n))
        ∷ (codes "q", value.Integers (table (λ k. quotient (height k) (height 0) k) n))
        ∷ (codes "r", value.Integers (table (λ k. remainder (height k) (height 0) k) n))
        ∷ (codes "z", value.Integers (table (λ _. pos 0) n))
        ∷ (codes "neg", value.Booleans (table is_below n))
        ∷ (codes "c", value.Integers (map integer_of (table is_below n)))
        ∷ (codes "s0", value.Integers (table slope_at n))
        ∷ (codes "s", value.Integers (table slopes n))
        ∷ (codes "m", value.Integers (scan_of greater_of least (table slopes n)))
        ∷ (codes "v0", value.Booleans (table (λ k. is_greater (slopes k) (highest k)) n))
        ∷ (codes "v", value.Booleans (table flags n))
        ∷ []

    -- the names after so many calls
    abbrev pub bound : ℕ → Entries A
    bound k = fold (λ names b. bind names b.0 b.1) [] (take k bindings)

    -- the call after so many others binds its name to its answer
    abbrev bind_next : ℕ → Value A → Entries A
    bind_next k v = bind (bound k) (slice_index_or (map (λ b. b.0) bindings) k []) v

    next : {X : Type 0} {answer : Result X Fault} {x : X} (k : ℕ) (make : X → Value A) → answer ≡ Ok x
        → bound_before answer make (bind_next k) (input.Vector a ∷ []) (drop (suc k) calls) ≡ names_after_calls (bind_next k (make x)) (input.Vector a ∷ []) (drop (suc k) calls)
    next k make is = goes_on make (bind_next k) (input.Vector a ∷ []) (drop (suc k) calls) is

    pub seen : 1 ≤ length a → length a ≤ most_elements → names_bound LINE_OF_SIGHT.now (input.Vector a ∷ []) ≡ Ok (bound 20)
    seen some few =
        let n = length a in
        let ks = range_with_len 0 n in
        run (input.Vector a ∷ [])
        ∙ next 2 (λ x. value.Integer x) (ap (λ o. ok_or o (fault_at no.IndexOutOfRange 0)) (first_height some))
        ∙ next 3 (λ x. value.Integers x) (distributed (height 0) n few)
        ∙ next 4 (λ x. value.Integers x) (ap (λ xs. ints2_of int.Sub xs (table (λ _. height 0) n)) heights_are ∙ pairs difference_of height (λ _. height 0) ks)
        ∙ next 5 (λ x. value.Integers x) (indexed (pos 0) (pos 1) n few)
        ∙ next 6 (λ x. value.Integers x) (distributed (pos 1) n few)
        ∙ next 7 (λ x. value.Integers x) (pairs greater_of (λ k. wrap (pos 0 +ℤ pos k *ℤ pos 1)) (λ _. pos 1) ks)
        ∙ next 8 (λ x. value.Integers x) (distributed (pos 65536) n few)
        ∙ next 9 (λ x. value.Integers x) (pairs product_of (λ k. difference_of (height k) (height 0)) (λ _. pos 65536) ks)
        ∙ next 10 (λ x. value.Integers x) (pairs_or no.DivideByZero quotient_of (λ k. scaled_rise (height k) (height 0)) place (λ k. quotient (height k) (height 0) k) ks
        (λ k. quotient_is (scaled_rise (height k) (height 0)) k))
        ∙ next 11 (λ x. value.Integers x) (pairs_or no.DivideByZero remainder_of (λ k. scaled_rise (height k) (height 0)) place (λ k. remainder (height k) (height 0) k) ks
        (λ k. remainder_is (scaled_rise (height k) (height 0)) k))
        ∙ next 12 (λ x. value.Integers x) (distributed (pos 0) n few)
        ∙ next 13 (λ x. value.Booleans x) (pairs is_less (λ k. remainder (height k) (height 0) k) (λ _. pos 0) ks)
        ∙ next 15 (λ x. value.Integers x) (ap (λ cs. ints2_of int.Sub (table (λ k. quotient (height k) (height 0) k) n) cs) (map-map integer_of is_below ks)
        ∙ pairs difference_of (λ k. quotient (height k) (height 0) k) (λ k. integer_of (is_below k)) ks)
        ∙ next 16 (λ x. value.Integers x) (first_replaced least slope_at n some)
        ∙ next 18 (λ x. value.Booleans x) (ap (λ ms. compare_of compare.Greater (table slopes n) ms) (scanned greater_of least slopes n) ∙ pairs is_greater slopes highest ks)
        ∙ next 19 (λ x. value.Booleans x) (first_replaced true (λ k. is_greater (slopes k) (highest k)) n some)
