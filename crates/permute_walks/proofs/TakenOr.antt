-- A back permute in one walk: what is written and found from index to index, and what the definition makes of it.
use Rattle.permute_walks.proofs.Cited.{rules, ◌≡◌, ◌∙◌, ℕ, ◌+◌, ◌-◌, ◌<◌, List, [], ◌∷◌, ◌++◌, length, map, refl, sym, ap, arith, length-append, ℤ, pos, negsuc, option_map, Option, Some, None, Ok}
use Rattle.permute_walks.proofs.Cited.{Err, unwrap_or, option_or, length-map, map-append, All, All-cons, All-head, All-nil, none-some, first_without, Stretch, somes, stretch, with_items, FaultNo}
use Rattle.permute_walks.proofs.Cited.{values_from, element_at, fault_at, unless, first_of_both, each_or}
use Rattle.fresh.proofs.Written.{one_written, written_twice}
use Rattle.permute_walks.proofs.Outside.{cons_unless}

module _ {X : Type 0} (other : X) where
  -- ---- from index to index: behind the first values one more

  module _ (run now next : Stretch X) (vs : List (Option X)) (v : Option X) (so_far : now ≡ with_items run (each_or other vs)) where
    pub taken_more : (x : X) → x ≡ unwrap_or v other → next ≡ stretch now.block now.first (now.items ++ x ∷ []) (now.room - 1) → next ≡ with_items run (each_or other (vs ++ v ∷ []))
    taken_more x is pushed = cc (one_written run now next (each_or other vs) x so_far pushed, is, map-append (λ w. unwrap_or w other) vs (v ∷ []))

    pub found_more : (found first : Option ℕ) (place : ℕ) → place ≡ now.first + length now.items → found ≡ first_without (run.first + length run.items) vs
        → first ≡ option_or found (first_without place (v ∷ [])) → first ≡ first_without (run.first + length run.items) (vs ++ v ∷ [])
    found_more found first place at was is = search (rules, length-append, length-map, first_of_both)

  -- and then the others
  module _ (run now : Stretch X) (vs ws all : List (Option X)) (whole : all ≡ vs ++ ws) (so_far : now ≡ with_items run (each_or other vs)) where
    pub others_taken : (next : Stretch X) → next ≡ with_items now (each_or other ws) → next ≡ with_items run (each_or other all)
    others_taken next pushed = cc (pushed, so_far, written_twice run (each_or other vs) (each_or other ws), map-append (λ w. unwrap_or w other) vs ws, whole)

    pub others_found : (found : Option ℕ) → None ≡ first_without (run.first + length run.items) vs → found ≡ first_without (now.first + length now.items) ws
        → found ≡ first_without (run.first + length run.items) all
    others_found found none is = search (rules, length-append, length-map, first_of_both)

  -- where each takes something, that is all that is written
  pub each_taken : (place : ℕ) (vs : List (Option X)) → first_without place vs ≡ None → each_or other vs ≡ somes vs
  each_taken place [] none = refl
  each_taken place (None ∷ vs) none = absurd (none-some place (sym none))
  each_taken place (Some x ∷ vs) none = ap (λ xs. x ∷ xs) (each_taken (place + 1) vs none)

-- ---- the definition

module _ {X : Type 0} (number : FaultNo) where
  pub values_told : (place : ℕ) (vs : List (Option X)) → values_from number place vs ≡ unless (option_map (λ p. fault_at number p) (first_without place vs)) (Ok (somes vs))
  values_told place [] = refl
  values_told place (None ∷ vs) = refl
  values_told place (Some x ∷ vs) = cc (values_told (place + 1) vs, cons_unless x (option_map (λ p. fault_at number p) (first_without (place + 1) vs)) (somes vs))

  module _ (vs : List (Option X)) (found : Option ℕ) (is : found ≡ first_without 0 vs) where
    told : (o : Option ℕ) → found ≡ o → values_from number 0 vs ≡ unless (option_map (λ p. fault_at number p) o) (Ok (somes vs))
    told o same = values_told 0 vs ∙ ap (λ p. unless (option_map (λ q. fault_at number q) p) (Ok (somes vs))) (sym is ∙ same)

    pub all_taken : (other : X) (xs : List X) → found ≡ None → xs ≡ each_or other vs → values_from number 0 vs ≡ Ok xs
    all_taken other xs none are = told None none ∙ ap Ok (sym (are ∙ each_taken other 0 vs (sym is ∙ none)))

    pub not_taken : (p : ℕ) → found ≡ Some p → values_from number 0 vs ≡ Err (fault_at number p)
    not_taken p some = told (Some p) some

-- ---- a source without an element

pub nothing_taken : {X : Type 0} (number : FaultNo) (values : List (Option X)) → All (λ v. v ≡ None) values → 0 < length values → values_from number 0 values ≡ Err (fault_at number 0)
nothing_taken number [] none some = absurd (omega arith)
nothing_taken number (v ∷ values) none some = cc (All-head (λ w. w ≡ None) v values none)

module _ {X : Type 0} where
  none_at : (i : ℤ) → element_at {X = X} [] i ≡ None
  none_at (pos k) = refl
  none_at (negsuc k) = refl

  pub nothing_at : (index : List ℤ) → All (λ v. v ≡ None) (map (element_at {X = X} []) index)
  nothing_at [] = All-nil (λ v. v ≡ None)
  nothing_at (i ∷ index) = All-cons (λ v. v ≡ None) (element_at [] i) (map (element_at []) index) (none_at i) (nothing_at index)
