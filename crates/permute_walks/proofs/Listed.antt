-- The numbers of a range, and those that a test lists, one after another: what holds up to each of them, where the others change nothing.
use Rattle.permute_walks.proofs.Cited.{◌≡◌, ◌∙◌, ℕ, zero, suc, ◌+◌, ◌<◌, Bool, true, false, cond, List, [], ◌∷◌, ◌++◌, drop, get_or, length, refl, sym, ap, arith, subst, filter, range_with_len}
use Rattle.permute_walks.proofs.Cited.{ℤ, Option, None, is_between, places_between, map-id, filter_of_map_range_with_len_more}

-- two ranges, one behind the other
pub range_both : (a n m : ℕ) → range_with_len a (n + m) ≡ range_with_len a n ++ range_with_len (a + n) m
range_both a zero m = let all : 0 + m ≡ m = omega arith in let same : a ≡ a + 0 = omega arith in λ i. range_with_len (same i) (all i)
range_both a (suc n) m =
    let next : suc n + m ≡ suc (n + m) = omega arith in
    let same : a + 1 + n ≡ a + suc n = omega arith in
    ap (range_with_len a) next ∙ ap (λ ns. a ∷ ns) (range_both (a + 1) n m) ∙ ap (λ b. range_with_len a (suc n) ++ range_with_len b m) same

-- one number more
pub listed_more : (p : ℕ → Bool) (first k : ℕ) (b : Bool) → p (first + k) ≡ b → filter p (range_with_len first (k + 1)) ≡ filter p (range_with_len first k) ++ cond b ((first + k) ∷ []) []
listed_more p first k b is = cc (map-id (range_with_len first (k + 1)), filter_of_map_range_with_len_more p (λ n. n) first k (first + k) refl, map-id (range_with_len first k), is)

-- one place more, which was asked whether it is sent there
pub asked_more : (ts : List (Option ℤ)) (lowest end first k : ℕ) {t : Option ℤ} {told : Bool} (b : Bool) → get_or ts (first + k) None ≡ t → told ≡ is_between lowest end t → told ≡ b
    → places_between ts lowest end first (k + 1) ≡ places_between ts lowest end first k ++ cond b ((first + k) ∷ []) []
asked_more ts lowest end first k b at asked is = listed_more (λ j. is_between lowest end (get_or ts j None)) first k b (ap (is_between lowest end) at ∙ sym asked ∙ is)

-- the rest of a list is that of the numbers from `from` on and before `end`, up to which P holds
pub record IsRest (p : ℕ → Bool) (P : ℕ → Type 0) (rest : List ℕ) (end : ℕ) : Type 0 where
  pub from : ℕ
  pub many : ℕ
  pub ends : from + many ≡ end
  pub listed : rest ≡ filter p (range_with_len from many)
  pub holds : P from

-- a number of the list, up to which P holds, and the rest of the list behind it
pub record IsNext (p : ℕ → Bool) (P : ℕ → Type 0) (end k : ℕ) (rest : List ℕ) : Type 0 where
  pub many : ℕ
  pub ends : k + 1 + many ≡ end
  pub passes : p k ≡ true
  pub listed : rest ≡ filter p (range_with_len (k + 1) many)
  pub holds : P k

module _ (p : ℕ → Bool) (P : ℕ → Type 0) (end : ℕ) (skip : (k : ℕ) → k < end → p k ≡ false → P k → P (k + 1)) where
  first_is : (rest : List ℕ) (from many : ℕ) (b : Bool) → p from ≡ b → rest ≡ filter p (range_with_len from (suc many))
      → rest ≡ cond b (from ∷ filter p (range_with_len (from + 1) many)) (filter p (range_with_len (from + 1) many))
  first_is rest from many b is listed = listed ∙ ap (λ c. cond c (from ∷ filter p (range_with_len (from + 1) many)) (filter p (range_with_len (from + 1) many))) is

  none_left : (from many : ℕ) (b : Bool) → from + many ≡ end → p from ≡ b → [] ≡ filter p (range_with_len from many) → P from → P end
  none_left from zero b ends is listed holds = subst P (omega (arith, ends)) holds
  none_left from (suc many) true ends is listed holds = let none = ap length (first_is [] from many true is listed) in absurd (omega (arith, none))
  none_left from (suc many) false ends is listed holds =
      none_left (from + 1) many (p (from + 1)) (omega (arith, ends)) refl (first_is [] from many false is listed) (skip from (omega (arith, ends)) is holds)

  pub at_end : IsRest p P [] end → P end
  at_end left = none_left left.from left.many (p left.from) left.ends refl left.listed left.holds

  next_from : (k : ℕ) (rest : List ℕ) (from many : ℕ) (b : Bool) → from + many ≡ end → p from ≡ b → k ∷ rest ≡ filter p (range_with_len from many) → P from → IsNext p P end k rest
  next_from k rest from zero b ends is listed holds = let long = ap length listed in absurd (omega (arith, long))
  next_from k rest from (suc many) true ends is listed holds =
      let all = first_is (k ∷ rest) from many true is listed in
      let same : from ≡ k = sym (ap (λ ns. get_or ns 0 0) all) in
      record {
        many = many;
        ends = omega (arith, same, ends);
        passes = ap p (sym same) ∙ is;
        listed = ap (drop 1) all ∙ ap (λ n. filter p (range_with_len (n + 1) many)) same;
        holds = subst P same holds;
      }
  next_from k rest from (suc many) false ends is listed holds =
      next_from k rest (from + 1) many (p (from + 1)) (omega (arith, ends)) refl (first_is (k ∷ rest) from many false is listed) (skip from (omega (arith, ends)) is holds)

  pub at_next : (k : ℕ) (rest : List ℕ) → IsRest p P (k ∷ rest) end → IsNext p P end k rest
  at_next k rest left = next_from k rest left.from left.many (p left.from) left.ends refl left.listed left.holds
