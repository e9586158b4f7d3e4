-- The walk that looks whether destinations are places of the result: the first that is none is at fault.
use Rattle.first_senders.proofs.Cited.{◌≡◌, ◌∙◌, ℕ, ◌+◌, ◌<◌, ◌≤◌, Bool, true, false, if◌then◌else◌, List, ◌∷◌, length, length-drop, map, drop, take, get_or, refl, sym, ap, arith, ℤ, unsigned_abs}
use Rattle.first_senders.proofs.Cited.{Option, Some, None, at_drop_more, get_or-drop, get_or-take, length-take-le, Fault, IndexOutOfRange, fault_at, first_fault, is_place, place_among}
use Rattle.std.proofs.lemmas.Option.{none-some}
use Rattle.cvl_base.specs.declared.fault.FaultNo.{FaultNo}
use Rattle.first_senders.specs.FirstSenders.{wrong_in}

-- some neighbouring places among all
module _ (all : List (Option ℤ)) (first count : ℕ) (within : first + count ≤ length all) where
  pub part_long : length (take count (drop first all)) ≡ count
  part_long = length-take-le count (drop first all) (omega (arith, length-drop first all))

  pub part_at : (k : ℕ) → k < count → get_or (take count (drop first all)) k None ≡ get_or all (first + k) None
  part_at k lt = get_or-take count (drop first all) k None lt ∙ get_or-drop first all k None

-- the fault of the first of some destinations, where the first of all stands at the place given
abbrev pub fault_in : ℕ → ℕ → List (Option ℤ) → Option Fault
fault_in m place ts = first_fault place (map (wrong_in m) ts)

passed : (place : ℕ) (w : Option FaultNo) (ws : List (Option FaultNo)) → w ≡ None → first_fault place (w ∷ ws) ≡ first_fault (place + 1) ws
passed place w ws right = ap (λ v. first_fault place (v ∷ ws)) right

failed : (place : ℕ) (w : Option FaultNo) (ws : List (Option FaultNo)) (number : FaultNo) → w ≡ Some number → first_fault place (w ∷ ws) ≡ Some (fault_at number place)
failed place w ws number wrong = ap (λ v. first_fault place (v ∷ ws)) wrong

inside : (b : Bool) (x y : ℕ) → Some y ≡ (if b then Some x else None) → b ≡ true
inside true x y is = refl
inside false x y is = absurd (none-some y (sym is))

outside : (b : Bool) (x : ℕ) → None ≡ (if b then Some x else None) → b ≡ false
outside true x is = absurd (none-some x is)
outside false x is = refl

module _ (m first k : ℕ) (ts : List (Option ℤ)) (lt : k < length ts) (so_far : fault_in m first ts ≡ fault_in m (first + k) (drop k ts)) where
  next : fault_in m first ts ≡ fault_in m (first + k) (get_or ts k None ∷ drop (k + 1) ts)
  next = so_far ∙ at_drop_more (fault_in m (first + k)) ts k None lt

  past : wrong_in m (get_or ts k None) ≡ None → fault_in m first ts ≡ fault_in m (first + (k + 1)) (drop (k + 1) ts)
  past right =
      next ∙ passed (first + k) (wrong_in m (get_or ts k None)) (map (wrong_in m) (drop (k + 1) ts)) right
      ∙ ap (λ place. fault_in m place (drop (k + 1) ts)) (omega arith)

  -- a place that does not take part
  pub past_skip : get_or ts k None ≡ None → fault_in m first ts ≡ fault_in m (first + (k + 1)) (drop (k + 1) ts)
  past_skip is = past (ap (wrong_in m) is)

  -- one whose index is a place
  pub past_inside : (i : ℤ) (d : ℕ) → get_or ts k None ≡ Some i → Some d ≡ place_among m i → fault_in m first ts ≡ fault_in m (first + (k + 1)) (drop (k + 1) ts)
  past_inside i d is named =
      past (ap (wrong_in m) is ∙ ap (λ b. if b then None else Some IndexOutOfRange) (inside (is_place m i) (unsigned_abs i) d named))

  -- one whose index is none
  pub fails_outside : (i : ℤ) → get_or ts k None ≡ Some i → None ≡ place_among m i → Some (fault_at IndexOutOfRange (first + k)) ≡ fault_in m first ts
  fails_outside i is none =
      sym (next ∙ failed (first + k) (wrong_in m (get_or ts k None)) (map (wrong_in m) (drop (k + 1) ts)) IndexOutOfRange
      (ap (wrong_in m) is ∙ ap (λ b. if b then None else Some IndexOutOfRange) (outside (is_place m i) (unsigned_abs i) none)))
