-- Calls by lengths that are checked first: those of all parts are those of each part.
use Rattle.std.proofs.Common.{◌≡◌, ◌∙◌, ◌+◌, ◌≤◌, ℕ, ℤ, pos, Bool, true, false, List, [], ◌∷◌, ◌++◌, length, map, sum, Result, Ok, Option, Some, None, refl, sym, ap, arith, subst}
use Rattle.std.proofs.Common.{All, get_or, nat_lt, unsigned_abs}
use Rattle.std.proofs.lemmas.Bool.{ltb-false}
use Rattle.std.proofs.lemmas.List.{map-append}
use Rattle.std.proofs.lemmas.List.Elements.{All-cons, All-head, All-nil, All-tail}
use Rattle.std.proofs.lemmas.List.Sums.{fails_before_first, sum_by-append}
use Rattle.std.proofs.lemmas.Option.{none-some, same_Some}
use Rattle.std.specs.Int.{is_negative}
use Rattle.std.specs.List.{position_or_len}
use Rattle.std.specs.Option.{option_map}
use Rattle.std.specs.Prelude.{position}
use Rattle.std.specs.Result.{result_ok}
use Rattle.cvl_base.proofs.Descriptors.{natural}
use Rattle.cvl_base.proofs.Lists.{not_found, sum-cons}
use Rattle.cvl_base.specs.declared.fault.Fault.{Fault}
use Rattle.cvl_base.specs.declared.fault.FaultNo.TheVariants as no
use Rattle.cvl_base.specs.Descriptors.{descriptor_within}
use Rattle.cvl_base.specs.Faults.{fault, fault_at}
use Rattle.cvl_base.specs.Gives.{◌>>=◌, fault_if, unless}
use Rattle.cvl_base.specs.Limits.{most_places}
use Rattle.cvl_base.specs.Lists.{joined}
use Rattle.segdes.proofs.Checked.{lengths_made}
use Rattle.c_calls.specs.Calls.{by_segments, in_limit, lengths_of}
use Rattle.call_laws.proofs.TwoParts.{from_value}
use Rattle.step_laws.proofs.Answered.{within}
use Rattle.step_laws.proofs.MadeOf.{made_by_alike}
use Rattle.step_laws.proofs.Parted.{all-parts, some-fewer}
use Rattle.step_laws.proofs.SegmentLengths.{some-less}
use Rattle.step_laws.specs.SegmentCalls.{IsMadeBy, IsMadeOf, of_all}

-- ---- what lengths are

-- numbers that make a descriptor: none is negative, and there are few with a small sum
pub record AreFew (numbers : List ℤ) (segments : List ℕ) : Type 0 where
  pub natural_each : All (λ z. is_negative z ≡ false) numbers
  pub number : length numbers ≤ most_places
  pub total : sum (map unsigned_abs numbers) ≤ most_places
  pub same : segments ≡ map unsigned_abs numbers

none-negative : (numbers : List ℤ) → position is_negative numbers ≡ None → All (λ z. is_negative z ≡ false) numbers
none-negative numbers none =
    let past : nat_lt (position_or_len is_negative numbers) (length numbers) ≡ false =
    not_found (nat_lt (position_or_len is_negative numbers) (length numbers)) (position_or_len is_negative numbers) none in
    λ k d lt. fails_before_first is_negative numbers k d (omega (arith, lt, ltb-false (position_or_len is_negative numbers) (length numbers) past))

made-few : (numbers : List ℤ) (segments : List ℕ) (over long : Bool) (negative : Option ℕ) → nat_lt most_places (length numbers) ≡ over
    → position is_negative numbers ≡ negative → nat_lt most_places (sum (map unsigned_abs numbers)) ≡ long
    → fault_if over (fault no.TooLong) (unless (option_map (fault_at no.NegativeLength) negative) (fault_if long (fault no.TooLong) (Ok (map unsigned_abs numbers)))) ≡ Ok segments
    → AreFew numbers segments
made-few numbers segments true long negative is_over is_negative is_long is = absurd (none-some segments (ap result_ok is))
made-few numbers segments false long (Some k) is_over is_negative is_long is = absurd (none-some segments (ap result_ok is))
made-few numbers segments false true None is_over is_negative is_long is = absurd (none-some segments (ap result_ok is))
made-few numbers segments false false None is_over is_negative is_long is = record {
  natural_each = none-negative numbers is_negative;
  number = ltb-false most_places (length numbers) is_over;
  total = ltb-false most_places (sum (map unsigned_abs numbers)) is_long;
  same = sym (same_Some (map unsigned_abs numbers) segments (ap result_ok is));
}

pub few : (numbers : List ℤ) (segments : List ℕ) → lengths_of numbers ≡ Ok segments → AreFew numbers segments
few numbers segments is =
    made-few numbers segments (nat_lt most_places (length numbers)) (nat_lt most_places (sum (map unsigned_abs numbers))) (position is_negative numbers) refl refl refl is

-- lengths are these numbers of elements
pub sizes-are : (numbers : List ℤ) (segments : List ℕ) → lengths_of numbers ≡ Ok segments → segments ≡ map unsigned_abs numbers
sizes-are numbers segments is = (few numbers segments is).same

few-made : (numbers : List ℤ) → All (λ z. is_negative z ≡ false) numbers → length numbers ≤ most_places → sum (map unsigned_abs numbers) ≤ most_places
    → lengths_of numbers ≡ Ok (map unsigned_abs numbers)
few-made numbers each number total =
    within numbers (descriptor_within most_places numbers) number
    ∙ lengths_made most_places numbers (natural numbers (λ k lt. each k (pos 0) lt)) total

-- what is told of lengths is their sum
pub told-sizes : (numbers : List ℤ) (told : ℕ) → by_segments numbers (λ lengths. Ok (sum lengths)) ≡ Ok told → told ≡ sum (map unsigned_abs numbers)
told-sizes numbers told is =
    let value = from_value (lengths_of numbers) (λ lengths. Ok (sum lengths)) told is in
    sym (same_Some (sum value.0) told (ap result_ok value.2)) ∙ ap sum (few numbers value.0 value.1).same

-- ---- the lengths of parts

-- numbers of all parts add up to what those of each part add up to
pub sum-parts : {P : Type 0} (own : P → List ℕ) (parts : List P) → sum (joined (map own parts)) ≡ sum (map (λ p. sum (own p)) parts)
sum-parts own [] = refl
sum-parts own (p ∷ parts) =
    sum_by-append (λ n. n) (own p) (joined (map own parts)) ∙ ap (λ n. sum (own p) + n) (sum-parts own parts)
    ∙ sym (sum-cons (sum (own p)) (map (λ q. sum (own q)) parts))

module _ {P : Type 0} (lengths : P → List ℤ) where
  -- the lengths of a part as numbers of elements
  abbrev pub sizes : P → List ℕ
  sizes p = map unsigned_abs (lengths p)

  sizes-joined : (parts : List P) → map unsigned_abs (joined (map lengths parts)) ≡ joined (map sizes parts)
  sizes-joined [] = refl
  sizes-joined (p ∷ parts) =
      map-append unsigned_abs (lengths p) (joined (map lengths parts)) ∙ ap (λ ns. sizes p ++ ns) (sizes-joined parts)

  each-natural : (parts : List P) → All (All (λ z. is_negative z ≡ false)) (map lengths parts) → All (λ p. All (λ z. is_negative z ≡ false) (lengths p)) parts
  each-natural [] each = All-nil (λ p. All (λ z. is_negative z ≡ false) (lengths p))
  each-natural (p ∷ parts) each =
      All-cons (λ q. All (λ z. is_negative z ≡ false) (lengths q)) p parts (All-head (All (λ z. is_negative z ≡ false)) (lengths p) (map lengths parts) each)
      (each-natural parts (All-tail (All (λ z. is_negative z ≡ false)) (lengths p) (map lengths parts) each))

  module _ (parts : List P) (segments : List ℕ) (are : lengths_of (of_all lengths parts) ≡ Ok segments) where
    -- the lengths of the whole are those of its parts, in order
    pub own-sizes : segments ≡ joined (map sizes parts)
    own-sizes = (few (of_all lengths parts) segments are).same ∙ sizes-joined parts

    pub each-lengths : All (λ p. lengths_of (lengths p) ≡ Ok (sizes p)) parts
    each-lengths =
        let all = few (of_all lengths parts) segments are in
        let natural_parts = each-natural parts (all-parts lengths (λ z. is_negative z ≡ false) parts all.natural_each) in
        let numbers = some-fewer lengths most_places parts all.number in
        let totals = some-less sizes most_places parts (subst (λ ns. sum ns ≤ most_places) (sizes-joined parts) all.total) in
        λ k d lt. few-made (lengths (get_or parts k d)) (natural_parts k d lt) (numbers k d lt) (totals k d lt)

    -- a call that is made of those on the parts stays so if their lengths are checked first
    pub made_by_lengths : {V : Type 0} (together : List V → V) (whole : List ℕ → Result V Fault) (own : P → List ℕ → Result V Fault)
        → IsMadeBy together (whole (joined (map sizes parts))) (map (λ p. own p (sizes p)) parts)
        → IsMadeBy together (by_segments (of_all lengths parts) whole) (map (λ p. by_segments (lengths p) (own p)) parts)
    made_by_lengths together whole own made =
        made_by_alike together parts (whole (joined (map sizes parts))) (by_segments (of_all lengths parts) whole) (λ p. own p (sizes p)) (λ p. by_segments (lengths p) (own p))
        (ap (λ r. r >>= whole) (are ∙ ap Ok own-sizes))
        (λ k d lt. let p = get_or parts k d in ap (λ r. r >>= own p) (each-lengths k d lt)) made

    pub by-lengths : {Y : Type 0} (whole : List ℕ → Result (List Y) Fault) (own : P → List ℕ → Result (List Y) Fault)
        → IsMadeOf (whole (joined (map sizes parts))) (map (λ p. own p (sizes p)) parts)
        → IsMadeOf (by_segments (of_all lengths parts) whole) (map (λ p. by_segments (lengths p) (own p)) parts)
    by-lengths whole own made = made_by_lengths joined whole own made

module _ {P X : Type 0} (index : P → List X) (parts : List P) where
  -- or if a vector may not be too long
  pub made_by_limit : {V : Type 0} (together : List V → V) (whole : Result V Fault) (own : P → Result V Fault) → length (of_all index parts) ≤ most_places
      → IsMadeBy together whole (map own parts) → IsMadeBy together (in_limit (of_all index parts) whole) (map (λ p. in_limit (index p) (own p)) parts)
  made_by_limit together whole own few_elements made =
      let fewer = some-fewer index most_places parts few_elements in
      made_by_alike together parts whole (in_limit (of_all index parts) whole) own (λ p. in_limit (index p) (own p)) (within (of_all index parts) whole few_elements)
      (λ k d lt. let p = get_or parts k d in within (index p) (own p) (fewer k d lt)) made

module _ {P X Y : Type 0} (index : P → List X) (parts : List P) where
  pub by-limit : (whole : Result (List Y) Fault) (own : P → Result (List Y) Fault) → length (of_all index parts) ≤ most_places → IsMadeOf whole (map own parts)
      → IsMadeOf (in_limit (of_all index parts) whole) (map (λ p. in_limit (index p) (own p)) parts)
  by-limit whole own few_elements made = made_by_limit index parts joined whole own few_elements made
