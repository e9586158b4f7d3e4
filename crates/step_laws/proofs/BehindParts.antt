-- What goes on behind the parts of a checked reduce is in 64 bits what it is over whole numbers.
use Rattle.std.proofs.Common.{◌≡◌, ◌++◌, ◌≤◌, ◌^◌, ◌∙◌, ◌∷◌, ◌+ℤ◌, ℤ, pos, Bool, true, false, FitsSigned, List, [], length, map, take, nat_lt, if◌then◌else◌}
use Rattle.std.proofs.Common.{refl, sym, ap, arith, length-append, subst, take_at, drop_at}
use Rattle.std.specs.Int.{w64}
use Rattle.std.specs.List.{AllPass}
use Rattle.std.proofs.lemmas.List.{append-nil, length-take, map-id}
use Rattle.std.proofs.lemmas.List.Elements.{All-append, All-drop, All-take}
use Rattle.cvl_base.specs.Exact.{total_of}
use Rattle.cvl_base.specs.ItemWords.{is_number}
use Rattle.long_sums.specs.LongSums.{long_sum_of}
use Rattle.segment_parts.specs.Behinds.{behind_each, goes_on}
use Rattle.step_laws.specs.ReduceParts.{ReducePart, elements_of}
use Rattle.step_laws.proofs.Carried.{next, total-two}
use Rattle.step_laws.proofs.StartReduces.{pair_of}

-- integers are read as themselves
abbrev pub itself : ℤ → ℤ
itself x = x

-- a part's pair: whether a segment starts in it, and the sum of its head
abbrev pub pair : ReducePart ℤ ℤ → Bool × ℤ
pair p = pair_of ◌+ℤ◌ (pos 0) itself p

-- the elements up to the next start where some parts begin
abbrev up_to_next : List (ReducePart ℤ ℤ) → List ℤ
up_to_next [] = []
up_to_next (p ∷ ps) = if nat_lt 0 (length p.lengths) then take p.head p.elements else take p.head p.elements ++ up_to_next ps

-- they are some of the elements
record Some_of (xs ys : List ℤ) : Type 0 where
  fewer : length xs ≤ length ys
  numbers : AllPass is_number xs

some_of : (ps : List (ReducePart ℤ ℤ)) → AllPass is_number (elements_of ps) → Some_of (up_to_next ps) (elements_of ps)
some_of [] numbers = record { fewer = omega arith; numbers = numbers }
some_of (p ∷ ps) numbers =
    let own : List ℤ = p.elements in let rest : List ℤ = elements_of ps in
    let of_own : AllPass is_number own = subst (AllPass is_number) (take_at own rest (length own) refl) (All-take (λ y. is_number y ≡ true) (length own) (own ++ rest) numbers) in
    let of_rest : AllPass is_number rest = subst (AllPass is_number) (drop_at own rest (length own) refl) (All-drop (λ y. is_number y ≡ true) (length own) (own ++ rest) numbers) in
    either_way (nat_lt 0 (length p.lengths)) (take p.head own) (up_to_next ps) own rest
    (omega (arith, length-take p.head own)) (All-take (λ y. is_number y ≡ true) p.head own of_own) (some_of ps of_rest)
  where
    either_way : (starts : Bool) (head others own rest : List ℤ) → length head ≤ length own → AllPass is_number head → Some_of others rest
        → Some_of (if starts then head else head ++ others) (own ++ rest)
    either_way true head others own rest few all some = record { fewer = omega (arith, few, length-append own rest); numbers = all }
    either_way false head others own rest few all some = record {
      fewer = omega (arith, few, some.fewer, length-append own rest, length-append head others);
      numbers = All-append (λ y. is_number y ≡ true) head others all some.numbers;
    }

-- a sum of sums that are those of few numbers
abbrev Adds : (ℤ → ℤ → ℤ) → Type 0
Adds join = (xs ys : List ℤ) → length (xs ++ ys) ≤ 2 ^ 32 → AllPass is_number (xs ++ ys) → join (total_of xs) (total_of ys) ≡ total_of (xs ++ ys)

whole_adds : Adds ◌+ℤ◌
whole_adds xs ys few numbers = sym (total-two xs ys)

module _ (join : ℤ → ℤ → ℤ) (adds : Adds join) where
  goes_on-total : (ps : List (ReducePart ℤ ℤ)) → length (elements_of ps) ≤ 2 ^ 32 → AllPass is_number (elements_of ps)
      → goes_on join (pos 0) (map pair ps) ≡ total_of (up_to_next ps)
  goes_on-total [] few numbers = refl
  goes_on-total (p ∷ ps) few numbers =
      let own : List ℤ = p.elements in let rest : List ℤ = elements_of ps in let head : List ℤ = take p.head own in
      let of_own : AllPass is_number own = subst (AllPass is_number) (take_at own rest (length own) refl) (All-take (λ y. is_number y ≡ true) (length own) (own ++ rest) numbers) in
      let of_rest : AllPass is_number rest = subst (AllPass is_number) (drop_at own rest (length own) refl) (All-drop (λ y. is_number y ≡ true) (length own) (own ++ rest) numbers) in
      let some = some_of ps of_rest in
      let both = length-append own rest in
      step (nat_lt 0 (length p.lengths)) head (up_to_next ps) (pair p).1 (goes_on join (pos 0) (map pair ps)) (ap total_of (map-id head))
      (goes_on-total ps (omega (arith, few, both)) of_rest)
      (adds head (up_to_next ps) (omega (arith, few, both, some.fewer, length-take p.head own, length-append head (up_to_next ps)))
      (All-append (λ y. is_number y ≡ true) head (up_to_next ps) (All-take (λ y. is_number y ≡ true) p.head own of_own) some.numbers))
    where
      step : (starts : Bool) (front others : List ℤ) (h z : ℤ) → h ≡ total_of front → z ≡ total_of others → join (total_of front) (total_of others) ≡ total_of (front ++ others)
          → (if starts then h else join h z) ≡ total_of (if starts then front else front ++ others)
      step true front others h z is also sum = is
      step false front others h z is also sum = (λ i. join (is i) (also i)) ∙ sum

module _ (fits : (xs : List ℤ) → length xs ≤ 2 ^ 32 → AllPass is_number xs → FitsSigned w64 (total_of xs)) where
  long_adds : Adds long_sum_of
  long_adds xs ys few numbers =
      let same = sym (append-nil (xs ++ ys)) in next fits xs ys [] (subst (λ zs. length zs ≤ 2 ^ 32) same few) (subst (AllPass is_number) same numbers)

  pub exact-behinds : (ps : List (ReducePart ℤ ℤ)) → length (elements_of ps) ≤ 2 ^ 32 → AllPass is_number (elements_of ps)
      → behind_each long_sum_of (pos 0) (map pair ps) ≡ behind_each ◌+ℤ◌ (pos 0) (map pair ps)
  exact-behinds [] few numbers = refl
  exact-behinds (p ∷ ps) few numbers =
      let own : List ℤ = p.elements in let rest : List ℤ = elements_of ps in
      let of_rest : AllPass is_number rest = subst (AllPass is_number) (drop_at own rest (length own) refl) (All-drop (λ y. is_number y ≡ true) (length own) (own ++ rest) numbers) in
      let fewer : length rest ≤ 2 ^ 32 = omega (arith, few, length-append own rest) in
      let goes = goes_on-total long_sum_of long_adds ps fewer of_rest ∙ sym (goes_on-total ◌+ℤ◌ whole_adds ps fewer of_rest) in
      let others = exact-behinds ps fewer of_rest in
      (λ i. goes i ∷ others i)
