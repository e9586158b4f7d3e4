-- A pack is the filter by its flags.
use Rattle.call_laws.proofs.Cited.{rules, ◌≡◌, ◌∷◌, ◌++◌, ◌∙◌, Bool, true, false, cond, List, [], length, map, refl, ap, arith, Ok, zip, map-append, sum_by-cons, count_of, pack_of, filter}
use Rattle.call_laws.proofs.Cited.{filter-append, in_two}
use Rattle.call_laws.proofs.PlaceByPlace.{as_long-two}
use Rattle.call_laws.proofs.Sending.{if_as_long-Ok}
use Rattle.call_laws.proofs.TwoParts.{zip-append}

-- what is kept
abbrev pub kept_of : {X : Type 0} → List X → List Bool → List X
kept_of xs flags = map (λ p. p.0) (filter (λ p. p.1) (zip xs flags))

kept-cons : {X : Type 0} (x : X) (flag : Bool) (xs : List X) (flags : List Bool) → kept_of (x ∷ xs) (flag ∷ flags) ≡ cond flag (x ∷ kept_of xs flags) (kept_of xs flags)
kept-cons x true xs flags = refl
kept-cons x false xs flags = refl

pub kept-filter : {X : Type 0} (test : X → Bool) (xs : List X) → kept_of xs (map test xs) ≡ filter test xs
kept-filter test [] = refl
kept-filter test (x ∷ xs) = kept-cons x (test x) xs (map test xs) ∙ ap (λ ys. cond (test x) (x ∷ ys) ys) (kept-filter test xs)

length-kept : {X : Type 0} (xs : List X) (flags : List Bool) → length xs ≡ length flags → length (kept_of xs flags) ≡ count_of flags
length-kept [] [] long = refl
length-kept [] (flag ∷ flags) long = absurd (omega arith)
length-kept (x ∷ xs) [] long = absurd (omega arith)
length-kept (x ∷ xs) (true ∷ flags) long = omega (arith, length-kept xs flags (omega arith), sum_by-cons (λ (flag : Bool). cond flag 1 0) true flags)
length-kept (x ∷ xs) (false ∷ flags) long = omega (arith, length-kept xs flags (omega arith), sum_by-cons (λ (flag : Bool). cond flag 1 0) false flags)

pub pack-two : {X : Type 0} (xs ys : List X) (flags more : List Bool) → length xs ≡ length flags → length ys ≡ length more
    → pack_of (xs ++ ys) (flags ++ more) ≡ in_two (length xs) (pack_of xs flags) (pack_of ys more)
pack-two xs ys flags more long also_long = search (rules, as_long-two, zip-append, filter-append, map-append)

pub pack-counted : {X : Type 0} (xs : List X) (flags : List Bool) (kept : List X) → pack_of xs flags ≡ Ok kept → length kept ≡ count_of flags
pack-counted xs flags kept p = search (rules, if_as_long-Ok, length-kept)
