-- Two runs of a list, one after another, are one.
use Rattle.fresh.proofs.Cited.{◌≡◌, ℕ, ◌+◌, ◌-◌, ◌≤◌, List, ◌++◌, map, take, drop, sym, ap, ◌∙◌, arith, take-add, drop-drop, drop-map, take-map, part}

pub parts_both : {X : Type 0} (whole : List X) (first n room : ℕ) → n ≤ room → part whole first room ≡ part whole first n ++ part whole (first + n) (room - n)
parts_both whole first n room within =
    let all : room ≡ n + (room - n) = omega arith in
    ap (part whole first) all ∙ take-add n (room - n) (drop first whole) ∙ ap (λ l. part whole first n ++ take (room - n) l) (drop-drop n first whole)

-- a run of mapped elements
pub part_map : {A B : Type 0} (h : A → B) (xs : List A) (first n : ℕ) → map h (part xs first n) ≡ part (map h xs) first n
part_map h xs first n = sym (ap (take n) (drop-map h first xs) ∙ take-map h n (drop first xs))
