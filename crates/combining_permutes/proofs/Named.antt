-- Whether an index names a place of a range, by how far it is from the lowest.
use Rattle.combining_permutes.proofs.Cited.{◌≡◌, ℕ, ◌+◌, ◌<◌, ◌≤◌, true, false, arith, ℤ, pos, negsuc, Some, refl, leb, ltb, and_from, le-leb, lt-ltb}
use Rattle.combining_permutes.proofs.Cited.{is_between, names, other_place}

-- one that names none of them
pub names_none : (lowest places : ℕ) (i : ℤ) → is_between lowest (lowest + places) (Some i) ≡ false → (d : ℕ) → lowest ≤ d → d < lowest + places → names d i ≡ false
names_none lowest places (negsuc j) is d from to = refl
names_none lowest places (pos j) is d from to =
    other_place j d (λ same. let yes : is_between lowest (lowest + places) (Some (pos j)) ≡ true =
    and_from (leb lowest j) (ltb j (lowest + places)) (le-leb lowest j (omega (arith, same, from))) (lt-ltb j (lowest + places) (omega (arith, same, to))) in cc)
