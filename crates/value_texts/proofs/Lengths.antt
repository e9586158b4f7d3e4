-- The texts of a descriptor's lengths.
use Rattle.std.proofs.Common.{◌≡◌, ℕ, List, [], ◌∷◌, map, pos, refl, ap}
use Rattle.std.specs.Fmt.{decimal, signed_decimal}

-- the text of a length is that of the number
pub texts_of_lengths : (lengths : List ℕ) → map signed_decimal (map pos lengths) ≡ map decimal lengths
texts_of_lengths [] = refl
texts_of_lengths (n ∷ ns) = ap (λ texts. decimal n ∷ texts) (texts_of_lengths ns)
