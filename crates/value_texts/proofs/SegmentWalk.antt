-- The texts of segments, counted and cut into parts.
use Rattle.std.proofs.Common.{◌≡◌, ℕ, ◌+◌, List, [], ◌∷◌, ◌++◌, length, map, take, drop, refl, ap, sym, ◌∙◌, sum, arith, length-append, ℤ, unsigned_abs}
use Rattle.std.specs.List.{join_with_byte}
use Rattle.std.proofs.lemmas.List.{drop-drop, drop-take, map-append, take-append-drop, take-take}
use Rattle.std.proofs.lemmas.Grind.{flat_map-append}
use Rattle.cvl_base.proofs.Lists.{sum-cons}
use Rattle.cvl_base.specs.Nests.{cut_of}
use Rattle.value_texts.specs.Texts.{spaced, vector_text}
use Rattle.value_texts.proofs.Spaces.{join_spaced}

-- a vector's text has two brackets, and no space before the first element
pub text_size : {X : Type 0} (f : X → List ℕ) (x : X) (xs : List X) → length (vector_text f (x ∷ xs)) ≡ 1 + length (spaced f (x ∷ xs))
text_size f x xs = omega (arith, length-append (join_with_byte 32 (map f (x ∷ xs))) (93 ∷ []), ap length (join_spaced f x xs))

module _ {X : Type 0} where
  -- what some lengths cut, and then what the others cut from the rest
  pub cut_both : (ls ms : List ℕ) (xs : List X) (n : ℕ) → n ≡ sum ls → cut_of (ls ++ ms) xs ≡ cut_of ls (take n xs) ++ cut_of ms (drop n xs)
  cut_both [] ms xs n e = ap (λ k. cut_of ms (drop k xs)) (sym e)
  cut_both (l ∷ ls) ms xs n e =
      let size : n ≡ l + sum ls = e ∙ sum-cons l ls in
      let first : take l (take n xs) ≡ take l xs = take-take l n xs (omega arith) in
      let middle : drop l (take n xs) ≡ take (sum ls) (drop l xs) = ap (λ k. drop l (take k xs)) size ∙ drop-take l (sum ls) xs in
      let last : drop (sum ls) (drop l xs) ≡ drop n xs = drop-drop (sum ls) l xs ∙ ap (λ k. drop k xs) (omega arith) in
      ap (λ tail. take l xs ∷ tail) (cut_both ls ms (drop l xs) (sum ls) refl)
      ∙ ap (λ head. head ∷ (cut_of ls (take (sum ls) (drop l xs)) ++ cut_of ms (drop (sum ls) (drop l xs)))) (sym first)
      ∙ ap (λ part. take l (take n xs) ∷ (cut_of ls part ++ cut_of ms (drop (sum ls) (drop l xs)))) (sym middle)
      ∙ ap (λ part. take l (take n xs) ∷ (cut_of ls (drop l (take n xs)) ++ cut_of ms part)) last

  pub segments_cut : (f : X → List ℕ) (lengths : List ℤ) (xs : List X) (k n : ℕ) → n ≡ sum (map unsigned_abs (take k lengths))
      → spaced (vector_text f) (cut_of (map unsigned_abs lengths) xs)
      ≡ spaced (vector_text f) (cut_of (map unsigned_abs (take k lengths)) (take n xs)) ++ spaced (vector_text f) (cut_of (map unsigned_abs (drop k lengths)) (drop n xs))
  segments_cut f lengths xs k n e =
      let halves = ap (map unsigned_abs) (sym (take-append-drop k lengths)) ∙ map-append unsigned_abs (take k lengths) (drop k lengths) in
      ap (λ ls. spaced (vector_text f) (cut_of ls xs)) halves ∙ ap (spaced (vector_text f)) (cut_both (map unsigned_abs (take k lengths)) (map unsigned_abs (drop k lengths)) xs n e)
      ∙ flat_map-append (λ x. 32 ∷ vector_text f x) (cut_of (map unsigned_abs (take k lengths)) (take n xs)) (cut_of (map unsigned_abs (drop k lengths)) (drop n xs))
