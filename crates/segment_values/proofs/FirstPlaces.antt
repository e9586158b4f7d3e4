-- Elements that begin with some that do not pass a test: where the first that passes stands, and one block of them more.
use Rattle.std.proofs.Common.{◌≡◌, ◌∙◌, ℕ, zero, suc, ◌+◌, ◌≤◌, Bool, true, false, not, ◌&&◌, List, [], ◌∷◌, length, take, drop, cond, ap, arith, position, option_map}
use Rattle.std.proofs.Common.{length-drop, take-add}
use Rattle.std.proofs.lemmas.List.Folds.{list_all-append}
use Rattle.std.specs.List.{list_all, position_or_len}
use Rattle.std.proofs.lemmas.Bool.{and_parts}

module _ {X : Type 0} (test : X → Bool) where
  abbrev fails : X → Bool
  fails x = not (test x)

  one_later : (b : Bool) (n : ℕ) (later rest : ℕ) → not b ≡ true → later ≡ n + rest → cond (not b) (1 + later) 0 ≡ suc n + rest
  one_later true n later rest fails is = absurd (cc)
  one_later false n later rest fails is = omega (arith, is)

  later : (n : ℕ) (xs : List X) → n ≤ length xs → list_all fails (take n xs) ≡ true → position_or_len test xs ≡ n + position_or_len test (drop n xs)
  later zero xs within all = omega arith
  later (suc n) [] within all = absurd (omega (arith, within))
  later (suc n) (x ∷ xs) within all =
      let parts = and_parts (fails x) (list_all fails (take n xs)) all in
      one_later (test x) n (position_or_len test xs) (position_or_len test (drop n xs)) parts.0 (later n xs (omega (arith, within)) parts.1)

  pub behind_failing : (n : ℕ) (xs : List X) → n ≤ length xs → list_all fails (take n xs) ≡ true
      → position test xs ≡ option_map (λ place. n + place) (position test (drop n xs))
  behind_failing n xs within all = grind (arith, later n xs within all, length-drop n xs)

  pub one_block_more : (xs : List X) (over n : ℕ) → list_all fails (take over xs) ≡ true → list_all fails (take n (drop over xs)) ≡ true
      → list_all fails (take (over + n) xs) ≡ true
  one_block_more xs over n before block =
      ap (list_all fails) (take-add over n xs) ∙ list_all-append fails (take over xs) (take n (drop over xs)) ∙ (λ i. before i && block i)
