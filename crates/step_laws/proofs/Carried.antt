-- Sums of parts that are put together in 64 bits are those over whole numbers.
use Rattle.std.proofs.Common.{◌≡◌, ◌++◌, ◌≤◌, ◌^◌, ◌∙◌, ◌∷◌, ◌+ℤ◌, ℤ, pos, FitsSigned, List, [], length, map, refl, sym, ap, arith, append_assoc, length-append, subst, take_at}
use Rattle.std.specs.Int.{w64}
use Rattle.std.specs.List.{AllPass, fold}
use Rattle.std.proofs.lemmas.Int.{int_wrap_fits}
use Rattle.std.proofs.lemmas.List.{append-nil}
use Rattle.std.proofs.lemmas.List.Elements.{All-take}
use Rattle.std.proofs.lemmas.List.Sums.{fold-append}
use Rattle.std.proofs.Common.{true}
use Rattle.cvl_base.specs.Exact.{total_of}
use Rattle.cvl_base.specs.Folds.{scan_of}
use Rattle.cvl_base.specs.ItemWords.{is_number}
use Rattle.cvl_base.specs.Lists.{joined}
use Rattle.operators.proofs.FoldLaws.{fold_from, scan_of-cons}
use Rattle.scan_walks.proofs.WholeSums.{all_whole, whole_laws}
use Rattle.long_sums.specs.LongSums.{long_sum_of}

pub total-two : (xs ys : List ℤ) → total_of (xs ++ ys) ≡ total_of xs +ℤ total_of ys
total-two xs ys = fold-append ◌+ℤ◌ (pos 0) xs ys ∙ fold_from whole_laws (total_of xs) ys refl (all_whole ys)

module _ (fits : (xs : List ℤ) → length xs ≤ 2 ^ 32 → AllPass is_number xs → FitsSigned w64 (total_of xs)) where
  -- the sum of what stands before a part and of the part does not wrap
  pub next : (front xs rest : List ℤ) → length ((front ++ xs) ++ rest) ≤ 2 ^ 32 → AllPass is_number ((front ++ xs) ++ rest)
      → long_sum_of (total_of front) (total_of xs) ≡ total_of (front ++ xs)
  next front xs rest few numbers =
      let all = front ++ xs in
      let own : AllPass is_number all =
      subst (AllPass is_number) (take_at all rest (length all) refl) (All-take (λ y. is_number y ≡ true) (length all) (all ++ rest) numbers) in
      let held : FitsSigned w64 (total_of front +ℤ total_of xs) =
      subst (FitsSigned w64) (total-two front xs) (fits all (omega (arith, few, length-append all rest)) own) in
      int_wrap_fits w64 (total_of front +ℤ total_of xs) held ∙ sym (total-two front xs)

  pub exact-carries : (front : List ℤ) (parts : List (List ℤ)) → length (front ++ joined parts) ≤ 2 ^ 32 → AllPass is_number (front ++ joined parts)
      → scan_of long_sum_of (total_of front) (map total_of parts) ≡ scan_of ◌+ℤ◌ (total_of front) (map total_of parts)
  exact-carries front [] few numbers = refl
  exact-carries front (xs ∷ parts) few numbers =
      let same : front ++ (xs ++ joined parts) ≡ (front ++ xs) ++ joined parts = sym (append_assoc front xs (joined parts)) in
      let fewer : length ((front ++ xs) ++ joined parts) ≤ 2 ^ 32 = subst (λ zs. length zs ≤ 2 ^ 32) same few in
      let all : AllPass is_number ((front ++ xs) ++ joined parts) = subst (AllPass is_number) same numbers in
      let sums : List ℤ = map total_of parts in
      scan_of-cons long_sum_of (total_of front) (total_of xs) sums
      ∙ ap (λ z. total_of front ∷ scan_of long_sum_of z sums) (next front xs (joined parts) fewer all)
      ∙ ap (λ zs. total_of front ∷ zs) (exact-carries (front ++ xs) parts fewer all)
      ∙ ap (λ z. total_of front ∷ scan_of ◌+ℤ◌ z sums) (total-two front xs)
      ∙ sym (scan_of-cons ◌+ℤ◌ (total_of front) (total_of xs) sums)

  pub exact-total : (front : List ℤ) (parts : List (List ℤ)) → length (front ++ joined parts) ≤ 2 ^ 32 → AllPass is_number (front ++ joined parts)
      → fold long_sum_of (total_of front) (map total_of parts) ≡ total_of (front ++ joined parts)
  exact-total front [] few numbers = ap total_of (sym (append-nil front))
  exact-total front (xs ∷ parts) few numbers =
      let same : front ++ (xs ++ joined parts) ≡ (front ++ xs) ++ joined parts = sym (append_assoc front xs (joined parts)) in
      let fewer : length ((front ++ xs) ++ joined parts) ≤ 2 ^ 32 = subst (λ zs. length zs ≤ 2 ^ 32) same few in
      let all : AllPass is_number ((front ++ xs) ++ joined parts) = subst (AllPass is_number) same numbers in
      ap (λ z. fold long_sum_of z (map total_of parts)) (next front xs (joined parts) fewer all)
      ∙ exact-total (front ++ xs) parts fewer all ∙ ap total_of (sym same)
