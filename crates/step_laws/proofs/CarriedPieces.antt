-- What stands before the pieces of a segmented vector is in 64 bits what it is over whole numbers.
use Rattle.std.proofs.Common.{◌≡◌, ◌++◌, ◌+◌, ◌≤◌, ◌^◌, ◌∙◌, ◌∷◌, ◌+ℤ◌, ℤ, pos, Bool, true, false, FitsSigned, List, [], length, map, if◌then◌else◌, sum}
use Rattle.std.proofs.Common.{refl, sym, ap, arith, append_assoc, length-append, length-drop, subst, take_at, drop_at}
use Rattle.std.specs.Int.{w64}
use Rattle.std.specs.List.{AllPass}
use Rattle.std.proofs.lemmas.List.Elements.{All-append, All-drop, All-take}
use Rattle.cvl_base.specs.Exact.{total_of}
use Rattle.cvl_base.specs.Folds.{scan_of}
use Rattle.cvl_base.specs.ItemWords.{is_number}
use Rattle.cvl_base.specs.Lists.{joined}
use Rattle.cvl_base.specs.SegmentMonoid.{seg_join, seg_unit}
use Rattle.long_sums.specs.LongSums.{long_sum_of}
use Rattle.operators.proofs.FoldLaws.{scan_of-cons}
use Rattle.operators.specs.Booleans.{either}
use Rattle.scan_walks.proofs.WholeSums.{whole_laws}
use Rattle.segment_parts.specs.Carries.{before_each}
use Rattle.step_laws.specs.Pieces.{Piece, tail_of}
use Rattle.step_laws.proofs.Carried.{next, total-two}
use Rattle.step_laws.proofs.PieceScans.{befores, tells, zip-tells}

-- the scan of pairs from what stands behind a piece, in which a segment starts or not
goes-on : (starts started : Bool) (front xs tail : List ℤ) (pairs : List (Bool × ℤ)) → long_sum_of (total_of front) (total_of xs) ≡ total_of (front ++ xs)
    → ((s : Bool) → scan_of (seg_join long_sum_of) (s, total_of tail) pairs ≡ scan_of (seg_join ◌+ℤ◌) (s, total_of tail) pairs)
    → ((s : Bool) → scan_of (seg_join long_sum_of) (s, total_of (front ++ xs)) pairs ≡ scan_of (seg_join ◌+ℤ◌) (s, total_of (front ++ xs)) pairs)
    → scan_of (seg_join long_sum_of) (seg_join long_sum_of (started, total_of front) (starts, total_of (if starts then tail else xs))) pairs
    ≡ scan_of (seg_join ◌+ℤ◌) (seg_join ◌+ℤ◌ (started, total_of front) (starts, total_of (if starts then tail else xs))) pairs
goes-on true started front xs tail pairs fits anew more = anew (either started true)
goes-on false started front xs tail pairs fits anew more =
    ap (λ z. scan_of (seg_join long_sum_of) (either started false, z) pairs) fits ∙ more (either started false)
    ∙ ap (λ z. scan_of (seg_join ◌+ℤ◌) (either started false, z) pairs) (total-two front xs)

-- the elements of pieces, and whether a segment starts in each beside the sum since its last start
abbrev elements_in : List (Piece ℤ) → List ℤ
elements_in ps = joined (map (λ p. p.elements) ps)

abbrev pairs_of : List (Piece ℤ) → List (Bool × ℤ)
pairs_of ps = map (λ p. (p.starts, tells ◌+ℤ◌ (pos 0) p)) ps

module _ (fits : (xs : List ℤ) → length xs ≤ 2 ^ 32 → AllPass is_number xs → FitsSigned w64 (total_of xs)) where
  exact-pairs : (started : Bool) (front : List ℤ) (ps : List (Piece ℤ)) → length (front ++ elements_in ps) ≤ 2 ^ 32 → AllPass is_number (front ++ elements_in ps)
      → scan_of (seg_join long_sum_of) (started, total_of front) (pairs_of ps) ≡ scan_of (seg_join ◌+ℤ◌) (started, total_of front) (pairs_of ps)
  exact-pairs started front [] few numbers = refl
  exact-pairs started front (p ∷ ps) few numbers =
      let rest : List ℤ = elements_in ps in let own : List ℤ = p.elements in
      let k = p.head + sum p.lengths in
      let same : front ++ (own ++ rest) ≡ (front ++ own) ++ rest = sym (append_assoc front own rest) in
      let fewer : length ((front ++ own) ++ rest) ≤ 2 ^ 32 = subst (λ zs. length zs ≤ 2 ^ 32) same few in
      let all : AllPass is_number ((front ++ own) ++ rest) = subst (AllPass is_number) same numbers in
      let behind : AllPass is_number (own ++ rest) =
      subst (AllPass is_number) (drop_at front (own ++ rest) (length front) refl) (All-drop (λ y. is_number y ≡ true) (length front) (front ++ (own ++ rest)) numbers) in
      let of_own : AllPass is_number own = subst (AllPass is_number) (take_at own rest (length own) refl) (All-take (λ y. is_number y ≡ true) (length own) (own ++ rest) behind) in
      let of_rest : AllPass is_number rest = subst (AllPass is_number) (drop_at own rest (length own) refl) (All-drop (λ y. is_number y ≡ true) (length own) (own ++ rest) behind) in
      let few_tail : length (tail_of p ++ rest) ≤ 2 ^ 32 =
      omega (arith, few, length-append front (own ++ rest), length-append own rest, length-append (tail_of p) rest, length-drop k own) in
      let all_tail : AllPass is_number (tail_of p ++ rest) = All-append (λ y. is_number y ≡ true) (tail_of p) rest (All-drop (λ y. is_number y ≡ true) k own of_own) of_rest in
      let pair : Bool × ℤ = (p.starts, tells ◌+ℤ◌ (pos 0) p) in
      scan_of-cons (seg_join long_sum_of) (started, total_of front) pair (pairs_of ps)
      ∙ ap (λ ws. (started, total_of front) ∷ ws)
      (goes-on p.starts started front own (tail_of p) (pairs_of ps) (next fits front own rest fewer all)
      (λ s. exact-pairs s (tail_of p) ps few_tail all_tail) (λ s. exact-pairs s (front ++ own) ps fewer all))
      ∙ sym (scan_of-cons (seg_join ◌+ℤ◌) (started, total_of front) pair (pairs_of ps))

  -- the carries in 64 bits of what all pieces tell
  pub exact-befores : (ps : List (Piece ℤ)) → length (elements_in ps) ≤ 2 ^ 32 → AllPass is_number (elements_in ps)
      → before_each long_sum_of (pos 0) (map (λ p. p.starts) ps) (map (tells ◌+ℤ◌ (pos 0)) ps) ≡ befores whole_laws false (pos 0) ps
  unfolding before_each
  exact-befores ps few numbers =
      ap (λ ws. map (λ w. w.1) (scan_of (seg_join long_sum_of) (seg_unit (pos 0)) ws)) (zip-tells whole_laws ps)
      ∙ ap (map (λ w. w.1)) (exact-pairs false [] ps few numbers)
