-- Counts of runs by steps: those that begin in each part's segments, the last one with those that begin behind the part.
use Rattle.std.proofs.Common.{◌≡◌, ◌++◌, ◌+◌, ◌≤◌, ◌∙◌, ℕ, ℤ, pos, Bool, true, Option, None, Some, List, [], ◌∷◌, length, map, sum, refl, sym}
use Rattle.std.proofs.Common.{ap, arith, if◌then◌else◌, nat_lt}
use Rattle.std.proofs.Common.{length-append}
use Rattle.std.proofs.lemmas.Bool.{lt-ltb}
use Rattle.std.proofs.lemmas.List.{append-nil, map-append}
use Rattle.call_laws.specs.OverRanks.{followed_by, going_on, together}
use Rattle.cvl_base.proofs.Lists.{sum-cons}
use Rattle.cvl_base.specs.Integers.{sum_of}
use Rattle.cvl_base.specs.Limits.{most_places}
use Rattle.cvl_base.specs.Lists.{joined}
use Rattle.run_lengths.specs.Runs.{run_count_of}
use Rattle.segment_parts.specs.Behinds.{goes_on}
use Rattle.segment_parts.specs.Reduces.{join_last}
use Rattle.step_laws.proofs.RunNumbers.{length-going_on, long-going_on, places-add}
use Rattle.step_laws.proofs.RunsTogether.{GoOn, all-parted, last_list, last_of, last_of-append, long-joined, most-parted, parted, parted-append}

module _ {X : Type 0} where
  pub length-followed : (front : List X) (runs : List (List X)) (behind : List X × List (List X)) → length (followed_by front runs behind).1 ≡ length runs + length behind.1
  length-followed front [] behind = omega arith
  length-followed front (run ∷ runs) behind = omega (arith, length-append (going_on run runs behind.0) behind.1, length-going_on run runs behind.0)

module _ {X : Type 0} (differ : X → X → Bool) where
  -- how many runs begin in a list behind an element
  abbrev pub begun_in : Option X → List X → ℕ
  begun_in front xs = length (parted differ front xs).1

  begun-append : (front : Option X) (xs ys : List X) → begun_in front (xs ++ ys) ≡ begun_in front xs + begun_in (last_of front xs) ys
  begun-append front xs ys =
      ap (λ p. length p.1) (parted-append differ front xs ys) ∙ length-followed (parted differ front xs).0 (parted differ front xs).1 (parted differ (last_of front xs) ys)

  count-parted : (segment : List X) → run_count_of differ segment ≡ pos (begun_in None segment)
  count-parted segment = ap (λ (p : List X × List (List X)). pos (length p.1)) (sym (all-parted differ segment))

  -- what goes on of a segment adds to its count
  count-more : (last : Option X) (segment more : List X) → (segment ≡ [] → more ≡ []) → length (segment ++ more) ≤ most_places
      → run_count_of differ (segment ++ more) ≡ sum_of (run_count_of differ segment) (pos (begun_in (last_of last segment) more))
  count-more last [] more only few =
      ap (run_count_of differ) (only refl) ∙ sym (places-add 0 0 (omega arith)) ∙ ap (λ ys. sum_of (pos 0) (pos (begun_in last ys))) (sym (only refl))
  count-more last (x ∷ xs) more only few =
      let both = begun-append None (x ∷ xs) more in
      let most : begun_in None (x ∷ xs) + begun_in (last_of (Some x) xs) more ≤ most_places = omega (arith, both, most-parted differ None ((x ∷ xs) ++ more), few) in
      count-parted ((x ∷ xs) ++ more) ∙ ap pos both ∙ sym (places-add (begun_in None (x ∷ xs)) (begun_in (last_of (Some x) xs) more) most)
      ∙ ap (λ z. sum_of z (pos (begun_in (last_of (Some x) xs) more))) (sym (count-parted (x ∷ xs)))

  counts-going_on : (last : Option X) (segment : List X) (others : List (List X)) (more : List X) → (last_list (segment ∷ others) ≡ [] → more ≡ [])
      → length (joined (segment ∷ others)) + length more ≤ most_places
      → map (run_count_of differ) (going_on segment others more)
      ≡ join_last sum_of (map (run_count_of differ) (segment ∷ others)) (pos (begun_in (last_of last (joined (segment ∷ others))) more))
  counts-going_on last segment [] more only few =
      ap (λ z. z ∷ []) (count-more last segment more only (omega (arith, few, length-append segment [], length-append segment more)))
      ∙ ap (λ ys. sum_of (run_count_of differ segment) (pos (begun_in (last_of last ys) more)) ∷ []) (sym (append-nil segment))
  counts-going_on last segment (other ∷ others) more only few =
      ap (λ zs. run_count_of differ segment ∷ zs)
      (counts-going_on (last_of last segment) other others more only (omega (arith, few, length-append segment (joined (other ∷ others)))))
      ∙ ap (λ l. run_count_of differ segment ∷ join_last sum_of (map (run_count_of differ) (other ∷ others)) (pos (begun_in l more)))
      (sym (last_of-append last segment (joined (other ∷ others))))

  -- ---- parts, each a head and the segments that start behind it

  -- whether a segment starts in each part, and how many runs begin in its head
  abbrev pub pairs_on : Option X → List (List X × List (List X)) → List (Bool × ℤ)
  pairs_on front [] = []
  pairs_on front (p ∷ ps) = (nat_lt 0 (length p.1), pos (begun_in front p.0)) ∷ pairs_on (last_of front (p.0 ++ joined p.1)) ps

  -- the counts of each part, the last one with what goes on behind the part
  abbrev pub counts_on : Option X → List (List X × List (List X)) → List (List ℤ)
  counts_on front [] = []
  counts_on front (p ∷ ps) =
      let next = last_of front (p.0 ++ joined p.1) in
      join_last sum_of (map (run_count_of differ) p.1) (pos (begun_in next (together ps).0)) ∷ counts_on next ps

  abbrev pub size_on : List (List X × List (List X)) → ℕ
  size_on ps = sum (map (λ p. length (p.0 ++ joined p.1)) ps)

  pub goes-on : (front : Option X) (ps : List (List X × List (List X))) → size_on ps ≤ most_places
      → (goes_on sum_of (pos 0) (pairs_on front ps) ≡ pos (begun_in front (together ps).0)) × (length (together ps).0 + length (joined (together ps).1) ≡ size_on ps)
  goes-on front [] few = (refl, refl)
  goes-on front ((head, []) ∷ ps) few =
      let next = last_of front (head ++ []) in
      let h = (together ps).0 in
      let sized = sum-cons (length (head ++ [])) (map (λ (p : List X × List (List X)). length (p.0 ++ joined p.1)) ps) in
      let whole = length-append head [] in
      let rest = goes-on next ps (omega (arith, few, sized)) in
      let both : begun_in front (head ++ h) ≡ begun_in front head + begun_in next h =
      begun-append front head h ∙ ap (λ ys. begun_in front head + begun_in (last_of front ys) h) (sym (append-nil head)) in (
        ap (sum_of (pos (begun_in front head))) rest.0
            ∙ places-add (begun_in front head) (begun_in next h)
            (omega (arith, most-parted differ front head, most-parted differ next h, few, sized, whole, rest.1))
            ∙ ap pos (sym both),
        omega (arith, rest.1, sized, whole, length-append head h),
      )
  goes-on front ((head, segment ∷ others) ∷ ps) few =
      let segments = segment ∷ others in
      let next = last_of front (head ++ joined segments) in
      let h = (together ps).0 in
      let sized = sum-cons (length (head ++ joined segments)) (map (λ (p : List X × List (List X)). length (p.0 ++ joined p.1)) ps) in
      let rest = goes-on next ps (omega (arith, few, sized)) in
      let starts : nat_lt 0 (length segments) ≡ true = lt-ltb 0 (length segments) (omega arith) in (
        ap (λ b. if b then pos (begun_in front head) else sum_of (pos (begun_in front head)) (goes_on sum_of (pos 0) (pairs_on next ps))) starts,
        omega (arith, rest.1, sized, length-append head (joined segments), long-joined (going_on segment others h) (together ps).1, long-going_on segment others h),
      )

  -- what goes on behind each part, and the counts of all parts
  pub counts-together : (front : Option X) (ps : List (List X × List (List X))) → GoOn ps → size_on ps ≤ most_places
      → map (run_count_of differ) (together ps).1 ≡ joined (counts_on front ps)
  counts-together front [] go_on few = refl
  counts-together front ((head, []) ∷ ps) go_on few =
      counts-together (last_of front (head ++ [])) ps go_on.1 (omega (arith, few, sum-cons (length (head ++ [])) (map (λ (p : List X × List (List X)). length (p.0 ++ joined p.1)) ps)))
  counts-together front ((head, segment ∷ others) ∷ ps) go_on few =
      let segments = segment ∷ others in
      let next = last_of front (head ++ joined segments) in
      let h = (together ps).0 in
      let sized = sum-cons (length (head ++ joined segments)) (map (λ (p : List X × List (List X)). length (p.0 ++ joined p.1)) ps) in
      let smaller : size_on ps ≤ most_places = omega (arith, few, sized) in
      let rest = goes-on next ps smaller in
      let own = counts-going_on (last_of front head) segment others h (go_on.0 (omega arith))
      (omega (arith, few, sized, rest.1, length-append head (joined segments))) in
      map-append (run_count_of differ) (going_on segment others h) (together ps).1
      ∙ (λ i. (own ∙ ap (λ l. join_last sum_of (map (run_count_of differ) segments) (pos (begun_in l h))) (sym (last_of-append front head (joined segments)))) i
      ++ counts-together next ps go_on.1 smaller i)
