-- The segments of two vectors in pairs: where they stand in their vectors, and how long they are together.
use Rattle.std.proofs.Common.{◌≡◌, ◌≢◌, ◌∙◌, ℕ, ◌+◌, ◌<◌, ◌≤◌, List, [], ◌∷◌, ◌++◌, length, take, drop, get_or, map, sum, zip, refl, sym, ap, append_assoc, arith, length-append, length-drop}
use Rattle.std.proofs.Common.{length-take-le, Ok, Err}
use Rattle.std.proofs.lemmas.List.{get_or-map, length-map}
use Rattle.std.proofs.lemmas.List.Sums.{sum_by_more}
use Rattle.std.proofs.lemmas.Slice.Zip.{get_or-zip, length-zip}
use Rattle.cvl_base.specs.declared.fault.FaultNo.TheVariants.{LengthMismatch}
use Rattle.cvl_base.specs.Faults.{fault}
use Rattle.cvl_base.specs.Gives.{◌>>=◌}
use Rattle.cvl_base.specs.Lists.{joined}
use Rattle.cvl_base.specs.Nests.{cut_of, nest}
use Rattle.cvl_base.specs.Segmented.{beside, of_two}
use Rattle.cvl_base.proofs.Lists.{sum-cons}
use Rattle.cvl_base.proofs.Nests.{cut_at, length-cut, nest-fits}
use Rattle.cvl_base.proofs.Segmented.{beside-fits, beside-misfits}
use Rattle.segdes.proofs.Sums.{segment_within}
use Rattle.segment_slices.specs.Pairs.{append_segments_of, pairs_of}
use Rattle.segment_slices.proofs.Written.{IsWritten, next_fits, written_more}

-- all pairs together
pairs_long : {X : Type 0} (ns ms : List ℕ) (xs ys : List X) → length ns ≡ length ms → sum ns ≤ length xs → sum ms ≤ length ys → length (pairs_of xs ns ys ms) ≡ sum ns + sum ms
pairs_long [] [] xs ys count within other_within = refl
pairs_long [] (m ∷ ms) xs ys count within other_within = absurd (omega (arith, count))
pairs_long (n ∷ ns) [] xs ys count within other_within = absurd (omega (arith, count))
pairs_long (n ∷ ns) (m ∷ ms) xs ys count within other_within =
    length-append (take n xs ++ take m ys) (pairs_of (drop n xs) ns (drop m ys) ms)
    ∙ omega (
      arith,
      length-append (take n xs) (take m ys),
      sum-cons n ns,
      sum-cons m ms,
      length-drop n xs,
      length-drop m ys,
      length-take-le n xs (omega (arith, within, sum-cons n ns)),
      length-take-le m ys (omega (arith, other_within, sum-cons m ms)),
      pairs_long ns ms (drop n xs) (drop m ys) (omega (arith, count)) (omega (arith, within, sum-cons n ns, length-drop n xs)) (omega (arith, other_within, sum-cons m ms, length-drop m ys)),
    )

module _ {X : Type 0} (xs : List X) (ns : List ℕ) (ys : List X) (ms : List ℕ) where
  abbrev pub pairs : List (List X)
  pairs = map (of_two ◌++◌) (zip (cut_of ns xs) (cut_of ms ys))

  module _ (count : length ns ≡ length ms) where
    many : length (zip (cut_of ns xs) (cut_of ms ys)) ≡ length ns
    many = length-zip (cut_of ns xs) (cut_of ms ys) ∙ omega (arith, count, length-cut ns xs, length-cut ms ys)

    pub pairs_many : length pairs ≡ length ns
    pairs_many = length-map (zip (cut_of ns xs) (cut_of ms ys)) (of_two ◌++◌) ∙ many

    -- pair s
    pair_is : (s : ℕ) → s < length ns → take (get_or ns s 0) (drop (sum (take s ns)) xs) ++ take (get_or ms s 0) (drop (sum (take s ms)) ys) ≡ get_or pairs s []
    pair_is s lt =
        let below : s < length ms = omega (arith, count, lt) in
        (λ i. sym (cut_at ns xs s lt) i ++ sym (cut_at ms ys s below) i)
        ∙ ap (of_two ◌++◌) (sym (get_or-zip (cut_of ns xs) (cut_of ms ys) s ([], []) (omega (arith, lt, length-cut ns xs)) (omega (arith, below, length-cut ms ys))))
        ∙ sym (get_or-map (of_two ◌++◌) (zip (cut_of ns xs) (cut_of ms ys)) s ([], []) [] (omega (arith, lt, many)))

  -- ---- where the lengths are those of the vectors

  module _ (total : sum ns ≡ length xs) (other_total : sum ms ≡ length ys) where
    nested : beside (nest ns xs) (nest ms ys) ≡ beside (Ok (cut_of ns xs)) (Ok (cut_of ms ys))
    nested = λ i. beside (nest-fits ns xs total i) (nest-fits ms ys other_total i)

    pub append_right : length ns ≡ length ms → append_segments_of xs ns ys ms ≡ Ok (pairs_of xs ns ys ms)
    append_right count =
        ap (λ r. r >>= λ segments. Ok (joined (map (of_two ◌++◌) segments)))
        (nested ∙ beside-fits (cut_of ns xs) (cut_of ms ys) (length-cut ns xs ∙ count ∙ sym (length-cut ms ys)))

    pub append_fails : length ns ≢ length ms → append_segments_of xs ns ys ms ≡ Err (fault LengthMismatch)
    append_fails differ =
        ap (λ r. r >>= λ segments. Ok (joined (map (of_two ◌++◌) segments)))
        (nested ∙ beside-misfits (cut_of ns xs) (cut_of ms ys) (λ same. differ (sym (length-cut ns xs) ∙ same ∙ length-cut ms ys)))

    pub append_long : length ns ≡ length ms → length (pairs_of xs ns ys ms) ≡ length xs + length ys
    append_long count = omega (arith, pairs_long ns ms xs ys count (omega (arith, total)) (omega (arith, other_total)), total, other_total)

-- ---- the walk from pair to pair

-- what it has come to at pair s
pub record IsPaired {X : Type 0} (xs : List X) (ns : List ℕ) (ys : List X) (ms : List ℕ) (s first second end : ℕ) (out : List X) : Type 0 where
  pub first_is : first ≡ sum (take s ns)
  pub second_is : second ≡ sum (take s ms)
  pub end_is : end ≡ first + second
  pub written : IsWritten (pairs xs ns ys ms) s end out

-- the segments that it copies there
pub record IsPair {X : Type 0} (xs : List X) (ns : List ℕ) (ys : List X) (ms : List ℕ) (s first second n m : ℕ) : Type 0 where
  pub one : s < length (pairs xs ns ys ms)
  pub is : take n (drop first xs) ++ take m (drop second ys) ≡ get_or (pairs xs ns ys ms) s []
  pub long : length (take n (drop first xs) ++ take m (drop second ys)) ≡ n + m
  pub first_within : first + n ≤ length xs
  pub second_within : second + m ≤ length ys
  pub next_first : first + n ≡ sum (take (s + 1) ns)
  pub next_second : second + m ≡ sum (take (s + 1) ms)

module _ {X : Type 0} {xs : List X} {ns : List ℕ} {ys : List X} {ms : List ℕ} {s first second end : ℕ} {out : List X} (to : IsPaired xs ns ys ms s first second end out) where
  pub pair_at : length ns ≡ length ms → sum ns ≡ length xs → sum ms ≡ length ys → s < length ns → (n m : ℕ) → n ≡ get_or ns s 0 → m ≡ get_or ms s 0 → IsPair xs ns ys ms s first second n m
  pair_at count total other_total lt n m n_is m_is =
      let below : s < length ms = omega (arith, count, lt) in
      let first_within : first + n ≤ length xs = omega (arith, to.first_is, n_is, segment_within ns s lt, total) in
      let second_within : second + m ≤ length ys = omega (arith, to.second_is, m_is, segment_within ms s below, other_total) in
      record {
        one = omega (arith, lt, pairs_many xs ns ys ms count);
        is = (λ i. take (n_is i) (drop (to.first_is i) xs) ++ take (m_is i) (drop (to.second_is i) ys)) ∙ pair_is xs ns ys ms count s lt;
        long = length-append (take n (drop first xs)) (take m (drop second ys))
            ∙ omega (
              arith,
              length-take-le n (drop first xs) (omega (arith, length-drop first xs, first_within)),
              length-take-le m (drop second ys) (omega (arith, length-drop second ys, second_within)),
            );
        first_within = first_within;
        second_within = second_within;
        next_first = omega (arith, to.first_is, n_is, sum_by_more (λ x. x) ns s 0 lt);
        next_second = omega (arith, to.second_is, m_is, sum_by_more (λ x. x) ms s 0 below);
      }

  module _ {n m : ℕ} (pair : IsPair xs ns ys ms s first second n m) where
    pub pair_fits : end + (n + m) ≤ length out
    pair_fits = omega (arith, next_fits to.written (take n (drop first xs) ++ take m (drop second ys)) pair.one pair.is, pair.long)

    -- both are copied
    pub paired_more : (between new : List X) → length between ≡ length out → length new ≡ length between → take (end + n) between ≡ take end out ++ take n (drop first xs)
        → take (end + n + m) new ≡ take (end + n) between ++ take m (drop second ys) → IsPaired xs ns ys ms (s + 1) (first + n) (second + m) (end + (n + m)) new
    paired_more between new same also copied both = record {
      first_is = pair.next_first;
      second_is = pair.next_second;
      end_is = omega (arith, to.end_is);
      written = written_more to.written (take n (drop first xs) ++ take m (drop second ys)) pair.one pair.is new (n + m) (also ∙ same) (sym pair.long)
          (ap (λ k. take k new) (omega arith) ∙ both ∙ ap (λ front. front ++ take m (drop second ys)) copied ∙ append_assoc (take end out) (take n (drop first xs)) (take m (drop second ys)));
    }
