-- A list that is written over from its front on: from the place that is next on it is as before.
-- Source: what the definitions of take, drop and set imply.
use Rattle.scan_walks.proofs.Cited.{◌≡◌, ◌∙◌, ◌+◌, ◌≤◌, ◌++◌, ℕ, List, drop, get_or, length, min, take, refl, sym, ap, arith, sum, drop-drop, get_or-drop, length-drop, length-take}
use Rattle.scan_walks.proofs.Cited.{length-scans_of, scans_of, set, append_assoc, drop-set-lt, range_left, scans_left}
use Rattle.std.proofs.lemmas.Slice.{drop-put_mid, take-put_mid}
use borrow.Rule.Slice.PartMut.{put_mid}

module _ {X : Type 0} (now before : List X) (i : ℕ) (left : drop i now ≡ drop i before) where
  -- what stands at the place
  pub still_at : (d : X) → get_or now i d ≡ get_or before i d
  still_at d =
      let at : (xs : List X) → get_or (drop i xs) 0 d ≡ get_or xs i d = λ xs. get_or-drop i xs 0 d ∙ ap (λ k. get_or xs k d) (omega arith) in
      sym (at now) ∙ ap (λ xs. get_or xs 0 d) left ∙ at before

  -- and behind it, once the place is written
  pub still_behind : (x : X) → drop (i + 1) (set now i x) ≡ drop (i + 1) before
  still_behind x = drop-set-lt (i + 1) now i x (omega arith) ∙ sym (drop-drop 1 i now) ∙ ap (drop 1) left ∙ drop-drop 1 i before

-- ---- a walk over segments, which has written over those before s, up to place `start`

pub record Scanning {Item : Type 0} (join : Item → Item → Item) (unit : Item) (lengths : List ℕ) (before now : List Item) (start s : ℕ) : Type 0 where
  pub total : start + sum (drop s lengths) ≡ length before
  -- what is written, with the scans of the segments left, is the whole
  pub whole : take start now ++ scans_of join unit (drop s lengths) (drop start before) ≡ scans_of join unit lengths before
  pub left : drop start now ≡ drop start before

module _ {Item : Type 0} {join : Item → Item → Item} {unit : Item} {lengths : List ℕ} {before now : List Item} {start s : ℕ} (done : Scanning join unit lengths before now start s)
    (k n : ℕ) (is_n : n ≡ sum (take k (drop s lengths))) (long : length now ≡ length before) where
  -- k more segments, which have n elements together
  pub segments_fit : start + n ≤ length now
  segments_fit = omega (arith, is_n, done.total, long, range_left lengths s k (s + k) refl)

  module _ (m : ℕ) (is_m : m ≡ n) (written : List Item) (is : written ≡ scans_of join unit (take k (drop s lengths)) (take m (drop start now))) where
    length_written : length written ≡ n
    length_written =
        let there : length (take m (drop start now)) ≡ n = omega (arith, segments_fit, is_m, length-take m (drop start now), length-drop start now) in
        ap length is ∙ length-scans_of join unit (take k (drop s lengths)) (take m (drop start now)) (omega (arith, there, is_n)) ∙ there

    pub scanning_more : (later end : ℕ) → later ≡ s + k → end ≡ start + n → Scanning join unit lengths before (put_mid start m now written) end later
    scanning_more later end is_later is_end =
        let fits = segments_fit in
        let rest = drop start before in
        let cut : n ≡ min n (length rest) = omega (arith, fits, long, length-drop start before) in
        let behind : drop n rest ≡ drop end before = drop-drop n start before ∙ ap (λ j. drop j before) (sym is_end) in
        let as_scanned : written ≡ scans_of join unit (take k (drop s lengths)) (take n rest) = is ∙ (λ i. scans_of join unit (take k (drop s lengths)) (take (is_m i) (done.left i))) in
        let others = scans_of join unit (drop later lengths) (drop n rest) in
        let front = take-put_mid start m now written end (omega (arith, is_end, length_written)) (omega (arith, fits)) in
        let parted = scans_left join unit s k n later n lengths rest is_later is_n cut in
        record {
          total = omega (arith, is_n, is_end, done.total, range_left lengths s k later is_later);
          whole = (λ i. front i ++ scans_of join unit (drop later lengths) (sym behind i))
              ∙ append_assoc (take start now) written others
              ∙ ap (λ ys. take start now ++ ys) (ap (λ ys. ys ++ others) as_scanned ∙ sym parted)
              ∙ done.whole;
          left = drop-put_mid start m now written end (omega (arith, is_m, is_end)) (omega (arith, fits, is_end)) (length_written ∙ sym is_m)
              ∙ ap (λ j. drop j now) is_end ∙ sym (drop-drop n start now) ∙ ap (drop n) done.left ∙ behind;
        }
