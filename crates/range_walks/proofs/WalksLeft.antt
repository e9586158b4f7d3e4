-- What is left of a walk over segments, and a step of it over the next ones.
-- Source: what the definitions of scans and of reduces imply.
use Rattle.range_walks.proofs.Cited.{◌≡◌, ℕ, ◌+◌, ◌-◌, ◌≤◌, min, true, Bool, List, ◌++◌, length, take, drop, map, sym, subst, ap, ◌∙◌, arith, sum, AllPass, All-drop}
use Rattle.range_walks.proofs.Cited.{drop-map, take-map, length-map, length-take, length-drop, reduces_of, scans_of, Stretch, with_items}
use Rattle.range_walks.proofs.SegmentNumbers.{length-reduced}
use Rattle.range_walks.proofs.Segments.{length-scans_of, range_left, reduces_left, scans_left}
use Rattle.range_walks.proofs.Written.{written_more}

-- scans of segments that have come to segment s, with these elements left: with what is left to write, the whole is written
pub record ScansLeft {X Item : Type 0} (join : Item → Item → Item) (unit : Item) (is_item : Item → Bool) (item : X → Item) (lengths : List ℕ) (xs : List X) (start : Stretch Item) (s : ℕ)
    (rest : List X) (run : Stretch Item) : Type 0 where
  pub whole : with_items run (scans_of join unit (drop s lengths) (map item rest)) ≡ with_items start (scans_of join unit lengths (map item xs))
  pub covered : length rest ≤ sum (drop s lengths)
  pub room : length rest ≤ run.room
  pub items : AllPass (λ x. is_item (item x)) rest

-- the same for reduces
pub record ReducesLeft {X Item : Type 0} (join : Item → Item → Item) (unit : Item) (is_item : Item → Bool) (item : X → Item) (lengths : List ℕ) (xs : List X) (start : Stretch Item) (s : ℕ)
    (rest : List X) (run : Stretch Item) : Type 0 where
  pub whole : with_items run (reduces_of join unit (drop s lengths) (map item rest)) ≡ with_items start (reduces_of join unit lengths (map item xs))
  pub covered : sum (drop s lengths) ≤ length rest
  pub room : length lengths - s ≤ run.room
  pub items : AllPass (λ x. is_item (item x)) rest

module _ {X Item : Type 0} (join : Item → Item → Item) (unit : Item) (is_item : Item → Bool) (item : X → Item) (lengths : List ℕ) (xs : List X) (start : Stretch Item) (s : ℕ) (rest : List X)
    (run : Stretch Item) (k n later : ℕ) (elements others : List X) (next : Stretch Item) where
  others_are_items : (cut : ℕ) → others ≡ drop cut rest → AllPass (λ x. is_item (item x)) rest → AllPass (λ x. is_item (item x)) others
  others_are_items cut back items = subst (λ ys. AllPass (λ x. is_item (item x)) ys) (sym back) (All-drop (λ x. is_item (item x) ≡ true) cut rest items)

  -- the scans of k segments are written, the last of which the end of the elements may cut short
  pub scans_walked : (cut : ℕ) → ScansLeft join unit is_item item lengths xs start s rest run → later ≡ s + k → n ≡ sum (take k (drop s lengths)) → cut ≡ min n (length rest)
      → elements ≡ take cut rest → others ≡ drop cut rest → next ≡ with_items run (scans_of join unit (take k (drop s lengths)) (map item elements))
      → ScansLeft join unit is_item item lengths xs start later others next
  scans_walked cut was is_later is_n is_cut front back written =
      let now = scans_of join unit (take k (drop s lengths)) (map item elements) in
      let of_items : cut ≡ min n (length (map item rest)) = is_cut ∙ ap (min n) (sym (length-map rest item)) in
      let is_elements : map item elements ≡ take cut (map item rest) = ap (map item) front ∙ sym (take-map item cut rest) in
      let is_others : map item others ≡ drop cut (map item rest) = ap (map item) back ∙ sym (drop-map item cut rest) in
      let left : scans_of join unit (drop s lengths) (map item rest) ≡ now ++ scans_of join unit (drop later lengths) (map item others) =
      cc (scans_left join unit s k n later cut lengths (map item rest) is_later is_n of_items, is_elements, is_others) in
      let front_long : length elements ≡ cut = omega (arith, ap length front, length-take cut rest, is_cut) in
      let back_long = ap length back ∙ length-drop cut rest in
      let long = length-scans_of join unit (take k (drop s lengths)) (map item elements) (omega (arith, length-map elements item, front_long, is_cut, is_n)) in
      record {
        whole = written_more run next _ now _ _ written left was.whole;
        covered = omega (arith, was.covered, is_n, is_cut, back_long, range_left lengths s k later is_later);
        room = omega (arith, ap (λ r. r.room) written, long, length-map elements item, is_cut, back_long, front_long, was.room);
        items = others_are_items cut back was.items;
      }

  -- the reduces of k segments are written
  pub reduces_walked : ReducesLeft join unit is_item item lengths xs start s rest run → later ≡ s + k → later ≤ length lengths → n ≡ sum (take k (drop s lengths))
      → elements ≡ take n rest → others ≡ drop n rest → next ≡ with_items run (reduces_of join unit (take k (drop s lengths)) (map item elements))
      → ReducesLeft join unit is_item item lengths xs start later others next
  reduces_walked was is_later within is_n front back written =
      let now = reduces_of join unit (take k (drop s lengths)) (map item elements) in
      let is_elements : map item elements ≡ take n (map item rest) = ap (map item) front ∙ sym (take-map item n rest) in
      let is_others : map item others ≡ drop n (map item rest) = ap (map item) back ∙ sym (drop-map item n rest) in
      let left : reduces_of join unit (drop s lengths) (map item rest) ≡ now ++ reduces_of join unit (drop later lengths) (map item others) =
      cc (reduces_left join unit s k n later lengths (map item rest) is_later is_n, is_elements, is_others) in
      let back_long = ap length back ∙ length-drop n rest in
      let long = length-reduced join unit (take k (drop s lengths)) (map item elements) in
      let count : length (take k (drop s lengths)) ≡ k = omega (arith, length-take k (drop s lengths), length-drop s lengths, is_later, within) in
      record {
        whole = written_more run next _ now _ _ written left was.whole;
        covered = omega (arith, was.covered, is_n, back_long, range_left lengths s k later is_later);
        room = omega (arith, ap (λ r. r.room) written, long, count, is_later, was.room);
        items = others_are_items n back was.items;
      }
