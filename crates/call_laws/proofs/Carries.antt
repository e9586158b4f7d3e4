-- Segmented scans and reduces of vectors that are cut inside a segment, or between two.
use Rattle.call_laws.proofs.Cited.{rules, ◌≡◌, ◌+◌, ◌∷◌, ◌++◌, ◌∙◌, ◌>>=◌, ℕ, List, [], length, take, drop, map, refl, sym, ap, arith, append_assoc, append-nil, length-append, length-drop, Ok, Err}
use Rattle.call_laws.proofs.Cited.{Result, sum, drop-append-le, length-map, map-append, same_from_push, take_all, sum_by-append, fold-append, take-append-add, fold_of, scan_of, joined, nest, cut_of}
use Rattle.call_laws.proofs.Cited.{in_vector, one_each, sum-cons, length-cut, nest-fits, results-ok, length-scan_of, scan_of-append, drop-append-add, Fault, seg_reduce_of, seg_scan_of, each_after}
use Rattle.call_laws.proofs.Cited.{seg_scan_after, seg_reduce_after}
use Rattle.call_laws.proofs.Cuts.{nest-meaning}
use Rattle.call_laws.proofs.Segments.{each-ok}
use Rattle.call_laws.proofs.SegmentsInTwo.{cut-append, cut-front, nest-between}
use Rattle.call_laws.proofs.TwoParts.{AreTwo, joined-append}

-- what stands before a segment that is behind others
abbrev pub before_next : {Item : Type 0} → Item → Item → List (List Item) → Item
before_next unit carry [] = carry
before_next unit carry (first ∷ others) = unit

module _ {Item R : Type 0} (call : Item → List Item → R) (unit : Item) where
  pub each-plain : (segments : List (List Item)) → each_after call unit unit segments ≡ map (call unit) segments
  each-plain [] = refl
  each-plain (first ∷ others) = refl

  -- from the unit on it is the segmented call
  plain-then : {Y : Type 0} (place : ℕ → ℕ → ℕ) (segments : Result (List (List Item)) Fault) (next : List R → Result Y Fault)
      → (segments >>= λ ss. next (each_after call unit unit ss)) ≡ (one_each place (λ s. Ok (call unit s)) segments >>= next)
  plain-then place (Ok ss) next = rw (each-plain ss, results-ok place (call unit) 0 ss)
  plain-then place (Err e) next = refl

  each-behind : (carry : Item) (before : List (List Item)) (segment : List Item) (others : List (List Item))
      → each_after call unit carry (before ++ segment ∷ others) ≡ each_after call unit carry before ++ call (before_next unit carry before) segment ∷ map (call unit) others
  each-behind carry [] segment others = refl
  each-behind carry (first ∷ before) segment others = ap (λ rs. call carry first ∷ rs) (map-append (call unit) before (segment ∷ others))

module _ {Item : Type 0} (join : Item → Item → Item) (unit : Item) (xs : List Item) (lengths : List ℕ) where
  pub scan-plain : seg_scan_after join unit unit xs lengths ≡ seg_scan_of join unit xs lengths
  scan-plain = plain-then (scan_of join) unit (in_vector lengths) (nest lengths xs) (λ lists. Ok (joined lists))

  pub reduce-plain : seg_reduce_after join unit unit xs lengths ≡ seg_reduce_of join unit xs lengths
  reduce-plain = simp (each-plain (fold_of join) unit) (sym (each-ok (in_vector lengths) (fold_of join unit) (nest lengths xs)))

-- ---- the segments of a vector that is cut inside one

module _ {X : Type 0} (lengths : List ℕ) (m : ℕ) (xs : List X) (total : sum lengths + m ≡ length xs) where
  pub nest-first : nest (lengths ++ m ∷ []) xs ≡ Ok (cut_of lengths xs ++ drop (sum lengths) xs ∷ [])
  nest-first = search (rules, nest-fits, sum_by-append, sum-cons, cut-append, take_all, length-drop)

  pub nest-inside : (n : ℕ) (more : List ℕ) (ys : List X) → n + sum more ≡ length ys
      → nest (lengths ++ (m + n) ∷ more) (xs ++ ys) ≡ Ok (cut_of lengths xs ++ (drop (sum lengths) xs ++ take n ys) ∷ cut_of more (drop n ys))
  nest-inside n more ys also_total = search (rules, length-drop, nest-fits, sum_by-append, sum-cons, length-append, cut-append, cut-front, drop-append-le, take-append-add, drop-append-add)

pub nest-second : {X : Type 0} (n : ℕ) (more : List ℕ) (ys : List X) → n + sum more ≡ length ys → nest (n ∷ more) ys ≡ Ok (take n ys ∷ cut_of more (drop n ys))
nest-second n more ys also_total = nest-fits (n ∷ more) ys (omega (arith, also_total, sum-cons n more))

-- ---- cut inside a segment: the segments before it, its two parts, and the segments behind it

module _ {Item : Type 0} (join : Item → Item → Item) (unit carry : Item) (before : List (List Item)) (first second : List Item) (behind : List (List Item))
    (closed : List Item) (out : Item) (reduced : each_after (fold_of join) unit carry (before ++ first ∷ []) ≡ closed ++ out ∷ []) where
  -- the reduces of the segments before it, and the carry
  carried : (each_after (fold_of join) unit carry before ≡ closed) × (fold_of join (before_next unit carry before) first ≡ out)
  carried = search (rules, same_from_push, each-behind)

  reduces_inside : each_after (fold_of join) unit carry (before ++ (first ++ second) ∷ behind) ≡ closed ++ each_after (fold_of join) unit out (second ∷ behind)
  reduces_inside =
      rw (each-behind (fold_of join) unit carry before (first ++ second) behind, fold-append join (before_next unit carry before) first second, carried.0, carried.1)

  scans_inside : joined (each_after (scan_of join) unit carry (before ++ (first ++ second) ∷ behind))
      ≡ joined (each_after (scan_of join) unit carry (before ++ first ∷ [])) ++ joined (each_after (scan_of join) unit out (second ∷ behind))
  scans_inside = search (rules, each-behind, joined-append, scan_of-append, carried, append_assoc, append-nil)

module _ {Item : Type 0} (join : Item → Item → Item) (unit : Item) where
  length-each : (carry : Item) (segments : List (List Item)) → length (joined (each_after (scan_of join) unit carry segments)) ≡ length (joined segments)
  length-each carry [] = refl
  length-each carry (xs ∷ segments) = search (rules, length-append, length-scan_of, each-plain, length-each unit segments)

  scans-long : (carry : Item) (xs : List Item) (lengths : List ℕ) (segments : List (List Item)) → nest lengths xs ≡ Ok segments
      → length (joined (each_after (scan_of join) unit carry segments)) ≡ length xs
  scans-long carry xs lengths segments cut = length-each carry segments ∙ ap length ((nest-meaning lengths xs segments).0 cut).has_elements

module _ {Item : Type 0} (join : Item → Item → Item) (unit carry : Item) (lengths : List ℕ) (m n : ℕ) (more : List ℕ) (xs ys closed : List Item) (out : Item)
    (total : sum lengths + m ≡ length xs) (also_total : n + sum more ≡ length ys)
    (reduced : seg_reduce_after join unit carry xs (lengths ++ m ∷ []) ≡ Ok (closed ++ out ∷ [])) where
  first_reduces : each_after (fold_of join) unit carry (cut_of lengths xs ++ drop (sum lengths) xs ∷ []) ≡ closed ++ out ∷ []
  first_reduces = search (rules, nest-first)

  pub scans-inside : AreTwo (seg_scan_after join unit carry (xs ++ ys) (lengths ++ (m + n) ∷ more)) (seg_scan_after join unit carry xs (lengths ++ m ∷ []))
      (seg_scan_after join unit out ys (n ∷ more)) (length xs) (length ys)
  scans-inside =
      let front = nest-first lengths m xs total in
      let back = nest-second n more ys also_total in
      record {
        before = joined (each_after (scan_of join) unit carry (cut_of lengths xs ++ drop (sum lengths) xs ∷ []));
        others = joined (each_after (scan_of join) unit out (take n ys ∷ cut_of more (drop n ys)));
        together = rw (nest-inside lengths m xs total n more ys also_total)
            (ap Ok (scans_inside join unit carry (cut_of lengths xs) (drop (sum lengths) xs) (take n ys) (cut_of more (drop n ys)) closed out first_reduces));
        one = rw front;
        other = rw back;
        many = scans-long join unit carry xs (lengths ++ m ∷ []) _ front;
        also_many = scans-long join unit out ys (n ∷ more) _ back;
      }

  pub reduces-inside : AreTwo (seg_reduce_after join unit carry (xs ++ ys) (lengths ++ (m + n) ∷ more)) (Ok closed) (seg_reduce_after join unit out ys (n ∷ more)) (length closed) (1 + length more)
  reduces-inside = record {
    before = closed;
    others = each_after (fold_of join) unit out (take n ys ∷ cut_of more (drop n ys));
    together = rw (nest-inside lengths m xs total n more ys also_total)
        (ap Ok (reduces_inside join unit carry (cut_of lengths xs) (drop (sum lengths) xs) (take n ys) (cut_of more (drop n ys)) closed out first_reduces));
    one = refl;
    other = rw (nest-second n more ys also_total);
    many = refl;
    also_many = omega (arith, length-map (cut_of more (drop n ys)) (fold_of join unit), length-cut more (drop n ys));
  }

-- ---- cut between segments, of which the first part has one at least

each-between : {Item R : Type 0} (call : Item → List Item → R) (unit carry : Item) (first : List Item) (before others : List (List Item))
    → each_after call unit carry ((first ∷ before) ++ others) ≡ each_after call unit carry (first ∷ before) ++ each_after call unit unit others
each-between call unit carry first before others = rw (map-append (call unit) before others, each-plain call unit others)

module _ {Item : Type 0} (join : Item → Item → Item) (unit carry : Item) (k : ℕ) (lengths more : List ℕ) (xs ys : List Item)
    (total : sum (k ∷ lengths) ≡ length xs) (also_total : sum more ≡ length ys) where
  pub scans-between : AreTwo (seg_scan_after join unit carry (xs ++ ys) ((k ∷ lengths) ++ more)) (seg_scan_after join unit carry xs (k ∷ lengths))
      (seg_scan_after join unit unit ys more) (length xs) (length ys)
  scans-between =
      let scans = each_after (scan_of join) unit in
      let front = nest-fits (k ∷ lengths) xs total in
      let back = nest-fits more ys also_total in
      record {
        before = joined (scans carry (cut_of (k ∷ lengths) xs));
        others = joined (scans unit (cut_of more ys));
        together = rw (nest-between (k ∷ lengths) more xs ys total also_total)
            (ap Ok (ap joined (each-between (scan_of join) unit carry (take k xs) (cut_of lengths (drop k xs)) (cut_of more ys))
            ∙ joined-append (scans carry (cut_of (k ∷ lengths) xs)) (scans unit (cut_of more ys))));
        one = rw front;
        other = rw back;
        many = scans-long join unit carry xs (k ∷ lengths) _ front;
        also_many = scans-long join unit unit ys more _ back;
      }

  pub reduces-between : AreTwo (seg_reduce_after join unit carry (xs ++ ys) ((k ∷ lengths) ++ more)) (seg_reduce_after join unit carry xs (k ∷ lengths))
      (seg_reduce_after join unit unit ys more) (length (k ∷ lengths)) (length more)
  reduces-between = record {
    before = each_after (fold_of join) unit carry (cut_of (k ∷ lengths) xs);
    others = each_after (fold_of join) unit unit (cut_of more ys);
    together = rw (nest-between (k ∷ lengths) more xs ys total also_total) (ap Ok (each-between (fold_of join) unit carry (take k xs) (cut_of lengths (drop k xs)) (cut_of more ys)));
    one = rw (nest-fits (k ∷ lengths) xs total);
    other = rw (nest-fits more ys also_total);
    many = omega (arith, length-map (cut_of lengths (drop k xs)) (fold_of join unit), length-cut lengths (drop k xs));
    also_many = ap length (each-plain (fold_of join) unit (cut_of more ys)) ∙ length-map (cut_of more ys) (fold_of join unit) ∙ length-cut more ys;
  }
