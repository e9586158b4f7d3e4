-- Parts of a vector that are cut at any places: which runs begin in each, and that a segment goes on only behind a part that has some of it.
use Rattle.std.proofs.Common.{◌≡◌, ◌++◌, ◌+◌, ◌<◌, ◌≤◌, ◌∙◌, ℕ, ℤ, true, Bool, IsTrue, None, Some, List, [], ◌∷◌, length, map, take, drop, sum, slice_get, All}
use Rattle.std.proofs.Common.{refl, sym, ap, arith, subst, ⊎_elim}
use Rattle.std.proofs.Common.{append_assoc, length-append, take_at, drop_at}
use Rattle.std.proofs.lemmas.Bool.{cases_lt}
use Rattle.std.proofs.lemmas.List.{length-drop, length-map, length-take, map-append, nil_from_length, take-append-drop}
use Rattle.std.proofs.lemmas.List.Elements.{All-head, All-tail}
use Rattle.call_laws.specs.OverRanks.{followed_by, going_on, together}
use Rattle.cvl_base.proofs.Lists.{sum-cons}
use Rattle.cvl_base.specs.Lists.{joined}
use Rattle.cvl_base.specs.Nests.{cut_of}
use Rattle.cvl_base.proofs.Nests.{length-cut}
use Rattle.run_lengths.specs.Runs.{runs_in}
use Rattle.run_parts.specs.Runs.{in_front_of, range_of, runs_in_part}
use Rattle.run_parts.proofs.PartRuns.{bounds, joined-cut-all}
use Rattle.segment_parts.specs.Reduces.{but_last, is_part}
use Rattle.step_laws.proofs.CutBounds.{but_last-more}
use Rattle.step_laws.proofs.Filled.{lengths-going_on, same-front, sums-cut}
use Rattle.step_laws.proofs.RunsTogether.{GoOn, behind-parted, last_list, last_of, last_of-append, run_part, runs_on}
use Rattle.step_laws.specs.ReduceParts.{ReducePart, elements_of, segments_in}
use Rattle.step_laws.specs.RunParts.{AreAt, HasFirsts, RunPart, parts_of}

module _ {X : Type 0} where
  abbrev pub IsPart : ReducePart X ℤ → Type 0
  IsPart p = IsTrue (is_part p.head p.lengths (length p.elements))

  -- a part's head and what it has of its segments are its elements
  pub elements-are : (p : ReducePart X ℤ) → IsPart p → (segments_in p).0 ++ joined (segments_in p).1 ≡ p.elements
  elements-are p is =
      let few : length (drop p.head p.elements) ≤ sum p.lengths = omega (arith, length-drop p.head p.elements, (bounds p.head p.lengths (length p.elements) is).1) in
      ap (λ ys. take p.head p.elements ++ ys) (joined-cut-all p.lengths (drop p.head p.elements) few) ∙ take-append-drop p.head p.elements

  -- ---- a segment goes on behind a part that has some of it

  last-cut : (l : ℕ) (lengths : List ℕ) (xs : List X) → length xs ≤ sum (l ∷ lengths)
      → length xs ≤ sum (but_last (l ∷ lengths)) + length (last_list (cut_of (l ∷ lengths) xs))
  last-cut l [] xs few = omega (arith, few, length-take l xs, sum-cons l [])
  last-cut l (l2 ∷ lengths) xs few =
      omega (arith, but_last-more l l2 lengths, length-drop l xs, last-cut l2 lengths (drop l xs) (omega (arith, few, length-drop l xs, sum-cons l (l2 ∷ lengths))))

  only-some : (head l : ℕ) (ls : List ℕ) (els more : List X) → is_part head (l ∷ ls) (length els) ≡ true
      → (length els < head + sum (l ∷ ls) → head + sum (but_last (l ∷ ls)) < length els)
      → map length (going_on (take l (drop head els)) (cut_of ls (drop l (drop head els))) more) ≡ l ∷ ls
      → last_list (cut_of (l ∷ ls) (drop head els)) ≡ [] → more ≡ []
  only-some head l ls els more is firsts same none =
      let xs = drop head els in
      let fit = bounds head (l ∷ ls) (length els) is in
      let total = ap sum same in
      let grown = (lengths-going_on (take l xs) (cut_of ls (drop l xs)) more).0 in
      let cut = sums-cut (l ∷ ls) xs in
      let long = length-drop head els in
      let last : length xs ≤ sum (but_last (l ∷ ls)) + length (last_list (cut_of (l ∷ ls) xs)) = last-cut l ls xs (omega (arith, long, fit.1)) in
      let nothing : length (last_list (cut_of (l ∷ ls) xs)) ≡ 0 = ap length none in
      ⊎_elim
      (λ (short : length els < head + sum (l ∷ ls)). absurd (omega (arith, firsts short, last, nothing, long)))
      (λ (whole : head + sum (l ∷ ls) ≤ length els). nil_from_length more (omega (arith, total, grown, cut, long, whole)))
      (cases_lt (length els) (head + sum (l ∷ ls)))

  more-go_on : (ls : List ℕ) (head : ℕ) (els : List X) → is_part head ls (length els) ≡ true
      → (length els < head + sum ls → head + sum (but_last ls) < length els) → (parts : List (List X × List (List X))) (others : List ℕ)
      → (map length (together parts).1 ≡ others → GoOn parts) → map length (followed_by (take head els) (cut_of ls (drop head els)) (together parts)).1 ≡ ls ++ others
      → GoOn ((take head els, cut_of ls (drop head els)) ∷ parts)
  more-go_on [] head els is first parts others rest same = ((λ some none. absurd (omega (arith, some))), rest same)
  more-go_on (l ∷ ls) head els is first parts others rest same =
      let next = together parts in
      let own = going_on (take l (drop head els)) (cut_of ls (drop l (drop head els))) next.0 in
      let long : length (map length own) ≡ length (l ∷ ls) =
      length-map own length ∙ (lengths-going_on (take l (drop head els)) (cut_of ls (drop l (drop head els))) next.0).1 ∙ length-cut (l ∷ ls) (drop head els) in
      let halves = same-front (map length own) (map length next.1) (l ∷ ls) others long (sym (map-append length own next.1) ∙ same) in
      ((λ some none. only-some head l ls els next.0 is first halves.0 none), rest halves.1)

  -- parts whose segments have the lengths that they say
  pub go_on : (parts : List (ReducePart X ℤ)) → All IsPart parts → All HasFirsts parts
      → map length (together (map segments_in parts)).1 ≡ joined (map (λ p. p.lengths) parts) → GoOn (map segments_in parts)
  go_on [] each firsts same = tt
  go_on (p ∷ parts) each firsts same =
      more-go_on p.lengths p.head p.elements (All-head IsPart p parts each) (All-head HasFirsts p parts firsts) (map segments_in parts)
      (joined (map (λ (q : ReducePart X ℤ). q.lengths) parts)) (go_on parts (All-tail IsPart p parts each) (All-tail HasFirsts p parts firsts)) same

module _ {X : Type 0} where
  -- ---- the runs that begin in each part of a vector

  front-from : (y : X) (ys others : List X) → slice_get ((y ∷ ys) ++ others) (length ys) ≡ last_of (Some y) ys
  front-from y [] others = refl
  front-from y (z ∷ zs) others = front-from z zs others

  pub front-is : (before others : List X) → in_front_of (length before) (before ++ others) ≡ last_of None before
  front-is [] others = refl
  front-is (y ∷ ys) others = front-from y ys others

module _ {X : Type 0} (differ : X → X → Bool) (xs : List X) where
  -- those of a part, as its step tells them
  abbrev pub own_runs : RunPart X → List (List X)
  own_runs p = runs_in_part differ (in_front_of p.from xs) p.part.head p.part.lengths (range_of p.from (length p.part.elements) xs)

  pub runs-told : (before : List X) (parts : List (RunPart X)) → xs ≡ before ++ elements_of (parts_of parts) → AreAt (length before) parts → All IsPart (parts_of parts)
      → map own_runs parts ≡ map (λ q. q.1) (runs_on differ (last_of None before) (map segments_in (parts_of parts)))
  runs-told before [] whole at each = refl
  runs-told before (p ∷ parts) whole at each =
      let r = p.part in
      let els = r.elements in
      let rest = elements_of (parts_of parts) in
      let is = All-head IsPart r (parts_of parts) each in
      let here : range_of p.from (length els) xs ≡ els =
      (λ i. take (length els) (drop (at.0 i) (whole i))) ∙ ap (take (length els)) (drop_at before (els ++ rest) (length before) refl) ∙ take_at els rest (length els) refl in
      let front : in_front_of p.from xs ≡ last_of None before = (λ i. in_front_of (at.0 i) (whole i)) ∙ front-is before (els ++ rest) in
      let own : own_runs p ≡ (run_part differ (last_of None before) (segments_in r)).1 =
      (λ i. runs_in_part differ (front i) r.head r.lengths (here i))
      ∙ ap (λ rs. rs ++ runs_in differ (cut_of r.lengths (drop r.head els))) (behind-parted differ (last_of None before) (take r.head els)) in
      let behind : last_of (last_of None before) ((segments_in r).0 ++ joined (segments_in r).1) ≡ last_of None (before ++ els) =
      ap (last_of (last_of None before)) (elements-are r is) ∙ sym (last_of-append None before els) in
      let others = runs-told (before ++ els) parts (whole ∙ sym (append_assoc before els rest))
      (subst (λ n. AreAt n parts) (sym (length-append before els)) at.1) (All-tail IsPart r (parts_of parts) each) in
      (λ i. own i ∷ (others ∙ ap (λ f. map (λ q. q.1) (runs_on differ f (map segments_in (parts_of parts)))) (sym behind)) i)
