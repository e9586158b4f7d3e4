-- Runs of lists that stand one after another.
use Rattle.segdes.proofs.Cited.{◌≡◌, ◌∙◌, ℕ, zero, suc, ◌+◌, ◌-◌, ◌<◌, ◌≤◌, List, [], ◌∷◌, ◌++◌, length, map, take, drop, get_or, refl, sym, ap, arith, sum, drop-append-add, take-add}
use Rattle.segdes.proofs.Cited.{drop-append-le, drop-drop, get_or-map, length-append, length-drop, length-map, take-append-le, sum_by_more}
use Rattle.cvl_base.specs.Lists.{joined}
use Rattle.cvl_base.proofs.Lists.{sum-cons}
use Rattle.fresh.specs.Parts.{part}
use Rattle.fresh.specs.Places.{Stretch, stretch}
use Rattle.segdes.specs.Starts.{Spans, start_of}
use Rattle.segdes.proofs.Searched.{start_of_mono}

module _ {X : Type 0} where
  -- a part of a list that others follow
  part-front : (xs others : List X) (from count : ℕ) → from + count ≤ length xs → part (xs ++ others) from count ≡ part xs from count
  part-front xs others from count within =
      ap (take count) (drop-append-le from xs others (omega arith)) ∙ take-append-le count (drop from xs) others (omega (arith, length-drop from xs))

  -- a part, and the one after it
  pub part-more : (xs : List X) (first n count : ℕ) → part xs first (n + count) ≡ part xs first n ++ part xs (first + n) count
  part-more xs first n count = take-add n count (drop first xs) ∙ ap (λ ys. part xs first n ++ take count ys) (drop-drop n first xs)

  pub length-joined : (lists : List (List X)) → length (joined lists) ≡ sum (map length lists)
  length-joined [] = refl
  length-joined (xs ∷ lists) = omega (arith, length-append xs (joined lists), length-joined lists, sum-cons (length xs) (map length lists))

  -- a part of one of the lists stands after the lists before it
  pub part-joined : (lists : List (List X)) (s from count : ℕ) → s < length lists → from + count ≤ length (get_or lists s [])
      → part (joined lists) (sum (take s (map length lists)) + from) count ≡ part (get_or lists s []) from count
  part-joined [] s from count lt within = absurd (omega arith)
  part-joined (xs ∷ lists) zero from count lt within =
      let same : 0 + from ≡ from = omega arith in ap (λ k. part (xs ++ joined lists) k count) same ∙ part-front xs (joined lists) from count within
  part-joined (xs ∷ lists) (suc s) from count lt within =
      let starts : sum (length xs ∷ take s (map length lists)) + from ≡ length xs + (sum (take s (map length lists)) + from) =
      omega (arith, sum-cons (length xs) (take s (map length lists))) in
      ap (λ k. part (xs ++ joined lists) k count) starts
      ∙ ap (take count) (drop-append-add xs (joined lists) (sum (take s (map length lists)) + from))
      ∙ part-joined lists s from count (omega arith) within

-- what a walk from segment to segment has written of an empty run, when it comes to segment s and leaves out the items of it that stand before `from`
pub record Written {X : Type 0} (lists : List (List X)) (d : List ℕ) (old : Stretch X) (s from : ℕ) (now : Stretch X) : Type 0 where
  pub count : ℕ
  pub held : now ≡ stretch old.block old.first (part (joined lists) old.first count) (old.room - count)
  pub few : count ≤ old.room
  pub at : old.first + count ≡ start_of d s + from
  pub inside : from ≤ get_or d s 0

module _ {X : Type 0} (lists : List (List X)) (d : List ℕ) (lengths : d ≡ map length lists) where
  pub list-long : (s : ℕ) → s < length d → length (get_or lists s []) ≡ get_or d s 0
  list-long s lt =
      let within : s < length lists = omega (arith, ap length lengths, length-map lists length) in
      sym (ap (λ ns. get_or ns s 0) lengths ∙ get_or-map length lists s [] 0 within)

  pub lists-many : length lists ≡ length d
  lists-many = sym (length-map lists length) ∙ ap length (sym lengths)

  pub whole-long : length (joined lists) ≡ sum d
  whole-long = length-joined lists ∙ ap sum (sym lengths)

  next_start : (s : ℕ) → s < length d → start_of d (s + 1) ≡ start_of d s + get_or d s 0
  next_start s lt = sum_by_more (λ x. x) d s 0 lt

  -- so many more items of a segment
  written-part : (old now next : Stretch X) (s from count : ℕ) → s < length d → from + count ≤ get_or d s 0
      → next ≡ stretch now.block now.first (now.items ++ part (get_or lists s []) from count) (now.room - count)
      → (w : Written lists d old s from now) → next ≡ stretch old.block old.first (part (joined lists) old.first (w.count + count)) (old.room - (w.count + count))
  written-part old now next s from count lt within after w =
      let here : start_of d s + from ≡ old.first + w.count = omega (arith, w.at) in
      let same : part (get_or lists s []) from count ≡ part (joined lists) (old.first + w.count) count =
      sym (ap (λ ns. part (joined lists) (sum (take s ns) + from) count) lengths ∙ part-joined lists s from count (omega (arith, lists-many)) (omega (arith, within, list-long s lt)))
      ∙ ap (λ k. part (joined lists) k count) here in
      let items : part (joined lists) old.first w.count ++ part (get_or lists s []) from count ≡ part (joined lists) old.first (w.count + count) =
      ap (λ ys. part (joined lists) old.first w.count ++ ys) same ∙ sym (part-more (joined lists) old.first w.count count) in
      let less : old.room - w.count - count ≡ old.room - (w.count + count) = omega arith in
      after
      ∙ ap (λ r. stretch r.block r.first (r.items ++ part (get_or lists s []) from count) (r.room - count)) w.held
      ∙ λ i. stretch old.block old.first (items i) (less i)

  -- what the walk of a run, which begins empty, writes
  module _ {first past begin from last : ℕ} (span : Spans d first past begin from last) (old : Stretch X) (here : first ≡ old.first) (all : past ≡ first + old.room) where
    pub written-first : old.items ≡ [] → Written lists d old begin from old
    written-first empty =
        let room : old.room ≡ old.room - 0 = omega arith in
        record {
          count = 0;
          held = λ i. stretch old.block old.first (empty i) (room i);
          few = omega arith;
          at = omega (arith, span.begins, here);
          inside = span.inside;
        }

    -- before the last segment, which starts in the run: the segment ends before the run does
    module _ (now : Stretch X) (s after : ℕ) (lt : s < last) (w : Written lists d old s after now) where
      pub part-fits : get_or d s 0 - after ≤ now.room
      part-fits =
          omega (arith, ap (λ r. r.room) w.held, next_start s (omega (arith, span.within)), start_of_mono d (s + 1) last (omega arith))

      -- all the rest of it
      pub written-more : (next : Stretch X) (count : ℕ) → count ≡ get_or d s 0 - after → next ≡ stretch now.block now.first (now.items ++ part (get_or lists s []) after count) (now.room - count)
          → Written lists d old (s + 1) 0 next
      written-more next count rest is = record {
        count = w.count + count;
        held = written-part old now next s after count (omega (arith, span.within)) (omega (arith, rest, w.inside)) is w;
        few = omega (arith, rest, part-fits, ap (λ r. r.room) w.held, w.few);
        at = omega (arith, rest, w.at, next_start s (omega (arith, span.within)), w.inside);
        inside = omega arith;
      }

    -- as many items of the last segment as there is room for
    module _ (now : Stretch X) (after : ℕ) (w : Written lists d old last after now) where
      pub last-within : after + now.room ≤ get_or d last 0
      last-within = omega (arith, ap (λ r. r.room) w.held, w.few, w.at, here, all, span.ends, next_start last span.within)

      pub written-all : (next : Stretch X) (count : ℕ) → count ≡ now.room → next ≡ stretch now.block now.first (now.items ++ part (get_or lists last []) after count) (now.room - count)
          → next ≡ stretch old.block old.first (part (joined lists) old.first old.room) 0
      written-all next count room is =
          let whole : w.count + count ≡ old.room = omega (arith, room, ap (λ r. r.room) w.held, w.few) in
          let none : old.room - (w.count + count) ≡ 0 = omega (arith, whole) in
          written-part old now next last after count span.within (omega (arith, room, last-within)) is w ∙ λ i. stretch old.block old.first (part (joined lists) old.first (whole i)) (none i)

  -- a run without a place
  pub written-none : (old : Stretch X) → old.items ≡ [] → old.room ≡ 0 → old ≡ stretch old.block old.first (part (joined lists) old.first old.room) 0
  written-none old empty none = λ i. stretch old.block old.first ((empty ∙ sym (ap (λ k. take k (drop old.first (joined lists))) none)) i) (none i)
