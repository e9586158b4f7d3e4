-- Lists of places that begin with items and end empty.
--     begun, front, back, pushed_on, last_there, popped, joined_with      what a run is made of, and how it is seen
use Rattle.fresh.proofs.Cited.{◌≡◌, ℕ, zero, suc, ◌+◌, ◌-◌, ◌<◌, ◌≤◌, ◌^◌, ◌⊎◌, inl, inr, List, [], ◌∷◌, ◌++◌, length, map, take, drop, replicate, slice_set, get_or, Option, Some, None, refl}
use Rattle.fresh.proofs.Cited.{sym, ap, ◌∙◌}
use Rattle.fresh.proofs.Cited.{append-nil, arith, length-append, length-map, drop-replicate, replicate-append-replicate, take-replicate, Ptr, Follows, IsRun, Stretch, filled, somes, stretch}
use Rattle.fresh.specs.declared.cells.Cells.{Cells}

module _ {X : Type 0} where
  abbrev none : ℕ → List (Option X)
  none n = replicate n None

  somes_none : (n : ℕ) → somes (none n) ≡ []
  somes_none zero = refl
  somes_none (suc n) = somes_none n

  pub somes_filled : (xs : List X) (n : ℕ) → somes (filled xs n) ≡ xs
  somes_filled [] n = somes_none n
  somes_filled (x ∷ xs) n = ap (λ l. x ∷ l) (somes_filled xs n)

  pub somes_map : (xs : List X) → somes (map Some xs) ≡ xs
  somes_map xs = ap somes (sym (append-nil (map Some xs))) ∙ somes_filled xs 0

  take_filled : (xs : List X) (n k : ℕ) → length xs ≤ k → k ≤ length xs + n → take k (filled xs n) ≡ filled xs (k - length xs)
  take_filled [] n k low high = let e : k ≡ k - 0 = omega arith in take-replicate k n None (omega arith) ∙ ap none e
  take_filled (x ∷ xs) n zero low high = absurd (omega arith)
  take_filled (x ∷ xs) n (suc k) low high = let e : k - length xs ≡ suc k - suc (length xs) = omega arith in
      ap (λ l. Some x ∷ l) (take_filled xs n k (omega arith) (omega arith) ∙ ap (filled xs) e)

  drop_filled : (xs : List X) (n k : ℕ) → length xs ≤ k → k ≤ length xs + n → drop k (filled xs n) ≡ filled [] (length xs + n - k)
  drop_filled [] n k low high = let e : n - k ≡ 0 + n - k = omega arith in drop-replicate k n None ∙ ap none e
  drop_filled (x ∷ xs) n zero low high = absurd (omega arith)
  drop_filled (x ∷ xs) n (suc k) low high = let e : length xs + n - k ≡ suc (length xs) + n - suc k = omega arith in
      drop_filled xs n k (omega arith) (omega arith) ∙ ap none e

  joined_filled : (xs ys : List X) (n m : ℕ) → (n ≡ 0) ⊎ (ys ≡ []) → filled xs n ++ filled ys m ≡ filled (xs ++ ys) (n + m)
  joined_filled [] ys n m (inl e) = let less : m ≡ n + m = omega arith in ap (λ j. none j ++ filled ys m) e ∙ ap (filled ys) less
  joined_filled [] ys n m (inr e) = ap (λ l. none n ++ filled l m) e ∙ replicate-append-replicate n m None ∙ ap (λ l. filled l (n + m)) (sym e)
  joined_filled (x ∷ xs) ys n m fits = ap (λ l. Some x ∷ l) (joined_filled xs ys n m fits)

  pushed : (xs : List X) (n : ℕ) (x : X) → 0 < n → slice_set (filled xs n) (length xs) (Some x) ≡ filled (xs ++ x ∷ []) (n - 1)
  pushed [] zero x some = absurd (omega arith)
  pushed [] (suc n) x some = let e : n ≡ suc n - 1 = omega arith in ap (λ j. Some x ∷ none j) e
  pushed (y ∷ xs) n x some = ap (λ l. Some y ∷ l) (pushed xs n x some)

  -- a list that isn't empty, as its other items and its last one
  ending : (xs : List X) → 0 < length xs → (ys : List X) × (y : X) × (xs ≡ ys ++ y ∷ [])
  ending [] some = absurd (omega arith)
  ending (x ∷ []) some = ([], x, refl)
  ending (x ∷ y ∷ xs) some = let e = ending (y ∷ xs) (omega arith) in (x ∷ e.0, e.1, ap (λ l. x ∷ l) e.2)

  last_filled : (xs : List X) (x : X) (n : ℕ) → get_or (filled (xs ++ x ∷ []) n) (length xs) None ≡ Some x
  last_filled [] x n = refl
  last_filled (y ∷ xs) x n = last_filled xs x n

  popped_filled : (xs : List X) (x : X) (n : ℕ) → slice_set (filled (xs ++ x ∷ []) n) (length xs) None ≡ filled xs (n + 1)
  popped_filled [] x n = let e : suc n ≡ n + 1 = omega arith in ap none e
  popped_filled (y ∷ xs) x n = ap (λ l. Some y ∷ l) (popped_filled xs x n)

  -- what a run is made of, and how it is seen
  abbrev IsSeen : Cells X → Ptr → ℕ → ℕ → ℕ → Stretch X → Type 0
  IsSeen c base first len written v = IsRun c base first len written × (stretch base first (somes c.slots) (len - written) ≡ v)

  made : (c : Cells X) (base : Ptr) (first len written : ℕ) (xs : List X) (room : ℕ) → c.at ≡ base → c.from ≡ first → c.slots ≡ filled xs room → length xs ≡ written
      → written + room ≡ len → first + len < 2 ^ 63 → IsSeen c base first len written (stretch base first xs room)
  made c base first len written xs room at from is long all low =
      let there : somes c.slots ≡ xs = ap somes is ∙ somes_filled xs room in
      let left : len - written ≡ room = omega arith in (
        record { place = (at, from); count = (ap length there ∙ long, omega arith, low); laid = is ∙ λ i. filled (sym there i) (sym left i) },
        λ i. stretch base first (there i) (left i),
      )

  -- all places of a block, of which the first are written
  pub begun : (c : Cells X) (base : Ptr) (len written : ℕ) (xs : List X) → c.at ≡ base → c.from ≡ 0 → len < 2 ^ 63 → length xs ≡ written → written ≤ len → c.slots ≡ filled xs (len - written)
      → IsSeen c base 0 len written (stretch base 0 xs (len - written))
  begun c base len written xs at from low long within laid = made c base 0 len written xs (len - written) at from laid long (omega arith) (omega arith)

  module _ {c : Cells X} {base : Ptr} {first len written : ℕ} {v : Stretch X} (run : IsRun c base first len written) (seen : stretch base first (somes c.slots) (len - written) ≡ v) where
    abbrev xs : List X
    xs = somes c.slots

    long : length xs ≡ length v.items
    long = ap (λ s. length s.items) seen

    left : len - written ≡ v.room
    left = ap (λ s. s.room) seen

    -- the first k places of a run
    pub front : (f : Cells X) (k : ℕ) → (length v.items ≤ k) × (k ≤ length v.items + v.room) → (f.at ≡ c.at) × (f.from ≡ c.from) × (f.slots ≡ take k c.slots)
        → IsSeen f base first k written (stretch v.block v.first v.items (k - length v.items))
    front f k asked cut =
        let low : length xs ≤ k = omega (arith, asked.0, long) in let high : k ≤ length xs + (len - written) = omega (arith, asked.1, long, left) in
        let m = made f base first k written xs (k - length xs) (cut.0 ∙ run.place.0) (cut.1 ∙ run.place.1) (cut.2 ∙ ap (take k) run.laid ∙ take_filled xs (len - written) k low high)
        run.count.0 (omega (arith, run.count.0)) (omega (arith, run.count.0, run.count.1, run.count.2)) in
        (m.0, m.1 ∙ ap (λ s. stretch s.block s.first s.items (k - length s.items)) seen)

    -- and the others
    pub back : (f : Cells X) (k : ℕ) → (length v.items ≤ k) × (k ≤ length v.items + v.room) → (f.at ≡ c.at) × (f.from ≡ c.from + k) × (f.slots ≡ drop k c.slots)
        → IsSeen f base (first + k) (len - k) 0 (stretch v.block (v.first + k) [] (length v.items + v.room - k))
    back f k asked cut =
        let low : length xs ≤ k = omega (arith, asked.0, long) in let high : k ≤ length xs + (len - written) = omega (arith, asked.1, long, left) in
        let m = made f base (first + k) (len - k) 0 [] (length xs + (len - written) - k) (cut.0 ∙ run.place.0) (cut.1 ∙ ap (λ j. j + k) run.place.1)
        (cut.2 ∙ ap (drop k) run.laid ∙ drop_filled xs (len - written) k low high) refl (omega (arith, run.count.0, run.count.1)) (omega (arith, run.count.0, run.count.1, run.count.2)) in
        (m.0, m.1 ∙ ap (λ s. stretch s.block (s.first + k) [] (length s.items + s.room - k)) seen)

    -- a run with one more item
    pub pushed_on : (f : Cells X) (x : X) → 0 < v.room → (f.at ≡ c.at) × (f.from ≡ c.from) × (f.slots ≡ slice_set c.slots (first + written - c.from) (Some x))
        → IsSeen f base first len (written + 1) (stretch v.block v.first (v.items ++ x ∷ []) (v.room - 1))
    pushed_on f x some wrote =
        let at : first + written - c.from ≡ length xs = omega (arith, run.place.1, run.count.0) in let room : 0 < len - written = omega (arith, some, left) in
        let m = made f base first len (written + 1) (xs ++ x ∷ []) (len - written - 1) (wrote.0 ∙ run.place.0) (wrote.1 ∙ run.place.1)
        (wrote.2 ∙ (λ i. slice_set (run.laid i) (at i) (Some x)) ∙ pushed xs (len - written) x room)
        (omega (arith, length-append xs (x ∷ []), run.count.0)) (omega (arith, run.count.1)) run.count.2 in
        (m.0, m.1 ∙ ap (λ s. stretch s.block s.first (s.items ++ x ∷ []) (s.room - 1)) seen)

    -- a run without its last item
    module _ (some : 0 < length v.items) where
      abbrev held : (ys : List X) × (y : X) × (xs ≡ ys ++ y ∷ [])
      held = ending xs (omega (arith, some, long))

      -- where the last item is
      last : first + (written - 1) - c.from ≡ length held.0
      last = omega (arith, run.place.1, run.count.0, ap length held.2, length-append held.0 (held.1 ∷ []))

      laid_from : c.slots ≡ filled (held.0 ++ held.1 ∷ []) (len - written)
      laid_from = run.laid ∙ ap (λ l. filled l (len - written)) held.2

      last_is : get_or c.slots (first + (written - 1) - c.from) None ≡ Some held.1
      last_is = (λ i. get_or (laid_from i) (last i) None) ∙ last_filled held.0 held.1 (len - written)

      pub last_there : (c.from ≤ first + (written - 1)) × (first + (written - 1) - c.from < length c.slots)
          × ((x : X) × (get_or c.slots (first + (written - 1) - c.from) None ≡ Some x))
      last_there =
          let sum = ap length laid_from ∙ length-append (map Some (held.0 ++ held.1 ∷ [])) (none (len - written)) in (
            omega (arith, run.place.1),
            omega (arith, last, sum, length-map (held.0 ++ held.1 ∷ []) Some, length-append held.0 (held.1 ∷ [])),
            (held.1, last_is),
          )

      pub popped : (f : Cells X) (x : X) → get_or c.slots (first + (written - 1) - c.from) None ≡ Some x
          → (f.at ≡ c.at) × (f.from ≡ c.from) × (f.slots ≡ slice_set c.slots (first + (written - 1) - c.from) None)
          → IsRun f base first len (written - 1) × (v.items ≡ somes f.slots ++ x ∷ [])
          × (stretch base first (somes f.slots) (len - (written - 1)) ≡ stretch v.block v.first (somes f.slots) (v.room + 1))
      popped f x is took =
          let m = made f base first len (written - 1) held.0 (len - written + 1) (took.0 ∙ run.place.0) (took.1 ∙ run.place.1)
          (took.2 ∙ (λ i. slice_set (laid_from i) (last i) None) ∙ popped_filled held.0 held.1 (len - written))
          (omega (arith, last, run.place.1)) (omega (arith, some, long, run.count.0, run.count.1)) run.count.2 in
          let others : somes f.slots ≡ held.0 = ap (λ s. s.items) m.1 in
          let same : held.1 ≡ x = ap (λ o. get_or (somes (o ∷ [])) 0 held.1) (sym last_is ∙ is) in
          let left : len - (written - 1) ≡ v.room + 1 = omega (arith, ap (λ s. s.room) m.1, left) in
          (m.0, sym (ap (λ s. s.items) seen) ∙ held.2 ∙ (λ i. sym others i ++ same i ∷ []), λ i. stretch (seen i).block (seen i).first (somes f.slots) (left i))

    -- a run and the one after it
    pub joined_with : {d : Cells X} {base' : Ptr} {first' len' written' : ℕ} {w : Stretch X} → IsRun d base' first' len' written' → stretch base' first' (somes d.slots) (len' - written') ≡ w
        → (f : Cells X) → Follows v w → (v.room ≡ 0) ⊎ (w.items ≡ []) → (f.at ≡ c.at) × (f.from ≡ c.from) × (f.slots ≡ c.slots ++ d.slots)
        → IsSeen f base first (len + len') (written + written') (stretch v.block v.first (v.items ++ w.items) (v.room + w.room))
    joined_with {d = d} {first' = first'} {len' = len'} {written' = written'} next after f follows fits both =
        let ys = somes d.slots in let n : ℕ = len - written in let m : ℕ = len' - written' in
        let met : first' ≡ first + length xs + n = ap (λ s. s.first) after ∙ follows.1 ∙ ap (λ s. s.first + length s.items + s.room) (sym seen) in
        let empty : (n ≡ 0) ⊎ (ys ≡ []) = elim fits [ inl e ↦ inl (left ∙ e) | inr e ↦ inr (ap (λ s. s.items) after ∙ e) ] in
        let made_of = made f base first (len + len') (written + written') (xs ++ ys) (n + m) (both.0 ∙ run.place.0) (both.1 ∙ run.place.1)
        (both.2 ∙ (λ i. run.laid i ++ next.laid i) ∙ joined_filled xs ys n m empty)
        (omega (arith, length-append xs ys, run.count.0, next.count.0)) (omega (arith, run.count.1, next.count.1)) (omega (arith, run.count.0, run.count.1, next.count.2)) in
        (made_of.0, made_of.1 ∙ λ i. stretch (seen i).block (seen i).first ((seen i).items ++ (after i).items) ((seen i).room + (after i).room))
