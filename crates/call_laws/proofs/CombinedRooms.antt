-- Combining permutes and counts by blocks, each joined in a room of its own.
use Rattle.call_laws.proofs.Cited.{◌≡◌, ◌∙◌, ◌↔◌, ◌+◌, ◌≤◌, ◌++◌, ◌∷◌, ℕ, zero, suc, Bool, IsTrue, ℤ, pos, List, [], append_assoc, append-nil, length, length-append, map, map-append}
use Rattle.call_laws.proofs.Cited.{All, AllPass, All-head, All-tail, ap, arith, cond, count_by, fault_at, FaultNo, filter, filter-append, first_fault, fold-append, fold_from}
use Rattle.call_laws.proofs.Cited.{fold_of, fold_of_is_item, ints, joined, MonoidLaws, most_places, None, none-some, Option, refl, replicate, rules, Some, subst}
use Rattle.call_laws.proofs.Cited.{sum_by-append, sym, w32, ◌+ℤ◌}
use Rattle.std.proofs.lemmas.Int.{int_wrap_fits}
use Rattle.std.proofs.lemmas.List.Elements.{All-cons, All-filter, All-map, All-nil}
use Rattle.std.proofs.lemmas.List.Sums.{count_by-le-length}
use Rattle.cvl_base.specs.Integers.{sum_of}
use Rattle.combining_permutes.specs.CombiningPermutes.{combined, names, place_counts, sent_there}
use Rattle.combining_permutes.proofs.Joined.{combined_none}
use Rattle.combining_permutes.proofs.BySegments.{length-combined}
use Rattle.permute_walks.specs.Indices.{first_outside, outside}
use Rattle.call_laws.specs.InRooms.{own_room, with_room, with_rooms}

-- ---- what is sent to a place, in two parts

sent_both : {X : Type 0} (xs ys : List (ℤ × X)) (d : ℕ) → sent_there (xs ++ ys) d ≡ sent_there xs d ++ sent_there ys d
sent_both xs ys d =
    ap (map (λ p. p.1)) (filter-append (λ p. names d p.0) xs ys) ∙ map-append (λ p. p.1) (filter (λ p. names d p.0) xs) (filter (λ p. names d p.0) ys)

module _ {X : Type 0} (join : X → X → X) where
  -- the second part is joined to what the first was joined to
  combined_both : (xs ys : List (ℤ × X)) (lowest : ℕ) (before : List X) → combined join (xs ++ ys) lowest before ≡ combined join ys lowest (combined join xs lowest before)
  combined_both xs ys lowest [] = refl
  combined_both xs ys lowest (y ∷ before) =
      let here = ap (fold_of join y) (sent_both xs ys lowest) ∙ fold-append join y (sent_there xs lowest) (sent_there ys lowest) in
      (λ t. here t ∷ combined_both xs ys (lowest + 1) before t)

-- ---- a block, joined in a room of its own

module _ {X : Type 0} {is_item : X → Bool} {unit : X} {join : X → X → X} (laws : MonoidLaws is_item unit join) where
  sent_items : (xs : List (ℤ × X)) (d : ℕ) → AllPass (λ p. is_item p.1) xs → AllPass is_item (sent_there xs d)
  sent_items xs d items =
      All-map (λ x. IsTrue (is_item x)) (λ p. p.1) (filter (λ p. names d p.0) xs) (All-filter (λ p. names d p.0) (λ p. IsTrue (is_item p.1)) xs items)

  -- it is joined to what stood before as its elements are
  in_own_room : (xs : List (ℤ × X)) (lowest : ℕ) (before : List X) → AllPass (λ p. is_item p.1) xs → AllPass is_item before
      → combined join xs lowest before ≡ with_room join before (own_room join unit lowest (length before) xs)
  in_own_room xs lowest [] items was = refl
  in_own_room xs lowest (y ∷ before) items was =
      let here = fold_from laws y (sent_there xs lowest) (All-head (λ z. IsTrue (is_item z)) y before was) (sent_items xs lowest items) in
      let others = in_own_room xs (lowest + 1) before items (All-tail (λ z. IsTrue (is_item z)) y before was) in
      (λ t. here t ∷ others t)

  combined_items : (xs : List (ℤ × X)) (lowest : ℕ) (before : List X) → AllPass (λ p. is_item p.1) xs → AllPass is_item before → AllPass is_item (combined join xs lowest before)
  combined_items xs lowest [] items was = All-nil (λ z. IsTrue (is_item z))
  combined_items xs lowest (y ∷ before) items was =
      let is = All-head (λ z. IsTrue (is_item z)) y before was in
      let sent = sent_items xs lowest items in
      let whole = fold_from laws y (sent_there xs lowest) is sent in
      let passes = laws.join_is_item y (fold_of join unit (sent_there xs lowest)) is (fold_of_is_item laws (sent_there xs lowest) sent) in
      All-cons (λ z. IsTrue (is_item z)) (fold_of join y (sent_there xs lowest)) (combined join xs (lowest + 1) before) (subst (λ z. IsTrue (is_item z)) (sym whole) passes)
      (combined_items xs (lowest + 1) before items (All-tail (λ z. IsTrue (is_item z)) y before was))

  pub joined-rooms : (blocks : List (List (ℤ × X))) (lowest : ℕ) (before : List X) → All (AllPass (λ p. is_item p.1)) blocks → AllPass is_item before
      → combined join (joined blocks) lowest before ≡ with_rooms join before (map (own_room join unit lowest (length before)) blocks)
  joined-rooms [] lowest before items was = combined_none join lowest before
  joined-rooms (xs ∷ blocks) lowest before items was =
      let own = All-head (AllPass (λ p. is_item p.1)) xs blocks items in
      let first = combined join xs lowest before in
      let others = joined-rooms blocks lowest first (All-tail (AllPass (λ p. is_item p.1)) xs blocks items) (combined_items xs lowest before own was) in
      combined_both join xs (joined blocks) lowest before ∙ others
      ∙ ap (λ n. with_rooms join first (map (own_room join unit lowest n) blocks)) (length-combined join xs lowest before)
      ∙ ap (λ room. with_rooms join room (map (own_room join unit lowest (length before)) blocks)) (in_own_room xs lowest before own was)

-- ---- counts

abbrev one_if : Bool → ℕ
one_if b = cond b 1 0

counted_both : (lowest places : ℕ) (xs ys : List ℤ) → length (xs ++ ys) ≤ most_places
    → place_counts (xs ++ ys) lowest places ≡ with_room sum_of (place_counts xs lowest places) (place_counts ys lowest places)
counted_both lowest zero xs ys few = refl
counted_both lowest (suc places) xs ys few =
    let both = sum_by-append (λ i. one_if (names lowest i)) xs ys in
    let within = count_by-le-length (names lowest) (xs ++ ys) in
    let sum : sum_of (pos (count_by (names lowest) xs)) (pos (count_by (names lowest) ys)) ≡ pos (count_by (names lowest) xs + count_by (names lowest) ys) =
    int_wrap_fits w32 (pos (count_by (names lowest) xs) +ℤ pos (count_by (names lowest) ys)) (search (rules, ints, few, both, within)) in
    let here = ap (λ n. pos n) both ∙ sym sum in
    (λ t. here t ∷ counted_both (lowest + 1) places xs ys few t)

no_counts : (lowest places : ℕ) → place_counts [] lowest places ≡ replicate places (pos 0)
no_counts lowest zero = refl
no_counts lowest (suc places) = ap (λ ns. pos 0 ∷ ns) (no_counts (lowest + 1) places)

-- behind some indices that are counted
counted_behind : (lowest places : ℕ) (done : List ℤ) (blocks : List (List ℤ)) → length (done ++ joined blocks) ≤ most_places
    → place_counts (done ++ joined blocks) lowest places
    ≡ with_rooms sum_of (place_counts done lowest places) (map (λ index. place_counts index lowest places) blocks)
counted_behind lowest places done [] few = ap (λ index. place_counts index lowest places) (append-nil done)
counted_behind lowest places done (xs ∷ blocks) few =
    let rooms = map (λ index. place_counts index lowest places) blocks in
    let whole = sym (append_assoc done xs (joined blocks)) in
    let long = ap length whole in
    let front = length-append (done ++ xs) (joined blocks) in
    ap (λ index. place_counts index lowest places) whole
    ∙ counted_behind lowest places (done ++ xs) blocks (omega (arith, few, long))
    ∙ ap (λ room. with_rooms sum_of room rooms) (counted_both lowest places done xs (omega (arith, few, long, front)))

pub counted-rooms : (blocks : List (List ℤ)) (lowest places : ℕ) → length (joined blocks) ≤ most_places
    → place_counts (joined blocks) lowest places ≡ with_rooms sum_of (replicate places (pos 0)) (map (λ index. place_counts index lowest places) blocks)
counted-rooms blocks lowest places few =
    counted_behind lowest places [] blocks few ∙ ap (λ room. with_rooms sum_of room (map (λ index. place_counts index lowest places) blocks)) (no_counts lowest places)

-- ---- an index outside

none_from : (place other : ℕ) (ws : List (Option FaultNo)) → first_fault place ws ≡ None → first_fault other ws ≡ None
none_from place other [] none = refl
none_from place other (None ∷ ws) none = none_from (place + 1) (other + 1) ws none
none_from place other (Some number ∷ ws) is = absurd (none-some (fault_at number place) (sym is))

none_both : (place : ℕ) (us ws : List (Option FaultNo)) → (first_fault place (us ++ ws) ≡ None) ↔ ((first_fault place us ≡ None) × (first_fault place ws ≡ None))
none_both place [] ws = (λ none. (refl, none), λ both. both.1)
none_both place (None ∷ us) ws =
    let others = none_both (place + 1) us ws in (
      λ none. let parts = others.0 none in (parts.0, none_from (place + 1) place ws parts.1),
      λ both. others.1 (both.0, none_from place (place + 1) ws both.1),
    )
none_both place (Some number ∷ us) ws = (λ is. absurd (none-some (fault_at number place) (sym is)), λ both. absurd (none-some (fault_at number place) (sym both.0)))

pub outside-rooms : (blocks : List (List ℤ)) (m : ℕ) → (first_outside 0 m (joined blocks) ≡ None) ↔ All (λ index. first_outside 0 m index ≡ None) blocks
outside-rooms [] m = (λ none. All-nil (λ index. first_outside 0 m index ≡ None), λ each. refl)
outside-rooms (xs ∷ blocks) m =
    let others = outside-rooms blocks m in
    let whole = ap (first_fault 0) (map-append (outside m) xs (joined blocks)) in
    let both = none_both 0 (map (outside m) xs) (map (outside m) (joined blocks)) in (
      λ none. let parts = both.0 (sym whole ∙ none) in All-cons (λ index. first_outside 0 m index ≡ None) xs blocks parts.0 (others.0 parts.1),
      λ each. whole ∙ both.1 (All-head (λ index. first_outside 0 m index ≡ None) xs blocks each, others.1 (All-tail (λ index. first_outside 0 m index ≡ None) xs blocks each)),
    )
