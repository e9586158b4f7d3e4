-- The walk that joins: the room, joined with the elements that are left, stays the same.
use Rattle.combining_permutes.proofs.Cited.{◌≡◌, ◌∙◌, ◌∷◌, ◌++◌, [], ℕ, zero, suc, ◌+◌, ◌<◌, ◌≤◌, List, Bool, true, false, cond, length, map, drop}
use Rattle.combining_permutes.proofs.Cited.{get_or, set, zip, filter, refl, sym, ap, arith, ℤ, pos}
use Rattle.combining_permutes.proofs.Cited.{AllPass, Some, count_by, drop_all, drop_more, Decides-int_eq, is_between, other_place, fold_of, combined, names, sent_there}

-- ---- the elements that are sent to a place, by whether the first is one of them

module _ {X : Type 0} (d : ℕ) (i : ℤ) (x : X) (sends : List (ℤ × X)) where
  abbrev sent_if : Bool → List X
  sent_if b = map (λ p. p.1) (cond b ((i, x) ∷ filter (λ p. names d p.0) sends) (filter (λ p. names d p.0) sends))

  pub sent_first : names d i ≡ true → sent_there ((i, x) ∷ sends) d ≡ x ∷ sent_there sends d
  sent_first is = ap sent_if is

  pub sent_others : names d i ≡ false → sent_there ((i, x) ∷ sends) d ≡ sent_there sends d
  sent_others is = ap sent_if is

-- ---- a room, joined with one element more

module _ {X : Type 0} (join : X → X → X) where
  -- one that is sent to none of its places
  passed_by : (i : ℤ) (x : X) (sends : List (ℤ × X)) (lowest : ℕ) (out : List X) → ((d : ℕ) → lowest ≤ d → d < lowest + length out → names d i ≡ false)
      → combined join ((i, x) ∷ sends) lowest out ≡ combined join sends lowest out
  passed_by i x sends lowest [] others = refl
  passed_by i x sends lowest (y ∷ ys) others =
      let here = ap (fold_of join y) (sent_others lowest i x sends (others lowest (omega arith) (omega arith))) in
      let later = passed_by i x sends (lowest + 1) ys (λ d from to. others d (omega (arith, from)) (omega (arith, to))) in
      (λ t. here t ∷ later t)

  -- one that is sent to the place that is e behind the lowest
  joined_at : (d : ℕ) (x : X) (sends : List (ℤ × X)) (lowest : ℕ) (out : List X) (e : ℕ) (y : X) → d ≡ lowest + e → e < length out → y ≡ get_or out e y
      → combined join ((pos d, x) ∷ sends) lowest out ≡ combined join sends lowest (set out e (join y x))
  joined_at d x sends lowest [] e y at within is = absurd (omega (arith, within))
  joined_at d x sends lowest (z ∷ zs) zero y at within is =
      let hit : names lowest (pos d) ≡ true = (Decides-int_eq (pos d) (pos lowest)).1 (ap (λ n. pos n) (omega (arith, at))) in
      let here = ap (fold_of join z) (sent_first lowest (pos d) x sends hit) ∙ ap (λ u. fold_of join (join u x) (sent_there sends lowest)) (sym is) in
      let later = passed_by (pos d) x sends (lowest + 1) zs (λ c from to. other_place d c (λ same. omega (arith, same, from, at))) in
      (λ t. here t ∷ later t)
  joined_at d x sends lowest (z ∷ zs) (suc e) y at within is =
      let here = ap (fold_of join z) (sent_others lowest (pos d) x sends (other_place d lowest (λ same. omega (arith, same, at)))) in
      let later = joined_at d x sends (lowest + 1) zs e y (omega (arith, at)) (omega (arith, within)) is in
      (λ t. here t ∷ later t)

  -- none at all
  pub combined_none : (lowest : ℕ) (out : List X) → combined join [] lowest out ≡ out
  combined_none lowest [] = refl
  combined_none lowest (y ∷ ys) = ap (λ zs. y ∷ zs) (combined_none (lowest + 1) ys)

-- the element at a place
some_at : {X : Type 0} (xs : List X) (k : ℕ) → k < length xs → (x : X) × (get_or xs k x ≡ x)
some_at [] k lt = absurd (omega (arith, lt))
some_at (y ∷ ys) zero lt = (y, refl)
some_at (y ∷ ys) (suc k) lt = some_at ys k (omega (arith, lt))

-- ---- the walk, before element k: the room is to be `whole`

module _ {X : Type 0} (join : X → X → X) (index : List ℤ) (elements whole : List X) (lowest k : ℕ) (long : length elements ≡ length index) (lt : k < length index) (out : List X)
    (so_far : whole ≡ combined join (zip (drop k index) (drop k elements)) lowest out) where
  abbrev rest : List (ℤ × X)
  rest = zip (drop (k + 1) index) (drop (k + 1) elements)

  next : (x : X) → get_or elements k x ≡ x → whole ≡ combined join ((get_or index k (pos 0), x) ∷ rest) lowest out
  next x element =
      let xs = drop_more elements k x (omega (arith, long, lt)) ∙ ap (λ y. y ∷ drop (k + 1) elements) element in
      so_far ∙ (λ t. combined join (zip (drop_more index k (pos 0) lt t) (xs t)) lowest out)

  -- an element that is sent to none of the places
  pub walked_past : ((d : ℕ) → lowest ≤ d → d < lowest + length out → names d (get_or index k (pos 0)) ≡ false) → whole ≡ combined join rest lowest out
  walked_past others =
      let own = some_at elements k (omega (arith, long, lt)) in
      next own.0 own.1 ∙ passed_by join (get_or index k (pos 0)) own.0 rest lowest out others

  -- one, x, that is sent to the place e behind the lowest, where y stands
  pub walked_here : (x : X) → get_or elements k x ≡ x → (e : ℕ) (y : X) (new : List X) → get_or index k (pos 0) ≡ pos (lowest + e) → e < length out → y ≡ get_or out e y → new ≡ set out e (join y x)
      → whole ≡ combined join rest lowest new
  walked_here x element e y new is within stood stored =
      next x element ∙ ap (λ j. combined join ((j, x) ∷ rest) lowest out) is ∙ joined_at join (lowest + e) x rest lowest out e y refl within stood ∙ ap (combined join rest lowest) (sym stored)

-- all of it
pub walked_all : {X : Type 0} (join : X → X → X) (index : List ℤ) (elements : List X) (lowest k : ℕ) (out : List X) → length index ≤ k
    → combined join (zip (drop k index) (drop k elements)) lowest out ≡ out
walked_all join index elements lowest k out past = ap (λ is. combined join (zip is (drop k elements)) lowest out) (drop_all k index past) ∙ combined_none join lowest out

-- ---- all that a walk keeps

-- the walk through all elements
pub record IsCombinedTo {X : Type 0} (is_item : X → Bool) (join : X → X → X) (index : List ℤ) (elements before : List X) (k : ℕ) (out : List X) : Type 0 where
  -- the room, joined with the elements that are left, is what it is to be
  pub joined : combined join (zip index elements) 0 before ≡ combined join (zip (drop k index) (drop k elements)) 0 out
  pub items : AllPass is_item out

abbrev pub is_among : ℕ → ℕ → ℤ → Bool
is_among lowest places i = is_between lowest (lowest + places) (Some i)

-- the walk of one range's owner, who counts the indices that name a place of it
pub record IsJoinedTo {X : Type 0} (is_item : X → Bool) (join : X → X → X) (index : List ℤ) (elements before : List X) (lowest k : ℕ) (out : List X) (named : ℕ) : Type 0 where
  pub joined : combined join (zip index elements) lowest before ≡ combined join (zip (drop k index) (drop k elements)) lowest out
  pub items : AllPass is_item out
  pub few : named ≤ k
  pub counted : named + count_by (is_among lowest (length before)) (drop k index) ≡ count_by (is_among lowest (length before)) index

-- ---- two ranges side by side

pub combined_both : {X : Type 0} (join : X → X → X) (sends : List (ℤ × X)) (lowest middle : ℕ) (low high : List X) → middle ≡ lowest + length low
    → combined join sends lowest (low ++ high) ≡ combined join sends lowest low ++ combined join sends middle high
combined_both join sends lowest middle [] high is = let same : lowest ≡ middle = omega (arith, is) in ap (λ k. combined join sends k high) same
combined_both join sends lowest middle (y ∷ low) high is =
    ap (λ zs. fold_of join y (sent_there sends lowest) ∷ zs) (combined_both join sends (lowest + 1) middle low high (omega (arith, is)))
