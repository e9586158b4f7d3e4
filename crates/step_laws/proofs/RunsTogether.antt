-- The runs that begin in each part of a segmented vector, put together, are those of all segments.
use Rattle.std.proofs.Common.{⊎_elim, ◌≡◌, ◌++◌, ◌+◌, ◌<◌, ◌≤◌, ◌∙◌, suc, Bool, true, false, List, [], ◌∷◌, length, drop, if◌then◌else◌, refl, sym, ap, arith, subst, append_assoc}
use Rattle.std.proofs.Common.{append-nil, length-append, Option, Some, None}
use Rattle.std.proofs.lemmas.Bool.{cases_lt}
use Rattle.call_laws.specs.OverRanks.{followed_by, going_on, together}
use Rattle.call_laws.specs.RunsInParts.{onto_last}
use Rattle.call_laws.proofs.RunsInParts.{runs_in-append}
use Rattle.run_lengths.specs.Runs.{onto_first, runs_from, runs_in, runs_of}
use Rattle.run_parts.specs.Runs.{runs_behind}
use Rattle.cvl_base.specs.Lists.{joined}

-- ---- lists of which the last goes on

module _ {X : Type 0} where
  going-last : (run : List X) (runs : List (List X)) (more : List X) → going_on run runs more ≡ onto_last (run ∷ runs) more
  going-last run [] more = refl
  going-last run (next ∷ runs) more = ap (λ rs. run ∷ rs) (going-last next runs more)

  last-none : (runs : List (List X)) → onto_last runs [] ≡ runs
  last-none [] = refl
  last-none (run ∷ []) = ap (λ r. r ∷ []) (append-nil run)
  last-none (run ∷ next ∷ runs) = ap (λ rs. run ∷ rs) (last-none (next ∷ runs))

  last-twice : (runs : List (List X)) (more others : List X) → onto_last (onto_last runs more) others ≡ onto_last runs (more ++ others)
  last-twice [] more others = refl
  last-twice (run ∷ []) more others = ap (λ r. r ∷ []) (append_assoc run more others)
  last-twice (run ∷ next ∷ []) more others = ap (λ r. run ∷ r ∷ []) (append_assoc next more others)
  last-twice (run ∷ next ∷ third ∷ runs) more others = ap (λ rs. run ∷ rs) (last-twice (next ∷ third ∷ runs) more others)

  last-behind : (before : List (List X)) (run : List X) (runs : List (List X)) (more : List X) → onto_last (before ++ run ∷ runs) more ≡ before ++ onto_last (run ∷ runs) more
  last-behind [] run runs more = refl
  last-behind (first ∷ []) run runs more = refl
  last-behind (first ∷ next ∷ before) run runs more = ap (λ rs. first ∷ rs) (last-behind (next ∷ before) run runs more)

  length-onto_last : (runs : List (List X)) (more : List X) → length (onto_last runs more) ≡ length runs
  length-onto_last [] more = refl
  length-onto_last (run ∷ []) more = refl
  length-onto_last (run ∷ next ∷ runs) more = ap suc (length-onto_last (next ∷ runs) more)

  -- what follows a part that has runs
  followed-some : (front : List X) (runs : List (List X)) (behind : List X × List (List X)) → 1 ≤ length runs
      → followed_by front runs behind ≡ (front, onto_last runs behind.0 ++ behind.1)
  followed-some front [] behind some = let none : 1 ≤ 0 = some in absurd (omega (arith, none))
  followed-some front (run ∷ runs) behind some = ap (λ rs. (front, rs ++ behind.1)) (going-last run runs behind.0)

  followed-none : (front : List X) (runs : List (List X)) → followed_by front runs ([], []) ≡ (front, runs)
  followed-none front [] = ap (λ xs. (xs, [])) (append-nil front)
  followed-none front (run ∷ runs) =
      followed-some front (run ∷ runs) ([], []) (omega arith) ∙ ap (λ rs. (front, rs)) (append-nil (onto_last (run ∷ runs) []) ∙ last-none (run ∷ runs))

  -- lists behind those that follow stay as they are
  followed-more : (front : List X) (runs : List (List X)) (next : List X) (others more : List (List X))
      → followed_by front runs (next, others ++ more) ≡ ((followed_by front runs (next, others)).0, (followed_by front runs (next, others)).1 ++ more)
  followed-more front [] next others more = refl
  followed-more front (run ∷ runs) next others more = ap (λ rs. (front, rs)) (sym (append_assoc (going_on run runs next) others more))

  twice-some : (front : List X) (runs : List (List X)) (next : List X) (others : List (List X)) (behind : List X × List (List X)) → 1 ≤ length runs
      → followed_by front runs (followed_by next others behind) ≡ followed_by (followed_by front runs (next, others)).0 (followed_by front runs (next, others)).1 behind
  twice-some front runs next [] behind some =
      let first = followed-some front runs (next, []) some in
      let long : 1 ≤ length (onto_last runs next ++ []) = omega (arith, some, length-onto_last runs next, length-append (onto_last runs next) []) in
      followed-some front runs (next ++ behind.0, behind.1) some
      ∙ ap (λ rs. (front, rs ++ behind.1)) (sym (last-twice runs next behind.0) ∙ ap (λ rs. onto_last rs behind.0) (sym (append-nil (onto_last runs next))))
      ∙ sym (followed-some front (onto_last runs next ++ []) behind long) ∙ (λ i. followed_by (sym first i).0 (sym first i).1 behind)
  twice-some front runs next (other ∷ others) behind some =
      let first = followed-some front runs (next, other ∷ others) some in
      let long : 1 ≤ length (onto_last runs next ++ other ∷ others) = omega (arith, some, length-onto_last runs next, length-append (onto_last runs next) (other ∷ others)) in
      followed-some front runs (followed_by next (other ∷ others) behind) some
      ∙ ap (λ rs. (front, onto_last runs next ++ (rs ++ behind.1))) (going-last other others behind.0)
      ∙ ap (λ rs. (front, rs)) (sym (append_assoc (onto_last runs next) (onto_last (other ∷ others) behind.0) behind.1)
      ∙ ap (λ rs. rs ++ behind.1) (sym (last-behind (onto_last runs next) other others behind.0)))
      ∙ sym (followed-some front (onto_last runs next ++ other ∷ others) behind long) ∙ (λ i. followed_by (sym first i).0 (sym first i).1 behind)

  -- what follows what follows
  pub followed-twice : (front : List X) (runs : List (List X)) (next : List X) (others : List (List X)) (behind : List X × List (List X))
      → followed_by front runs (followed_by next others behind) ≡ followed_by (followed_by front runs (next, others)).0 (followed_by front runs (next, others)).1 behind
  followed-twice front [] next [] behind = ap (λ xs. (xs, behind.1)) (sym (append_assoc front next behind.0))
  followed-twice front [] next (other ∷ others) behind = refl
  followed-twice front (run ∷ runs) next others behind = twice-some front (run ∷ runs) next others behind (omega arith)

pub long-joined : {X : Type 0} (xs ys : List (List X)) → length (joined (xs ++ ys)) ≡ length (joined xs) + length (joined ys)
long-joined [] ys = omega arith
long-joined (x ∷ xs) ys = omega (arith, long-joined xs ys, length-append x (joined (xs ++ ys)), length-append x (joined xs))

-- ---- the runs that begin in a list, behind an element or none

module _ {X : Type 0} where
  -- the last element, or the one before
  abbrev pub last_of : Option X → List X → Option X
  last_of front [] = front
  last_of front (x ∷ xs) = last_of (Some x) xs

  -- the last of some lists
  abbrev pub last_list : List (List X) → List X
  last_list [] = []
  last_list (xs ∷ []) = xs
  last_list (xs ∷ ys ∷ lists) = last_list (ys ∷ lists)

  -- a segment goes on behind a part only if the part has some of it
  abbrev pub GoOn : List (List X × List (List X)) → Type 0
  GoOn [] = Unit {0}
  GoOn (part ∷ parts) = (1 ≤ length part.1 → last_list part.1 ≡ [] → (together parts).0 ≡ []) × GoOn parts

  pub last_of-append : (front : Option X) (xs ys : List X) → last_of front (xs ++ ys) ≡ last_of (last_of front xs) ys
  last_of-append front [] ys = refl
  last_of-append front (x ∷ xs) ys = last_of-append (Some x) xs ys

module _ {X : Type 0} (differ : X → X → Bool) where
  -- whether an element begins a run
  abbrev begins : Option X → X → Bool
  begins None x = true
  begins (Some y) x = differ y x

  -- an element alone
  abbrev single : Bool → X → List X × List (List X)
  single true x = ([], (x ∷ []) ∷ [])
  single false x = (x ∷ [], [])

  -- the elements at the front that go on a run before the list, and the runs that begin in it
  abbrev pub parted : Option X → List X → List X × List (List X)
  parted front [] = ([], [])
  parted front (x ∷ xs) = followed_by (single (begins front x) x).0 (single (begins front x) x).1 (parted (Some x) xs)

  pub parted-append : (front : Option X) (xs ys : List X) → parted front (xs ++ ys) ≡ followed_by (parted front xs).0 (parted front xs).1 (parted (last_of front xs) ys)
  parted-append front [] ys = refl
  parted-append front (x ∷ xs) ys =
      let s = single (begins front x) x in
      ap (followed_by s.0 s.1) (parted-append (Some x) xs ys) ∙ followed-twice s.0 s.1 (parted (Some x) xs).0 (parted (Some x) xs).1 (parted (last_of (Some x) xs) ys)

  abbrev begun : Bool → X → List (List X) → List (List X)
  begun b x runs = if b then (x ∷ []) ∷ runs else onto_first x runs

  one-more : (b : Bool) (x y : X) (next : List X × List (List X))
      → begun b x ((y ∷ next.0) ∷ next.1) ≡ (x ∷ (followed_by (single b y).0 (single b y).1 next).0) ∷ (followed_by (single b y).0 (single b y).1 next).1
  one-more true x y next = refl
  one-more false x y next = refl

  runs-parted : (x : X) (xs : List X) → runs_from differ x xs ≡ (x ∷ (parted (Some x) xs).0) ∷ (parted (Some x) xs).1
  runs-parted x [] = refl
  runs-parted x (y ∷ ys) = ap (begun (differ x y) x) (runs-parted y ys) ∙ one-more (differ x y) x y (parted (Some y) ys)

  pub all-parted : (xs : List X) → parted None xs ≡ ([], runs_of differ xs)
  all-parted [] = refl
  all-parted (x ∷ xs) = ap (λ runs. ([], runs)) (sym (runs-parted x xs))

  pub behind-parted : (front : Option X) (xs : List X) → runs_behind differ front xs ≡ (parted front xs).1
  behind-parted None xs = sym (ap (λ p. p.1) (all-parted xs))
  behind-parted (Some x) xs = ap (drop 1) (runs-parted x xs)

  -- ---- the runs that begin in each part

  -- the runs of a head and of the segments that start behind it
  abbrev pub run_part : Option X → List X × List (List X) → List X × List (List X)
  run_part front part = ((parted front part.0).0, (parted front part.0).1 ++ runs_in differ part.1)

  abbrev pub runs_on : Option X → List (List X × List (List X)) → List (List X × List (List X))
  runs_on front [] = []
  runs_on front (part ∷ parts) = run_part front part ∷ runs_on (last_of front (part.0 ++ joined part.1)) parts

  -- a segment that goes on
  one-goes_on : (front : List X) (runs : List (List X)) (last : Option X) (segment more : List X) → (segment ≡ [] → more ≡ [])
      → followed_by front (runs ++ runs_of differ segment) (parted (last_of last segment) more) ≡ (front, runs ++ runs_of differ (segment ++ more))
  one-goes_on front runs last [] more only =
      ap (λ ys. followed_by front (runs ++ []) (parted last ys)) (only refl) ∙ followed-none front (runs ++ [])
      ∙ ap (λ ys. (front, runs ++ runs_of differ ys)) (sym (only refl))
  one-goes_on front runs last (x ∷ xs) more only =
      let segment = x ∷ xs in
      let behind = parted (last_of last segment) more in
      let some : 1 ≤ length (runs_of differ segment) = subst (λ rs. 1 ≤ length rs) (sym (runs-parted x xs)) (omega arith) in
      let long : 1 ≤ length (runs ++ runs_of differ segment) = omega (arith, some, length-append runs (runs_of differ segment)) in
      let whole : ([], runs_of differ (segment ++ more)) ≡ ([], onto_last (runs_of differ segment) behind.0 ++ behind.1) =
      sym (all-parted (segment ++ more)) ∙ parted-append None segment more ∙ (λ i. followed_by (all-parted segment i).0 (all-parted segment i).1 behind)
      ∙ followed-some [] (runs_of differ segment) behind some in
      let pieces : onto_last (runs ++ runs_of differ segment) behind.0 ≡ runs ++ onto_last (runs_of differ segment) behind.0 =
      ap (λ rs. onto_last (runs ++ rs) behind.0) (runs-parted x xs)
      ∙ last-behind runs (x ∷ (parted (Some x) xs).0) (parted (Some x) xs).1 behind.0
      ∙ ap (λ rs. runs ++ onto_last rs behind.0) (sym (runs-parted x xs)) in
      followed-some front (runs ++ runs_of differ segment) behind long
      ∙ ap (λ rs. (front, rs ++ behind.1)) pieces
      ∙ ap (λ rs. (front, rs)) (append_assoc runs (onto_last (runs_of differ segment) behind.0) behind.1)
      ∙ ap (λ p. (front, runs ++ p.1)) (sym whole)

  -- the last of some segments goes on
  last-goes_on : (front : List X) (runs : List (List X)) (last : Option X) (segment : List X) (others : List (List X)) (more : List X)
      → (last_list (segment ∷ others) ≡ [] → more ≡ [])
      → followed_by front (runs ++ runs_in differ (segment ∷ others)) (parted (last_of last (joined (segment ∷ others))) more)
      ≡ (front, runs ++ runs_in differ (going_on segment others more))
  last-goes_on front runs last segment [] more only =
      (λ i. followed_by front (runs ++ append-nil (runs_of differ segment) i) (parted (last_of last (append-nil segment i)) more))
      ∙ one-goes_on front runs last segment more only
      ∙ ap (λ rs. (front, runs ++ rs)) (sym (append-nil (runs_of differ (segment ++ more))))
  last-goes_on front runs last segment (other ∷ others) more only =
      (λ i. followed_by front (sym (append_assoc runs (runs_of differ segment) (runs_in differ (other ∷ others))) i)
      (parted (last_of-append last segment (joined (other ∷ others)) i) more))
      ∙ last-goes_on front (runs ++ runs_of differ segment) (last_of last segment) other others more only
      ∙ ap (λ rs. (front, rs)) (append_assoc runs (runs_of differ segment) (runs_in differ (going_on other others more)))

  -- put together, they are the runs of the segments that the parts have together
  pub together-runs : (front : Option X) (parts : List (List X × List (List X))) → GoOn parts
      → together (runs_on front parts) ≡ ((parted front (together parts).0).0, (parted front (together parts).0).1 ++ runs_in differ (together parts).1)
  together-runs front [] go_on = refl
  together-runs front ((head, []) ∷ parts) go_on =
      let next = last_of front (head ++ []) in
      let p = parted front head in
      let h = (together parts).0 in
      let behind = parted (last_of front head) h in
      let q = runs_in differ (together parts).1 in
      ap (followed_by p.0 (p.1 ++ [])) (together-runs next parts go_on.1)
      ∙ (λ i. followed_by p.0 (append-nil p.1 i) ((parted (last_of front (append-nil head i)) h).0, (parted (last_of front (append-nil head i)) h).1 ++ q))
      ∙ followed-more p.0 p.1 behind.0 behind.1 q
      ∙ ap (λ (t : List X × List (List X)). (t.0, t.1 ++ q)) (sym (parted-append front head h))
  together-runs front ((head, segment ∷ others) ∷ parts) go_on =
      let next = last_of front (head ++ joined (segment ∷ others)) in
      let p = parted front head in
      let h = (together parts).0 in
      let behind = parted (last_of (last_of front head) (joined (segment ∷ others))) h in
      let q = runs_in differ (together parts).1 in
      let own = p.1 ++ runs_in differ (segment ∷ others) in
      ap (followed_by p.0 own) (together-runs next parts go_on.1)
      ∙ (λ i. followed_by p.0 own ((parted (last_of-append front head (joined (segment ∷ others)) i) h).0, (parted (last_of-append front head (joined (segment ∷ others)) i) h).1 ++ q))
      ∙ followed-more p.0 own behind.0 behind.1 q
      ∙ ap (λ (t : List X × List (List X)). (t.0, t.1 ++ q)) (last-goes_on p.0 p.1 (last_of front head) segment others h (go_on.0 (omega arith)))
      ∙ ap (λ rs. (p.0, rs)) (append_assoc p.1 (runs_in differ (going_on segment others h)) q
      ∙ ap (λ rs. p.1 ++ rs) (sym (runs_in-append differ (going_on segment others h) (together parts).1)))

  -- ---- how many elements and runs there are

  size-more : (b : Bool) (x : X) (xs : List X) (next : List X × List (List X)) → length next.0 + length (joined next.1) ≡ length xs
      → length (followed_by (single b x).0 (single b x).1 next).0 + length (joined (followed_by (single b x).0 (single b x).1 next).1) ≡ suc (length xs)
  size-more true x xs next is = omega (arith, is, length-append (x ∷ next.0) (joined next.1))
  size-more false x xs next is = omega (arith, is)

  size-parted : (front : Option X) (xs : List X) → length (parted front xs).0 + length (joined (parted front xs).1) ≡ length xs
  size-parted front [] = omega arith
  size-parted front (x ∷ xs) = size-more (begins front x) x xs (parted (Some x) xs) (size-parted (Some x) xs)

  fewer-more : (b : Bool) (x : X) (next : List X × List (List X)) → (1 ≤ length next.1 → 1 ≤ length (joined next.1))
      → 1 ≤ length (followed_by (single b x).0 (single b x).1 next).1 → 1 ≤ length (joined (followed_by (single b x).0 (single b x).1 next).1)
  fewer-more true x next is some = omega (arith, length-append (x ∷ next.0) (joined next.1))
  fewer-more false x next is some = is some

  -- a list in which a run begins has elements that go on no run before it
  fewer-parted : (front : Option X) (xs : List X) → 1 ≤ length (parted front xs).1 → 1 ≤ length (joined (parted front xs).1)
  fewer-parted front [] some = absurd (omega (arith, some))
  fewer-parted front (x ∷ xs) some = fewer-more (begins front x) x (parted (Some x) xs) (fewer-parted (Some x) xs) some

  size-runs_in : (segments : List (List X)) → length (joined (runs_in differ segments)) ≡ length (joined segments)
  size-runs_in [] = refl
  size-runs_in (segment ∷ segments) =
      omega (
        arith,
        long-joined (runs_of differ segment) (runs_in differ segments),
        ap (λ (p : List X × List (List X)). length p.0 + length (joined p.1)) (sym (all-parted segment)) ∙ size-parted None segment,
        size-runs_in segments,
        length-append segment (joined segments),
      )

  some-runs_in : (segments : List (List X)) → 1 ≤ length (runs_in differ segments) → 1 ≤ length (joined (runs_in differ segments))
  some-runs_in [] some = absurd (omega (arith, some))
  some-runs_in ([] ∷ segments) some = some-runs_in segments some
  some-runs_in ((x ∷ xs) ∷ segments) some =
      omega (
        arith,
        long-joined (runs_of differ (x ∷ xs)) (runs_in differ segments),
        ap (λ (p : List X × List (List X)). length p.0 + length (joined p.1)) (sym (all-parted (x ∷ xs))) ∙ size-parted None (x ∷ xs),
      )

  pub size-part : (front : Option X) (part : List X × List (List X)) → length (run_part front part).0 + length (joined (run_part front part).1) ≡ length (part.0 ++ joined part.1)
  size-part front part =
      omega (
        arith,
        size-parted front part.0,
        long-joined (parted front part.0).1 (runs_in differ part.1),
        size-runs_in part.1,
        length-append part.0 (joined part.1),
      )

  pub some-part : (front : Option X) (part : List X × List (List X)) → 1 ≤ length (run_part front part).1 → 1 ≤ length (joined (run_part front part).1)
  some-part front part some =
      let own = (parted front part.0).1 in let others = runs_in differ part.1 in
      let both = long-joined own others in
      ⊎_elim
      (λ (none : length own < 1). omega (arith, both, some-runs_in part.1 (omega (arith, some, none, length-append own others))))
      (λ (has : 1 ≤ length own). omega (arith, both, fewer-parted front part.0 has))
      (cases_lt (length own) 1)

  most-more : (b : Bool) (x : X) (xs : List X) (next : List X × List (List X)) → length next.1 ≤ length xs
      → length (followed_by (single b x).0 (single b x).1 next).1 ≤ suc (length xs)
  most-more true x xs next is = omega (arith, is)
  most-more false x xs next is = omega (arith, is)

  -- no more runs begin than there are elements
  pub most-parted : (front : Option X) (xs : List X) → length (parted front xs).1 ≤ length xs
  most-parted front [] = omega arith
  most-parted front (x ∷ xs) = most-more (begins front x) x xs (parted (Some x) xs) (most-parted (Some x) xs)

  most-runs_in : (segments : List (List X)) → length (runs_in differ segments) ≤ length (joined segments)
  most-runs_in [] = omega arith
  most-runs_in (segment ∷ segments) =
      omega (
        arith,
        length-append (runs_of differ segment) (runs_in differ segments),
        ap (λ (p : List X × List (List X)). length p.1) (sym (all-parted segment)),
        most-parted None segment,
        most-runs_in segments,
        length-append segment (joined segments),
      )

  pub most-part : (front : Option X) (part : List X × List (List X)) → length (run_part front part).1 ≤ length (part.0 ++ joined part.1)
  most-part front part =
      omega (
        arith,
        length-append (parted front part.0).1 (runs_in differ part.1),
        most-parted front part.0,
        most-runs_in part.1,
        length-append part.0 (joined part.1),
      )
