-- The numbers of the runs that parts have together: each part's own, the last of which goes on in later parts.
use Rattle.std.proofs.Common.{zip, ◌≡◌, ◌++◌, ◌+◌, ◌-◌, ◌≤◌, ◌∙◌, ℕ, suc, ℤ, pos, List, [], ◌∷◌, length, map, sum, refl, sym, ap, arith, length-append, if◌then◌else◌}
use Rattle.std.proofs.lemmas.Bool.{le-ltb, lt-ltb}
use Rattle.std.proofs.lemmas.Int.{ints, int_wrap_fits}
use Rattle.std.proofs.lemmas.List.{map-append}
use Rattle.std.specs.Int.{w32}
use Rattle.cvl_base.proofs.Lists.{sum-cons}
use Rattle.cvl_base.specs.Folds.{scan_of}
use Rattle.cvl_base.specs.Integers.{sum_of}
use Rattle.cvl_base.specs.Limits.{most_places}
use Rattle.cvl_base.specs.Lists.{joined}
use Rattle.operators.proofs.FoldLaws.{scan_of-cons}
use Rattle.call_laws.specs.OverRanks.{going_on, together}
use Rattle.run_lengths.specs.Runs.{its_start, numbers_from}
use Rattle.run_lengths.proofs.Fronts.{numbers-append}
use Rattle.run_parts.specs.Places.{last_or, next_begin, run_behinds}
use Rattle.run_parts.specs.Runs.{lengths_of_runs}
use Rattle.segment_parts.specs.Reduces.{join_last}
use Rattle.step_laws.proofs.Packed.{ends}

-- a sum of lengths of a vector does not wrap
pub places-add : (a b : ℕ) → a + b ≤ most_places → sum_of (pos a) (pos b) ≡ pos (a + b)
places-add a b few = int_wrap_fits w32 (pos (a + b)) (omega (arith, ints, few))

module _ {X : Type 0} where
  -- the starts are the scan of the lengths
  pub starts-scanned : (begin : ℕ) (runs : List (List X)) → begin + length (joined runs) ≤ most_places
      → scan_of sum_of (pos begin) (lengths_of_runs runs) ≡ numbers_from its_start begin runs
  starts-scanned begin [] few = refl
  starts-scanned begin (run ∷ runs) few =
      let both = length-append run (joined runs) in
      scan_of-cons sum_of (pos begin) (pos (length run)) (lengths_of_runs runs)
      ∙ ap (λ z. pos begin ∷ scan_of sum_of z (lengths_of_runs runs)) (places-add begin (length run) (omega (arith, few, both)))
      ∙ ap (λ ns. pos begin ∷ ns) (starts-scanned (begin + length run) runs (omega (arith, few, both)))

  -- ---- the last of some runs goes on

  pub long-going_on : (run : List X) (runs : List (List X)) (more : List X) → length (joined (going_on run runs more)) ≡ length (joined (run ∷ runs)) + length more
  long-going_on run [] more =
      omega (arith, length-append (run ++ more) [], length-append run [], length-append run more)
  long-going_on run (next ∷ runs) more =
      omega (arith, long-going_on next runs more, length-append run (joined (going_on next runs more)), length-append run (joined (next ∷ runs)))

  lengths-going_on : (run : List X) (runs : List (List X)) (more : List X) → length (joined (run ∷ runs)) + length more ≤ most_places
      → lengths_of_runs (going_on run runs more) ≡ join_last sum_of (lengths_of_runs (run ∷ runs)) (pos (length more))
  lengths-going_on run [] more few =
      let long = length-append run more in
      ap (λ n. pos n ∷ []) long ∙ ap (λ z. z ∷ []) (sym (places-add (length run) (length more) (omega (arith, few, length-append run []))))
  lengths-going_on run (next ∷ runs) more few =
      ap (λ ns. pos (length run) ∷ ns) (lengths-going_on next runs more (omega (arith, few, length-append run (joined (next ∷ runs)))))

  starts-going_on : (place : ℕ) (run : List X) (runs : List (List X)) (more : List X) → numbers_from its_start place (going_on run runs more) ≡ numbers_from its_start place (run ∷ runs)
  starts-going_on place run [] more = refl
  starts-going_on place run (next ∷ runs) more = ap (λ ns. pos place ∷ ns) (starts-going_on (place + length run) next runs more)

  -- ---- what each part puts

  -- how many elements a part has
  abbrev pub size_of : List X × List (List X) → ℕ
  size_of part = length part.0 + length (joined part.1)

  abbrev pub size_of_all : List (List X × List (List X)) → ℕ
  size_of_all parts = sum (map size_of parts)

  -- the lengths of each part's runs, the last with what goes on of it in later parts
  abbrev pub lengths_by_parts : List (List X × List (List X)) → List (List ℤ)
  lengths_by_parts [] = []
  lengths_by_parts (part ∷ parts) = join_last sum_of (lengths_of_runs part.1) (pos (length (together parts).0)) ∷ lengths_by_parts parts

  -- where each part's runs begin, if the parts begin at a place
  abbrev pub starts_by_parts : ℕ → List (List X × List (List X)) → List (List ℤ)
  starts_by_parts place [] = []
  starts_by_parts place (part ∷ parts) = numbers_from its_start (place + length part.0) part.1 ∷ starts_by_parts (place + size_of part) parts

  pub size-together : (parts : List (List X × List (List X))) → length (together parts).0 + length (joined (together parts).1) ≡ size_of_all parts
  size-together [] = refl
  size-together ((front, []) ∷ parts) =
      omega (arith, size-together parts, length-append front (together parts).0, sum-cons (length front + 0) (map size_of parts))
  size-together ((front, run ∷ runs) ∷ parts) =
      let next = (together parts).0 in
      let others = (together parts).1 in
      let all : length (joined (going_on run runs next ++ others)) ≡ length (joined (going_on run runs next)) + length (joined others) = long-joined (going_on run runs next) others in
      omega (arith, size-together parts, long-going_on run runs next, all, sum-cons (length front + length (joined (run ∷ runs))) (map size_of parts))
    where
      long-joined : (xs ys : List (List X)) → length (joined (xs ++ ys)) ≡ length (joined xs) + length (joined ys)
      long-joined [] ys = omega arith
      long-joined (x ∷ xs) ys = omega (arith, long-joined xs ys, length-append x (joined (xs ++ ys)), length-append x (joined xs))

  lengths-append : (runs others : List (List X)) → lengths_of_runs (runs ++ others) ≡ lengths_of_runs runs ++ lengths_of_runs others
  lengths-append runs others = map-append (λ run. pos (length run)) runs others

  pub lengths-together : (parts : List (List X × List (List X))) → size_of_all parts ≤ most_places → lengths_of_runs (together parts).1 ≡ joined (lengths_by_parts parts)
  lengths-together [] few = refl
  lengths-together ((front, []) ∷ parts) few = lengths-together parts (omega (arith, few, sum-cons (length front + 0) (map size_of parts)))
  lengths-together ((front, run ∷ runs) ∷ parts) few =
      let next = (together parts).0 in
      let whole = sum-cons (length front + length (joined (run ∷ runs))) (map size_of parts) in
      lengths-append (going_on run runs next) (together parts).1
      ∙ (λ i. lengths-going_on run runs next (omega (arith, few, whole, size-together parts)) i ++ lengths-together parts (omega (arith, few, whole)) i)

  pub starts-together : (place : ℕ) (parts : List (List X × List (List X)))
      → numbers_from its_start (place + length (together parts).0) (together parts).1 ≡ joined (starts_by_parts place parts)
  starts-together place [] = refl
  starts-together place ((front, []) ∷ parts) =
      let here : place + length (front ++ (together parts).0) ≡ place + (length front + 0) + length (together parts).0 =
      omega (arith, length-append front (together parts).0) in
      ap (λ p. numbers_from its_start p (together parts).1) here ∙ starts-together (place + (length front + 0)) parts
  starts-together place ((front, run ∷ runs) ∷ parts) =
      let next = (together parts).0 in
      let others = (together parts).1 in
      let there : place + length front + length (joined (going_on run runs next)) ≡ place + (length front + length (joined (run ∷ runs))) + length next =
      omega (arith, long-going_on run runs next) in
      numbers-append its_start (place + length front) (going_on run runs next) others
      ∙ (λ i. starts-going_on (place + length front) run runs next i ++ (ap (λ p. numbers_from its_start p others) there
      ∙ starts-together (place + (length front + length (joined (run ∷ runs)))) parts) i)

  -- ---- what goes on behind each part

  -- where each part's first run begins, beside where the part ends
  abbrev pub begins_and_ends : ℕ → List (List X × List (List X)) → List (ℕ × ℕ)
  begins_and_ends place [] = []
  begins_and_ends place (part ∷ parts) =
      (place + size_of part - length (joined part.1), place + size_of part) ∷ begins_and_ends (place + size_of part) parts

  -- a part's runs have elements
  abbrev pub HaveElements : List (List X × List (List X)) → Type 0
  HaveElements [] = Unit {0}
  HaveElements (part ∷ parts) = (1 ≤ length part.1 → 1 ≤ length (joined part.1)) × HaveElements parts

  abbrev pub goes_on_behind : List (List X × List (List X)) → List ℕ
  goes_on_behind [] = []
  goes_on_behind (part ∷ parts) = length (together parts).0 ∷ goes_on_behind parts

  next-begins : (place : ℕ) (parts : List (List X × List (List X))) → HaveElements parts
      → next_begin (place + size_of_all parts) (begins_and_ends place parts) ≡ place + length (together parts).0
  next-begins place [] have = refl
  next-begins place ((front, []) ∷ parts) have =
      let end = place + (length front + 0) in
      let whole : place + size_of_all ((front, []) ∷ parts) ≡ end + size_of_all parts = omega (arith, sum-cons (length front + 0) (map size_of parts)) in
      ap (λ b. if b then end - 0 else next_begin (place + size_of_all ((front, []) ∷ parts)) (begins_and_ends end parts)) (le-ltb (end - 0) end (omega arith))
      ∙ ap (λ w. next_begin w (begins_and_ends end parts)) whole ∙ next-begins end parts have.1
      ∙ omega (arith, length-append front (together parts).0)
  next-begins place ((front, run ∷ runs) ∷ parts) have =
      let n = length (joined (run ∷ runs)) in
      let end = place + (length front + n) in
      let some : 1 ≤ n = have.0 (omega arith) in
      ap (λ b. if b then end - n else next_begin (place + size_of_all ((front, run ∷ runs) ∷ parts)) (begins_and_ends end parts)) (lt-ltb (end - n) end (omega (arith, some)))
      ∙ omega arith

  pub behinds-together : (place : ℕ) (parts : List (List X × List (List X))) → HaveElements parts
      → run_behinds (place + size_of_all parts) (begins_and_ends place parts) ≡ goes_on_behind parts
  behinds-together place [] have = refl
  behinds-together place (part ∷ parts) have =
      let end = place + size_of part in
      let whole : place + size_of_all (part ∷ parts) ≡ end + size_of_all parts = omega (arith, sum-cons (size_of part) (map size_of parts)) in
      let first : next_begin (place + size_of_all (part ∷ parts)) (begins_and_ends end parts) - end ≡ length (together parts).0 =
      omega (arith, ap (λ w. next_begin w (begins_and_ends end parts)) whole ∙ next-begins end parts have.1) in
      (λ i. first i ∷ (ap (λ w. run_behinds w (begins_and_ends end parts)) whole ∙ behinds-together end parts have.1) i)

  -- ---- how many runs there are

  pub length-going_on : (run : List X) (runs : List (List X)) (more : List X) → length (going_on run runs more) ≡ length (run ∷ runs)
  length-going_on run [] more = refl
  length-going_on run (next ∷ runs) more = ap suc (length-going_on next runs more)

  pub counts-together : (parts : List (List X × List (List X))) → length (together parts).1 ≡ sum (map (λ p. length p.1) parts)
  counts-together [] = refl
  counts-together ((front, []) ∷ parts) = omega (arith, counts-together parts, sum-cons 0 (map (λ (p : List X × List (List X)). length p.1) parts))
  counts-together ((front, run ∷ runs) ∷ parts) =
      omega (
        arith,
        counts-together parts,
        length-going_on run runs (together parts).0,
        length-append (going_on run runs (together parts).0) (together parts).1,
        sum-cons (length (run ∷ runs)) (map (λ (p : List X × List (List X)). length p.1) parts),
      )

  -- where each part's first run begins
  abbrev pub begins_by_parts : ℕ → List (List X × List (List X)) → List ℕ
  begins_by_parts place [] = []
  begins_by_parts place (part ∷ parts) = (place + size_of part - length (joined part.1)) ∷ begins_by_parts (place + size_of part) parts

  pub zipped-ends : (place : ℕ) (parts : List (List X × List (List X))) → zip (begins_by_parts place parts) (ends place (map size_of parts)) ≡ begins_and_ends place parts
  zipped-ends place [] = refl
  zipped-ends place (part ∷ parts) = ap (λ ps. (place + size_of part - length (joined part.1), place + size_of part) ∷ ps) (zipped-ends (place + size_of part) parts)

pub last-ends : (place : ℕ) (sizes : List ℕ) → last_or place (ends place sizes) ≡ place + sum sizes
last-ends place [] = omega arith
last-ends place (n ∷ sizes) = last-ends (place + n) sizes ∙ omega (arith, sum-cons n sizes)
