-- The walk from neighbour to neighbour: what it has written of the runs, and how far the one has come that it is in.
use Rattle.std.proofs.Common.{◌≡◌, ◌∙◌, ℕ, suc, ◌+◌, ◌-◌, ◌<◌, ◌≤◌, Bool, true, false, cond, if◌then◌else◌, List, [], ◌∷◌, ◌++◌, length, take, drop, get_or, set, ℤ}
use Rattle.std.proofs.Common.{refl, sym, ap, arith, append_assoc, length-set}
use Rattle.std.proofs.lemmas.List.{drop-set-lt, drop_all, take-set, take_more_set}
use Rattle.cvl_base.proofs.Lists.{uncons}
use Rattle.run_lengths.specs.Runs.{numbers_from, onto_first, runs_from, runs_of}
use Rattle.run_lengths.proofs.Counted.{begun, onto_long, some_run}

module _ {X : Type 0} (number : ℕ → ℕ → ℤ) where
  -- the numbers of runs of which the first one has n elements more, in front
  abbrev pub numbers_on : ℕ → ℕ → List (List X) → List ℤ
  numbers_on place n [] = []
  numbers_on place n (run ∷ runs) = number place (n + length run) ∷ numbers_from number (place + (n + length run)) runs

  pub on_none : (place : ℕ) (runs : List (List X)) → numbers_on place 0 runs ≡ numbers_from number place runs
  on_none place [] = refl
  on_none place (run ∷ runs) =
      let same : 0 + length run ≡ length run = omega arith in ap (λ m. number place m ∷ numbers_from number (place + m) runs) same

  pub onto_on : (place n : ℕ) (x : X) (runs : List (List X)) → numbers_on place n (onto_first x runs) ≡ numbers_on place (n + 1) runs
  onto_on place n x [] = refl
  onto_on place n x (run ∷ runs) =
      let one_more : n + length (x ∷ run) ≡ n + 1 + length run = omega arith in
      ap (λ m. number place m ∷ numbers_from number (place + m) runs) one_more

-- what the room holds behind its first places once all numbers are written
abbrev pub wanted : {X : Type 0} → (ℕ → ℕ → ℤ) → (X → X → Bool) → List X → ℕ → ℕ → List ℤ → List ℤ
wanted number differ a place from before = take from before ++ numbers_from number place (runs_of differ a)

-- how many elements stand before `last` in its run, if element k is behind it
abbrev pub elements_of : ℕ → ℕ → ℕ → ℕ
elements_of place k first = place + k - first - 1

-- the walk has come to element k, behind `last`, whose run began at place `first` and has the number `run` in the room
pub record IsWalked {X : Type 0} (differ : X → X → Bool) (number : ℕ → ℕ → ℤ) (a : List X) (place from k run first : ℕ) (last : X) (before out : List ℤ) : Type 0 where
  pub within : k ≤ length a
  pub begun_at : first < place + k
  pub left : run + length (runs_from differ last (drop k a)) ≡ from + length (runs_of differ a)
  pub as_long : length out ≡ length before
  pub so_far : take run out ++ numbers_on number first (elements_of place k first) (runs_from differ last (drop k a)) ≡ wanted number differ a place from before
  pub behind : (i : ℕ) → run < i → drop i out ≡ drop i before

module _ {X : Type 0} (differ : X → X → Bool) (number : ℕ → ℕ → ℤ) where
  pub walk_begun : (a : List X) (place from : ℕ) (x : X) (before : List ℤ) → 0 < length a → x ≡ get_or a 0 x → IsWalked differ number a place from 1 from place x before before
  walk_begun [] place from x before some is = absurd (omega (arith, some))
  walk_begun (y ∷ ys) place from x before some is =
      let none : elements_of place 1 place ≡ 0 = omega arith in
      record {
        within = omega arith;
        begun_at = omega arith;
        left = ap (λ z. from + length (runs_from differ z ys)) is;
        as_long = refl;
        so_far = ap (λ ns. take from before ++ ns)
            (ap (λ n. numbers_on number place n (runs_from differ x ys)) none ∙ on_none number place (runs_from differ x ys)
            ∙ ap (λ z. numbers_from number place (runs_from differ z ys)) is);
        behind = λ i past. refl;
      }

module _ {X : Type 0} {differ : X → X → Bool} {number : ℕ → ℕ → ℤ} {a : List X} {place from k run first : ℕ} {last : X} {before out : List ℤ}
    (to : IsWalked differ number a place from k run first last before out) (fits : from + length (runs_of differ a) ≤ length before) where
  -- the run has its place in the room
  pub in_room : run < length out
  in_room = omega (arith, to.left, to.as_long, fits, some_run differ last (drop k a))

  module _ (next : X) (lt : k < length a) (is : next ≡ get_or a k next) (v : ℤ) (v_is : v ≡ number first (place + k - first)) where
    runs_are : (b : Bool) → differ last next ≡ b → runs_from differ last (drop k a) ≡ begun b last (runs_from differ next (drop (k + 1) a))
    runs_are b same = ap (runs_from differ last) (uncons a k next lt is) ∙ ap (λ c. begun c last (runs_from differ next (drop (k + 1) a))) same

    whole : (b : Bool) → differ last next ≡ b
        → take run out ++ numbers_on number first (elements_of place k first) (begun b last (runs_from differ next (drop (k + 1) a))) ≡ wanted number differ a place from before
    whole b same = ap (λ runs. take run out ++ numbers_on number first (elements_of place k first) runs) (sym (runs_are b same)) ∙ to.so_far

    -- what is behind the run stays as it is
    still_behind : (i : ℕ) → run < i → drop i (set out run v) ≡ drop i before
    still_behind i past = drop-set-lt i out run v past ∙ to.behind i past

    new_run : differ last next ≡ true → (run' first' : ℕ) → run' ≡ run + 1 → first' ≡ place + k
        → take run' (set out run v) ++ numbers_on number first' (elements_of place (k + 1) first') (runs_from differ next (drop (k + 1) a)) ≡ wanted number differ a place from before
    new_run same run' first' run_is first_is =
        let none : elements_of place (k + 1) first' ≡ 0 = omega (arith, first_is) in
        let many : place + k - first ≡ elements_of place k first + 1 = omega (arith, to.begun_at) in
        let ends : first' ≡ first + (elements_of place k first + 1) = omega (arith, first_is, to.begun_at) in
        let here : v ≡ number first (elements_of place k first + 1) = v_is ∙ ap (number first) many in
        (λ i. take (run_is i) (set out run v) ++ numbers_on number first' (none i) (runs_from differ next (drop (k + 1) a)))
        ∙ (λ i. take_more_set out run v in_room i ++ on_none number first' (runs_from differ next (drop (k + 1) a)) i)
        ∙ append_assoc (take run out) (v ∷ []) (numbers_from number first' (runs_from differ next (drop (k + 1) a)))
        ∙ (λ i. take run out ++ here i ∷ numbers_from number (ends i) (runs_from differ next (drop (k + 1) a)))
        ∙ whole true same

    same_run : differ last next ≡ false → (run' first' : ℕ) → run' ≡ run + 0 → first' ≡ first
        → take run' (set out run v) ++ numbers_on number first' (elements_of place (k + 1) first') (runs_from differ next (drop (k + 1) a)) ≡ wanted number differ a place from before
    same_run same run' first' run_is first_is =
        let one_more : elements_of place (k + 1) first' ≡ elements_of place k first + 1 = omega (arith, first_is, to.begun_at) in
        let stays : run' ≡ run = omega (arith, run_is) in
        (λ i. take (stays i) (set out run v) ++ numbers_on number (first_is i) (one_more i) (runs_from differ next (drop (k + 1) a)))
        ∙ (λ i. take-set out run v i ++ sym (onto_on number first (elements_of place k first) last (runs_from differ next (drop (k + 1) a))) i)
        ∙ whole false same

    pub walked_more : (b : Bool) → differ last next ≡ b → (run' first' : ℕ) → run' ≡ run + cond b 1 0 → first' ≡ (if b then place + k else first)
        → IsWalked differ number a place from (k + 1) run' first' next before (set out run v)
    walked_more true same run' first' run_is first_is =
        let grown : length (runs_from differ last (drop k a)) ≡ suc (length (runs_from differ next (drop (k + 1) a))) = ap length (runs_are true same) in
        let one_more : run' ≡ run + 1 = run_is in
        let here : first' ≡ place + k = first_is in
        record {
          within = omega (arith, lt);
          begun_at = omega (arith, here);
          left = omega (arith, to.left, grown, one_more);
          as_long = length-set out run v ∙ to.as_long;
          so_far = new_run same run' first' one_more here;
          behind = λ i past. still_behind i (omega (arith, past, one_more));
        }
    walked_more false same run' first' run_is first_is =
        let kept : length (runs_from differ last (drop k a)) ≡ length (runs_from differ next (drop (k + 1) a)) =
        ap length (runs_are false same) ∙ onto_long last (runs_from differ next (drop (k + 1) a)) in
        let as_many : run' ≡ run + 0 = run_is in
        let there : first' ≡ first = first_is in
        record {
          within = omega (arith, lt);
          begun_at = omega (arith, there, to.begun_at);
          left = omega (arith, to.left, kept, as_many);
          as_long = length-set out run v ∙ to.as_long;
          so_far = same_run same run' first' as_many there;
          behind = λ i past. still_behind i (omega (arith, past, as_many));
        }

  module _ (past : length a ≤ k) where
    last_alone : runs_from differ last (drop k a) ≡ (last ∷ []) ∷ []
    last_alone = ap (runs_from differ last) (drop_all k a past)

    pub end_is : run + 1 ≡ from + length (runs_of differ a)
    end_is = let one : length (runs_from differ last (drop k a)) ≡ 1 = ap length last_alone in omega (arith, to.left, one)

    module _ (v : ℤ) (v_is : v ≡ number first (place + length a - first)) where
      pub all_walked : take (run + 1) (set out run v) ≡ wanted number differ a place from before
      all_walked =
          let many : place + length a - first ≡ elements_of place k first + 1 = omega (arith, to.begun_at, to.within, past) in
          take_more_set out run v in_room ∙ (λ i. take run out ++ (v_is ∙ ap (number first) many) i ∷ [])
          ∙ ap (λ runs. take run out ++ numbers_on number first (elements_of place k first) runs) (sym last_alone) ∙ to.so_far

      pub all_behind : drop (run + 1) (set out run v) ≡ drop (run + 1) before
      all_behind = drop-set-lt (run + 1) out run v (omega arith) ∙ to.behind (run + 1) (omega arith)
