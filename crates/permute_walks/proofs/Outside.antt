-- The walks of a back permute: which index is the first outside, and what the definition gives where none is.
use Rattle.permute_walks.proofs.Cited.{rules, nat_tests, ◌≡◌, ◌∙◌, ℕ, ◌+◌, ◌<◌, ◌≤◌, Bool, true, false, not, if◌then◌else◌, cond, List, [], ◌∷◌, length, map, drop, get_or, refl, sym, ap, arith, ◌-◌}
use Rattle.permute_walks.proofs.Cited.{◌++◌, take, length-drop, ℤ, pos, negsuc, is_some, option_map, nat_abs, to_z, of_z, w32, w64, Fits, FitsSigned, T, Option, Some, None, Result, Ok, cons_option}
use Rattle.permute_walks.proofs.Cited.{ok_or, lt-ltb, le-ltb, ltb-true, false≢true, ints, to_z-of_z, at_drop_more, drop_at, length-take-le, take-append-drop, take_at, take_more, All-cons, All-drop}
use Rattle.permute_walks.proofs.Cited.{All-head, All-nil, All-tail, All-take, filter_map-append, sum_by-cons, cond_some, none-some, slice_get_cases, slice_get_read, first_without, part, Stretch}
use Rattle.permute_walks.proofs.Cited.{stretch, Fault, FaultNo, IndexOutOfRange, values_from, element_at, fault_at, ◌>>=◌, unless, first_fault, is_place, place_among, AreInside, count_outside}
use Rattle.permute_walks.proofs.Cited.{elements_at, first_outside, outside}
use Rattle.std.specs.Int.Signed.{non_neg}

-- ---- the first of some indices, and whether it is inside

module _ (place : ℕ) (ws : List (Option FaultNo)) where
  abbrev first_of : Bool → Option Fault
  first_of is_inside = first_fault place ((if is_inside then None else Some IndexOutOfRange) ∷ ws)

  pub inside_first : (is_inside : Bool) → None ≡ first_of is_inside → (is_inside ≡ true) × (None ≡ first_fault (place + 1) ws)
  inside_first true none = (refl, none)
  inside_first false none = absurd (none-some (fault_at IndexOutOfRange place) none)

  not_counted : (is_inside : Bool) → cond (not is_inside) 1 0 ≤ 0 → None ≡ first_fault (place + 1) ws → None ≡ first_of is_inside
  not_counted true none others = others
  not_counted false none others = absurd (omega arith)

  pub passed : (is_inside : Bool) → is_inside ≡ true → first_of is_inside ≡ first_fault (place + 1) ws
  passed true inside = refl
  passed false inside = absurd (false≢true inside)

-- ---- where none is counted, none is outside

pub none_outside : (place places : ℕ) (index : List ℤ) → count_outside places index ≡ 0 → None ≡ first_outside place places index
none_outside place places [] none = refl
none_outside place places (i ∷ index) none =
    let is_out = λ (j : ℤ). cond (not (is_place places j)) 1 0 in
    let first = sum_by-cons is_out i index in
    not_counted place (map _ index) (is_place places i) (omega (arith, first, none)) (none_outside (place + 1) places index (omega (arith, first, none)))

-- ---- the walk from index to index

module _ (first places : ℕ) (index : List ℤ) (k : ℕ) (so_far : first_outside first places index ≡ first_outside (first + k) places (drop k index)) where
  abbrev pub this : ℤ
  this = get_or index k (pos 0)

  next : k < length index → first_outside first places index ≡ first_outside (first + k) places (this ∷ drop (k + 1) index)
  next lt = so_far ∙ at_drop_more (first_outside (first + k) places) index k (pos 0) lt

  pub checked_more : (p : ℕ) → k < length index → place_among places this ≡ Some p → first_outside first places index ≡ first_outside (first + (k + 1)) places (drop (k + 1) index)
  checked_more p lt inside = search (rules, next, passed, cond_some)

-- ---- the definition

pub tells : {X : Type 0} (source : List X) (i : ℤ) → is_some (element_at source i) ≡ is_place (length source) i
tells source (pos k) = grind (arith, nat_tests, slice_get_cases, lt-ltb, le-ltb)
tells source (negsuc k) = refl

-- the first index outside is the first that takes nothing
pub outside_told : {X : Type 0} (place : ℕ) (source : List X) (index : List ℤ)
    → first_outside place (length source) index ≡ option_map (λ p. fault_at IndexOutOfRange p) (first_without place (map (element_at source) index))
outside_told place source [] = refl
outside_told {X = X} place source (i ∷ index) = on (element_at source i) (is_place (length source) i) (tells source i) (outside_told (place + 1) source index)
  where
    on : (v : Option X) (is_inside : Bool) → is_some v ≡ is_inside
        → first_outside (place + 1) (length source) index ≡ option_map (λ p. fault_at IndexOutOfRange p) (first_without (place + 1) (map (element_at source) index))
        → first_of place (map (outside (length source)) index) is_inside ≡ option_map (λ p. fault_at IndexOutOfRange p) (first_without place (v ∷ map (element_at source) index))
    on (Some x) true is rest = rest
    on (Some x) false is rest = absurd (false≢true (sym is))
    on None true is rest = absurd (false≢true is)
    on None false is rest = refl

pub cons_unless : {X : Type 0} (x : X) (o : Option Fault) (xs : List X) → (unless o (Ok xs) >>= λ ys. Ok (x ∷ ys)) ≡ unless o (Ok (x ∷ xs))
cons_unless x None xs = refl
cons_unless x (Some f) xs = refl

values_on : {X : Type 0} (place : ℕ) (ws : List (Option FaultNo)) (is_inside : Bool) (v : Option X) (rest : Result (List X) Fault) (xs : List X) → is_some v ≡ is_inside
    → rest ≡ unless (first_fault (place + 1) ws) (Ok xs)
    → (ok_or v (fault_at IndexOutOfRange place) >>= λ y. rest >>= λ ys. Ok (y ∷ ys)) ≡ unless (first_of place ws is_inside) (Ok (cons_option v xs))
values_on place ws true (Some x) rest xs is same = ap (λ r. r >>= λ ys. Ok (x ∷ ys)) same ∙ cons_unless x (first_fault (place + 1) ws) xs
values_on place ws true None rest xs is same = absurd (false≢true is)
values_on place ws false (Some x) rest xs is same = absurd (false≢true (sym is))
values_on place ws false None rest xs is same = refl

pub values_unless : {X : Type 0} (place : ℕ) (source : List X) (index : List ℤ)
    → values_from IndexOutOfRange place (map (element_at source) index) ≡ unless (first_outside place (length source) index) (Ok (elements_at source index))
values_unless place source [] = refl
values_unless place source (i ∷ index) = search (rules, values_on, tells, values_unless (place + 1) source index)

-- ---- where none is outside

pub all_inside : (place places : ℕ) (index : List ℤ) → None ≡ first_outside place places index → AreInside places index
all_inside place places [] none = All-nil (λ i. is_place places i ≡ true)
all_inside place places (i ∷ index) none =
    let here = inside_first place (map _ index) (is_place places i) none in
    All-cons (λ j. is_place places j ≡ true) i index here.0 (all_inside (place + 1) places index here.1)

-- and where each is inside, none is outside
pub all_passed : (place places : ℕ) (index : List ℤ) → AreInside places index → None ≡ first_outside place places index
all_passed place places [] inside = refl
all_passed place places (i ∷ index) inside = search (rules, All-tail, passed, All-head, all_passed (place + 1) places index (All-tail (λ j. is_place places j ≡ true) i index inside))

length-on : {X : Type 0} (v : Option X) (xs : List X) → is_some v ≡ true → length (cons_option v xs) ≡ length xs + 1
length-on (Some x) xs some = omega arith
length-on None xs some = absurd (false≢true some)

module _ {X : Type 0} (source : List X) where
  here : (i : ℤ) (index : List ℤ) → AreInside (length source) (i ∷ index) → is_some (element_at source i) ≡ true
  here i index inside = tells source i ∙ All-head (λ j. is_place (length source) j ≡ true) i index inside

  rest : (i : ℤ) (index : List ℤ) → AreInside (length source) (i ∷ index) → AreInside (length source) index
  rest i index inside = All-tail (λ j. is_place (length source) j ≡ true) i index inside

  pub length-elements_at : (index : List ℤ) → AreInside (length source) index → length (elements_at source index) ≡ length index
  length-elements_at [] inside = refl
  length-elements_at (i ∷ index) inside = omega (arith, length-on (element_at source i) (elements_at source index) (here i index inside), length-elements_at index (rest i index inside))

  cut : (n : ℕ) (index : List ℤ) → elements_at source index ≡ elements_at source (take n index) ++ elements_at source (drop n index)
  cut n index = ap (elements_at source) (sym (take-append-drop n index)) ∙ filter_map-append (element_at source) (take n index) (drop n index)

  length-front : (n : ℕ) (index : List ℤ) → n ≤ length index → AreInside (length source) index → length (elements_at source (take n index)) ≡ n
  length-front n index within inside = length-elements_at (take n index) (All-take (λ j. is_place (length source) j ≡ true) n index inside) ∙ length-take-le n index within

  -- the elements at some neighbouring indices
  pub part_at : (index : List ℤ) (p k : ℕ) → p + k ≤ length index → AreInside (length source) index → part (elements_at source index) p k ≡ elements_at source (part index p k)
  part_at index p k within inside =
      let others = drop p index in
      ap (λ xs. part xs p k) (cut p index)
      ∙ ap (take k) (drop_at (elements_at source (take p index)) (elements_at source others) p (length-front p index (omega arith) inside) ∙ cut k others)
      ∙ take_at (elements_at source (take k others)) (elements_at source (drop k others)) k
      (length-front k others (omega (arith, length-drop p index)) (All-drop (λ j. is_place (length source) j ≡ true) p index inside))

-- ---- an index as the code reads it

pub read_index : (places : ℕ) (i : ℤ) → FitsSigned w32 i → is_place places i ≡ true
    → (T (non_neg (to_z w32 (of_z w32 i))) × Fits w64 (nat_abs (to_z w32 (of_z w32 i)))) × ((nat_abs (to_z w32 (of_z w32 i)) < places) × (i ≡ pos (nat_abs (to_z w32 (of_z w32 i)))))
read_index places (pos d) fits inside = rw (to_z-of_z w32 (pos d) fits) ((tt, omega (arith, ints)), (ltb-true d places inside, refl))
read_index places (negsuc d) fits inside = absurd (false≢true inside)

-- ---- one more element

cons_alone : {X : Type 0} (o : Option X) (x : X) → o ≡ Some x → cons_option o [] ≡ x ∷ []
cons_alone o x some = ap (λ v. cons_option v []) some

pub at_more : {X : Type 0} (source : List X) (index : List ℤ) (k d : ℕ) (x : X) → k < length index → get_or index k (pos 0) ≡ pos d → d < length source → x ≡ get_or source d x
    → elements_at source (take (k + 1) index) ≡ elements_at source (take k index) ++ x ∷ []
at_more source index k d x lt is within read =
    let some : element_at source (get_or index k (pos 0)) ≡ Some x = ap (element_at source) is ∙ slice_get_read source (length source) d x refl within read in
    cc (take_more index k (pos 0) lt, filter_map-append (element_at source) (take k index) (get_or index k (pos 0) ∷ []), cons_alone (element_at source (get_or index k (pos 0))) x some)

-- ---- a run of them

pub run_found : {X : Type 0} (source : List X) (index js : List ℤ) (run out : Stretch X) (first n : ℕ) → AreInside (length source) index → run.items ≡ []
    → run.first + run.room ≤ length (elements_at source index) → first ≡ run.first + length run.items → n ≡ run.room → js ≡ part index first n
    → out ≡ stretch run.block run.first (run.items ++ elements_at source js) (run.room - length js)
    → out ≡ stretch run.block run.first (part (elements_at source index) run.first run.room) 0
run_found source index js run out first n inside empty within there wide are is =
    let start : first ≡ run.first = omega (arith, ap length empty) in
    let in_index : run.first + run.room ≤ length index = omega (arith, length-elements_at source index inside) in
    let same : js ≡ part index run.first run.room = are ∙ (λ i. part index (start i) (wide i)) in
    let long : length (part index run.first run.room) ≡ run.room = length-take-le run.room (drop run.first index) (omega (arith, length-drop run.first index)) in
    let left : run.room - length js ≡ 0 = omega (arith, ap length same, long) in
    let items = ap (elements_at source) same ∙ sym (part_at source index run.first run.room in_index inside) in
    is ∙ (λ i. stretch run.block run.first (empty i ++ items i) (left i))
