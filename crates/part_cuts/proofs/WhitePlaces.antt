-- Places at which a text is cut at white space.
use Rattle.std.proofs.Common.{◌≡◌, ◌∙◌, ◌+◌, ◌-◌, ◌/◌, ◌<◌, ◌≤◌, ◌⊎◌, ℕ, zero, suc, Bool, true, false, not, IsTrue, List, drop, get_or, length, max, set, take, refl, sym, ap, arith, subst}
use Rattle.std.proofs.Common.{add-one, inl, inr, length-drop}
use Rattle.std.specs.Prelude.{if◌then◌else◌}
use Rattle.std.specs.List.{list_all, position_or_len}
use Rattle.std.proofs.Math.ListN.{length-set}
use Rattle.std.proofs.Math.Nat.{mul-le-mul_left}
use Rattle.std.proofs.lemmas.Bool.{cases_lt, not-false, not-true}
use Rattle.std.proofs.lemmas.List.{at_drop_more, get_or-drop, get_or-take}
use Rattle.std.proofs.lemmas.List.Edits.{fill_by_more}
use Rattle.std.proofs.lemmas.List.FromFn.{fill_by_all, get_or-map-range_with_len, length-map-range_with_len}
use Rattle.std.proofs.lemmas.List.Sums.{AllPass-from_list_all, fails_before_first, passes_at_first, position_or_len_is, prefix_len-le-length}
use Rattle.std.proofs.lemmas.Nat.{div-add-mod', mod_below}
use Rattle.std.proofs.Math.ListN.{length-take}
use Rattle.line_reader.specs.declared.token.ByteClass.TheVariants.{Blank, InToken}
use Rattle.line_reader.specs.Tokens.{begins_in_token, is_in_token}
use Rattle.call_reader.specs.Inputs.{input_class, is_white_space}
use Rattle.part_cuts.specs.Evenly.{even_place}
use Rattle.part_cuts.specs.White.{IsCutAtWhite, white_from, white_place, white_places}

-- ---- the run of bytes that are in a token

classed : (white : Bool) → is_in_token (if white then Blank else InToken) ≡ not white
classed true = refl
classed false = refl

in_token : (b : ℕ) → is_in_token (input_class b) ≡ not (is_white_space b)
in_token b = classed (is_white_space b)

-- it ends at the first white space
pub run_is : (bytes : List ℕ) (run : ℕ) → run ≤ length bytes → IsTrue (list_all (λ b. is_in_token (input_class b)) (take run bytes))
    → begins_in_token input_class (drop run bytes) ≡ false → run ≡ position_or_len is_white_space bytes
run_is bytes run within all longest =
    sym (position_or_len_is is_white_space bytes run 0 within
    (λ k before. not-true (is_white_space (get_or bytes k 0))
    (sym (in_token (get_or bytes k 0)) ∙ ap (λ b. is_in_token (input_class b)) (sym (get_or-take run bytes k 0 before))
    ∙ AllPass-from_list_all (λ b. is_in_token (input_class b)) (take run bytes) all k 0 (omega (arith, before, within, length-take run bytes))))
    (λ inside. not-false (is_white_space (get_or bytes run 0))
    (sym (in_token (get_or bytes run 0)) ∙ sym (at_drop_more (begins_in_token input_class) bytes run 0 inside) ∙ longest)))

-- ---- even places

even_place-le : (len parts k : ℕ) → k ≤ parts → even_place len parts k ≤ len
even_place-le len parts k le = omega (arith, mul-le-mul_left (len / parts) le, div-add-mod' len parts)

even_place-mono : (len parts i j : ℕ) → i ≤ j → even_place len parts i ≤ even_place len parts j
even_place-mono len parts i j le = omega (arith, mul-le-mul_left (len / parts) le)

even_place-all : (len parts : ℕ) → 0 < parts → even_place len parts parts ≡ len
even_place-all len parts some = omega (arith, div-add-mod' len parts, mod_below len parts some)

-- ---- the first white space from a place on

module _ (text : List ℕ) (place : ℕ) where
  white_from-le : place ≤ length text → white_from text place ≤ length text
  white_from-le le = omega (arith, le, prefix_len-le-length (λ b. not (is_white_space b)) (drop place text), length-drop place text)

  -- it is white
  white_at : place ≤ length text → white_from text place < length text → is_white_space (get_or text (white_from text place) 0) ≡ true
  white_at le inside =
      sym (ap is_white_space (get_or-drop place text (position_or_len is_white_space (drop place text)) 0))
      ∙ passes_at_first is_white_space (drop place text) 0 (omega (arith, inside, le, length-drop place text))

  -- what stands before it is not
  none_between : (k : ℕ) → place ≤ k → k < white_from text place → is_white_space (get_or text k 0) ≡ false
  none_between k from before =
      ap (λ n. is_white_space (get_or text n 0)) (omega (arith, from)) ∙ sym (ap is_white_space (get_or-drop place text (k - place) 0))
      ∙ fails_before_first is_white_space (drop place text) (k - place) 0 (omega (arith, from, before))

  -- and nothing else is the first
  white_from-is : (at : ℕ) → place ≤ at → at ≤ length text → ((k : ℕ) → place ≤ k → k < at → is_white_space (get_or text k 0) ≡ false)
      → (at < length text → is_white_space (get_or text at 0) ≡ true) → white_from text place ≡ at
  white_from-is at from within before here =
      ap (λ n. place + n) (position_or_len_is is_white_space (drop place text) (at - place) 0 (omega (arith, within, length-drop place text))
      (λ k below. ap is_white_space (get_or-drop place text k 0) ∙ before (place + k) (omega arith) (omega (arith, below, from)))
      (λ inside. ap is_white_space (get_or-drop place text (at - place) 0) ∙ ap (λ n. is_white_space (get_or text n 0)) (omega (arith, from))
      ∙ here (omega (arith, inside, from, length-drop place text))))
      ∙ omega (arith, from)

-- from a place that is not behind it, it is the same
white_from-on : (text : List ℕ) (place next : ℕ) → place ≤ length text → place ≤ next → next ≤ white_from text place → white_from text next ≡ white_from text place
white_from-on text place next le from within =
    white_from-is text next (white_from text place) within (white_from-le text place le)
    (λ k at before. none_between text place k (omega (arith, from, at)) before) (white_at text place le)

white_from-mono : (text : List ℕ) (place next : ℕ) → place ≤ next → next ≤ length text → white_from text place ≤ white_from text next
white_from-mono text place next from within =
    elim (cases_lt (white_from text place) next) [
      | inl lt ↦ omega (arith, lt)
      | inr ge ↦ omega (arith, white_from-on text place next (omega (arith, from, within)) from ge)
    ]

-- a text has no white space behind its end
white_from-end : (text : List ℕ) → white_from text (length text) ≡ length text
white_from-end text = omega (arith, white_from-le text (length text) (omega arith))

-- ---- the places of parts

white_place-le : (text : List ℕ) (parts k : ℕ) → k ≤ parts → white_place text parts k ≤ length text
white_place-le text parts zero le = omega arith
white_place-le text parts (suc k) le = white_from-le text (even_place (length text) parts (suc k)) (even_place-le (length text) parts (suc k) le)

white_place-mono : (text : List ℕ) (parts i j : ℕ) → i ≤ j → j ≤ parts → white_place text parts i ≤ white_place text parts j
white_place-mono text parts zero j le within = omega arith
white_place-mono text parts (suc i) zero le within = absurd (omega arith)
white_place-mono text parts (suc i) (suc j) le within =
    white_from-mono text (even_place (length text) parts (suc i)) (even_place (length text) parts (suc j)) (even_place-mono (length text) parts (suc i) (suc j) le)
    (even_place-le (length text) parts (suc j) within)

white_place-all : (text : List ℕ) (parts : ℕ) → 0 < parts → white_place text parts parts ≡ length text
white_place-all text zero some = absurd (omega arith)
white_place-all text (suc p) some = ap (white_from text) (even_place-all (length text) (suc p) some) ∙ white_from-end text

-- each but the first is white, or the end
white_place-white : (text : List ℕ) (parts k : ℕ) → 0 < k → k ≤ parts → (white_place text parts k ≡ length text) ⊎ IsTrue (is_white_space (get_or text (white_place text parts k) 0))
white_place-white text parts zero some within = absurd (omega arith)
white_place-white text parts (suc k) some within =
    let even = even_place (length text) parts (suc k) in
    let le : even ≤ length text = even_place-le (length text) parts (suc k) within in
    elim (cases_lt (white_from text even) (length text)) [
      | inl inside ↦ inr (white_at text even le inside)
      | inr behind ↦ inl (omega (arith, behind, white_from-le text even le))
    ]

-- the first white space from an even place on is looked for behind the part before
found_behind : (text : List ℕ) (even next place : ℕ) → even ≤ next → next ≤ length text → place ≡ white_from text even → white_from text (max next place) ≡ white_from text next
found_behind text even next place from within is =
    let le : even ≤ length text = omega (arith, from, within) in
    elim (cases_lt next place) [
      | inl lt ↦ ap (white_from text) (omega (arith, lt)) ∙ white_from-on text even place le (omega (arith, from, lt)) (omega (arith, is))
          ∙ sym (white_from-on text even next le from (omega (arith, lt, is)))
      | inr ge ↦ ap (white_from text) (omega (arith, ge))
    ]

next_by : (text : List ℕ) (parts k place : ℕ) → suc k ≤ parts → place ≡ white_place text parts k
    → white_from text (max (even_place (length text) parts (suc k)) place) ≡ white_place text parts (suc k)
next_by text parts zero place within is = ap (white_from text) (omega (arith, is))
next_by text parts (suc k) place within is =
    found_behind text (even_place (length text) parts (suc k)) (even_place (length text) parts (suc (suc k))) place
    (even_place-mono (length text) parts (suc k) (suc (suc k)) (omega arith)) (even_place-le (length text) parts (suc (suc k)) within) is

pub next_white : (text : List ℕ) (parts k place : ℕ) → k < parts → place ≡ white_place text parts k
    → white_from text (max (even_place (length text) parts (k + 1)) place) ≡ white_place text parts (k + 1)
next_white text parts k place within is =
    ap (λ n. white_from text (max (even_place (length text) parts n) place)) (add-one k) ∙ next_by text parts k place (omega (arith, within)) is
    ∙ sym (ap (white_place text parts) (add-one k))

-- the last place is written behind the others
pub all_placed : (text : List ℕ) (parts : ℕ) (places : List ℕ) (place k : ℕ) → length places ≡ parts + 1 → k ≡ parts → place ≡ white_place text parts k
    → ((j : ℕ) → j < k → get_or places j 0 ≡ white_place text parts j) → set places parts place ≡ white_places text parts
all_placed text parts places place k long is here before =
    let f = white_place text parts in
    ap (set places parts) (here ∙ ap f is)
    ∙ fill_by_all f (set places parts (f parts)) (parts + 1) 0 (length-set places parts (f parts) ∙ long)
    (fill_by_more f places parts 0 (omega (arith, long)) (λ j below. before j (omega (arith, below, is))))

pub cut_at_white : (text : List ℕ) (parts : ℕ) → 0 < parts → IsCutAtWhite text (white_places text parts)
cut_at_white text parts some =
    let f = white_place text parts in
    let long : length (white_places text parts) ≡ parts + 1 = length-map-range_with_len f 0 (parts + 1) in
    let at : (k : ℕ) → k < length (white_places text parts) → get_or (white_places text parts) k 0 ≡ f k =
    λ k within. get_or-map-range_with_len f 0 (parts + 1) k k 0 (omega (arith, within, long)) (omega arith) in
    record {
      begins = at 0 (omega (arith, long));
      ends = ap (λ n. get_or (white_places text parts) n 0) (omega (arith, long)) ∙ at parts (omega (arith, long)) ∙ white_place-all text parts some;
      ascends = λ i j le within. omega (arith, at i (omega (arith, le, within)), at j within, white_place-mono text parts i j le (omega (arith, within, long)));
      at_white = λ k positive within. subst (λ n. (n ≡ length text) ⊎ IsTrue (is_white_space (get_or text n 0))) (sym (at k within))
          (white_place-white text parts k positive (omega (arith, within, long)));
    }
