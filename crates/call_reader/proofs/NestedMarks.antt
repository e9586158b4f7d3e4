-- The marks of a nest: how many there are of each kind, what the grammar gives of them, and that it gives lists of no others.
use Rattle.call_reader.proofs.Cited.{rules, ◌≡◌, ℕ, ◌+◌, ◌-◌, ◌*◌, ◌≤◌, Bool, true, false, cond, List, [], ◌∷◌, ◌++◌, length, map, refl, ap, sym, ◌∙◌, arith, Ok, Err, ℤ, pos, append_assoc}
use Rattle.call_reader.proofs.Cited.{length-append, Result, unsigned_abs, sum, count_by, flat_map, nat_tests, append-nil, flat_map_more, length-map, map_push, sum_by-cons, sum_by-append, Fault}
use Rattle.call_reader.proofs.Cited.{TooLong, BadInput, fault, fault_at, ◌>>=◌, fault_if, most_elements, cut_of, length-cut, lengths-cut, joined-cut, Mark, opening, closing, number, Where, before}
use Rattle.call_reader.proofs.Cited.{between, inside, behind, is_opening, is_no_bracket, are_too_many, with_number, lists_from, flat_nest, nested_of, marks_of, list_marks, nest_marks, IsNestedText}
use Rattle.call_reader.proofs.Cited.{is_closing, is_number, begin_with, is_no_mark, ArePushed, AreListsRead, IsNestRead, IsFaultAt, HasRoom}
use Rattle.std.proofs.Math.Seq.{take-append_seam, drop-append_seam}
use Rattle.cvl_base.specs.Descriptors.{AreLengths}
use Rattle.cvl_base.proofs.Descriptors.{abs_pos}
use Rattle.cvl_base.specs.Lists.{joined}
use Rattle.cvl_base.proofs.Gives.{after-after, after-none}
use Rattle.segdes.proofs.ListRuns.{length-joined}

pub count-cons : (p : Mark → Bool) (m : Mark) (ms : List Mark) → count_by p (m ∷ ms) ≡ cond (p m) 1 0 + count_by p ms
count-cons p m ms = sum_by-cons (λ x. cond (p x) 1 0) m ms

pub count-append : (p : Mark → Bool) (ms ns : List Mark) → count_by p (ms ++ ns) ≡ count_by p ms + count_by p ns
count-append p ms ns = sum_by-append (λ x. cond (p x) 1 0) ms ns

count-closing : (p : Mark → Bool) → p closing ≡ false → count_by p (closing ∷ []) ≡ 0
count-closing p e = count-cons p closing [] ∙ rw e refl

list-length : (xs : List ℤ) → length (list_marks xs) ≡ length xs + 2
list-length xs = omega (arith, length-append (map number xs) (closing ∷ []), length-map xs number)

pub lists-length : (lists : List (List ℤ)) → length (flat_map list_marks lists) ≡ 2 * length lists + length (joined lists)
lists-length [] = refl
lists-length (xs ∷ lists) = omega (arith, length-append (list_marks xs) (flat_map list_marks lists), list-length xs, lists-length lists, length-append xs (joined lists))

-- how many marks of a kind there are, which has no `]`: so many for each `[` and for each number
module _ (p : Mark → Bool) (o n : ℕ) (opens : cond {A = ℕ} (p opening) 1 0 ≡ o) (closes : p closing ≡ false) (numbers : (x : ℤ) → cond {A = ℕ} (p (number x)) 1 0 ≡ n) where
  numbers-counted : (xs : List ℤ) → count_by p (map number xs) ≡ n * length xs
  numbers-counted [] = omega arith
  numbers-counted (x ∷ xs) = omega (arith, count-cons p (number x) (map number xs), numbers x, numbers-counted xs)

  list-counted : (xs : List ℤ) → count_by p (list_marks xs) ≡ o + n * length xs
  list-counted xs = omega (arith, count-cons p opening (map number xs ++ (closing ∷ [])), opens, count-append p (map number xs) (closing ∷ []), count-closing p closes, numbers-counted xs)

  lists-counted : (lists : List (List ℤ)) → count_by p (flat_map list_marks lists) ≡ o * length lists + n * length (joined lists)
  lists-counted [] = omega arith
  lists-counted (xs ∷ lists) = omega (arith, count-append p (list_marks xs) (flat_map list_marks lists), list-counted xs, lists-counted lists, ap (λ k. n * k) (length-append xs (joined lists)))

  -- the inner lists after the first `[`, and what stands behind them
  all-counted : (lists : List (List ℤ)) (ms : List Mark) → count_by p (opening ∷ (flat_map list_marks lists ++ ms)) ≡ o * (1 + length lists) + n * length (joined lists) + count_by p ms
  all-counted lists ms = omega (arith, count-cons p opening (flat_map list_marks lists ++ ms), opens, count-append p (flat_map list_marks lists) ms, lists-counted lists)

pub counted-on : (lists : List (List ℤ)) (ms : List Mark) → count_by is_no_bracket (opening ∷ (flat_map list_marks lists ++ ms)) ≡ length (joined lists) + count_by is_no_bracket ms
counted-on lists ms = omega (arith, all-counted is_no_bracket 0 1 refl refl (λ x. refl) lists ms)

pub opened-on : (lists : List (List ℤ)) (ms : List Mark) → count_by is_opening (opening ∷ (flat_map list_marks lists ++ ms)) ≡ 1 + length lists + count_by is_opening ms
opened-on lists ms = omega (arith, all-counted is_opening 1 0 refl refl (λ x. refl) lists ms)

pub few : (ms : List Mark) → are_too_many ms ≡ false → (count_by is_no_bracket ms ≤ most_elements) × (count_by is_opening ms ≤ most_elements + 1)
few ms e = (grind (arith, nat_tests), grind (arith, nat_tests))

pub not_too_many : (ms : List Mark) → count_by is_no_bracket ms ≤ most_elements → count_by is_opening ms ≤ most_elements + 1 → are_too_many ms ≡ false
not_too_many ms h k = grind (arith, nat_tests)

-- a list's numbers and its end, read
onto : (x : ℤ) (xs : List ℤ) (r : Result (List (List ℤ)) Fault) → ((r >>= λ lists. Ok (xs ∷ lists)) >>= λ lists. Ok (with_number x lists)) ≡ (r >>= λ lists. Ok ((x ∷ xs) ∷ lists))
onto x xs (Ok lists) = refl
onto x xs (Err f) = refl

read-list : (place after : ℕ) (xs : List ℤ) (ms : List Mark) → after ≡ place + length xs + 1
    → lists_from inside place (map number xs ++ closing ∷ ms) ≡ (lists_from between after ms >>= λ lists. Ok (xs ∷ lists))
read-list place after [] ms e =
    let same : place + 1 ≡ after = omega arith in
    ap (λ (k : ℕ). lists_from between k ms >>= λ lists. Ok ([] ∷ lists)) same
read-list place after (x ∷ xs) ms e = cc (read-list (place + 1) after xs ms (omega arith), onto x xs (lists_from between after ms))

seam : (xs : List ℤ) (rest ms : List Mark) → (list_marks xs ++ rest) ++ ms ≡ opening ∷ (map number xs ++ closing ∷ (rest ++ ms))
seam xs rest ms = simp append_assoc

-- whole inner lists read, and then what stands behind them
pub read-lists : (place after : ℕ) (lists : List (List ℤ)) (ms : List Mark) → after ≡ place + length (flat_map list_marks lists)
    → lists_from between place (flat_map list_marks lists ++ ms) ≡ (lists_from between after ms >>= λ more. Ok (lists ++ more))
read-lists place after [] ms e =
    let same : place ≡ after = omega arith in
    ap (λ (k : ℕ). lists_from between k ms) same ∙ sym (after-none (lists_from between after ms))
read-lists place after (xs ∷ lists) ms e =
    let rest = flat_map list_marks lists in
    ap (lists_from between place) (seam xs rest ms)
    ∙ read-list (place + 1) (place + length xs + 2) xs (rest ++ ms) (omega arith)
    ∙ ap (λ (r : Result (List (List ℤ)) Fault). r >>= λ ls. Ok (xs ∷ ls)) (read-lists (place + length xs + 2) after lists ms
    (omega (arith, e, length-append (list_marks xs) rest, list-length xs)))
    ∙ after-after (xs ∷ []) lists (lists_from between after ms)

-- what can't stand in an inner list
pub list-ends : (place after : ℕ) (xs : List ℤ) (ms : List Mark) → begin_with is_number ms ≡ false → begin_with is_closing ms ≡ false → after ≡ place + length xs
    → lists_from inside place (map number xs ++ ms) ≡ Err (fault_at BadInput after)
list-ends place after [] (closing ∷ ms) e f at = absurd (cc)
list-ends place after [] (number n ∷ ms) e f at = absurd (cc)
list-ends place after [] ms e f at = ap (λ (k : ℕ). Err (fault_at BadInput k)) (omega arith)
list-ends place after (x ∷ xs) ms e f at = cc (list-ends (place + 1) after xs ms e f (omega arith))

-- what can't stand between inner lists
pub between-ends : (place : ℕ) (ms : List Mark) → begin_with is_opening ms ≡ false → begin_with is_closing ms ≡ false → lists_from between place ms ≡ Err (fault_at BadInput place)
between-ends place (opening ∷ ms) e f = absurd (cc)
between-ends place (closing ∷ ms) e f = absurd (cc)
between-ends place ms e f = refl

-- the marks of a nest are read as its lists
pub nest-read : (lists : List (List ℤ)) → lists_from before 0 (nest_marks lists) ≡ Ok lists
nest-read lists = read-lists 1 (1 + length (flat_map list_marks lists)) lists (closing ∷ []) refl ∙ ap Ok (append-nil lists)

-- marks that the grammar reads from there on as these lists
abbrev shape : Where → List (List ℤ) → List Mark
shape before lists = nest_marks lists
shape between lists = flat_map list_marks lists ++ (closing ∷ [])
shape inside [] = closing ∷ closing ∷ []
shape inside (xs ∷ lists) = map number xs ++ closing ∷ (flat_map list_marks lists ++ (closing ∷ []))
shape behind lists = []

through : {X Y : Type 0} (r : Result X Fault) (f : X → Y) (y : Y) → (r >>= λ x. Ok (f x)) ≡ Ok y → (x : X) × (r ≡ Ok x) × (f x ≡ y)
through (Ok x) f y e = (x, refl, (cc))
through (Err g) f y e = absurd (cc)

inside-some : (place : ℕ) (ms : List Mark) → lists_from inside place ms ≡ Ok [] → ⊥
inside-some place (closing ∷ ms) e = search (rules, through)
inside-some place (number n ∷ ms) e =
    let back = through (lists_from inside (place + 1) ms) (with_number n) [] e in
    never back.0 back.2
  where
    never : (lists : List (List ℤ)) → with_number n lists ≡ [] → ⊥
    never [] e = cc
    never (xs ∷ lists) e = cc
inside-some place ms e = cc

open-shape : (lists : List (List ℤ)) → (lists ≡ [] → ⊥) → opening ∷ shape inside lists ≡ shape between lists
open-shape [] some = absurd (some refl)
open-shape (xs ∷ lists) some = sym (seam xs (flat_map list_marks lists) (closing ∷ []))

number-shape : (n : ℤ) (lists : List (List ℤ)) → number n ∷ shape inside lists ≡ shape inside (with_number n lists)
number-shape n [] = refl
number-shape n (xs ∷ lists) = refl

-- marks that the grammar reads as lists are the lists' marks
sound : (w : Where) (place : ℕ) (ms : List Mark) (lists : List (List ℤ)) → lists_from w place ms ≡ Ok lists → ms ≡ shape w lists
sound before place (opening ∷ ms) lists e = ap (λ (others : List Mark). opening ∷ others) (sound between (place + 1) ms lists e)
sound between place (opening ∷ ms) lists e = cc (sound inside (place + 1) ms lists e, open-shape lists (λ none. inside-some (place + 1) ms (e ∙ ap Ok none)))
sound between place (closing ∷ []) lists e = search rules
sound inside place (number n ∷ ms) lists e =
    let back = through (lists_from inside (place + 1) ms) (with_number n) lists e in
    ap (λ (others : List Mark). number n ∷ others) (sound inside (place + 1) ms back.0 back.1) ∙ number-shape n back.0 ∙ ap (shape inside) back.2
sound inside place (closing ∷ ms) lists e =
    let back = through (lists_from between (place + 1) ms) (λ (lists : List (List ℤ)). [] ∷ lists) lists e in
    ap (λ (others : List Mark). closing ∷ others) (sound between (place + 1) ms back.0 back.1) ∙ ap (shape inside) back.2
sound behind place [] lists e = refl
sound w place ms lists e = absurd (cc)

-- lists that are joined and cut by their lengths are the lists
pub cut-joined : {X : Type 0} (lists : List (List X)) → cut_of (map length lists) (joined lists) ≡ lists
cut-joined [] = refl
cut-joined (xs ∷ lists) = rw (take-append_seam xs (joined lists), drop-append_seam xs (joined lists), cut-joined lists)

-- the marks of lists within the limits are read as these
nest-answered : (bytes : List ℕ) (lists : List (List ℤ)) → marks_of bytes ≡ nest_marks lists → length (joined lists) ≤ most_elements → length lists ≤ most_elements
    → nested_of bytes ≡ Ok (flat_nest lists)
nest-answered bytes lists is few_numbers few_lists = search (rules, counted-on, count-closing, opened-on, not_too_many, nest-read)

-- a nested text of a vector and lengths is read as these
pub text-read : (bytes : List ℕ) (xs : List ℤ) (lengths : List ℕ) → IsNestedText bytes xs lengths → nested_of bytes ≡ Ok (xs, lengths)
text-read bytes xs lengths is =
    let same = joined-cut lengths xs is.total in
    let lens = lengths-cut lengths xs (omega (arith, is.total)) in
    cc (nest-answered bytes (cut_of lengths xs) is.tokens (omega (arith, ap length same, is.few_numbers)) (omega (arith, length-cut lengths xs, is.few_lists)), same, lens)

limited : (ms : List Mark) (y : List ℤ × List ℕ) → fault_if (are_too_many ms) (fault TooLong) (lists_from before 0 ms >>= λ ls. Ok (flat_nest ls)) ≡ Ok y → are_too_many ms ≡ false
limited ms y = search rules

-- and what is read is that of a nested text
pub read-text : (bytes : List ℕ) (xs : List ℤ) (lengths : List ℕ) → nested_of bytes ≡ Ok (xs, lengths) → IsNestedText bytes xs lengths
read-text bytes xs lengths e =
    let ms = marks_of bytes in
    let in_limit = limited ms (xs, lengths) e in
    let reads : (lists_from before 0 ms >>= λ ls. Ok (flat_nest ls)) ≡ Ok (xs, lengths) = cc (in_limit, e) in
    let back = through (lists_from before 0 ms) flat_nest (xs, lengths) reads in
    let lists = back.0 in
    let shaped = sound before 0 ms lists back.1 in
    let numbers : joined lists ≡ xs = ap (λ (p : List ℤ × List ℕ). p.0) back.2 in
    let lens : map length lists ≡ lengths = ap (λ (p : List ℤ × List ℕ). p.1) back.2 in
    let cut : cut_of lengths xs ≡ lists = ap (λ (ns : List ℕ). cut_of ns xs) (sym lens) ∙ ap (cut_of (map length lists)) (sym numbers) ∙ cut-joined lists in
    let both = few ms in_limit in
    let count = counted-on lists (closing ∷ []) in
    let opens = opened-on lists (closing ∷ []) in
    let ends : count_by is_no_bracket (closing ∷ []) ≡ 0 = count-closing is_no_bracket refl in
    let ends_too : count_by is_opening (closing ∷ []) ≡ 0 = count-closing is_opening refl in
    record {
      total = ap sum (sym lens) ∙ sym (length-joined lists) ∙ ap length numbers;
      tokens = shaped ∙ ap nest_marks (sym cut);
      few_numbers = omega (arith, both.0, ap (count_by is_no_bracket) shaped, count, ap length numbers);
      few_lists = omega (arith, both.1, ap (count_by is_opening) shaped, opens, ap length lens, length-map lists length);
    }

pub none_pushed : (bytes : List ℕ) (old : List ℤ) → ArePushed bytes bytes old old
none_pushed bytes old = record { pushed = []; numbers = sym (append-nil old); marks = refl }

joined-more : (lists : List (List ℤ)) (xs : List ℤ) → joined (lists ++ (xs ∷ [])) ≡ joined lists ++ xs
joined-more lists xs = sym (flat_map_more (λ (ys : List ℤ). ys) [] lists xs)

marks-more : (lists : List (List ℤ)) (xs : List ℤ) (ms : List Mark) → flat_map list_marks (lists ++ (xs ∷ [])) ++ ms ≡ flat_map list_marks lists ++ (opening ∷ (map number xs ++ closing ∷ ms))
marks-more lists xs ms = ap (λ (l : List Mark). l ++ ms) (sym (flat_map_more list_marks [] lists xs)) ∙ simp append_assoc

lengths-more : (lists : List (List ℤ)) (xs : List ℤ) → map pos (map length (lists ++ (xs ∷ []))) ≡ map pos (map length lists) ++ (pos (length xs) ∷ [])
lengths-more lists xs = ap (map pos) (map_push length lists xs) ∙ map_push pos (map length lists) (length xs)

-- the list inside the others, before its end
open_marks : (bytes rest inner others : List ℕ) (old new lengths : List ℤ) (is : AreListsRead bytes rest old lengths) (in_list : ArePushed inner others old new)
    → marks_of rest ≡ opening ∷ marks_of inner
    → marks_of bytes ≡ flat_map list_marks is.lists ++ (opening ∷ (map number in_list.pushed ++ marks_of others))
open_marks bytes rest inner others old new lengths is in_list starts = cc (is.marks, starts, in_list.marks)

-- one list more
pub lists_more : (bytes rest inner others tail : List ℕ) (old new lengths more : List ℤ) (n : ℕ) → AreListsRead bytes rest old lengths → marks_of rest ≡ opening ∷ marks_of inner
    → ArePushed inner others old new → marks_of others ≡ closing ∷ marks_of tail → n ≡ length new - length old → more ≡ lengths ++ (pos n ∷ []) → AreListsRead bytes tail new more
lists_more bytes rest inner others tail old new lengths more n is starts in_list ends count pushed =
    let size : n ≡ length in_list.pushed = omega (arith, count, ap length in_list.numbers, length-append old in_list.pushed) in
    record {
      lists = is.lists ++ (in_list.pushed ∷ []);
      numbers_are = in_list.numbers ∙ ap (λ (xs : List ℤ). xs ++ in_list.pushed) is.numbers_are ∙ sym (joined-more is.lists in_list.pushed);
      lengths_are = cc (pushed, is.lengths_are, size, lengths-more is.lists in_list.pushed);
      marks = cc (open_marks bytes rest inner others old new lengths is in_list starts, ends, marks-more is.lists in_list.pushed (marks_of tail));
    }

length-lengths : (lists : List (List ℤ)) → length (map pos (map length lists)) ≡ length lists
length-lengths lists = length-map (map length lists) pos ∙ length-map lists length

-- no room for one list more: there are too many
pub lists_full : (bytes rest inner : List ℕ) (numbers lengths : List ℤ) (room_numbers room_lengths place : ℕ) → AreListsRead bytes rest numbers lengths → marks_of rest ≡ opening ∷ marks_of inner
    → room_lengths ≤ length lengths → HasRoom room_numbers room_lengths (opening ∷ marks_of bytes) → IsFaultAt place between 1 (marks_of bytes) (opening ∷ marks_of bytes)
lists_full bytes rest inner numbers lengths room_numbers room_lengths place is starts full room fine =
    let opens = ap (λ (ms : List Mark). count_by is_opening (opening ∷ ms)) (is.marks ∙ ap (λ (ms : List Mark). flat_map list_marks is.lists ++ ms) starts) in
    let all = opened-on is.lists (opening ∷ marks_of inner) in
    let one = count-cons is_opening opening (marks_of inner) in
    let within = (room fine).1 in
    absurd (omega (arith, opens, all, one, within, full, ap length is.lengths_are, length-lengths is.lists))

some_number : (ms : List Mark) → begin_with is_number ms ≡ true → 1 ≤ count_by is_no_bracket ms
some_number (number n ∷ ms) e = omega (arith, count-cons is_no_bracket (number n) ms)
some_number ms e = absurd (cc)

-- the inner lists are read, and then what stands behind them
after_lists : (bytes rest : List ℕ) (numbers lengths : List ℤ) (is : AreListsRead bytes rest numbers lengths)
    → lists_from between 1 (marks_of bytes) ≡ (lists_from between (1 + length numbers + 2 * length lengths) (marks_of rest) >>= λ more. Ok (is.lists ++ more))
after_lists bytes rest numbers lengths is =
    ap (lists_from between 1) is.marks ∙ read-lists 1 (1 + length numbers + 2 * length lengths) is.lists (marks_of rest)
    (omega (arith, lists-length is.lists, ap length is.lengths_are, length-lengths is.lists, ap length is.numbers_are))

-- what follows the numbers of a list is no end of it
pub list_fault : (bytes rest inner others : List ℕ) (old new lengths : List ℤ) (room_numbers room_lengths place : ℕ) → AreListsRead bytes rest old lengths
    → marks_of rest ≡ opening ∷ marks_of inner
    → ArePushed inner others old new → begin_with is_closing (marks_of others) ≡ false → (begin_with is_number (marks_of others) ≡ true → room_numbers ≤ length new)
    → HasRoom room_numbers room_lengths (opening ∷ marks_of bytes) → place ≡ 2 + length new + 2 * length lengths → IsFaultAt place between 1 (marks_of bytes) (opening ∷ marks_of bytes)
list_fault bytes rest inner others old new lengths room_numbers room_lengths place is starts in_list no_end full room at fine = by_case (begin_with is_number (marks_of others)) refl
  where
    by_case : (b : Bool) → begin_with is_number (marks_of others) ≡ b → lists_from between 1 (marks_of bytes) ≡ Err (fault_at BadInput place)
    by_case true e =
        let marks = open_marks bytes rest inner others old new lengths is in_list starts in
        let counted = ap (λ (ms : List Mark). count_by is_no_bracket (opening ∷ ms)) marks in
        let all = counted-on is.lists (opening ∷ (map number in_list.pushed ++ marks_of others)) in
        let here = count-cons is_no_bracket opening (map number in_list.pushed ++ marks_of others) in
        let more = count-append is_no_bracket (map number in_list.pushed) (marks_of others) in
        let within = (room fine).0 in
        absurd (omega (
          arith,
          full e,
          some_number (marks_of others) e,
          numbers-counted is_no_bracket 0 1 refl refl (λ x. refl) in_list.pushed,
          ap length is.numbers_are,
          ap length in_list.numbers,
          length-append old in_list.pushed,
        ))
    by_case false e =
        let after = 1 + length old + 2 * length lengths in
        after_lists bytes rest old lengths is ∙ ap (λ (ms : List Mark). lists_from between after ms >>= λ more. Ok (is.lists ++ more)) (starts ∙ ap (λ (ms : List Mark). opening ∷ ms) in_list.marks)
        ∙ ap (λ (r : Result (List (List ℤ)) Fault). r >>= λ more. Ok (is.lists ++ more)) (list-ends (after + 1) place in_list.pushed (marks_of others) e no_end
        (omega (arith, at, ap length in_list.numbers, length-append old in_list.pushed)))

-- what follows the inner lists is no end of the outer one
pub nest_fault : (bytes inner rest : List ℕ) (numbers lengths : List ℤ) (place : ℕ) → AreListsRead inner rest numbers lengths → marks_of bytes ≡ opening ∷ marks_of inner
    → begin_with is_opening (marks_of rest) ≡ false → begin_with is_closing (marks_of rest) ≡ false → place ≡ 1 + length numbers + 2 * length lengths
    → IsFaultAt place before 0 (marks_of bytes) (marks_of bytes)
nest_fault bytes inner rest numbers lengths place is starts no_list no_end at fine =
    let last = 1 + length numbers + 2 * length lengths in
    cc (starts, after_lists inner rest numbers lengths is, between-ends last (marks_of rest) no_list no_end, at)

-- a token behind the outer list
pub behind_fault : (bytes inner rest tail : List ℕ) (numbers lengths : List ℤ) (place : ℕ) → AreListsRead inner rest numbers lengths → marks_of bytes ≡ opening ∷ marks_of inner
    → marks_of rest ≡ closing ∷ marks_of tail → is_no_mark (marks_of tail) ≡ false → place ≡ 2 + length numbers + 2 * length lengths → IsFaultAt place before 0 (marks_of bytes) (marks_of bytes)
behind_fault bytes inner rest after numbers lengths place is starts ends some at fine =
    let last = 1 + length numbers + 2 * length lengths in
    ap (lists_from before 0) starts ∙ after_lists inner rest numbers lengths is
    ∙ ap (λ (ms : List Mark). lists_from between last ms >>= λ more. Ok (is.lists ++ more)) ends
    ∙ ap (λ (r : Result (List (List ℤ)) Fault). r >>= λ more. Ok (is.lists ++ more)) (more-stands (marks_of after) last place some (omega (arith, at)))
  where
    more-stands : (ms : List Mark) (last place : ℕ) → is_no_mark ms ≡ false → place ≡ last + 1 → lists_from behind (last + 1) ms ≡ Err (fault_at BadInput place)
    more-stands [] last place some at = absurd (cc)
    more-stands (m ∷ ms) last place some at = ap (λ (k : ℕ). Err (fault_at BadInput k)) (sym at)

-- what was read is what the bytes write
pub nest_given : (bytes : List ℕ) (numbers lengths : List ℤ) → IsNestRead bytes numbers lengths → length numbers ≤ most_elements → length lengths ≤ most_elements
    → nested_of bytes ≡ Ok (numbers, map unsigned_abs lengths)
nest_given bytes numbers lengths is few_numbers few_lists = search (rules, nest-answered, length-lengths, abs_pos)

pub lengths_given : (bytes : List ℕ) (numbers lengths : List ℤ) → IsNestRead bytes numbers lengths → length numbers ≤ most_elements → length lengths ≤ most_elements → AreLengths lengths
lengths_given bytes numbers lengths is few_numbers few_lists =
    let lens = map length is.lists in
    let same : map unsigned_abs lengths ≡ lens = ap (map unsigned_abs) is.lengths_are ∙ abs_pos lens in
    record {
      none_negative = is.lengths_are ∙ ap (map pos) (sym same);
      few = few_lists;
      in_limit = omega (arith, ap sum same, length-joined is.lists, ap length is.numbers_are, few_numbers);
    }

pub total_given : (bytes : List ℕ) (numbers lengths : List ℤ) → IsNestRead bytes numbers lengths → sum (map unsigned_abs lengths) ≡ length numbers
total_given bytes numbers lengths is = cc (is.lengths_are, abs_pos (map length is.lists), length-joined is.lists, is.numbers_are)

pub one-pair : (bytes : List ℕ) (xs ys : List ℤ) (lengths others : List ℕ) → IsNestedText bytes xs lengths → IsNestedText bytes ys others → (xs ≡ ys) × (lengths ≡ others)
one-pair bytes xs ys lengths others is too =
    let one = text-read bytes xs lengths is in
    let other = text-read bytes ys others too in
    let pair : ◌≡◌ {A = List ℤ × List ℕ} (xs, lengths) (ys, others) = cc in
    (ap (λ (p : List ℤ × List ℕ). p.0) pair, ap (λ (p : List ℤ × List ℕ). p.1) pair)
