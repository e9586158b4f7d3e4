-- The text of a nest, read again.
use Rattle.call_reader.proofs.Cited.{rules, ◌≡◌, ℕ, ◌≤◌, List, [], ◌∷◌, ◌++◌, length, map, take, drop, refl, ap, sym, ◌∙◌, arith, Ok, ℤ, FitsSigned, w32, flat_map, sum, join_with_byte}
use Rattle.call_reader.proofs.Cited.{signed_decimal, append-nil, drop_all, map-append, take_all, most_elements, cut_of, nest-fits, begins_in_token, written_number, cut_at_blank, cut_at_lone}
use Rattle.call_reader.proofs.Cited.{nested_class, Mark, opening, closing, number, mark_of, marks_of, list_marks, nest_marks, IsWithin32, IsNestedText, read_again}
use Rattle.std.proofs.lemmas.List.Elements.{All-drop, All-head, All-tail, All-take}
use Rattle.value_texts.specs.Texts.{vector_text, nest_text}
use Rattle.call_reader.proofs.ReadBack.{read_back}
use Rattle.call_reader.proofs.NestedTokens.{number_first}
use Rattle.call_reader.proofs.NestedMarks.{text-read}

marks-blank : (before after : List ℕ) → marks_of (before ++ 32 ∷ after) ≡ marks_of before ++ marks_of after
marks-blank before after = ap (map mark_of) (cut_at_blank nested_class before after 32 refl) ∙ map-append mark_of _ _

marks-end : (before : List ℕ) → marks_of (before ++ (93 ∷ [])) ≡ marks_of before ++ (closing ∷ [])
marks-end before = ap (map mark_of) (cut_at_lone nested_class before [] 93 refl) ∙ map-append mark_of _ _

-- spaces stand between tokens
marks-joined : (texts : List (List ℕ)) → marks_of (join_with_byte 32 texts) ≡ flat_map marks_of texts
marks-joined [] = refl
marks-joined (text ∷ []) = sym (append-nil (marks_of text))
marks-joined (text ∷ other ∷ texts) = cc (marks-blank text (join_with_byte 32 (other ∷ texts)), marks-joined (other ∷ texts))

marks-bracketed : (text : List ℕ) (ms : List Mark) → marks_of text ≡ ms → marks_of (91 ∷ (text ++ (93 ∷ []))) ≡ opening ∷ (ms ++ (closing ∷ []))
marks-bracketed text ms e = ap (λ (ns : List Mark). opening ∷ ns) (marks-end text ∙ ap (λ (ns : List Mark). ns ++ (closing ∷ [])) e)

number-marks : (z : ℤ) → FitsSigned w32 z → marks_of (signed_decimal z) ≡ number z ∷ []
number-marks z fits =
    let text = signed_decimal z in
    let k = length text in
    let whole : take k text ≡ text = take_all k text (omega arith) in
    let none : drop k text ≡ [] = drop_all k text (omega arith) in
    number_first text k z (ap written_number whole ∙ read_back z fits) (ap (begins_in_token nested_class) none) ∙ ap (λ (bs : List ℕ). number z ∷ marks_of bs) none

numbers-marks : (xs : List ℤ) → IsWithin32 xs → flat_map marks_of (map signed_decimal xs) ≡ map number xs
numbers-marks [] fit = refl
numbers-marks (x ∷ xs) fit = cc (number-marks x (All-head (FitsSigned w32) x xs fit), numbers-marks xs (All-tail (FitsSigned w32) x xs fit))

-- each number of each list fits 32 bits
abbrev AllWithin32 : List (List ℤ) → Type 0
AllWithin32 [] = Unit {0}
AllWithin32 (xs ∷ lists) = IsWithin32 xs × AllWithin32 lists

lists-marks : (lists : List (List ℤ)) → AllWithin32 lists → flat_map marks_of (map (vector_text signed_decimal) lists) ≡ flat_map list_marks lists
lists-marks [] fit = refl
lists-marks (xs ∷ lists) (first, others) = search (rules, marks-bracketed, marks-joined, numbers-marks, lists-marks lists others)

nest-text-marks : (lists : List (List ℤ)) → AllWithin32 lists → marks_of (nest_text signed_decimal lists) ≡ nest_marks lists
nest-text-marks lists fit = search (rules, marks-bracketed, marks-joined, lists-marks)

cut-fits : (lengths : List ℕ) (xs : List ℤ) → IsWithin32 xs → AllWithin32 (cut_of lengths xs)
cut-fits [] xs fit = tt
cut-fits (n ∷ lengths) xs fit = (All-take (FitsSigned w32) n xs fit, cut-fits lengths (drop n xs) (All-drop (FitsSigned w32) n xs fit))

-- the text of a vector's nest is a nested text of that vector and of the lengths
pub nest-back : (lengths : List ℕ) (xs : List ℤ) → IsWithin32 xs → sum lengths ≡ length xs → length xs ≤ most_elements → length lengths ≤ most_elements
    → IsNestedText (nest_text signed_decimal (cut_of lengths xs)) xs lengths
nest-back lengths xs fit total few_numbers few_lists = record {
  total = total;
  tokens = nest-text-marks (cut_of lengths xs) (cut-fits lengths xs fit);
  few_numbers = few_numbers;
  few_lists = few_lists;
}

pub nest_read_back : (lengths : List ℕ) (xs : List ℤ) → IsWithin32 xs → sum lengths ≡ length xs → length xs ≤ most_elements → length lengths ≤ most_elements
    → read_again lengths xs ≡ Ok (xs, lengths)
nest_read_back lengths xs fit total few_numbers few_lists = search (rules, nest-fits, text-read, nest-back)
