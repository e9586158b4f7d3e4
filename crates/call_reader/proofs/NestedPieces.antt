-- Inner lists that are read in two pieces, where no token has a part in both.
-- Source: the grammar of a nested text.
use Rattle.call_reader.proofs.Cited.{rules, ◌≡◌, ℕ, true, false, List, [], ◌∷◌, ◌++◌, length, map, refl, ℤ, pos, append_assoc, Option, Some, None, Result, Ok, Err, IfOk, IfSome, append-nil}
use Rattle.call_reader.proofs.Cited.{map-append, tokens_by, begins_in_token, cut_before, Mark, nested_class, mark_of, marks_of, AreListsRead, is_no_mark}
use Rattle.std.proofs.lemmas.Grind.{flat_map-append}

none_left : (ms : List Mark) → is_no_mark ms ≡ true → ms ≡ []
none_left [] e = refl
none_left (m ∷ ms) e = absurd (cc)

marks_of_both : (front back : List ℕ) → begins_in_token nested_class back ≡ false → marks_of (front ++ back) ≡ marks_of front ++ marks_of back
marks_of_both front back ends = cc (cut_before nested_class front back ends, map-append mark_of (tokens_by nested_class front) (tokens_by nested_class back))

lists_of_both : (bytes front back rest last : List ℕ) (xs ys all lens others both : List ℤ) → front ++ back ≡ bytes → begins_in_token nested_class back ≡ false
    → AreListsRead front rest xs lens → is_no_mark (marks_of rest) ≡ true → AreListsRead back last ys others → all ≡ xs ++ ys → both ≡ lens ++ others
    → AreListsRead bytes last all both
lists_of_both bytes front back rest last xs ys all lens others both whole ends one none two all_are both_are = record {
  lists = one.lists ++ two.lists;
  numbers_are = cc (all_are, one.numbers_are, two.numbers_are, flat_map-append (λ (l : List ℤ). l) one.lists two.lists);
  lengths_are = cc (both_are, one.lengths_are, two.lengths_are, map-append length one.lists two.lists, map-append pos (map length one.lists) (map length two.lists));
  marks = search (rules, marks_of_both, none_left, append-nil, append_assoc, flat_map-append);
}

-- the same of an answer that may be none, or a refusal, where the lists of both were put one after another
pub both_read : {X F : Type 0} (rest_of : X → List ℕ) (numbers_of lengths_of : X → List ℤ) (answer : Result (Option X) F) (bytes front back rest last : List ℕ) (xs ys lens others : List ℤ)
    → front ++ back ≡ bytes → begins_in_token nested_class back ≡ false → AreListsRead front rest xs lens → AreListsRead back last ys others
    → IfOk answer (λ o. IfSome o (λ _. is_no_mark (marks_of rest) ≡ true)) → IfOk answer (λ o. IfSome o (λ l. numbers_of l ≡ xs ++ ys))
    → IfOk answer (λ o. IfSome o (λ l. lengths_of l ≡ lens ++ others)) → IfOk answer (λ o. IfSome o (λ l. rest_of l ≡ last))
    → IfOk answer (λ o. IfSome o (λ l. AreListsRead bytes (rest_of l) (numbers_of l) (lengths_of l)))
both_read rest_of numbers_of lengths_of (Err e) bytes front back rest last xs ys lens others whole ends one two none all both same = tt
both_read rest_of numbers_of lengths_of (Ok None) bytes front back rest last xs ys lens others whole ends one two none all both same = tt
both_read rest_of numbers_of lengths_of (Ok (Some l)) bytes front back rest last xs ys lens others whole ends one two none all both same = search (rules, lists_of_both)
