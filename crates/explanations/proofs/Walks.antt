-- One step of the walks over the lines of a script and over the arguments of a call.
use Rattle.std.proofs.Common.{◌≡◌, ◌∙◌, ℕ, ◌+◌, ◌-◌, ◌<◌, suc, List, [], ◌∷◌, ◌++◌, length, map, take, drop, slice_get, Option, ap, ap₂, sym, append_assoc, arith}
use Rattle.std.specs.List.{slice_index_or}
use Rattle.std.proofs.lemmas.List.{drop_more, get_or-map, length-map, map_more, take_more}
use Rattle.cvl_base.specs.declared.call.Arg.{Arg}
use Rattle.cvl_base.specs.declared.value.Value.{Value}
use Rattle.bound_names.specs.Arguments.{arg_value}
use Rattle.bound_names.specs.Names.{Entries}
use Rattle.line_reader.specs.Lines.{call_of}
use Rattle.explained_values.specs.Arguments.{Spelled}
use Rattle.explanations.specs.ArgumentLines.{argument_lines_after, new_line, spelled, word_of}
use Rattle.explanations.specs.Bindings.{bound_by_call, bound_from}
use Rattle.explanations.specs.declared.bindings.Binding.{Binding}

-- ---- lines

one_less : (number line : ℕ) → number < line → line - number ≡ suc (line - (number + 1))
one_less number line below = omega arith

-- one line more has put its bindings
pub line_bound : (A : Type 0) (number line : ℕ) (text : List ℕ) (others : List (List ℕ)) (old new whole : List Binding)
    → old ++ bound_from A number (take (line - number) (text ∷ others)) ≡ whole → number < line
    → new ≡ old ++ bound_by_call number (call_of {A = A} text)
    → new ++ bound_from A (number + 1) (take (line - (number + 1)) others) ≡ whole
line_bound A number line text others old new whole is below step =
    let here = bound_by_call number (call_of {A = A} text) in
    let rest = bound_from A (number + 1) (take (line - (number + 1)) others) in
    let before : old ++ (here ++ rest) ≡ whole = rw (one_less number line below) at is in
    ap (λ xs. xs ++ rest) step ∙ append_assoc old here rest ∙ before

pub line_passed : (number line : ℕ) (text : List ℕ) (others : List (List ℕ)) (wanted : Option (List ℕ))
    → slice_get (text ∷ others) (line - number) ≡ wanted → number < line → slice_get others (line - (number + 1)) ≡ wanted
line_passed number line text others wanted is below = rw (one_less number line below) at is

-- ---- arguments

-- the line of one argument more
pub line_more : {A : Type 0} (names : Entries A) (files : List (List ℕ)) (bindings : List Binding) (args : List Arg) (i : ℕ) (x : Arg) (text new whole : List ℕ)
    → i < length args → x ≡ slice_index_or args i x
    → text ++ argument_lines_after (take i args) names files bindings (drop i args) ≡ whole
    → new ≡ text ++ new_line (take i args) names files bindings x
    → new ++ argument_lines_after (take (i + 1) args) names files bindings (drop (i + 1) args) ≡ whole
line_more names files bindings args i x text new whole lt item is step =
    let rest : drop i args ≡ x ∷ drop (i + 1) args = drop_more args i x lt ∙ ap (λ z. z ∷ drop (i + 1) args) (sym item) in
    let before : take (i + 1) args ≡ take i args ++ x ∷ [] = take_more args i x lt ∙ ap (λ z. take i args ++ z ∷ []) (sym item) in
    let others = argument_lines_after (take (i + 1) args) names files bindings (drop (i + 1) args) in
    ap (λ t. t ++ others) step ∙ append_assoc text (new_line (take i args) names files bindings x) others
    ∙ ap (λ bs. text ++ (new_line (take i args) names files bindings x ++ argument_lines_after bs names files bindings (drop (i + 1) args))) before
    ∙ ap (λ xs. text ++ argument_lines_after (take i args) names files bindings xs) (sym rest) ∙ is

-- one argument more is spelled, by the word at its place
pub spelled_more : {A W : Type 0} (names : Entries A) (args : List Arg) (words : List W) (items : W → List ℕ) (i : ℕ) (arg : Arg) (word : W)
    (new : Spelled A) (before : List (Spelled A)) → map items words ≡ map word_of args → i < length args
    → arg ≡ slice_index_or args i arg → word ≡ slice_index_or words i word → new.word ≡ items word → new.value ≡ arg_value names arg
    → before ≡ map (spelled names) (take i args) → before ++ new ∷ [] ≡ map (spelled names) (take (i + 1) args)
spelled_more {A} {W} names args words items i arg word new before same lt arg_is word_is says holds is =
    let few : i < length words = omega (arith, ap length same, length-map words items, length-map args word_of) in
    let here : items word ≡ word_of arg =
    ap items word_is ∙ sym (get_or-map items words i word [] few) ∙ ap (λ (ls : List (List ℕ)). slice_index_or ls i []) same
    ∙ get_or-map word_of args i arg [] lt ∙ ap word_of (sym arg_is) in
    let of : List ℕ → Option (Value A) → Spelled A = λ w v. record { word = w; value = v } in
    let one : new ≡ spelled names arg = ap₂ of (says ∙ here) holds in
    ap₂ (λ (xs : List (Spelled A)) (x : Spelled A). xs ++ x ∷ []) is (one ∙ ap (spelled names) arg_is) ∙ sym (map_more (spelled names) args i arg lt)
