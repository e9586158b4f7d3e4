-- An option that the words leave out has its default.
use Rattle.command_line.proofs.Cited.{◌≡◌, ◌∙◌, ◌||◌, ℕ, Bool, true, false, cond, not, List, [], ◌∷◌, ◌++◌, Option, Some, None, option_map, refl, ap, codes, find, option_and_then, fold, list_all}
use Rattle.command_line.proofs.Cited.{bytes_eq, digits_value, without_leading_plus, and_parts, not-true, or_parts, Row, Rule, Text, at_row, has_row, reading_by, row_text, with_default}
use Rattle.command_line.proofs.Cited.{argument_words, built, filled, help_rule, matches_of, version_rule, with_index, unwrap_or}
use Rattle.std.specs.Prelude.{slice_get}
use Rattle.clap.specs.declared.parser.matches.ValueSource.TheVariants.{DefaultValue}
use Rattle.command_line.specs.Command.{cvl, explain_rule, inputs_rule, script_rule, tile_rule, workers_rule}
use Rattle.command_line.specs.Reads.{explain_given, is_left_out, is_set_in, number_given, number_in, uses_of}

at_missing : (id : Text) (change : Row → List Row) (missing rows : List Row) → has_row id rows ≡ false
    → at_row id change missing rows ≡ rows ++ missing
at_missing id change missing [] e = refl
at_missing id change missing (r ∷ rows) e =
    let parts = or_parts (bytes_eq r.id id) (has_row id rows) e in
    rw parts.0 (ap (λ more. r ∷ more) (at_missing id change missing rows parts.1))

found_before : (p : Row → Bool) (xs : List Row) (y : Row) → p y ≡ false → find p (xs ++ y ∷ []) ≡ find p xs
found_before p [] y e = rw e refl
found_before p (x ∷ xs) y e = ap (λ rest. cond (p x) (Some x) rest) (found_before p xs y e)

found_last : (id : Text) (xs : List Row) (y : Row) → has_row id xs ≡ false → bytes_eq y.id id ≡ true
    → find (λ r. bytes_eq r.id id) (xs ++ y ∷ []) ≡ Some y
found_last id [] y none e = rw e refl
found_last id (x ∷ xs) y none e =
    let parts = or_parts (bytes_eq x.id id) (has_row id xs) none in
    rw parts.0 (found_last id xs y parts.1 e)

-- the row that a default makes
abbrev row_by_default : Rule → Text → Row
row_by_default a v = record {
  id = a.id;
  values = v ∷ [];
  count = None;
  source = Some DefaultValue;
  reading = reading_by a;
}

-- the row of an id
abbrev row_of : Text → List Row → Option Row
row_of id rows = find (λ r. bytes_eq r.id id) rows

-- an option that is left out gets its default
found_default : (a : Rule) (v : Text) (rows : List Row) → a.defaults ≡ v ∷ [] → bytes_eq a.id a.id ≡ true → has_row a.id rows ≡ false
    → row_of a.id (with_default rows a) ≡ Some (row_by_default a v)
found_default a v rows d same none =
    rw (none, d, at_missing a.id _ (row_by_default a v ∷ []) rows none, found_last a.id rows (row_by_default a v) none same) refl

-- what a row of another id doesn't change a default of another option doesn't either
kept : {X : Type 0} (of : List Row → X) (a : Rule) (rows : List Row) → ((y : Row) → y.id ≡ a.id → of (rows ++ y ∷ []) ≡ of rows) → of (with_default rows a) ≡ of rows
kept of a rows same = go (has_row a.id rows) refl a.defaults refl
  where
    go : (b : Bool) → has_row a.id rows ≡ b → (ds : List Text) → a.defaults ≡ ds → of (with_default rows a) ≡ of rows
    go true e ds d = rw e refl
    go false e [] d = rw (e, d) refl
    go false e (v ∷ vs) d =
        let row = record (row_by_default a v) { values = v ∷ vs } in
        rw (e, d, at_missing a.id _ (row ∷ []) rows e) (same row refl)

row_added : (id : Text) (xs : List Row) (y : Row) → bytes_eq y.id id ≡ false → has_row id (xs ++ y ∷ []) ≡ has_row id xs
row_added id [] y e = rw e refl
row_added id (x ∷ xs) y e = ap (λ rest. bytes_eq x.id id || rest) (row_added id xs y e)

row_kept : (a : Rule) (id : Text) (rows : List Row) → bytes_eq a.id id ≡ false → has_row id (with_default rows a) ≡ has_row id rows
row_kept a id rows other = kept (has_row id) a rows (λ y same. row_added id rows y (ap (λ own. bytes_eq own id) same ∙ other))

-- defaults of other options leave an option as it is
all_kept : (id : Text) (rules : List Rule) (rows : List Row) → list_all (λ a. not (bytes_eq a.id id)) rules ≡ true → row_of id (fold with_default rows rules) ≡ row_of id rows
all_kept id [] rows other = refl
all_kept id (a ∷ rules) rows other =
    let parts = and_parts (not (bytes_eq a.id id)) (list_all (λ a. not (bytes_eq a.id id)) rules) other in
    all_kept id rules (with_default rows a) parts.1
    ∙ kept (row_of id) a rows (λ y same. found_before (λ r. bytes_eq r.id id) rows y (ap (λ own. bytes_eq own id) same ∙ not-true _ parts.0))

-- the rules of the command as it is built
abbrev built_tile : Rule
built_tile = with_index 1 (filled tile_rule)

abbrev built_workers : Rule
built_workers = with_index 1 (filled workers_rule)

abbrev built_explain : Rule
built_explain = with_index 1 (filled explain_rule)

abbrev built_others : List Rule
built_others = with_index 1 (filled script_rule) ∷ with_index 2 (filled inputs_rule) ∷ with_index 3 (filled help_rule)
    ∷ with_index 3 (filled version_rule) ∷ []

abbrev built_rules : List Rule
built_rules = built_tile ∷ built_workers ∷ built_explain ∷ built_others

rules_built : (built cvl).top.rules ≡ built_rules
unfolding cvl
rules_built = refl

-- what is read of an option that the words leave out, by what the rules make of rows without it
by_default : {X : Type 0} (of : List Row → X) (name : Text) (words : List Text) (x : X)
    → ((rows : List Row) → has_row name rows ≡ false → of (fold with_default rows built_rules) ≡ x)
    → is_left_out name words ≡ true → of (matches_of cvl words) ≡ x
by_default of name words x gives out =
    let rows = uses_of (built cvl) (argument_words cvl words) in
    ap (λ rules. of (fold with_default rows rules)) rules_built ∙ gives rows (not-true _ out)

-- the number of the row of an option
abbrev number_of_row : Option Row → Option ℕ
number_of_row r = option_map (λ text. digits_value 10 (without_leading_plus text)) (option_and_then row_text r)

pub tile_by_default : (words : List Text) → is_left_out (codes "tile") words ≡ true → number_given (codes "tile") words ≡ Some 4096
tile_by_default words = by_default (number_in (codes "tile")) (codes "tile") words (Some 4096) (λ rows none.
    ap number_of_row (all_kept (codes "tile") (built_workers ∷ built_explain ∷ built_others) (with_default rows built_tile) refl
    ∙ found_default built_tile (codes "4096") rows refl refl none))

pub workers_by_default : (words : List Text) → is_left_out (codes "workers") words ≡ true → number_given (codes "workers") words ≡ Some 4
workers_by_default words = by_default (number_in (codes "workers")) (codes "workers") words (Some 4) (λ rows none.
    ap number_of_row (all_kept (codes "workers") (built_explain ∷ built_others) (with_default (with_default rows built_tile) built_workers) refl
    ∙ found_default built_workers (codes "4") (with_default rows built_tile) refl refl (row_kept built_tile (codes "workers") rows refl ∙ none)))

-- whether the row of a flag sets it
abbrev is_set_by_row : Option Row → Bool
is_set_by_row r = bytes_eq (unwrap_or (option_and_then (λ r. slice_get r.values 0) r) []) (codes "true")

pub explain_by_default : (words : List Text) → is_left_out (codes "explain") words ≡ true → explain_given words ≡ false
explain_by_default words = by_default (is_set_in (codes "explain")) (codes "explain") words false (λ rows none.
    let before = with_default (with_default rows built_tile) built_workers in
    ap is_set_by_row (all_kept (codes "explain") built_others (with_default before built_explain) refl
    ∙ found_default built_explain (codes "false") before refl refl
    (row_kept built_workers (codes "explain") (with_default rows built_tile) refl ∙ row_kept built_tile (codes "explain") rows refl ∙ none)))

pub same_number : (o : Option ℕ) (n default : ℕ) → o ≡ Some n → o ≡ Some default → n ≡ default
same_number o n default is by = cc
