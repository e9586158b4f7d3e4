-- What a parse of the program's command holds.
use Rattle.command_line.proofs.Cited.{◌≡◌, ◌∙◌, ◌<◌, ◌≤◌, ◌==◌, ◌&&◌, ◌||◌, ap, ℕ, Bool, true, false, not, List, [], ◌∷◌, length, map, is_some, IsSome, Option, Some, None, Err, refl, sym, subst}
use Rattle.command_line.proofs.Cited.{inl, inr, arith, codes, All, list_all, range_with_len, slice_index_or, bytes_eq, false≢true, not-true, All-cons, All-nil, IsAuto, IsParsedFrom, IsPlain}
use Rattle.command_line.proofs.Cited.{IsPlainArg, args_of, unwrap_or_range, first_value, found_of, one_text, without_minus, Rule, Text, is_free_arg, is_simple_arg, rows_of, rule_of, texts, App}
use Rattle.command_line.proofs.Cited.{HasMatchesOf, app_of, is_simple, matches_of, HasKind, Kinds, kind_of, takes, Arg, Command, out-Command, ArgMatches, required_has_value, both, longest_tile}
use Rattle.command_line.proofs.Cited.{most_workers}
use Rattle.std.proofs.lemmas.Bool.Decides.{nat_tests}
use Rattle.std.proofs.lemmas.List.{get_or-map, length-map}
use Rattle.std.proofs.lemmas.List.FromFn.{get_or-range_with_len}
use Rattle.std.proofs.lemmas.List.Sums.{AllPass-from_list_all}
use Rattle.clap.specs.Texts.{items_of}
use Rattle.clap.specs.Faults.{fault_of, is_simple_and_free}
use Rattle.clap.specs.declared.error.Error.{Error}
use Rattle.clap.specs.declared.error.kind.ErrorKind.TheVariants.{OutOfMemory}
use Rattle.clap.specs.declared.builder.range.ValueRange.{ValueRange}
use Rattle.clap.proofs.OnLiterals.{clap_on_literals}
use Rattle.command_line.specs.Command.{cvl, explain_rule, inputs_rule, number_rule, script_rule, tile_rule, up_to, workers_rule}
use Rattle.command_line.specs.Reads.{HasNumber, IsFaultOf, HoldsAllArguments, ReadsBy}
use Rattle.command_line.specs.declared.fault.WordsFault.{WordsFault}
use Rattle.command_line.specs.declared.fault.WordsFault.TheVariants as fault
use Rattle.command_line.proofs.Options.{IsAlone, value_accepted}

-- ---- what the rule of an argument says of the argument

empty_list : {X : Type 0} (xs : List X) → (length xs == 0) ≡ true → xs ≡ []
empty_list [] e = refl
empty_list (x ∷ xs) e = absurd (grind arith)

none_of : {X : Type 0} (o : Option X) → not (is_some o) ≡ true → o ≡ None
none_of None e = refl
none_of (Some x) e = cc

-- an argument that excludes nothing, whose default has no condition and whose values are not cut
record IsBare (a : Arg) : Type 0 where
  plain : IsPlainArg a
  ifs : a.default_vals_ifs.items ≡ []
  delimiter : a.val_delim ≡ None

bare : (a : Arg) → is_simple_arg a ≡ true → is_free_arg a ≡ true → IsBare a
bare a simple free =
    let s0 = both _ _ simple in
    let s1 = both _ _ s0.1 in
    let s2 = both _ _ s1.1 in
    let s3 = both _ _ s2.1 in
    let f0 = both _ _ free in
    let f1 = both _ _ f0.1 in
    record {
      plain = (not-true _ f0.0, empty_list _ f1.0, empty_list _ s0.0, empty_list _ s2.0);
      ifs = empty_list _ s1.0;
      delimiter = none_of _ s3.0;
    }

abbrev is_bare_rule : Rule → Bool
is_bare_rule r = r.is_simple && r.is_free

all_plain : (xs : List Arg) → list_all is_bare_rule (map rule_of xs) ≡ true → All IsPlainArg xs
all_plain [] e = All-nil IsPlainArg
all_plain (x ∷ xs) e =
    let parts = both _ _ e in
    let here = both _ _ parts.0 in
    All-cons IsPlainArg x xs (bare x here.0 here.1).plain (all_plain xs parts.1)

-- ---- the program's command

abbrev rules : List Rule
rules = tile_rule ∷ workers_rule ∷ explain_rule ∷ script_rule ∷ inputs_rule ∷ []

pub simple : is_simple cvl ≡ true
unfolding cvl clap_on_literals
simple = refl

pub simple_and_free : is_simple_and_free cvl ≡ true
unfolding cvl clap_on_literals
simple_and_free = refl

rules_are : (c : Command) → app_of c ≡ cvl → map rule_of (args_of c) ≡ rules
unfolding cvl
rules_are c e = ap (λ (a : App). a.top.rules) e

count_is : (c : Command) → app_of c ≡ cvl → length (args_of c) ≡ 5
count_is c e = sym (length-map (args_of c) rule_of) ∙ ap length (rules_are c e)

pub plain : (c : Command) → app_of c ≡ cvl → IsPlain c
unfolding cvl
plain c e =
    let fields = both _ _ (ap (λ (a : App). a.top.is_plain) e) in
    (all_plain (args_of c) (rw (rules_are c e) refl), empty_list _ fields.0)

no_globals : (c : Command) → app_of c ≡ cvl → (out-Command c).has_globals ≡ false
unfolding cvl
no_globals c e =
    let fields = both _ _ (ap (λ (a : App). a.top.is_plain) e) in
    let external = both _ _ fields.1 in
    not-true _ (both _ _ external.1).0

no_negates : (c : Command) → app_of c ≡ cvl → (out-Command c).subcommand_negates_reqs ≡ false
unfolding cvl
no_negates c e = ap (λ (a : App). a.top.subcommand_negates_reqs) e

-- the rule at a place
rule_is : (c : Command) → app_of c ≡ cvl → (k : ℕ) (d : Arg) (r : Rule) → k < 5 → slice_index_or rules k inputs_rule ≡ r
    → rule_of (slice_index_or (args_of c) k d) ≡ r
rule_is c e k d r lt at =
    sym (get_or-map rule_of (args_of c) k d inputs_rule (omega (arith, count_is c e))) ∙ ap (λ rs. slice_index_or rs k inputs_rule) (rules_are c e) ∙ at

-- the rule at a place has this id only if it is the one at place k
abbrev is_other : ℕ → Text → ℕ → Bool
is_other k id j = not (bytes_eq (slice_index_or rules j inputs_rule).id id) || (j == k)

-- no other rule has the id, which is neither empty nor one of clap's own
abbrev is_own : ℕ → Text → Bool
is_own k id = list_all (is_other k id) (range_with_len 0 5) && list_all (λ word. not (bytes_eq id word)) ([] ∷ codes "help" ∷ codes "version" ∷ [])

place_is : (same : Bool) (j k : ℕ) → (not same || (j == k)) ≡ true → same ≡ true → j ≡ k
place_is true j k e h = grind (arith, nat_tests)
place_is false j k e h = cc

-- no other argument has the id of the one at a place
alone : (c : Command) → app_of c ≡ cvl → (k : ℕ) (d : Arg) (r : Rule) → k < 5 → slice_index_or rules k inputs_rule ≡ r → is_own k r.id ≡ true → IsAlone (args_of c) k d
alone c e k d r lt at own j other low same =
    let few : j < 5 = omega (arith, count_is c e) in
    let this = ap (λ (x : Rule). x.id) (rule_is c e k d r lt at) in
    let that = ap (λ (x : Rule). x.id) (rule_is c e j other (slice_index_or rules j inputs_rule) few refl) in
    let here : slice_index_or (range_with_len 0 5) j 0 ≡ j = omega (arith, get_or-range_with_len 0 5 j 0 few) in
    let tested = AllPass-from_list_all (is_other k r.id) (range_with_len 0 5) (both _ _ own).0 j 0 few in
    place_is _ j k (ap (is_other k r.id) (sym here) ∙ tested) (rw (← that, ← this) same)

differs : (id word : Text) → not (bytes_eq id word) ≡ true → bytes_eq word word ≡ true → id ≡ word → ⊥
differs id word other itself e = false≢true (sym (not-true _ other) ∙ ap (λ t. bytes_eq t word) e ∙ itself)

-- and it is a name of the command's own
named : (k : ℕ) (id : Text) → is_own k id ≡ true → id ≡ [] → ⊥
named k id own = differs id [] (both _ _ (both _ _ own).1).0 refl

not_auto : (k : ℕ) (a : Arg) (id : Text) → a.id.now ≡ id → is_own k id ≡ true → IsAuto a → ⊥
not_auto k a id is own auto =
    let words = both _ _ (both _ _ own).1 in
    let help = both _ _ words.1 in
    elim auto [
      | inl h ↦ differs id (codes "help") help.0 refl (sym is ∙ h)
      | inr h ↦ differs id (codes "version") (both _ _ help.1).0 refl (sym is ∙ h)
    ]

some_arg : (xs : List Arg) → 0 < length xs → Arg
some_arg [] lt = absurd (omega arith)
some_arg (x ∷ xs) lt = x

one_at_least : (o : Option ValueRange) → o ≡ None → 1 ≤ (unwrap_or_range o).start_inclusive
one_at_least o e = rw e (omega arith)

some_default : (a : Arg) (v : Text) → texts (items_of a.default_vals) ≡ v ∷ [] → 0 < length (items_of a.default_vals)
some_default a v e = omega (arith, ap length e, length-map (items_of a.default_vals) (λ s. s.now))

-- an option of one number has a number in its range
has_number : (c : Command) (m : ArgMatches) → app_of c ≡ cvl → IsParsedFrom c m → (k : ℕ) (name : Text) (greatest : ℕ) (default : Text)
    → k < 5 → slice_index_or rules k inputs_rule ≡ number_rule name (up_to greatest) default → is_own k name ≡ true → HasNumber m name greatest
has_number c m e p k name greatest default lt at own =
    let d = some_arg (args_of c) (omega (arith, count_is c e)) in
    let rule = number_rule name (up_to greatest) default in
    let is = rule_is c e k d rule lt at in
    let a = slice_index_or (args_of c) k d in
    let id : a.id.now ≡ name = ap (λ (x : Rule). x.id) is in
    let free : IsBare a = bare a (ap (λ (x : Rule). x.is_simple) is) (ap (λ (x : Rule). x.is_free) is) in
    let got = value_accepted c m p (plain c e) (no_globals c e) k d (omega (arith, count_is c e)) (alone c e k d rule lt at own)
    (λ none. named k name own (sym id ∙ none)) (not_auto k a name id own) (free.ifs, some_default a default (ap (λ (x : Rule). x.defaults) is))
    (ap (λ (x : Rule). x.action) is) free.delimiter (one_at_least a.num_vals (ap (λ (x : Rule). x.range) is)) (up_to greatest) (ap (λ (x : Rule). x.parser) is) in
    record {
      text = got.0;
      read = subst (λ (w : Text). one_text (found_of m) w ≡ Some (without_minus got.0)) id got.1;
      range = got.2;
    }

-- the script has a name
has_script : (c : Command) (m : ArgMatches) → app_of c ≡ cvl → IsParsedFrom c m
    → is_some (first_value (found_of m) (codes "script")) ≡ true
has_script c m e p =
    let d = some_arg (args_of c) (omega (arith, count_is c e)) in
    let is = rule_is c e 3 d script_rule (omega arith) refl in
    let a = slice_index_or (args_of c) 3 d in
    let id : a.id.now ≡ codes "script" = ap (λ (x : Rule). x.id) is in
    let free : IsBare a = bare a (ap (λ (x : Rule). x.is_simple) is) (ap (λ (x : Rule). x.is_free) is) in
    let has = required_has_value c m p (plain c e) (no_globals c e) (no_negates c e) 3 d (omega (arith, count_is c e))
    (ap (λ (x : Rule). x.required) is) (ap (λ (x : Rule). x.action) is) free.delimiter (one_at_least a.num_vals (ap (λ (x : Rule). x.range) is))
    (alone c e 3 d script_rule (omega arith) refl refl) (λ none. named 3 (codes "script") refl (sym id ∙ none)) (not_auto 3 a (codes "script") id refl) in
    subst (λ (w : Text). is_some (first_value (found_of m) w) ≡ true) id has

pub whole : (c : Command) (m : ArgMatches) → app_of c ≡ cvl → IsParsedFrom c m → HoldsAllArguments m
whole c m e p = record {
  tile = has_number c m e p 0 (codes "tile") longest_tile (codes "4096") (omega arith) refl refl;
  workers = has_number c m e p 1 (codes "workers") most_workers (codes "4") (omega arith) refl refl;
  script = is_some_of _ (has_script c m e p);
}
  where
    is_some_of : {X : Type 0} (o : Option X) → is_some o ≡ true → IsSome o
    is_some_of None h = cc
    is_some_of (Some x) h = refl

-- the matches of a command that is ours
pub matches_by : (a : App) (words : List Text) (m : ArgMatches) → a ≡ cvl → HasMatchesOf a words m
    → rows_of (found_of m) ≡ matches_of cvl words
matches_by a words m e h = (subst (λ (x : App). HasMatchesOf x words m) e h simple).0

-- and what holds of its faults
pub faults_by : (P : Kinds → Type 0) (a : App) (words : List Text) → a ≡ cvl
    → (is_simple_and_free a ≡ true → P (fault_of a words)) → P (fault_of cvl words)
faults_by P a words e h =
    subst (λ (x : App). is_simple_and_free x ≡ true → P (fault_of x words)) e h simple_and_free

pub refused_by : (W : Type 0) (kinds : Kinds) (error : Error) (why : WordsFault) → HasKind kinds error → IsFaultOf error why
    → ReadsBy {W = W} kinds (Err why)
refused_by W kinds error (fault.Refused e) (inl memory) h = absurd (h.1 memory)
refused_by W kinds error (fault.Refused e) (inr among) h = rw h.0 among
refused_by W kinds error fault.NoResources has h = tt

-- where the command takes the words, what fails is out of memory
pub out_of_memory_by : (app : App) (words : List Text) (error : Error) (why : WordsFault) → app ≡ cvl → (takes app words ≡ true → kind_of error ≡ OutOfMemory)
    → IsFaultOf error why → takes cvl words ≡ true → why ≡ fault.NoResources
out_of_memory_by app words error (fault.Refused e) same memory h taken =
    absurd (h.1 (memory (subst (λ (x : App). takes x words ≡ true) (sym same) taken)))
out_of_memory_by app words error fault.NoResources same memory h taken = refl
