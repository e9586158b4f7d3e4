-- An option with a default has a value, which passed its parser and is read as that parser says.
use Rattle.command_line.proofs.Cited.{◌≡◌, ◌∙◌, ◌<◌, ◌≤◌, ap, ℕ, zero, suc, Bool, true, false, List, [], ◌∷◌, length, Some, None, refl, sym, inl, inr, arith, find, All, slice_index_or, bytes_eq}
use Rattle.command_line.proofs.Cited.{All-head, All-tail, IsAuto, IsParsedFrom, IsPlain, SameRules, Entry, EntryPasses, WantsDefault, args_of, least_values, parser_of, parser_of_value, found_of}
use Rattle.command_line.proofs.Cited.{one_text, Accepts, read_as, reading_of, Arg, Command, out-Command, ArgMatches, default_present, same_rules_by_id}
use Rattle.std.proofs.lemmas.Option.{slice_get-get_or}
use Rattle.std.proofs.lemmas.Slice.Eq.{bytes_eq-Decides}
use Rattle.clap.specs.declared.builder.action.ArgAction.TheVariants.{Count, Set}
use Rattle.clap.specs.declared.builder.value_parser.ValueParser.{ValueParser}

-- no other argument has the id of the one at this place
abbrev pub IsAlone : List Arg → ℕ → Arg → Type 0
IsAlone xs k d = (j : ℕ) (e : Arg) → j < length xs
    → bytes_eq (slice_index_or xs j e).id.now (slice_index_or xs k d).id.now ≡ true → j ≡ k

-- the first entry of an id, with what holds of each entry
abbrev IsFirst : (Entry → Type 0) → List Entry → List ℕ → Type 0
IsFirst P xs id = (e : Entry) × (find (λ e. bytes_eq e.0.now id) xs ≡ Some e) × (bytes_eq e.0.now id ≡ true) × P e

first_entry : (P : Entry → Type 0) (xs : List Entry) (id : List ℕ) (i : ℕ) → All P xs → i < length xs → ((d : Entry) → bytes_eq (slice_index_or xs i d).0.now id ≡ true) → IsFirst P xs id
first_entry P [] id i all lt same = absurd (omega arith)
first_entry P (x ∷ xs) id i all lt same = go (bytes_eq x.0.now id) refl i lt same (λ j low at. first_entry P xs id j (All-tail P x xs all) low at)
  where
    go : (b : Bool) → bytes_eq x.0.now id ≡ b → (i : ℕ) → i < length (x ∷ xs) → ((d : Entry) → bytes_eq (slice_index_or (x ∷ xs) i d).0.now id ≡ true)
        → ((j : ℕ) → j < length xs → ((d : Entry) → bytes_eq (slice_index_or xs j d).0.now id ≡ true) → IsFirst P xs id) → IsFirst P (x ∷ xs) id
    go true e i lt same rest = (x, rw e refl, e, All-head P x xs all)
    go false e zero lt same rest = let here = same x in cc
    go false e (suc i) lt same rest =
        let later = rest i (omega arith) same in
        (later.0, rw e later.1, later.2, later.3)

-- an option of one value with a default has a text that passed its parser: it is no group, and no argument with its id counts or
-- may go without
pub value_accepted : (old : Command) (m : ArgMatches) (p : IsParsedFrom old m) → IsPlain old → (out-Command old).has_globals ≡ false
    → (k : ℕ) (d : Arg) → k < length (args_of old) → IsAlone (args_of old) k d
    → ((slice_index_or (args_of old) k d).id.now ≡ [] → ⊥) → (IsAuto (slice_index_or (args_of old) k d) → ⊥)
    → WantsDefault (slice_index_or (args_of old) k d) → (slice_index_or (args_of old) k d).action ≡ Some Set
    → (slice_index_or (args_of old) k d).val_delim ≡ None → 1 ≤ least_values (slice_index_or (args_of old) k d)
    → (q : ValueParser) → (slice_index_or (args_of old) k d).value_parser ≡ Some q
    → (t : List ℕ) × (one_text (found_of m) (slice_index_or (args_of old) k d).id.now ≡ Some (read_as (reading_of q) t))
    × Accepts (slice_index_or (args_of old) k d).ignore_case q t
value_accepted old m p plain globals k d lt alone named own wants set delim least q parser =
    let a = slice_index_or (args_of old) k d in
    let parsed = p.parsed (p.from.globals ∙ globals) in
    let has = default_present old m p globals k d lt wants in
    let got = first_entry (EntryPasses p.built) (found_of m).entries.items a.id.now has.0 parsed.values has.1 has.2 in
    let e = got.0 in
    let pass = got.3 in
    let key : e.0.now ≡ a.id.now = (bytes_eq-Decides e.0.now a.id.now).0 got.2 in
    let rules : (j : ℕ) (y : Arg) → j < length (args_of p.built) → slice_index_or (args_of p.built) j y ≡ y → bytes_eq y.id.now e.0.now ≡ true → SameRules a y =
    λ j y low at same. same_rules_by_id old m p k d lt alone own j y low at (rw key at same) in
    let is_q : (y : Arg) → SameRules a y → parser_of y ≡ q = λ y s. ap parser_of_value (s.parser q parser) in
    let no_group : e.1.is_group ≡ true → ⊥ = λ g. elim (pass.3 g) [
      | inl empty ↦ named (sym key ∙ empty)
      | inr lots ↦
          let bad : 0 < 0 = rw (p.from.plain plain).1 at lots in
          absurd (omega arith)
    ] in
    let some : 0 < length e.1.vals.items = elim pass.1 [
      | inl h ↦ absurd (no_group h.0)
      | inr (inl v) ↦ v
      | inr (inr (inl (counts, h))) ↦
          let is_set : h.1.action ≡ Some Set = (rules h.0 h.1 h.2 h.3 h.4.0).action Set set in
          let bad : Set ≡ Count = rw is_set at h.4.1 in
          cc
      | inr (inr (inr h)) ↦
          let s = rules h.0 h.1 h.2 h.3 h.4.0 in
          elim h.4.1 [
            | inl none ↦
                let one = s.least set least in
                absurd (omega arith)
            | inr cut ↦
                let bad : false ≡ true = rw (s.val_delim, delim) at cut in
                cc
          ]
    ] in
    let how : e.1.reading ≡ reading_of q = elim pass.4 [
      | inl g ↦ absurd (no_group g)
      | inr h ↦ sym h.4.1 ∙ ap reading_of (is_q h.1 (rules h.0 h.1 h.2 h.3 h.4.0))
    ] in
    let v = slice_index_or e.1.vals.items 0 (record { ref_ptr = (0, 0); now = [] }) in
    let passed : Accepts a.ignore_case q v.now = elim pass.0 [
      | inl g ↦ absurd (no_group g)
      | inr all ↦
          let h = all 0 (record { ref_ptr = (0, 0); now = [] }) some in
          let s = rules h.0 h.1 h.2 h.3 h.4.0 in
          rw (is_q h.1 s, s.ignore_case) at h.4.1
    ] in
    (v.now, rw (got.1, slice_get-get_or e.1.vals.items 0 (record { ref_ptr = (0, 0); now = [] }) some) (ap (λ r. Some (read_as r v.now)) how), passed)
