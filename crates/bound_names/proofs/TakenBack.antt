-- A binding that is taken back leaves the names as they were.
use Rattle.std.proofs.Common.{◌≡◌, ◌∙◌, ℕ, List, [], ◌∷◌, refl, sym, ap, Option, Some, None, length, arith}
use Rattle.std.specs.Prelude.{IfSome}
use Rattle.std.specs.Ordering.{nat_cmp, match_ordering}
use Rattle.std.specs.declared.cmp.Ordering.{Ordering}
use Rattle.std.specs.declared.cmp.Ordering.TheVariants.{Less, Equal, Greater}
use Rattle.std.specs.Cmp.{tied_itself}
use Rattle.std.specs.Cmp.Lexicographic.{slice_cmp, nat_list_cmp_total}
use Rattle.std.specs.Map.{keys_of, lookup, remove_entry}
use Rattle.std.specs.BTreeMap.{insert_entry, is_at}
use Rattle.cvl_base.specs.declared.value.Value.{Value}
use Rattle.bound_names.specs.Names.{Entries, bind, bind_again, value_at}

abbrev order : List ℕ → List ℕ → Ordering
order = slice_cmp nat_cmp

module _ {X : Type 0} where
  -- by where the name stands against the first one
  removed_at : (e : List ℕ × X) (es : List (List ℕ × X)) (name : List ℕ) (v : X) (o : Ordering) → order name e.0 ≡ o →
      lookup (is_at (order name)) (e ∷ es) ≡ None →
      (lookup (is_at (order name)) es ≡ None → remove_entry (is_at (order name)) (insert_entry order es name v) ≡ es) →
      remove_entry (is_at (order name)) (match_ordering o ((name, v) ∷ e ∷ es) ((e.0, v) ∷ es) (e ∷ insert_entry order es name v)) ≡ e ∷ es
  removed_at e es name v Less is new later = rw (tied_itself nat_list_cmp_total name) refl
  removed_at e es name v Equal is new later = let found : lookup (is_at (order name)) (e ∷ es) ≡ Some e.1 = rw is refl in cc
  removed_at e es name v Greater is new later =
      let rest : lookup (is_at (order name)) (e ∷ es) ≡ lookup (is_at (order name)) es = rw is refl in
      rw is (ap (λ others. e ∷ others) (later (sym rest ∙ new)))

  removed : (names : List (List ℕ × X)) (name : List ℕ) (v : X) → lookup (is_at (order name)) names ≡ None →
      remove_entry (is_at (order name)) (insert_entry order names name v) ≡ names
  removed [] name v new = rw (tied_itself nat_list_cmp_total name) refl
  removed (e ∷ es) name v new = removed_at e es name v (order name e.0) refl new (removed es name v)

  restored_at : (e : List ℕ × X) (es : List (List ℕ × X)) (name : List ℕ) (v before : X) (o : Ordering) → order name e.0 ≡ o →
      lookup (is_at (order name)) (e ∷ es) ≡ Some before →
      keys_of (match_ordering o ((name, v) ∷ e ∷ es) ((e.0, v) ∷ es) (e ∷ insert_entry order es name v)) ≡ keys_of (e ∷ es) →
      (lookup (is_at (order name)) es ≡ Some before → keys_of (insert_entry order es name v) ≡ keys_of es → insert_entry order (insert_entry order es name v) name before ≡ es) →
      insert_entry order (match_ordering o ((name, v) ∷ e ∷ es) ((e.0, v) ∷ es) (e ∷ insert_entry order es name v)) name before ≡ e ∷ es
  restored_at e es name v before Less is had stay later = let long = ap length stay in absurd (omega arith)
  restored_at e es name v before Equal is had stay later =
      let found : lookup (is_at (order name)) (e ∷ es) ≡ Some e.1 = rw is refl in
      let same : before ≡ e.1 = cc in
      rw is (ap (λ w. (e.0, w) ∷ es) same)
  restored_at e es name v before Greater is had stay later =
      let rest : lookup (is_at (order name)) (e ∷ es) ≡ lookup (is_at (order name)) es = rw is refl in
      let keys : keys_of (insert_entry order es name v) ≡ keys_of es = cc in
      rw is (ap (λ others. e ∷ others) (later (sym rest ∙ had) keys))

  restored : (names : List (List ℕ × X)) (name : List ℕ) (v before : X) → lookup (is_at (order name)) names ≡ Some before →
      keys_of (insert_entry order names name v) ≡ keys_of names → insert_entry order (insert_entry order names name v) name before ≡ names
  restored [] name v before had stay = cc
  restored (e ∷ es) name v before had stay = restored_at e es name v before (order name e.0) refl had stay (restored es name v before)

-- what a name had before it was bound, bound again
pub taken_back : {A : Type 0} (names after : Entries A) (name : List ℕ) (v : Value A) (before : Option (Value A)) →
    after ≡ bind names name v → before ≡ value_at names name → IfSome before (λ _. keys_of after ≡ keys_of names) → bind_again after name before ≡ names
taken_back names after name v None is had stay = ap (λ n. bind_again n name None) is ∙ removed names name v (sym had)
taken_back names after name v (Some w) is had stay =
    ap (λ n. bind_again n name (Some w)) is ∙ restored names name v w (sym had) (sym (ap keys_of is) ∙ stay)
