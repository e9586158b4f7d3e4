-- What is bound to a name after a binding, and to the other names.
use Rattle.std.proofs.Common.{◌≡◌, ◌∙◌, ℕ, false, List, [], ◌∷◌, refl, sym, Some}
use Rattle.std.specs.Prelude.{◌≢◌}
use Rattle.std.specs.Ordering.{nat_cmp, is_eq, match_ordering}
use Rattle.std.specs.declared.cmp.Ordering.{Ordering}
use Rattle.std.specs.declared.cmp.Ordering.TheVariants.{Less, Equal, Greater}
use Rattle.std.specs.Cmp.{tied_itself}
use Rattle.std.specs.Cmp.Lexicographic.{slice_cmp, nat_list_cmp_total}
use Rattle.std.specs.Map.{lookup}
use Rattle.std.specs.BTreeMap.{insert_entry, is_at}
use Rattle.std.proofs.lemmas.Map.Lookups.{exact_bytes}

abbrev order : List ℕ → List ℕ → Ordering
order = slice_cmp nat_cmp

not_equal : (o : Ordering) → o ≢ Equal → is_eq o ≡ false
not_equal Less differ = refl
not_equal Equal differ = absurd (differ refl)
not_equal Greater differ = refl

apart : (other name : List ℕ) → other ≢ name → is_eq (order other name) ≡ false
apart other name differ = not_equal (order other name) (λ (same : order other name ≡ Equal). differ (exact_bytes other name same))

module _ {X : Type 0} where
  -- by where the name stands against the first one
  bound_at : (e : List ℕ × X) (es : List (List ℕ × X)) (name : List ℕ) (v : X) (o : Ordering) → order name e.0 ≡ o →
      lookup (is_at (order name)) (insert_entry order es name v) ≡ Some v →
      lookup (is_at (order name)) (match_ordering o ((name, v) ∷ e ∷ es) ((e.0, v) ∷ es) (e ∷ insert_entry order es name v)) ≡ Some v
  bound_at e es name v Less is later = rw (tied_itself nat_list_cmp_total name) refl
  bound_at e es name v Equal is later = rw is refl
  bound_at e es name v Greater is later = rw is later

  pub bound : (names : List (List ℕ × X)) (name : List ℕ) (v : X) →
      lookup (is_at (order name)) (insert_entry order names name v) ≡ Some v
  bound [] name v = rw (tied_itself nat_list_cmp_total name) refl
  bound (e ∷ es) name v = bound_at e es name v (order name e.0) refl (bound es name v)

  kept_at : (e : List ℕ × X) (es : List (List ℕ × X)) (name other : List ℕ) (v : X) (o : Ordering) → other ≢ name → order name e.0 ≡ o →
      lookup (is_at (order other)) (insert_entry order es name v) ≡ lookup (is_at (order other)) es →
      lookup (is_at (order other)) (match_ordering o ((name, v) ∷ e ∷ es) ((e.0, v) ∷ es) (e ∷ insert_entry order es name v))
      ≡ lookup (is_at (order other)) (e ∷ es)
  kept_at e es name other v Less differ is later = rw (apart other name differ) refl
  kept_at e es name other v Equal differ is later =
      rw (apart other e.0 (λ (same : other ≡ e.0). differ (same ∙ sym (exact_bytes name e.0 is)))) refl
  kept_at e es name other v Greater differ is later = rw later refl

  pub kept : (names : List (List ℕ × X)) (name other : List ℕ) (v : X) → other ≢ name →
      lookup (is_at (order other)) (insert_entry order names name v) ≡ lookup (is_at (order other)) names
  kept [] name other v differ = rw (apart other name differ) refl
  kept (e ∷ es) name other v differ = kept_at e es name other v (order name e.0) differ refl (kept es name other v differ)
