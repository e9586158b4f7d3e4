-- The bound names: a finite map from names to values, as the list of its entries in the order of the names.
-- Source: this library's script format.
use Rattle.std.specs.Prelude.{◌≡◌, ◌≢◌, ℕ, ◌+◌, ◌≤◌, Bool, List, length, nat_le, nat_lt, sum}
use Rattle.std.specs.Prelude.{Option, Some, None, ◌||◌, is_some, if◌then◌else◌}
use Rattle.std.specs.Ordering.{nat_cmp}
use Rattle.std.specs.Cmp.Lexicographic.{slice_cmp}
use Rattle.std.specs.Map.{lookup, remove_entry}
use Rattle.std.specs.BTreeMap.{insert_entry, is_at}
use Rattle.cvl_base.specs.declared.value.Value.{Value}
use Rattle.cvl_base.specs.Limits.{most_elements, most_names}

-- a value, by a name that `impl Model` can use
abbrev pub BoundValue : Type 0 → Type 0
BoundValue A = Value A

-- the lengths of a bound descriptor are as many as a bound vector may have elements, and add up to as many
abbrev pub AreInLimit : List ℕ → Type 0
AreInLimit lengths = (length lengths ≤ most_elements) × (sum lengths ≤ most_elements)

-- the names with their values, in the order of the names
abbrev pub Entries : Type 0 → Type 0
Entries A = List (List ℕ × Value A)

module _ {A : Type 0} where
  -- the value that is bound to a name
  abbrev pub value_at : Entries A → List ℕ → Option (Value A)
  value_at names name = lookup (is_at (slice_cmp nat_cmp name)) names

  -- the same names, with this value for this one instead of what was bound there
  abbrev pub bind : Entries A → List ℕ → Value A → Entries A
  bind names name bound = insert_entry (slice_cmp nat_cmp) names name bound

  -- the same for two names and two values; of equal names the second value counts
  abbrev pub bind_both : Entries A → List ℕ → List ℕ → Value A × Value A → Entries A
  bind_both names first second both = bind (bind names first both.0) second both.1

  -- a name with what it had before: that value again, or nothing
  abbrev pub bind_again : Entries A → List ℕ → Option (Value A) → Entries A
  bind_again names name (Some before) = bind names name before
  bind_again names name None = remove_entry (is_at (slice_cmp nat_cmp name)) names

  -- a bound name may be bound again, and a new one if fewer than 4,096 are
  abbrev pub has_room : Entries A → List ℕ → Bool
  has_room names name = is_some (value_at names name) || nat_lt (length names) most_names

  -- how many names a name adds to the bound ones: one if it is new
  abbrev pub added_by : Entries A → List ℕ → ℕ
  added_by names name = if is_some (value_at names name) then 0 else 1

  -- two names may be bound if the bound names and the new ones are together at most 4,096
  abbrev pub has_room_for_both : Entries A → List ℕ → List ℕ → Bool
  has_room_for_both names first second =
      nat_le (length names + added_by names first + added_by names second) most_names

  -- a binding gives the name its value, and every other name keeps what it had
  abbrev pub BindsName : Entries A → List ℕ → Value A → Type 0
  BindsName names name bound = value_at (bind names name bound) name ≡ Some bound

  -- a binding of one name leaves every other name as it was
  abbrev pub KeepsOthers : Entries A → List ℕ → Value A → Type 0
  KeepsOthers names name bound =
      (other : List ℕ) → other ≢ name → value_at (bind names name bound) other ≡ value_at names other
