-- The value of a row by a rule: none if a column is no place of x, or the rule has none for the row's sum.
-- Source: a wrapped sum always has a value, and a checked one if it fits 32 bits, which is this library's profile.
use Rattle.std.specs.Prelude.{ℕ, ℤ, pos, Bool, if◌then◌else◌, List, length, map, Option, None, Some, Result, unwrap_or}
use Rattle.std.specs.List.{list_all}
use Rattle.cvl_base.specs.declared.fault.Fault.{Fault}
use Rattle.cvl_base.specs.declared.fault.FaultNo.TheVariants as no
use Rattle.cvl_base.specs.Elementwise.{values_from}
use Rattle.cvl_base.specs.Gives.{◌>>=◌}
use Rattle.cvl_base.specs.Integers.{wrap}
use Rattle.cvl_base.specs.Permutes.{is_place}
use Rattle.sparse_products.specs.Answers.{rows_within}
use Rattle.sparse_products.specs.Products.{row_total}

-- the rule for sums that wrap; the rule for checked sums is `fitting`
abbrev pub wrapping : ℤ → Option ℤ
wrapping total = Some (wrap total)

-- each column of the entries is one of so many places
abbrev pub are_within : ℕ → List (ℤ × ℤ) → Bool
are_within places row = list_all (λ entry. is_place places entry.0) row

-- the value of a row by a rule of its sum; none if a column is outside
abbrev pub row_value : (ℤ → Option ℤ) → List ℤ → List (ℤ × ℤ) → Option ℤ
row_value rule x row = if are_within (length x) row then rule (row_total x row) else None

-- what is written for it: 0 for none
abbrev pub row_item : (ℤ → Option ℤ) → List ℤ → List (ℤ × ℤ) → ℤ
row_item rule x row = unwrap_or (row_value rule x row) (pos 0)

-- the product by a rule, with the fault of the first row for whose sum it has no value
abbrev pub product_by : (ℤ → Option ℤ) → List ℕ → List ℤ → List ℤ → List ℤ → Result (List ℤ) Fault
product_by rule lengths columns values x =
    rows_within (length x) lengths columns values >>= λ rows. values_from no.Overflow 0 (map (λ row. rule (row_total x row)) rows)
