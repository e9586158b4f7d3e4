-- What the script of the sparse product means: its calls, one after the other.
use Rattle.std.proofs.Common.{◌≡◌, ℕ, List, [], ◌∷◌, codes, map, pos, ℤ, refl, sym, ap, ◌∙◌, Ok}
use Rattle.cvl_base.specs.declared.call.Arg.{Arg}
use Rattle.cvl_base.specs.declared.call.Arg.TheVariants as arg
use Rattle.cvl_base.specs.declared.call.Call.{Call}
use Rattle.cvl_base.specs.declared.call.ResultNames.TheVariants as results
use Rattle.cvl_base.specs.declared.families.Cut.TheVariants.{Flat, Segmented}
use Rattle.cvl_base.specs.declared.families.Element.TheVariants as of
use Rattle.cvl_base.specs.declared.families.Form.TheVariants as form
use Rattle.cvl_base.specs.declared.families.IntBinary.TheVariants as int
use Rattle.cvl_base.specs.declared.families.IntMonoid.TheVariants as monoid
use Rattle.cvl_base.specs.declared.operation.Op.TheVariants as op
use Rattle.cvl_base.specs.declared.value.Value.TheVariants as value
use Rattle.cvl_base.specs.Descriptors.{descriptor_of}
use Rattle.cvl_base.specs.Elementwise.{ints2_of}
use Rattle.cvl_base.specs.Integers.{sum_of}
use Rattle.cvl_base.specs.Permutes.{back_of}
use Rattle.cvl_base.specs.SegmentedCalls.{seg_reduce_of}
use Rattle.cvl_base.specs.Spellings.{op_of, int_binaries, unaries, comparisons, bool_binaries, int_monoids, forms, elements}
use Rattle.line_reader.specs.Lines.{call_of}
use Rattle.vector_handles.specs.declared.input.Input.{Input}
use Rattle.vector_handles.specs.declared.input.Input.TheVariants as input
use Rattle.vector_handles.specs.Names.{Entries, bind, value_at}
use Rattle.script_runs.specs.Meaning.{lines_of}
use Rattle.recipes.specs.declared.scripts.TheConstants.{SPARSE_MATVEC}
use Rattle.recipes.specs.Recipes.{names_bound, HasIntegers}
use Rattle.recipes.proofs.Calls.{binds, reads_all, names_after_calls, by_calls, one_value, went_on}

abbrev on_names : List (List ℕ) → List Arg
on_names names = map arg.Name names

module _ {A : Type 0} where
  -- the calls from the last on, and from each on that may have a fault
  abbrev pub from_write : List (Call A)
  from_write = record { results = results.None; op = op.Write; args = on_names (codes "y" ∷ []) } ∷ []

  abbrev pub from_sum : List (Call A)
  from_sum = binds (codes "y") (op.Reduce monoid.Add Segmented) (on_names (codes "p" ∷ codes "d" ∷ [])) ∷ from_write

  abbrev pub from_product : List (Call A)
  from_product = binds (codes "p") (op.Ints2 (int.Monoid monoid.Mul)) (on_names (codes "vals" ∷ codes "g" ∷ [])) ∷ from_sum

  abbrev pub from_permute : List (Call A)
  from_permute = binds (codes "g") (op.Permute form.Back Flat of.Integer) (on_names (codes "x" ∷ codes "cols" ∷ [])) ∷ from_product

  abbrev from_rows : List (Call A)
  from_rows = binds (codes "d") op.MakeDescriptor (on_names (codes "lens" ∷ [])) ∷ from_permute

  abbrev calls : List (Call A)
  calls =
      binds (codes "lens") op.Input (arg.Integer (pos 1) ∷ [])
      ∷ binds (codes "cols") op.Input (arg.Integer (pos 2) ∷ [])
      ∷ binds (codes "vals") op.Input (arg.Integer (pos 3) ∷ [])
      ∷ binds (codes "x") op.Input (arg.Integer (pos 4) ∷ [])
      ∷ from_rows

  pub read : map call_of (lines_of SPARSE_MATVEC.now) ≡ reads_all calls
  unfolding op_of int_binaries unaries comparisons bool_binaries int_monoids forms elements
  read = refl

  module _ (lens cols vals x : List ℤ) where
    abbrev pub inputs : List (Input A)
    inputs = input.Vector lens ∷ input.Vector cols ∷ input.Vector vals ∷ input.Vector x ∷ []

    abbrev pub with_inputs : Entries A
    with_inputs =
        (codes "cols", value.Integers cols) ∷ (codes "lens", value.Integers lens) ∷ (codes "vals", value.Integers vals)
        ∷ (codes "x", value.Integers x) ∷ []

    -- the names with the rows, the elements at the columns, the products and the sums
    abbrev pub with_rows : List ℕ → Entries A
    with_rows d = bind with_inputs (codes "d") (value.Descriptor d)

    abbrev pub with_gathered : List ℕ → List ℤ → Entries A
    with_gathered d g = bind (with_rows d) (codes "g") (value.Integers g)

    abbrev pub with_products : List ℕ → List ℤ → List ℤ → Entries A
    with_products d g p = bind (with_gathered d g) (codes "p") (value.Integers p)

    pub run : names_bound SPARSE_MATVEC.now inputs ≡ names_after_calls with_inputs inputs from_rows
    run = by_calls 1 [] inputs (lines_of SPARSE_MATVEC.now) calls read

    -- where the script has no fault, each of its calls has a value
    pub binds_integers : (names : Entries A) → names_bound SPARSE_MATVEC.now inputs ≡ Ok names → HasIntegers names (codes "y")
    binds_integers names is =
        let d = went_on (descriptor_of lens) (λ d. value.Descriptor d) (bind with_inputs (codes "d")) inputs from_permute names (sym run ∙ is) in
        let g = went_on (back_of x cols) (λ g. value.Integers g) (bind (with_rows d.0) (codes "g")) inputs from_product names d.2 in
        let p = went_on (ints2_of (int.Monoid monoid.Mul) vals g.0) (λ p. value.Integers p) (bind (with_gathered d.0 g.0) (codes "p")) inputs from_sum names g.2 in
        let y = went_on (seg_reduce_of sum_of (pos 0) p.0 d.0) (λ y. value.Integers y) (bind (with_products d.0 g.0 p.0) (codes "y")) inputs from_write names p.2 in
        let all = one_value (bind (with_products d.0 g.0 p.0) (codes "y") (value.Integers y.0)) names y.2 in
        (y.0, sym (ap (λ ns. value_at ns (codes "y")) all))
