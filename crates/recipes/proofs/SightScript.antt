-- What the script of line of sight means: its calls, one after the other.
use Rattle.std.proofs.Common.{◌≡◌, ℕ, List, [], ◌∷◌, codes, map, pos, negsuc, ℤ, true, refl}
use Rattle.cvl_base.specs.declared.call.Arg.{Arg}
use Rattle.cvl_base.specs.declared.call.Arg.TheVariants as arg
use Rattle.cvl_base.specs.declared.call.Call.{Call}
use Rattle.cvl_base.specs.declared.call.ResultNames.TheVariants as results
use Rattle.cvl_base.specs.declared.families.Comparison.TheVariants as compare
use Rattle.cvl_base.specs.declared.families.Cut.TheVariants.{Flat}
use Rattle.cvl_base.specs.declared.families.Element.TheVariants as of
use Rattle.cvl_base.specs.declared.families.IntBinary.TheVariants as int
use Rattle.cvl_base.specs.declared.families.IntMonoid.TheVariants as monoid
use Rattle.cvl_base.specs.declared.operation.Op.TheVariants as op
use Rattle.cvl_base.specs.Spellings.{op_of, int_binaries, unaries, comparisons, bool_binaries, int_monoids, forms, elements}
use Rattle.line_reader.specs.Lines.{call_of}
use Rattle.vector_handles.specs.declared.input.Input.{Input}
use Rattle.script_runs.specs.Meaning.{lines_of}
use Rattle.recipes.specs.declared.scripts.TheConstants.{LINE_OF_SIGHT}
use Rattle.recipes.specs.Recipes.{names_bound}
use Rattle.recipes.proofs.Calls.{binds, reads_all, names_after_calls, by_calls}

abbrev name : List ℕ → Arg
name bytes = arg.Name bytes

abbrev number : ℤ → Arg
number n = arg.Integer n

-- the least number of 32 bits, which stands for the slope to the observer
abbrev pub least : ℤ
least = negsuc 2147483647

module _ {A : Type 0} where
  abbrev pub calls : List (Call A)
  calls =
      binds (codes "a") op.Input (number (pos 1) ∷ [])
      ∷ binds (codes "n") (op.Length of.Integer) (name (codes "a") ∷ [])
      ∷ binds (codes "a0") (op.Extract Flat of.Integer) (name (codes "a") ∷ number (pos 0) ∷ [])
      ∷ binds (codes "b") (op.Distribute Flat of.Integer) (name (codes "a0") ∷ name (codes "n") ∷ [])
      ∷ binds (codes "d") (op.Ints2 int.Sub) (name (codes "a") ∷ name (codes "b") ∷ [])
      ∷ binds (codes "i") (op.Index Flat) (number (pos 0) ∷ number (pos 1) ∷ name (codes "n") ∷ [])
      ∷ binds (codes "one") (op.Distribute Flat of.Integer) (number (pos 1) ∷ name (codes "n") ∷ [])
      ∷ binds (codes "j") (op.Ints2 (int.Monoid monoid.Max)) (name (codes "i") ∷ name (codes "one") ∷ [])
      ∷ binds (codes "k") (op.Distribute Flat of.Integer) (number (pos 65536) ∷ name (codes "n") ∷ [])
      ∷ binds (codes "p") (op.Ints2 (int.Monoid monoid.Mul)) (name (codes "d") ∷ name (codes "k") ∷ [])
      ∷ binds (codes "q") (op.Ints2 int.Div) (name (codes "p") ∷ name (codes "j") ∷ [])
      ∷ binds (codes "r") (op.Ints2 int.Mod) (name (codes "p") ∷ name (codes "j") ∷ [])
      ∷ binds (codes "z") (op.Distribute Flat of.Integer) (number (pos 0) ∷ name (codes "n") ∷ [])
      ∷ binds (codes "neg") (op.Compare compare.Less) (name (codes "r") ∷ name (codes "z") ∷ [])
      ∷ binds (codes "c") op.IntFromBool (name (codes "neg") ∷ [])
      ∷ binds (codes "s0") (op.Ints2 int.Sub) (name (codes "q") ∷ name (codes "c") ∷ [])
      ∷ binds (codes "s") (op.Replace Flat of.Integer) (name (codes "s0") ∷ number (pos 0) ∷ number least ∷ [])
      ∷ binds (codes "m") (op.Scan monoid.Max Flat) (name (codes "s") ∷ [])
      ∷ binds (codes "v0") (op.Compare compare.Greater) (name (codes "s") ∷ name (codes "m") ∷ [])
      ∷ binds (codes "v") (op.Replace Flat of.Boolean) (name (codes "v0") ∷ number (pos 0) ∷ arg.Boolean true ∷ [])
      ∷ record { results = results.None; op = op.Write; args = name (codes "v") ∷ [] }
      ∷ []

  read : map call_of (lines_of LINE_OF_SIGHT.now) ≡ reads_all calls
  unfolding op_of int_binaries unaries comparisons bool_binaries int_monoids forms elements
  read = refl

  pub run : (inputs : List (Input A)) → names_bound LINE_OF_SIGHT.now inputs ≡ names_after_calls [] inputs calls
  run inputs = by_calls 1 [] inputs (lines_of LINE_OF_SIGHT.now) calls read
