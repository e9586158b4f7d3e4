-- What callers see of a session.
-- Source: this library.
use Rattle.std.specs.Prelude.{ℕ, List, Option, Some, None}
use Rattle.vector_handles.specs.declared.input.Input.{Input}
use Rattle.vector_handles.specs.declared.shown.Shown.{Shown}
use Rattle.vector_handles.specs.declared.shown.Shown.TheVariants as shown
use Rattle.bound_names.specs.Names.{Entries}

-- the bound names, and the inputs in their order
pub record State (A : Type 0) : Type 0 where
  pub names : Entries A
  pub inputs : List (Input A)

-- the text that a call shows, if it shows one
abbrev pub text_shown : {A : Type 0} → Shown A → Option (List ℕ)
text_shown shown.Nothing = None
text_shown (shown.Text bytes) = Some bytes.items
