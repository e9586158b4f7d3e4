-- The inputs as a session has them: the bytes of a file, the numbers read from such bytes, or a vector.
-- Source: this library.
use Rattle.vector_handles.specs.declared.input.Input.{Input}
use Rattle.vector_handles.specs.declared.input.Input.TheVariants as input
use Rattle.vector_handles.specs.declared.kept.Content.{Content}
use Rattle.vector_handles.specs.declared.kept.Content.TheVariants as content

-- an input, by a name that `impl Model` can use
abbrev pub InputKept : Type 0 → Type 0
InputKept A = Input A

-- an input as scripts see it
abbrev pub input_kept : {A : Type 0} → Content A → Input A
input_kept (content.Bytes bytes) = input.Bytes bytes
input_kept (content.Read read) = input.Bytes read.bytes.value
input_kept (content.Vector xs) = input.Vector xs
