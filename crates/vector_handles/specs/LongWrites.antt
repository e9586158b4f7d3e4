-- The text of a write, whole or of a long vector.
-- Source: this library's script format.
use Rattle.std.specs.Prelude.{ℕ, List, [], ◌∷◌, ◌++◌, codes}
use Rattle.call_reader.specs.Texts.{flat_text}
use Rattle.vector_handles.specs.declared.long_writes.LongWrite.{LongWrite}
use Rattle.vector_handles.specs.declared.long_writes.WrittenText.{WrittenText}
use Rattle.vector_handles.specs.declared.long_writes.WrittenText.TheVariants as written

-- the name, ` = `, the vector and a line feed (10)
abbrev pub long_text : LongWrite → List ℕ
long_text write = write.name.now ++ codes " = " ++ flat_text write.vector ++ (10 ∷ [])

-- the text of a write
abbrev pub text_written : {A : Type 0} → WrittenText A → List ℕ
text_written (written.Whole text) = text.items
text_written (written.Long write) = long_text write
