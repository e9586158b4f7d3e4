pub mod Inputs
pub mod NestedReads
pub mod NestedTexts
pub mod Pieces
pub use Rattle.value_texts.specs.Texts
pub use Rattle.line_reader.specs.Lines
pub use Rattle.line_reader.specs.Numbers
pub use Rattle.line_reader.specs.Tokens
