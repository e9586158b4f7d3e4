pub mod Classes
pub mod Joined
pub mod Labelled
pub mod Spelled
pub mod SpelledLaws
