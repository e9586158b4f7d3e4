mod Explained
mod NamedFiles
mod Performed
mod Streams
mod TextWords
