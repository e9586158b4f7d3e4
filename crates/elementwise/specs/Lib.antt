pub mod Valueless
