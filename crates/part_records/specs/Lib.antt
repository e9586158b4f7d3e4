pub mod Carries
pub mod Places
pub mod Totals
