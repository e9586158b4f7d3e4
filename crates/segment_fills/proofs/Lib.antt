pub mod Filled
pub mod Numbered
pub mod Parts
pub mod WrittenFronts
pub mod Written
