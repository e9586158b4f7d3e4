pub mod Cut
pub mod Fronts
pub mod Numbers
pub mod Sorted
pub mod Written
