pub mod Recipes
pub mod Visibility
