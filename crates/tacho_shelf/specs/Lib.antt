pub mod Among
pub mod Shelf
