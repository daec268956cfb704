pub mod OpenedText
pub mod Shelf
