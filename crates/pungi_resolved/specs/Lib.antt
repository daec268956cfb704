pub mod Values
pub mod Actions
pub mod Functions
pub mod ValueView
pub mod ActionView
