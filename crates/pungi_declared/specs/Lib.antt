pub mod DeclaredView
