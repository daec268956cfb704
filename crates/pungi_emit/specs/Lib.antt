-- In the order of reading: function, planning, expr, stmt. The file named after a folder says what is in it.
pub mod function
pub mod planning
pub mod expr
pub mod stmt
