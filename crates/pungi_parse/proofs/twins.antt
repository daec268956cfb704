-- Trees whose tokens are of the same kinds at other places.
pub mod Twin
pub mod ExprLikes
pub mod ExprTwins
pub mod DeclTwins
pub mod StmtTwins
pub mod UnitTwins
