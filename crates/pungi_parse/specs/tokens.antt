-- What one token at the front is.
pub mod OneToken
pub mod AwaitedBrackets
