-- The readers of types, declarators and parameters are sound (what they give is at the front of the tokens) and
-- complete.
pub mod Void
pub mod VoidComplete
pub mod FunctionRest
pub mod SizeLoop
pub mod DeclrLoop
pub mod FieldLoop
pub mod ParamLoop
pub mod TypeSound
pub mod ParamSound
pub mod TypeComplete
pub mod ParamComplete
