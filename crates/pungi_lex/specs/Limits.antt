-- How large a file may be.
--   text_limit     the most bytes of a text
--   token_limit    the most tokens after the macros, and replacements, together
use Rattle.std.specs.Prelude.{ℕ}

abbrev pub text_limit : ℕ
text_limit = 1048576

abbrev pub token_limit : ℕ
token_limit = 262144
