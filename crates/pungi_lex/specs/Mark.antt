-- Punctuators (C11 6.4.6). At each place the longest one is taken (C11 6.4, 4).
--   begun text punct           how long this punctuator is, where the text begins with it, and else 0
--   longest_among puncts text  how long the longest of these punctuators is that the text begins with, 0 if none is
--   mark_len text              the same of all punctuators
use Rattle.std.specs.Prelude.{ℕ, List, [], ◌∷◌, length, max, if◌then◌else◌}
use Rattle.pungi_base.specs.declared.punct.Punct.{Punct}
use Rattle.pungi_base.specs.Token.{punct_text, puncts}
use Rattle.pungi_lex.specs.Bytes.{begins_with}

abbrev pub begun : List ℕ → Punct → ℕ
begun text punct = if begins_with (punct_text punct) text then length (punct_text punct) else 0

abbrev pub longest_among : List Punct → List ℕ → ℕ
longest_among [] text = 0
longest_among (punct ∷ more) text = max (begun text punct) (longest_among more text)

unfoldable pub mark_len : List ℕ → ℕ
mark_len text = longest_among puncts text
