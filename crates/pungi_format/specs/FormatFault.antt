-- The first fault of a format, from the left.
--   Rule                            what is wrong with a byte that stands after others, if anything
--   first_after rule before text    the first fault that a rule finds in a text after these bytes
--   first_fault rule text           the first fault that a rule finds in a text
--   is_among bytes b                whether a byte is one of these
use Rattle.std.specs.Prelude.{ℕ, ◌==◌, Bool, List, [], ◌∷◌, ◌++◌, Option, None}
use Rattle.std.specs.List.{list_any}
use Rattle.std.specs.Option.{option_or}
use Rattle.pungi_format.specs.declared.format_fault.FormatFault.{FormatFault}

abbrev pub Rule : Type 0
Rule = List ℕ → ℕ → Option FormatFault

abbrev pub first_after : Rule → List ℕ → List ℕ → Option FormatFault
first_after rule before [] = None
first_after rule before (b ∷ bs) = option_or (rule before b) (first_after rule (before ++ b ∷ []) bs)

abbrev pub first_fault : Rule → List ℕ → Option FormatFault
first_fault rule text = first_after rule [] text

abbrev pub is_among : List ℕ → ℕ → Bool
is_among bytes b = list_any (λ c. b == c) bytes
