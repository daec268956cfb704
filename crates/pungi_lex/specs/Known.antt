-- Names that the tokens of a text may have.
--   IsKnown names kind       the name in a kind, if there is one: of a word, a word of C; of a string literal, one that
--                            has a text
--   AreKnown names tokens    so is each name in these tokens
use Rattle.std.specs.Prelude.{◌<◌, ℕ, List, length}
use Rattle.std.specs.List.{All}
use Rattle.pungi_base.specs.CWords.{IsCWord}
use Rattle.pungi_base.specs.declared.kind.Kind.{Kind}
use Rattle.pungi_base.specs.declared.kind.Kind.TheVariants as kind
use Rattle.pungi_base.specs.declared.token.Token.{Token}

abbrev pub IsKnown : List (List ℕ) → Kind → Type 0
IsKnown names (kind.Key key) = Unit {0}
IsKnown names (kind.Word name) = IsCWord names name.0
IsKnown names (kind.Int value long unsigned) = Unit {0}
IsKnown names kind.Float = Unit {0}
IsKnown names (kind.Char b) = Unit {0}
IsKnown names (kind.Text name) = name.0 < length names
IsKnown names (kind.Punct punct) = Unit {0}
IsKnown names kind.Header = Unit {0}

abbrev pub AreKnown : List (List ℕ) → List Token → Type 0
AreKnown names tokens = All (λ t. IsKnown names t.kind) tokens
