-- The sizes of integer constants (C11 6.4.4.1: an integer constant that has no suffix and that `int` holds has type
-- `int`).
--   IsSized kind       an integer constant isn't negative, and one that is not long is below 2 to the 31
--   AreSized tokens    so is each of these tokens
use Rattle.std.specs.Prelude.{◌≡◌, ◌<◌, ◌^◌, ℕ, pos, false, List}
use Rattle.std.specs.List.{All}
use Rattle.pungi_base.specs.declared.kind.Kind.{Kind}
use Rattle.pungi_base.specs.declared.kind.Kind.TheVariants as kind
use Rattle.pungi_base.specs.declared.token.Token.{Token}

abbrev pub IsSized : Kind → Type 0
IsSized (kind.Key key) = Unit {0}
IsSized (kind.Word name) = Unit {0}
IsSized (kind.Int value long unsigned) = (n : ℕ) × (value ≡ pos n) × (long ≡ false → n < 2 ^ 31)
IsSized kind.Float = Unit {0}
IsSized (kind.Char b) = Unit {0}
IsSized (kind.Text name) = Unit {0}
IsSized (kind.Punct punct) = Unit {0}
IsSized kind.Header = Unit {0}

abbrev pub AreSized : List Token → Type 0
AreSized tokens = All (λ t. IsSized t.kind) tokens
