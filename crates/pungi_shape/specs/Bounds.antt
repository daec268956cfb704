-- What holds of the scenes of a part, and so of its edges.
--   HasWidth w f            a form over w coordinates
--   base_in p, bases_in rs  the token of a field's object, if a slot is one; those of several slots
--   AreTokens n s           the tokens that a shape names are below n
--   IsShape s               the tokens of a shape are those that its holders hold, from 0 up
--   IsScene s               the parts of a scene fit one another
--   IsBelow n h, IsHeld s h    the token of a holding, if it has one, is below n, is one of a scene
--   HasBalances n s         the coefficients of all balances are at most n in absolute value
--   IsCoordinate f          each coefficient is 0 or 1, and that of the leading coordinate is 0
--   IsPlain s               a scene as it is before a part: each variable's number is a coordinate or 0, and so is each
--                           balance
--   IsFresh s               it has at most 256 tokens besides
--   IsCodeOfFile code       a code is well-formed in a file whose functions have codes of some kinds
--   has_opposite a, have_opposites i    the opposite of an integer constant is one as well: it isn't -2^63; so it is
--                           with all constants of an instruction
use Rattle.std.specs.Prelude.{◌≡◌, ℕ, ◌-◌, ◌<◌, ◌≤◌, ◌^◌, pos, negsuc, int_le, Bool, true, List, [], ◌∷◌, ◌++◌, length}
use Rattle.std.specs.List.{All, flat_map, list_all}
use Rattle.pungi_code.specs.declared.atom.Atom.{Atom}
use Rattle.pungi_code.specs.declared.atom.Atom.TheVariants as atom
use Rattle.pungi_code.specs.declared.code.Code.{Code}
use Rattle.pungi_code.specs.declared.instr.Instr.{Instr}
use Rattle.pungi_domain.specs.Vectors.{IsWithin, at}
use Rattle.pungi_shape.specs.declared.holding.Holding.{Holding}
use Rattle.pungi_shape.specs.declared.holding.Holding.TheVariants.{Token}
use Rattle.pungi_shape.specs.declared.scene.Scene.{Scene}
use Rattle.pungi_shape.specs.declared.shape.Shape.{Shape}
use Rattle.pungi_shape.specs.declared.tracked.Spot.{Spot}
use Rattle.pungi_shape.specs.declared.tracked.Spot.TheVariants.{Global, Field}
use Rattle.pungi_shape.specs.declared.tracked.Tracked.{Tracked}
use Rattle.pungi_shape.specs.Forms.{Form}
use Rattle.pungi_code.specs.WellFormed.{CallKinds, IsWellFormedAmong, atoms_of}
use Rattle.pungi_shape.specs.Shapes.{holders, tokens_in, tokens_of}
use Rattle.pungi_shape.specs.Scenes.{form_or}

abbrev pub HasWidth : ℕ → Form → Type 0
HasWidth w f = length f ≡ w

-- ---- shapes

abbrev pub base_in : Spot → List ℕ
base_in (Global n) = []
base_in (Field b tag field) = b ∷ []

abbrev pub bases_in : List Tracked → List ℕ
bases_in rs = flat_map (λ r. base_in r.spot) rs

abbrev pub AreTokens : ℕ → Shape → Type 0
AreTokens n s = All (λ t. t < n) (tokens_in (holders s) ++ bases_in s.slots)

pub record IsShape (s : Shape) : Type 0 where
  pub tokens : AreTokens (length s.made) s
  pub made : length s.made ≡ length (tokens_of s)

-- ---- scenes

pub record IsScene (s : Scene) : Type 0 where
  pub vars : length s.vars ≡ length s.shape.vars
  pub entry : length s.entry ≡ length s.shape.entry
  pub balances : length s.balances ≡ length s.shape.made
  pub var_widths : All (HasWidth s.width) s.vars
  pub returned_width : HasWidth s.width s.returned
  pub entry_widths : All (HasWidth s.width) s.entry
  pub balance_widths : All (λ o. HasWidth s.width (form_or s.width o)) s.balances
  pub tokens : AreTokens (length s.shape.made) s.shape

abbrev pub IsBelow : ℕ → Holding → Type 0
IsBelow n (Token t) = t < n
IsBelow n h = Unit {0}

abbrev pub IsHeld : Scene → Holding → Type 0
IsHeld s h = IsBelow (length s.shape.made) h

abbrev pub HasBalances : ℕ → Scene → Type 0
HasBalances n s = All (λ o. All (IsWithin n) (form_or s.width o)) s.balances

pub record IsCoordinate (f : Form) : Type 0 where
  pub leading : at f 0 ≡ pos 0
  pub within : All (IsWithin 1) f

pub record IsPlain (s : Scene) : Type 0 where
  pub vars : All IsCoordinate s.vars
  pub balances : HasBalances 1 s

pub record IsFresh (s : Scene) : Type 0 where
  pub vars : All IsCoordinate s.vars
  pub balances : HasBalances 1 s
  pub few : length s.shape.made ≤ 256

-- ---- codes

pub record IsCodeOfFile (code : Code) : Type 0 where
  pub callees : ℕ → CallKinds
  pub well_formed : IsWellFormedAmong callees code

-- ---- constants

abbrev pub has_opposite : Atom → Bool
has_opposite (atom.Int n) = int_le (negsuc (2 ^ 63 - 2)) n
has_opposite a = true

abbrev pub have_opposites : Instr → Bool
have_opposites i = list_all has_opposite (atoms_of i)
