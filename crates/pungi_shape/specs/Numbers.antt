-- Arithmetic and conversions. A sum, a difference, and a product with a constant within 2^20 are linear; of any other
-- result nothing is known but what known operands say.
--   constant_of a           the constant that an atom is
--   known_of h, known_by s a    the number that is known to be held; that an atom is known to be
--   either o p              the first that is there
--   value_by s a            the number of an atom that is a constant, or known
--   if_small o, small_constant a    a constant, where it lies within 2^20; that of an atom
--   product o p f g         the form of a product, where one factor is such a constant
--   linear o s a b          the form of a result, where it is linear
--   stays_out o kind m n    two constants have no result in the kind's range
--   holding_or_number o, result_holding o kind m n    what is known of a result: that of known operands is known
--   arithmetic_as, arithmetic_cases    the cases of arithmetic: with this form and this knowledge; of two atoms
--   does_not_fit kind o     a constant is past the kind's range
--   conversion_cases        the cases of a conversion
use Rattle.std.specs.Prelude.{ℕ, ◌^◌, ◌-◌, ℤ, pos, negsuc, Bool, false, not, List, [], ◌∷◌, Option, Some, None, is_none}
use Rattle.std.specs.Prelude.{if◌then◌else◌}
use Rattle.pungi_types.specs.declared.kind.ValueKind.{ValueKind}
use Rattle.pungi_world.specs.Choices.{is_between}
use Rattle.pungi_meaning.specs.declared.op.Op.{Op}
use Rattle.pungi_meaning.specs.declared.op.Op.TheVariants.{Add, Sub, Mul, Div, Rem}
use Rattle.pungi_meaning.specs.Values.{arithmetic, fits}
use Rattle.pungi_code.specs.declared.atom.Atom.{Atom}
use Rattle.pungi_code.specs.declared.atom.Atom.TheVariants as atom
use Rattle.pungi_shape.specs.declared.holding.Holding.{Holding}
use Rattle.pungi_shape.specs.declared.holding.Holding.TheVariants.{Known, Number}
use Rattle.pungi_shape.specs.Forms.{Form, zero_form, plus, minus, times}
use Rattle.pungi_shape.specs.Shapes.{holding_of_number}
use Rattle.pungi_shape.specs.Scenes.{Scene, holding_of, form_of, with_var}
use Rattle.pungi_shape.specs.Cases.{Case, leads, frees}

abbrev pub constant_of : Atom → Option ℤ
constant_of (atom.Int n) = Some n
constant_of a = None

abbrev pub known_of : Holding → Option ℤ
known_of (Known n) = Some n
known_of h = None

abbrev pub known_by : Scene → Atom → Option ℤ
known_by s a = known_of (holding_of s a)

abbrev pub either : Option ℤ → Option ℤ → Option ℤ
either (Some n) o = Some n
either None o = o

abbrev pub value_by : Scene → Atom → Option ℤ
value_by s a = either (constant_of a) (known_by s a)

-- ---- linear results

abbrev pub if_small : Option ℤ → Option ℤ
if_small None = None
if_small (Some n) = if is_between (negsuc (2 ^ 20 - 1)) (pos (2 ^ 20)) n then Some n else None

abbrev pub small_constant : Atom → Option ℤ
small_constant a = if_small (constant_of a)

abbrev pub product : Option ℤ → Option ℤ → Form → Form → Option Form
product (Some m) o f g = Some (times m g)
product None (Some n) f g = Some (times n f)
product None None f g = None

abbrev pub linear : Op → Scene → Atom → Atom → Option Form
linear Add s a b = Some (plus (form_of s a) (form_of s b))
linear Sub s a b = Some (minus (form_of s a) (form_of s b))
linear Mul s a b = product (small_constant a) (small_constant b) (form_of s a) (form_of s b)
linear Div s a b = None
linear Rem s a b = None

abbrev pub stays_out : Op → ValueKind → Option ℤ → Option ℤ → Bool
stays_out o kind (Some m) (Some n) = is_none (arithmetic o kind m n)
stays_out o kind m n = false

-- ---- what is known of a result

abbrev pub holding_or_number : Option ℤ → Holding
holding_or_number None = Number
holding_or_number (Some n) = holding_of_number n

abbrev pub result_holding : Op → ValueKind → Option ℤ → Option ℤ → Holding
result_holding o kind (Some m) (Some n) = holding_or_number (arithmetic o kind m n)
result_holding o kind m n = Number

-- ---- cases

abbrev pub arithmetic_as : Option Form → Holding → Bool → ℕ → ℕ → Scene → List Case
arithmetic_as None h out x pc s = frees x pc (with_var x h (zero_form s.width) s) ∷ []
arithmetic_as (Some f) h out x pc s = if out then [] else leads pc (with_var x h f s) ∷ []

abbrev pub arithmetic_cases : ℕ → ValueKind → Op → Atom → Atom → ℕ → Scene → List Case
arithmetic_cases x kind o a b pc s =
    arithmetic_as (linear o s a b) (result_holding o kind (known_by s a) (known_by s b))
    (stays_out o kind (constant_of a) (constant_of b)) x pc s

abbrev pub does_not_fit : ValueKind → Option ℤ → Bool
does_not_fit kind None = false
does_not_fit kind (Some n) = not (fits kind n)

abbrev pub conversion_cases : ℕ → ValueKind → Atom → ℕ → Scene → List Case
conversion_cases x kind a pc s =
    if does_not_fit kind (constant_of a) then [] else leads pc (with_var x (holding_of s a) (form_of s a) s) ∷ []
