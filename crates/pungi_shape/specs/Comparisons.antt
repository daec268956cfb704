-- Comparisons and conditions.
--   orders m n              how two numbers may compare: as they do, where both are constants or known; else all ways
--   order_number o          two numbers that compare so are this and 0
--   is_so c o               a comparison holds of numbers that compare so
--   truth_number b          the number that says whether something holds
--   says x b s              a comparison's variable says so
--   order_case f o pc s     the case that two numbers compare so, whose difference is a form: equal ones meet the
--                           equation that it is 0
--   number_comparison       the cases of a comparison of numbers
--   is_static s t           a token is the object of a static name
--   is_field_of t p, is_base s t    a slot is a field of this token; one that is tracked is
--   are_one_field p q       two slots are fields of one tag and name
--   share_field s t u       two tokens have such fields, which are tracked
--   are_apart s t u         two tokens are different objects for sure: static ones; made ones; a made one and one with
--                           a field that is tracked; two that share such a field
--   is_same_so c b          a comparison holds of two objects that are one, or aren't
--   says_same x c b pc s    the case that they are, or aren't
--   token_comparison, pointer_comparison, comparison_cases    the cases of a comparison of tokens, of pointers, of any
--                           two atoms
--   branch b this other     the instruction to which a condition leads
--   order_branch, branch_on, branch_cases    the case that a number compares so with 0; the cases of a branch on what
--                           is held, on an atom
use Rattle.std.specs.Prelude.{ℕ, ◌==◌, ℤ, pos, negsuc, Bool, true, false, ◌&&◌, ◌||◌, List, [], ◌∷◌, map, Option, Some}
use Rattle.std.specs.Prelude.{if◌then◌else◌}
use Rattle.std.specs.List.{list_any}
use Rattle.std.specs.Ordering.{int_cmp}
use Rattle.std.specs.declared.cmp.Ordering.{Ordering}
use Rattle.std.specs.declared.cmp.Ordering.TheVariants.{Less, Equal, Greater}
use Rattle.pungi_base.specs.declared.value.Value.TheVariants as value
use Rattle.pungi_meaning.specs.declared.cmp.Cmp.{Cmp}
use Rattle.pungi_meaning.specs.Values.{holds, is_true}
use Rattle.pungi_code.specs.declared.atom.Atom.{Atom}
use Rattle.pungi_shape.specs.declared.holding.Holding.{Holding}
use Rattle.pungi_shape.specs.declared.holding.Holding.TheVariants.{Null, Text, Known, Token}
use Rattle.pungi_shape.specs.declared.shape.Shape.{Shape}
use Rattle.pungi_shape.specs.declared.tracked.Spot.{Spot}
use Rattle.pungi_shape.specs.declared.tracked.Spot.TheVariants.{Global, Field}
use Rattle.pungi_shape.specs.Forms.{Form, minus, constant}
use Rattle.pungi_shape.specs.Shapes.{is_number, is_token}
use Rattle.pungi_shape.specs.Scenes.{Scene, holding_of, form_of, with_var, is_made, merge}
use Rattle.pungi_shape.specs.Cases.{Case, leads, leads_where}
use Rattle.pungi_shape.specs.Numbers.{value_by}

-- ---- numbers

abbrev pub orders : Option ℤ → Option ℤ → List Ordering
orders (Some m) (Some n) = int_cmp m n ∷ []
orders m n = Less ∷ Equal ∷ Greater ∷ []

abbrev pub order_number : Ordering → ℤ
order_number Less = negsuc 0
order_number Equal = pos 0
order_number Greater = pos 1

abbrev pub is_so : Cmp → Ordering → Bool
is_so c o = holds c (value.Int (order_number o)) (value.Int (pos 0))

abbrev pub truth_number : Bool → ℤ
truth_number b = if b then pos 1 else pos 0

abbrev pub says : ℕ → Bool → Scene → Scene
says x b s = with_var x (Known (truth_number b)) (constant s.width (truth_number b)) s

-- equal numbers meet the equation that they are equal
abbrev pub order_case : Form → Ordering → ℕ → Scene → Case
order_case f Less pc s = leads pc s
order_case f Equal pc s = leads_where f pc s
order_case f Greater pc s = leads pc s

abbrev pub number_comparison : ℕ → Cmp → Atom → Atom → ℕ → Scene → List Case
number_comparison x c a b pc s =
    map (λ o. order_case (minus (form_of s a) (form_of s b)) o pc (says x (is_so c o) s))
    (orders (value_by s a) (value_by s b))

-- ---- objects

abbrev pub is_static : Shape → ℕ → Bool
is_static s t = list_any (λ k. is_token t k.1) s.statics

abbrev pub is_field_of : ℕ → Spot → Bool
is_field_of t (Global n) = false
is_field_of t (Field b tag field) = b == t

abbrev pub is_base : Shape → ℕ → Bool
is_base s t = list_any (λ r. is_field_of t r.spot) s.slots

abbrev pub are_one_field : Spot → Spot → Bool
are_one_field (Field b tag field) (Field d struct name) = (tag.0 == struct.0) && (field.0 == name.0)
are_one_field p q = false

abbrev pub share_field : Shape → ℕ → ℕ → Bool
share_field s t u =
    list_any (λ q. is_field_of t q.spot
    && list_any (λ r. is_field_of u r.spot && are_one_field q.spot r.spot) s.slots) s.slots

abbrev pub are_apart : Shape → ℕ → ℕ → Bool
are_apart s t u =
    (is_static s t && is_static s u) || ((is_made s t && (is_made s u || is_base s u))
    || ((is_made s u && is_base s t) || share_field s t u))

abbrev pub is_same_so : Cmp → Bool → Bool
is_same_so c same = holds c (value.Object 0) (value.Object (if same then 0 else 1))

abbrev pub says_same : ℕ → Cmp → Bool → ℕ → Scene → Case
says_same x c same pc s = leads pc (says x (is_same_so c same) s)

abbrev pub token_comparison : ℕ → Cmp → ℕ → ℕ → ℕ → Scene → List Case
token_comparison x c t u pc s =
    if t == u then says_same x c true pc s ∷ [] else
    (if are_apart s.shape t u then says_same x c false pc s ∷ [] else
    says_same x c true pc (merge t u s) ∷ says_same x c false pc s ∷ [])

abbrev pub pointer_comparison : ℕ → Cmp → Holding → Holding → ℕ → Scene → List Case
pointer_comparison x c (Token t) (Token u) pc s = token_comparison x c t u pc s
pointer_comparison x c Null Null pc s = says_same x c true pc s ∷ []
pointer_comparison x c Text Text pc s = says_same x c true pc s ∷ []
pointer_comparison x c h k pc s = says_same x c false pc s ∷ []

abbrev pub comparison_cases : ℕ → Cmp → Atom → Atom → ℕ → Scene → List Case
comparison_cases x c a b pc s =
    if is_number (holding_of s a) && is_number (holding_of s b) then number_comparison x c a b pc s else
    pointer_comparison x c (holding_of s a) (holding_of s b) pc s

-- ---- conditions

abbrev pub branch : Bool → ℕ → ℕ → ℕ
branch b this other = if b then this else other

abbrev pub order_branch : Form → ℕ → ℕ → Scene → Ordering → Case
order_branch f this other s o = order_case f o (branch (is_true (value.Int (order_number o))) this other) s

abbrev pub branch_on : Holding → Form → Option ℤ → ℕ → ℕ → Scene → List Case
branch_on Null f n this other s = leads other s ∷ []
branch_on Text f n this other s = leads this s ∷ []
branch_on (Token t) f n this other s = leads this s ∷ []
branch_on h f n this other s = map (order_branch f this other s) (orders n (Some (pos 0)))

abbrev pub branch_cases : Atom → ℕ → ℕ → Scene → List Case
branch_cases a this other s = branch_on (holding_of s a) (form_of s a) (value_by s a) this other s
