-- The columns of values, and what the variables of a column may hold.
use Rattle.std.proofs.Common.{◌≡◌, ◌∙◌, ℕ, zero, suc, ◌+◌, ◌≤◌, inl, inr, arith, Bool, true, false, Option, Some, None}
use Rattle.std.proofs.Common.{List, refl, ap}
use Rattle.std.specs.Prelude.{◌&&◌, ◌==◌, nat_le, if◌then◌else◌, is_none}
use Rattle.pungi_api.specs.declared.answer.Answer.{Answer}
use Rattle.pungi_api.specs.declared.answer.Answer.TheVariants as answer
use Rattle.pungi_api.specs.declared.param.Param.{Param}
use Rattle.pungi_api.specs.declared.param.Param.TheVariants as param
use Rattle.pungi_api.specs.declared.call_answer.CallAnswer.{CallAnswer}
use Rattle.pungi_api.specs.declared.call_answer.CallAnswer.TheVariants.{Of, Argument}
use Rattle.pungi_types.specs.declared.kind.ValueKind.{ValueKind}
use Rattle.pungi_types.specs.declared.kind.ValueKind.TheVariants as kinds
use Rattle.pungi_types.specs.Operators.{is_void}
use Rattle.pungi_resolved.specs.Values as expr
use Rattle.pungi_meaning.specs.Values.{fits, wide, slot_kind}
use Rattle.pungi_code.specs.WellFormed.{var_kind, is_wide, is_var, returned_param, fits_result}
use Rattle.pungi_layout.proofs.well_formed.Both.{and_left, and_right}
use Rattle.pungi_layout.specs.code.CallKinds.{returned_kind}
use Rattle.pungi_layout.specs.code.ExprCode.{to_var}
use Rattle.pungi_layout.specs.code.Temporaries.{local_column, joined_column, answer_column, call_column, value_column}
use Rattle.pungi_layout.specs.code.Temporaries.{fitting_column}
use Rattle.pungi_layout.specs.kinds.Typed.{is_counted, is_kept, is_given, is_null, IsNumber, IsText, IsObject, Goes}
use Rattle.pungi_layout.specs.kinds.Typed.{GoesIn, Alike, are_numbers, are_objects, are_texts}
use Rattle.pungi_layout.proofs.well_formed.Instructions.{column_kind, column_low, wide_goes}

-- .. columns of values
joined_low : (a b : ℕ) → a ≤ 4 → b ≤ 4 → joined_column a b ≤ 4
joined_low a b h k =
    elim (nat_le a 2 && nat_le b 2) as (λ x. (if x then (if a + b == 0 then 0 else 1) else
    (if nat_le a b then a else b)) ≤ 4) [
      | true ↦ elim (a + b == 0) as (λ y. (if y then 0 else 1) ≤ 4) [ true ↦ omega arith | false ↦ omega arith ]
      | false ↦ elim (nat_le a b) as (λ y. (if y then a else b) ≤ 4) [ true ↦ h | false ↦ k ]
    ]

answer_low : (a : Answer) → answer_column a ≤ 4
answer_low answer.Status = omega arith
answer_low answer.Truth = omega arith
answer_low answer.Int = omega arith
answer_low answer.Long = omega arith
answer_low answer.Size = omega arith
answer_low answer.Text = omega arith
answer_low answer.Found = omega arith
answer_low (answer.Converted failures least most) = omega arith
answer_low answer.AnySize = omega arith
answer_low answer.Flag = omega arith
answer_low answer.TextSure = omega arith
answer_low _ = omega arith

call_low : (a : CallAnswer) → call_column a ≤ 4
call_low (Of a) = answer_low a
call_low Argument = omega arith

constant_low : (b : Bool) → (if b then 0 else 1) ≤ 4
constant_low true = omega arith
constant_low false = omega arith

local_low : (k : Option ValueKind) → local_column k ≤ 4
local_low None = omega arith
local_low (Some k) = column_low k

pub value_low : (v : expr.Value) → value_column v ≤ 4
value_low (expr.constant p n) = constant_low (fits kinds.Int n)
value_low (expr.read p kind place) = column_low kind
value_low (expr.inner p v) = value_low v
value_low (expr.signed p m kind v) = column_low kind
value_low (expr.stepped p b m kind place) = column_low kind
value_low (expr.emptied p kind place) = column_low kind
value_low (expr.computed p m kind a b) = column_low kind
value_low (expr.stored p kind place v) = column_low kind
value_low (expr.updated p m counted kind place v) = column_low kind
value_low (expr.chosen p c a b) = joined_low (value_column a) (value_column b) (value_low a) (value_low b)
value_low (expr.converted p kind v) = column_low kind
value_low (expr.cast_of p v) = value_low v
value_low (expr.dropped p v) = value_low v
value_low (expr.called p f vs) = local_low f.result
value_low (expr.called_row p n sig vs) = call_low sig.answer
value_low (expr.called_unless_null p n sig vs) = call_low sig.answer
value_low _ = omega arith

-- NULL has the column of objects
pub null_column : (v : expr.Value) → is_null v ≡ true → value_column v ≡ 4
null_column (expr.null_of p) h = refl
null_column (expr.inner p v) h = null_column v h
null_column (expr.cast_of p v) h = null_column v h
null_column (expr.dropped p v) h = null_column v h
null_column (expr.chosen p c a b) h =
    let f = null_column a (and_left (is_null a) (is_null b) h) in
    let g = null_column b (and_right (is_null a) (is_null b) h) in
    ap (λ x. joined_column x (value_column b)) f ∙ ap (joined_column 4) g
null_column _ h = absurd (cc)

-- .. the column of `?:`, from those of its branches
pub joined_numbers : (a b : ℕ) → a ≤ 2 → b ≤ 2 → (joined_column a b ≤ 1) × (joined_column a b ≡ 0 → (a ≡ 0) × (b ≡ 0))
joined_numbers zero zero h k = (omega arith, λ e. (refl, refl))
joined_numbers zero (suc zero) h k = (omega arith, λ e. absurd (omega (arith, e)))
joined_numbers zero (suc (suc zero)) h k = (omega arith, λ e. absurd (omega (arith, e)))
joined_numbers (suc zero) zero h k = (omega arith, λ e. absurd (omega (arith, e)))
joined_numbers (suc zero) (suc zero) h k = (omega arith, λ e. absurd (omega (arith, e)))
joined_numbers (suc zero) (suc (suc zero)) h k = (omega arith, λ e. absurd (omega (arith, e)))
joined_numbers (suc (suc zero)) zero h k = (omega arith, λ e. absurd (omega (arith, e)))
joined_numbers (suc (suc zero)) (suc zero) h k = (omega arith, λ e. absurd (omega (arith, e)))
joined_numbers (suc (suc zero)) (suc (suc zero)) h k = (omega arith, λ e. absurd (omega (arith, e)))
joined_numbers (suc (suc (suc a))) b h k = absurd (omega (arith, h))
joined_numbers a (suc (suc (suc b))) h k = absurd (omega (arith, k))

pub joined_is : (a b c d : ℕ) → a ≡ c → b ≡ d → joined_column a b ≡ joined_column c d
joined_is a b c d e f = ap (λ x. joined_column x b) e ∙ ap (joined_column c) f

-- of two texts, where both are NULL
data Joined (a b : ℕ) : Type 0 where
  as_text : joined_column a b ≡ 3 → Joined a b
  as_nulls : a ≡ 4 → b ≡ 4 → joined_column a b ≡ 4 → Joined a b

joined_texts : (a b : expr.Value) → IsText a → IsText b → Joined (value_column a) (value_column b)
joined_texts a b (inl e) (inl f) = as_text (joined_is _ _ 3 3 e f)
joined_texts a b (inl e) (inr f) = as_text (joined_is _ _ 3 4 e (null_column b f))
joined_texts a b (inr e) (inl f) = as_text (joined_is _ _ 4 3 (null_column a e) f)
joined_texts a b (inr e) (inr f) =
    as_nulls (null_column a e) (null_column b f) (joined_is _ _ 4 4 (null_column a e) (null_column b f))

both_null : (a b : expr.Value) → (is_null a && is_null b) ≡ true → IsText a × IsText b
both_null a b h = (inr (and_left (is_null a) (is_null b) h), inr (and_right (is_null a) (is_null b) h))

numbers_go : (k : Param) (a b : expr.Value) → IsNumber a → IsNumber b
    → Goes k (joined_column (value_column a) (value_column b)) (is_null a && is_null b) → GoesIn k a × GoesIn k b
numbers_go param.Int a b x y g = (joined_numbers (value_column a) (value_column b) x y).1 g
numbers_go param.Long a b x y g = (x, y)
numbers_go param.Size a b x y g = (x, y)
numbers_go param.TextOrNull a b x y (inl e) =
    let j = (joined_numbers (value_column a) (value_column b) x y).0 in absurd (omega (arith, e, j))
numbers_go param.TextOrNull a b x y (inr e) = both_null a b e
numbers_go param.ObjectOrNull a b x y g =
    let j = (joined_numbers (value_column a) (value_column b) x y).0 in absurd (omega (arith, g, j))
numbers_go _ a b x y g = absurd g

objects_go : (k : Param) (a b : expr.Value) → IsObject a → IsObject b
    → joined_column (value_column a) (value_column b) ≡ 4
    → Goes k (joined_column (value_column a) (value_column b)) (is_null a && is_null b) → GoesIn k a × GoesIn k b
objects_go param.Int a b x y j g = absurd (omega (arith, g, j))
objects_go param.Long a b x y j g = absurd (omega (arith, g, j))
objects_go param.Size a b x y j g = absurd (omega (arith, g, j))
objects_go param.TextOrNull a b x y j (inl e) = absurd (omega (arith, e, j))
objects_go param.TextOrNull a b x y j (inr e) = both_null a b e
objects_go param.ObjectOrNull a b x y j g = (x, y)
objects_go _ a b x y j g = absurd g

text_goes_on : (k : Param) (a b : expr.Value) → IsText a → IsText b
    → joined_column (value_column a) (value_column b) ≡ 3
    → Goes k (joined_column (value_column a) (value_column b)) (is_null a && is_null b) → GoesIn k a × GoesIn k b
text_goes_on param.Int a b x y j g = absurd (omega (arith, g, j))
text_goes_on param.Long a b x y j g = absurd (omega (arith, g, j))
text_goes_on param.Size a b x y j g = absurd (omega (arith, g, j))
text_goes_on param.TextOrNull a b x y j g = (x, y)
text_goes_on param.ObjectOrNull a b x y j g = absurd (omega (arith, g, j))
text_goes_on _ a b x y j g = absurd g

texts_go : (k : Param) (a b : expr.Value) → IsText a → IsText b → Joined (value_column a) (value_column b)
    → Goes k (joined_column (value_column a) (value_column b)) (is_null a && is_null b) → GoesIn k a × GoesIn k b
texts_go k a b x y (as_text j) g = text_goes_on k a b x y j g
texts_go k a b x y (as_nulls e f j) g = objects_go k a b e f j g

-- what holds the value of `?:` may hold that of each branch
pub chosen_goes : (k : Param) (a b : expr.Value) → Alike a b
    → Goes k (joined_column (value_column a) (value_column b)) (is_null a && is_null b) → GoesIn k a × GoesIn k b
chosen_goes k a b (are_numbers x y) g = numbers_go k a b x y g
chosen_goes k a b (are_objects x y) g = objects_go k a b x y (joined_is _ _ 4 4 x y) g
chosen_goes k a b (are_texts x y) g = texts_go k a b x y (joined_texts a b x y) g

-- .. columns of operands
pub low_fit : (w own : ℕ) → w ≤ 2 → fitting_column w own ≡ own
low_fit zero own h = refl
low_fit (suc zero) own h = refl
low_fit (suc (suc zero)) own h = refl
low_fit (suc (suc (suc w))) own h = absurd (omega (arith, h))

-- .. parts of expressions
pub wide_counted : (kind : ValueKind) → is_counted kind ≡ true → is_counted (wide kind) ≡ true
wide_counted kinds.Int h = refl
wide_counted _ h = refl

-- beside an object or NULL
pub beside_object : (w : ℕ) (own : ℕ) → w ≡ 4 → fitting_column w own ≡ own
beside_object w own e = ap (λ (x : ℕ). fitting_column x own) e

pub number_wide : (c : ℕ) → c ≤ 2 → is_wide (column_kind c) param.Size ≡ true
number_wide zero h = refl
number_wide (suc zero) h = refl
number_wide (suc (suc zero)) h = refl
number_wide (suc (suc (suc c))) h = absurd (omega (arith, h))

-- the result of a called function goes into the variable of its value, where it has one
pub given_fits : (vars : List Param) (r : Option ValueKind) (t : ℕ) (k : Param) → is_given r ≡ true
    → Goes k (local_column r) false
    → ((w : Param) → is_wide w k ≡ true → (is_var vars (to_var t) && is_wide w (var_kind vars (to_var t))) ≡ true)
    → fits_result vars (returned_kind r) (if is_void r then None else Some (to_var t)) ≡ true
given_fits vars (Some kinds.Int) t k h g f = f param.Int (wide_goes kinds.Int k g)
given_fits vars (Some kinds.Long) t k h g f = f param.Long (wide_goes kinds.Long k g)
given_fits vars (Some kinds.Size) t k h g f = f param.Size (wide_goes kinds.Size k g)
given_fits vars (Some kinds.Text) t k h g f = f param.TextOrNull (wide_goes kinds.Text k g)
given_fits vars (Some (kinds.Object tag)) t k h g f = f param.ObjectOrNull (wide_goes (kinds.Object tag) k g)
given_fits vars (Some kinds.Null) t k h g f = absurd (cc)
given_fits vars (Some kinds.Void) t k h g f = refl
given_fits vars None t k h g f = absurd (cc)

-- what is returned of a kind that a place has, and of none
pub kept_returned : (kind : ValueKind) → is_kept kind ≡ true → returned_kind (Some kind) ≡ Some (slot_kind kind)
kept_returned kinds.Int h = refl
kept_returned kinds.Long h = refl
kept_returned kinds.Size h = refl
kept_returned kinds.Text h = refl
kept_returned (kinds.Object tag) h = refl
kept_returned kinds.Null h = absurd (cc)
kept_returned kinds.Void h = absurd (cc)

pub void_returned : (r : Option ValueKind) → is_void r ≡ true → is_none (returned_kind r) ≡ true
void_returned (Some kinds.Void) h = refl
void_returned _ h = absurd (cc)

pub answer_goes : (a : CallAnswer) (k : Param) → Goes k (call_column a) false → is_wide (returned_param a) k ≡ true
answer_goes (Of answer.Status) k g = wide_goes kinds.Int k g
answer_goes (Of answer.Truth) k g = wide_goes kinds.Int k g
answer_goes (Of answer.Int) k g = wide_goes kinds.Int k g
answer_goes (Of answer.Long) k g = wide_goes kinds.Long k g
answer_goes (Of answer.Size) k g = wide_goes kinds.Size k g
answer_goes (Of answer.Text) k g = wide_goes kinds.Text k g
answer_goes (Of answer.Found) k g = wide_goes kinds.Int k g
answer_goes (Of (answer.Converted failures least most)) k g = wide_goes kinds.Int k g
answer_goes (Of answer.AnySize) k g = wide_goes kinds.Size k g
answer_goes (Of answer.Flag) k g = wide_goes kinds.Int k g
answer_goes (Of answer.TextSure) k g = wide_goes kinds.Text k g
answer_goes (Of _) k g = wide_goes (kinds.Object None) k g
answer_goes Argument k g = wide_goes (kinds.Object None) k g

-- what a sign stands before is a number
pub slot_number : (kind : ValueKind) (c : ℕ) (b : Bool) → is_counted kind ≡ true → Goes (slot_kind kind) c b → c ≤ 2
slot_number kinds.Int c b h g = omega (arith, g)
slot_number kinds.Long c b h g = g
slot_number kinds.Size c b h g = g
slot_number _ c b h g = absurd (cc)
