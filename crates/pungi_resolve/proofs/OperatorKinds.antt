-- The kind of an expression in whose node no rule holds, from the kinds of its operands.
use Rattle.std.proofs.Common.{◌≡◌, Bool, true, false, Option, Some, None, refl}
use Rattle.std.specs.Prelude.{◌&&◌, ◌||◌, not, is_some, is_none, if◌then◌else◌}
use Rattle.pungi_types.specs.declared.kind.ValueKind.{ValueKind}
use Rattle.pungi_types.specs.declared.kind.ValueKind.TheVariants as kinds
use Rattle.pungi_types.specs.declared.operator.Prefix.TheVariants as prefixes
use Rattle.pungi_types.specs.declared.wants.ArgumentForm.TheVariants as written
use Rattle.pungi_types.specs.Calls.{want_met, made_wrong, made_kind}
use Rattle.pungi_types.specs.Formats.{an_object}
use Rattle.pungi_types.specs.Operators.{is_integer, is_pointer, is_void, is_null, is_text, has_same, struct_part, wider}
use Rattle.pungi_types.specs.Operators.{fits, comparable, joinable, joined_kind, both_known}
use Rattle.pungi_types.specs.Exprs.{step_kind, unary_wrong, cond_kind, cond_wrong, cast_kind, cast_wrong, crosses}
use Rattle.pungi_resolve.proofs.Clean.{or_left, or_right, and_true}

-- neither Void nor a pointer
integer-left : (k : Option ValueKind) → is_some k ≡ true → is_void k ≡ false → is_pointer k ≡ false
    → is_integer k ≡ true
integer-left (Some kinds.Int) s v p = refl
integer-left (Some kinds.Long) s v p = refl
integer-left (Some kinds.Size) s v p = refl
integer-left _ s v p = absurd (cc)

-- not Void
scalar-left : (k : Option ValueKind) → is_some k ≡ true → is_void k ≡ false → (is_integer k || is_pointer k) ≡ true
scalar-left None s v = absurd (cc)
scalar-left (Some kinds.Void) s v = absurd (cc)
scalar-left _ s v = refl

if-true : (c : Bool) (k : Option ValueKind) → c ≡ true → is_some k ≡ true → is_some (if c then k else None) ≡ true
if-true true k e h = h
if-true false k e h = absurd (cc)

if-some : (c : Bool) (x y : Option ValueKind) → is_some x ≡ true → is_some y ≡ true
    → is_some (if c then x else y) ≡ true
if-some true x y h k = h
if-some false x y h k = k

-- of two known kinds that don't break a rule
known-and-not : (s t c : Bool) → s ≡ true → t ≡ true → ((s && t) && not c) ≡ false → c ≡ true
known-and-not true true true a b h = refl
known-and-not _ _ _ a b h = absurd (cc)

-- a step of a place
step-left : (k : Option ValueKind) → is_some k ≡ true → unary_wrong prefixes.Step false k ≡ false
    → is_pointer k ≡ false → ⊥
step-left None s w p = cc
step-left (Some kinds.Int) s w p = cc
step-left (Some kinds.Long) s w p = cc
step-left (Some kinds.Size) s w p = cc
step-left (Some kinds.Text) s w p = cc
step-left (Some (kinds.Object o)) s w p = cc
step-left (Some kinds.Null) s w p = cc
step-left (Some kinds.Void) s w p = cc

pub step-kept : (place : Bool) (k : Option ValueKind) → is_some k ≡ true → unary_wrong prefixes.Step place k ≡ false
    → is_pointer k ≡ false → (place ≡ true) × (is_some (step_kind place k) ≡ true)
step-kept true (Some kinds.Int) s w p = (refl, refl)
step-kept true (Some kinds.Long) s w p = (refl, refl)
step-kept true (Some kinds.Size) s w p = (refl, refl)
step-kept true _ s w p = absurd (cc)
step-kept false k s w p = absurd (step-left k s w p)

pub sign-kept : (k : Option ValueKind) → is_some k ≡ true → is_void k ≡ false → is_pointer k ≡ false
    → is_some (if is_integer k then Some (wider k k) else None) ≡ true
sign-kept k s v p = if-true (is_integer k) (Some (wider k k)) (integer-left k s v p) refl

pub negation-kept : (k : Option ValueKind) → is_some k ≡ true → is_void k ≡ false
    → is_some (if is_integer k || is_pointer k then Some kinds.Int else None) ≡ true
negation-kept k s v = if-true (is_integer k || is_pointer k) (Some kinds.Int) (scalar-left k s v) refl

-- operators by what they are: bits, arithmetic, an order, an equality
pub binary-kept : (bits sums order equal : Bool) (a b : Option ValueKind) → is_some a ≡ true → is_some b ≡ true
    → bits ≡ false
    → (not bits && (is_void a || (is_void b || ((order && (is_pointer a || is_pointer b))
    || (equal && (both_known a b && not (comparable a b))))))) ≡ false
    → (sums && (is_pointer a || is_pointer b)) ≡ false
    → is_some (if bits then None else
    (if sums then (if is_integer a && is_integer b then Some (wider a b) else None) else
    (if order then (if is_integer a && is_integer b then Some kinds.Int else None) else
    (if equal then (if comparable a b then Some kinds.Int else None) else
    (if (is_integer a || is_pointer a) && (is_integer b || is_pointer b) then Some kinds.Int else None))))) ≡ true
binary-kept true sums order equal a b s t e w p = absurd (cc)
binary-kept false true order equal a b s t e w p =
    let va = or_left (is_void a) _ w in
    let vb = or_left (is_void b) _ (or_right (is_void a) _ w) in
    let ia = integer-left a s va (or_left (is_pointer a) (is_pointer b) p) in
    let ib = integer-left b t vb (or_right (is_pointer a) (is_pointer b) p) in
    if-true (is_integer a && is_integer b) (Some (wider a b)) (and_true (is_integer a) (is_integer b) ia ib) refl
binary-kept false false true equal a b s t e w p =
    let va = or_left (is_void a) _ w in
    let rest = or_right (is_void a) _ w in
    let vb = or_left (is_void b) _ rest in
    let ps = or_left (is_pointer a || is_pointer b) _ (or_right (is_void b) _ rest) in
    let ia = integer-left a s va (or_left (is_pointer a) (is_pointer b) ps) in
    let ib = integer-left b t vb (or_right (is_pointer a) (is_pointer b) ps) in
    if-true (is_integer a && is_integer b) (Some kinds.Int) (and_true (is_integer a) (is_integer b) ia ib) refl
binary-kept false false false true a b s t e w p =
    let rest = or_right (is_void b) _ (or_right (is_void a) _ w) in
    if-true (comparable a b) (Some kinds.Int) (known-and-not (is_some a) (is_some b) (comparable a b) s t rest) refl
binary-kept false false false false a b s t e w p =
    let va = or_left (is_void a) _ w in
    let vb = or_left (is_void b) _ (or_right (is_void a) _ w) in
    if-true ((is_integer a || is_pointer a) && (is_integer b || is_pointer b)) (Some kinds.Int)
    (and_true (is_integer a || is_pointer a) (is_integer b || is_pointer b) (scalar-left a s va)
    (scalar-left b t vb)) refl

none-left : (s p : Bool) → s ≡ true → p ≡ false → (s && not p) ≡ false → ⊥
none-left true false a b h = cc
none-left _ _ a b h = cc

none-there : (s : Bool) → s ≡ true → (s && true) ≡ false → ⊥
none-there true a h = cc
none-there false a h = cc

-- the kind of an assignment, by whether its operator is arithmetic
pub record Assigned (place : Bool) (k : Option ValueKind) : Type 0 where
  pub to_place : place ≡ true
  pub known : is_some k ≡ true

pub assign-kept : (bits sums place : Bool) (a b : Option ValueKind) → is_some a ≡ true → is_some b ≡ true
    → (place ≡ true → is_void a ≡ false) → bits ≡ false
    → (not bits && ((is_some a && (not place && not (sums && is_pointer a)))
    || (is_void b || (not sums && (place && (both_known a b && not (fits a b))))))) ≡ false
    → (sums && (is_pointer a || is_pointer b)) ≡ false
    → Assigned place (if bits then None else (if sums then (if place
    && (is_integer a && is_integer b) then a else None) else (if place && fits a b then a else None)))
assign-kept true sums place a b s t n e w p = absurd (cc)
assign-kept false true true a b s t n e w p =
    let vb = or_left (is_void b) _ (or_right (is_some a && (false && not (is_pointer a))) _ w) in
    let ia = integer-left a s (n refl) (or_left (is_pointer a) (is_pointer b) p) in
    let ib = integer-left b t vb (or_right (is_pointer a) (is_pointer b) p) in
    record {
      to_place = refl;
      known = if-true (is_integer a && is_integer b) a
          (and_true (is_integer a) (is_integer b) ia ib) s;
    }
assign-kept false true false a b s t n e w p =
    let q = or_left (is_pointer a) (is_pointer b) p in
    let f = or_left (is_some a && not (is_pointer a)) _ w in
    absurd (none-left (is_some a) (is_pointer a) s q f)
assign-kept false false true a b s t n e w p =
    let rest = or_right (is_void b) _ (or_right (is_some a && false) _ w) in
    record {
      to_place = refl;
      known = if-true (fits a b) a (known-and-not (is_some a) (is_some b) (fits a b) s t
          rest) s;
    }
assign-kept false false false a b s t n e w p =
    let f = or_left (is_some a && true) _ w in
    absurd (none-there (is_some a) s f)

joined-known : (a b : Option ValueKind) → is_some a ≡ true → is_some b ≡ true → is_some (joined_kind a b) ≡ true
joined-known a b s t =
    if-some (is_integer a && is_integer b) (Some (wider a b)) _ refl
    (if-some (is_null a) b _ t (if-some (is_null b) a _ s (if-some (is_text a) a _ s
    (if-some (has_same (struct_part a) (struct_part b)) a (Some (kinds.Object None)) s refl))))

chosen-fits : (r c a b s t j : Bool) → r ≡ true → s ≡ true → t ≡ true
    → (c || (a || (b || ((s && t) && not j)))) ≡ false → ((r && not c) && ((s && t) && j)) ≡ true
chosen-fits true false false false true true true w x y h = refl
chosen-fits _ _ _ _ _ _ _ w x y h = absurd (cc)

pub cond-kept : (c a b : Option ValueKind) → is_some c ≡ true → is_some a ≡ true → is_some b ≡ true
    → cond_wrong c a b ≡ false → is_some (cond_kind c a b) ≡ true
cond-kept c a b r s t w =
    if-true ((is_some c && not (is_void c)) && (both_known a b && joinable a b)) (joined_kind a b)
    (chosen-fits (is_some c) (is_void c) (is_void a) (is_void b) (is_some a) (is_some b) (joinable a b) r s t w)
    (joined-known a b s t)

cast-fits : (st vt vk sk c f : Bool) → st ≡ true → sk ≡ true → c ≡ false
    → (st && (not vt && (vk || (sk && (not c && not f))))) ≡ false → ((vt && sk) || f) ≡ true
cast-fits true true vk true c f a b d h = refl
cast-fits true false vk sk c true a b d h = refl
cast-fits true false true sk c false a b d h = absurd (cc)
cast-fits true false false true false false a b d h = absurd (cc)
cast-fits _ _ _ _ _ _ a b d h = absurd (cc)

pub cast-kept : (to k : Option ValueKind) → is_some to ≡ true → is_some k ≡ true → crosses to k ≡ false
    → cast_wrong to k ≡ false → is_some (cast_kind to k) ≡ true
cast-kept to k s t c w =
    if-true ((is_void to && is_some k) || fits to k) to (cast-fits (is_some to) (is_void to) (is_void k) (is_some k)
    (crosses to k) (fits to k) s t c w) s

-- what `PyObject_New` makes
made-known : (to : Option ValueKind) (w : Bool) → (is_none to || w) ≡ false
    → is_some (if is_none to || w then None else to) ≡ true
made-known None w h = absurd (cc)
made-known (Some k) true h = absurd (cc)
made-known (Some k) false h = refl

pub made-kept : (to k : Option ValueKind) → made_wrong to k ≡ false → is_some (made_kind to k) ≡ true
made-kept to k h = made-known to (not (want_met an_object written.Other k)) h
