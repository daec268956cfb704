-- The numbers of places and exit classes tell them apart, where they name the same static objects.
use Rattle.std.proofs.Common.{◌≡◌, ◌∙◌, refl, sym, ap, subst, arith, ℕ, ◌+◌, ◌<◌, pos, negsuc, List, [], ◌∷◌, ◌++◌}
use Rattle.std.proofs.Common.{length, map, get_or, drop, Some}
use Rattle.std.specs.List.{IsAmong, flat_map}
use Rattle.std.specs.declared.cmp.Ordering.{Ordering}
use Rattle.std.specs.declared.cmp.Ordering.TheVariants.{Less, Equal, Greater}
use Rattle.std.specs.Ordering.{nat_cmp, ordering_then}
use Rattle.std.specs.Cmp.Lexicographic.{slice_cmp}
use Rattle.std.proofs.lemmas.List.{length-append, length-map}
use Rattle.pungi_code.specs.declared.code.Code.{Code}
use Rattle.pungi_code.specs.declared.code.Codes.{Codes}
use Rattle.pungi_shape.specs.declared.holding.Holding.{Holding}
use Rattle.pungi_shape.specs.declared.holding.Holding.TheVariants.{Dead, Unset, Null, Text, Known, Number, Token}
use Rattle.pungi_shape.specs.declared.point.Point.{Point}
use Rattle.pungi_shape.specs.declared.shape.Shape.{Shape}
use Rattle.pungi_shape.specs.Classes.{AreClasses, IsClassAt, IsClassOf, IsOfCall}
use Rattle.pungi_shape.specs.Forms.{one_if}
use Rattle.pungi_shape.specs.Keys.{key_of, marked}
use Rattle.pungi_shape.specs.Places.{Place, at_entry, at_point, after_call, numbers_of_point, place_cmp}
use Rattle.pungi_shape.specs.Reached.{IsExit, IsReached, IsShapeOf, names_at, names_in}
use Rattle.pungi_shape.specs.Shapes.{before_slots, holding_of_slot, holding_of_static}
use Rattle.pungi_shape.specs.Shapes.{distinct, numbers_of_holding, numbers_of_shape, numbers_of_tracked, tokens_in}
use Rattle.pungi_shape.proofs.KeyParts.{CountsTokens, holdings-apart, slots-apart}
use Rattle.pungi_shape.proofs.sound.Members.{of_all}

-- ---- parts of shapes

front-apart : {A : Type 0} (xs ys us vs : List A) → length xs ≡ length ys → xs ++ us ≡ ys ++ vs
    → (xs ≡ ys) × (us ≡ vs)
front-apart [] [] us vs long e = (refl, e)
front-apart [] (y ∷ ys) us vs long e = absurd (omega (arith, long))
front-apart (x ∷ xs) [] us vs long e = absurd (omega (arith, long))
front-apart (x ∷ xs) (y ∷ ys) us vs long e =
    let rest = front-apart xs ys us vs (omega (arith, long)) (ap (drop 1) e) in
    let first : x ≡ y = ap (λ l. get_or l 0 x) e in
    (ap (λ z. z ∷ xs) first ∙ ap (λ l. y ∷ l) rest.0, rest.1)

statics-apart : (ks js : List (ℕ × Holding)) → map (λ k. k.0) ks ≡ map (λ k. k.0) js
    → map holding_of_static ks ≡ map holding_of_static js → ks ≡ js
statics-apart [] [] names held = refl
statics-apart [] (j ∷ js) names held = absurd (cc)
statics-apart (k ∷ ks) [] names held = absurd (cc)
statics-apart (k ∷ ks) (j ∷ js) names held =
    let name : k.0 ≡ j.0 = ap (λ l. get_or l 0 0) names in
    let holding : k.1 ≡ j.1 = ap (λ l. get_or l 0 Dead) held in
    let rest = statics-apart ks js (ap (drop 1) names) (ap (drop 1) held) in
    λ i. (name i, holding i) ∷ rest i

record IsLike (s t : Shape) : Type 0 where
  entry : length s.entry ≡ length t.entry
  vars : length s.vars ≡ length t.vars
  names : names_in s ≡ names_in t

record AreHeld (s t : Shape) : Type 0 where
  entry : s.entry ≡ t.entry
  vars : s.vars ≡ t.vars
  statics : s.statics ≡ t.statics
  returned : s.returned ≡ t.returned

statics-length : (s t : Shape) → IsLike s t
    → length (map holding_of_static s.statics) ≡ length (map holding_of_static t.statics)
statics-length s t like =
    length-map s.statics holding_of_static ∙ sym (length-map s.statics (λ k. k.0)) ∙ ap length like.names
    ∙ length-map t.statics (λ k. k.0) ∙ sym (length-map t.statics holding_of_static)

before-length : (s : Shape) → length (before_slots s)
    ≡ length s.entry + (length s.vars + (length (map holding_of_static s.statics) + 1))
before-length s =
    let one = length-append s.entry (s.vars ++ (map holding_of_static s.statics ++ s.returned ∷ [])) in
    let two = length-append s.vars (map holding_of_static s.statics ++ s.returned ∷ []) in
    let three = length-append (map holding_of_static s.statics) (s.returned ∷ []) in
    omega (arith, one, two, three)

before-apart : (s t : Shape) → IsLike s t → numbers_of_shape s ≡ numbers_of_shape t
    → (before_slots s ≡ before_slots t)
    × (flat_map numbers_of_tracked s.slots ++ map one_if s.made
    ≡ flat_map numbers_of_tracked t.slots ++ map one_if t.made)
before-apart s t like e =
    let entry = like.entry in
    let vars = like.vars in
    let statics = statics-length s t like in
    let this = before-length s in
    let that = before-length t in
    holdings-apart (before_slots s) (before_slots t) (flat_map numbers_of_tracked s.slots ++ map one_if s.made)
    (flat_map numbers_of_tracked t.slots ++ map one_if t.made) (omega (arith, entry, vars, statics, this, that)) e

held-apart : (s t : Shape) → IsLike s t → before_slots s ≡ before_slots t → AreHeld s t
held-apart s t like e =
    let one = front-apart s.entry t.entry (s.vars ++ (map holding_of_static s.statics ++ s.returned ∷ []))
    (t.vars ++ (map holding_of_static t.statics ++ t.returned ∷ [])) like.entry e in
    let two = front-apart s.vars t.vars (map holding_of_static s.statics ++ s.returned ∷ [])
    (map holding_of_static t.statics ++ t.returned ∷ []) like.vars one.1 in
    let three = front-apart (map holding_of_static s.statics) (map holding_of_static t.statics) (s.returned ∷ [])
    (t.returned ∷ []) (statics-length s t like) two.1 in
    record {
      entry = one.0;
      vars = two.0;
      statics = statics-apart s.statics t.statics like.names three.0;
      returned = ap (λ l. get_or l 0 Dead) three.1;
    }

shapes-apart : (code : Code) (s t : Shape) → IsShapeOf code s → IsShapeOf code t → names_in s ≡ names_in t
    → numbers_of_shape s ≡ numbers_of_shape t → s ≡ t
shapes-apart code s t h k names e =
    let like : IsLike s t = record {
      entry = h.entry ∙ sym k.entry;
      vars = h.vars ∙ sym k.vars;
      names = names;
    } in
    let before = before-apart s t like e in
    let held = held-apart s t like before.0 in
    let those : CountsTokens (before_slots s) t.slots t.made =
    k.shape.made ∙ ap (λ hs. length (distinct (tokens_in (hs ++ map holding_of_slot t.slots)))) (sym before.0) in
    let slots = slots-apart (before_slots s) s.slots t.slots s.made t.made h.shape.made those before.1 in
    λ i. record {
      entry = held.entry i;
      vars = held.vars i;
      statics = held.statics i;
      returned = held.returned i;
      slots = slots.0 i;
      made = slots.1 i;
    }

-- ---- exit classes

pub exits-apart : (code : Code) (x y : Shape) → IsExit code x → IsExit code y → names_in x ≡ names_in y
    → numbers_of_shape x ≡ numbers_of_shape y → x ≡ y
exits-apart code x y h k names e =
    let vars : x.vars ≡ y.vars = h.vars ∙ sym k.vars in
    let slots : x.slots ≡ y.slots = h.slots ∙ sym k.slots in
    let made : x.made ≡ y.made = h.made ∙ sym k.made in
    let like : IsLike x y = record {
      entry = h.entry ∙ sym k.entry;
      vars = ap length vars;
      names = names;
    } in
    let before = before-apart x y like e in
    let held = held-apart x y like before.0 in
    λ i. record {
      entry = held.entry i;
      vars = vars i;
      statics = held.statics i;
      returned = held.returned i;
      slots = slots i;
      made = made i;
    }

-- an exit class of a callee
class-apart : (codes : Codes) (others : ℕ → List Shape) → AreClasses codes others → (code : Code) (pc : ℕ) (x y : Shape)
    → IsClassAt code others pc x → IsClassAt code others pc y → numbers_of_shape x ≡ numbers_of_shape y → x ≡ y
class-apart codes others classes code pc x y h k e =
    let same : h.callee ≡ k.callee = ap (λ l. get_or l 0 0) (sym h.calls ∙ k.calls) in
    let this = of_all (IsClassOf codes h.callee) (others h.callee) x (classes h.callee).each h.is_there in
    let that = of_all (IsClassOf codes h.callee) (others h.callee) y (classes h.callee).each
    (subst (λ g. IsAmong (others g) y) (sym same) k.is_there) in
    let code_is : Some that.code ≡ Some this.code = sym that.is_code ∙ this.is_code in
    exits-apart this.code x y this.exit (subst (λ c. IsExit c y) (cc) that.exit) (this.names ∙ sym that.names) e

-- ---- marked numbers

marked-apart : (ks js xs ys : List ℕ) → marked ks ++ 0 ∷ xs ≡ marked js ++ 0 ∷ ys → (ks ≡ js) × (xs ≡ ys)
marked-apart [] [] xs ys e = (refl, ap (drop 1) e)
marked-apart [] (j ∷ js) xs ys e =
    let same : ◌≡◌ {A = ℕ} 0 1 = ap (λ l. get_or l 0 0) e in
    absurd (omega (arith, same))
marked-apart (k ∷ ks) [] xs ys e =
    let same : ◌≡◌ {A = ℕ} 1 0 = ap (λ l. get_or l 0 0) e in
    absurd (omega (arith, same))
marked-apart (k ∷ ks) (j ∷ js) xs ys e =
    let rest = marked-apart ks js xs ys (ap (drop 2) e) in
    let first : k ≡ j = ap (λ l. get_or l 1 0) e in
    (ap (λ z. z ∷ ks) first ∙ ap (λ l. j ∷ l) rest.0, rest.1)

some-number : (h : Holding) (hs : List Holding) (rest : List ℕ) → flat_map numbers_of_holding (h ∷ hs) ++ rest ≡ [] → ⊥
some-number h hs rest e = at h (ap length e)
  where
    at : (k : Holding) → length (flat_map numbers_of_holding (k ∷ hs) ++ rest) ≡ 0 → ⊥
    at Dead none = omega (arith, none)
    at Unset none = omega (arith, none)
    at Null none = omega (arith, none)
    at Text none = omega (arith, none)
    at (Known (pos n)) none = omega (arith, none)
    at (Known (negsuc n)) none = omega (arith, none)
    at Number none = omega (arith, none)
    at (Token t) none = omega (arith, none)

some-numbers : (hs : List Holding) (rest : List ℕ) → 0 < length hs → flat_map numbers_of_holding hs ++ rest ≡ [] → ⊥
some-numbers [] rest lt e = omega (arith, lt)
some-numbers (h ∷ hs) rest lt e = some-number h hs rest e

has-numbers : (s : Shape) → numbers_of_shape s ≡ [] → ⊥
has-numbers s e =
    let long = before-length s in
    some-numbers (before_slots s) (flat_map numbers_of_tracked s.slots ++ map one_if s.made) (omega (arith, long)) e

-- ---- places

points-apart : (p q : Point) (xs ys : List ℕ)
    → 1 ∷ p.instr ∷ p.done ∷ p.class ∷ xs ≡ 1 ∷ q.instr ∷ q.done ∷ q.class ∷ ys → (p ≡ q) × (xs ≡ ys)
points-apart p q xs ys e =
    let instr : p.instr ≡ q.instr = ap (λ l. get_or l 1 0) e in
    let done : p.done ≡ q.done = ap (λ l. get_or l 2 0) e in
    let class : p.class ≡ q.class = ap (λ l. get_or l 3 0) e in
    ((λ i. record { instr = instr i; done = done i; class = class i }), ap (drop 4) e)

entry-away : (xs ys : List ℕ) → 0 ∷ xs ≡ 1 ∷ ys → ⊥
entry-away xs ys e =
    let same : ◌≡◌ {A = ℕ} 0 1 = ap (λ l. get_or l 0 0) e in
    omega (arith, same)

module _ (codes : Codes) (others : ℕ → List Shape) (classes : AreClasses codes others) (code : Code) where
  pub key_of-apart : (q r : Place) → IsReached code q → IsReached code r → IsOfCall code others q
      → IsOfCall code others r → names_at q ≡ names_at r → key_of q ≡ key_of r → q ≡ r
  key_of-apart (at_entry s) (at_entry t) h k a b names e = ap at_entry (shapes-apart code s t h k names (ap (drop 1) e))
  key_of-apart (at_entry s) (at_point p t) h k a b names e = absurd (entry-away _ _ e)
  key_of-apart (at_entry s) (after_call p t y) h k a b names e = absurd (entry-away _ _ e)
  key_of-apart (at_point p s) (at_entry t) h k a b names e = absurd (entry-away _ _ (sym e))
  key_of-apart (after_call p s x) (at_entry t) h k a b names e = absurd (entry-away _ _ (sym e))
  key_of-apart (at_point p s) (at_point q t) h k a b names e =
      let apart = points-apart p q (0 ∷ numbers_of_shape s) (0 ∷ numbers_of_shape t) e in
      let shape : s ≡ t = shapes-apart code s t h.0 k.0 names (ap (drop 1) apart.1) in
      λ i. at_point (apart.0 i) (shape i)
  key_of-apart (at_point p s) (after_call q t y) h k a b names e =
      let apart = points-apart p q (0 ∷ numbers_of_shape s) (marked (numbers_of_shape y) ++ 0 ∷ numbers_of_shape t) e in
      let rest = marked-apart [] (numbers_of_shape y) (numbers_of_shape s) (numbers_of_shape t) apart.1 in
      absurd (has-numbers y (sym rest.0))
  key_of-apart (after_call p s x) (at_point q t) h k a b names e =
      let apart = points-apart p q (marked (numbers_of_shape x) ++ 0 ∷ numbers_of_shape s) (0 ∷ numbers_of_shape t) e in
      let rest = marked-apart (numbers_of_shape x) [] (numbers_of_shape s) (numbers_of_shape t) apart.1 in
      absurd (has-numbers x rest.0)
  key_of-apart (after_call p s x) (after_call q t y) h k a b names e =
      let apart = points-apart p q (marked (numbers_of_shape x) ++ 0 ∷ numbers_of_shape s)
      (marked (numbers_of_shape y) ++ 0 ∷ numbers_of_shape t) e in
      let rest = marked-apart (numbers_of_shape x) (numbers_of_shape y) (numbers_of_shape s) (numbers_of_shape t)
      apart.1 in
      let shape : s ≡ t = shapes-apart code s t h.0 k.0 names rest.1 in
      let instr : q.instr ≡ p.instr = ap (λ (r : Point). r.instr) (sym apart.0) in
      let exit : x ≡ y = class-apart codes others classes code p.instr x y a
      (subst (λ (n : ℕ). IsClassAt code others n y) instr b) rest.0 in
      λ i. after_call (apart.0 i) (shape i) (exit i)

-- ---- the order of the numbers is that of the places

then-equal : (o : Ordering) → ordering_then o Equal ≡ o
then-equal Less = refl
then-equal Equal = refl
then-equal Greater = refl

then-then : (o p r : Ordering) → ordering_then (ordering_then o p) r ≡ ordering_then o (ordering_then p r)
then-then Less p r = refl
then-then Equal p r = refl
then-then Greater p r = refl

-- a point, and then more
points-cmp : (a b c d : Ordering)
    → ordering_then (ordering_then a (ordering_then b (ordering_then c Equal))) d
    ≡ ordering_then a (ordering_then b (ordering_then c d))
points-cmp a b c d =
    ap (λ o. ordering_then (ordering_then a (ordering_then b o)) d) (then-equal c)
    ∙ then-then a (ordering_then b c) d ∙ ap (ordering_then a) (then-then b c d)

marked-cmp : (ks js xs ys : List ℕ)
    → slice_cmp nat_cmp (marked ks ++ 0 ∷ xs) (marked js ++ 0 ∷ ys)
    ≡ ordering_then (slice_cmp nat_cmp ks js) (slice_cmp nat_cmp xs ys)
marked-cmp [] [] xs ys = refl
marked-cmp [] (j ∷ js) xs ys = refl
marked-cmp (k ∷ ks) [] xs ys = refl
marked-cmp (k ∷ ks) (j ∷ js) xs ys =
    ap (ordering_then (nat_cmp k j)) (marked-cmp ks js xs ys)
    ∙ sym (then-then (nat_cmp k j) (slice_cmp nat_cmp ks js) (slice_cmp nat_cmp xs ys))

away-cmp : (p q : Point) (ks js xs ys : List ℕ)
    → slice_cmp (slice_cmp nat_cmp) (numbers_of_point p ∷ ks ∷ xs ∷ []) (numbers_of_point q ∷ js ∷ ys ∷ [])
    ≡ slice_cmp nat_cmp (1 ∷ p.instr ∷ p.done ∷ p.class ∷ (marked ks ++ 0 ∷ xs))
    (1 ∷ q.instr ∷ q.done ∷ q.class ∷ (marked js ++ 0 ∷ ys))
away-cmp p q ks js xs ys =
    points-cmp (nat_cmp p.instr q.instr) (nat_cmp p.done q.done) (nat_cmp p.class q.class)
    (ordering_then (slice_cmp nat_cmp ks js) (ordering_then (slice_cmp nat_cmp xs ys) Equal))
    ∙ ap (λ o. ordering_then (nat_cmp p.instr q.instr) (ordering_then (nat_cmp p.done q.done)
    (ordering_then (nat_cmp p.class q.class) o)))
    (ap (ordering_then (slice_cmp nat_cmp ks js)) (then-equal (slice_cmp nat_cmp xs ys))
    ∙ sym (marked-cmp ks js xs ys))

pub place_cmp-keys : (q r : Place) → place_cmp q r ≡ slice_cmp nat_cmp (key_of q) (key_of r)
place_cmp-keys (at_entry s) (at_entry t) = then-equal (slice_cmp nat_cmp (numbers_of_shape s) (numbers_of_shape t))
place_cmp-keys (at_entry s) (at_point p t) = refl
place_cmp-keys (at_entry s) (after_call p t y) = refl
place_cmp-keys (at_point p s) (at_entry t) = refl
place_cmp-keys (after_call p s x) (at_entry t) = refl
place_cmp-keys (at_point p s) (at_point q t) = away-cmp p q [] [] (numbers_of_shape s) (numbers_of_shape t)
place_cmp-keys (at_point p s) (after_call q t y) =
    away-cmp p q [] (numbers_of_shape y) (numbers_of_shape s) (numbers_of_shape t)
place_cmp-keys (after_call p s x) (at_point q t) =
    away-cmp p q (numbers_of_shape x) [] (numbers_of_shape s) (numbers_of_shape t)
place_cmp-keys (after_call p s x) (after_call q t y) =
    away-cmp p q (numbers_of_shape x) (numbers_of_shape y) (numbers_of_shape s) (numbers_of_shape t)
