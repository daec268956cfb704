-- What holds of the cases of a part, part by part.
--   IsGoodCase s c          the scene after a case fits, over the same coordinates and with as many values; guards are
--                           equations, and balances are small
--   AreGood s cs            so it is with all cases
use Rattle.std.proofs.Common.{◌≡◌, ◌∙◌, ℕ, ◌==◌, ◌^◌, ◌<◌, ◌≤◌, Bool, true, false, ℤ, pos, negsuc}
use Rattle.std.proofs.Common.{◌+ℤ◌, ◌*ℤ◌, List, [], ◌∷◌, length, map, Option, None, Some, if◌then◌else◌, sym, lit≤}
use Rattle.std.specs.Prelude.{◌&&◌, IfSome}
use Rattle.std.specs.List.{All, slice_index_or}
use Rattle.std.specs.declared.cmp.Ordering.{Ordering}
use Rattle.std.specs.declared.cmp.Ordering.TheVariants.{Less, Equal, Greater}
use Rattle.std.proofs.lemmas.List.{length-replicate}
use Rattle.std.proofs.lemmas.List.Elements.{All-cons, All-map, All-nil}
use Rattle.pungi_domain.specs.Vectors.{IsEquation}
use Rattle.pungi_types.specs.declared.kind.ValueKind.{ValueKind}
use Rattle.pungi_meaning.specs.declared.op.Op.{Op}
use Rattle.pungi_meaning.specs.declared.op.Op.TheVariants as ops
use Rattle.pungi_meaning.specs.declared.cmp.Cmp.{Cmp}
use Rattle.pungi_base.specs.declared.value.Value.TheVariants as value
use Rattle.pungi_meaning.specs.Values.{arithmetic, is_true}
use Rattle.pungi_world.specs.Choices.{is_between}
use Rattle.pungi_code.specs.declared.atom.Atom.{Atom}
use Rattle.pungi_shape.specs.declared.holding.Holding.{Holding}
use Rattle.pungi_shape.specs.declared.holding.Holding.TheVariants.{Dead, Unset, Null, Text, Known, Number, Token}
use Rattle.pungi_shape.specs.Bounds.{HasBalances, HasWidth, IsBelow, IsPlain, IsHeld, IsScene}
use Rattle.pungi_shape.specs.Cases.{Case, Onward, leads_to, leads, frees, leads_where}
use Rattle.pungi_shape.specs.Comparisons.{branch_cases, branch_on, branch, comparison_cases, number_comparison, orders}
use Rattle.pungi_shape.specs.Comparisons.{order_branch, order_case, pointer_comparison, token_comparison, says}
use Rattle.pungi_shape.specs.Comparisons.{says_same}
use Rattle.pungi_shape.specs.Comparisons.{is_so, is_same_so, order_number, truth_number, are_apart}
use Rattle.pungi_shape.specs.Forms.{Form, zero_form, plus, minus, times, constant}
use Rattle.pungi_shape.specs.Numbers.{arithmetic_as, arithmetic_cases, conversion_cases, does_not_fit}
use Rattle.pungi_shape.specs.Numbers.{holding_or_number}
use Rattle.pungi_shape.specs.Numbers.{linear, product, result_holding, small_constant, constant_of, known_by, stays_out}
use Rattle.pungi_shape.specs.Numbers.{value_by}
use Rattle.pungi_shape.specs.Scenes.{Scene, form_of, holding_of, merge, with_var}
use Rattle.pungi_shape.specs.Shapes.{is_number}
use Rattle.pungi_shape.proofs.AfterLemmas.{IsAfter, after-none, after-loose, after-var, after-merge}
use Rattle.pungi_shape.proofs.FormBounds.{constant-width, difference-parts, form_of-parts, form_of-width, length-plus}
use Rattle.pungi_shape.proofs.FormBounds.{length-times, parts-equation, lead}
use Rattle.pungi_shape.proofs.TokenLemmas.{holding_of-held}

pub record IsGoodCase (s : Scene) (c : Case) : Type 0 where
  pub scene : IsScene c.scene
  pub width : c.scene.width ≡ s.width
  pub vars : length c.scene.shape.vars ≡ length s.shape.vars
  pub entry : length c.scene.shape.entry ≡ length s.shape.entry
  pub guard : All (IsEquation s.width) c.guard
  pub balances : HasBalances (2 ^ 20) c.scene
  pub few : length s.shape.made ≤ 256 → length c.scene.shape.made ≤ 257

abbrev pub AreGood : Scene → List Case → Type 0
AreGood s cs = All (IsGoodCase s) cs

-- ---- lists of cases

guarded : (j : ℕ) (s t : Scene) (guard : List Form) (freed : Option ℕ) (onward : Onward) → IsAfter j s t
    → j ≤ 2 ^ 20 → All (IsEquation s.width) guard
    → IsGoodCase s (record { guard = guard; scene = t; freed = freed; onward = onward })
guarded j s t guard freed onward k le g =
    let h = after-loose j (2 ^ 20) s t le k in
    record {
      scene = h.scene;
      width = h.width;
      vars = h.vars;
      entry = h.entry;
      guard = g;
      balances = h.balances;
      few = h.few;
    }

pub plain : (j : ℕ) (s t : Scene) (freed : Option ℕ) (onward : Onward) → IsAfter j s t → j ≤ 2 ^ 20
    → IsGoodCase s (record { guard = []; scene = t; freed = freed; onward = onward })
plain j s t freed onward k le = guarded j s t [] freed onward k le (All-nil (IsEquation s.width))

pub where_zero : (j : ℕ) (s t : Scene) (f : Form) (pc : ℕ) → IsAfter j s t → j ≤ 2 ^ 20 → IsEquation s.width f
    → IsGoodCase s (leads_where f pc t)
where_zero j s t f pc k le g =
    guarded j s t (f ∷ []) None (leads_to pc) k le
    (All-cons (IsEquation s.width) f [] g (All-nil (IsEquation s.width)))

pub none_good : (s : Scene) → AreGood s []
none_good s = All-nil (IsGoodCase s)

pub one_good : (s : Scene) (c : Case) → IsGoodCase s c → AreGood s (c ∷ [])
one_good s c h = All-cons (IsGoodCase s) c [] h (All-nil (IsGoodCase s))

pub two_good : (s : Scene) (b c : Case) → IsGoodCase s b → IsGoodCase s c → AreGood s (b ∷ c ∷ [])
two_good s b c g h = All-cons (IsGoodCase s) b (c ∷ []) g (one_good s c h)

pub either_good : (s : Scene) (b : Bool) (cs ds : List Case) → AreGood s cs → AreGood s ds
    → AreGood s (if b then cs else ds)
either_good s true cs ds g h = g
either_good s false cs ds g h = h

pub each_good : {X : Type 0} (s : Scene) (f : X → Case) (xs : List X) → ((x : X) → IsGoodCase s (f x))
    → AreGood s (map f xs)
each_good s f xs h = All-map (IsGoodCase s) f xs (λ i d below. h (slice_index_or xs i d))

-- ---- variables

pub var_good : (s : Scene) (x pc : ℕ) (h : Holding) (f : Form) (freed : Option ℕ) → IsScene s → IsPlain s → IsHeld s h
    → HasWidth s.width f
    → IsGoodCase s (record { guard = []; scene = with_var x h f s; freed = freed; onward = leads_to pc })
var_good s x pc h f freed k fresh held w =
    plain 1 s (with_var x h f s) freed (leads_to pc) (after-var 1 x h f s s (after-none s k fresh) held w) (lit≤ tt)

pub zero_width : (w : ℕ) → HasWidth w (zero_form w)
zero_width w = length-replicate w (pos 0)

-- ---- arithmetic

number_below : (n : ℕ) (b : Bool) (m : ℤ) → IsBelow n (if b then Known m else Number)
number_below n true m = tt
number_below n false m = tt

or_number_below : (n : ℕ) (o : Option ℤ) → IsBelow n (holding_or_number o)
or_number_below n None = tt
or_number_below n (Some m) = number_below n (is_between (negsuc 0) (pos 1) m) m

result_below : (n : ℕ) (o : Op) (kind : ValueKind) (p q : Option ℤ) → IsBelow n (result_holding o kind p q)
result_below n o kind (Some m) (Some k) = or_number_below n (arithmetic o kind m k)
result_below n o kind (Some m) None = tt
result_below n o kind None q = tt

times_width : (w : ℕ) (m : ℤ) (f : Form) → HasWidth w f → HasWidth w (times m f)
times_width w m f h = length-times m f ∙ h

product_width : (w : ℕ) (p q : Option ℤ) (f g : Form) → HasWidth w f → HasWidth w g
    → IfSome (product p q f g) (HasWidth w)
product_width w (Some m) q f g hf hg = times_width w m g hg
product_width w None (Some n) f g hf hg = times_width w n f hf
product_width w None None f g hf hg = tt

plus_width : (w : ℕ) (f g : Form) → HasWidth w f → HasWidth w g → HasWidth w (plus f g)
plus_width w f g hf hg = length-plus f g (hf ∙ sym hg) ∙ hf

linear_width : (o : Op) (s : Scene) (a b : Atom) → IsScene s → IfSome (linear o s a b) (HasWidth s.width)
linear_width ops.Add s a b h =
    plus_width s.width (form_of s a) (form_of s b) (form_of-width s a h) (form_of-width s b h)
linear_width ops.Sub s a b h =
    plus_width s.width (form_of s a) (times (negsuc 0) (form_of s b)) (form_of-width s a h)
    (times_width s.width (negsuc 0) (form_of s b) (form_of-width s b h))
linear_width ops.Mul s a b h =
    product_width s.width (small_constant a) (small_constant b) (form_of s a) (form_of s b) (form_of-width s a h)
    (form_of-width s b h)
linear_width ops.Div s a b h = tt
linear_width ops.Rem s a b h = tt

arithmetic_as-good : (o : Option Form) (h : Holding) (out : Bool) (x pc : ℕ) (s : Scene) → IsScene s → IsPlain s
    → IsHeld s h → IfSome o (HasWidth s.width) → AreGood s (arithmetic_as o h out x pc s)
arithmetic_as-good None h out x pc s k fresh held w =
    one_good s (frees x pc (with_var x h (zero_form s.width) s))
    (var_good s x pc h (zero_form s.width) (Some x) k fresh held (zero_width s.width))
arithmetic_as-good (Some f) h out x pc s k fresh held w =
    either_good s out [] (leads pc (with_var x h f s) ∷ []) (none_good s)
    (one_good s (leads pc (with_var x h f s)) (var_good s x pc h f None k fresh held w))

pub arithmetic_cases-good : (x : ℕ) (kind : ValueKind) (o : Op) (a b : Atom) (pc : ℕ) (s : Scene) → IsScene s
    → IsPlain s → AreGood s (arithmetic_cases x kind o a b pc s)
arithmetic_cases-good x kind o a b pc s k fresh =
    arithmetic_as-good (linear o s a b) (result_holding o kind (known_by s a) (known_by s b))
    (stays_out o kind (constant_of a) (constant_of b)) x pc s k fresh
    (result_below (length s.shape.made) o kind (known_by s a) (known_by s b)) (linear_width o s a b k)

pub copy_good : (x : ℕ) (a : Atom) (pc : ℕ) (s : Scene) → IsScene s → IsPlain s
    → AreGood s (leads pc (with_var x (holding_of s a) (form_of s a) s) ∷ [])
copy_good x a pc s k fresh =
    one_good s (leads pc (with_var x (holding_of s a) (form_of s a) s))
    (var_good s x pc (holding_of s a) (form_of s a) None k fresh (holding_of-held s a k) (form_of-width s a k))

pub conversion_cases-good : (x : ℕ) (kind : ValueKind) (a : Atom) (pc : ℕ) (s : Scene) → IsScene s → IsPlain s
    → AreGood s (conversion_cases x kind a pc s)
conversion_cases-good x kind a pc s k fresh =
    either_good s (does_not_fit kind (constant_of a)) []
    (leads pc (with_var x (holding_of s a) (form_of s a) s) ∷ []) (none_good s) (copy_good x a pc s k fresh)

-- ---- comparisons

said : (j x : ℕ) (b : Bool) (s t : Scene) → IsAfter j s t → IsAfter j s (says x b t)
said j x b s t k =
    after-var j x (Known (truth_number b)) (constant t.width (truth_number b)) s t k tt
    (constant-width t.width (truth_number b))

order_good : (j : ℕ) (f : Form) (o : Ordering) (pc : ℕ) (s t : Scene) → IsAfter j s t → j ≤ 2 ^ 20
    → IsEquation s.width f → IsGoodCase s (order_case f o pc t)
order_good j f Less pc s t k le e = plain j s t None (leads_to pc) k le
order_good j f Equal pc s t k le e = where_zero j s t f pc k le e
order_good j f Greater pc s t k le e = plain j s t None (leads_to pc) k le

number_comparison-good : (x : ℕ) (c : Cmp) (a b : Atom) (pc : ℕ) (s : Scene) (os : List Ordering) → IsScene s
    → IsPlain s → AreGood s (map (λ o. order_case (minus (form_of s a) (form_of s b)) o pc (says x (is_so c o) s)) os)
number_comparison-good x c a b pc s os k fresh =
    let w : HasWidth s.width (minus (form_of s a) (form_of s b)) =
    plus_width s.width (form_of s a) (times (negsuc 0) (form_of s b)) (form_of-width s a k)
    (times_width s.width (negsuc 0) (form_of s b) (form_of-width s b k)) in
    let e = parts-equation s.width (lead a +ℤ (negsuc 0 *ℤ lead b)) 2 (minus (form_of s a) (form_of s b)) w
    (difference-parts s a b k fresh) (lit≤ tt) in
    each_good s (λ o. order_case (minus (form_of s a) (form_of s b)) o pc (says x (is_so c o) s)) os
    (λ o. order_good 1 (minus (form_of s a) (form_of s b)) o pc s (says x (is_so c o) s)
    (said 1 x (is_so c o) s s (after-none s k fresh)) (lit≤ tt) e)

same_good : (j x : ℕ) (c : Cmp) (same : Bool) (pc : ℕ) (s t : Scene) → IsAfter j s t → j ≤ 2 ^ 20
    → IsGoodCase s (says_same x c same pc t)
same_good j x c same pc s t k le =
    plain j s (says x (is_same_so c same) t) None (leads_to pc) (said j x (is_same_so c same) s t k) le

one_same : (x : ℕ) (c : Cmp) (same : Bool) (pc : ℕ) (s : Scene) → IsScene s → IsPlain s
    → AreGood s (says_same x c same pc s ∷ [])
one_same x c same pc s k fresh =
    one_good s (says_same x c same pc s) (same_good 1 x c same pc s s (after-none s k fresh) (lit≤ tt))

token_comparison-good : (x : ℕ) (c : Cmp) (t u pc : ℕ) (s : Scene) → IsScene s → IsPlain s → t < length s.shape.made
    → AreGood s (token_comparison x c t u pc s)
token_comparison-good x c t u pc s k fresh ht =
    let same = says_same x c true pc (merge t u s) in
    let other = says_same x c false pc s in
    either_good s (t == u) (says_same x c true pc s ∷ [])
    (if are_apart s.shape t u then other ∷ [] else same ∷ other ∷ []) (one_same x c true pc s k fresh)
    (either_good s (are_apart s.shape t u) (other ∷ []) (same ∷ other ∷ []) (one_same x c false pc s k fresh)
    (two_good s same other
    (same_good 2 x c true pc s (merge t u s) (after-merge 1 t u s s (after-none s k fresh) ht) (lit≤ tt))
    (same_good 1 x c false pc s s (after-none s k fresh) (lit≤ tt))))

token_pointer : (x : ℕ) (c : Cmp) (t : ℕ) (h : Holding) (pc : ℕ) (s : Scene) → IsScene s → IsPlain s
    → t < length s.shape.made → AreGood s (pointer_comparison x c (Token t) h pc s)
token_pointer x c t (Token u) pc s k fresh ht = token_comparison-good x c t u pc s k fresh ht
token_pointer x c t Dead pc s k fresh ht = one_same x c false pc s k fresh
token_pointer x c t Unset pc s k fresh ht = one_same x c false pc s k fresh
token_pointer x c t Null pc s k fresh ht = one_same x c false pc s k fresh
token_pointer x c t Text pc s k fresh ht = one_same x c false pc s k fresh
token_pointer x c t (Known m) pc s k fresh ht = one_same x c false pc s k fresh
token_pointer x c t Number pc s k fresh ht = one_same x c false pc s k fresh

null_pointer : (x : ℕ) (c : Cmp) (h : Holding) (pc : ℕ) (s : Scene) → IsScene s → IsPlain s
    → AreGood s (pointer_comparison x c Null h pc s)
null_pointer x c Null pc s k fresh = one_same x c true pc s k fresh
null_pointer x c Dead pc s k fresh = one_same x c false pc s k fresh
null_pointer x c Unset pc s k fresh = one_same x c false pc s k fresh
null_pointer x c Text pc s k fresh = one_same x c false pc s k fresh
null_pointer x c (Known m) pc s k fresh = one_same x c false pc s k fresh
null_pointer x c Number pc s k fresh = one_same x c false pc s k fresh
null_pointer x c (Token u) pc s k fresh = one_same x c false pc s k fresh

text_pointer : (x : ℕ) (c : Cmp) (h : Holding) (pc : ℕ) (s : Scene) → IsScene s → IsPlain s
    → AreGood s (pointer_comparison x c Text h pc s)
text_pointer x c Text pc s k fresh = one_same x c true pc s k fresh
text_pointer x c Dead pc s k fresh = one_same x c false pc s k fresh
text_pointer x c Unset pc s k fresh = one_same x c false pc s k fresh
text_pointer x c Null pc s k fresh = one_same x c false pc s k fresh
text_pointer x c (Known m) pc s k fresh = one_same x c false pc s k fresh
text_pointer x c Number pc s k fresh = one_same x c false pc s k fresh
text_pointer x c (Token u) pc s k fresh = one_same x c false pc s k fresh

pointer_comparison-good : (x : ℕ) (c : Cmp) (h l : Holding) (pc : ℕ) (s : Scene) → IsScene s → IsPlain s
    → IsHeld s h → AreGood s (pointer_comparison x c h l pc s)
pointer_comparison-good x c (Token t) l pc s k fresh held = token_pointer x c t l pc s k fresh held
pointer_comparison-good x c Null l pc s k fresh held = null_pointer x c l pc s k fresh
pointer_comparison-good x c Text l pc s k fresh held = text_pointer x c l pc s k fresh
pointer_comparison-good x c Dead l pc s k fresh held = one_same x c false pc s k fresh
pointer_comparison-good x c Unset l pc s k fresh held = one_same x c false pc s k fresh
pointer_comparison-good x c (Known m) l pc s k fresh held = one_same x c false pc s k fresh
pointer_comparison-good x c Number l pc s k fresh held = one_same x c false pc s k fresh

pub comparison_cases-good : (x : ℕ) (c : Cmp) (a b : Atom) (pc : ℕ) (s : Scene) → IsScene s → IsPlain s
    → AreGood s (comparison_cases x c a b pc s)
comparison_cases-good x c a b pc s k fresh =
    either_good s (is_number (holding_of s a) && is_number (holding_of s b)) (number_comparison x c a b pc s)
    (pointer_comparison x c (holding_of s a) (holding_of s b) pc s)
    (number_comparison-good x c a b pc s (orders (value_by s a) (value_by s b)) k fresh)
    (pointer_comparison-good x c (holding_of s a) (holding_of s b) pc s k fresh (holding_of-held s a k))

-- ---- conditions

number_branches-good : (f : Form) (this other : ℕ) (s : Scene) (os : List Ordering) → IsScene s → IsPlain s
    → IsEquation s.width f → AreGood s (map (order_branch f this other s) os)
number_branches-good f this other s os k fresh e =
    each_good s (order_branch f this other s) os
    (λ o. order_good 1 f o (branch (is_true (value.Int (order_number o))) this other) s s (after-none s k fresh)
    (lit≤ tt) e)

pub same_scene : (pc : ℕ) (s : Scene) → IsScene s → IsPlain s → AreGood s (leads pc s ∷ [])
same_scene pc s k fresh =
    one_good s (leads pc s) (plain 1 s s None (leads_to pc) (after-none s k fresh) (lit≤ tt))

branch_on-good : (h : Holding) (f : Form) (n : Option ℤ) (this other : ℕ) (s : Scene) → IsScene s → IsPlain s
    → IsEquation s.width f → AreGood s (branch_on h f n this other s)
branch_on-good Null f n this other s k fresh e = same_scene other s k fresh
branch_on-good Text f n this other s k fresh e = same_scene this s k fresh
branch_on-good (Token t) f n this other s k fresh e = same_scene this s k fresh
branch_on-good Dead f n this other s k fresh e =
    number_branches-good f this other s (orders n (Some (pos 0))) k fresh e
branch_on-good Unset f n this other s k fresh e =
    number_branches-good f this other s (orders n (Some (pos 0))) k fresh e
branch_on-good (Known m) f n this other s k fresh e =
    number_branches-good f this other s (orders n (Some (pos 0))) k fresh e
branch_on-good Number f n this other s k fresh e =
    number_branches-good f this other s (orders n (Some (pos 0))) k fresh e

pub branch_cases-good : (a : Atom) (this other : ℕ) (s : Scene) → IsScene s → IsPlain s
    → AreGood s (branch_cases a this other s)
branch_cases-good a this other s k fresh =
    branch_on-good (holding_of s a) (form_of s a) (value_by s a) this other s k fresh
    (parts-equation s.width (lead a) 1 (form_of s a) (form_of-width s a k) (form_of-parts s a fresh) (lit≤ tt))
