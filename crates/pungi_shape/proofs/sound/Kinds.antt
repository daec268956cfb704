-- What kinds say of values: an atom of a kind has a value that suits it, and what suits a variable may be put there.
use Rattle.std.proofs.Common.{◌≡◌, ℕ, ◌<◌, Bool, true, ◌&&◌, ◌||◌, List, [], length, map, get_or, refl, sym, ap, ◌∙◌}
use Rattle.std.proofs.Common.{subst, arith, inl, inr, ℤ, Option}
use Rattle.std.specs.Prelude.{nat_lt, slice_set}
use Rattle.std.specs.List.{All, IsAmong}
use Rattle.std.proofs.lemmas.Bool.{lt-ltb, cases_eq, false≢true}
use Rattle.std.proofs.lemmas.List.{length-map, length-set, get_or-map, get_or-set_same, get_or-set_other}
use Rattle.std.proofs.lemmas.List.Elements.{All-head}
use Rattle.pungi_base.specs.declared.value.Value.{Value}
use Rattle.pungi_base.specs.declared.value.Value.TheVariants as value
use Rattle.pungi_api.specs.declared.param.Param.{Param}
use Rattle.pungi_api.specs.declared.param.Param.TheVariants as param
use Rattle.pungi_domain.specs.Vectors.{Vector}
use Rattle.pungi_world.specs.declared.content.Content.{Content}
use Rattle.pungi_world.specs.declared.content.Content.TheVariants.{Unset, Holds}
use Rattle.pungi_meaning.specs.Work.{content_at}
use Rattle.pungi_code.specs.declared.atom.Atom.{Atom}
use Rattle.pungi_code.specs.declared.atom.Atom.TheVariants as atom
use Rattle.pungi_code.specs.declared.code.Code.{Code}
use Rattle.pungi_code.specs.Registers.{content_of}
use Rattle.pungi_code.specs.WellFormed.{var_kind, is_integer, is_object, is_text, is_wide, number_fits, is_constant}
use Rattle.pungi_code.specs.WellFormed.{atom_is}
use Rattle.pungi_shape.specs.declared.holding.Holding.{Holding}
use Rattle.pungi_shape.specs.declared.holding.Holding.TheVariants as held
use Rattle.pungi_shape.specs.Named.{static_in}
use Rattle.pungi_shape.specs.Shapes.{holding_of_static}
use Rattle.pungi_shape.specs.Scenes.{Scene}
use Rattle.pungi_shape.specs.Described.{Naming, HoldsSo}
use Rattle.pungi_shape.proofs.sound.Views.{View, suits, Suits, IsTyped}
use Rattle.pungi_shape.proofs.sound.Shows.{IsScene, Shows, IsLiveIn, IsTokenHeld, key_of}
use Rattle.pungi_shape.proofs.sound.SceneWords.{with_contents}
use Rattle.pungi_shape.proofs.sound.Tests.{both_true}

either_true : (a b c d : Bool) → a ≡ c → b ≡ d → (a || b) ≡ true → (c || d) ≡ true
either_true a b c d e f h = subst (λ x. (x || d) ≡ true) e (subst (λ y. (a || y) ≡ true) f h)

-- ---- wider kinds

never_object : (b : Param) → is_wide param.Object b ≡ true → ⊥
never_object param.Int e = absurd (false≢true e)
never_object b e = absurd (false≢true e)

never_text : (b : Param) → is_wide param.Text b ≡ true → ⊥
never_text param.Int e = absurd (false≢true e)
never_text b e = absurd (false≢true e)

never_module : (b : Param) → is_wide param.ModuleDef b ≡ true → ⊥
never_module param.Int e = absurd (false≢true e)
never_module b e = absurd (false≢true e)

wide_kinds : (a b : Param) → is_wide a b ≡ true
    → (is_integer a ≡ is_integer b) × (is_object a ≡ is_object b) × (is_text a ≡ is_text b)
wide_kinds param.Int param.Int e = (refl, refl, refl)
wide_kinds param.Int param.Long e = (refl, refl, refl)
wide_kinds param.Int param.Size e = (refl, refl, refl)
wide_kinds param.Long param.Long e = (refl, refl, refl)
wide_kinds param.Long param.Size e = (refl, refl, refl)
wide_kinds param.Size param.Long e = (refl, refl, refl)
wide_kinds param.Size param.Size e = (refl, refl, refl)
wide_kinds param.ObjectOrNull param.ObjectOrNull e = (refl, refl, refl)
wide_kinds param.TextOrNull param.TextOrNull e = (refl, refl, refl)
wide_kinds param.Object b e = absurd (never_object b e)
wide_kinds param.Text b e = absurd (never_text b e)
wide_kinds param.ModuleDef b e = absurd (never_module b e)
wide_kinds a b e = absurd (false≢true e)

pub wide_suits : (n : ℕ) (a b : Param) (x : Value) → is_wide a b ≡ true → suits n a x ≡ true → suits n b x ≡ true
wide_suits n a b (value.Int i) w h = sym (wide_kinds a b w).0 ∙ h
wide_suits n a b value.Null w h =
    either_true (is_object a) (is_text a) (is_object b) (is_text b) (wide_kinds a b w).1 (wide_kinds a b w).2 h
wide_suits n a b value.Text w h = sym (wide_kinds a b w).2 ∙ h
wide_suits n a b (value.Object o) w h = subst (λ t. (t && nat_lt o n) ≡ true) (wide_kinds a b w).1 h

pub wide_fits : (n : ℕ) (a b : Param) (c : Content) → is_wide a b ≡ true → Suits n a c → Suits n b c
wide_fits n a b Unset w h = tt
wide_fits n a b (Holds x) w h = wide_suits n a b x w h

number_kind : (k : Param) (i : ℤ) → number_fits k i ≡ true → is_integer k ≡ true
number_kind param.Int i e = refl
number_kind param.Long i e = refl
number_kind param.Size i e = refl
number_kind k i e = absurd (cc)

-- ---- static objects are there

token_there : (names : Naming) (h : Holding) (k n : ℕ) (t : ℕ) → h ≡ held.Token t
    → HoldsSo names h (Holds (value.Object k)) → names t < n → k < n
token_there names h k n t e holds lt =
    let same = subst (λ g. HoldsSo names g (Holds (value.Object k))) e holds in
    let is : k ≡ names t = cc in
    subst (λ m. m < n) (sym is) lt

pub static_there : (ks : List ℕ) (n : ℕ) (names : Naming) (v : Vector) (free : Option ℕ) (s : Scene) (o : View)
    → IsScene ks n s → Shows names v free s o → (k : ℕ) → IsAmong ks k → k < length o.world.accounts
static_there ks n names v free s o is shows k there =
    let es = s.shape.statics in
    let i = there.0 in
    let d : ℕ × Holding = (0, held.Unset) in
    let e = get_or es i d in
    let lt : i < length es =
    omega (arith, there.1.0, ap length is.static_keys, length-map es key_of) in
    let at : i < length (map holding_of_static es) = omega (arith, lt, length-map es holding_of_static) in
    let same : get_or (map holding_of_static es) i held.Unset ≡ e.1 = get_or-map holding_of_static es i d held.Unset lt
    in
    let token = subst IsTokenHeld same (is.static_tokens i held.Unset at) in
    let live = subst (IsLiveIn s.balances) (same ∙ token.1) (is.statics_live i held.Unset at) in
    let key : get_or ks i k ≡ e.0 =
    ap (λ z. get_or z i k) (sym is.static_keys) ∙ get_or-map key_of es i d k lt in
    let named = subst (λ z. HoldsSo names e.1 (Holds (value.Object z))) (sym (there.1.1 ∙ key)) (shows.statics i d lt)
    in
    token_there names e.1 k (length o.world.accounts) token.0 token.1 named (shows.objects token.0 live)

-- ---- atoms and variables

holds_one : (x y : Value) → Holds x ≡ Holds y → y ≡ x
holds_one x y e = cc

at_content : (n : ℕ) (k : Param) (c : Content) (x : Value) → c ≡ Holds x → Suits n k c → suits n k x ≡ true
at_content n k c x e h = subst (Suits n k) e h

-- each variable holds what its kind allows
abbrev pub AreSuited : Code → View → Type 0
AreSuited code o =
    (x : ℕ) → Suits (length o.world.accounts) (get_or code.vars x param.ModuleDef) (content_at o.vars x)

pub atom_suits : (code : Code) (ks : List ℕ) (n : ℕ) (names : Naming) (v : Vector) (free : Option ℕ) (s : Scene)
    (o : View) → AreSuited code o → IsScene ks n s → Shows names v free s o → (a : Atom) (k : Param) (x : Value)
    → All (IsAmong ks) (static_in a) → atom_is code.vars k a ≡ true → content_of a o.vars ≡ Holds x
    → suits (length o.world.accounts) k x ≡ true
atom_suits code ks n names v free s o suited is shows (atom.Var y) k x named fit e =
    let m = length o.world.accounts in
    let kind = var_kind code.vars y in
    wide_suits m kind k x (both_true (nat_lt y.0 (length code.vars)) (is_wide kind k) fit).1
    (at_content m kind (content_at o.vars y.0) x e (suited y.0))
atom_suits code ks n names v free s o suited is shows (atom.Int i) k x named fit e =
    subst (λ z. suits (length o.world.accounts) k z ≡ true) (sym (holds_one (value.Int i) x e))
    (number_kind k i (both_true (number_fits k i) (is_constant i) fit).0)
atom_suits code ks n names v free s o suited is shows atom.Null k x named fit e =
    subst (λ z. suits (length o.world.accounts) k z ≡ true) (sym (holds_one value.Null x e)) fit
atom_suits code ks n names v free s o suited is shows atom.Text k x named fit e =
    subst (λ z. suits (length o.world.accounts) k z ≡ true) (sym (holds_one value.Text x e)) fit
atom_suits code ks n names v free s o suited is shows (atom.Static j) k x named fit e =
    let m = length o.world.accounts in
    let lt = static_there ks n names v free s o is shows j (All-head (IsAmong ks) j [] named) in
    subst (λ z. suits m k z ≡ true) (sym (holds_one (value.Object j) x e))
    (ap (λ b. b && nat_lt j m) fit ∙ lt-ltb j m lt)

pub put_typed : (file : Code → Type 0) (code : Code) (o : View) (x : ℕ) (c : Content) → IsTyped file code o
    → x < length code.vars
    → Suits (length o.world.accounts) (get_or code.vars x param.ModuleDef) c
    → IsTyped file code (with_contents (slice_set o.vars x c) o)
put_typed file code o x c typed lt fit = record {
  count = length-set o.vars x c ∙ typed.count;
  vars = λ y. let n = length o.world.accounts in elim (cases_eq y x) [
    | inl e ↦ subst (λ z. Suits n (get_or code.vars z param.ModuleDef) (get_or (slice_set o.vars x c) z Unset)) (sym e)
        (subst (Suits n (get_or code.vars x param.ModuleDef))
        (sym (get_or-set_same o.vars x c Unset (let k = typed.count in omega (arith, lt, k)))) fit)
    | inr ne ↦ subst (Suits n (get_or code.vars y param.ModuleDef)) (sym (get_or-set_other o.vars x y c Unset ne))
        (typed.vars y)
  ];
  slots = typed.slots;
  there = typed.there;
  grown = typed.grown;
}
