-- Atoms, and a variable that holds something else.
use Rattle.std.proofs.Common.{◌≡◌, ◌≢◌, ℕ, zero, suc, ◌<◌, ℤ, pos, negsuc, List, [], ◌∷◌}
use Rattle.std.proofs.Common.{length, map, get_or, Bool, true, false, refl, sym, ap, ◌∙◌, subst, arith, inl, inr, cond}
use Rattle.std.specs.Prelude.{slice_set, ◌==◌, Option, Some, None}
use Rattle.std.specs.List.{All, IsAmong}
use Rattle.std.specs.Map.{lookup}
use Rattle.std.proofs.lemmas.Bool.{cases_eq}
use Rattle.std.proofs.lemmas.Bool.Decides.{eqb_tells}
use Rattle.std.proofs.lemmas.List.{get_or-set_same, get_or-set_other, length-set}
use Rattle.std.proofs.lemmas.List.Elements.{All-set, All-head, All-tail}
use Rattle.pungi_base.specs.declared.value.Value.TheVariants as value
use Rattle.pungi_domain.specs.Vectors.{Vector, dot}
use Rattle.pungi_world.specs.declared.content.Content.{Content}
use Rattle.pungi_world.specs.declared.content.Content.TheVariants as content
use Rattle.pungi_world.specs.Choices.{is_between}
use Rattle.pungi_code.specs.declared.atom.Atom.{Atom}
use Rattle.pungi_code.specs.declared.atom.Atom.TheVariants as atom
use Rattle.pungi_code.specs.Registers.{content_of}
use Rattle.pungi_shape.specs.declared.holding.Holding.{Holding}
use Rattle.pungi_shape.specs.declared.holding.Holding.TheVariants.{Dead, Unset, Known, Number, Token}
use Rattle.pungi_shape.specs.Forms.{Form, zero_form}
use Rattle.pungi_shape.specs.Named.{static_in}
use Rattle.pungi_shape.specs.Shapes.{is_number, holding_of_number, holding_of_static}
use Rattle.pungi_shape.specs.Scenes.{Scene, holding_at, holding_of, form_of, or_unset, with_var}
use Rattle.pungi_shape.specs.Described.{Naming, HoldsSo}
use Rattle.pungi_shape.proofs.sound.Views.{View}
use Rattle.pungi_shape.proofs.sound.Shows.{IsScene, Shows, HasWidth, IsLiveIn, IsTokenHeld, IsOther, key_of}
use Rattle.pungi_shape.proofs.sound.FormValues.{length_zero, length_constant, dot_constant}
use Rattle.pungi_shape.proofs.sound.SceneWords.{with_contents}
use Rattle.pungi_shape.proofs.sound.Tests.{none_some}

-- ---- atoms

known_number_holds : (b : Bool) (names : Naming) (n : ℤ)
    → HoldsSo names (cond b (Known n) Number) (content.Holds (value.Int n))
known_number_holds true names n = refl
known_number_holds false names n = (n, refl)

pub number_holds : (names : Naming) (n : ℤ) → HoldsSo names (holding_of_number n) (content.Holds (value.Int n))
number_holds names n = known_number_holds (is_between (negsuc 0) (pos 1) n) names n

known_live : (b : Bool) (bs : List (Option Form)) (n : ℤ) → IsLiveIn bs (cond b (Known n) Number)
known_live true bs n = tt
known_live false bs n = tt

-- a static object that the scene names
abbrev pub NamesStatic : Naming → ℕ × Holding → Type 0
NamesStatic names k = HoldsSo names k.1 (content.Holds (value.Object k.0))

no_member : (k : ℕ) → IsAmong [] k → ⊥
no_member k h = omega (arith, h.1.0)

among_tail : (x k : ℕ) (ks : List ℕ) → x ≢ k → IsAmong (x ∷ ks) k → IsAmong ks k
among_tail x k ks ne h = at h.0 h.1.0 h.1.1
  where
    at : (i : ℕ) → i < length (x ∷ ks) → k ≡ get_or (x ∷ ks) i k → IsAmong ks k
    at zero lt e = absurd (ne (sym e))
    at (suc i) lt e = (i, (omega (arith, lt), e))

static_found : (names : Naming) (k : ℕ) (es : List (ℕ × Holding)) → All (NamesStatic names) es
    → IsAmong (map key_of es) k
    → HoldsSo names (or_unset (lookup (λ j. j == k) es)) (content.Holds (value.Object k))
static_found names k [] all h = absurd (no_member k h)
static_found names k (e ∷ es) all h = elim (eqb_tells e.0 k) [
  | inl t ↦ subst (λ b. HoldsSo names (or_unset (cond b (Some e.1) (lookup (λ j. j == k) es)))
      (content.Holds (value.Object k)))
      (sym t.0) (subst (λ z. HoldsSo names e.1 (content.Holds (value.Object z))) t.1
      (All-head (NamesStatic names) e es all))
  | inr t ↦ subst (λ b. HoldsSo names (or_unset (cond b (Some e.1) (lookup (λ j. j == k) es)))
      (content.Holds (value.Object k)))
      (sym t.0) (static_found names k es (All-tail (NamesStatic names) e es all)
      (among_tail e.0 k (map key_of es) t.1 h))
]

pub atom_holds : (ks : List ℕ) (n : ℕ) (names : Naming) (v : Vector) (s : Scene) (o : View) (a : Atom) → IsScene ks n s
    → Shows names v None s o → All (IsAmong ks) (static_in a) → HoldsSo names (holding_of s a) (content_of a o.vars)
atom_holds ks n names v s o (atom.Var x) is shows named = shows.vars x.0
atom_holds ks n names v s o (atom.Int i) is shows named = number_holds names i
atom_holds ks n names v s o atom.Null is shows named = refl
atom_holds ks n names v s o atom.Text is shows named = refl
atom_holds ks n names v s o (atom.Static k) is shows named =
    static_found names k s.shape.statics shows.statics
    (subst (λ z. IsAmong z k) (sym is.static_keys) (All-head (IsAmong ks) k [] named))

token_no_number : (t : ℕ) → is_number (Token t) ≡ true → ⊥
token_no_number t e = absurd (grind (arith, e))

static_no_number : (k : ℕ) (es : List (ℕ × Holding)) → All IsTokenHeld (map holding_of_static es)
    → is_number (or_unset (lookup (λ j. j == k) es)) ≡ true → ⊥
static_no_number k [] all e = absurd (grind (arith, e))
static_no_number k (x ∷ es) all e =
    at (x.0 == k) (static_no_number k es (All-tail IsTokenHeld x.1 (map holding_of_static es) all)) e
  where
    held : IsTokenHeld x.1
    held = All-head IsTokenHeld x.1 (map holding_of_static es) all

    at : (b : Bool) → (is_number (or_unset (lookup (λ j. j == k) es)) ≡ true → ⊥)
        → is_number (or_unset (cond b (Some x.1) (lookup (λ j. j == k) es))) ≡ true → ⊥
    at true rest h = token_no_number held.0 (subst (λ z. is_number z ≡ true) held.1 h)
    at false rest h = rest h

pub atom_number : (ks : List ℕ) (n : ℕ) (names : Naming) (v : Vector) (s : Scene) (o : View) (a : Atom)
    → IsScene ks n s → Shows names v None s o → is_number (holding_of s a) ≡ true
    → content_of a o.vars ≡ content.Holds (value.Int (dot (form_of s a) v))
atom_number ks n names v s o (atom.Var x) is shows e = shows.numbers x.0 e (none_some x.0)
atom_number ks n names v s o (atom.Int i) is shows e =
    ap (λ z. content.Holds (value.Int z)) (sym (dot_constant s.width i v is.wide shows.leading))
atom_number ks n names v s o atom.Null is shows e = absurd (grind (arith, e))
atom_number ks n names v s o atom.Text is shows e = absurd (grind (arith, e))
atom_number ks n names v s o (atom.Static k) is shows e =
    absurd (static_no_number k s.shape.statics is.static_tokens e)

pub get_width : (w : ℕ) (fs : List Form) (i : ℕ) → All (HasWidth w) fs → length (get_or fs i (zero_form w)) ≡ w
get_width w [] i all = length_zero w
get_width w (f ∷ fs) zero all = All-head (HasWidth w) f fs all
get_width w (f ∷ fs) (suc i) all = get_width w fs i (All-tail (HasWidth w) f fs all)

pub atom_width : (ks : List ℕ) (n : ℕ) (s : Scene) (a : Atom) → IsScene ks n s → length (form_of s a) ≡ s.width
atom_width ks n s (atom.Var x) is = get_width s.width s.vars x.0 is.widths
atom_width ks n s (atom.Int i) is = length_constant s.width i
atom_width ks n s atom.Null is = length_zero s.width
atom_width ks n s atom.Text is = length_zero s.width
atom_width ks n s (atom.Static k) is = length_zero s.width

pub get_live : (bs : List (Option Form)) (hs : List Holding) (i : ℕ) → All (IsLiveIn bs) hs
    → IsLiveIn bs (get_or hs i Unset)
get_live bs [] i all = tt
get_live bs (h ∷ hs) zero all = All-head (IsLiveIn bs) h hs all
get_live bs (h ∷ hs) (suc i) all = get_live bs hs i (All-tail (IsLiveIn bs) h hs all)

static_live : (bs : List (Option Form)) (k : ℕ) (es : List (ℕ × Holding)) → All (IsLiveIn bs) (map holding_of_static es)
    → IsLiveIn bs (or_unset (lookup (λ j. j == k) es))
static_live bs k [] all = tt
static_live bs k (x ∷ es) all =
    at (x.0 == k) (static_live bs k es (All-tail (IsLiveIn bs) x.1 (map holding_of_static es) all))
  where
    at : (b : Bool) → IsLiveIn bs (or_unset (lookup (λ j. j == k) es))
        → IsLiveIn bs (or_unset (cond b (Some x.1) (lookup (λ j. j == k) es)))
    at true rest = All-head (IsLiveIn bs) x.1 (map holding_of_static es) all
    at false rest = rest

pub atom_live : (ks : List ℕ) (n : ℕ) (s : Scene) (a : Atom) → IsScene ks n s → IsLiveIn s.balances (holding_of s a)
atom_live ks n s (atom.Var x) is = get_live s.balances s.shape.vars x.0 is.vars_live
atom_live ks n s (atom.Int i) is = known_live (is_between (negsuc 0) (pos 1) i) s.balances i
atom_live ks n s atom.Null is = tt
atom_live ks n s atom.Text is = tt
atom_live ks n s (atom.Static k) is = static_live s.balances k s.shape.statics is.statics_live

-- ---- a variable holds something else

pub with_var_scene : (ks : List ℕ) (n x : ℕ) (h : Holding) (f : Form) (s : Scene) → IsScene ks n s
    → length f ≡ s.width → IsLiveIn s.balances h → IsScene ks n (with_var x h f s)
with_var_scene ks n x h f s is wide live = record {
  wide = is.wide;
  vars = length-set s.shape.vars x h ∙ is.vars;
  forms = length-set s.vars x f ∙ is.forms ∙ sym (length-set s.shape.vars x h);
  widths = All-set (HasWidth s.width) s.vars x f wide is.widths;
  returned_width = is.returned_width;
  entry_forms = is.entry_forms;
  entry_widths = is.entry_widths;
  balances = is.balances;
  balance_widths = is.balance_widths;
  entry_live = is.entry_live;
  vars_live = All-set (IsLiveIn s.balances) s.shape.vars x h live is.vars_live;
  statics_live = is.statics_live;
  returned_live = is.returned_live;
  slots_live = is.slots_live;
  bases = is.bases;
  no_numbers = is.no_numbers;
  static_keys = is.static_keys;
  static_tokens = is.static_tokens;
}

-- three lists side by side, with one place replaced in each
pub set_three : {A B C : Type 0} (R : ℕ → A → B → C → Type 0) (as' : List A) (bs : List B) (cs : List C) (d : A) (e : B)
    (f : C) (x : ℕ) (a : A) (b : B) (c : C) → x < length as' → x < length bs → x < length cs → R x a b c
    → ((y : ℕ) → y ≢ x → R y (get_or as' y d) (get_or bs y e) (get_or cs y f))
    → (y : ℕ) → R y (get_or (slice_set as' x a) y d) (get_or (slice_set bs x b) y e) (get_or (slice_set cs x c) y f)
set_three R as' bs cs d e f x a b c in_as in_bs in_cs new old y = elim (cases_eq y x) [
  | inl t ↦ subst (λ z. R z (get_or (slice_set as' x a) z d) (get_or (slice_set bs x b) z e)
      (get_or (slice_set cs x c) z f))
      (sym t)
      (subst (λ z. R x z (get_or (slice_set bs x b) x e) (get_or (slice_set cs x c) x f))
      (sym (get_or-set_same as' x a d in_as))
      (subst (λ z. R x a z (get_or (slice_set cs x c) x f)) (sym (get_or-set_same bs x b e in_bs))
      (subst (λ z. R x a b z) (sym (get_or-set_same cs x c f in_cs)) new)))
  | inr ne ↦ subst (λ z. R y z (get_or (slice_set bs x b) y e) (get_or (slice_set cs x c) y f))
      (sym (get_or-set_other as' x y a d ne))
      (subst (λ z. R y (get_or as' y d) z (get_or (slice_set cs x c) y f)) (sym (get_or-set_other bs x y b e ne))
      (subst (λ z. R y (get_or as' y d) (get_or bs y e) z) (sym (get_or-set_other cs x y c f ne)) (old y ne)))
]

abbrev BothShow : Naming → Vector → Option ℕ → ℕ → Holding → Content → Form → Type 0
BothShow names v free y h c f =
    HoldsSo names h c × (is_number h ≡ true → IsOther free y → c ≡ content.Holds (value.Int (dot f v)))

pub with_var_shows : (ks : List ℕ) (n : ℕ) (names : Naming) (v : Vector) (free : Option ℕ) (s : Scene) (o : View)
    (x : ℕ) (h : Holding) (f : Form) (c : Content) → IsScene ks n s → Shows names v None s o → length o.vars ≡ n → x < n
    → HoldsSo names h c → (is_number h ≡ true → IsOther free x → c ≡ content.Holds (value.Int (dot f v)))
    → Shows names v free (with_var x h f s) (with_contents (slice_set o.vars x c) o)
with_var_shows ks n names v free s o x h f c is shows count lt holds number =
    let all = set_three (BothShow names v free) s.shape.vars o.vars s.vars Unset content.Unset
    (zero_form s.width) x h c f
    (let e = is.vars in omega (arith, e, lt)) (omega (arith, count, lt))
    (let e = is.vars in let g = is.forms in omega (arith, e, g, lt)) (holds, number)
    (λ y ne. (shows.vars y, λ e other. shows.numbers y e (none_some y))) in
    record {
      leading = shows.leading;
      vars = λ y. (all y).0;
      numbers = λ y. (all y).1;
      returned = shows.returned;
      returned_number = shows.returned_number;
      statics = shows.statics;
      slots = shows.slots;
      apart = shows.apart;
      objects = shows.objects;
      entry = shows.entry;
      entry_alive = shows.entry_alive;
      entry_count = shows.entry_count;
      entry_numbers = shows.entry_numbers;
      balances = shows.balances;
      marks = shows.marks;
    }

pub with_var_dead : (s : Scene) (x : ℕ) (h : Holding) (f : Form) (y : ℕ) → h ≢ Dead → x < length s.shape.vars
    → holding_at (with_var x h f s) y ≡ Dead → (holding_at s y ≡ Dead) × (y ≢ x)
with_var_dead s x h f y live lt e = elim (cases_eq y x) [
  | inl t ↦ absurd (live (sym (get_or-set_same s.shape.vars x h Unset lt)
      ∙ ap (λ z. get_or (slice_set s.shape.vars x h) z Unset) (sym t) ∙ e))
  | inr ne ↦ (sym (get_or-set_other s.shape.vars x y h Unset ne) ∙ e, ne)
]
