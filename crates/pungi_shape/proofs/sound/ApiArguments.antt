-- The arguments of a call of the API: what is held, and what is taken over.
--   ArgumentsSo names hs xs    what these hold are these values, each set
--   ArgumentsLive bs hs     each token among them has a balance
--   Took                    a scene in which debts have changed, and nothing else
use Rattle.std.proofs.Common.{◌≡◌, ◌≢◌, ℕ, ◌<◌, ℤ, pos, negsuc, ◌+ℤ◌, Bool, true, false, cond, ◌||◌}
use Rattle.std.proofs.Common.{List, [], ◌∷◌, length, refl, sym, ap, ◌∙◌, subst, arith, Option, Some, None}
use Rattle.std.proofs.Common.{◌⊎◌, inl, inr}
use Rattle.std.specs.List.{All, IsAmong}
use Rattle.std.proofs.lemmas.Int.{ints}
use Rattle.pungi_base.specs.declared.value.Value.{Value}
use Rattle.pungi_base.specs.declared.value.Value.TheVariants as value
use Rattle.pungi_api.specs.declared.own_effect.OwnEffect.{OwnEffect}
use Rattle.pungi_api.specs.declared.own_effect.OwnEffect.TheVariants.{IncRef, DecRef}
use Rattle.pungi_api.specs.declared.param.Param.{Param}
use Rattle.pungi_api.specs.declared.param.Param.TheVariants as param
use Rattle.pungi_api.specs.declared.signature.Signature.{Signature}
use Rattle.pungi_api.specs.declared.take.Take.{Take}
use Rattle.pungi_domain.specs.Vectors.{Vector}
use Rattle.pungi_world.specs.Calls.{is_call_success, is_taken, first_of, lacks, stops}
use Rattle.pungi_world.specs.Escapes.{is_this_object}
use Rattle.pungi_world.specs.declared.content.Content.{Content}
use Rattle.pungi_world.specs.declared.content.Content.TheVariants as content
use Rattle.pungi_code.specs.declared.atom.Atom.{Atom}
use Rattle.pungi_code.specs.Registers.{content_of, both_values, all_values}
use Rattle.pungi_shape.specs.declared.holding.Holding.{Holding}
use Rattle.pungi_shape.specs.declared.holding.Holding.TheVariants.{Dead, Unset, Null, Text, Known, Number, Token}
use Rattle.pungi_shape.specs.declared.shape.Shape.{Shape}
use Rattle.pungi_shape.specs.Cases.{are_set}
use Rattle.pungi_shape.specs.Calls.{lacks as lacks_held, stops as stops_held, first_holding, take_over, does, Outcome}
use Rattle.pungi_shape.specs.Calls.{outcome_value}
use Rattle.pungi_shape.specs.Named.{static_in}
use Rattle.pungi_shape.specs.Parts.{vars_in, vars_in_all}
use Rattle.pungi_shape.specs.Scenes.{Scene, scene_of, holding_of, add_to_holding}
use Rattle.pungi_shape.specs.Shapes.{width_of}
use Rattle.pungi_shape.specs.Steps.{holdings_of}
use Rattle.pungi_shape.specs.Described.{Naming, HoldsSo}
use Rattle.pungi_shape.proofs.sound.Views.{View}
use Rattle.pungi_shape.proofs.sound.Shows.{IsScene, Shows, IsLiveIn}
use Rattle.pungi_shape.proofs.sound.SceneSteps.{with_debts, counted, counted_value, debts_show, add_scene, add_shows}
use Rattle.pungi_shape.proofs.sound.SceneSteps.{atom_holds, atom_live}
use Rattle.pungi_shape.proofs.sound.Atoms.{atom_set, token_of}
use Rattle.pungi_shape.proofs.sound.FirstTouches.{atom_same}
use Rattle.pungi_shape.proofs.sound.StoreRuns.{set_left, set_right}
use Rattle.pungi_shape.proofs.sound.Stores.{add_shape, add_width}
use Rattle.pungi_shape.proofs.sound.worlds.Debts.{part}
use Rattle.pungi_shape.proofs.sound.worlds.Values.{IsOf}
use Rattle.pungi_shape.proofs.sound.worlds.Calls.{AreOf, taken_by, done_by}
use Rattle.pungi_shape.proofs.sound.Members.{first_among, later_among}
use Rattle.pungi_shape.proofs.sound.Tests.{or_false}

-- ---- values of arguments

pub record HeldSo (names : Naming) (h : Holding) (x : Value) : Type 0 where
  pub set : h ≢ Dead
  pub so : HoldsSo names h (content.Holds x)

abbrev pub ArgumentsSo : Naming → List Holding → List Value → Type 0
ArgumentsSo names [] [] = Unit {0}
ArgumentsSo names [] (x ∷ xs) = ⊥
ArgumentsSo names (h ∷ hs) [] = ⊥
ArgumentsSo names (h ∷ hs) (x ∷ xs) = HeldSo names h x × ArgumentsSo names hs xs

-- the values of arguments, one after another
pub record Values (a : Atom) (as' : List Atom) (vars : List Content) (xs : List Value) : Type 0 where
  pub first : Value
  pub rest : List Value
  pub is_first : content_of a vars ≡ content.Holds first
  pub are_rest : all_values as' vars ≡ Some rest
  pub all : xs ≡ first ∷ rest

values_of : (a : Atom) (as' : List Atom) (vars : List Content) (xs : List Value) (c : Content) (o : Option (List Value))
    → content_of a vars ≡ c → all_values as' vars ≡ o → both_values c o ≡ Some xs → Values a as' vars xs
values_of a as' vars xs content.Unset o e f g = absurd cc
values_of a as' vars xs (content.Holds x) None e f g = absurd cc
values_of a as' vars xs (content.Holds x) (Some ys) e f g = record {
  first = x;
  rest = ys;
  is_first = e;
  are_rest = f;
  all = (let h : x ∷ ys ≡ xs = cc in sym h);
}

pub values_are : (a : Atom) (as' : List Atom) (vars : List Content) (xs : List Value)
    → all_values (a ∷ as') vars ≡ Some xs → Values a as' vars xs
values_are a as' vars xs e = values_of a as' vars xs (content_of a vars) (all_values as' vars) refl refl e

pub no_values : (vars : List Content) (xs : List Value) → all_values [] vars ≡ Some xs → xs ≡ []
no_values vars xs e = let h : [] ≡ xs = cc in sym h

module _ (ks : List ℕ) (n : ℕ) (names : Naming) (v : Vector) (s : Scene) (o : View) (is : IsScene ks n s)
    (shows : Shows names v None s o) where
  pub atom_so : (a : Atom) (x : Value) → All (IsAmong ks) (static_in a) → are_set s (vars_in a) ≡ true
      → content_of a o.vars ≡ content.Holds x → HeldSo names (holding_of s a) x
  atom_so a x named set e = record {
    set = atom_set ks n s a is set;
    so = subst (HoldsSo names (holding_of s a)) e (atom_holds ks n names v s o a is shows named);
  }

  pub arguments_so : (as' : List Atom) (xs : List Value) → ((a : Atom) → IsAmong as' a → All (IsAmong ks) (static_in a))
      → are_set s (vars_in_all as') ≡ true → all_values as' o.vars ≡ Some xs
      → ArgumentsSo names (holdings_of s as') xs
  arguments_so [] xs named set e = subst (ArgumentsSo names []) (sym (no_values o.vars xs e)) tt
  arguments_so (a ∷ as') xs named set e =
      let r = values_are a as' o.vars xs e in
      subst (ArgumentsSo names (holdings_of s (a ∷ as'))) (sym r.all) (
        atom_so a r.first (named a (first_among a as')) (set_left s (vars_in a) (vars_in_all as') set) r.is_first,
        arguments_so as' r.rest (λ b h. named b (later_among a as' b h))
            (set_right s (vars_in a) (vars_in_all as') set) r.are_rest,
      )

  -- their objects are there
  value_there : (h : Holding) (x : Value) → HeldSo names h x → IsLiveIn s.balances h → IsOf (length o.world.accounts) x
  value_there h value.Null so live = tt
  value_there h (value.Object k) so live =
      let t = token_of names h k so.set so.so in
      subst (λ z. z < length o.world.accounts) t.1.1 (shows.objects t.0 (subst (IsLiveIn s.balances) t.1.0 live))
  value_there h (value.Int i) so live = tt
  value_there h value.Text so live = tt

  pub arguments_there : (as' : List Atom) (xs : List Value) → ArgumentsSo names (holdings_of s as') xs
      → AreOf (length o.world.accounts) xs
  arguments_there [] [] so = tt
  arguments_there [] (x ∷ xs) so = absurd so
  arguments_there (a ∷ as') [] so = absurd so
  arguments_there (a ∷ as') (x ∷ xs) so =
      (value_there (holding_of s a) x so.0 (atom_live ks n s a is), arguments_there as' xs so.1)

-- ---- arguments that may not be NULL

null_lacks : (p : Param) → lacks_held p Null ≡ lacks p value.Null
null_lacks param.Object = refl
null_lacks param.ObjectOrNull = refl
null_lacks param.Text = refl
null_lacks param.TextOrNull = refl
null_lacks param.Int = refl
null_lacks param.Long = refl
null_lacks param.Size = refl
null_lacks param.ModuleDef = refl

other_lacks : (p : Param) (h : Holding) → (h ≡ Null → ⊥) → lacks_held p h ≡ false
other_lacks param.Object Null ne = absurd (ne refl)
other_lacks param.Text Null ne = absurd (ne refl)
other_lacks p h ne = refl

is_null_held : (h : Holding) → (h ≡ Null) ⊎ (h ≡ Null → ⊥)
is_null_held Dead = inr (λ e. cc)
is_null_held Unset = inr (λ e. cc)
is_null_held Null = inl refl
is_null_held Text = inr (λ e. cc)
is_null_held (Known n) = inr (λ e. cc)
is_null_held Number = inr (λ e. cc)
is_null_held (Token t) = inr (λ e. cc)

value_in : Content → Value
value_in (content.Holds x) = x
value_in content.Unset = value.Null

one_lacks : (names : Naming) (p : Param) (h : Holding) (x : Value) → HeldSo names h x → lacks p x ≡ false
    → lacks_held p h ≡ false
one_lacks names p h x so e = elim (is_null_held h) [
  | inl is ↦
      let same : content.Holds x ≡ content.Holds value.Null = subst (λ k. HoldsSo names k (content.Holds x)) is so.so in
      let null : x ≡ value.Null = cc in
      ap (lacks_held p) is ∙ null_lacks p ∙ ap (lacks p) (sym null) ∙ e
  | inr ne ↦ other_lacks p h ne
]

pub passes_held : (names : Naming) (ps : List Param) (hs : List Holding) (xs : List Value) → ArgumentsSo names hs xs
    → stops ps xs ≡ false → stops_held ps hs ≡ false
passes_held names [] hs xs so e = refl
passes_held names (p ∷ ps) [] xs so e = refl
passes_held names (p ∷ ps) (h ∷ hs) [] so e = absurd so
passes_held names (p ∷ ps) (h ∷ hs) (x ∷ xs) so e =
    let two = or_false (lacks p x) (stops ps xs) e in
    ap (λ b. b || stops_held ps hs) (one_lacks names p h x so.0 two.0) ∙ passes_held names ps hs xs so.1 two.1

-- ---- what is done besides the answer

counted_part : (names : Naming) (h : Holding) (x : Value) (z : ℤ) (k : ℕ) → HeldSo names h x
    → counted names h z k ≡ part (is_this_object x k) z
counted_part names h x z k so = counted_value names h x z k so.set so.so

plus_none : (d : ℤ) → d ≡ d +ℤ pos 0
plus_none d = omega (arith, ints)

plus_after : (d c r : ℤ) → (d +ℤ (c +ℤ r)) ≡ ((d +ℤ c) +ℤ r)
plus_after d c r = omega (arith, ints)

plus_zero : (d r : ℤ) → (d +ℤ (pos 0 +ℤ r)) ≡ (d +ℤ r)
plus_zero d r = omega (arith, ints)

module _ (ks : List ℕ) (n : ℕ) (names : Naming) (v : Vector) (s : Shape) (o : View) where
  pub record Took (t : Scene) (d : ℕ → ℤ) : Type 0 where
    pub shape : t.shape ≡ s
    pub width : t.width ≡ width_of s
    pub scene : IsScene ks n t
    pub shows : Shows names v None t (with_debts d o)

  took_so : (t : Scene) (d e : ℕ → ℤ) → Took t d → ((k : ℕ) → e k ≡ d k) → Took t e
  took_so t d e took same = record {
    shape = took.shape;
    width = took.width;
    scene = took.scene;
    shows = debts_show names v None t (with_debts d o) e took.shows same;
  }

  took_one : (t : Scene) (d : ℕ → ℤ) (a : Atom) (by : ℤ) → Took t d
      → Took (add_to_holding (holding_of (scene_of s) a) by t)
      (λ k. d k +ℤ counted names (holding_of (scene_of s) a) by k)
  took_one t d a by took =
      let h = holding_of (scene_of s) a in
      let live : IsLiveIn t.balances h = subst (IsLiveIn t.balances)
      (atom_same t (scene_of s) (ap (λ (x : Shape). x.vars) took.shape) (ap (λ (x : Shape). x.statics) took.shape) a)
      (atom_live ks n t a took.scene) in
      record {
        shape = add_shape h by t ∙ took.shape;
        width = add_width h by t ∙ took.width;
        scene = add_scene ks n t h by took.scene live;
        shows = add_shows ks n names v None t (with_debts d o) (λ k. d k +ℤ counted names h by k) h by took.scene
            took.shows live (λ k. refl);
      }

  took_by : (b success : Bool) (a : Atom) (x : Value) (ts : List Take) (as' : List Atom) (xs : List Value) (t : Scene)
      (d : ℕ → ℤ) → HeldSo names (holding_of (scene_of s) a) x → Took t d
      → ((u : Scene) (e : ℕ → ℤ) → Took u e
      → Took (take_over success ts (holdings_of (scene_of s) as') u) (λ k. e k +ℤ taken_by success ts xs k))
      → Took (take_over success ts (holdings_of (scene_of s) as')
      (cond b (add_to_holding (holding_of (scene_of s) a) (negsuc 0) t) t))
      (λ k. d k +ℤ (cond b (part (is_this_object x k) (negsuc 0)) (pos 0) +ℤ taken_by success ts xs k))
  took_by true success a x ts as' xs t d so took rest =
      let h = holding_of (scene_of s) a in
      let u = add_to_holding h (negsuc 0) t in
      let e = λ (k : ℕ). d k +ℤ counted names h (negsuc 0) k in
      took_so (take_over success ts (holdings_of (scene_of s) as') u) (λ k. e k +ℤ taken_by success ts xs k)
      (λ k. d k +ℤ (part (is_this_object x k) (negsuc 0) +ℤ taken_by success ts xs k))
      (rest u e (took_one t d a (negsuc 0) took))
      (λ k. ap (λ z. d k +ℤ (z +ℤ taken_by success ts xs k)) (sym (counted_part names h x (negsuc 0) k so))
      ∙ plus_after (d k) (counted names h (negsuc 0) k) (taken_by success ts xs k))
  took_by false success a x ts as' xs t d so took rest =
      took_so (take_over success ts (holdings_of (scene_of s) as') t) (λ k. d k +ℤ taken_by success ts xs k)
      (λ k. d k +ℤ (pos 0 +ℤ taken_by success ts xs k)) (rest t d took)
      (λ k. plus_zero (d k) (taken_by success ts xs k))

  pub took_over : (success : Bool) (ts : List Take) (as' : List Atom) (xs : List Value) (t : Scene) (d : ℕ → ℤ)
      → ArgumentsSo names (holdings_of (scene_of s) as') xs → Took t d
      → Took (take_over success ts (holdings_of (scene_of s) as') t) (λ k. d k +ℤ taken_by success ts xs k)
  took_over success [] as' xs t d so took = took_so t d (λ k. d k +ℤ pos 0) took (λ k. sym (plus_none (d k)))
  took_over success (x ∷ ts) [] [] t d so took = took_so t d (λ k. d k +ℤ pos 0) took (λ k. sym (plus_none (d k)))
  took_over success (x ∷ ts) [] (y ∷ xs) t d so took = absurd so
  took_over success (x ∷ ts) (a ∷ as') [] t d so took = absurd so
  took_over success (x ∷ ts) (a ∷ as') (y ∷ xs) t d so took =
      took_by (is_taken success x) success a y ts as' xs t d so.0 took
      (λ u e h. took_over success ts as' xs u e so.1 h)

  -- the first argument is counted
  pub counted_first : (by : ℤ) (as' : List Atom) (xs : List Value) (t : Scene) (d : ℕ → ℤ)
      → ArgumentsSo names (holdings_of (scene_of s) as') xs → Took t d
      → Took (add_to_holding (first_holding (holdings_of (scene_of s) as')) by t)
      (λ k. d k +ℤ part (is_this_object (first_of xs) k) by)
  counted_first by [] [] t d so took = took_so t d (λ k. d k +ℤ pos 0) took (λ k. sym (plus_none (d k)))
  counted_first by [] (x ∷ xs) t d so took = absurd so
  counted_first by (a ∷ as') [] t d so took = absurd so
  counted_first by (a ∷ as') (x ∷ xs) t d so took =
      let h = holding_of (scene_of s) a in
      took_so (add_to_holding h by t) (λ k. d k +ℤ counted names h by k)
      (λ k. d k +ℤ part (is_this_object x k) by) (took_one t d a by took)
      (λ k. ap (λ z. d k +ℤ z) (sym (counted_part names h x by k so.0)))

  pub done_all : (own : Option OwnEffect) (g : Signature) (as' : List Atom) (xs : List Value) (out : Outcome)
      (r : Option Value) (t : Scene) (d : ℕ → ℤ)
      → is_call_success g.answer r ≡ is_call_success g.answer (outcome_value out)
      → ArgumentsSo names (holdings_of (scene_of s) as') xs → Took t d
      → Took (does own g (holdings_of (scene_of s) as') out t) (λ k. d k +ℤ done_by own g xs r k)
  done_all None g as' xs out r t d success so took =
      subst (λ b. Took (take_over b g.takes (holdings_of (scene_of s) as') t)
      (λ k. d k +ℤ taken_by (is_call_success g.answer r) g.takes xs k)) success
      (took_over (is_call_success g.answer r) g.takes as' xs t d so took)
  done_all (Some IncRef) g as' xs out r t d success so took = counted_first (pos 1) as' xs t d so took
  done_all (Some DecRef) g as' xs out r t d success so took = counted_first (negsuc 0) as' xs t d so took
