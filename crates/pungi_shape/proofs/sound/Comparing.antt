-- Comparisons.
--   SaysSo                  some case of a comparison says whether it holds, under a scene that shows what is held
--   IsPointer names h u     a pointer is held so
--   PointersSay             some case of a comparison of pointers says whether they are one
--   Say                     so it is at a run's scene
--   IsPointerAt             an atom is read as this pointer
--   AreCompared             two atoms are numbers; or pointers of one kind, which are compared for being equal
use Rattle.std.proofs.Common.{◌≡◌, ◌≢◌, ◌⊎◌, inl, inr, ℕ, zero, suc, ◌+◌, ◌<◌, Bool, true, false, cond, ◌&&◌, ◌||◌, not}
use Rattle.std.proofs.Common.{List, [], ◌∷◌, length, map, get_or, refl, sym, ap, ◌∙◌, subst, arith, None, ℤ, pos, ◌-ℤ◌}
use Rattle.std.specs.Prelude.{◌==◌}
use Rattle.std.specs.List.{All, AllPairs, IsAmong}
use Rattle.std.specs.Ordering.{int_cmp}
use Rattle.std.specs.declared.cmp.Ordering.{Ordering}
use Rattle.std.specs.declared.cmp.Ordering.TheVariants.{Less, Equal, Greater}
use Rattle.std.proofs.lemmas.Bool.{false≢true, eq-eqb}
use Rattle.std.proofs.lemmas.Bool.Decides.{eqb_tells}
use Rattle.std.proofs.lemmas.Int.{ints}
use Rattle.std.proofs.lemmas.List.Elements.{All-cons}
use Rattle.pungi_base.specs.declared.value.Value.{Value}
use Rattle.pungi_base.specs.declared.value.Value.TheVariants as value
use Rattle.pungi_domain.specs.Vectors.{Vector, dot}
use Rattle.pungi_api.specs.declared.param.Param.{Param}
use Rattle.pungi_api.specs.declared.param.Param.TheVariants as param
use Rattle.pungi_world.specs.declared.content.Content.TheVariants as content
use Rattle.pungi_meaning.specs.declared.cmp.Cmp.{Cmp}
use Rattle.pungi_meaning.specs.declared.cmp.Cmp.TheVariants as cmps
use Rattle.pungi_meaning.specs.Values.{number_of, holds, truth, is_equal}
use Rattle.pungi_meaning.specs.Run.{with_operations}
use Rattle.pungi_meaning.specs.Todo.{Compared}
use Rattle.pungi_code.specs.declared.atom.Atom.{Atom}
use Rattle.pungi_code.specs.declared.atom.Var.{Var}
use Rattle.pungi_code.specs.declared.code.Code.{Code}
use Rattle.pungi_code.specs.declared.instr.Instr.{Instr}
use Rattle.pungi_code.specs.declared.instr.Instr.TheVariants.{Compare}
use Rattle.pungi_code.specs.Registers.{Regs, put, content_of, with_value}
use Rattle.pungi_code.specs.WellFormed.{var_kind, is_var, is_integer, is_order, are_alike, atom_is}
use Rattle.pungi_code.specs.WellFormed.{is_number as is_number_atom}
use Rattle.pungi_shape.specs.declared.holding.Holding.{Holding}
use Rattle.pungi_shape.specs.declared.holding.Holding.TheVariants as held
use Rattle.pungi_shape.specs.declared.shape.Shape.{Shape}
use Rattle.pungi_shape.specs.Forms.{Form, constant, minus}
use Rattle.pungi_shape.specs.Shapes.{is_number, rename_holding}
use Rattle.pungi_shape.specs.Named.{static_in}
use Rattle.pungi_shape.specs.Parts.{vars_in, written}
use Rattle.pungi_shape.specs.Scenes.{Scene, scene_of, holding_of, form_of, redirect, merge}
use Rattle.pungi_shape.specs.Cases.{Case, are_set}
use Rattle.pungi_shape.specs.Numbers.{value_by}
use Rattle.pungi_shape.specs.Comparisons.{orders, is_so, truth_number, says, order_case, number_comparison, are_apart}
use Rattle.pungi_shape.specs.Comparisons.{is_same_so, says_same, token_comparison, pointer_comparison}
use Rattle.pungi_shape.specs.Steps.{part_cases}
use Rattle.pungi_shape.specs.Described.{Naming, HoldsSo}
use Rattle.pungi_shape.proofs.sound.Views.{View, Origin, view_of, suits, IsObjectSpot}
use Rattle.pungi_shape.proofs.sound.Shows.{IsScene, Shows, IsLive, IsLiveIn}
use Rattle.pungi_shape.proofs.sound.FormValues.{length_constant, dot_constant, dot_minus}
use Rattle.pungi_shape.proofs.sound.Flow.{Claim, Flow, IsCode, AreZero}
use Rattle.pungi_shape.proofs.sound.Stands.{Runs, Steps}
use Rattle.pungi_shape.proofs.sound.SceneVars.{atom_holds, atom_number, atom_live}
use Rattle.pungi_shape.proofs.sound.SceneMerges.{merge_scene, merge_shows, renamed_spots}
use Rattle.pungi_shape.proofs.sound.SoleSlots.{kind_renamed}
use Rattle.pungi_shape.proofs.sound.Apart.{apart_differ}
use Rattle.pungi_shape.proofs.sound.Kinds.{AreSuited, atom_suits, put_typed}
use Rattle.pungi_shape.proofs.sound.Atoms.{atom_set}
use Rattle.pungi_shape.proofs.sound.Simple.{value_read, instr_is, sound_at}
use Rattle.pungi_shape.proofs.sound.Simple.{statics_named, no_guard, in_vars, Shown, IsBase, own_base, put_case, puts}
use Rattle.pungi_shape.proofs.sound.Simple.{steps_by}
use Rattle.pungi_shape.proofs.sound.Orders.{ordered, compares_so, orders_have, value_is}
use Rattle.pungi_shape.proofs.sound.Arithmetic.{IsValue, IsNumberAt, number_at, set_both}
use Rattle.pungi_shape.proofs.sound.Members.{first_among, later_among, among_map}
use Rattle.pungi_shape.proofs.sound.Tests.{both_true}

-- ---- the case that says it

record SaysSo (code : Code) (ks : List ℕ) (pc : ℕ) (i : Instr) (s : Shape) (names : Naming) (v : Vector) (o : View)
    (x : ℕ) (b : Bool) : Type 0 where
  base : Scene
  guard : List Form
  is_base : IsBase code ks s names v o base
  met : AreZero guard v
  is_there : IsAmong (part_cases i pc 0 0 (scene_of s)) (put_case guard x (held.Known (truth_number b))
      (constant base.width (truth_number b)) base None (pc + 1))

truth_is : (b : Bool) → truth b ≡ value.Int (truth_number b)
truth_is true = refl
truth_is false = refl

truth_suits : (n : ℕ) (k : Param) (b : Bool) → is_integer k ≡ true → suits n k (truth b) ≡ true
truth_suits n k true e = e
truth_suits n k false e = e

says_shown : (code : Code) (ks : List ℕ) (origin : Origin) (pc : ℕ) (m : Regs) (i : Instr) (s : Shape) (v : Vector)
    (x : Var)
    (names : Naming)
    (b : Bool) → length m.vars ≡ length code.vars → written i ≡ x.0 ∷ [] → x.0 < length code.vars
    → SaysSo code ks pc i s names v (view_of code origin m) x.0 b
    → Shown code ks pc i s v (view_of code origin (put x (content.Holds (truth b)) m)) (pc + 1)
says_shown code ks origin pc m i s v x names b count writes lt so =
    let k = truth_number b in
    let c = ap content.Holds (truth_is b) in
    puts code ks origin pc m i s v x (held.Known k) (constant so.base.width k) (content.Holds (truth b)) None (pc + 1)
    so.guard
    names
    so.base so.is_base count writes lt so.is_there tt so.met (length_constant so.base.width k) tt (λ e. cc) c
    (λ num other. c ∙ ap (λ z. content.Holds (value.Int z))
    (sym (dot_constant so.base.width k v so.is_base.scene.wide so.is_base.shows.leading)))

difference_zero : (f g : Form) (w : ℕ) (v : Vector) (i j : ℤ) → IsValue w v f i → IsValue w v g j → i ≡ j
    → dot (minus f g) v ≡ pos 0
difference_zero f g w v i j fi gj e =
    dot_minus f g v (fi.0 ∙ sym gj.0) ∙ ap (λ z. z -ℤ dot g v) (fi.1 ∙ e) ∙ ap (λ z. j -ℤ z) gj.1 ∙ nothing_left j
  where
    nothing_left : (j : ℤ) → j -ℤ j ≡ pos 0
    nothing_left j = omega (arith, ints)

number_says : (code : Code) (ks : List ℕ) (claim : Claim) (pc : ℕ) (m : Regs) (x : Var) (c : Cmp) (a b : Atom) (i j : ℤ)
    (o : Ordering) → (runs : Runs code ks claim pc m)
    → IsNumberAt (scene_of runs.shape) runs.names runs.vector (view_of code claim.origin m) a i
    → IsNumberAt (scene_of runs.shape) runs.names runs.vector (view_of code claim.origin m) b j → int_cmp i j ≡ o
    → IsAmong (part_cases (Compare x c a b) pc 0 0 (scene_of runs.shape))
    (order_case (minus (form_of (scene_of runs.shape) a) (form_of (scene_of runs.shape) b)) o (pc + 1)
    (says x.0 (is_so c o) (scene_of runs.shape)))
    → SaysSo code ks pc (Compare x c a b) runs.shape runs.names runs.vector (view_of code claim.origin m) x.0
    (is_so c o)
number_says code ks claim pc m x c a b i j Less runs left right e there = record {
  base = scene_of runs.shape;
  guard = [];
  is_base = own_base code ks claim pc m runs;
  met = no_guard runs.vector;
  is_there = there;
}
number_says code ks claim pc m x c a b i j Equal runs left right e there =
    let s = scene_of runs.shape in
    let f = minus (form_of s a) (form_of s b) in
    let none = difference_zero (form_of s a) (form_of s b) s.width runs.vector i j left.value right.value
    (ordered i j Equal e) in
    record {
      base = s;
      guard = f ∷ [];
      is_base = own_base code ks claim pc m runs;
      met = All-cons (λ g. dot g runs.vector ≡ pos 0) f [] none (no_guard runs.vector);
      is_there = there;
    }
number_says code ks claim pc m x c a b i j Greater runs left right e there = record {
  base = scene_of runs.shape;
  guard = [];
  is_base = own_base code ks claim pc m runs;
  met = no_guard runs.vector;
  is_there = there;
}

numbers_say : (code : Code) (ks : List ℕ) (claim : Claim) (pc : ℕ) (m : Regs) (x : Var) (c : Cmp) (a b : Atom) (i j : ℤ)
    → (runs : Runs code ks claim pc m)
    → IsNumberAt (scene_of runs.shape) runs.names runs.vector (view_of code claim.origin m) a i
    → IsNumberAt (scene_of runs.shape) runs.names runs.vector (view_of code claim.origin m) b j
    → SaysSo code ks pc (Compare x c a b) runs.shape runs.names runs.vector (view_of code claim.origin m) x.0
    (holds c (value.Int i) (value.Int j))
numbers_say code ks claim pc m x c a b i j runs left right =
    let s = scene_of runs.shape in
    let o = int_cmp i j in
    let case = λ (r : Ordering). order_case (minus (form_of s a) (form_of s b)) r (pc + 1) (says x.0 (is_so c r) s) in
    let pointers = pointer_comparison x.0 c (holding_of s a) (holding_of s b) (pc + 1) s in
    let numbers = number_comparison x.0 c a b (pc + 1) s in
    let here = among_map case (orders (value_by s a) (value_by s b)) o
    (orders_have (value_by s a) (value_by s b) i j
    (value_is s runs.names runs.vector (view_of code claim.origin m) a i left)
    (value_is s runs.names runs.vector (view_of code claim.origin m) b j right)) in
    let both : (is_number (holding_of s a) && is_number (holding_of s b)) ≡ true =
    ap (λ z. z && is_number (holding_of s b)) left.number ∙ right.number in
    subst (SaysSo code ks pc (Compare x c a b) runs.shape runs.names runs.vector (view_of code claim.origin m) x.0)
    (sym (compares_so c i j o refl))
    (number_says code ks claim pc m x c a b i j o runs left right refl
    (subst (λ z. IsAmong (cond z numbers pointers) (case o)) (sym both) here))

-- ---- pointers

pub data IsPointer (names : Naming) : Holding → Value → Type 0 where
  null : IsPointer names held.Null value.Null
  text : IsPointer names held.Text value.Text
  token : (t : ℕ) → IsPointer names (held.Token t) (value.Object (names t))

same_value : (x y : Value) → content.Holds x ≡ content.Holds y → y ≡ x
same_value x y e = cc

pub pointer_of : (names : Naming) (h : Holding) (u : Value) → h ≢ held.Dead → is_number h ≡ false
    → HoldsSo names h (content.Holds u) → IsPointer names h u
pointer_of names held.Dead u alive none holds = absurd (alive refl)
pointer_of names held.Unset u alive none holds = absurd (cc)
pointer_of names held.Null u alive none holds = subst (IsPointer names held.Null) (same_value u value.Null holds) null
pointer_of names held.Text u alive none holds = subst (IsPointer names held.Text) (same_value u value.Text holds) text
pointer_of names (held.Known n) u alive none holds = absurd (false≢true (sym none))
pointer_of names held.Number u alive none holds = absurd (false≢true (sym none))
pointer_of names (held.Token t) u alive none holds =
    subst (IsPointer names (held.Token t)) (same_value u (value.Object (names t)) holds) (token t)

record PointersSay (code : Code) (ks : List ℕ) (pc : ℕ) (s : Shape) (names : Naming) (v : Vector) (o : View) (x : ℕ)
    (c : Cmp) (cases : List Case) (same : Bool) : Type 0 where
  base : Scene
  is_base : IsBase code ks s names v o base
  is_there : IsAmong cases (put_case [] x (held.Known (truth_number (is_same_so c same)))
      (constant base.width (truth_number (is_same_so c same))) base None (pc + 1))

renamed_dead : (g : ℕ → ℕ) (hs : List Holding) (x : ℕ) → get_or (map (rename_holding g) hs) x held.Unset ≡ held.Dead
    → get_or hs x held.Unset ≡ held.Dead
renamed_dead g [] x e = e
renamed_dead g (h ∷ hs) zero e = stays h e
  where
    stays : (h : Holding) → rename_holding g h ≡ held.Dead → h ≡ held.Dead
    stays held.Dead e = refl
    stays held.Unset e = e
    stays held.Null e = e
    stays held.Text e = e
    stays (held.Known n) e = e
    stays held.Number e = e
    stays (held.Token t) e = absurd (cc)
renamed_dead g (h ∷ hs) (suc x) e = renamed_dead g hs x e

module _ (code : Code) (ks : List ℕ) (claim : Claim) (pc : ℕ) (m : Regs) (x : ℕ) (c : Cmp)
    (runs : Runs code ks claim pc m)
    (distinct : AllPairs (λ k l. k ≢ l) ks) where
  abbrev scene : Scene
  scene = scene_of runs.shape

  abbrev Say : List Case → Bool → Type 0
  Say cases same = PointersSay code ks pc runs.shape runs.names runs.vector (view_of code claim.origin m) x c cases same

  plain : (same : Bool) (rest : List Case) → Say (says_same x c same (pc + 1) scene ∷ rest) same
  plain same rest = record {
    base = scene;
    is_base = own_base code ks claim pc m runs;
    is_there = first_among (says_same x c same (pc + 1) scene) rest;
  }

  merged_base : (t u : ℕ) → IsLive scene.balances t → IsLive scene.balances u → t ≢ u → runs.names t ≡ runs.names u
      → IsBase code ks runs.shape runs.names runs.vector (view_of code claim.origin m) (merge t u scene)
  merged_base t u live_t live_u ne same = record {
    width = refl;
    scene = merge_scene ks (length code.vars) scene t u runs.stands.scene live_t live_u ne;
    deads = λ y d. renamed_dead (redirect t u) runs.shape.vars y d;
    kinds = renamed_spots (IsObjectSpot code) (IsObjectSpot code) (redirect t u) (kind_renamed code (redirect t u))
        runs.shape.slots runs.stands.kinds;
    shows = merge_shows ks (length code.vars) runs.names runs.vector None scene (view_of code claim.origin m) t u
        runs.stands.scene
        runs.stands.shows live_t live_u ne same;
  }

  unlike_say : (t u : ℕ) → IsLive scene.balances t → IsLive scene.balances u → t ≢ u → (apart : Bool)
      → are_apart scene.shape t u ≡ apart
      → Say (cond apart (says_same x c false (pc + 1) scene ∷ [])
      (says_same x c true (pc + 1) (merge t u scene) ∷ says_same x c false (pc + 1) scene ∷ []))
      (runs.names t == runs.names u)
  unlike_say t u live_t live_u ne true e =
      let differ = apart_differ ks (length code.vars) runs.names runs.vector None scene (view_of code claim.origin m)
      runs.stands.scene
      runs.stands.shows distinct t u ne live_t live_u e in
      elim (eqb_tells (runs.names t) (runs.names u)) [
        | inl same ↦ absurd (differ same.1)
        | inr other ↦ subst (Say (says_same x c false (pc + 1) scene ∷ [])) (sym other.0) (plain false [])
      ]
  unlike_say t u live_t live_u ne false e =
      let one = says_same x c true (pc + 1) (merge t u scene) in
      let two = says_same x c false (pc + 1) scene in
      elim (eqb_tells (runs.names t) (runs.names u)) [
        | inl same ↦ subst (Say (one ∷ two ∷ [])) (sym same.0) (record {
          base = merge t u scene;
          is_base = merged_base t u live_t live_u ne same.1;
          is_there = first_among one (two ∷ []);
        })
        | inr other ↦ subst (Say (one ∷ two ∷ [])) (sym other.0) (record {
          base = scene;
          is_base = own_base code ks claim pc m runs;
          is_there = later_among one (two ∷ []) two (first_among two []);
        })
      ]

  tokens_say : (t u : ℕ) → IsLive scene.balances t → IsLive scene.balances u
      → Say (token_comparison x c t u (pc + 1) scene) (runs.names t == runs.names u)
  tokens_say t u live_t live_u =
      let one = says_same x c true (pc + 1) scene ∷ [] in
      let rest = cond (are_apart scene.shape t u) (says_same x c false (pc + 1) scene ∷ [])
      (says_same x c true (pc + 1) (merge t u scene) ∷ says_same x c false (pc + 1) scene ∷ []) in
      elim (eqb_tells t u) [
        | inl same ↦ subst (λ z. Say (cond z one rest) (runs.names t == runs.names u)) (sym same.0)
            (subst (Say one) (sym (eq-eqb (runs.names t) (runs.names u) (ap runs.names same.1))) (plain true []))
        | inr other ↦ subst (λ z. Say (cond z one rest) (runs.names t == runs.names u)) (sym other.0)
            (unlike_say t u live_t live_u other.1 (are_apart scene.shape t u) refl)
      ]

  pointers_say : (h k : Holding) (u w : Value) → IsPointer runs.names h u → IsPointer runs.names k w
      → IsLiveIn scene.balances h → IsLiveIn scene.balances k
      → Say (pointer_comparison x c h k (pc + 1) scene) (is_equal u w)
  pointers_say h k u w null null live_h live_k = plain true []
  pointers_say h k u w null text live_h live_k = plain false []
  pointers_say h k u w null (token t) live_h live_k = plain false []
  pointers_say h k u w text null live_h live_k = plain false []
  pointers_say h k u w text text live_h live_k = plain true []
  pointers_say h k u w text (token t) live_h live_k = plain false []
  pointers_say h k u w (token t) null live_h live_k = plain false []
  pointers_say h k u w (token t) text live_h live_k = plain false []
  pointers_say h k u w (token t) (token r) live_h live_k = tokens_say t r live_h live_k

same_so : (c : Cmp) (u w : Value) → is_order c ≡ false → holds c u w ≡ is_same_so c (is_equal u w)
same_so cmps.Equal u w e = equal_so (is_equal u w)
  where
    equal_so : (b : Bool) → b ≡ (0 == cond b 0 1)
    equal_so true = refl
    equal_so false = refl
same_so cmps.NotEqual u w e = equal_so (is_equal u w)
  where
    equal_so : (b : Bool) → not b ≡ not (0 == cond b 0 1)
    equal_so true = refl
    equal_so false = refl
same_so cmps.Less u w e = absurd (false≢true (sym e))
same_so cmps.LessEqual u w e = absurd (false≢true (sym e))
same_so cmps.Greater u w e = absurd (false≢true (sym e))
same_so cmps.GreaterEqual u w e = absurd (false≢true (sym e))

pub not_number : (names : Naming) (v : Vector) (ks : List ℕ) (n : ℕ) (s : Scene) (o : View) (a : Atom) (k : Param)
    (u : Value)
    → IsScene ks n s → Shows names v None s o → is_integer k ≡ false → content_of a o.vars ≡ content.Holds u
    → suits (length o.world.accounts) k u ≡ true → (b : Bool) → is_number (holding_of s a) ≡ b → b ≡ false
not_number names v ks n s o a k u is shows none e fit true num =
    let same = same_value u (value.Int (dot (form_of s a) v)) (sym e ∙ atom_number ks n names v s o a is shows num) in
    absurd (false≢true (sym none ∙ subst (λ z. suits (length o.world.accounts) k z ≡ true) (sym same) fit))
not_number names v ks n s o a k u is shows none e fit false num = refl

-- an atom that is read as a pointer
pub record IsPointerAt (s : Scene) (names : Naming) (a : Atom) (u : Value) : Type 0 where
  pub pointer : IsPointer names (holding_of s a) u
  pub number : is_number (holding_of s a) ≡ false
  pub live : IsLiveIn s.balances (holding_of s a)

pub pointer_at : (code : Code) (ks : List ℕ) (names : Naming) (v : Vector) (s : Scene) (o : View) (a : Atom) (k : Param)
    (u : Value) → AreSuited code o → IsScene ks (length code.vars) s → Shows names v None s o
    → All (IsAmong ks) (static_in a) → are_set s (vars_in a) ≡ true → is_integer k ≡ false
    → atom_is code.vars k a ≡ true
    → content_of a o.vars ≡ content.Holds u → IsPointerAt s names a u
pointer_at code ks names v s o a k u suited is shows named set none fit e =
    let n = length code.vars in
    let fits = atom_suits code ks n names v None s o suited is shows a k u named fit e in
    let num = not_number names v ks n s o a k u is shows none e fits (is_number (holding_of s a)) refl in
    let holds = subst (HoldsSo names (holding_of s a)) e (atom_holds ks n names v s o a is shows named) in
    record {
      pointer = pointer_of names (holding_of s a) u (atom_set ks n s a is set) num holds;
      number = num;
      live = atom_live ks n s a is;
    }

pointers_compare : (code : Code) (ks : List ℕ) (claim : Claim) (pc : ℕ) (m : Regs) (x : Var) (c : Cmp) (a b : Atom)
    (u w : Value) → (runs : Runs code ks claim pc m) → AllPairs (λ k l. k ≢ l) ks → is_order c ≡ false
    → IsPointerAt (scene_of runs.shape) runs.names a u → IsPointerAt (scene_of runs.shape) runs.names b w
    → SaysSo code ks pc (Compare x c a b) runs.shape runs.names runs.vector (view_of code claim.origin m) x.0
    (holds c u w)
pointers_compare code ks claim pc m x c a b u w runs distinct eq left right =
    let s = scene_of runs.shape in
    let h = holding_of s a in
    let k = holding_of s b in
    let say = pointers_say code ks claim pc m x.0 c runs distinct h k u w left.pointer right.pointer left.live
    right.live in
    let numbers = number_comparison x.0 c a b (pc + 1) s in
    let pointers = pointer_comparison x.0 c h k (pc + 1) s in
    let case = λ (r : Bool). put_case [] x.0 (held.Known (truth_number r)) (constant say.base.width (truth_number r))
    say.base
    None (pc + 1) in
    let none : (is_number h && is_number k) ≡ false = ap (λ z. z && is_number k) left.number in
    subst (SaysSo code ks pc (Compare x c a b) runs.shape runs.names runs.vector (view_of code claim.origin m) x.0)
    (sym (same_so c u w eq)) (record {
      base = say.base;
      guard = [];
      is_base = say.is_base;
      met = no_guard runs.vector;
      is_there = subst (λ z. IsAmong (cond z numbers pointers) (case (is_same_so c (is_equal u w)))) (sym none)
          say.is_there;
    })

-- ---- runs

data AreCompared (vars : List Param) (c : Cmp) (a b : Atom) : Type 0 where
  as_numbers : is_number_atom vars a ≡ true → is_number_atom vars b ≡ true → AreCompared vars c a b
  as_pointers : (k : Param) → is_integer k ≡ false → is_order c ≡ false → atom_is vars k a ≡ true
      → atom_is vars k b ≡ true
      → AreCompared vars c a b

pub either_so : (a b : Bool) → (a || b) ≡ true → (a ≡ true) ⊎ (b ≡ true)
either_so true b e = inl refl
either_so false b e = inr e

alike : (vars : List Param) (c : Cmp) (a b : Atom) → is_order c ≡ false → are_alike vars a b ≡ true
    → AreCompared vars c a b
alike vars c a b eq e =
    let numbers = is_number_atom vars a && is_number_atom vars b in
    let objects = atom_is vars param.ObjectOrNull a && atom_is vars param.ObjectOrNull b in
    let texts = atom_is vars param.TextOrNull a && atom_is vars param.TextOrNull b in
    elim (either_so numbers (objects || texts) e) [
      | inl t ↦ let both = both_true (is_number_atom vars a) (is_number_atom vars b) t in as_numbers both.0 both.1
      | inr t ↦ elim (either_so objects texts t) [
        | inl r ↦
            let both = both_true (atom_is vars param.ObjectOrNull a) (atom_is vars param.ObjectOrNull b) r in
            as_pointers param.ObjectOrNull refl eq both.0 both.1
        | inr r ↦
            let both = both_true (atom_is vars param.TextOrNull a) (atom_is vars param.TextOrNull b) r in
            as_pointers param.TextOrNull refl eq both.0 both.1
      ]
    ]

compared : (vars : List Param) (c : Cmp) (a b : Atom) (order : Bool) → is_order c ≡ order
    → cond order (is_number_atom vars a && is_number_atom vars b) (are_alike vars a b) ≡ true → AreCompared vars c a b
compared vars c a b true eq e =
    let both = both_true (is_number_atom vars a) (is_number_atom vars b) e in as_numbers both.0 both.1
compared vars c a b false eq e = alike vars c a b eq e

compare_says : (code : Code) (ks : List ℕ) (claim : Claim) (pc : ℕ) (m : Regs) (x : Var) (c : Cmp) (a b : Atom)
    (u w : Value) → IsCode code ks claim → (runs : Runs code ks claim pc m) → All (IsAmong ks) (static_in a)
    → All (IsAmong ks) (static_in b) → are_set (scene_of runs.shape) (vars_in a) ≡ true
    → are_set (scene_of runs.shape) (vars_in b) ≡ true → content_of a m.vars ≡ content.Holds u
    → content_of b m.vars ≡ content.Holds w → AreCompared code.vars c a b
    → SaysSo code ks pc (Compare x c a b) runs.shape runs.names runs.vector (view_of code claim.origin m) x.0
    (holds c u w)
compare_says code ks claim pc m x c a b u w is runs named_a named_b set_a set_b e f (as_numbers na nb) =
    let o = view_of code claim.origin m in
    let s = scene_of runs.shape in
    let left = number_at code ks runs.names runs.vector s o a u runs.typed.vars runs.stands.scene runs.stands.shows
    named_a
    set_a
    na e in
    let right = number_at code ks runs.names runs.vector s o b w runs.typed.vars runs.stands.scene runs.stands.shows
    named_b
    set_b
    nb f in
    subst (λ z. SaysSo code ks pc (Compare x c a b) runs.shape runs.names runs.vector o x.0 (holds c z w))
    (same_value u (value.Int (number_of u)) (sym e ∙ left.read))
    (subst (λ z. SaysSo code ks pc (Compare x c a b) runs.shape runs.names runs.vector o x.0
    (holds c (value.Int (number_of u)) z)) (same_value w (value.Int (number_of w)) (sym f ∙ right.read))
    (numbers_say code ks claim pc m x c a b (number_of u) (number_of w) runs left right))
compare_says code ks claim pc m x c a b u w is runs named_a named_b set_a set_b e f (as_pointers k none eq ka kb) =
    let o = view_of code claim.origin m in
    let s = scene_of runs.shape in
    pointers_compare code ks claim pc m x c a b u w runs is.distinct eq
    (pointer_at code ks runs.names runs.vector s o a k u runs.typed.vars runs.stands.scene runs.stands.shows named_a
    set_a
    none ka e)
    (pointer_at code ks runs.names runs.vector s o b k w runs.typed.vars runs.stands.scene runs.stands.shows named_b
    set_b
    none kb f)

pub steps_compare : (code : Code) (ks : List ℕ) (claim : Claim) → IsCode code ks claim → Flow code ks claim
    → (x : Var) (c : Cmp)
    (a b : Atom) → Steps code ks claim (Compare x c a b)
steps_compare code ks claim is flow x c a b choices p next pc line m w v q used there same runs e =
    let i = Compare x c a b in
    let o = view_of code claim.origin m in
    let after = λ (y z : Value). with_operations (Compared p c y z ∷ [])
    (next (pc + 1) (put x (content.Holds (truth (holds c y z))) m)) in
    let left = value_read (content_of a m.vars) p (λ y. with_value (content_of b m.vars) p (after y)) w v q used e in
    let right = value_read (content_of b m.vars) p (after left.0) w v q used left.2 in
    let r = holds c left.0 right.0 in
    let at = instr_is code pc line i there same in
    let k = var_kind code.vars x in
    let kinds = cond (is_order c) (is_number_atom code.vars a && is_number_atom code.vars b) (are_alike code.vars a b)
    in
    let sound = both_true (is_var code.vars x) (is_integer k && kinds)
    (sound_at code ks claim is pc line i there same) in
    let parts = both_true (is_integer k) kinds sound.1 in
    let lt = in_vars code x sound.0 in
    let set = set_both code ks claim pc m i a b at refl runs (left.0, left.1) (right.0, right.1) in
    let named_a = statics_named code ks claim is pc line i there same a (first_among a (b ∷ [])) in
    let named_b = statics_named code ks claim is pc line i there same b (later_among a (b ∷ []) b (first_among b [])) in
    let typed = put_typed claim.file code o x.0 (content.Holds (truth r)) runs.typed lt
    (truth_suits (length o.world.accounts) k r parts.0) in
    let says = compare_says code ks claim pc m x c a b left.0 right.0 is runs named_a named_b set.1 set.2 left.1 right.1
    (compared code.vars c a b (is_order c) refl parts.1) in
    let shown = says_shown code ks claim.origin pc m i runs.shape runs.vector x runs.names r runs.typed.count refl lt
    says in
    record {
      pc = pc + 1;
      regs = put x (content.Holds (truth r)) m;
      runs = steps_by code ks claim flow i refl pc m (put x (content.Holds (truth r)) m) (pc + 1) at runs typed
          (first_among (pc + 1) []) set.0 shown;
      ends = right.2;
    }
