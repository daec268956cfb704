-- A call where the called function has left by an exit class: what stands for one object at the caller is one token,
-- and the numbers of the exit class agree with those that were passed.
--   beside v w u            a vector beside another, of w coordinates
--   IsJoined                a scene where what stands for one object is one token
--   s, t, exit              the caller's shape, the shape at which the called function returned, its exit class
--   w, y, z                 how many coordinates the caller's vector has, and that of the exit class; both vectors
--   view_there              what the caller holds, in the world that the called function left
--   ps                      what stands at the caller for the values at entry and static objects of the exit class
--   whole                   the scene over both
use Rattle.std.proofs.Common.{◌≡◌, ℕ, suc, ◌+◌, ◌-◌, ◌<◌, ◌≤◌, ℤ, pos, ◌-ℤ◌, Bool, true, false, cond, List, []}
use Rattle.std.proofs.Common.{◌∷◌, length, map, get_or, refl, sym, ap, ◌∙◌, subst, arith, Option, Some, None, inl, inr}
use Rattle.std.specs.Prelude.{◌==◌, ◌&&◌, nat_lt}
use Rattle.std.specs.List.{All, IsAmong, zip}
use Rattle.std.proofs.lemmas.Bool.Decides.{leb_tells}
use Rattle.std.proofs.lemmas.Int.{ints}
use Rattle.std.proofs.lemmas.List.Elements.{All-nil, All-cons, All-append}
use Rattle.pungi_base.specs.declared.value.Value.{Value}
use Rattle.pungi_base.specs.declared.value.Value.TheVariants as value
use Rattle.pungi_domain.specs.Vectors.{Vector, dot}
use Rattle.pungi_world.specs.declared.content.Content.TheVariants as content
use Rattle.pungi_code.specs.declared.atom.Atom.{Atom}
use Rattle.pungi_code.specs.declared.atom.Var.{Var}
use Rattle.pungi_code.specs.declared.code.Code.{Code}
use Rattle.pungi_code.specs.declared.instr.Instr.{Instr}
use Rattle.pungi_code.specs.declared.instr.Instr.TheVariants.{Call}
use Rattle.pungi_code.specs.Registers.{Regs, all_values}
use Rattle.pungi_shape.specs.declared.holding.Holding.{Holding}
use Rattle.pungi_shape.specs.declared.holding.Holding.TheVariants.{Unset}
use Rattle.pungi_shape.specs.declared.shape.Shape.{Shape}
use Rattle.pungi_shape.specs.Forms.{unit, minus}
use Rattle.pungi_shape.specs.Shapes.{is_number, count_of_numbers, width_of, exit_of}
use Rattle.pungi_shape.specs.Liveness.{instr_at}
use Rattle.pungi_shape.specs.Named.{static_in}
use Rattle.pungi_shape.specs.Scenes.{Scene, scene_of, holding_of, number_forms, after_returned}
use Rattle.pungi_shape.specs.Cases.{is_set}
use Rattle.pungi_shape.specs.Exits.{arguments_of, may_leave, are_alike, statics_differ, join_all, agreement}
use Rattle.pungi_shape.specs.Exits.{with_static, numbers_agree, beside as beside_each}
use Rattle.pungi_shape.specs.Places.{at_point, after_call}
use Rattle.pungi_shape.specs.Edges.{point_of, enters_exit, call_edges_by, both_shapes}
use Rattle.pungi_shape.specs.Described.{Naming, HoldsSo}
use Rattle.pungi_shape.proofs.ExitLemmas.{exit-width, no_numbers}
use Rattle.pungi_shape.proofs.sound.Views.{View, Origin, view_of}
use Rattle.pungi_shape.proofs.sound.Shows.{IsScene, Shows}
use Rattle.pungi_shape.proofs.sound.FormValues.{dot_minus, dot_unit, length_unit}
use Rattle.pungi_shape.proofs.sound.Flow.{Claim, Flow, IsCode, IsBeside, AreZero}
use Rattle.pungi_shape.proofs.sound.Leaving.{Left}
use Rattle.pungi_shape.proofs.sound.Calling.{AreCalled}
use Rattle.pungi_shape.proofs.sound.SceneWords.{with_world}
use Rattle.pungi_shape.proofs.sound.ApiArguments.{arguments_so}
use Rattle.pungi_shape.proofs.sound.Forgets.{other_world}
use Rattle.pungi_shape.proofs.sound.Wider.{wider_scene, wider_shows}
use Rattle.pungi_shape.proofs.sound.Joins.{StandsSo, Joined, joins_all}
use Rattle.pungi_shape.proofs.sound.Differs.{statics_apart}
use Rattle.pungi_shape.proofs.sound.Passed.{passed, alike_all, arguments_stand, statics_stand, agrees_all}
use Rattle.pungi_shape.proofs.sound.CallReady.{IsReady}
use Rattle.pungi_shape.proofs.sound.Members.{first_among}
use Rattle.pungi_shape.proofs.sound.Tests.{both_are, eqb_self, lt_true}

-- ---- vectors side by side

abbrev pub beside : Vector → ℕ → Vector → Vector
beside v w u i = cond (nat_lt i w) (v i) (u (i - w))

not_below : (w i : ℕ) → nat_lt (w + i) w ≡ false
not_below w i = elim (leb_tells (suc (w + i)) w) [
  | inl t ↦ absurd (let lt = t.1 in omega (arith, lt))
  | inr t ↦ t.0
]

pub is_beside : (v : Vector) (w y : ℕ) (u : Vector) → IsBeside w y v u (beside v w u)
is_beside v w y u = record {
  first = λ i lt. ap (λ b. cond b (v i) (u (i - w))) (lt_true i w lt);
  second = λ i lt. ap (λ b. cond b (v (w + i)) (u ((w + i) - w))) (not_below w i)
      ∙ ap u (let e : (w + i) - w ≡ i = omega arith in e);
}

-- ---- exit classes

-- an exit class has the coordinates of its shape
pub exit_returned : (t : Shape) → count_of_numbers t.vars ≡ 0 → after_returned t ≡ after_returned (exit_of t)
exit_returned t none = omega (arith, none)

arguments_are : (claim : Claim) (m : Regs) (g : ℕ) (vs : List Value) (callee : Code) (names : List ℕ) (called : Claim)
    → AreCalled claim m g vs callee names called → called.origin.entry.args ≡ vs
arguments_are claim m g vs callee names called call = ap (λ (r : Origin). r.entry.args) call.origin

pub record IsJoined (ks : List ℕ) (n : ℕ) (set : ℕ → Bool) (names others : Naming) (z : Vector) (o : View)
    (ps : List (Holding × Atom)) (s r : Scene) : Type 0 where
  pub stand : All (StandsSo ks set others o.vars) ps
  pub joined : Joined ks n names z o s r

module _ (code : Code) (ks : List ℕ) (claim : Claim) (is_code : IsCode code ks claim) (flow : Flow code ks claim)
    (x : Option Var) (g : ℕ) (as' : List Atom) (pc : ℕ) (m n : Regs) (vs : List Value) (callee : Code)
    (names : List ℕ) (called : Claim) (result : Option Value) (at : instr_at code pc ≡ Call x g as')
    (named : (a : Atom) → IsAmong as' a → All (IsAmong ks) (static_in a)) (ready : IsReady code ks claim as' pc m)
    (values : all_values as' m.vars ≡ Some vs) (call : AreCalled claim m g vs callee names called)
    (among : All (IsAmong ks) names) (left : Left callee names called n result)
    (grows : length m.world.accounts ≤ length n.world.accounts) where
  abbrev size : ℕ
  size = length code.vars

  abbrev s : Shape
  s = ready.shape

  abbrev t : Shape
  t = left.shape

  abbrev exit : Shape
  exit = exit_of t

  abbrev w : ℕ
  w = width_of s

  abbrev y : ℕ
  y = width_of exit

  abbrev z : Vector
  z = beside ready.vector w left.vector

  abbrev view : View
  view = view_of code claim.origin m

  abbrev view_there : View
  view_there = with_world n.world view

  abbrev ps : List (Holding × Atom)
  ps = arguments_of exit as'

  abbrev set : ℕ → Bool
  set i = is_set (scene_of s) i

  no_variables : count_of_numbers t.vars ≡ 0
  no_variables = no_numbers t.vars left.left.vars

  at_entry : (i : ℕ) → HoldsSo left.names (get_or t.entry i Unset) (passed vs i)
  at_entry i = subst (λ l. HoldsSo left.names (get_or t.entry i Unset) (passed l i))
      (arguments_are claim m g vs callee names called call) (left.shows.entry i)

  pub entry_long : length t.entry ≡ length vs
  entry_long = left.shows.entry_count ∙ ap length (arguments_are claim m g vs callee names called call)

  stand_all : All (StandsSo ks set left.names m.vars) ps
  stand_all = All-append (StandsSo ks set left.names m.vars) (zip t.entry as') (map with_static t.statics)
      (arguments_stand ks set left.names m.vars t.entry as' vs values named ready.sets at_entry)
      (statics_stand ks set left.names m.vars t.statics left.shows.statics
      (subst (All (IsAmong ks)) (sym left.scene.static_keys) among))

  -- ---- the exit is one for these arguments

  leaves_so : may_leave exit as' (scene_of s) ≡ true
  leaves_so =
      let S = scene_of s in
      let joined = joins_all ks size ready.names ready.vector view set left.names [] ps S ready.stands.scene
      ready.stands.shows ready.slots (All-nil (StandsSo ks set left.names m.vars)) stand_all in
      both_are (are_alike t.entry (map (holding_of S) as')) (statics_differ (join_all [] ps S).shape)
      (alike_all left.names ready.names t.entry (map (holding_of S) as') vs entry_long
      (arguments_so ks size ready.names ready.vector S view ready.stands.scene ready.stands.shows as' vs named
      ready.sets values) at_entry left.shows.entry_alive)
      (statics_apart ks size ready.names ready.vector (join_all [] ps S) view is_code.distinct joined.scene
      joined.shows)

  pub claimed_after : claim.holds (after_call (point_of pc 2 0) s exit) z
  claimed_after =
      let q = point_of pc 1 0 in
      let edge = enters_exit q s g exit in
      flow.calls (at_point q s) g exit edge ready.vector left.vector z (after_call (point_of pc 2 0) s exit)
      ready.claimed (call.leaves exit left.vector left.claimed)
      (subst (λ (i : Instr). IsAmong (call_edges_by i q s g exit) edge) (sym at)
      (subst (λ b. IsAmong (cond b (edge ∷ []) []) edge)
      (sym (both_are (1 == 1) ((g == g) && may_leave exit as' (scene_of s)) refl
      (both_are (g == g) (may_leave exit as' (scene_of s)) (eqb_self g) leaves_so))) (first_among edge [])))
      (is_beside ready.vector w y left.vector) refl

  -- ---- the scene over both

  abbrev whole : Scene
  whole = both_shapes s exit

  whole_scene : IsScene ks size whole
  whole_scene = wider_scene ks size s (w + y) (omega arith) ready.stands.scene

  whole_shows : Shows ready.names z None whole view
  whole_shows = wider_shows ks size ready.names ready.vector z s view (w + y) ready.stands.scene ready.fits
      (omega arith) (is_beside ready.vector w y left.vector).first ready.stands.shows

  pub whole_joined : IsJoined ks size set ready.names left.names z view_there ps whole (join_all [] ps whole)
  whole_joined = record {
    stand = stand_all;
    joined = joins_all ks size ready.names z view_there set left.names [] ps whole whole_scene
        (other_world ready.names z None whole view n.world ready.slots ready.marks grows whole_shows) ready.slots
        (All-nil (StandsSo ks set left.names m.vars)) stand_all;
  }

  -- ---- the numbers agree

  numbers_at_entry : (i : ℕ) → is_number (get_or t.entry i Unset) ≡ true
      → passed vs i ≡ content.Holds (value.Int (dot (get_or (number_forms y (after_returned exit) t.entry) i [])
      left.vector))
  numbers_at_entry i e =
      subst (λ l. passed l i
      ≡ content.Holds (value.Int (dot (get_or (number_forms y (after_returned exit) t.entry) i []) left.vector)))
      (arguments_are claim m g vs callee names called call)
      (subst (λ k. passed called.origin.entry.args i
      ≡ content.Holds (value.Int (dot (get_or (number_forms y k t.entry) i []) left.vector)))
      (exit_returned t no_variables)
      (subst (λ k. passed called.origin.entry.args i
      ≡ content.Holds (value.Int (dot (get_or (number_forms k (after_returned t) t.entry) i []) left.vector)))
      (sym (exit-width t left.left)) (left.shows.entry_numbers i e)))

  level : (a b c : ℤ) → a ≡ b → c ≡ b → a -ℤ c ≡ pos 0
  level a b c e f = omega (arith, ints, e, f)

  pub agrees : AreZero (agreement w exit as' whole) z
  agrees =
      let W = w + y in
      let first = (is_beside ready.vector w y left.vector).first in
      let second = (is_beside ready.vector w y left.vector).second in
      let wide = ready.stands.scene.wide in
      let wide_exit = left.scene.wide in
      let same_width = exit-width t left.left in
      let exit_wide : 0 < y = omega (arith, wide_exit, same_width) in
      let here : dot (unit W w) z ≡ pos 1 =
      dot_unit W w z (omega (arith, exit_wide)) ∙ ap z (omega arith) ∙ second 0 exit_wide ∙ left.shows.leading
      in
      let there : dot (unit W 0) z ≡ pos 1 =
      dot_unit W 0 z (omega (arith, wide)) ∙ first 0 wide ∙ ready.stands.shows.leading
      in
      All-cons (λ f. dot f z ≡ pos 0) (minus (unit W w) (unit W 0))
      (numbers_agree whole (beside_each t.entry (number_forms W (w + after_returned exit) t.entry) as'))
      (dot_minus (unit W w) (unit W 0) z (length_unit W w ∙ sym (length_unit W 0))
      ∙ level (dot (unit W w) z) (pos 1) (dot (unit W 0) z) here there)
      (agrees_all ks size ready.names left.names z left.vector whole view whole_scene whole_shows w y (omega arith)
      second (after_returned exit) t.entry as' vs values (arguments_so ks size ready.names z whole view whole_scene
      whole_shows as' vs named ready.sets values) (omega arith) numbers_at_entry)
