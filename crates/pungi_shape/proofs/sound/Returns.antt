-- A return: what a run leaves behind where its code returns.
--   IsResult a m result     what is returned, if the run goes on
--   scene, start, middle    the scene of a run; the points before a return and before its last part
--   left, names_left        the shape between these parts, the objects of its tokens
--   before, vector          a vector at the last part; what the edge out of the function makes of it
use Rattle.std.proofs.Common.{◌≡◌, ◌≢◌, ℕ, zero, suc, ◌<◌, true, cond, List, [], ◌∷◌, length, map, get_or}
use Rattle.std.proofs.Common.{refl, sym, ap, ◌∙◌, subst, arith, Option, Some, None}
use Rattle.std.specs.Prelude.{◌==◌, slice_get}
use Rattle.std.specs.List.{IsAmong}
use Rattle.std.proofs.lemmas.Bool.{false≢true}
use Rattle.std.proofs.lemmas.List.Elements.{All-nil, All-map}
use Rattle.std.proofs.lemmas.List.FromFn.{get_or-map-range_with_len}
use Rattle.pungi_base.specs.declared.value.Value.{Value}
use Rattle.pungi_base.specs.declared.value.Value.TheVariants as value
use Rattle.pungi_api.specs.declared.param.Param.{Param}
use Rattle.pungi_domain.specs.Vectors.{Vector, dot}
use Rattle.pungi_world.specs.declared.content.Content.{Content}
use Rattle.pungi_world.specs.declared.content.Content.TheVariants as content
use Rattle.pungi_code.specs.declared.atom.Atom.{Atom}
use Rattle.pungi_code.specs.declared.code.Code.{Code}
use Rattle.pungi_code.specs.declared.code.Line.{Line}
use Rattle.pungi_code.specs.declared.instr.Instr.TheVariants.{Return}
use Rattle.pungi_code.specs.Registers.{Regs, content_of}
use Rattle.pungi_code.specs.WellFormed.{is_returned, returns_well}
use Rattle.pungi_shape.specs.declared.holding.Holding.{Holding}
use Rattle.pungi_shape.specs.declared.holding.Holding.TheVariants as held
use Rattle.pungi_shape.specs.declared.point.Point.{Point}
use Rattle.pungi_shape.specs.declared.shape.Shape.{Shape}
use Rattle.pungi_shape.specs.Forms.{Form, unit, zero_form}
use Rattle.pungi_shape.specs.Shapes.{is_number, width_of, rename_holding, tokens_of, exit_of}
use Rattle.pungi_shape.specs.Parts.{maps, all_reads}
use Rattle.pungi_shape.specs.Liveness.{instr_at}
use Rattle.pungi_shape.specs.Scenes.{Scene, scene_of, holding_of, form_of}
use Rattle.pungi_shape.specs.Arrivals.{arrive, kept_shape, place_in}
use Rattle.pungi_shape.specs.Cases.{within, passes_on, are_set}
use Rattle.pungi_shape.specs.Steps.{forget, after_return, cases}
use Rattle.pungi_shape.specs.Places.{at_point}
use Rattle.pungi_shape.specs.Edges.{point_of, edge_of, units, exits_from, frees_there, edges_from}
use Rattle.pungi_shape.specs.Reached.{IsLeft, Unheld}
use Rattle.pungi_shape.specs.Described.{Naming, HoldsSo}
use Rattle.pungi_shape.proofs.NextLemmas.{arrived-left}
use Rattle.pungi_shape.proofs.sound.Views.{View, view_of, suits, IsObjectSpot}
use Rattle.pungi_shape.proofs.sound.Shows.{IsLiveIn}
use Rattle.pungi_shape.proofs.sound.FormValues.{length_zero, dot_unit}
use Rattle.pungi_shape.proofs.sound.Flow.{Claim, Flow, IsCode}
use Rattle.pungi_shape.proofs.sound.Stands.{StandsAs, Covers, Runs, sent}
use Rattle.pungi_shape.proofs.sound.Leaving.{left_with, IsReturned, Left}
use Rattle.pungi_shape.proofs.sound.Arrives.{names_after}
use Rattle.pungi_shape.proofs.sound.Settled.{settled_last}
use Rattle.pungi_shape.proofs.sound.Vectors.{shows_same}
use Rattle.pungi_shape.proofs.sound.Moves.{StandsIn, moves_within}
use Rattle.pungi_shape.proofs.sound.SceneVars.{atom_holds, atom_number, atom_width, atom_live}
use Rattle.pungi_shape.proofs.sound.SceneSlots.{forget_scene, forget_shows}
use Rattle.pungi_shape.proofs.sound.Atoms.{atom_set}
use Rattle.pungi_shape.proofs.sound.Kinds.{atom_suits}
use Rattle.pungi_shape.proofs.sound.Simple.{atom_read, instr_is, set_by, statics_named, no_guard}
use Rattle.pungi_shape.proofs.sound.TokenNumbers.{arrived_numbered}
use Rattle.pungi_shape.proofs.sound.ExitDuties.{Leaves}
use Rattle.pungi_shape.proofs.sound.Members.{first_among}

abbrev pub IsResult : Option Atom → Regs → Option Value → Type 0
IsResult None m result = result ≡ None
IsResult (Some a) m result = (v : Value) × ((result ≡ Some v) × (content_of a m.vars ≡ content.Holds v))

alive_on : (g : ℕ → ℕ) (h : Holding) → h ≢ held.Dead → rename_holding g h ≢ held.Dead
alive_on g held.Dead alive e = alive refl
alive_on g held.Unset alive e = cc
alive_on g held.Null alive e = cc
alive_on g held.Text alive e = cc
alive_on g (held.Known n) alive e = cc
alive_on g held.Number alive e = cc
alive_on g (held.Token t) alive e = cc

never_dead : (hs : List Holding) (x : ℕ) → get_or (map (λ (h : Holding). held.Unset) hs) x held.Unset ≡ held.Dead → ⊥
never_dead [] x e = cc
never_dead (h ∷ hs) zero e = cc
never_dead (h ∷ hs) (suc x) e = never_dead hs x e

-- what is returned stays so where tokens are numbered anew
returned_on : (g : ℕ → ℕ) (h : Holding) (c : Content) (result : Option Value) → IsReturned h c result
    → IsReturned (rename_holding g h) c result
returned_on g h c None e = ap (rename_holding g) e
returned_on g h c (Some v) e = (e.0, alive_on g h e.1)

unit_so : (w : ℕ) (v : Vector) (i : ℕ) → i < w → sent (units w) v i ≡ v i
unit_so w v i lt =
    ap (λ f. dot f v) (get_or-map-range_with_len (unit w) 0 w i i [] lt (omega arith)) ∙ dot_unit w i v lt

module _ (code : Code) (ks : List ℕ) (claim : Claim) (flow : Flow code ks claim) (pc : ℕ) (m : Regs) (a : Option Atom)
    (at : instr_at code pc ≡ Return a) (runs : Runs code ks claim pc m)
    (set : are_set (scene_of runs.shape) (all_reads (Return a)) ≡ true) (h : Holding) (f : Form) (c : Content)
    (same : after_return a (scene_of runs.shape) ≡ forget h f (scene_of runs.shape))
    (wide : length f ≡ width_of runs.shape) (live : IsLiveIn (scene_of runs.shape).balances h)
    (holds : HoldsSo runs.names h c)
    (number : is_number h ≡ true → c ≡ content.Holds (value.Int (dot f runs.vector))) where
  abbrev scene : Scene
  scene = scene_of runs.shape

  abbrev start : Point
  start = point_of pc 0 0

  abbrev middle : Point
  middle = point_of pc 1 0

  abbrev view : View
  view = left_with code claim.origin m c

  forgets : Covers code ks start runs.shape runs.vector view (within 0)
  forgets = record {
    chosen = passes_on 0 (forget h f scene);
    names = runs.names;
    is_there = subst (λ j. IsAmong (cases j pc 0 0 scene) (passes_on 0 (forget h f scene))) (sym at)
        (subst (λ b. IsAmong (cond b (passes_on 0 (after_return a scene) ∷ []) []) (passes_on 0 (forget h f scene)))
        (sym set)
        (subst (λ s. IsAmong (passes_on 0 s ∷ []) (passes_on 0 (forget h f scene))) (sym same)
        (first_among (passes_on 0 (forget h f scene)) [])));
    onward = refl;
    frees = tt;
    guard = no_guard runs.vector;
    width = refl;
    scene = forget_scene ks (length code.vars) scene h f runs.stands.scene wide live;
    deads = λ x d. absurd (never_dead runs.shape.vars x d);
    kinds = All-nil (IsObjectSpot code);
    shows = forget_shows runs.names runs.vector None scene (view_of code claim.origin m) h f c runs.stands.shows holds
        number;
  }

  two_parts : maps (instr_at code pc) ≡ 2
  two_parts = ap maps at

  abbrev left : Shape
  left = (arrive code middle (forget h f scene)).shape

  abbrev names_left : Naming
  names_left = names_after code middle (forget h f scene) runs.names

  in_left : StandsIn code ks claim middle left names_left view
  unfolding forgets
  in_left =
      moves_within code ks claim flow start runs.shape runs.names runs.vector (view_of code claim.origin m) view 0
      runs.stands
      forgets
      (let n = two_parts in omega (arith, n))

  abbrev before : Vector
  before = in_left.vector

  abbrev vector : Vector
  vector = sent (units (width_of left)) before

  stands_left : StandsAs code ks claim middle left names_left before view
  stands_left = in_left.stands

  claimed_left : claim.holds (at_point middle left) before
  claimed_left =
      subst (λ q. claim.holds q before) (settled_last code middle left (let n = two_parts in omega (arith, n)))
      stands_left.claimed

  exits : IsAmong (edges_from code (at_point middle left)) (exits_from code left)
  exits =
      subst (λ j. IsAmong (cond (1 == maps j) (frees_there code middle left ∷ [])
      (map (edge_of code middle left) (cases j pc 1 0 (scene_of left)))) (exits_from code left)) (sym at)
      (first_among (exits_from code left) [])

  nothing_left : IsLeft left
  nothing_left =
      arrived-left code middle (forget h f scene)
      (record {
        vars = All-map Unheld (λ (k : Holding). held.Unset) runs.shape.vars
            (λ i d lt. record { number = refl; token = refl });
        slots = refl;
      })

  pub leaves_so : (result : Option Value) → IsReturned h c result → Leaves code ks claim m result
  leaves_so result returned = record {
    shape = left;
    names = names_left;
    vector = vector;
    content = c;
    left = nothing_left;
    numbered = arrived_numbered code middle (forget h f scene);
    claimed = flow.exits (at_point middle left) (exits_from code left) before vector (exit_of left) claimed_left exits
        (no_guard before) (λ i. refl) refl;
    met = λ meets.
        meets (at_point middle left) (exits_from code left) vector (exit_of left)
        (flow.same (at_point middle left) before vector claimed_left (unit_so (width_of left) before)) exits
        (no_guard vector) refl;
    scene = stands_left.scene;
    shows = shows_same ks (length code.vars) names_left before vector None (scene_of left) view stands_left.scene
        (λ i lt. sym (unit_so (width_of left) before i lt)) stands_left.shows;
    returned = returned_on (place_in (tokens_of (kept_shape code middle (forget h f scene)))) h c result returned;
  }

-- ---- runs

no_number : is_number held.Dead ≡ true → ⊥
no_number e = absurd (false≢true e)

pub returns : (code : Code) (ks : List ℕ) (claim : Claim) → IsCode code ks claim → Flow code ks claim
    → (a : Option Atom) (pc : ℕ) (line : Line) (m : Regs) (result : Option Value)
    → slice_get code.instrs pc ≡ Some line → line.instr ≡ Return a → Runs code ks claim pc m → IsResult a m result
    → Leaves code ks claim m result
returns code ks claim is flow None pc line m result there same runs none =
    let s = scene_of runs.shape in
    let at = instr_is code pc line (Return None) there same in
    leaves_so code ks claim flow pc m None at runs refl held.Dead (zero_form s.width) content.Unset refl
    (length_zero s.width) tt tt (λ e. absurd (no_number e)) result
    (subst (IsReturned held.Dead content.Unset) (sym none) refl)
returns code ks claim is flow (Some a) pc line m result there same runs read =
    let i = Return (Some a) in
    let n = length code.vars in
    let o = view_of code claim.origin m in
    let s = scene_of runs.shape in
    let h = holding_of s a in
    let c = content_of a m.vars in
    let at = instr_is code pc line i there same in
    let set = set_by code ks claim pc m i at runs (atom_read o a (read.0, read.1.1)) in
    let named = statics_named code ks claim is pc line i there same a (first_among a []) in
    let holds = atom_holds ks n runs.names runs.vector s o a runs.stands.scene runs.stands.shows named in
    leaves_so code ks claim flow pc m (Some a) at runs set h (form_of s a) c refl
    (atom_width ks n s a runs.stands.scene) (atom_live ks n s a runs.stands.scene) holds
    (atom_number ks n runs.names runs.vector s o a runs.stands.scene runs.stands.shows) result
    (subst (IsReturned h c) (sym read.1.0) (read.1.1, atom_set ks n s a runs.stands.scene set))

-- ---- the kind of what is returned

value_in : (u v : Value) → Some u ≡ Some v → u ≡ v
value_in u v e = cc

none_some : (v : Value) → None ≡ Some v → ⊥
none_some v e = absurd (cc)

result_suits : (code : Code) (ks : List ℕ) (claim : Claim) → IsCode code ks claim → (a : Option Atom) (pc : ℕ)
    (line : Line) (m : Regs) (result : Option Value) → slice_get code.instrs pc ≡ Some line → line.instr ≡ Return a
    → Runs code ks claim pc m → IsResult a m result → returns_well code (Return a) ≡ true
    → (v : Value) (k : Param) → result ≡ Some v → code.result ≡ Some k → suits (length m.world.accounts) k v ≡ true
result_suits code ks claim is None pc line m result there same runs none well v k e kind =
    absurd (none_some v (sym none ∙ e))
result_suits code ks claim is (Some a) pc line m result there same runs read well v k e kind =
    let n = length code.vars in
    let o = view_of code claim.origin m in
    let s = scene_of runs.shape in
    let named = statics_named code ks claim is pc line (Return (Some a)) there same a (first_among a []) in
    atom_suits code ks n runs.names runs.vector None s o runs.typed.vars runs.stands.scene runs.stands.shows a k v named
    (subst (λ r. is_returned code.vars r (Some a) ≡ true) kind well)
    (read.1.1 ∙ ap content.Holds (value_in read.0 v (sym read.1.0 ∙ e)))

pub left_by : (code : Code) (ks : List ℕ) (claim : Claim) → IsCode code ks claim → Flow code ks claim
    → (a : Option Atom) (pc : ℕ) (line : Line) (m : Regs) (result : Option Value)
    → slice_get code.instrs pc ≡ Some line → line.instr ≡ Return a → Runs code ks claim pc m → IsResult a m result
    → returns_well code (Return a) ≡ true → Left code ks claim m result
left_by code ks claim is flow a pc line m result there same runs read well =
    let l = returns code ks claim is flow a pc line m result there same runs read in
    record {
      shape = l.shape;
      names = l.names;
      vector = l.vector;
      content = l.content;
      left = l.left;
      numbered = l.numbered;
      claimed = l.claimed;
      scene = l.scene;
      shows = l.shows;
      returned = l.returned;
      typed = runs.typed;
      suits_result = result_suits code ks claim is a pc line m result there same runs read well;
    }
