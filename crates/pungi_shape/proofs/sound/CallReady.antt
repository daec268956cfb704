-- A call before the called function is entered: slots and marks are forgotten.
--   IsReady                 a shape and a vector at the point after that part
use Rattle.std.proofs.Common.{◌≡◌, ℕ, ◌+◌, ◌≤◌, Bool, true, false, cond, List, [], length, get_or, refl, ap}
use Rattle.std.proofs.Common.{◌∙◌, subst, arith, Option, Some, None}
use Rattle.std.specs.List.{IsAmong}
use Rattle.std.proofs.lemmas.List.Elements.{All-nil}
use Rattle.pungi_base.specs.declared.value.Value.{Value}
use Rattle.pungi_domain.specs.Vectors.{Vector}
use Rattle.pungi_code.specs.declared.atom.Atom.{Atom}
use Rattle.pungi_code.specs.declared.atom.Var.{Var}
use Rattle.pungi_code.specs.declared.code.Code.{Code}
use Rattle.pungi_code.specs.declared.instr.Instr.{Instr}
use Rattle.pungi_code.specs.declared.instr.Instr.TheVariants.{Call}
use Rattle.pungi_code.specs.Registers.{Regs, all_values}
use Rattle.pungi_shape.specs.declared.point.Point.{Point}
use Rattle.pungi_shape.specs.declared.shape.Shape.{Shape}
use Rattle.pungi_shape.specs.Shapes.{width_of}
use Rattle.pungi_shape.specs.Parts.{maps, reads, vars_in_all}
use Rattle.pungi_shape.specs.Liveness.{instr_at}
use Rattle.pungi_shape.specs.Scenes.{Scene, scene_of, after_entry}
use Rattle.pungi_shape.specs.Cases.{Case, within, passes_on, are_set}
use Rattle.pungi_shape.specs.Arrivals.{arrive}
use Rattle.pungi_shape.specs.Steps.{forget_slots, cases}
use Rattle.pungi_shape.specs.Places.{at_point}
use Rattle.pungi_shape.specs.Edges.{point_of, cases_at, skip, skip_one, settle}
use Rattle.pungi_shape.specs.Described.{Naming}
use Rattle.pungi_shape.proofs.sound.Views.{View, view_of, IsObjectSpot}
use Rattle.pungi_shape.proofs.sound.Flow.{Claim, Flow, IsCode}
use Rattle.pungi_shape.proofs.sound.Stands.{StandsAs, Covers, Runs}
use Rattle.pungi_shape.proofs.sound.Arrives.{names_after}
use Rattle.pungi_shape.proofs.sound.Moves.{StandsIn, moves_within, arrived_fits}
use Rattle.pungi_shape.proofs.sound.Liveness.{reads_set}
use Rattle.pungi_shape.proofs.sound.Parts.{case_covers}
use Rattle.pungi_shape.proofs.sound.ApiCalls.{arguments_read}
use Rattle.pungi_shape.proofs.sound.Simple.{set_by, no_guard}
use Rattle.pungi_shape.proofs.sound.Forgets.{forget_slots_scene, forget_slots_shows, forgotten_marks, forgotten_slots}
use Rattle.pungi_shape.proofs.sound.Members.{first_among}

pub record IsReady (code : Code) (ks : List ℕ) (claim : Claim) (as' : List Atom) (pc : ℕ) (m : Regs) : Type 0 where
  pub shape : Shape
  pub names : Naming
  pub vector : Vector
  pub claimed : claim.holds (at_point (point_of pc 1 0) shape) vector
  pub stands : StandsAs code ks claim (point_of pc 1 0) shape names vector (view_of code claim.origin m)
  pub slots : shape.slots ≡ []
  pub marks : (t : ℕ) → get_or shape.made t false ≡ false
  pub fits : after_entry shape + length shape.made ≤ width_of shape
  pub sets : are_set (scene_of shape) (vars_in_all as') ≡ true

-- the second part of a call has no case, and isn't left out
no_cases : (b : Bool) (cs : List Case) → cs ≡ [] → cond b cs cs ≡ []
no_cases true cs e = e
no_cases false cs e = e

stays : (code : Code) (x : Option Var) (g : ℕ) (as' : List Atom) (pc : ℕ) (s : Shape) → instr_at code pc ≡ Call x g as'
    → settle code (at_point (point_of pc 1 0) s) ≡ at_point (point_of pc 1 0) s
stays code x g as' pc s at =
    let q = point_of pc 1 0 in
    let none : cases_at code q s ≡ [] =
    ap (λ (i : Instr). cases i pc 1 0 (scene_of s)) at
    ∙ no_cases (are_set (scene_of s) (reads (Call x g as') 1)) [] refl
    in
    let here : skip code (at_point q s) ≡ at_point q s = ap (skip_one code q s) none in
    ap (skip code) here ∙ here

module _ (code : Code) (ks : List ℕ) (claim : Claim) (is_code : IsCode code ks claim) (flow : Flow code ks claim)
    (x : Option Var) (g : ℕ) (as' : List Atom) (pc : ℕ) (m : Regs) (vs : List Value)
    (at : instr_at code pc ≡ Call x g as') (runs : Runs code ks claim pc m)
    (values : all_values as' m.vars ≡ Some vs) where
  abbrev view : View
  view = view_of code claim.origin m

  abbrev scene : Scene
  scene = scene_of runs.shape

  abbrev middle : Point
  middle = point_of pc 1 0

  forgets : Covers code ks (point_of pc 0 0) runs.shape runs.vector view (within 0)
  forgets = case_covers code ks (Call x g as') pc 0 0 runs.shape runs.vector view (within 0) at
      (set_by code ks claim pc m (Call x g as') at runs (arguments_read view as' vs values)) (record {
        chosen = passes_on 0 (forget_slots scene);
        names = runs.names;
        is_there = first_among (passes_on 0 (forget_slots scene)) [];
        onward = refl;
        frees = tt;
        guard = no_guard runs.vector;
        width = refl;
        scene = forget_slots_scene ks (length code.vars) scene runs.stands.scene;
        deads = λ y d. (d, refl);
        kinds = All-nil (IsObjectSpot code);
        shows = forget_slots_shows runs.names runs.vector None scene view runs.stands.shows;
      })

  abbrev ready_shape : Shape
  ready_shape = (arrive code middle (forget_slots scene)).shape

  abbrev ready_names : Naming
  ready_names = names_after code middle (forget_slots scene) runs.names

  in_ready : StandsIn code ks claim middle ready_shape ready_names view
  unfolding forgets
  in_ready =
      moves_within code ks claim flow (point_of pc 0 0) runs.shape runs.names runs.vector view view 0 runs.stands
      forgets
      (let k : maps (instr_at code pc) ≡ 3 = ap maps at in omega (arith, k))

  pub call_ready : IsReady code ks claim as' pc m
  call_ready = record {
    shape = ready_shape;
    names = ready_names;
    vector = in_ready.vector;
    claimed = subst (λ q. claim.holds q in_ready.vector) (stays code x g as' pc ready_shape at) in_ready.stands.claimed;
    stands = in_ready.stands;
    slots = forgotten_slots code middle scene;
    marks = forgotten_marks code middle scene;
    fits = arrived_fits code middle (forget_slots scene) ks (length code.vars)
        (forget_slots_scene ks (length code.vars) scene runs.stands.scene);
    sets = subst (λ (i : Instr). are_set (scene_of ready_shape) (reads i 1) ≡ true) at
        (reads_set code ks claim middle ready_shape ready_names in_ready.vector view in_ready.stands
        (λ y there. arguments_read view as' vs values y (subst (λ (i : Instr). IsAmong (reads i 1) y) at there)));
  }
