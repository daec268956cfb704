-- A run at a point: a shape and a vector show what it holds, and the annotation's claim holds of them.
--   renamed names ts        the objects of tokens that are numbered anew, by their places in a list
--   sent rows v             the vector with one coordinate a row
--   StandsAs code ks claim p s names v o    this shape and this vector show what a run holds at a point, and the claim
--                           holds of the vector at the place that is reached once parts are left out
--   done_writes i n         the variables that part n writes
--   FreesSo code p free to  which variable gets any number after a part, if one does
--   Covers code ks p s v o to    some case of the next part at a point leads so, and its scene shows what is held after
--                           it
--   Runs code ks claim pc m a run is between two instructions
--   GoesOn, Steps           the run goes on from a later place; so each instruction's run does that is no call and no
--                           return
use Rattle.std.specs.Prelude.{◌≡◌, ℕ, ◌+◌, ◌==◌, false, List, [], length, get_or, map, slice_get}
use Rattle.std.specs.Prelude.{Option, Some, None, if◌then◌else◌}
use Rattle.std.specs.List.{All, IsAmong}
use Rattle.pungi_base.specs.declared.choice.Choice.{Choice}
use Rattle.pungi_base.specs.declared.pos.Pos.{Pos}
use Rattle.pungi_base.specs.declared.value.Value.{Value}
use Rattle.pungi_domain.specs.Vectors.{Vector, dot}
use Rattle.pungi_world.specs.declared.world.World.{World}
use Rattle.pungi_meaning.specs.Run.{End, Returned}
use Rattle.pungi_code.specs.declared.code.Code.{Code}
use Rattle.pungi_code.specs.declared.code.Line.{Line}
use Rattle.pungi_code.specs.declared.instr.Instr.{Instr}
use Rattle.pungi_code.specs.Registers.{Regs, Next}
use Rattle.pungi_code.specs.Perform.{perform}
use Rattle.pungi_shape.specs.declared.holding.Holding.TheVariants.{Dead, Unset}
use Rattle.pungi_shape.specs.declared.point.Point.{Point}
use Rattle.pungi_shape.specs.declared.shape.Shape.{Shape}
use Rattle.pungi_shape.specs.Forms.{Form}
use Rattle.pungi_shape.specs.Shapes.{width_of}
use Rattle.pungi_shape.specs.Parts.{maps, written}
use Rattle.pungi_shape.specs.Liveness.{is_among, instr_at, is_holder}
use Rattle.pungi_shape.specs.Scenes.{scene_of}
use Rattle.pungi_shape.specs.Cases.{Case, Onward, leads_to}
use Rattle.pungi_shape.specs.Places.{at_point}
use Rattle.pungi_shape.specs.Edges.{point_of, cases_at, settle, free_var}
use Rattle.pungi_shape.specs.Described.{Naming}
use Rattle.pungi_shape.proofs.sound.Views.{View, view_of, IsTyped, IsObjectSpot}
use Rattle.pungi_shape.proofs.sound.Shows.{IsScene, Shows, spot_in}
use Rattle.pungi_shape.proofs.sound.Flow.{Claim, AreZero}

abbrev pub renamed : Naming → List ℕ → Naming
renamed names ts i = names (get_or ts i 0)

abbrev pub sent : List Form → Vector → Vector
sent rows v i = dot (get_or rows i []) v

pub record StandsAs (code : Code) (ks : List ℕ) (claim : Claim) (p : Point) (s : Shape) (names : Naming) (v : Vector)
    (o : View) : Type 0 where
  pub claimed : claim.holds (settle code (at_point p s)) v
  pub scene : IsScene ks (length code.vars) (scene_of s)
  pub deads : (x : ℕ) → get_or s.vars x Unset ≡ Dead → is_holder code p x ≡ false
  pub kinds : All (IsObjectSpot code) (map spot_in s.slots)
  pub shows : Shows names v None (scene_of s) o

-- ---- the next part

abbrev pub done_writes : Instr → ℕ → List ℕ
done_writes i n = if n + 1 == maps i then written i else []

abbrev pub FreesSo : Code → Point → Option ℕ → Onward → Type 0
FreesSo code p None to = Unit {0}
FreesSo code p (Some x) to =
    (x ≡ free_var (instr_at code p.instr)) × (p.done + 1 ≡ maps (instr_at code p.instr))
    × (to ≡ leads_to (p.instr + 1))

pub record Covers (code : Code) (ks : List ℕ) (p : Point) (s : Shape) (v : Vector) (o : View) (to : Onward)
    : Type 0 where
  pub chosen : Case
  pub names : Naming
  pub is_there : IsAmong (cases_at code p s) chosen
  pub onward : chosen.onward ≡ to
  pub frees : FreesSo code p chosen.freed to
  pub guard : AreZero chosen.guard v
  pub width : chosen.scene.width ≡ width_of s
  pub scene : IsScene ks (length code.vars) chosen.scene
  pub deads : (x : ℕ) → get_or chosen.scene.shape.vars x Unset ≡ Dead → (get_or s.vars x Unset ≡ Dead)
      × (is_among (done_writes (instr_at code p.instr) p.done) x ≡ false)
  pub kinds : All (IsObjectSpot code) (map spot_in chosen.scene.shape.slots)
  pub shows : Shows names v chosen.freed chosen.scene o

-- ---- runs

pub record Runs (code : Code) (ks : List ℕ) (claim : Claim) (pc : ℕ) (m : Regs) : Type 0 where
  pub shape : Shape
  pub names : Naming
  pub vector : Vector
  pub typed : IsTyped claim.file code (view_of code claim.origin m)
  pub stands : StandsAs code ks claim (point_of pc 0 0) shape names vector (view_of code claim.origin m)

pub record GoesOn (code : Code) (ks : List ℕ) (claim : Claim) (next : Next) (e : End) : Type 0 where
  pub pc : ℕ
  pub regs : Regs
  pub runs : Runs code ks claim pc regs
  pub ends : (next pc regs).end ≡ e

abbrev pub Steps : Code → List ℕ → Claim → Instr → Type 0
Steps code ks claim i =
    (choices : List Choice) (p : Pos) (next : Next) (pc : ℕ) (line : Line) (m : Regs) (w : World) (v : Option Value)
    (q : Pos) (used : List Pos) → slice_get code.instrs pc ≡ Some line → line.instr ≡ i → Runs code ks claim pc m
    → (perform choices i p next pc m).end ≡ Returned w v q used
    → GoesOn code ks claim next (Returned w v q used)
