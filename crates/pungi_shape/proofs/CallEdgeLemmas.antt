-- Where a called function of the file has left: the scene that both shapes make, and the edge that comes back.
use Rattle.std.proofs.Common.{◌≡◌, ◌∙◌, ℕ, ◌+◌, ◌≤◌, ◌<◌, ◌^◌, List, [], ◌∷◌, length, Option, sym, ap, subst, arith}
use Rattle.pungi_code.specs.declared.atom.Atom.{Atom}
use Rattle.pungi_code.specs.declared.atom.Var.{Var}
use Rattle.pungi_code.specs.declared.code.Code.{Code}
use Rattle.pungi_code.specs.declared.instr.Instr.{Instr}
use Rattle.pungi_code.specs.declared.instr.Instr.TheVariants.{Call}
use Rattle.pungi_shape.specs.declared.point.Point.{Point}
use Rattle.pungi_shape.specs.declared.shape.Shape.{Shape}
use Rattle.pungi_shape.specs.Bounds.{IsFresh, IsPlain, IsScene, IsShape}
use Rattle.pungi_shape.specs.Edges.{both_shapes, comes_back_by, goes_to}
use Rattle.pungi_shape.specs.Edges.{point_of}
use Rattle.pungi_shape.specs.Exits.{after_leaving, agreement}
use Rattle.pungi_shape.specs.Forms.{Form}
use Rattle.pungi_shape.specs.Leaving.{IsExitClass, comes_back}
use Rattle.pungi_shape.specs.Scenes.{Scene}
use Rattle.pungi_shape.specs.Shapes.{width_of}
use Rattle.pungi_shape.proofs.LeavingLemmas.{both-after}
use Rattle.pungi_shape.proofs.SceneLemmas.{scene_of-fresh, scene_over-fresh, scene_over-plain, scene_over-scene}

-- ---- the scene of both shapes

module _ (s e : Shape) (both : Scene) (is : both ≡ both_shapes s e) (shape : IsShape s)
    (narrow : width_of s ≤ 256) where
  pub both-scene : IsScene both
  both-scene = subst IsScene (sym is) (scene_over-scene (width_of s + width_of e) s shape)

  pub both-plain : IsPlain both
  both-plain = subst IsPlain (sym is) (scene_over-plain (width_of s + width_of e) s)

  pub both-fresh : IsFresh both
  both-fresh = subst IsFresh (sym is) (scene_over-fresh (width_of s + width_of e) s shape narrow)

-- ---- the edge that comes back

left-scene : (s e : Shape) (x : Option Var) (as' : List Atom) (w : ℕ) (both after : Scene) → w ≡ width_of s
    → both ≡ both_shapes s e → after ≡ after_leaving w e x as' both
    → after ≡ after_leaving (width_of s) e x as' (both_shapes s e)
left-scene s e x as' w both after wide is left =
    left ∙ ap (λ (n : ℕ). after_leaving n e x as' both) wide ∙ ap (after_leaving (width_of s) e x as') is

module _ (s e : Shape) (x : Option Var) (as' : List Atom) (w : ℕ) (both after : Scene) (wide : w ≡ width_of s)
    (is : both ≡ both_shapes s e) (left : after ≡ after_leaving w e x as' both) where
  same : after ≡ after_leaving (width_of s) e x as' (both_shapes s e)
  same = left-scene s e x as' w both after wide is left

  module _ (shape : IsShape s) (narrow : width_of s ≤ 256) (exit : IsExitClass e) where
    pub left-fits : IsScene after
    left-fits = subst IsScene (sym same) (both-after s e x as' shape narrow exit.narrow).scene

    pub left-vars : length after.shape.vars ≡ length s.vars
    left-vars =
        ap (λ (z : Scene). length z.shape.vars) same ∙ (both-after s e x as' shape narrow exit.narrow).vars

    pub left-few : length after.shape.made < 2 ^ 32
    left-few =
        let few = (both-after s e x as' shape narrow exit.narrow).few (scene_of-fresh s shape narrow).few in
        let here = ap (λ (z : Scene). length z.shape.made) same in
        omega (arith, few, here)

  pub back-edge : (code : Code) (pc : ℕ) (p : Point) (guard : List Form) → p ≡ point_of (pc + 1) 0 0
      → guard ≡ agreement w e as' both → goes_to code p guard after ≡ comes_back code x as' pc s e
  back-edge code pc p guard at agrees =
      ap (λ (q : Point). goes_to code q guard after) at
      ∙ ap (λ (fs : List Form). goes_to code (point_of (pc + 1) 0 0) fs after) (agrees
      ∙ ap (λ (n : ℕ). agreement n e as' both) wide ∙ ap (agreement (width_of s) e as') is)
      ∙ ap (goes_to code (point_of (pc + 1) 0 0) (agreement (width_of s) e as' (both_shapes s e))) same

-- ---- by the instruction

pub comes_back-call : (code : Code) (i j : Instr) (x : Option Var) (f : ℕ) (as' list : List Atom) (pc : ℕ) (s e : Shape)
    → j ≡ i → j ≡ Call x f as' → list ≡ as' → comes_back_by code i pc s e ≡ comes_back code x list pc s e ∷ []
comes_back-call code i j x f as' list pc s e same is at =
    ap (λ (k : Instr). comes_back_by code k pc s e) (sym same ∙ is)
    ∙ ap (λ (l : List Atom). comes_back code x l pc s e ∷ []) (sym at)
