-- What a function leaves behind where it returns: an exit class, and a vector there that is claimed.
--   left_with code origin m c    what is held once all but the value that is being returned is forgotten
--   IsReturned h c result   what is returned is nothing, or what is held
--   Left code ks claim m result    a run of a code returns so, with what a machine holds
use Rattle.std.specs.Prelude.{◌≡◌, ◌≢◌, ℕ, true, false, List, [], length, Option, Some, None}
use Rattle.std.specs.List.{range_with_len}
use Rattle.pungi_base.specs.declared.value.Value.{Value}
use Rattle.pungi_api.specs.declared.param.Param.{Param}
use Rattle.pungi_domain.specs.Vectors.{Vector}
use Rattle.pungi_world.specs.declared.content.Content.{Content}
use Rattle.pungi_world.specs.declared.content.Content.TheVariants.{Holds}
use Rattle.pungi_code.specs.declared.code.Code.{Code}
use Rattle.pungi_code.specs.Registers.{Regs}
use Rattle.pungi_shape.specs.declared.holding.Holding.{Holding}
use Rattle.pungi_shape.specs.declared.holding.Holding.TheVariants.{Dead}
use Rattle.pungi_shape.specs.declared.shape.Shape.{Shape}
use Rattle.pungi_shape.specs.Shapes.{exit_of, tokens_of}
use Rattle.pungi_shape.specs.Scenes.{scene_of}
use Rattle.pungi_shape.specs.Reached.{IsLeft}
use Rattle.pungi_shape.specs.Described.{Naming}
use Rattle.pungi_shape.proofs.sound.Views.{View, Origin, view_of, suits, IsTyped}
use Rattle.pungi_shape.proofs.sound.Shows.{IsScene, Shows}
use Rattle.pungi_shape.proofs.sound.Flow.{Claim}

abbrev pub left_with : Code → Origin → Regs → Content → View
left_with code origin m c = record (view_of code origin m) { vars = []; returned = c; fields = λ t g. false }

abbrev pub IsReturned : Holding → Content → Option Value → Type 0
IsReturned h c None = h ≡ Dead
IsReturned h c (Some v) = (c ≡ Holds v) × (h ≢ Dead)

pub record Left (code : Code) (ks : List ℕ) (claim : Claim) (m : Regs) (result : Option Value) : Type 0 where
  pub shape : Shape
  pub names : Naming
  pub vector : Vector
  pub content : Content
  pub left : IsLeft shape
  pub numbered : tokens_of shape ≡ range_with_len 0 (length shape.made)
  pub claimed : claim.leaves (exit_of shape) vector
  pub scene : IsScene ks (length code.vars) (scene_of shape)
  pub shows : Shows names vector None (scene_of shape) (left_with code claim.origin m content)
  pub returned : IsReturned shape.returned content result
  pub typed : IsTyped claim.file code (view_of code claim.origin m)
  pub suits_result : (v : Value) (k : Param) → result ≡ Some v → code.result ≡ Some k
      → suits (length m.world.accounts) k v ≡ true
