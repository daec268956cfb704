-- Lists of values, at places or exit classes, over the members of a domain.
--   AreNothing least member width ws ss     the values have these widths, and are of no vectors
--   AreEntered least member width ws es ss  so they are but at the entries es, where every vector is
--   IsGrownAt least member width old k value new
--                                           the value at a number took one in, and all others stayed
use Rattle.std.specs.Prelude.{◌≡◌, ℕ, Bool, List, Some, length, slice_get, slice_set}
use Rattle.std.specs.List.{All, slice_index_or}
use Rattle.pungi_domain.specs.Builds.{Covers}
use Rattle.pungi_domain.specs.Spans.{Zero}
use Rattle.pungi_domain.specs.Vectors.{Vector, Vectors, Either}

pub record AreNothing {D : Type 0} (least : Bool) (member : D → Vectors) (width : D → ℕ) (ws : List ℕ) (ss : List D)
    : Type 0 where
  pub count : length ss ≡ length ws
  pub widths : (k : ℕ) (s : D) → slice_get ss k ≡ Some s → width s ≡ slice_index_or ws k 0
  pub nothing : (k : ℕ) (s : D) → slice_get ss k ≡ Some s
      → Covers least (slice_index_or ws k 0) (Zero (slice_index_or ws k 0)) (member s)

pub record AreEntered {D : Type 0} (least : Bool) (member : D → Vectors) (width : D → ℕ) (ws es : List ℕ) (ss : List D)
    : Type 0 where
  pub count : length ss ≡ length ws
  pub widths : (k : ℕ) (s : D) → slice_get ss k ≡ Some s → width s ≡ slice_index_or ws k 0
  pub entries : All (λ k. (s : D) → slice_get ss k ≡ Some s → (v : Vector) → member s v) es
  pub others : (k : ℕ) (s : D) → All (λ e. e ≡ k → ⊥) es → slice_get ss k ≡ Some s
      → Covers least (slice_index_or ws k 0) (Zero (slice_index_or ws k 0)) (member s)

pub record IsGrownAt {D : Type 0} (least : Bool) (member : D → Vectors) (width : D → ℕ) (old : List D) (k : ℕ)
    (value : D) (new : List D) : Type 0 where
  pub target : D
  pub target_is : slice_get old k ≡ Some target
  pub grown : D
  pub grown_is : new ≡ slice_set old k grown
  pub same_width : width grown ≡ width target
  pub covers : Covers least (width target) (Either (member target) (member value)) (member grown)
