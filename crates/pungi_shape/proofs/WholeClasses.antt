-- The exit classes of a function, where all that is found of it is noted.
use Rattle.std.proofs.Common.{◌≡◌, ◌∙◌, ℕ, ◌≤◌, List, length, Some, subst, arith}
use Rattle.std.specs.Prelude.{get_or}
use Rattle.std.specs.List.{All, IsAmong}
use Rattle.pungi_code.specs.declared.code.Code.{Code}
use Rattle.pungi_code.specs.declared.code.Codes.{Codes}
use Rattle.pungi_code.specs.Run.{code_at}
use Rattle.pungi_shape.specs.declared.search.Found.{Found}
use Rattle.pungi_shape.specs.declared.shape.Shape.{Shape}
use Rattle.pungi_shape.specs.AllClasses.{AreExitsBy}
use Rattle.pungi_shape.specs.Bounds.{IsCodeOfFile}
use Rattle.pungi_shape.specs.Classes.{AreClasses, AreClassesOf, IsClassOf}
use Rattle.pungi_shape.specs.Edges.{to_exit}
use Rattle.pungi_shape.specs.Found.{IsWhole}
use Rattle.pungi_shape.specs.FoundBy.{IsFoundBy}
use Rattle.pungi_shape.specs.Named.{statics_of}
use Rattle.pungi_shape.specs.Ranks.{exits_in}
use Rattle.pungi_shape.specs.Reached.{IsExit, names_in}
use Rattle.pungi_shape.specs.Shapes.{numbers_of_shape}
use Rattle.pungi_shape.proofs.CatalogLemmas.{in_order-all, in_order-rises, length-in_order}
use Rattle.pungi_shape.proofs.ProgramLemmas.{exit-there}

module _ (codes : Codes) (f : ℕ) (code : Code) (is_code : code_at codes f ≡ Some code) (sound : IsCodeOfFile code)
    (others : ℕ → List Shape) (classes : AreClasses codes others) (s : Found)
    (whole : IsWhole codes f code others s) where
  pub whole-classes : AreClassesOf codes f (exits_in s)
  whole-classes = record {
    rise = in_order-rises numbers_of_shape s.exits whole.found.exits;
    each = in_order-all numbers_of_shape s.exits whole.found.exits (IsClassOf codes f) (λ k d lt. record {
      code = code;
      is_code = is_code;
      exit = whole.found.classes k d lt;
      names = whole.found.class_names k d lt;
    });
    few = (let size = length-in_order numbers_of_shape s.exits whole.found.exits in let few = whole.few_exits in
        omega (arith, size, few));
  }

  pub whole-exits-by : AreExitsBy codes others f (exits_in s)
  whole-exits-by = record {
    rise = in_order-rises numbers_of_shape s.exits whole.found.exits;
    found = in_order-all numbers_of_shape s.exits whole.found.exits (λ x. IsFoundBy codes others f (to_exit x))
        whole.found.left;
    all = λ x by. exit-there codes f code is_code sound others classes s whole x by;
  }
