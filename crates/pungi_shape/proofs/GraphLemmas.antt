-- The code of a function whose program is made; and a function that calls none of its file.
use Rattle.std.proofs.Common.{◌≡◌, ◌∙◌, ◌⊎◌, ℕ, List, [], length, get_or, Option, Some, IsSome, refl, sym, subst, arith}
use Rattle.std.specs.List.{All}
use Rattle.std.proofs.lemmas.List.Elements.{All-nil}
use Rattle.pungi_code.specs.declared.code.Code.{Code}
use Rattle.pungi_code.specs.declared.code.Codes.{Codes}
use Rattle.pungi_code.specs.Run.{code_at}
use Rattle.pungi_code.specs.WellFormed.{IsAlone}
use Rattle.pungi_shape.specs.declared.shape.Shape.{Shape}
use Rattle.pungi_shape.specs.Classes.{AreClasses, AreClassesOf, ClassLists, IsClassOf, classes_of}
use Rattle.pungi_shape.specs.Named.{callees_of}
use Rattle.pungi_shape.specs.Programs.{AreExits, HasManyPlaces, HasWidePlace, IsTooLarge}
use Rattle.pungi_shape.proofs.NamedLemmas.{callees_none, code-within, code_there}
use Rattle.pungi_shape.proofs.WellFormedLemmas.{called-itself}
use Rattle.pungi_shape.proofs.sound.Reaches.{from_itself}

-- the code that is read is that of the function
pub code_here : (codes : Codes) (f : ℕ) (os : List (Option Code)) (o : Option Code) (code : Code) → os ≡ codes.codes
    → IsSome (code_at codes f) → o ≡ get_or os f o → o ≡ Some code → code_at codes f ≡ Some code
code_here codes f os o code same there e is =
    code_there codes f (length codes.codes) os o same refl (code-within codes f there) e ∙ is

-- no exit classes of other functions
none-class : (codes : Codes) (g : ℕ) → AreClassesOf codes g []
none-class codes g = record {
  rise = λ i j d lt below. absurd (omega (arith, below));
  each = All-nil (IsClassOf codes g);
  few = omega arith;
}

pub none-classes : (codes : Codes) (cs : ClassLists) → cs ≡ [] → AreClasses codes (classes_of cs)
none-classes codes cs none =
    subst (λ (l : ClassLists). AreClasses codes (classes_of l)) (sym none) (λ g. none-class codes g)

pub none-exits : (codes : Codes) (f : ℕ) (others : ℕ → List Shape) → IsAlone codes f
    → All (λ g. AreExits codes g (others g)) (callees_of codes f)
none-exits codes f others alone =
    subst (λ (gs : List ℕ). All (λ g. AreExits codes g (others g)) gs) (sym (callees_none codes f alone))
    (All-nil (λ g. AreExits codes g (others g)))

-- how large the programs are of the functions that it reaches
pub large-alone : (codes : Codes) (f : ℕ) → HasManyPlaces codes f ⊎ HasWidePlace codes f → IsTooLarge codes f
large-alone codes f large = record { function = f; is_called = from_itself codes f; large = large }

pub small-alone : (codes : Codes) (f : ℕ) → IsAlone codes f → (HasManyPlaces codes f ⊎ HasWidePlace codes f → ⊥)
    → IsTooLarge codes f → ⊥
small-alone codes f alone small large =
    small (subst (λ g. HasManyPlaces codes g ⊎ HasWidePlace codes g)
    (called-itself codes f large.function alone large.is_called) large.large)
