-- Exit classes of the functions of a file, as lists.
use Rattle.std.proofs.Common.{ℕ, ◌<◌, ◌^◌, List, length, ap, arith}
use Rattle.std.specs.Prelude.{is_some}
use Rattle.std.proofs.lemmas.List.Elements.{All-weaker}
use Rattle.pungi_code.specs.declared.code.Codes.{Codes}
use Rattle.pungi_shape.specs.declared.shape.Shape.{Shape}
use Rattle.pungi_shape.specs.Classes.{AreClasses, AreClassesOf, AreClassLists, IsClassList, IsClassOf}
use Rattle.pungi_shape.specs.Leaving.{IsExitClass}
use Rattle.pungi_shape.proofs.NamedLemmas.{code-within}
use Rattle.pungi_shape.proofs.RankLemmas.{among-all}

pub class-exit : (codes : Codes) (g : ℕ) (x : Shape) → IsClassOf codes g x → IsExitClass x
class-exit codes g x h =
    record { vars = h.exit.vars; slots = h.exit.slots; tokens = h.exit.tokens; narrow = h.exit.narrow }

pub class-list : (codes : Codes) (g : ℕ) (xs : List Shape) → length codes.codes < 2 ^ 32 → AreClassesOf codes g xs
    → IsClassList g xs
class-list codes g xs few h = record {
  rise = h.rise;
  each = All-weaker (IsClassOf codes g) IsExitClass (class-exit codes g) xs h.each;
  few = h.few;
  small = λ x there. (
      let one = among-all (IsClassOf codes g) xs x h.each there in
      let lt = code-within codes g (ap is_some one.is_code) in
      omega (arith, few, lt)
      );
}

pub class-lists : (codes : Codes) (others : ℕ → List Shape) → length codes.codes < 2 ^ 32 → AreClasses codes others
    → AreClassLists others
class-lists codes others few classes = λ g. class-list codes g (others g) few (classes g)
