-- What a search of a function gives, where classes of those that it calls are known.
use Rattle.std.proofs.Common.{◌≡◌, ℕ, List, length, Some, None, slice_get, subst, arith}
use Rattle.std.specs.List.{IsAmong, flat_map}
use Rattle.std.proofs.lemmas.List.Elements.{All-weaker}
use Rattle.pungi_code.specs.declared.code.Code.{Code}
use Rattle.pungi_code.specs.declared.code.Codes.{Codes}
use Rattle.pungi_code.specs.Run.{code_at}
use Rattle.pungi_code.specs.WellFormed.{AreWellFormed}
use Rattle.pungi_shape.specs.declared.shape.Shape.{Shape}
use Rattle.pungi_shape.specs.AllClasses.{AreExitsBy, AreFoundClasses, AreFoundNow, HaveCallees}
use Rattle.pungi_shape.specs.Classes.{AreClassesOf, ClassLists, classes_of, list_of}
use Rattle.pungi_shape.specs.Edges.{to_exit}
use Rattle.pungi_shape.specs.FoundBy.{IsFoundBy, IsLargeBy}
use Rattle.pungi_shape.specs.Named.{callees_in}
use Rattle.pungi_shape.specs.Programs.{IsFound, IsTooLarge}
use Rattle.pungi_shape.proofs.CalleeLemmas.{callee-below, called-lines, lines-called}
use Rattle.pungi_shape.proofs.ClassLemmas.{CallsLacking, CallsListed, callee-large, have-callees, lacks-large}
use Rattle.pungi_shape.proofs.FoundByLemmas.{AreLeft, left-found, left-too_large}
use Rattle.pungi_shape.proofs.sound.Members.{of_all}

left-of : (codes : Codes) (cs : ClassLists) (f : ℕ) → HaveCallees codes cs f → AreLeft codes (classes_of cs) f
left-of codes cs f have = record {
  found = λ h x called there. (
      let has = have h called in
      of_all (λ y. IsFound codes h (to_exit y)) has.0 x has.1.1.found
      (subst (λ o. IsAmong (list_of o) x) has.1.0 there)
      );
}

module _ (codes : Codes) (cs : ClassLists) (f : ℕ) (code : Code) (well : AreWellFormed codes)
    (is_code : code_at codes f ≡ Some code) (count : length cs ≡ length codes.codes)
    (known : (g : ℕ) (xs : List Shape) → slice_get cs g ≡ Some (Some xs) → AreFoundClasses codes g xs)
    (large : (g : ℕ) → slice_get cs g ≡ Some None → IsTooLarge codes g) where
  -- one of the functions that it calls has no classes
  pub searched-lacking : CallsLacking cs (flat_map callees_in code.instrs) → IsTooLarge codes f
  searched-lacking lacks =
      let g = lacks.0 in
      let below = callee-below codes f g code well is_code lacks.1 in
      callee-large codes f g (lines-called codes f g code is_code lacks.1)
      (lacks-large codes cs g (omega (arith, below, count)) (large g) lacks.2)

  module _ (listed : CallsListed cs (flat_map callees_in code.instrs)) where
    searched-callees : HaveCallees codes cs f
    searched-callees =
        have-callees codes cs f known (λ g called. listed g (called-lines codes f g code is_code called))

    pub searched-large : IsLargeBy codes (classes_of cs) f → IsTooLarge codes f
    searched-large by = left-too_large codes (classes_of cs) f (left-of codes cs f searched-callees) by

    pub searched-now : (xs : List Shape) → AreClassesOf codes f xs → AreExitsBy codes (classes_of cs) f xs
        → AreFoundNow codes cs f xs
    searched-now xs classes exits = record {
      known = record {
        classes = classes;
        found = All-weaker (λ x. IsFoundBy codes (classes_of cs) f (to_exit x)) (λ x. IsFound codes f (to_exit x))
            (λ x by. left-found codes (classes_of cs) f (left-of codes cs f searched-callees) (to_exit x) by)
            xs exits.found;
      };
      callees = searched-callees;
      exits = exits;
    }
