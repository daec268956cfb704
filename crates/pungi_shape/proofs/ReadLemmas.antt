-- Whether all is set that is read.
use Rattle.std.proofs.Common.{◌≡◌, ◌∙◌, List, [], ◌∷◌, refl, ap}
use Rattle.std.specs.Prelude.{◌&&◌}
use Rattle.std.specs.List.{list_all}
use Rattle.std.proofs.lemmas.List.Folds.{list_all-append}
use Rattle.pungi_code.specs.declared.atom.Atom.{Atom}
use Rattle.pungi_shape.specs.Cases.{is_set, are_set}
use Rattle.pungi_shape.specs.Parts.{vars_in, vars_in_all}
use Rattle.pungi_shape.specs.Scenes.{Scene}

pub are_set-vars_in_all : (s : Scene) (atoms : List Atom)
    → are_set s (vars_in_all atoms) ≡ list_all (λ a. are_set s (vars_in a)) atoms
are_set-vars_in_all s [] = refl
are_set-vars_in_all s (a ∷ atoms) =
    list_all-append (is_set s) (vars_in a) (vars_in_all atoms)
    ∙ ap (λ b. are_set s (vars_in a) && b) (are_set-vars_in_all s atoms)
