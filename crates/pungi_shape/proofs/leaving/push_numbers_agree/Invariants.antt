use Rattle.std.proofs.Common.{◌≡◌, ◌+◌, ◌≤◌, ◌++◌, drop}
use Rattle.pungi_shape.specs.Exits.{beside, numbers_agree}
use Rattle.pungi_shape.specs.Scenes.{number_forms}
use Rattle.pungi_shape.specs.Shapes.{count_of_numbers}
use Rattle.pungi_shape.proofs.leaving.push_numbers_agree.Given as goal

-- with the forms of those that are left these are all forms
abbrev pub invariant-loop-i : goal.invariant-loop-i
invariant-loop-i l = record {
  after : l.from ≤ l.k;
  count : l.k + count_of_numbers (drop l.i l.entry) ≡ l.from + count_of_numbers l.entry;
  forms : l.forms ++ numbers_agree l.scene (beside (drop l.i l.entry) (number_forms l.scene.width l.k
      (drop l.i l.entry)) (drop l.i l.atoms))
      ≡ l.initial.forms ++ numbers_agree l.scene (beside l.entry (number_forms l.scene.width l.from l.entry) l.atoms);
}
