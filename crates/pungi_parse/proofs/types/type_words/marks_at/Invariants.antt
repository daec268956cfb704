use Rattle.std.proofs.Common.{◌≡◌, get_or, false, drop}
use Rattle.std.specs.Prelude.{◌||◌}
use Rattle.pungi_base.specs.declared.names.Name.{Name}
use Rattle.pungi_tree.specs.TypeWords.{is_among}
use Rattle.pungi_parse.proofs.types.type_words.marks_at.Given as goal

abbrev pub invariant-loop-word : goal.invariant-loop-word
invariant-loop-word l =
    (w : Name) → (get_or l.marks.items w.0 false || is_among (drop l.word-index l.words) w) ≡ is_among l.words w
