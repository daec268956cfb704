-- The lines that print a witness: its entry, and each choice that was used with its place.
--   line_end                 the byte that ends a line
--   place_text at            line and column
--   value_text, choice_text  a value, a choice
--   argument_line x          the line of an argument
--   choice_line c            the line of a choice that was used at a place
--   witness_text w used      all lines of a witness whose choices were used at these places
use Rattle.std.specs.Prelude.{ℕ, List, ◌∷◌, [], ◌++◌, codes, zip}
use Rattle.std.specs.List.{flat_map}
use Rattle.std.specs.Fmt.{decimal, signed_decimal}
use Rattle.pungi_base.specs.declared.pos.Pos.{Pos}
use Rattle.pungi_base.specs.declared.value.Value.{Value}
use Rattle.pungi_base.specs.declared.value.Value.TheVariants as value
use Rattle.pungi_base.specs.declared.choice.Choice.{Choice}
use Rattle.pungi_base.specs.declared.choice.Choice.TheVariants as choice
use Rattle.pungi_base.specs.declared.witness.Witness.{Witness}

abbrev pub line_end : List ℕ
line_end = 10 ∷ []

abbrev pub place_text : Pos → List ℕ
place_text at = decimal at.line ++ codes ":" ++ decimal at.col

abbrev pub value_text : Value → List ℕ
value_text value.Null = codes "null"
value_text (value.Object k) = codes "object " ++ decimal k
value_text (value.Int n) = codes "int " ++ signed_decimal n
value_text value.Text = codes "text"

abbrev pub choice_text : Choice → List ℕ
choice_text choice.Null = codes "null"
choice_text (choice.Object k) = codes "object " ++ decimal k
choice_text (choice.Int n) = codes "int " ++ signed_decimal n
choice_text choice.Text = codes "text"
choice_text (choice.Given k) = codes "given " ++ decimal k
choice_text (choice.Failed k) = codes "failed " ++ decimal k

abbrev pub argument_line : Value → List ℕ
argument_line x = codes "  argument " ++ value_text x ++ line_end

abbrev pub choice_line : Pos × Choice → List ℕ
choice_line c = codes "  " ++ place_text c.0 ++ codes " " ++ choice_text c.1 ++ line_end

abbrev pub witness_text : Witness → List Pos → List ℕ
witness_text w used =
    codes "  objects " ++ decimal w.input.objects ++ line_end ++ flat_map argument_line w.input.args
    ++ flat_map choice_line (zip used w.choices)
