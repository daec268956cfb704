-- The instructions after the arguments of a call of the API that does more than the call, in parts.
--   front_missing ps, front_line x p pc other ps    how many branches there are on an argument of the first of the
--                                                   parameters that are left, and the branch
--   written_line p l a          a local gets such a value
--   with_outputs_code nl d t p pc g vs steps    a call that ends with a number, and the steps after it
use Rattle.std.specs.Prelude.{ℕ, ◌+◌, List, [], ◌∷◌, ◌++◌, Some}
use Rattle.pungi_base.specs.declared.pos.Pos.{Pos}
use Rattle.pungi_api.specs.Signatures.{output_signature}
use Rattle.pungi_api.specs.declared.answer.Answer.{Answer}
use Rattle.pungi_api.specs.declared.param.Param.{Param}
use Rattle.pungi_api.specs.declared.signature.Signature.{Signature}
use Rattle.pungi_resolved.specs.declared.output_step.OutputStep.{OutputStep}
use Rattle.pungi_resolved.specs.Values as expr
use Rattle.pungi_code.specs.declared.code.Line.{Line}
use Rattle.pungi_code.specs.declared.instr.Instr.TheVariants.{Api}
use Rattle.pungi_layout.specs.code.ExprCode.{line, to_var, missing_line, row_code, outputs_code}
use Rattle.pungi_layout.specs.code.Sizes.{missing_one}
use Rattle.pungi_layout.specs.code.Temporaries.{temp}

abbrev pub front_missing : List Param → ℕ
front_missing [] = 0
front_missing (q ∷ ps) = missing_one q

abbrev pub front_line : ℕ → Pos → ℕ → ℕ → List Param → List Line
front_line x p pc other [] = []
front_line x p pc other (q ∷ ps) = missing_line x p pc other q

abbrev pub written_line : Pos → ℕ → Answer → Line
written_line p l a = line p (Api (Some (to_var l)) (output_signature a) [])

abbrev pub with_outputs_code : ℕ → ℕ → ℕ → Pos → ℕ → Signature → List expr.Value → List OutputStep → List Line
with_outputs_code nl d t p pc g vs steps =
    row_code nl d (temp nl d 0) p g vs ++ outputs_code nl d t p (pc + 1) steps
