-- The parts of what comes after the arguments of a call that does more than the call.
use Rattle.std.proofs.Common.{◌≡◌, ℕ, ◌+◌, ◌≤◌, List, [], ◌∷◌, ◌++◌, length, map, drop, refl, ap, ◌∙◌}
use Rattle.std.proofs.lemmas.List.{drop_all}
use Rattle.pungi_base.specs.declared.pos.Pos.{Pos}
use Rattle.pungi_api.specs.declared.param.Param.{Param}
use Rattle.pungi_resolved.specs.declared.output_step.OutputStep.{OutputStep}
use Rattle.pungi_resolved.specs.declared.value.Value.{Value as Node}
use Rattle.pungi_resolved.specs.ValueView.{value_view}
use Rattle.pungi_code.specs.declared.code.Line.{Line}
use Rattle.pungi_layout.specs.code.ExprCode.{missing_code, steps_code, result_code, outputs_code}
use Rattle.pungi_layout.specs.code.Sizes.{missing_size, outputs_size}
use Rattle.pungi_layout.specs.code.Temporaries.{temp}
use Rattle.pungi_layout.proofs.code.ExprLengths.{steps_long}
use Rattle.pungi_emit.proofs.expr.ExprCode.{glued, grown, moved}

-- ---- the branches on arguments that may be NULL, where no argument is left

no_size : (ps : List Param) → missing_size ps [] ≡ 0
no_size [] = refl
no_size (q ∷ ps) = refl

no_code : (nl d : ℕ) (p : Pos) (pc other : ℕ) (ps : List Param) → missing_code nl d p pc other ps [] ≡ []
no_code nl d p pc other [] = refl
no_code nl d p pc other (q ∷ ps) = refl

pub size_done : (ps : List Param) (xs : List Node) (i : ℕ) → length xs ≤ i
    → missing_size ps (map value_view (drop i xs)) ≡ 0
size_done ps xs i h = ap (λ ys. missing_size ps (map value_view ys)) (drop_all i xs h) ∙ no_size ps

pub code_done : (nl d : ℕ) (p : Pos) (pc other : ℕ) (ps : List Param) (xs : List Node) (i : ℕ) → length xs ≤ i
    → missing_code nl d p pc other ps (map value_view (drop i xs)) ≡ []
code_done nl d p pc other ps xs i h =
    ap (λ ys. missing_code nl d p pc other ps (map value_view ys)) (drop_all i xs h) ∙ no_code nl d p pc other ps

-- ---- the steps after a call that writes variables

pub steps_grown : (x y : ℕ) (p : Pos) (end : ℕ) (steps : List OutputStep) (c0 c1 : List Line)
    → c1 ≡ c0 ++ steps_code x y p (length c0) end steps → length c1 ≡ length c0 + outputs_size steps
steps_grown x y p end steps c0 c1 e =
    grown c0 c1 (steps_code x y p (length c0) end steps) (outputs_size steps) e (steps_long steps x y p (length c0) end)

pub outputs_emitted : (nl d t end : ℕ) (p : Pos) (steps : List OutputStep) (c0 c1 c2 : List Line) →
    end ≡ length c0 + outputs_size steps →
    c1 ≡ c0 ++ steps_code (temp nl d 0) (temp nl (d + 1) 0) p (length c0) end steps →
    c2 ≡ c1 ++ result_code t p (length c1) →
    c2 ≡ c0 ++ outputs_code nl d t p (length c0) steps
outputs_emitted nl d t end p steps c0 c1 c2 h e f =
    let x = temp nl d 0 in
    let y = temp nl (d + 1) 0 in
    let at = length c0 + outputs_size steps in
    let n = steps_grown x y p end steps c0 c1 e in
    let e' = e ∙ ap (λ m. c0 ++ steps_code x y p (length c0) m steps) h in
    glued c0 c1 c2 (steps_code x y p (length c0) at steps) (result_code t p at) e'
    (moved (result_code t p) c1 c2 at n f)
