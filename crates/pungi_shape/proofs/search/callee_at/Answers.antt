use Rattle.std.proofs.Common.{◌≡◌, ◌⊎◌, inl, inr, ◌∙◌, ℕ, List, ◌∷◌, [], sym, ap, subst, arith}
use Rattle.pungi_code.specs.declared.code.Code.{Code}
use Rattle.pungi_shape.specs.declared.point.Point.{Point}
use Rattle.pungi_shape.specs.declared.shape.Shape.{Shape}
use Rattle.pungi_shape.specs.Liveness.{instr_at}
use Rattle.pungi_shape.specs.Named.{callee_of}
use Rattle.pungi_shape.specs.Places.{Place, at_entry, after_call, instr_in}
use Rattle.pungi_shape.specs.Programs.{calls_from}
use Rattle.pungi_shape.proofs.CallGoals.{after-calls, entry-calls, large-calls}
use Rattle.pungi_shape.proofs.search.callee_at.Goals as goal

-- an entry, or a place after a call
none_called : (code : Code) (others : ℕ → List Shape) (q : Place)
    → ((x : Shape) × (q ≡ at_entry x)) ⊎ ((p : Point) × (s : Shape) × (x : Shape) × (q ≡ after_call p s x))
    → calls_from code others q ≡ []
none_called code others q (inl h) =
    subst (λ (r : Place). calls_from code others r ≡ []) (sym h.1) (entry-calls code others h.0)
none_called code others q (inr h) =
    subst (λ (r : Place). calls_from code others r ≡ []) (sym h.3) (after-calls code others h.0 h.1 h.2)

pub returns-in_default : goal.returns-in_default
returns-in_default c = λ others lists. (
    let code = c.args.code.now in
    let q = c.args.place.now in
    let g = c.in-Some-Call.g in
    let calls : callee_of (instr_at code (instr_in q)) ≡ g ∷ [] =
    ap (λ (r : Place). callee_of (instr_at code (instr_in r))) c.in-AtPoint.is
    ∙ ap callee_of (sym c.in-Some-Call.ensures.0 ∙ c.in-Some-Call.field-0-is) in
    large-calls code others q g lists calls (omega (arith, c.if-g.false))
    )

pub returns-in-AtEntry : goal.returns-in-AtEntry
returns-in-AtEntry c = λ others lists. none_called c.args.code.now others c.args.place.now c.in-AtEntry.is

pub returns-in-AtEntry-2 : goal.returns-in-AtEntry-2
returns-in-AtEntry-2 c = λ others lists. none_called c.args.code.now others c.args.place.now c.in-AtEntry.is
