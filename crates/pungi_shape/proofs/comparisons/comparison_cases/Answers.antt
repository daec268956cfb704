use Rattle.std.proofs.Common.{sym, subst}
use Rattle.pungi_shape.specs.Bounds.{IsHeld}
use Rattle.pungi_shape.specs.declared.holding.Holding.{Holding}
use Rattle.pungi_shape.proofs.TokenLemmas.{holding_of-held}
use Rattle.pungi_shape.proofs.comparisons.comparison_cases.Goals as goal

pub pointer_comparison-requires-clause-first : goal.pointer_comparison-requires-clause-first
pointer_comparison-requires-clause-first c =
    subst (λ (h : Holding). IsHeld c.args.scene h) (sym c.holding_of-h.ensures)
    (holding_of-held c.args.scene c.args.a c.requires.scene)

pub pointer_comparison-requires-clause-second : goal.pointer_comparison-requires-clause-second
pointer_comparison-requires-clause-second c =
    subst (λ (h : Holding). IsHeld c.args.scene h) (sym c.holding_of-k.ensures)
    (holding_of-held c.args.scene c.args.b c.requires.scene)
