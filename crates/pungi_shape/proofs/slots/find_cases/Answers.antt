use Rattle.std.proofs.Common.{sym, subst}
use Rattle.pungi_shape.specs.Bounds.{IsHeld}
use Rattle.pungi_shape.specs.declared.holding.Holding.{Holding}
use Rattle.pungi_shape.proofs.TokenLemmas.{holding_of-held}
use Rattle.pungi_shape.proofs.slots.find_cases.Goals as goal

pub find_field_cases-requires-clause-held : goal.find_field_cases-requires-clause-held
find_field_cases-requires-clause-held c =
    subst (λ (h : Holding). IsHeld c.args.scene h) (sym c.holding_of.ensures)
    (holding_of-held c.args.scene c.in-Field.base c.requires.scene)
