use Rattle.pungi_shape.proofs.FormLemmas.{are_no_factors, is_unit_none, is_unit_one, is_unit_past, is_unit_yes}
use Rattle.pungi_shape.proofs.FormLemmas.{no_factors}
use Rattle.pungi_shape.proofs.form.Form.is_unit.Goals as goal

pub returns-then-k-self-clause-yes : goal.returns-then-k-self-clause-yes
returns-then-k-self-clause-yes c t =
    is_unit_yes _ _ _ _ c.self.view_is (rw c.as_slice.ensures at (c.is_one.ensures.yes t))

pub returns-then-k-self-clause-no : goal.returns-then-k-self-clause-no
returns-then-k-self-clause-no c u =
    c.is_one.ensures.no (rw c.as_slice.ensures (is_unit_one _ _ _ _ c.self.view_is c.self.invariant c.if-k-self.true u))

pub returns-else-k-self-clause-yes : goal.returns-else-k-self-clause-yes
returns-else-k-self-clause-yes c t =
    is_unit_past _ _ _ _ c.self.view_is c.if-k-self.false (no_factors _ _ c.is_empty.ensures t)

pub returns-else-k-self-clause-no : goal.returns-else-k-self-clause-no
returns-else-k-self-clause-no c u =
    are_no_factors _ _ c.is_empty.ensures (is_unit_none _ _ _ _ c.self.view_is c.self.invariant c.if-k-self.false u)
