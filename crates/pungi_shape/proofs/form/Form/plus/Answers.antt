use Rattle.pungi_shape.proofs.FormLemmas.{plus_dense, plus_sparse, plus_storable}
use Rattle.pungi_shape.proofs.form.Form.plus.Goals as goal

pub sum-requires-clause-storable : goal.sum-requires-clause-storable
sum-requires-clause-storable c =
    rw (c.as_slice.ensures, c.as_slice-2.ensures) (plus_storable _ _ _ _ _ _ c.self.view_is c.other.view_is
    c.requires.width c.self.invariant c.other.invariant c.requires.storable)

pub invariant_of-result : goal.invariant_of-result
invariant_of-result c =
    let s = rw (c.as_slice.ensures, c.as_slice-2.ensures) at c.in_ok-factors.ensures in
    plus_sparse _ _ _ _ _ _ _ c.self.view_is c.other.view_is c.requires.width c.self.invariant c.other.invariant s

pub returns : goal.returns
returns c =
    let s = rw (c.as_slice.ensures, c.as_slice-2.ensures) at c.in_ok-factors.ensures in
    plus_dense _ _ _ _ _ _ _ c.self.view_is c.other.view_is c.requires.width s
