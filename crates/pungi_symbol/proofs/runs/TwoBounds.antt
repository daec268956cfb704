-- Two bounds that no numbers meet together.
use Rattle.std.proofs.Common.{◌≡◌, pos, ◌+ℤ◌, ◌<ℤ◌, true, ap, arith}
use Rattle.std.proofs.lemmas.Int.{ints}
use Rattle.pungi_symbol.specs.declared.states.limit.Limit.{Limit}
use Rattle.pungi_symbol.specs.states.Terms.{Table, node_value, is_same_node}
use Rattle.pungi_symbol.specs.runs.Fits.{IsMet}
use Rattle.pungi_symbol.proofs.states.Nodes.{same_node}

pub no_numbers : (a b : Limit) → is_same_node a.x b.y ≡ true → is_same_node a.y b.x ≡ true → (a.c +ℤ b.c) <ℤ pos 0
    → (table : Table) → IsMet table a → IsMet table b → ⊥
no_numbers a b e f below table h k =
    let x : node_value table a.x ≡ node_value table b.y = ap (node_value table) (same_node a.x b.y e) in
    let y : node_value table a.y ≡ node_value table b.x = ap (node_value table) (same_node a.y b.x f) in
    absurd (omega (arith, ints, x, y, h, k, below))
