-- Nodes that are tested to be the same are.
use Rattle.std.proofs.Common.{◌≡◌, true, false, refl, ap}
use Rattle.std.proofs.lemmas.Bool.{eqb-true}
use Rattle.pungi_symbol.specs.declared.states.node.Node.{Node}
use Rattle.pungi_symbol.specs.declared.states.node.Node.TheVariants as nodes
use Rattle.pungi_symbol.specs.states.Terms.{is_zero_node, is_same_node}

pub zero_node : (n : Node) → is_zero_node n ≡ true → n ≡ nodes.Zero
zero_node nodes.Zero e = refl
zero_node (nodes.Token t) e = absurd (let bad : false ≡ true = e in cc)
zero_node (nodes.Computed j) e = absurd (let bad : false ≡ true = e in cc)

pub same_node : (m n : Node) → is_same_node m n ≡ true → m ≡ n
same_node nodes.Zero nodes.Zero e = refl
same_node nodes.Zero (nodes.Token u) e = absurd (let bad : false ≡ true = e in cc)
same_node nodes.Zero (nodes.Computed j) e = absurd (let bad : false ≡ true = e in cc)
same_node (nodes.Token t) nodes.Zero e = absurd (let bad : false ≡ true = e in cc)
same_node (nodes.Token t) (nodes.Token u) e = ap nodes.Token (eqb-true t u e)
same_node (nodes.Token t) (nodes.Computed j) e = absurd (let bad : false ≡ true = e in cc)
same_node (nodes.Computed i) nodes.Zero e = absurd (let bad : false ≡ true = e in cc)
same_node (nodes.Computed i) (nodes.Token u) e = absurd (let bad : false ≡ true = e in cc)
same_node (nodes.Computed i) (nodes.Computed j) e = ap nodes.Computed (eqb-true i j e)
