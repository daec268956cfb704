-- What the node of a value stands for.
--   node_view    a node, which waits for its place
use Rattle.pungi_resolved.specs.Values as plain
use Rattle.pungi_resolved.specs.ValueView.{Node, place_step, node_step, value_step}
use Rattle.pungi_resolved.specs.declared.value.ValueNode.{ValueNode, fold-ValueNode}

abbrev pub node_view : ValueNode → Node
node_view = fold-ValueNode plain.Place Node plain.Value place_step node_step value_step
