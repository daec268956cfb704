-- What a value of the program stands for.
--   value_view, place_view      what it stands for
--   boxed_view, optional_view    a value in a box, also where it may be missing
--   values_of vs                a list of arguments, as `Resolved` writes it
--   Node                        a value that waits for its place
--   node_step, value_step, place_step    one level of it
use Rattle.std.specs.Prelude.{List, [], ◌∷◌, Option, option_map, Box}
use Rattle.std.specs.declared.alloc.Global.{Global}
use Rattle.pungi_base.specs.declared.pos.Pos.{Pos}
use Rattle.pungi_resolved.specs.Values as plain
use Rattle.pungi_resolved.specs.declared.value.Place.TheOpen.{Place-F, ValueNode-F, Value-F}
use Rattle.pungi_resolved.specs.declared.value.Value.{Value, fold-Value}
use Rattle.pungi_resolved.specs.declared.value.Place.{Place, fold-Place}

abbrev pub values_of : List plain.Value → plain.Values
values_of [] = plain.no_values
values_of (v ∷ vs) = plain.value_and v (values_of vs)

abbrev pub Node : Type 0
Node = Pos → plain.Value

abbrev pub node_step : ValueNode-F plain.Place Node plain.Value → Node
node_step (ValueNode-F.Constant n) = λ p. plain.constant p n
node_step (ValueNode-F.Text ns) = λ p. plain.text_of p ns.items
node_step ValueNode-F.Null = λ p. plain.null_of p
node_step (ValueNode-F.Static n) = λ p. plain.static_of p n
node_step (ValueNode-F.Module n) = λ p. plain.module_of p n
node_step (ValueNode-F.Read k place) = λ p. plain.read p k place
node_step (ValueNode-F.Inner v) = λ p. plain.inner p v.value
node_step (ValueNode-F.Signed m k v) = λ p. plain.signed p m k v.value
node_step (ValueNode-F.Negated v) = λ p. plain.negated p v.value
node_step (ValueNode-F.Stepped b m k place) = λ p. plain.stepped p b m k place
node_step (ValueNode-F.Emptied k place) = λ p. plain.emptied p k place
node_step (ValueNode-F.Computed m k a b) = λ p. plain.computed p m k a.value b.value
node_step (ValueNode-F.Compared m a b) = λ p. plain.compared p m a.value b.value
node_step (ValueNode-F.Joined m a b) = λ p. plain.joined_by p m a.value b.value
node_step (ValueNode-F.Stored k place v) = λ p. plain.stored p k place v.value
node_step (ValueNode-F.Updated m w k place v) = λ p. plain.updated p m w k place v.value
node_step (ValueNode-F.Chosen c a b) = λ p. plain.chosen p c.value a.value b.value
node_step (ValueNode-F.Converted k v) = λ p. plain.converted p k v.value
node_step (ValueNode-F.Cast v) = λ p. plain.cast_of p v.value
node_step (ValueNode-F.Dropped v) = λ p. plain.dropped p v.value
node_step (ValueNode-F.Called f vs) = λ p. plain.called p f (values_of vs.items)
node_step (ValueNode-F.CalledRow n g vs) = λ p. plain.called_row p n g (values_of vs.items)
node_step (ValueNode-F.CalledUnlessNull n g vs) = λ p. plain.called_unless_null p n g (values_of vs.items)
node_step (ValueNode-F.CalledWithOutputs n g vs steps) =
    λ p. plain.called_with_outputs p n g (values_of vs.items) steps

abbrev pub place_step : Place-F plain.Place Node plain.Value → plain.Place
place_step (Place-F.Local p x) = plain.local_place p x
place_step (Place-F.Global p n) = plain.global_place p n
place_step (Place-F.Field p base tag field) = plain.field_place p base.value tag field

abbrev pub value_step : Value-F plain.Place Node plain.Value → plain.Value
value_step v = v.node v.pos

abbrev pub value_view : Value → plain.Value
value_view = fold-Value plain.Place Node plain.Value place_step node_step value_step

abbrev pub place_view : Place → plain.Place
place_view = fold-Place plain.Place Node plain.Value place_step node_step value_step

abbrev pub boxed_view : Box Value Global → plain.Value
boxed_view v = value_view v.value

abbrev pub optional_view : Option (Box Value Global) → Option plain.Value
optional_view o = option_map boxed_view o
