-- What a store leaves does not depend on the values that waited for it.
use Rattle.std.proofs.Common.{◌≡◌, List, Result, Ok, Err, refl}
use Rattle.pungi_base.specs.declared.choice.Choice.{Choice}
use Rattle.pungi_base.specs.declared.names.Name.{Name}
use Rattle.pungi_base.specs.declared.pos.Pos.{Pos}
use Rattle.pungi_base.specs.declared.value.Value.{Value}
use Rattle.pungi_base.specs.declared.value.Value.TheVariants as value
use Rattle.pungi_types.specs.declared.kind.ValueKind.{ValueKind}
use Rattle.pungi_world.specs.declared.effect.Effect.{Effect}
use Rattle.pungi_world.specs.declared.halt.Halt.{Halt}
use Rattle.pungi_world.specs.declared.halt.Halt.TheVariants as halt
use Rattle.pungi_world.specs.declared.slot.Slot.{Slot}
use Rattle.pungi_world.specs.declared.slot.Slot.TheVariants.{Field}
use Rattle.pungi_world.specs.declared.world.World.{World}
use Rattle.pungi_world.specs.Slots.{store_effect}
use Rattle.pungi_meaning.specs.Exprs.{after_store, store_field}
use Rattle.pungi_meaning.specs.Todo.{Todo, State}
use Rattle.pungi_meaning.specs.Values.{slot_kind}
use Rattle.pungi_meaning.specs.Work.{after_effect, unused}

effect_same : (p : Pos) (slot : Slot) (v : Value) (others vs : List Value) (k : List Todo) (s : State)
    (r : Result (Effect × World) Halt)
    → after_effect p r (after_store p slot v others k) (record s { values = vs })
    ≡ after_effect p r (after_store p slot v others k) s
effect_same p slot v others vs k s (Ok r) = refl
effect_same p slot v others vs k s (Err halt.Stopped) = refl
effect_same p slot v others vs k s (Err halt.NeedsChoice) = refl
effect_same p slot v others vs k s (Err halt.Memory) = refl

pub field_same : (choices : List Choice) (p : Pos) (kind : ValueKind) (base : Value) (tag field : Name) (v : Value)
    (others vs : List Value) (k : List Todo) (s : State)
    → store_field choices p kind base tag field v others k (record s { values = vs })
    ≡ store_field choices p kind base tag field v others k s
field_same choices p kind (value.Object o) tag field v others vs k s =
    effect_same p (Field o tag field) v others vs k s
    (store_effect s.world (Field o tag field) (slot_kind kind) v (unused choices s))
field_same choices p kind value.Null tag field v others vs k s = refl
field_same choices p kind (value.Int n) tag field v others vs k s = refl
field_same choices p kind value.Text tag field v others vs k s = refl
