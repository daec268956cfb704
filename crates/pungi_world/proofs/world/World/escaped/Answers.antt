use Rattle.std.proofs.Common.{◌≡◌, List, arith, ap, ◌∙◌, count_by, get_or}
use Rattle.std.specs.Prelude.{Option, if◌then◌else◌}
use Rattle.std.proofs.lemmas.Int.{ints}
use Rattle.pungi_base.specs.declared.value.Value.{Value}
use Rattle.pungi_world.specs.declared.account.Account.{Account}
use Rattle.pungi_world.specs.declared.slot.SlotState.{SlotState}
use Rattle.pungi_world.specs.World.{fresh_account}
use Rattle.pungi_world.specs.Escapes.{holds_object, held_now, held_at_entry, is_returned, owned_result}
use Rattle.pungi_world.specs.Escapes.{taken_at_entry}
use Rattle.pungi_world.proofs.world.World.escaped.Goals as goal

pub returns : goal.returns
returns c =
    let handed : (get_or c.as_slice.result.now c.args.object fresh_account).handed
    ≡ (get_or c.args.self.now.accounts c.args.object fresh_account).handed =
    ap (λ (l : List Account). (get_or l c.args.object fresh_account).handed) c.as_slice.ensures in
    let now : c.count_held-now.result ≡ held_now c.args.self.now c.args.object =
    c.count_held-now.ensures ∙ ap (λ (l : List SlotState). count_by (λ s. holds_object s.held c.args.object) l)
    c.as_slice-slots.ensures in
    let before : c.count_held_at_entry-before.result ≡ held_at_entry c.args.self.now c.args.object =
    c.count_held_at_entry-before.ensures ∙ ap (λ (l : List SlotState). count_by
    (λ s. holds_object s.at_entry c.args.object) l) c.as_slice-slots.ensures in
    let given : c.returned_count-given.result
    ≡ (if is_returned (owned_result c.args.terms.now c.args.returned) c.args.object then 1 else 0) =
    c.returned_count-given.ensures.count
    ∙ ap (λ (v : Option Value). if is_returned v c.args.object then 1 else 0) c.owned_result.ensures in
    let taken : c.count_taken-taken.result ≡ taken_at_entry c.args.terms.now c.args.entry.now c.args.object =
    c.count_taken-taken.ensures.count in
    omega (arith, ints, c.requires.countable.low c.args.object, c.requires.countable.high c.args.object)
