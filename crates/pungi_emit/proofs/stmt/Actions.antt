-- What a block stands for.
use Rattle.std.proofs.Common.{◌≡◌, ◌<◌, map, rules, Vec, arith}
use denote.Param.Weighed.{most}
use Rattle.std.proofs.lemmas.Grind.{common_steps}
use Rattle.std.specs.declared.alloc.Global.{Global}
use Rattle.pungi_base.specs.declared.pos.Pos.{Pos}
use Rattle.pungi_resolved.specs.Actions as stmt
use Rattle.pungi_resolved.specs.ActionView.{action_view, actions_of}
use Rattle.pungi_resolved.specs.declared.action.Action.{Action, size-Action}
use Rattle.pungi_resolved.specs.declared.action.ActionNode.TheVariants.{Block}
use Rattle.pungi_resolved.specs.declared.action.ActionNode.TheViews.{the_lemmas, sized-Block, size_is-Action}
use Rattle.pungi_resolved.specs.declared.action.ActionNode.TheFolds.{fold_out-Action, fold_out-ActionNode}
use Rattle.pungi_resolved.specs.declared.action.ActionNode.TheFolds.{fold-roll-ActionNode, fold-roll-Action}

pub block_view : (a : Action) (list : Vec Action Global) (q : Pos) → a.node ≡ Block list q
    → action_view a ≡ stmt.block a.pos (actions_of (map action_view list.items)) q
block_view a list q h =
    search (rules, the_lemmas, fold_out-Action, fold_out-ActionNode, fold-roll-ActionNode, fold-roll-Action)

-- the statements of a block are smaller
pub block_size : (a : Action) (list : Vec Action Global) (q : Pos) → a.node ≡ Block list q
    → most size-Action list.items < size-Action a
block_size a list q h =
    first_of (
      search (rules, the_lemmas, sized-Block, size_is-Action),
      grind
          (arith, common_steps, the_lemmas, sized-Block, size_is-Action),
    )
