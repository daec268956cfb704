use Rattle.std.proofs.Common.{◌+◌, ◌<◌, List, ◌∷◌, ◌++◌, length, map, drop, sym, ap, ◌∙◌, subst, arith}
use Rattle.pungi_resolved.specs.ActionView.{action_view, actions_of}
use Rattle.pungi_resolved.specs.declared.action.Action.{Action}
use Rattle.pungi_meaning.specs.Work.{block_locals, action_locals}
use Rattle.pungi_layout.specs.code.Sound.{AreStmtsSound}
use Rattle.pungi_layout.specs.code.StmtCode.{unset_code}
use Rattle.pungi_emit.proofs.code.Lists.{next_one}
use Rattle.pungi_emit.proofs.stmt.Decls.{unset_laid}
use Rattle.pungi_emit.proofs.stmt.decl.emit_unsets.Goals as goal

pub loop-action-preserved : goal.loop-action-preserved
loop-action-preserved c =
    let xs = c.args.list.now in
    let i = c.loop-action.action-index in
    let s : i < length xs = omega arith in
    let d = next_one xs i c.action-item.result s c.action-item.is in
    let so_far = c.loop-action.code in
    let step = unset_laid c.args.pos (action_locals (action_view c.action-item.result))
    (block_locals (map action_view (drop (i + 1) xs))) so_far c.emit_own_unset.new.code
    c.in_ok-emit_own_unset.ensures in
    let S : List Action → Type 0 = λ ys. AreStmtsSound c.args.locals (actions_of (map action_view ys)) in
    let sound : S (c.action-item.result ∷ drop (i + 1) xs) = subst S d c.loop-action.invariant.sound in
    record {
      code = sym step ∙ ap (λ ys. so_far ++ unset_code c.args.pos (block_locals (map action_view ys))) (sym d)
          ∙ c.loop-action.invariant.code;
      sound = sound.1;
    }

pub emit_own_unset-requires : goal.emit_own_unset-requires
emit_own_unset-requires c =
    let xs = c.args.list.now in
    let i = c.loop-action.action-index in
    let s : i < length xs = omega arith in
    let d = next_one xs i c.action-item.result s c.action-item.is in
    let S : List Action → Type 0 = λ ys. AreStmtsSound c.args.locals (actions_of (map action_view ys)) in
    let sound : S (c.action-item.result ∷ drop (i + 1) xs) = subst S d c.loop-action.invariant.sound in
    sound.0
