use Rattle.std.proofs.Common.{◌+◌, ◌<◌, List, [], ◌∷◌, ◌++◌, length, map, drop, sym, ap, ◌∙◌, subst, arith}
use Rattle.pungi_resolved.specs.ActionView.{declared_view}
use Rattle.pungi_resolved.specs.declared.action.DeclaredLocal.{DeclaredLocal}
use Rattle.pungi_layout.specs.code.Sound.{AreDeclared}
use Rattle.pungi_layout.specs.code.StmtCode.{unset_code}
use Rattle.pungi_emit.proofs.code.Lists.{next_one}
use Rattle.pungi_emit.proofs.stmt.Decls.{unset_laid}
use Rattle.pungi_emit.proofs.stmt.decl.emit_unset.Goals as goal

pub overflow_cast-local : goal.overflow_cast-local
overflow_cast-local c =
    let xs = c.args.list.now in
    let i = c.loop-reached.reached-index in
    let x = c.reached-item.result in
    let s : i < length xs = omega arith in
    let d = next_one xs i x s c.reached-item.is in
    let S : List DeclaredLocal → Type 0 = λ ys. AreDeclared c.args.locals (map declared_view ys) in
    let sound : S (x ∷ drop (i + 1) xs) = subst S d c.loop-reached.invariant.sound in
    omega (arith, sound.0)

pub loop-reached-preserved : goal.loop-reached-preserved
loop-reached-preserved c =
    let xs = c.args.list.now in
    let i = c.loop-reached.reached-index in
    let x = c.reached-item.result in
    let s : i < length xs = omega arith in
    let d = next_one xs i x s c.reached-item.is in
    let p = c.args.pos in
    let so_far = c.loop-reached.code in
    let S : List DeclaredLocal → Type 0 = λ ys. AreDeclared c.args.locals (map declared_view ys) in
    let sound : S (x ∷ drop (i + 1) xs) = subst S d c.loop-reached.invariant.sound in
    let step = unset_laid p (declared_view x ∷ []) (map declared_view (drop (i + 1) xs)) so_far c.put.new.code
    c.in_ok-put.ensures in
    record {
      code = sym step ∙ ap (λ ys. so_far ++ unset_code p (map declared_view ys)) (sym d)
          ∙ c.loop-reached.invariant.code;
      sound = sound.2;
    }
