use Rattle.std.proofs.Common.{◌+◌, ◌<◌, ◌≤◌, ◌^◌, List, ◌∷◌, ◌++◌, length, map, drop, sym, ap, ◌∙◌, subst, arith}
use Rattle.pungi_resolved.specs.ActionView.{declared_view}
use Rattle.pungi_resolved.specs.declared.action.DeclaredLocal.{DeclaredLocal}
use Rattle.pungi_layout.specs.code.Sizes.{declare_size}
use Rattle.pungi_layout.specs.code.Sound.{AreDeclared, declare_nodes}
use Rattle.pungi_layout.specs.code.StmtCode.{declare_code}
use Rattle.pungi_emit.proofs.code.Lists.{next_one}
use Rattle.pungi_emit.proofs.stmt.Decls.{bind_laid, bind_grown}
use Rattle.pungi_emit.proofs.stmt.decl.emit_declared.Goals as goal

pub emit_bind-requires : goal.emit_bind-requires
emit_bind-requires c =
    let xs = c.args.list.now in
    let i = c.loop-reached.reached-index in
    let x = c.reached-item.result in
    let s : i < length xs = omega arith in
    let d = next_one xs i x s c.reached-item.is in
    let S : List DeclaredLocal → Type 0 = λ ys. AreDeclared c.args.around.locals (map declared_view ys) in
    let F : List DeclaredLocal → Type 0 = λ ys. declare_nodes (map declared_view ys) < 2 ^ 16 in
    let L : List DeclaredLocal → Type 0 = λ ys. length c.loop-reached.code + declare_size (map declared_view ys)
    ≤ 2 ^ 14 in
    let sound : S (x ∷ drop (i + 1) xs) = subst S d c.loop-reached.invariant.sound in
    let few : F (x ∷ drop (i + 1) xs) = subst F d c.loop-reached.invariant.few in
    let long : L (x ∷ drop (i + 1) xs) = subst L d c.loop-reached.invariant.long in
    record { local = sound.0; sound = sound.1; few = omega (arith, few); long = omega (arith, long) }

pub loop-reached-preserved : goal.loop-reached-preserved
loop-reached-preserved c =
    let xs = c.args.list.now in
    let i = c.loop-reached.reached-index in
    let x = c.reached-item.result in
    let s : i < length xs = omega arith in
    let d = next_one xs i x s c.reached-item.is in
    let nl = c.args.around.locals in
    let so_far = c.loop-reached.code in
    let S : List DeclaredLocal → Type 0 = λ ys. AreDeclared nl (map declared_view ys) in
    let F : List DeclaredLocal → Type 0 = λ ys. declare_nodes (map declared_view ys) < 2 ^ 16 in
    let L : List DeclaredLocal → Type 0 = λ ys. length so_far + declare_size (map declared_view ys) ≤ 2 ^ 14 in
    let sound : S (x ∷ drop (i + 1) xs) = subst S d c.loop-reached.invariant.sound in
    let few : F (x ∷ drop (i + 1) xs) = subst F d c.loop-reached.invariant.few in
    let long : L (x ∷ drop (i + 1) xs) = subst L d c.loop-reached.invariant.long in
    let n = bind_grown nl (declared_view x) so_far c.emit_bind.new.code c.in_ok-emit_bind.ensures in
    let step = bind_laid nl (declared_view x) (map declared_view (drop (i + 1) xs)) so_far
    c.emit_bind.new.code c.in_ok-emit_bind.ensures in
    record {
      code = sym step ∙ ap (λ ys. so_far ++ declare_code nl (length so_far) (map declared_view ys)) (sym d)
          ∙ c.loop-reached.invariant.code;
      sound = sound.2;
      few = omega (arith, few);
      long = omega (arith, long, n);
    }
