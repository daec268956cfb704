use Rattle.std.proofs.Common.{◌++◌, length, sym, ap, ◌∙◌, subst, arith}
use Rattle.pungi_types.specs.Operators.{is_void}
use Rattle.pungi_resolved.specs.ActionView.{action_view}
use Rattle.pungi_meaning.specs.Run.{closing_brace}
use Rattle.pungi_layout.specs.code.Sizes.{stmt_size}
use Rattle.pungi_layout.specs.code.Sound.{IsStmtSound}
use Rattle.pungi_layout.specs.code.Scopes.{everywhere}
use Rattle.pungi_emit.specs.planning.Plans.{plan_of}
use Rattle.pungi_layout.specs.code.StmtCode.{stmt_code, end_code}
use Rattle.pungi_emit.proofs.planning.PlanLists.{begins_at}
use Rattle.pungi_emit.proofs.function.function_code.emit_body.Goals as goal

pub emit_stmt-requires : goal.emit_stmt-requires
emit_stmt-requires c =
    let h = ap length (c.new-code.ensures ∙ c.new.ensures.items) in
    record {
      plan = begins_at (λ i. plan_of i (action_view c.args.f.now.body)) 0 (length c.new-code.result)
          c.args.places.now c.requires.plan h;
      sound = subst (λ n. IsStmtSound n (action_view c.args.f.now.body)) (sym c.requires.locals)
          c.requires.within.sound;
      few = omega (arith, c.requires.within.variables);
      long = omega (arith, h, c.requires.within.instructions);
    }

pub returns : goal.returns
returns c = λ s.
    let body = action_view c.args.f.now.body in
    let nl = c.args.around.locals in
    let env = everywhere c.args.size in
    let end = end_code (closing_brace body) (is_void c.args.f.now.result) in
    let h = c.new-code.ensures ∙ c.new.ensures.items in
    let e = c.in_ok-emit_stmt.ensures.code ∙ ap (λ x. x ++ stmt_code nl env (length x) body) h in
    let f = rw (c.closing_brace.ensures, c.is_void.ensures) at c.in_ok-emit_end.ensures in
    f
    ∙ ap (λ x. x ++ end) e
    ∙ ap (λ n. stmt_code nl (everywhere n) 0 body ++ end) s
    ∙ ap (λ n. stmt_code n (everywhere (stmt_size body)) 0 body ++ end) c.requires.locals
