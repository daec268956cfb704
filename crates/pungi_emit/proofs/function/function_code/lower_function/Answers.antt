use Rattle.std.proofs.Common.{◌≡◌, ◌+◌, [], ◌++◌, length, sym, ap, ◌∙◌, arith, append-nil}
use Rattle.pungi_resolved.specs.ActionView.{action_view, function_view}
use Rattle.pungi_layout.specs.code.Sizes.{stmt_size}
use Rattle.pungi_layout.specs.code.Heads.{stmt_marks, heads_below}
use Rattle.pungi_emit.specs.planning.Plans.{plan_of}
use Rattle.pungi_layout.proofs.code.StmtLengths.{body-long}
use Rattle.pungi_emit.proofs.function.function_code.lower_function.Goals as goal

pub emit_body-requires-clause-plan : goal.emit_body-requires-clause-plan
emit_body-requires-clause-plan c =
    let plan = plan_of 0 (action_view c.args.f.now.body) in
    let e = c.in_ok-size.ensures.places ∙ ap (λ l. l ++ plan) (c.new-places.ensures ∙ c.new-2.ensures.items) in
    record { rest = []; is = c.as_slice.ensures ∙ e ∙ sym (append-nil plan) }

pub returns-clause-instrs : goal.returns-clause-instrs
returns-clause-instrs c =
    let body = action_view c.args.f.now.body in
    let z : 0 + stmt_size body ≡ stmt_size body = omega arith in
    c.in_ok-instrs.ensures (c.in_ok-size.ensures.next ∙ z)

pub returns-clause-heads : goal.returns-clause-heads
returns-clause-heads c =
    let body = action_view c.args.f.now.body in
    let z : 0 + stmt_size body ≡ stmt_size body = omega arith in
    let m = c.in_ok-size.ensures.marks ∙ ap (λ l. l ++ stmt_marks 0 body) (c.new-marks.ensures ∙ c.new.ensures.items) in
    let i = c.in_ok-instrs.ensures (c.in_ok-size.ensures.next ∙ z) in
    c.new-heads.ensures
    ∙ (rw (c.as_slice-2.ensures, c.as_slice-3.ensures) at c.in_ok-heads.ensures)
    ∙ ap (λ ms. heads_below ms c.in_ok-instrs.instrs (length c.in_ok-instrs.instrs)) m
    ∙ ap (λ l. heads_below (stmt_marks 0 body) l (length l)) i

pub heads-requires : goal.heads-requires
heads-requires c =
    let body = action_view c.args.f.now.body in
    let z : 0 + stmt_size body ≡ stmt_size body = omega arith in
    let i = c.in_ok-instrs.ensures (c.in_ok-size.ensures.next ∙ z) in
    let n = body-long (function_view c.args.f.now) in
    omega (arith, ap length c.as_slice-3.ensures, ap length i, n, c.requires.instructions)
