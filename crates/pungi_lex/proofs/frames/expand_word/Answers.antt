use Rattle.std.proofs.Common.{◌≡◌, ◌++◌, [], ◌∷◌, List, length, reverse, sym, subst, arith, ap}
use Rattle.pungi_lex.specs.declared.frames.Frame.{Frame}
use Rattle.pungi_lex.specs.Macros.{Macros}
use Rattle.pungi_lex.specs.Frames.{Emits}
use Rattle.pungi_lex.proofs.FrameLemmas.{Expansion, on_start, on_step, step_back, on_end, over_at_start, over_within}
use Rattle.pungi_lex.proofs.FrameLemmas.{unpopped, next_frame}
use Rattle.pungi_lex.proofs.frames.expand_word.Goals as goal

pub returns-then-used-eq-TOKEN_LIMIT-clause-over : goal.returns-then-used-eq-TOKEN_LIMIT-clause-over
returns-then-used-eq-TOKEN_LIMIT-clause-over c =
    λ other. over_at_start c.args.table.now.items c.args.token.now c.args.used c.if-used-eq-TOKEN_LIMIT.true

pub work-init : goal.work-init
work-init c = record {
  expansion = on_start c.in_ok-emit.field-0 c.args.table.now.items c.emit.new.table.items c.args.token.now
      c.args.out.now.items c.emit.new.out.items c.args.used c.emit.new.stack.items
      (subst (λ (fs : List Frame). Emits c.in_ok-emit.field-0 c.args.token.now c.args.token.now.kind
      c.args.table.now.items c.emit.new.table.items c.args.out.now.items c.emit.new.out.items fs
      c.emit.new.stack.items) c.new-stack.ensures.items c.in_ok-emit.ensures);
  within = omega arith;
}

pub returns-in-None-clause-replaced : goal.returns-in-None-clause-replaced
returns-in-None-clause-replaced c =
    on_end c.args.table.now.items c.work.table.items c.work.stack.items c.args.token.now c.args.out.now.items
    c.work.out.items c.args.used c.work.count (omega (arith, c.in-None.ensures.cases.0, c.work.stack.ok.0))
    c.work.invariant.expansion

pub returns-then-count-eq-TOKEN_LIMIT-clause-over : goal.returns-then-count-eq-TOKEN_LIMIT-clause-over
returns-then-count-eq-TOKEN_LIMIT-clause-over c = λ other.
    let x = unpopped c.args.table.now.items c.work.table.items c.in-Some.frame c.work.stack.items
    c.pop.new.self.items c.args.token.now c.args.out.now.items c.work.out.items c.args.used c.work.count
    c.in-Some.ensures.items c.work.invariant.expansion in
    over_within c.args.table.now.items c.work.table.items c.in-Some.frame (reverse c.pop.new.self.items)
    c.args.token.now c.args.out.now.items c.work.out.items c.args.used c.work.count
    (omega (arith, c.if-next-as_slice.true, ap length c.as_slice.ensures)) c.if-count-eq-TOKEN_LIMIT.true x

pub work-preserved-then-next-as_slice : goal.work-preserved-then-next-as_slice
work-preserved-then-next-as_slice c =
    let x = unpopped c.args.table.now.items c.work.table.items c.in-Some.frame c.work.stack.items
    c.pop.new.self.items c.args.token.now c.args.out.now.items c.work.out.items c.args.used c.work.count
    c.in-Some.ensures.items c.work.invariant.expansion in
    let frames : c.push.new.self.items ≡ c.pop.new.self.items ++ next_frame c.in-Some.frame
    ∷ [] = c.in_ok-push-in-Some.ensures.items in
    let emitted = subst (λ (fs : List Frame). Emits c.in_ok-emit-in-Some.field-0 c.args.token.now c.at-kind.result
    c.work.table.items c.emit-then-next-as_slice.new.table.items c.work.out.items
    c.emit-then-next-as_slice.new.out.items fs c.emit-then-next-as_slice.new.stack.items) frames
    c.in_ok-emit-in-Some.ensures in
    record {
      expansion = on_step c.in_ok-emit-in-Some.field-0 c.args.table.now.items c.work.table.items
          c.emit-then-next-as_slice.new.table.items c.in-Some.frame c.pop.new.self.items
          c.emit-then-next-as_slice.new.stack.items c.args.token.now
          c.args.out.now.items c.work.out.items c.emit-then-next-as_slice.new.out.items c.args.used c.work.count
          c.at-kind.result (omega (arith, c.if-next-as_slice.true, ap length c.as_slice.ensures))
          c.at-kind.ensures x emitted;
      within = omega (arith, c.work.invariant.within, c.if-count-eq-TOKEN_LIMIT.false);
    }

pub work-preserved : goal.work-preserved
work-preserved c =
    let x = unpopped c.args.table.now.items c.work.table.items c.in-Some.frame c.work.stack.items
    c.pop.new.self.items c.args.token.now c.args.out.now.items c.work.out.items c.args.used c.work.count
    c.in-Some.ensures.items c.work.invariant.expansion in
    record {
      expansion = subst (λ (m : Macros). Expansion c.args.table.now.items m (reverse c.pop.new.self.items)
          c.args.token.now c.args.out.now.items c.work.out.items c.args.used c.work.count) (sym c.put_body.ensures)
          (step_back c.args.table.now.items c.work.table.items c.in-Some.frame (reverse c.pop.new.self.items)
          c.args.token.now c.args.out.now.items c.work.out.items c.args.used c.work.count
          (omega (arith, c.if-next-as_slice.false, ap length c.as_slice.ensures)) x);
      within = c.work.invariant.within;
    }
