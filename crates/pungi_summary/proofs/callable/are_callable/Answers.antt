use Rattle.std.proofs.Common.{◌∙◌, arith, rules, sym, []}
use Rattle.pungi_summary.proofs.Callables.{fit_all, fit_here, fit_more, lists_below}
use Rattle.pungi_summary.proofs.Lists.{program_here, read_or}
use Rattle.pungi_summary.proofs.callable.are_callable.Goals as goal

pub returns-then-not-are_all_below : goal.returns-then-not-are_all_below
returns-then-not-are_all_below c = (
  λ t. absurd (search rules),
  λ callable. rw c.if-not-are_all_below.true at (c.are_all_below.ensures.1
      (lists_below c.args.programs.now c.args.callees.now callable)),
)

pub returns-then-not-is_function_callable : goal.returns-then-not-is_function_callable
returns-then-not-is_function_callable c =
    let f = c.loop-f.f in
    let lt = c.loop-f-test.true in
    let count = c.if-callees-programs.false in
    let here = program_here c.args.programs.now f c.index-programs-f.result lt c.index-programs-f.is in
    let called = sym (c.as_slice.ensures ∙ read_or c.args.callees.now f c.index-callees-f.result []
    (omega (arith, lt, count)) c.index-callees-f.is) in (
      λ t. absurd (search rules),
      λ callable. rw c.if-not-is_function_callable.true at (c.is_function_callable.ensures.1
          (fit_here c.args.programs.now c.args.callees.now f c.index-programs-f.result c.as_slice.result.now here called
          callable)),
    )

pub loop-f-preserved : goal.loop-f-preserved
loop-f-preserved c =
    let f = c.loop-f.f in
    let lt = c.loop-f-test.true in
    let count = c.if-callees-programs.false in
    let here = program_here c.args.programs.now f c.index-programs-f.result lt c.index-programs-f.is in
    let called = sym (c.as_slice.ensures ∙ read_or c.args.callees.now f c.index-callees-f.result []
    (omega (arith, lt, count)) c.index-callees-f.is) in
    fit_more c.args.programs.now c.args.callees.now f c.index-programs-f.result c.as_slice.result.now here called
    (c.is_function_callable.ensures.0 c.if-not-is_function_callable.false) c.loop-f.invariant

pub returns : goal.returns
returns c = (
  λ _. fit_all c.args.programs.now c.args.callees.now c.loop-f.f c.if-callees-programs.false
      (c.are_all_below.ensures.0 c.if-not-are_all_below.false) (omega (arith, c.loop-f-test.false))
      c.loop-f.invariant,
  λ _. search rules,
)
