use Rattle.std.proofs.Common.{◌≡◌, Some, inl, inr, arith, slice_get, true, subst, sym}
use Rattle.std.proofs.lemmas.Bool.{cases_lt}
use Rattle.std.proofs.lemmas.Option.{slice_get_within}
use Rattle.pungi_base.specs.declared.names.Name.{Name}
use Rattle.pungi_base.specs.declared.verdict.Verdict.{Verdict}
use Rattle.pungi_verdict.specs.Across.{CallsNoFunction, is_unknown}
use Rattle.pungi_verdict.proofs.Asked.{read-line}
use Rattle.pungi_verdict.proofs.judge_across.has_open_caller.Goals as goal

pub loop-f-preserved : goal.loop-f-preserved
loop-f-preserved c = λ f line lt at unknown.
    elim (cases_lt f c.loop-f.f) [
      | inl less ↦ c.loop-f.invariant f line less at unknown
      | inr ge ↦
          let same : f ≡ c.loop-f.f = omega (arith, lt, ge) in
          let is = read-line c.args.lines.now c.loop-f.f c.index-lines-f.result line c.loop-f-test.true
          c.index-lines-f.is
          (subst (λ n. slice_get c.args.lines.now n ≡ Some line) same at) in
          subst (CallsNoFunction c.args.codes.now) (sym same)
          (c.is_open_caller.ensures c.if-is_open_caller.false
          (subst (λ (l : Name × Verdict). is_unknown l.1 ≡ true) (sym is) unknown))
    ]

pub returns : goal.returns
returns c = λ none f line at unknown.
    let lt = slice_get_within c.args.lines.now f line at in
    let past = c.loop-f-test.false in
    c.loop-f.invariant f line (omega (arith, lt, past)) at unknown
