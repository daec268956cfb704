use Rattle.std.proofs.Common.{List, Option, map, ap, sym, subst, ◌∙◌}
use Rattle.pungi_resolved.specs.declared.function.Function.{Function}
use Rattle.pungi_resolved.specs.Functions.{ResolvedFunction}
use Rattle.pungi_resolve.specs.Resolutions.{IsResolved, resolution_view}
use Rattle.pungi_check.specs.Found.{checked_view}
use Rattle.pungi_layout.specs.code.Codes.{code_for}
use Rattle.pungi_verdict.proofs.Files.{resolved-of, same-codes}
use Rattle.pungi_verdict.proofs.judge.codes.Goals as goal

pub lower-requires : goal.lower-requires
lower-requires c =
    let view = checked_view c.args.checked.now in
    record {
      file = view;
      resolved = subst (λ (fs : List (Option Function)). IsResolved view (map resolution_view fs))
          (sym c.deref.ensures.value) (resolved-of c.args.checked.now c.requires);
    }

pub returns-clause-codes : goal.returns-clause-codes
returns-clause-codes c =
    let view = checked_view c.args.checked.now in
    let all = ap (λ (fs : List (Option Function)). map code_for (map resolution_view fs)) c.deref.ensures.value in
    same-codes c.in_ok-codes.codes view (c.in_ok-codes.ensures.codes ∙ all
    ∙ ap (λ (fs : List (Option ResolvedFunction)). map code_for fs) c.requires.resolved_are)
    (c.in_ok-codes.ensures.names ∙ c.in_ok-names.ensures ∙ c.as_slice.ensures ∙ c.requires.names_are)
    (c.in_ok-codes.ensures.statics ∙ c.requires.statics_are)

pub returns-clause-lowered : goal.returns-clause-lowered
returns-clause-lowered c =
    let view = checked_view c.args.checked.now in
    c.in_ok-codes.ensures.lowered view (subst (λ (fs : List (Option Function)). IsResolved view
    (map resolution_view fs)) (sym c.deref.ensures.value) (resolved-of c.args.checked.now c.requires))

pub returns-clause-formed : goal.returns-clause-formed
returns-clause-formed c =
    let view = checked_view c.args.checked.now in
    c.in_ok-codes.ensures.well_formed view
    (subst (λ (fs : List (Option Function)). IsResolved view (map resolution_view fs)) (sym c.deref.ensures.value)
    (resolved-of c.args.checked.now c.requires))
    (c.in_ok-names.ensures ∙ c.as_slice.ensures ∙ c.requires.names_are) c.requires.statics_are c.requires.few_statics
