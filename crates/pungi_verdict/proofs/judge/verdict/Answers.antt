use Rattle.std.proofs.Common.{◌≡◌, ◌<◌, ◌≤◌, ◌+◌, ◌^◌, ℕ, List, length, map, slice_get, Option, Some, None}
use Rattle.std.proofs.Common.{ap, sym, subst, ◌∙◌}
use Rattle.std.proofs.Common.{arith}
use Rattle.pungi_types.specs.Files.{definitions}
use Rattle.pungi_resolved.specs.ActionView.{function_view}
use Rattle.pungi_resolve.specs.Resolutions.{resolution_view, resolutions, file_functions}
use Rattle.pungi_resolved.specs.Functions.{ResolvedFunction}
use Rattle.pungi_layout.specs.code.FunctionCode.{code_of}
use Rattle.pungi_lower.specs.Lowered.{IsLowered}
use Rattle.pungi_types.specs.Nodes.{function_nodes}
use Rattle.pungi_resolved.specs.declared.function.Function.{Function}
use Rattle.pungi_check.specs.Found.{checked_view}
use Rattle.pungi_code.specs.declared.code.Codes.{Codes}
use Rattle.pungi_symbol.specs.Promises.{HasImmortals}
use Rattle.pungi_verdict.specs.Causes.{file_codes}
use Rattle.pungi_verdict.proofs.Forms.{immortals-there}
use Rattle.pungi_verdict.proofs.Files.{at-index, functions-long, function-there, none-there, finding-here, defined-at}
use Rattle.pungi_verdict.proofs.Files.{code-there, sound-there, lowered-there, judged-verdict}
use Rattle.pungi_verdict.proofs.Files.{refused-verdict}
use Rattle.pungi_verdict.proofs.judge.verdict.Goals as goal

pub returns-in-Some : goal.returns-in-Some
returns-in-Some c = λ d at.
    let view = checked_view c.args.checked.now in
    let found = finding-here view c.args.checked.now.refusals.items c.args.i c.index.result.now
    c.requires.checked.refusals_are c.requires.there c.index.ensures d at in
    refused-verdict view c.in-Some.finding d (found ∙ c.in-Some.is)

pub judge-requires-clause-words : goal.judge-requires-clause-words
judge-requires-clause-words c =
    let view = checked_view c.args.checked.now in
    let fs = c.args.checked.now.resolved.items in
    let here = defined-at (definitions view.file.items) c.args.i c.requires.there in
    let none = finding-here view c.args.checked.now.refusals.items c.args.i c.index.result.now
    c.requires.checked.refusals_are c.requires.there c.index.ensures here.0 here.1 ∙ c.in-None.is in
    let long = functions-long view fs c.requires.checked.resolved_are in
    let lt : c.args.i < length fs = omega (arith, long, c.requires.there) in
    let at = at-index fs c.args.i c.index-in-None.result.now lt c.index-in-None.ensures in
    let its : slice_get fs c.args.i ≡ Some (Some c.in-Some-index.f) = at
    ∙ ap (λ (o : Option Function). Some o) c.in-Some-index.is in
    sound-there fs c.args.i c.in-Some-index.f c.requires.checked.sound its

pub judge-requires-clause-few : goal.judge-requires-clause-few
judge-requires-clause-few c =
    subst (λ (n : ℕ). n ≤ 2 ^ 30 + 24) (c.requires.checked.statics_are
    ∙ sym (ap (λ (cs : Codes). cs.statics) c.requires.codes)) c.requires.checked.few_statics

pub judge-requires-clause-immortals : goal.judge-requires-clause-immortals
judge-requires-clause-immortals c =
    let view = checked_view c.args.checked.now in
    subst (λ (cs : Codes). HasImmortals cs c.args.i) (sym c.requires.codes)
    (immortals-there (file_codes view) c.args.i (omega arith))

pub judge-requires-clause-there : goal.judge-requires-clause-there
judge-requires-clause-there c =
    let view = checked_view c.args.checked.now in
    let fs = c.args.checked.now.resolved.items in
    let here = defined-at (definitions view.file.items) c.args.i c.requires.there in
    let none = finding-here view c.args.checked.now.refusals.items c.args.i c.index.result.now
    c.requires.checked.refusals_are c.requires.there c.index.ensures here.0 here.1 ∙ c.in-None.is in
    let long = functions-long view fs c.requires.checked.resolved_are in
    let lt : c.args.i < length fs = omega (arith, long, c.requires.there) in
    let at = at-index fs c.args.i c.index-in-None.result.now lt c.index-in-None.ensures in
    let its : slice_get fs c.args.i ≡ Some (Some c.in-Some-index.f) = at
    ∙ ap (λ (o : Option Function). Some o) c.in-Some-index.is in
    let is = function-there view fs c.args.i here.0 c.in-Some-index.f c.requires.checked.resolved_are its here.1 none in
    code-there view c.args.codes.now c.args.i here.0 (function_view c.in-Some-index.f) c.requires.codes here.1 none is

pub judge-requires-clause-lowered : goal.judge-requires-clause-lowered
judge-requires-clause-lowered c =
    let view = checked_view c.args.checked.now in
    let fs = c.args.checked.now.resolved.items in
    let here = defined-at (definitions view.file.items) c.args.i c.requires.there in
    let none = finding-here view c.args.checked.now.refusals.items c.args.i c.index.result.now
    c.requires.checked.refusals_are c.requires.there c.index.ensures here.0 here.1 ∙ c.in-None.is in
    let long = functions-long view fs c.requires.checked.resolved_are in
    let lt : c.args.i < length fs = omega (arith, long, c.requires.there) in
    let at = at-index fs c.args.i c.index-in-None.result.now lt c.index-in-None.ensures in
    let its : slice_get fs c.args.i ≡ Some (Some c.in-Some-index.f) = at
    ∙ ap (λ (o : Option Function). Some o) c.in-Some-index.is in
    let is = function-there view fs c.args.i here.0 c.in-Some-index.f c.requires.checked.resolved_are its here.1 none in
    let there = code-there view c.args.codes.now c.args.i here.0 (function_view c.in-Some-index.f) c.requires.codes
    here.1 none is in
    subst (λ (gs : List (Option ResolvedFunction)). (nodes : ℕ) × IsLowered gs c.args.codes.now.codes
    (function_view c.in-Some-index.f) nodes (code_of (function_view c.in-Some-index.f)))
    (sym c.requires.checked.resolved_are ∙ ap (map resolution_view) (sym c.deref.ensures.value)) (
      function_nodes here.0,
      lowered-there (resolutions view) view c.args.codes.now c.args.i here.0
          (function_view c.in-Some-index.f) c.requires.lowered.0 here.1 is (code_of (function_view c.in-Some-index.f)) there,
    )

pub unreachable-requires : goal.unreachable-requires
unreachable-requires c =
    let view = checked_view c.args.checked.now in
    let fs = c.args.checked.now.resolved.items in
    let here = defined-at (definitions view.file.items) c.args.i c.requires.there in
    let none = finding-here view c.args.checked.now.refusals.items c.args.i c.index.result.now
    c.requires.checked.refusals_are c.requires.there c.index.ensures here.0 here.1 ∙ c.in-None.is in
    let long = functions-long view fs c.requires.checked.resolved_are in
    let lt : c.args.i < length fs = omega (arith, long, c.requires.there) in
    let at = at-index fs c.args.i c.index-in-None.result.now lt c.index-in-None.ensures in
    let its : slice_get fs c.args.i ≡ Some None = at ∙ ap (λ (o : Option Function). Some o) c.in-None-index.is in
    none-there view fs c.args.i here.0 c.requires.checked.resolved_are its here.1 none

pub returns-in_ok-judge-in-Some-index : goal.returns-in_ok-judge-in-Some-index
returns-in_ok-judge-in-Some-index c = λ d at.
    let view = checked_view c.args.checked.now in
    let fs = c.args.checked.now.resolved.items in
    let none = finding-here view c.args.checked.now.refusals.items c.args.i c.index.result.now
    c.requires.checked.refusals_are c.requires.there c.index.ensures d at ∙ c.in-None.is in
    let long = functions-long view fs c.requires.checked.resolved_are in
    let lt : c.args.i < length fs = omega (arith, long, c.requires.there) in
    let there = at-index fs c.args.i c.index-in-None.result.now lt c.index-in-None.ensures in
    let its : slice_get fs c.args.i ≡ Some (Some c.in-Some-index.f) = there
    ∙ ap (λ (o : Option Function). Some o) c.in-Some-index.is in
    let is = function-there view fs c.args.i d c.in-Some-index.f c.requires.checked.resolved_are its at none in
    let own = code_of (function_view c.in-Some-index.f) in
    let own_there = code-there view c.args.codes.now c.args.i d (function_view c.in-Some-index.f) c.requires.codes at none
    is in
    judged-verdict view c.args.codes.now d (function_view c.in-Some-index.f)
    c.in_ok-judge-in-Some-index.field-0 c.requires.codes none is
    (c.in_ok-judge-in-Some-index.ensures.sound (file_functions view) (lowered-there (file_functions view)
    view c.args.codes.now c.args.i d (function_view c.in-Some-index.f) c.requires.lowered.1 at is own own_there).alike)
    c.in_ok-judge-in-Some-index.ensures.refused
    c.in_ok-judge-in-Some-index.ensures.caused
