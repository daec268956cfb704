use Rattle.std.proofs.Common.{◌≡◌, ◌∙◌, ◌<◌, ℕ, List, Option, Some, map, get_or, length, ap, refl, subst, sym}
use Rattle.std.specs.Prelude.{IfOk}
use Rattle.pungi_code.proofs.AloneLemmas.{stands_alone}
use Rattle.pungi_code.specs.Alone.{CallsNone}
use Rattle.pungi_code.specs.declared.code.Code.{Code}
use Rattle.pungi_code.specs.Run.{code_at}
use Rattle.pungi_inline.specs.Inlined.{inlined}
use Rattle.pungi_resolve.specs.Resolutions.{resolution_view}
use Rattle.pungi_resolved.specs.ActionView.{function_view}
use Rattle.pungi_verdict.proofs.Calls.{matched-none, matched-some, whole-alone, whole-caused, whole-given, whole-named}
use Rattle.pungi_verdict.proofs.Calls.{whole-returns, whole-sound}
use Rattle.pungi_code.specs.Limits.{steps_an_instruction}
use Rattle.pungi_code.specs.declared.code.Codes.{Codes}
use Rattle.pungi_layout.specs.alike.Correct.{Behaves}
use Rattle.pungi_layout.specs.code.FunctionCode.{code_of}
use Rattle.pungi_lower.specs.Lowered.{IsLowered}
use Rattle.pungi_resolved.specs.Functions.{ResolvedFunction}
use Rattle.pungi_verdict.specs.Causes.{IsDecidedAt}
use Rattle.pungi_verdict.specs.Sound.{IsTrueOf}
use Rattle.pungi_verdict.proofs.Files.{code-read, same-some}
use Rattle.pungi_verdict.proofs.judge.judge.Goals as goal

-- the code that is read at a place is that of the function there
read-same : (codes : Codes) (i : ℕ) (code own : Code) (listed : List (Option Code)) (o : Option Code)
    → listed ≡ codes.codes → code_at codes i ≡ Some own → o ≡ get_or listed i o → o ≡ Some code → own ≡ code
read-same codes i code own listed o same there is some =
    same-some own code (sym (code-read codes i own listed o same there is) ∙ some)

pub unreachable-requires : goal.unreachable-requires
unreachable-requires c =
    let codes = c.args.codes.now in
    let own = code_of (function_view c.args.f.now) in
    let read = code-read codes c.args.i own c.as_slice.result.now c.index-as_slice-i.result c.as_slice.ensures
    c.requires.there c.index-as_slice-i.is in
    c.in_default.not-Some own read

pub judge_inlined-requires-clause-runs : goal.judge_inlined-requires-clause-runs
judge_inlined-requires-clause-runs c =
    let codes = c.args.codes.now in
    let code = c.in-Some.code in
    let f = function_view c.args.f.now in
    let same : code_of f ≡ code = read-same codes c.args.i code (code_of f) c.as_slice.result.now
    c.index-as_slice-i.result c.as_slice.ensures c.requires.there c.index-as_slice-i.is c.in-Some.is in
    let there : code_at codes c.args.i ≡ Some code = c.requires.there ∙ ap (λ (x : Code). Some x) same in
    let low = subst (λ (x : Code). (nodes : ℕ) × IsLowered (map resolution_view c.args.functions.now) codes.codes f
    nodes x) same c.requires.lowered in
    let gs = map resolution_view c.args.functions.now in
    let law = c.inlined_runs_alike.ensures in
    let formed = c.inlined_is_well_formed.ensures c.requires.formed there in
    let w = c.in-Some-2.whole in
    let is : w ≡ inlined codes.codes code =
    matched-some c.in_ok-whole.field-0 w (inlined codes.codes code ≡ code) (λ x. x ≡ inlined codes.codes code)
    c.in-Some-2.is c.in_ok-whole.ensures in
    whole-returns codes c.args.i f code w c.requires.formed there gs low.0 low.1 law formed is
    gs low.1.alike

pub judge_inlined-requires-clause-given : goal.judge_inlined-requires-clause-given
judge_inlined-requires-clause-given c =
    let codes = c.args.codes.now in
    let code = c.in-Some.code in
    let f = function_view c.args.f.now in
    let same : code_of f ≡ code = read-same codes c.args.i code (code_of f) c.as_slice.result.now
    c.index-as_slice-i.result c.as_slice.ensures c.requires.there c.index-as_slice-i.is c.in-Some.is in
    let there : code_at codes c.args.i ≡ Some code = c.requires.there ∙ ap (λ (x : Code). Some x) same in
    let low = subst (λ (x : Code). (nodes : ℕ) × IsLowered (map resolution_view c.args.functions.now) codes.codes f
    nodes x) same c.requires.lowered in
    let gs = map resolution_view c.args.functions.now in
    let law = c.inlined_runs_alike.ensures in
    let formed = c.inlined_is_well_formed.ensures c.requires.formed there in
    let w = c.in-Some-2.whole in
    let is : w ≡ inlined codes.codes code =
    matched-some c.in_ok-whole.field-0 w (inlined codes.codes code ≡ code) (λ x. x ≡ inlined codes.codes code)
    c.in-Some-2.is c.in_ok-whole.ensures in
    whole-given codes c.args.i f code w c.requires.formed there gs low.0 low.1 law formed is
    (sym (ap (λ (x : Code). x.terms) same)) c.requires.words c.requires.few c.requires.immortals

pub judge_inlined-requires-clause-alone : goal.judge_inlined-requires-clause-alone
judge_inlined-requires-clause-alone c =
    let codes = c.args.codes.now in
    let code = c.in-Some.code in
    let f = function_view c.args.f.now in
    let same : code_of f ≡ code = read-same codes c.args.i code (code_of f) c.as_slice.result.now
    c.index-as_slice-i.result c.as_slice.ensures c.requires.there c.index-as_slice-i.is c.in-Some.is in
    let there : code_at codes c.args.i ≡ Some code = c.requires.there ∙ ap (λ (x : Code). Some x) same in
    let low = subst (λ (x : Code). (nodes : ℕ) × IsLowered (map resolution_view c.args.functions.now) codes.codes f
    nodes x) same c.requires.lowered in
    let gs = map resolution_view c.args.functions.now in
    let law = c.inlined_runs_alike.ensures in
    let formed = c.inlined_is_well_formed.ensures c.requires.formed there in
    let w = c.in-Some-2.whole in
    let is : w ≡ inlined codes.codes code =
    matched-some c.in_ok-whole.field-0 w (inlined codes.codes code ≡ code) (λ x. x ≡ inlined codes.codes code)
    c.in-Some-2.is c.in_ok-whole.ensures in
    whole-alone codes c.args.i f code w c.requires.formed there gs low.0 low.1 law formed is
    _

pub judge_inlined-requires-clause-named : goal.judge_inlined-requires-clause-named
judge_inlined-requires-clause-named c =
    let codes = c.args.codes.now in
    let code = c.in-Some.code in
    let f = function_view c.args.f.now in
    let same : code_of f ≡ code = read-same codes c.args.i code (code_of f) c.as_slice.result.now
    c.index-as_slice-i.result c.as_slice.ensures c.requires.there c.index-as_slice-i.is c.in-Some.is in
    let there : code_at codes c.args.i ≡ Some code = c.requires.there ∙ ap (λ (x : Code). Some x) same in
    let low = subst (λ (x : Code). (nodes : ℕ) × IsLowered (map resolution_view c.args.functions.now) codes.codes f
    nodes x) same c.requires.lowered in
    let gs = map resolution_view c.args.functions.now in
    let law = c.inlined_runs_alike.ensures in
    let formed = c.inlined_is_well_formed.ensures c.requires.formed there in
    let w = c.in-Some-2.whole in
    let is : w ≡ inlined codes.codes code =
    matched-some c.in_ok-whole.field-0 w (inlined codes.codes code ≡ code) (λ x. x ≡ inlined codes.codes code)
    c.in-Some-2.is c.in_ok-whole.ensures in
    whole-named codes c.args.i f code w c.requires.formed there gs low.0 low.1 law formed is

pub judge_at-requires-clause-code : goal.judge_at-requires-clause-code
judge_at-requires-clause-code c =
    let codes = c.args.codes.now in
    let code = c.in-Some.code in
    let f = function_view c.args.f.now in
    let same : code_of f ≡ code = read-same codes c.args.i code (code_of f) c.as_slice.result.now
    c.index-as_slice-i.result c.as_slice.ensures c.requires.there c.index-as_slice-i.is c.in-Some.is in
    c.requires.there ∙ ap (λ (x : Code). Some x) same

pub judge_at-requires-clause-runs : goal.judge_at-requires-clause-runs
judge_at-requires-clause-runs c =
    let codes = c.args.codes.now in
    let code = c.in-Some.code in
    let f = function_view c.args.f.now in
    let same : code_of f ≡ code = read-same codes c.args.i code (code_of f) c.as_slice.result.now
    c.index-as_slice-i.result c.as_slice.ensures c.requires.there c.index-as_slice-i.is c.in-Some.is in
    let there : code_at codes c.args.i ≡ Some code = c.requires.there ∙ ap (λ (x : Code). Some x) same in
    let low = subst (λ (x : Code). (nodes : ℕ) × IsLowered (map resolution_view c.args.functions.now) codes.codes f
    nodes x) same c.requires.lowered in
    let gs = map resolution_view c.args.functions.now in
    let law = c.inlined_runs_alike.ensures in
    let formed = c.inlined_is_well_formed.ensures c.requires.formed there in
    let is : code ≡ inlined codes.codes code =
    sym (matched-none c.in_ok-whole.field-0 (inlined codes.codes code ≡ code) (λ x. x ≡ inlined codes.codes code)
    c.in-None.is c.in_ok-whole.ensures) in
    whole-returns codes c.args.i f code code c.requires.formed there gs low.0 low.1 law formed is
    gs low.1.alike

pub judge_at-requires-clause-given : goal.judge_at-requires-clause-given
judge_at-requires-clause-given c =
    let codes = c.args.codes.now in
    let code = c.in-Some.code in
    let f = function_view c.args.f.now in
    let same : code_of f ≡ code = read-same codes c.args.i code (code_of f) c.as_slice.result.now
    c.index-as_slice-i.result c.as_slice.ensures c.requires.there c.index-as_slice-i.is c.in-Some.is in
    let there : code_at codes c.args.i ≡ Some code = c.requires.there ∙ ap (λ (x : Code). Some x) same in
    let low = subst (λ (x : Code). (nodes : ℕ) × IsLowered (map resolution_view c.args.functions.now) codes.codes f
    nodes x) same c.requires.lowered in
    let gs = map resolution_view c.args.functions.now in
    let law = c.inlined_runs_alike.ensures in
    let formed = c.inlined_is_well_formed.ensures c.requires.formed there in
    let is : code ≡ inlined codes.codes code =
    sym (matched-none c.in_ok-whole.field-0 (inlined codes.codes code ≡ code) (λ x. x ≡ inlined codes.codes code)
    c.in-None.is c.in_ok-whole.ensures) in
    whole-given codes c.args.i f code code c.requires.formed there gs low.0 low.1 law formed is
    (sym (ap (λ (x : Code). x.terms) same)) c.requires.words c.requires.few c.requires.immortals

pub judge_at-requires-clause-alone : goal.judge_at-requires-clause-alone
judge_at-requires-clause-alone c =
    let codes = c.args.codes.now in
    let code = c.in-Some.code in
    let f = function_view c.args.f.now in
    let same : code_of f ≡ code = read-same codes c.args.i code (code_of f) c.as_slice.result.now
    c.index-as_slice-i.result c.as_slice.ensures c.requires.there c.index-as_slice-i.is c.in-Some.is in
    let there : code_at codes c.args.i ≡ Some code = c.requires.there ∙ ap (λ (x : Code). Some x) same in
    let low = subst (λ (x : Code). (nodes : ℕ) × IsLowered (map resolution_view c.args.functions.now) codes.codes f
    nodes x) same c.requires.lowered in
    let gs = map resolution_view c.args.functions.now in
    let law = c.inlined_runs_alike.ensures in
    let formed = c.inlined_is_well_formed.ensures c.requires.formed there in
    λ none. stands_alone codes c.args.i c.requires.formed (λ other same. subst (λ (x : Code). CallsNone x.instrs)
    (same-some code other (sym there ∙ same)) none)

pub judge_at-requires-clause-named : goal.judge_at-requires-clause-named
judge_at-requires-clause-named c =
    let codes = c.args.codes.now in
    let code = c.in-Some.code in
    let f = function_view c.args.f.now in
    let same : code_of f ≡ code = read-same codes c.args.i code (code_of f) c.as_slice.result.now
    c.index-as_slice-i.result c.as_slice.ensures c.requires.there c.index-as_slice-i.is c.in-Some.is in
    let there : code_at codes c.args.i ≡ Some code = c.requires.there ∙ ap (λ (x : Code). Some x) same in
    let low = subst (λ (x : Code). (nodes : ℕ) × IsLowered (map resolution_view c.args.functions.now) codes.codes f
    nodes x) same c.requires.lowered in
    let gs = map resolution_view c.args.functions.now in
    let law = c.inlined_runs_alike.ensures in
    let formed = c.inlined_is_well_formed.ensures c.requires.formed there in
    let is : code ≡ inlined codes.codes code =
    sym (matched-none c.in_ok-whole.field-0 (inlined codes.codes code ≡ code) (λ x. x ≡ inlined codes.codes code)
    c.in-None.is c.in_ok-whole.ensures) in
    λ at g e. subst (λ ns. g < length ns) (sym c.as_slice-names.ensures)
    (whole-named codes c.args.i f code code c.requires.formed there gs low.0 low.1 law formed is at g e)

pub returns-in-Some-2-clause-sound : goal.returns-in-Some-2-clause-sound
returns-in-Some-2-clause-sound c =
    let codes = c.args.codes.now in
    let code = c.in-Some.code in
    let f = function_view c.args.f.now in
    let same : code_of f ≡ code = read-same codes c.args.i code (code_of f) c.as_slice.result.now
    c.index-as_slice-i.result c.as_slice.ensures c.requires.there c.index-as_slice-i.is c.in-Some.is in
    let there : code_at codes c.args.i ≡ Some code = c.requires.there ∙ ap (λ (x : Code). Some x) same in
    let low = subst (λ (x : Code). (nodes : ℕ) × IsLowered (map resolution_view c.args.functions.now) codes.codes f
    nodes x) same c.requires.lowered in
    let gs = map resolution_view c.args.functions.now in
    let law = c.inlined_runs_alike.ensures in
    let formed = c.inlined_is_well_formed.ensures c.requires.formed there in
    let w = c.in-Some-2.whole in
    let is : w ≡ inlined codes.codes code =
    matched-some c.in_ok-whole.field-0 w (inlined codes.codes code ≡ code) (λ x. x ≡ inlined codes.codes code)
    c.in-Some-2.is c.in_ok-whole.ensures in
    subst (λ (x : Code). IfOk c.judge_inlined.result (λ v. (fs : List (Option ResolvedFunction))
    → Behaves fs codes.codes f x steps_an_instruction → IsTrueOf fs codes.statics f v)) (sym same)
    (whole-sound codes c.args.i f code w c.requires.formed there gs low.0 low.1 law formed is
    c.judge_inlined.result c.judge_inlined.ensures.sound)

pub returns-in-Some-2-clause-caused : goal.returns-in-Some-2-clause-caused
returns-in-Some-2-clause-caused c =
    let codes = c.args.codes.now in
    let code = c.in-Some.code in
    let f = function_view c.args.f.now in
    let same : code_of f ≡ code = read-same codes c.args.i code (code_of f) c.as_slice.result.now
    c.index-as_slice-i.result c.as_slice.ensures c.requires.there c.index-as_slice-i.is c.in-Some.is in
    let there : code_at codes c.args.i ≡ Some code = c.requires.there ∙ ap (λ (x : Code). Some x) same in
    let low = subst (λ (x : Code). (nodes : ℕ) × IsLowered (map resolution_view c.args.functions.now) codes.codes f
    nodes x) same c.requires.lowered in
    let gs = map resolution_view c.args.functions.now in
    let law = c.inlined_runs_alike.ensures in
    let formed = c.inlined_is_well_formed.ensures c.requires.formed there in
    let w = c.in-Some-2.whole in
    let is : w ≡ inlined codes.codes code =
    matched-some c.in_ok-whole.field-0 w (inlined codes.codes code ≡ code) (λ x. x ≡ inlined codes.codes code)
    c.in-Some-2.is c.in_ok-whole.ensures in
    subst (λ (x : Code). IfOk c.judge_inlined.result (λ v. IsDecidedAt codes.names codes.statics
    (inlined codes.codes x) v)) (sym same)
    (whole-caused codes c.args.i f code w c.requires.formed there gs low.0 low.1 law formed is
    codes.names refl c.judge_inlined.result c.judge_inlined.ensures.caused)

pub returns-in-None-clause-sound : goal.returns-in-None-clause-sound
returns-in-None-clause-sound c =
    let codes = c.args.codes.now in
    let code = c.in-Some.code in
    let f = function_view c.args.f.now in
    let same : code_of f ≡ code = read-same codes c.args.i code (code_of f) c.as_slice.result.now
    c.index-as_slice-i.result c.as_slice.ensures c.requires.there c.index-as_slice-i.is c.in-Some.is in
    let there : code_at codes c.args.i ≡ Some code = c.requires.there ∙ ap (λ (x : Code). Some x) same in
    let low = subst (λ (x : Code). (nodes : ℕ) × IsLowered (map resolution_view c.args.functions.now) codes.codes f
    nodes x) same c.requires.lowered in
    let gs = map resolution_view c.args.functions.now in
    let law = c.inlined_runs_alike.ensures in
    let formed = c.inlined_is_well_formed.ensures c.requires.formed there in
    let is : code ≡ inlined codes.codes code =
    sym (matched-none c.in_ok-whole.field-0 (inlined codes.codes code ≡ code) (λ x. x ≡ inlined codes.codes code)
    c.in-None.is c.in_ok-whole.ensures) in
    subst (λ (x : Code). IfOk c.judge_at.result (λ v. (fs : List (Option ResolvedFunction))
    → Behaves fs codes.codes f x steps_an_instruction → IsTrueOf fs codes.statics f v)) (sym same)
    (whole-sound codes c.args.i f code code c.requires.formed there gs low.0 low.1 law formed is
    c.judge_at.result c.judge_at.ensures.sound)

pub returns-in-None-clause-caused : goal.returns-in-None-clause-caused
returns-in-None-clause-caused c =
    let codes = c.args.codes.now in
    let code = c.in-Some.code in
    let f = function_view c.args.f.now in
    let same : code_of f ≡ code = read-same codes c.args.i code (code_of f) c.as_slice.result.now
    c.index-as_slice-i.result c.as_slice.ensures c.requires.there c.index-as_slice-i.is c.in-Some.is in
    let there : code_at codes c.args.i ≡ Some code = c.requires.there ∙ ap (λ (x : Code). Some x) same in
    let low = subst (λ (x : Code). (nodes : ℕ) × IsLowered (map resolution_view c.args.functions.now) codes.codes f
    nodes x) same c.requires.lowered in
    let gs = map resolution_view c.args.functions.now in
    let law = c.inlined_runs_alike.ensures in
    let formed = c.inlined_is_well_formed.ensures c.requires.formed there in
    let is : code ≡ inlined codes.codes code =
    sym (matched-none c.in_ok-whole.field-0 (inlined codes.codes code ≡ code) (λ x. x ≡ inlined codes.codes code)
    c.in-None.is c.in_ok-whole.ensures) in
    subst (λ (x : Code). IfOk c.judge_at.result (λ v. IsDecidedAt codes.names codes.statics
    (inlined codes.codes x) v)) (sym same)
    (whole-caused codes c.args.i f code code c.requires.formed there gs low.0 low.1 law formed is
    c.as_slice-names.result.now c.as_slice-names.ensures c.judge_at.result c.judge_at.ensures.caused)
