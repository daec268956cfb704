-- A function of the file that isn't refused may be called: its kinds are known, and its code takes and gives them.
use Rattle.std.proofs.Common.{◌≡◌, ◌∙◌, ℕ, suc, ◌+◌, arith, Bool, true, false, List, [], ◌∷◌, option_map, slice_get}
use Rattle.std.proofs.Common.{Option, Some, None, refl, sym, ap, subst}
use Rattle.std.specs.Prelude.{IsTrue, ◌==◌, ◌&&◌, ◌||◌, not, is_some, is_none, if◌then◌else◌}
use Rattle.std.proofs.lemmas.Bool.Decides.{nat_tests}
use Rattle.std.proofs.lemmas.Option.{slice_get-map}
use Rattle.pungi_base.specs.declared.key.Key.{Key}
use Rattle.pungi_tree.specs.Syntax.{Spec, Params, params, param_decl, ParamDecls, no_params, param_and, ParamDeclr}
use Rattle.pungi_tree.specs.Syntax.{named, bare, unused, Item}
use Rattle.pungi_types.specs.declared.finding.Finding.{Finding}
use Rattle.pungi_types.specs.declared.local.Local.{Local}
use Rattle.pungi_types.specs.declared.kind.ValueKind.{ValueKind}
use Rattle.pungi_types.specs.Files.{Definition, definitions, definition_in, number_in}
use Rattle.pungi_types.specs.Names.{Env, is_among}
use Rattle.pungi_types.specs.Calls.{param_kind}
use Rattle.pungi_types.specs.Findings.{Findings, ◌and◌}
use Rattle.pungi_types.specs.Functions.{file_env, first_frame, after_param, name_findings, param_findings}
use Rattle.pungi_types.specs.Functions.{params_findings, dots_findings, result_findings, parts_findings, refusal}
use Rattle.pungi_types.specs.Functions.{refusal_in}
use Rattle.pungi_types.specs.Stmts.{Frame, spec_pos, has_file_storage, declared_n1}
use Rattle.pungi_resolve.specs.Exprs.{or_zero}
use Rattle.pungi_resolve.specs.Functions.{param_kinds, params_kinds, resolved}
use Rattle.pungi_resolve.specs.Passed.{IsPassed}
use Rattle.pungi_resolve.specs.Resolutions.{resolution_of}
use Rattle.pungi_resolved.specs.Functions.{ResolvedFunction}
use Rattle.pungi_meaning.specs.Frames.{flatten}
use Rattle.pungi_resolve.proofs.Clean.{Clean, left, right, not_when, or_left}
use Rattle.pungi_resolve.proofs.SoundFunctions.{text-clean, result-known}
use Rattle.pungi_layout.specs.code.FunctionCode.{function_kinds, callees_of}
use Rattle.pungi_lower.specs.TypedLaws.{functions_in}
use Rattle.pungi_lower.proofs.kinds.Words.{may_be_kept, param_kept, result_given}
use Rattle.pungi_lower.proofs.kinds.Arguments.{is_placed, ArePlaced}
use Rattle.pungi_lower.proofs.kinds.Callees.{HasCallees}

-- .. the number of a definition
-- the one that a name finds stands at its number
record Numbered (ds : List Definition) (i w : ℕ) (d : Definition) : Type 0 where
  place : ℕ
  there : slice_get ds place ≡ Some d
  number : number_in i ds w ≡ Some (i + place)
  named : (d.name.0 == w) ≡ true

numbered_at : (ds : List Definition) (i w : ℕ) (d : Definition) → definition_in ds w ≡ Some d → Numbered ds i w d
numbered_at [] i w d e = absurd (cc)
numbered_at (x ∷ ds) i w d e =
    elim (x.name.0 == w) as (λ b. ((x.name.0 == w) ≡ b) → (if b then Some x else definition_in ds w) ≡ Some d
    → Numbered (x ∷ ds) i w d) [
      | true ↦ λ t k.
          let same : x ≡ d = cc in
          let zeroth : i ≡ i + 0 = omega arith in
          let P : Definition → Type 0 = λ y. Numbered (x ∷ ds) i w y in
          subst P same (record {
            place = 0;
            there = refl;
            number = ap (λ (b : Bool). if b then Some i else number_in (i + 1) ds w) t ∙ ap Some zeroth;
            named = t;
          })
      | false ↦ λ t k.
          let l = numbered_at ds (i + 1) w d k in
          let further : i + 1 + l.place ≡ i + suc l.place = omega arith in
          record {
            place = suc l.place;
            there = l.there;
            number = ap (λ (b : Bool). if b then Some i else number_in (i + 1) ds w) t ∙ l.number ∙ ap Some further;
            named = l.named;
          }
    ] refl e

pub definition_at : (ds : List Definition) (w : ℕ) (d : Definition) → definition_in ds w ≡ Some d
    → slice_get ds (or_zero (number_in 0 ds w)) ≡ Some d
definition_at ds w d e =
    let l = numbered_at ds 0 w d e in
    let first : 0 + l.place ≡ l.place = omega arith in
    ap (λ (n : Option ℕ). slice_get ds (or_zero n)) l.number ∙ ap (slice_get ds) first ∙ l.there

-- .. no rule holds in it
same_number : (a b : ℕ) → (a == b) ≡ true → a ≡ b
same_number a b h = grind (arith, nat_tests)

some_told : (o : Option Finding) → (IsTrue (is_some o) → ⊥) → o ≡ None
some_told None f = refl
some_told (Some x) f = absurd (f refl)

not_true : (b : Bool) → b ≡ false → IsTrue b → ⊥
not_true true e t = cc
not_true false e t = cc

-- no locals are in force around a function
bare_env : (env : Env) (d : Definition) → env.locals ≡ [] → refusal_in env d ≡ None
    → refusal_in (file_env env.file env.refused env.self) d ≡ None
bare_env env d e h =
    let P : List Local → Type 0 = λ ls. refusal_in (record
    { file = env.file; self = env.self; refused = env.refused; locals = ls }) d ≡ None in
    subst P e h

none_refused : (env : Env) (d x : Definition) (own among : Bool) → IsPassed env d → (x.name.0 == env.self) ≡ own
    → is_among env.refused x.name.0 ≡ among → (not own && among) ≡ false → (place : ℕ)
    → slice_get (definitions env.file.items) place ≡ Some x
    → definition_in (definitions env.file.items) x.name.0 ≡ Some x
    → refusal env.file env.refused x ≡ None
none_refused env d x false true h e a r place at k = absurd (cc)
none_refused env d x true among h e a r place at k =
    let n : x.name.0 ≡ env.self = same_number x.name.0 env.self e in
    let f : definition_in (definitions env.file.items) x.name.0
    ≡ definition_in (definitions env.file.items) env.self = ap (definition_in (definitions env.file.items)) n in
    let o = h.own in
    let same : d ≡ x = cc in
    let P : Definition → Type 0 = λ y. refusal_in (file_env env.file env.refused env.self) y ≡ None in
    let Q : ℕ → Type 0 = λ w. refusal_in (file_env env.file env.refused w) x ≡ None in
    subst Q (sym n) (subst P same (bare_env env d h.outside h.passed))
none_refused env d x false false h e a r place at k =
    some_told (refusal env.file env.refused x) (λ t. not_true (is_among env.refused x.name.0) a (h.others place x at t))

-- .. its parameters
kept_placed : (k : Option ValueKind) → is_none k ≡ false → may_be_kept k ≡ true → is_placed k ≡ true
kept_placed None n h = absurd (cc)
kept_placed (Some k) n h = h

param_file : (f : Frame) (qs : List Key) (s : Spec) (d : ParamDeclr)
    → (after_param f (param_decl qs s d)).env.file.items ≡ f.env.file.items
param_file f qs s (named d) = refl
param_file f qs s (bare stars) = refl
param_file f qs s (unused stars n p) = refl

params_placed : (f : Frame) (ds : ParamDecls) → Clean (param_findings f ds)
    → ArePlaced (param_kinds f.env.file.items ds)
params_placed f no_params c = tt
params_placed f (param_and (param_decl qs s d) ds) c =
    let k = param_kind f.env.file.items s d in
    let next = after_param f (param_decl qs s d) in
    let others : Findings = (name_findings f d and param_findings next ds) in
    let n1 = not_when (is_none k || has_file_storage qs) (spec_pos s) 1 (left (declared_n1 qs s k) others c) in
    let there = or_left (is_none k) (has_file_storage qs) n1 in
    let more = right (declared_n1 qs s k) others c in
    let rest = params_placed next ds (right (name_findings f d) (param_findings next ds) more) in (
      kept_placed k there (param_kept f.env.file.items s d),
      subst (λ (fl : List Item). ArePlaced (param_kinds fl ds)) (param_file f qs s d) rest,
    )

pub all_placed : (f : Frame) (ps : Params) → Clean (params_findings f ps) → ArePlaced (params_kinds f.env.file.items ps)
all_placed f (params ds v dots) c = params_placed f ds (right (dots_findings dots) _ c)

-- .. its code
called_kinds : (env : Env) (w : ℕ) (x : Definition) → definition_in (definitions env.file.items) w ≡ Some x
    → refusal env.file env.refused x ≡ None
    → callees_of (functions_in env) (or_zero (number_in 0 (definitions env.file.items) w))
    ≡ Some (function_kinds (resolved env.file env.refused x))
called_kinds env w x e none =
    let ds = definitions env.file.items in
    let n = or_zero (number_in 0 ds w) in
    let at : slice_get (functions_in env) n ≡ Some (resolution_of env.file env.refused x) =
    slice_get-map (resolution_of env.file env.refused) ds n
    ∙ ap (option_map (resolution_of env.file env.refused)) (definition_at ds w x e) in
    ap (λ (o : Option (Option ResolvedFunction)). option_map function_kinds (flatten o)) at
    ∙ ap (λ (r : Option Finding). option_map function_kinds
    (if is_some r then None else Some (resolved env.file env.refused x))) none

pub callees-passed : (env : Env) (d : Definition) (k : Option ValueKind) → IsPassed env d
    → HasCallees (record { callees = callees_of (functions_in env); result = k }) env
callees-passed env d k h w x e r =
    let l = numbered_at (definitions env.file.items) 0 w x e in
    let n : x.name.0 ≡ w = same_number x.name.0 w l.named in
    let P : ℕ → Type 0 = λ v. definition_in (definitions env.file.items) v ≡ Some x in
    let none = none_refused env d x (x.name.0 == env.self) (is_among env.refused x.name.0) h refl refl r l.place
    l.there (subst P (sym n) e) in
    let own = file_env env.file env.refused x.name.0 in
    let clean = right (result_findings own x) (parts_findings (first_frame own x) x) (text-clean own x none) in
    record {
      placed = all_placed (first_frame own x) x.params (left (params_findings (first_frame own x) x.params) _ clean);
      given = result_given env.file.items x.result x.stars (result-known own x none);
      kinds = called_kinds env w x e none;
    }
