-- A function in which no rule holds is within the limits of the emitters.
use Rattle.std.proofs.Common.{◌≡◌, ℕ, arith, List, map, option_map, slice_get, Option, Some, None, refl}
use Rattle.std.proofs.Common.{sym, ap, subst, ◌∙◌}
use Rattle.std.specs.Prelude.{is_some, if◌then◌else◌}
use Rattle.std.proofs.lemmas.Option.{slice_get-map}
use Rattle.pungi_types.specs.declared.finding.Finding.{Finding}
use Rattle.pungi_types.specs.Files.{Definition, definitions}
use Rattle.pungi_types.specs.Functions.{file_env, refusal}
use Rattle.pungi_types.specs.Names.{Env}
use Rattle.pungi_types.specs.Refused.{CheckedFile}
use Rattle.pungi_resolve.specs.Functions.{resolved, resolved_in}
use Rattle.pungi_resolve.specs.Passed.{IsPassed}
use Rattle.pungi_resolve.specs.Resolutions.{resolution_of, resolution_view, IsResolved}
use Rattle.pungi_resolved.specs.Functions.{ResolvedFunction}
use Rattle.pungi_resolved.specs.declared.function.Function.{Function}
use Rattle.pungi_emit.specs.function.Limits.{IsWithinLimits, IsWithinAny}
use Rattle.pungi_lower.specs.Lowered.{IsEachPassed}
use Rattle.pungi_lower.proofs.Lowered.{passed-all}
use Rattle.pungi_lower.proofs.sound.Functions.{within-limits, function-works, params-among, nodes-bounded, size-bounded}

passed-within : (env : Env) (d : Definition) → IsPassed env d → IsWithinLimits (resolved_in env d)
passed-within env d h =
    let l = within-limits env d h.passed in
    let n = nodes-bounded env d h in
    record {
      sound = function-works env d h;
      params = params-among env d;
      variables = omega (arith, l.locals, n);
      instructions = size-bounded env d h;
    }

resolution-within : (c : CheckedFile) (i : ℕ) (d : Definition) → IsEachPassed c
    → slice_get (definitions c.file.items) i ≡ Some d → IsWithinAny (resolution_of c.file c.refused d)
resolution-within c i d passed at =
    elim (refusal c.file c.refused d) as (λ (r : Option Finding). (refusal c.file c.refused d ≡ r)
    → IsWithinAny (if is_some r then None else Some (resolved c.file c.refused d))) [
      | None ↦ λ e. passed-within (file_env c.file c.refused d.name.0) d (passed i d at e)
      | Some x ↦ λ e. tt
    ] refl

-- the function at a place, as a program reads it
pub within-read : (c : CheckedFile) (fs : List (Option Function)) (i : ℕ) (o : Option Function)
    → IsResolved c (map resolution_view fs) → slice_get fs i ≡ Some o → IsWithinAny (resolution_view o)
within-read c fs i o is at =
    let ds = definitions c.file.items in
    let left : slice_get (map resolution_view fs) i ≡ Some (resolution_view o) = slice_get-map resolution_view fs i
    ∙ ap (option_map resolution_view) at in
    let right : option_map (resolution_of c.file c.refused) (slice_get ds i) ≡ Some (resolution_view o) =
    sym (slice_get-map (resolution_of c.file c.refused) ds i)
    ∙ sym (ap (λ (l : List (Option ResolvedFunction)). slice_get l i) is.are) ∙ left in
    elim (slice_get ds i) as (λ (q : Option Definition). (slice_get ds i ≡ q)
    → option_map (resolution_of c.file c.refused) q ≡ Some (resolution_view o) → IsWithinAny (resolution_view o)) [
      | None ↦ λ e h. absurd (cc)
      | Some d ↦ λ e h.
          let s : Some (resolution_of c.file c.refused d) ≡ Some (resolution_view o) = h in
          let same : resolution_of c.file c.refused d ≡ resolution_view o = cc in
          subst (λ (r : Option ResolvedFunction). IsWithinAny r) same
          (resolution-within c i d (passed-all c is.own is.set) e)
    ] refl right
