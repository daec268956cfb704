-- A function that calls none of the file has the same finding whichever functions are refused.
use Rattle.std.proofs.Common.{◌≡◌, ℕ, ◌+◌, true, false, List, [], ◌∷◌, ◌++◌, length, Option, Some, None, Vec, refl, sym}
use Rattle.std.proofs.Common.{ap, ◌∙◌, arith}
use Rattle.std.specs.Prelude.{◌==◌, ◌&&◌, vec_len, if◌then◌else◌}
use Rattle.std.specs.declared.alloc.Global.{Global}
use Rattle.std.proofs.lemmas.Bool.Decides.{nat_tests}
use Rattle.pungi_types.specs.Files.{SourceFile, Definition, definitions, definition_in, number_in}
use Rattle.pungi_types.specs.Names.{is_some_definition}
use Rattle.pungi_types.specs.Functions.{refusal}
use Rattle.pungi_check.specs.Calls.{called_words}
use Rattle.pungi_check.specs.Graph.{as_list, callees}
use Rattle.pungi_check.proofs.Places.{World, other_in, refused_call}
use Rattle.pungi_check.proofs.Agreement.{Agree}
use Rattle.pungi_check.proofs.SameFunctions.{world_of, refusal-same}

none-defined : (i : ℕ) (ds : List Definition) (w : ℕ) → number_in i ds w ≡ None → definition_in ds w ≡ None
none-defined i [] w e = refl
none-defined i (d ∷ ds) w e =
    elim (d.name.0 == w) as (λ b. (if b then Some i else number_in (i + 1) ds w) ≡ None
    → (if b then Some d else definition_in ds w) ≡ None) [
      | true ↦ λ h. absurd (cc)
      | false ↦ λ h. none-defined (i + 1) ds w h
    ] e

none-found : (o : Option ℕ) (js : List ℕ) → as_list o ++ js ≡ [] → (o ≡ None) × (js ≡ [])
none-found None js e = (refl, e)
none-found (Some j) js e = absurd (cc)

not-refused : (x : World) (s : List ℕ) (w : ℕ) → definition_in (definitions x.file.items) w ≡ None
    → refused_call x s w ≡ false
not-refused x s w e = ap (λ (o : Option Definition). is_some_definition o && other_in x s w) e

all-agree : (x : World) (s t ws : List ℕ) → callees (number_in 0 (definitions x.file.items)) ws ≡ [] → Agree x s t ws
all-agree x s t [] e = tt
all-agree x s t (w ∷ ws) e =
    let first = none-found (number_in 0 (definitions x.file.items) w) (callees
    (number_in 0 (definitions x.file.items)) ws) e in
    let none = none-defined 0 (definitions x.file.items) w first.0 in
    (not-refused x s w none ∙ sym (not-refused x t w none), all-agree x s t ws first.1)

pub alone-settled : (file : SourceFile) (s : List ℕ) (d : Definition)
    → callees (number_in 0 (definitions file.items)) (called_words d) ≡ [] → refusal file [] d ≡ refusal file s d
alone-settled file s d e = refusal-same file [] s d (all-agree (world_of file d) [] s (called_words d) e)

none-long : (js : List ℕ) → length js ≡ 0 → js ≡ []
none-long [] e = refl
none-long (j ∷ js) e = absurd (cc)

is-zero : (n : ℕ) → true ≡ (n == 0) → n ≡ 0
is-zero n e = grind (arith, nat_tests)

pub none-of : (v : Vec ℕ Global) → true ≡ (vec_len v == 0) → v.items ≡ []
none-of v e = none-long v.items (let zero-long : v.len ≡ 0 = is-zero v.len e in let ok = v.ok in cc)
