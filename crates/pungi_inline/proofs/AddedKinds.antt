-- The variables that are added for a call hold what those of its code hold, and its result.
use Rattle.std.proofs.Common.{◌≡◌, ℕ, zero, suc, ◌+◌, ◌≤◌, List, [], ◌∷◌, ◌++◌, length, take, get_or, Option, Some}
use Rattle.std.proofs.Common.{None, refl, sym, ap, ◌∙◌, subst, arith, append_assoc, length-append, get_or-append-add}
use Rattle.std.specs.Prelude.{slice_get}
use Rattle.std.proofs.lemmas.List.{length_push, get_or_append_left}
use Rattle.pungi_api.specs.declared.param.Param.{Param}
use Rattle.pungi_api.specs.declared.param.Param.TheVariants as param
use Rattle.pungi_code.specs.declared.code.Code.{Code}
use Rattle.pungi_code.specs.declared.code.Line.{Line}
use Rattle.pungi_code.specs.Limits.{most_variables}
use Rattle.pungi_inline.specs.Inlined.{site_kinds, all_kinds}
use Rattle.pungi_inline.specs.Sites.{Site, result_kind, site_at, total, window_size, window_sizes}
use Rattle.pungi_inline.proofs.MovedKinds.{Window}

kinds_long : (s : Option Site) → length (site_kinds s) ≡ window_size s
kinds_long None = refl
kinds_long (Some s) = length_push s.code.vars (result_kind s.code.result)

-- as many kinds are added as the windows say
pub all_kinds_long : (cs : List (Option Code)) (ls : List Line)
    → length (all_kinds cs ls) ≡ total (window_sizes cs ls)
all_kinds_long cs [] = refl
all_kinds_long cs (l ∷ ls) =
    let a = length-append (site_kinds (site_at cs l)) (all_kinds cs ls) in
    let b = kinds_long (site_at cs l) in
    let c = all_kinds_long cs ls in
    let g : length (site_kinds (site_at cs l) ++ all_kinds cs ls) ≡ window_size (site_at cs l)
    + total (window_sizes cs ls) = omega (arith, a, b, c) in
    g

-- the first variables of a code are a window
pub first_window : (own more : List Param) → length (own ++ more) ≤ most_variables → Window 0 own (own ++ more)
first_window own more few =
    let e = length-append own more in
    record {
      room = omega (arith, e);
      few = few;
      same = λ x lt.
          let z : 0 + x ≡ x = omega arith in
          ap (λ (n : ℕ). get_or (own ++ more) n param.ModuleDef) z
          ∙ get_or_append_left own more param.ModuleDef x lt;
    }

-- .. and so are those between others
middle_window : (front own rest : List Param) → length (front ++ (own ++ rest)) ≤ most_variables
    → Window (length front + 0) own (front ++ (own ++ rest))
middle_window front own rest few =
    let a = length-append front (own ++ rest) in
    let b = length-append own rest in
    record {
      room = omega (arith, a, b);
      few = few;
      same = λ x lt.
          let z : length front + 0 + x ≡ length front + x = omega arith in
          ap (λ (n : ℕ). get_or (front ++ (own ++ rest)) n param.ModuleDef) z
          ∙ get_or-append-add front (own ++ rest) x param.ModuleDef
          ∙ get_or_append_left own rest param.ModuleDef x lt;
    }

-- so are those that are added for a call
pub call_window : (cs : List (Option Code)) (front : List Param) (ls : List Line) (i : ℕ) (l : Line) (s : Site)
    → slice_get ls i ≡ Some l → site_at cs l ≡ Some s → length (front ++ all_kinds cs ls) ≤ most_variables
    → Window (length front + total (take i (window_sizes cs ls))) (s.code.vars ++ result_kind s.code.result ∷ [])
    (front ++ all_kinds cs ls)
call_window cs front [] i l s e f few = absurd (cc)
call_window cs front (x ∷ ls) zero l s e f few =
    let own = s.code.vars ++ result_kind s.code.result ∷ [] in
    let rest = all_kinds cs ls in
    let same : x ≡ l = cc in
    let o : site_at cs x ≡ Some s = ap (site_at cs) same ∙ f in
    let small : length (front ++ (own ++ rest)) ≤ most_variables =
    subst (λ (y : Option Site). length (front ++ (site_kinds y ++ rest)) ≤ most_variables) o few in
    subst (λ (y : Option Site). Window (length front + 0) own (front ++ (site_kinds y ++ rest))) (sym o)
    (middle_window front own rest small)
call_window cs front (x ∷ ls) (suc i) l s e f few =
    let own = s.code.vars ++ result_kind s.code.result ∷ [] in
    let kinds = site_kinds (site_at cs x) in
    let rest = all_kinds cs ls in
    let n = total (take i (window_sizes cs ls)) in
    let all : (front ++ kinds) ++ rest ≡ front ++ (kinds ++ rest) = append_assoc front kinds rest in
    let small : length ((front ++ kinds) ++ rest) ≤ most_variables =
    subst (λ (y : List Param). length y ≤ most_variables) (sym all) few in
    let a = length-append front kinds in
    let b = kinds_long (site_at cs x) in
    let w : length (front ++ kinds) + n ≡ length front + (window_size (site_at cs x) + n) = omega (arith, a, b) in
    subst (λ (y : ℕ). Window y own (front ++ (kinds ++ rest))) w
    (subst (λ (y : List Param). Window (length (front ++ kinds) + n) own y) all
    (call_window cs (front ++ kinds) ls i l s e f small))
