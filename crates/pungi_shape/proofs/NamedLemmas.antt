-- Static objects in order; and those of a function that calls none of the file.
use Rattle.std.proofs.Common.{◌≡◌, ◌∙◌, ℕ, List, [], ◌∷◌, ◌++◌, length, map, refl, ap, append-nil, inl, inr, subst}
use Rattle.std.proofs.Common.{◌<◌, ◌≤◌, zero, suc, true, false, Option, Some, None, IsSome, arith, get_or, slice_get}
use Rattle.std.proofs.lemmas.Bool.{cases_lt, false≢true}
use Rattle.std.proofs.lemmas.Option.{slice_get_past, slice_get_read}
use Rattle.std.specs.List.{flat_map}
use Rattle.pungi_code.specs.declared.code.Code.{Code}
use Rattle.pungi_code.specs.declared.code.Codes.{Codes}
use Rattle.pungi_code.specs.declared.code.Line.{Line}
use Rattle.pungi_code.specs.declared.instr.Instr.{Instr}
use Rattle.pungi_code.specs.declared.instr.Instr.TheVariants.{Set, Arith, Fit, Compare, Load, Store, Api, Call}
use Rattle.pungi_code.specs.declared.instr.Instr.TheVariants.{Unset as Forget, Jump, Branch, Return, Fall}
use Rattle.pungi_code.specs.Frames.{flatten}
use Rattle.pungi_code.specs.Run.{code_at}
use Rattle.pungi_code.specs.WellFormed.{IsAlone, IsWellFormed, is_sound}
use Rattle.std.specs.FinMap.{put}
use Rattle.std.specs.Ordering.{nat_cmp}
use Rattle.std.specs.declared.cmp.Ordering.{Ordering}
use Rattle.std.specs.declared.cmp.Ordering.TheVariants.{Less, Equal, Greater}
use Rattle.pungi_shape.specs.Named.{callee_of, callees_in, callees_of, functions_from, functions_within, in_order}
use Rattle.pungi_shape.specs.Named.{lines_of, put_all, put_number, put_numbers, statics_from, statics_in, statics_of}

put_key : (n : ℕ) (es : List (ℕ × Unit {0})) → map (λ e. e.0) (put nat_cmp n tt es) ≡ put_number n (map (λ e. e.0) es)
put_key n [] = refl
put_key n (e ∷ es) = go (nat_cmp n e.0) refl (put_key n es)
  where
    go : (o : Ordering) → nat_cmp n e.0 ≡ o → map (λ e. e.0) (put nat_cmp n tt es) ≡ put_number n (map (λ e. e.0) es)
        → map (λ e. e.0) (put nat_cmp n tt (e ∷ es)) ≡ put_number n (map (λ e. e.0) (e ∷ es))
    go Less o h = rw o refl
    go Equal o h = rw o refl
    go Greater o h = rw o (ap (λ ks. e.0 ∷ ks) h)

pub in_order_is : (ns : List ℕ) → in_order ns ≡ put_numbers ns []
in_order_is [] = refl
in_order_is (n ∷ ns) = put_key n (put_all ns) ∙ ap (put_number n) (in_order_is ns)

pub put_numbers_append : (ms ns ks : List ℕ) → put_numbers (ms ++ ns) ks ≡ put_numbers ms (put_numbers ns ks)
put_numbers_append [] ns ks = refl
put_numbers_append (m ∷ ms) ns ks = ap (put_number m) (put_numbers_append ms ns ks)

-- ---- the code of a function

pub code_there : (codes : Codes) (f n : ℕ) (os : List (Option Code)) (o : Option Code) → os ≡ codes.codes
    → n ≡ length codes.codes → f < n → o ≡ get_or os f o → code_at codes f ≡ o
code_there codes f n os o same l lt e = ap flatten (slice_get_read codes.codes n f o l lt (rw same at e))

pub code_past : (codes : Codes) (f n : ℕ) → n ≡ length codes.codes → n ≤ f → code_at codes f ≡ None
code_past codes f n l le = ap flatten (slice_get_past codes.codes f (omega (arith, l, le)))

pub code-within : (codes : Codes) (f : ℕ) → IsSome (code_at codes f) → f < length codes.codes
code-within codes f some = elim (cases_lt f (length codes.codes)) [
  | inl lt ↦ lt
  | inr le ↦ absurd (false≢true (subst IsSome (code_past codes f (length codes.codes) refl le) some))
]

flat : (o : Option (Option Code)) (code : Code) → flatten o ≡ Some code → o ≡ Some (Some code)
flat None code e = absurd (cc)
flat (Some o) code e = ap Some e

pub code-sound : (codes : Codes) (f : ℕ) (code : Code) → IsAlone codes f → code_at codes f ≡ Some code
    → IsWellFormed code
code-sound codes f code w is = w.each code (flat (slice_get codes.codes f) code is)

-- ---- no function of the file is called

pub no_callee : (code : Code) (i : Instr) → is_sound code i ≡ true → callee_of i ≡ []
no_callee code (Set x a) h = refl
no_callee code (Arith x kind o a b) h = refl
no_callee code (Fit x kind a) h = refl
no_callee code (Compare x k a b) h = refl
no_callee code (Load x place) h = refl
no_callee code (Store place a) h = refl
no_callee code (Api x g as') h = refl
no_callee code (Call x f as') h = absurd (let g : false ≡ true = h in cc)
no_callee code (Forget x) h = refl
no_callee code (Jump to) h = refl
no_callee code (Branch a this other) h = refl
no_callee code (Return a) h = refl
no_callee code Fall h = refl

pub no_callees : (code : Code) (lines : List Line)
    → ((place : ℕ) (line : Line) → slice_get lines place ≡ Some line → is_sound code line.instr ≡ true)
    → flat_map callees_in lines ≡ []
no_callees code [] h = refl
no_callees code (line ∷ lines) h =
    rw (no_callee code line.instr (h 0 line refl)) (no_callees code lines (λ place l e. h (suc place) l e))

none_called : (codes : Codes) (f : ℕ) → IsAlone codes f → (o : Option (Option Code)) → slice_get codes.codes f ≡ o
    → flat_map callees_in (lines_of (flatten o)) ≡ []
none_called codes f w None e = refl
none_called codes f w (Some None) e = refl
none_called codes f w (Some (Some code)) e = (let is = w.each code e in no_callees code code.instrs is.sound)

pub own_callees_none : (codes : Codes) (f : ℕ) (code : Code) → code_at codes f ≡ Some code → IsWellFormed code
    → callees_of codes f ≡ []
own_callees_none codes f code is well =
    ap (λ o. in_order (flat_map callees_in (lines_of o))) is
    ∙ ap in_order (no_callees code code.instrs well.sound)

pub callees_none : (codes : Codes) (f : ℕ) → IsAlone codes f → callees_of codes f ≡ []
callees_none codes f w = ap in_order (none_called codes f w (slice_get codes.codes f) refl)

within_itself : (codes : Codes) (n f : ℕ) → IsAlone codes f → functions_within codes n f ≡ f ∷ []
within_itself codes zero f w = refl
within_itself codes (suc n) f w =
    ap (λ gs. f ∷ flat_map (functions_within codes n) gs) (callees_none codes f w)

pub from_itself : (codes : Codes) (f : ℕ) → IsAlone codes f → functions_from codes f ≡ f ∷ []
from_itself codes f w = ap in_order (within_itself codes (length codes.codes) f w)

pub statics_of_lines : (codes : Codes) (f : ℕ) → IsAlone codes f
    → statics_of codes f ≡ put_numbers (flat_map statics_in (lines_of (code_at codes f))) []
statics_of_lines codes f w =
    ap (λ gs. in_order (flat_map (statics_from codes) gs)) (from_itself codes f w)
    ∙ ap in_order (append-nil (statics_from codes f))
    ∙ in_order_is (statics_from codes f)
