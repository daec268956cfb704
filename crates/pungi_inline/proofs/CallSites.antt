-- The calls that are replaced, and what well-formed codes say of calls.
use Rattle.std.proofs.Common.{◌≡◌, ℕ, ◌<◌, ◌==◌, true, ◌&&◌, List, length, Option, Some, None}
use Rattle.std.proofs.Common.{refl, subst}
use Rattle.std.specs.Prelude.{nat_lt, nat_le}
use Rattle.std.proofs.lemmas.Bool.{and_parts}
use Rattle.pungi_api.specs.declared.param.Param.{Param}
use Rattle.pungi_code.specs.declared.atom.Atom.{Atom}
use Rattle.pungi_code.specs.declared.atom.Var.{Var}
use Rattle.pungi_code.specs.declared.code.Code.{Code}
use Rattle.pungi_code.specs.declared.instr.Instr.{Instr}
use Rattle.pungi_code.specs.declared.instr.Instr.TheVariants.{Call, Return}
use Rattle.pungi_code.specs.Limits.{most_arguments}
use Rattle.pungi_code.specs.WellFormed.{CallKinds, is_slot_kind, is_var, is_wide, var_kind, fits_result, fits_call}
use Rattle.pungi_code.specs.WellFormed.{are_arguments, is_sound_among}
use Rattle.pungi_inline.specs.Sites.{result_kind, is_copied, site}
use Rattle.pungi_inline.proofs.OneInstruction.{is_ordinary}
use Rattle.pungi_inline.proofs.Operands.{lt_says}

-- ---- which calls are replaced

-- all but calls are not replaced
pub no_site : (cs : List (Option Code)) (i : Instr) → is_ordinary i ≡ true → site cs i ≡ None
no_site cs (Call x f as') e = absurd (cc)
no_site cs (Return v) e = absurd (cc)
no_site cs i e = refl

-- a copied code has instructions, and takes as many arguments as there are
pub copied_there : (g : Code) (as' : List Atom) → is_copied g as' ≡ true
    → (0 < length g.instrs) × ((length as' == g.params) ≡ true)
copied_there g as' e =
    let h = and_parts (nat_lt 0 (length g.instrs))
    (length as' == g.params && is_slot_kind (result_kind g.result)) e in (
      lt_says 0 (length g.instrs) h.0,
      (and_parts (length as' == g.params) (is_slot_kind (result_kind g.result)) h.1).0,
    )

-- ---- calls of well-formed codes

-- the arguments are held, and so is what the result goes to
pub record IsSoundCall (vars : List Param) (x : Option Var) (as' : List Atom) : Type 0 where
  pub kinds : List Param
  pub args : are_arguments vars kinds as' ≡ true
  pub into : (y : Var) → x ≡ Some y → y.0 < length vars

-- a result goes to a variable that is there
into_held : (vars : List Param) (k : Option Param) (x : Option Var) → fits_result vars k x ≡ true → (y : Var)
    → x ≡ Some y → y.0 < length vars
into_held vars k None e y is = absurd (cc)
into_held vars None (Some x) e y is = absurd (cc)
into_held vars (Some k) (Some x) e y is =
    let same : x ≡ y = cc in
    subst (λ (z : Var). z.0 < length vars) same
    (lt_says x.0 (length vars) (and_parts (is_var vars x) (is_wide k (var_kind vars x)) e).0)

-- a call fits the kinds of a code
call_sound : (vars : List Param) (k : CallKinds) (x : Option Var) (as' : List Atom) → fits_call vars k x as' ≡ true
    → IsSoundCall vars x as'
call_sound vars None x as' e = absurd (cc)
call_sound vars (Some k) x as' e =
    let h = and_parts (fits_result vars k.1 x)
    (are_arguments vars k.0 as' && nat_le (length as') most_arguments) e in
    let g = and_parts (are_arguments vars k.0 as') (nat_le (length as') most_arguments) h.1 in
    record { kinds = k.0; args = g.0; into = into_held vars k.1 x h.0 }

-- a call of a well-formed code takes variables that are there
pub sound_call : (callees : ℕ → CallKinds) (g : Code) (x : Option Var) (f : ℕ) (as' : List Atom)
    → is_sound_among callees g (Call x f as') ≡ true → IsSoundCall g.vars x as'
sound_call callees g x f as' e = call_sound g.vars (callees f) x as' e
