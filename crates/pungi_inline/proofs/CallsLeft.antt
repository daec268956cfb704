-- Where there is no first call, no call is left.
use Rattle.std.proofs.Common.{◌≡◌, ℕ, zero, suc, true, List, [], ◌∷◌, Option, None, refl, sym, ◌∙◌}
use Rattle.pungi_base.specs.declared.pos.Pos.{Pos}
use Rattle.pungi_code.specs.declared.code.Line.{Line}
use Rattle.pungi_code.specs.declared.instr.Instr.{Instr}
use Rattle.pungi_code.specs.declared.instr.Instr.TheVariants.{Set, Arith, Fit, Compare, Load, Store, Api, Call, Unset}
use Rattle.pungi_code.specs.declared.instr.Instr.TheVariants.{Jump, Branch, Return, Fall}
use Rattle.pungi_code.specs.Alone.{calls_none, CallsNone}
use Rattle.pungi_inline.specs.FirstCall.{called_by, first_of, first_call}

-- an instruction that is no call
no_call : (p : Pos) (i : Instr) (other : Option (Pos × ℕ)) → first_of (called_by p i) other ≡ None
    → calls_none i ≡ true
no_call p (Call x f as') other e = absurd (cc)
no_call p (Return a) other e = refl
no_call p (Set x b) other e = refl
no_call p (Arith x kind op b c) other e = refl
no_call p (Fit x kind b) other e = refl
no_call p (Compare x c b d) other e = refl
no_call p (Load x place) other e = refl
no_call p (Store place b) other e = refl
no_call p (Api x s as') other e = refl
no_call p (Unset x) other e = refl
no_call p (Jump to) other e = refl
no_call p (Branch b this other') other e = refl
no_call p Fall other e = refl

-- the first call is behind such an instruction
later : (p : Pos) (i : Instr) (other : Option (Pos × ℕ)) → calls_none i ≡ true
    → first_of (called_by p i) other ≡ other
later p (Call x f as') other e = absurd (cc)
later p (Return a) other e = refl
later p (Set x b) other e = refl
later p (Arith x kind op b c) other e = refl
later p (Fit x kind b) other e = refl
later p (Compare x c b d) other e = refl
later p (Load x place) other e = refl
later p (Store place b) other e = refl
later p (Api x s as') other e = refl
later p (Unset x) other e = refl
later p (Jump to) other e = refl
later p (Branch b this other') other e = refl
later p Fall other e = refl

pub none_left : (ls : List Line) → first_call ls ≡ None → CallsNone ls
none_left [] e place l at = absurd (cc)
none_left (m ∷ ls) e zero l at =
    let same : m ≡ l = cc in
    let none : calls_none m.instr ≡ true = no_call m.pos m.instr (first_call ls) e in
    cc
none_left (m ∷ ls) e (suc place) l at =
    let none : calls_none m.instr ≡ true = no_call m.pos m.instr (first_call ls) e in
    none_left ls (sym (later m.pos m.instr (first_call ls) none) ∙ e) place l at
