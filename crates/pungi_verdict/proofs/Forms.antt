-- Well-formed codes have the judged form, and so have their idle codes; the objects that aren't counted are there.
use Rattle.std.proofs.Common.{◌≡◌, ◌≤◌, arith, ℕ, zero, suc, ◌+◌, Bool, true, false, List, [], ◌∷◌, take, Some}
use Rattle.std.proofs.Common.{refl, ap, ◌∙◌}
use Rattle.std.specs.Prelude.{◌&&◌, nat_le, length, slice_get}
use Rattle.std.specs.List.{list_all}
use Rattle.pungi_code.specs.Limits.{most_arguments}
use Rattle.pungi_code.specs.declared.code.Code.{Code}
use Rattle.pungi_code.specs.declared.code.Codes.{Codes}
use Rattle.pungi_code.specs.declared.code.Line.{Line}
use Rattle.pungi_code.specs.declared.instr.Instr.{Instr}
use Rattle.pungi_code.specs.declared.instr.Instr.TheVariants.{Load, Store, Api}
use Rattle.pungi_code.specs.declared.place.Place.{Place}
use Rattle.pungi_code.specs.declared.place.Place.TheVariants.{Global, Field}
use Rattle.pungi_code.specs.WellFormed.{CallKinds, IsWellFormedAmong, is_sound_among, is_slot_kind, is_place}
use Rattle.pungi_code.specs.WellFormed.{place_kind, is_wide, is_var, var_kind, atom_is, is_answer, are_arguments, has_statics}
use Rattle.pungi_base.specs.Numbers.{static_count}
use Rattle.pungi_api.specs.Terms.{immortal_count}
use Rattle.pungi_api.specs.declared.profile.Profile.{Profile}
use Rattle.pungi_api.specs.declared.profile.Profile.TheVariants.{Python311, Python312}
use Rattle.pungi_api.specs.Signatures.{is_signature, has_outcomes, returns_object, row_answer}
use Rattle.pungi_api.specs.Rows.{may_take_all}
use Rattle.pungi_api.specs.declared.param.Param.{Param}
use Rattle.pungi_api.specs.declared.param.Param.TheVariants as param
use Rattle.pungi_idle.specs.IdleCode.{idle, idle_kind, idle_kinds, is_kept}
use Rattle.pungi_symbol.specs.runs.JudgedForm.{is_judged_instr, has_judged_form}
use Rattle.pungi_symbol.specs.Promises.{HasImmortals}

pub and-left : (a b : Bool) → (a && b) ≡ true → a ≡ true
and-left true b e = refl
and-left false b e = absurd (cc)

pub and-right : (a b : Bool) → (a && b) ≡ true → b ≡ true
and-right true b e = e
and-right false b e = absurd (cc)

and-so : (a b : Bool) → a ≡ true → b ≡ true → (a && b) ≡ true
and-so a b x y = ap (λ (c : Bool). c && b) x ∙ y

list-taken : {A : Type 0} (P : A → Bool) (m : ℕ) (xs : List A) → list_all P xs ≡ true → list_all P (take m xs) ≡ true
list-taken P zero xs e = refl
list-taken P (suc m) [] e = refl
list-taken P (suc m) (x ∷ xs) e =
    and-so (P x) (list_all P (take m xs)) (and-left (P x) (list_all P xs) e)
    (list-taken P m xs (and-right (P x) (list_all P xs) e))

-- ---- instructions

slot-kind : (vars : List Param) (p : Place) → is_place vars p (place_kind p) ≡ true
    → is_slot_kind (place_kind p) ≡ true
slot-kind vars (Global n k) e = and-left (is_slot_kind k) (is_wide k k && is_wide k k) e
slot-kind vars (Field base tag field k) e =
    and-left (is_slot_kind k) (is_wide k k && is_wide k k)
    (and-right (atom_is vars param.ObjectOrNull base) (is_slot_kind k && (is_wide k k && is_wide k k)) e)

instr-judged : (callees : ℕ → CallKinds) (code : Code) (i : Instr) → is_sound_among callees code i ≡ true
    → is_judged_instr i ≡ true
instr-judged callees code (Load x place) e =
    slot-kind code.vars place (and-left (is_place code.vars place (place_kind place))
    (is_wide (place_kind place) (var_kind code.vars x)) (and-right (is_var code.vars x)
    (is_place code.vars place (place_kind place) && is_wide (place_kind place) (var_kind code.vars x)) e))
instr-judged callees code (Store place a) e =
    slot-kind code.vars place (and-left (is_place code.vars place (place_kind place))
    (atom_is code.vars (place_kind place) a) e)
instr-judged callees code (Api x g as') e =
    let few = nat_le (length as') most_arguments in
    let others = returns_object g.answer g.params && has_outcomes g.own g.answer in
    and-right (returns_object g.answer g.params) (has_outcomes g.own g.answer)
    (and-right (may_take_all (row_answer g.answer) g.params g.takes) others
    (and-right few (is_signature g) (and-right (are_arguments code.vars g.params as') (few && is_signature g)
    (and-right (is_answer code.vars g x) (are_arguments code.vars g.params as' && (few && is_signature g)) e))))
instr-judged callees code i e = refl

lines-judged : (callees : ℕ → CallKinds) (code : Code) (lines : List Line)
    → ((place : ℕ) (line : Line) → slice_get lines place ≡ Some line → is_sound_among callees code line.instr ≡ true)
    → list_all (λ (line : Line). is_judged_instr line.instr) lines ≡ true
lines-judged callees code [] sound = refl
lines-judged callees code (line ∷ lines) sound =
    and-so (is_judged_instr line.instr) (list_all (λ (l : Line). is_judged_instr l.instr) lines)
    (instr-judged callees code line.instr (sound 0 line refl))
    (lines-judged callees code lines (λ place l at. sound (suc place) l at))

-- ---- codes

abbrev lines-of : Code → Bool
lines-of code = list_all (λ (line : Line). is_judged_instr line.instr) code.instrs

pub judged : (callees : ℕ → CallKinds) (n : ℕ) (code : Code) → IsWellFormedAmong callees code
    → has_statics n code ≡ true → has_judged_form n code ≡ true
judged callees n code formed there =
    and-so (list_all is_slot_kind (take code.params code.vars)) (lines-of code && has_statics n code)
    (list-taken is_slot_kind code.params code.vars formed.kinds)
    (and-so (lines-of code) (has_statics n code) (lines-judged callees code code.instrs formed.sound) there)

-- symbolic states hold the parameters of a code of the judged form
pub parameters : (n : ℕ) (code : Code) → has_judged_form n code ≡ true
    → list_all is_slot_kind (take code.params code.vars) ≡ true
parameters n code e =
    and-left (list_all is_slot_kind (take code.params code.vars)) (lines-of code && has_statics n code) e

-- ---- the idle code has the judged form of the code

kind-idle : (b : Bool) (k : Param) → is_slot_kind k ≡ true → is_slot_kind (idle_kind b k) ≡ true
kind-idle true k e = e
kind-idle false param.Object e = e
kind-idle false param.ObjectOrNull e = refl
kind-idle false param.Text e = e
kind-idle false param.TextOrNull e = refl
kind-idle false param.Int e = e
kind-idle false param.Long e = e
kind-idle false param.Size e = e
kind-idle false param.ModuleDef e = e

kinds-idle : (ls : List Line) (taken : List ℕ) (n x m : ℕ) (ks : List Param) → list_all is_slot_kind (take m ks) ≡ true
    → list_all is_slot_kind (take m (idle_kinds ls taken n x ks)) ≡ true
kinds-idle ls taken n x zero ks e = refl
kinds-idle ls taken n x (suc m) [] e = refl
kinds-idle ls taken n x (suc m) (k ∷ ks) e =
    and-so (is_slot_kind (idle_kind (is_kept ls taken n x) k)) (list_all is_slot_kind
    (take m (idle_kinds ls taken n (x + 1) ks)))
    (kind-idle (is_kept ls taken n x) k (and-left (is_slot_kind k) (list_all is_slot_kind (take m ks)) e))
    (kinds-idle ls taken n (x + 1) m ks (and-right (is_slot_kind k) (list_all is_slot_kind (take m ks)) e))

pub idle-judged : (n : ℕ) (code : Code) → has_judged_form n code ≡ true → has_judged_form n (idle code) ≡ true
idle-judged n code e =
    let rest = lines-of code && has_statics n code in
    and-so (list_all is_slot_kind (take code.params (idle code).vars)) rest
    (kinds-idle code.instrs code.terms.convention.taken code.params 0 code.params code.vars (parameters n code e))
    (and-right (list_all is_slot_kind (take code.params code.vars)) rest e)

-- ---- objects that aren't counted

counted-few : (p : Profile) (n : ℕ) → static_count ≤ n → immortal_count p ≤ n
counted-few Python311 n few = omega arith
counted-few Python312 n few = omega (arith, few)

-- a file has more static objects than those that aren't counted
pub immortals-there : (codes : Codes) (f : ℕ) → static_count ≤ codes.statics → HasImmortals codes f
immortals-there codes f few code is = counted-few code.terms.profile codes.statics few
