-- A function is among those that it reaches; and where it calls none of the file, it names few static objects.
use Rattle.std.proofs.Common.{◌≡◌, ◌∙◌, ℕ, zero, suc, ◌+◌, ◌*◌, ◌<◌, ◌≤◌, ◌^◌, true, false, List, [], ◌∷◌, length, refl}
use Rattle.std.proofs.Common.{sym, ap, subst, arith, append-nil, Some, None}
use Rattle.std.specs.Prelude.{◌&&◌, nat_le, slice_get}
use Rattle.std.specs.List.{IsAmong, flat_map}
use Rattle.std.specs.FinMap.{nat_cmp-IsAntisymmetric}
use Rattle.std.specs.Ordering.{nat_cmp}
use Rattle.std.specs.declared.cmp.Ordering.{Ordering}
use Rattle.std.specs.declared.cmp.Ordering.TheVariants.{Less, Equal, Greater}
use Rattle.std.proofs.lemmas.Bool.{leb-true}
use Rattle.std.proofs.lemmas.List.{length-append}
use Rattle.pungi_code.specs.declared.atom.Atom.{Atom}
use Rattle.pungi_code.specs.declared.atom.Atom.TheVariants as atom
use Rattle.pungi_code.specs.declared.code.Code.{Code}
use Rattle.pungi_code.specs.declared.code.Codes.{Codes}
use Rattle.pungi_code.specs.declared.code.Line.{Line}
use Rattle.pungi_code.specs.declared.instr.Instr.{Instr}
use Rattle.pungi_code.specs.declared.instr.Instr.TheVariants.{Set, Arith, Fit, Compare, Load, Store, Api, Call}
use Rattle.pungi_code.specs.declared.instr.Instr.TheVariants.{Unset as Forget, Jump, Branch, Return, Fall}
use Rattle.pungi_code.specs.declared.place.Place.{Place}
use Rattle.pungi_code.specs.declared.place.Place.TheVariants.{Global, Field}
use Rattle.pungi_code.specs.Limits.{most_arguments}
use Rattle.pungi_code.specs.Run.{code_at}
use Rattle.pungi_code.specs.WellFormed.{IsWellFormed, are_arguments, is_answer, is_sound}
use Rattle.pungi_api.specs.Signatures.{is_signature}
use Rattle.pungi_code.specs.WellFormed.{atoms_of, atoms_in}
use Rattle.pungi_shape.specs.Named.{callees_in, callees_of, functions_from, functions_within}
use Rattle.pungi_shape.specs.Named.{in_order, lines_of, put_by, put_number, put_numbers, static_in, statics_from}
use Rattle.pungi_shape.specs.Named.{statics_in, statics_of}
use Rattle.pungi_shape.proofs.NamedLemmas.{in_order_is, no_callees}
use Rattle.pungi_shape.proofs.NumberLemmas.{both_true}

-- ---- numbers in order

put_number-among : (n : ℕ) (ks : List ℕ) → IsAmong (put_number n ks) n
put_number-among n [] = (0, (omega arith, refl))
put_number-among n (k ∷ ks) = at (nat_cmp n k) refl (put_number-among n ks)
  where
    at : (o : Ordering) → nat_cmp n k ≡ o → IsAmong (put_number n ks) n
        → IsAmong (put_by o (n ∷ k ∷ ks) (k ∷ ks) (k ∷ put_number n ks)) n
    at Less e later = (0, (omega arith, refl))
    at Equal e later = (0, (omega arith, nat_cmp-IsAntisymmetric n k e))
    at Greater e later = (suc later.0, (let lt = later.1.0 in omega (arith, lt), later.1.1))

put_number-few : (n : ℕ) (ks : List ℕ) → length (put_number n ks) ≤ 1 + length ks
put_number-few n [] = omega arith
put_number-few n (k ∷ ks) = at (nat_cmp n k) (put_number-few n ks)
  where
    at : (o : Ordering) → length (put_number n ks) ≤ 1 + length ks
        → length (put_by o (n ∷ k ∷ ks) (k ∷ ks) (k ∷ put_number n ks)) ≤ 1 + length (k ∷ ks)
    at Less le = omega arith
    at Equal le = omega arith
    at Greater le = omega (arith, le)

put_numbers-few : (ms : List ℕ) → length (put_numbers ms []) ≤ length ms
put_numbers-few [] = omega arith
put_numbers-few (m ∷ ms) =
    let one = put_number-few m (put_numbers ms []) in
    let rest = put_numbers-few ms in
    omega (arith, one, rest)

-- ---- functions

pub called-itself : (codes : Codes) (f : ℕ) → IsAmong (functions_from codes f) f
called-itself codes f = at (length codes.codes)
  where
    first : (gs : List ℕ) → IsAmong (in_order (f ∷ gs)) f
    first gs =
        subst (λ hs. IsAmong hs f) (sym (in_order_is (f ∷ gs))) (put_number-among f (put_numbers gs []))

    at : (n : ℕ) → IsAmong (in_order (functions_within codes n f)) f
    at zero = first []
    at (suc n) = first (flat_map (functions_within codes n) (callees_of codes f))

within-alone : (codes : Codes) (n f : ℕ) → callees_of codes f ≡ [] → functions_within codes n f ≡ f ∷ []
within-alone codes zero f none = refl
within-alone codes (suc n) f none = ap (λ gs. f ∷ flat_map (functions_within codes n) gs) none

statics-alone : (codes : Codes) (f : ℕ) (code : Code) → code_at codes f ≡ Some code → IsWellFormed code
    → statics_of codes f ≡ put_numbers (flat_map statics_in code.instrs) []
statics-alone codes f code is_code well =
    let none : callees_of codes f ≡ [] =
    ap (λ o. in_order (flat_map callees_in (lines_of o))) is_code
    ∙ ap in_order (no_callees code code.instrs well.sound) in
    ap (λ gs. in_order (flat_map (statics_from codes) (in_order gs))) (within-alone codes (length codes.codes) f none)
    ∙ ap in_order (append-nil (statics_from codes f))
    ∙ in_order_is (statics_from codes f)
    ∙ ap (λ o. put_numbers (flat_map statics_in (lines_of o)) []) is_code

-- ---- how many static objects a code names

static-few : (a : Atom) → length (static_in a) ≤ 1
static-few (atom.Static k) = omega arith
static-few a = omega arith

statics-few : (as' : List Atom) → length (flat_map static_in as') ≤ length as'
statics-few [] = omega arith
statics-few (a ∷ as') =
    let all = length-append (static_in a) (flat_map static_in as') in
    let one = static-few a in
    let rest = statics-few as' in
    omega (arith, all, one, rest)

base-few : (place : Place) → length (atoms_in place) ≤ 1
base-few (Global n kind) = omega arith
base-few (Field base tag field kind) = omega arith

atoms-few : (code : Code) (i : Instr) → is_sound code i ≡ true → length (atoms_of i) ≤ 16384
atoms-few code (Set x a) h = omega arith
atoms-few code (Arith x kind o a b) h = omega arith
atoms-few code (Fit x kind a) h = omega arith
atoms-few code (Compare x k a b) h = omega arith
atoms-few code (Load x place) h = (let one = base-few place in omega (arith, one))
atoms-few code (Store place a) h =
    let one = base-few place in
    omega (arith, one)
atoms-few code (Api x g as') h =
    let few = nat_le (length as') most_arguments in
    let first = both_true (is_answer code.vars g x) (are_arguments code.vars g.params as'
    && (few && is_signature g)) h in
    let second = both_true (are_arguments code.vars g.params as')
    (few && is_signature g) first.1 in
    leb-true (length as') most_arguments (both_true few (is_signature g) second.1).0
atoms-few code (Call x f as') h = absurd (let g : false ≡ true = h in cc)
atoms-few code (Forget x) h = omega arith
atoms-few code (Jump to) h = omega arith
atoms-few code (Branch a this other) h = omega arith
atoms-few code (Return None) h = omega arith
atoms-few code (Return (Some a)) h = omega arith
atoms-few code Fall h = omega arith

lines-few : (code : Code) (lines : List Line)
    → ((place : ℕ) (line : Line) → slice_get lines place ≡ Some line → is_sound code line.instr ≡ true)
    → length (flat_map statics_in lines) ≤ length lines * 16384
lines-few code [] sound = omega arith
lines-few code (line ∷ lines) sound =
    let all = length-append (statics_in line) (flat_map statics_in lines) in
    let one = statics-few (atoms_of line.instr) in
    let few = atoms-few code line.instr (sound 0 line refl) in
    let rest = lines-few code lines (λ place l e. sound (suc place) l e) in
    omega (arith, all, one, few, rest)

pub statics-small : (codes : Codes) (f : ℕ) (code : Code) → code_at codes f ≡ Some code → IsWellFormed code
    → length (statics_of codes f) ≤ 2 ^ 28
statics-small codes f code is_code well =
    let same = ap (λ ks. length ks) (statics-alone codes f code is_code well) in
    let once = put_numbers-few (flat_map statics_in code.instrs) in
    let lines = lines-few code code.instrs well.sound in
    let few = well.few in
    omega (arith, same, once, lines, few)

-- parameters and static objects are few
pub statics-below : (codes : Codes) (f : ℕ) (code : Code) → code_at codes f ≡ Some code → IsWellFormed code
    → code.params + length (statics_of codes f) < 2 ^ 31
statics-below codes f code is_code well =
    let small = statics-small codes f code is_code well in let params = well.params in omega (arith, small, params)
