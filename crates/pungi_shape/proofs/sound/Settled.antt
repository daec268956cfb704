-- Parts that are left out.
--   IsOut w                 a case leads to another instruction, or out of the function
use Rattle.std.proofs.Common.{◌≡◌, ℕ, zero, suc, ◌+◌, ◌<◌, ◌≤◌, ℤ, pos, List, [], ◌∷◌, length, map, get_or, Bool, true}
use Rattle.std.proofs.Common.{false, refl, sym, ap, ◌∙◌, subst, arith, cond}
use Rattle.std.specs.Prelude.{◌==◌, ◌&&◌, Option, Some, None}
use Rattle.std.specs.List.{IsAmong}
use Rattle.std.specs.declared.cmp.Ordering.{Ordering}
use Rattle.std.specs.declared.cmp.Ordering.TheVariants.{Less, Equal, Greater}
use Rattle.pungi_base.specs.declared.value.Value.TheVariants as value
use Rattle.pungi_api.specs.declared.call_answer.CallAnswer.{CallAnswer}
use Rattle.pungi_api.specs.declared.call_answer.CallAnswer.TheVariants.{Of, Argument}
use Rattle.pungi_meaning.specs.declared.cmp.Cmp.{Cmp}
use Rattle.pungi_meaning.specs.Values.{is_true}
use Rattle.pungi_code.specs.declared.atom.Atom.{Atom}
use Rattle.pungi_code.specs.declared.atom.Var.{Var}
use Rattle.pungi_code.specs.declared.code.Code.{Code}
use Rattle.pungi_code.specs.declared.instr.Instr.{Instr}
use Rattle.pungi_code.specs.declared.place.Place.{Place}
use Rattle.pungi_code.specs.declared.instr.Instr.TheVariants.{Set, Arith, Fit, Compare, Load, Store, Api, Call}
use Rattle.pungi_code.specs.declared.instr.Instr.TheVariants.{Unset as Forget, Jump, Branch, Return, Fall}
use Rattle.pungi_code.specs.WellFormed.{is_integer, is_object, place_kind}
use Rattle.pungi_shape.specs.declared.holding.Holding.{Holding}
use Rattle.pungi_shape.specs.declared.holding.Holding.TheVariants.{Dead, Unset, Null, Text, Token}
use Rattle.pungi_shape.specs.declared.point.Point.{Point}
use Rattle.pungi_shape.specs.declared.shape.Shape.{Shape}
use Rattle.pungi_shape.specs.Forms.{Form, minus}
use Rattle.pungi_shape.specs.Shapes.{is_number}
use Rattle.pungi_shape.specs.Parts.{maps, reads}
use Rattle.pungi_shape.specs.Liveness.{instr_at}
use Rattle.pungi_shape.specs.Scenes.{Scene, scene_of, holding_of, form_of, with_var, merge}
use Rattle.pungi_shape.specs.Cases.{Case, Onward, within, leads_to, leaves, leads, are_set}
use Rattle.pungi_shape.specs.Numbers.{linear, stays_out, arithmetic_as, does_not_fit, constant_of, known_by, value_by}
use Rattle.pungi_shape.specs.Numbers.{result_holding}
use Rattle.pungi_shape.specs.Comparisons.{orders, order_case, number_comparison, token_comparison, pointer_comparison}
use Rattle.pungi_shape.specs.Comparisons.{order_branch, branch_on, branch, order_number, says, is_so, says_same}
use Rattle.pungi_shape.specs.Comparisons.{are_apart}
use Rattle.pungi_shape.specs.Slots.{load_of, load_by_kind, slot_holding}
use Rattle.pungi_shape.specs.Calls.{Outcome, nothing, null, object, text, known, number, any_number, outcome_case}
use Rattle.pungi_shape.specs.Calls.{argument_case, answer_cases, outcomes_of_row}
use Rattle.pungi_shape.specs.Steps.{part_cases}
use Rattle.pungi_shape.specs.Arrivals.{arrive}
use Rattle.pungi_shape.specs.Places.{at_point}
use Rattle.pungi_shape.specs.Edges.{part_done, cases_at, changes_nothing, skip_to, skip_within, skip_one, skip}
use Rattle.pungi_shape.specs.Edges.{settle}

abbrev pub IsOut : Onward → Type 0
IsOut (within k) = ⊥
IsOut o = Unit {0}

abbrev pub LeadsOut : Case → Type 0
LeadsOut c = IsOut c.onward

-- ---- no case of a last part leads on within its instruction

abbrev pub Outs : List Case → Type 0
Outs [] = Unit {0}
Outs (c ∷ cs) = LeadsOut c × Outs cs

if_out : (b : Bool) (cs ds : List Case) → Outs cs → Outs ds → Outs (cond b cs ds)
if_out true cs ds p q = p
if_out false cs ds p q = q

map_out : {X : Type 0} (f : X → Case) → ((x : X) → LeadsOut (f x)) → (xs : List X) → Outs (map f xs)
map_out f out [] = tt
map_out f out (x ∷ xs) = (out x, map_out f out xs)

arithmetic_out : (o : Option Form) (h : Holding) (out : Bool) (x pc : ℕ) (s : Scene)
    → Outs (arithmetic_as o h out x pc s)
arithmetic_out None h out x pc s = (tt, tt)
arithmetic_out (Some f) h true x pc s = tt
arithmetic_out (Some f) h false x pc s = (tt, tt)

order_out : (f : Form) (o : Ordering) (pc : ℕ) (s : Scene) → LeadsOut (order_case f o pc s)
order_out f Less pc s = tt
order_out f Equal pc s = tt
order_out f Greater pc s = tt

numbers_out : (x : ℕ) (c : Cmp) (a b : Atom) (pc : ℕ) (s : Scene) → Outs (number_comparison x c a b pc s)
numbers_out x c a b pc s =
    map_out (λ o. order_case (minus (form_of s a) (form_of s b)) o pc (says x (is_so c o) s))
    (λ o. order_out (minus (form_of s a) (form_of s b)) o pc (says x (is_so c o) s))
    (orders (value_by s a) (value_by s b))

tokens_out : (x : ℕ) (c : Cmp) (t u pc : ℕ) (s : Scene) → Outs (token_comparison x c t u pc s)
tokens_out x c t u pc s = if_out (t == u) (says_same x c true pc s ∷ [])
    (cond (are_apart s.shape t u) (says_same x c false pc s ∷ []) (says_same x c true pc (merge t u s)
    ∷ says_same x c false pc s ∷ [])) (tt, tt) (if_out (are_apart s.shape t u) (says_same x c false pc s ∷ [])
    (says_same x c true pc (merge t u s) ∷ says_same x c false pc s ∷ []) (tt, tt) (tt, (tt, tt)))

pointers_out : (x : ℕ) (c : Cmp) (h k : Holding) (pc : ℕ) (s : Scene) → Outs (pointer_comparison x c h k pc s)
pointers_out x c (Token t) (Token u) pc s = tokens_out x c t u pc s
pointers_out x c Null Null pc s = (tt, tt)
pointers_out x c Text Text pc s = (tt, tt)
pointers_out x c h k pc s = (tt, tt)

branch_out : (h : Holding) (f : Form) (n : Option ℤ) (this other : ℕ) (s : Scene)
    → Outs (branch_on h f n this other s)
branch_out Null f n this other s = (tt, tt)
branch_out Text f n this other s = (tt, tt)
branch_out (Token t) f n this other s = (tt, tt)
branch_out h f n this other s = map_out (order_branch f this other s)
    (λ o. order_out f o (branch (is_true (value.Int (order_number o))) this other) s) (orders n (Some (pos 0)))

load_out : (x : ℕ) (h : Holding) (pc : ℕ) (s : Scene) → Outs (load_of x h pc s)
load_out x Unset pc s = tt
load_out x Dead pc s = tt
load_out x h pc s = (tt, tt)

kinds_out : (object integer : Bool) (x : ℕ) (place : Place) (pc : ℕ) (s : Scene)
    → Outs (load_by_kind object integer x place pc s)
kinds_out true integer x place pc s = load_out x (slot_holding s place) pc s
kinds_out false true x place pc s = (tt, tt)
kinds_out false false x place pc s = (tt, (tt, tt))

any_out : (x : Option Var) (pc : ℕ) (s : Scene) → LeadsOut (any_number x pc s)
any_out None pc s = tt
any_out (Some x) pc s = tt

outcome_out : (o : Outcome) (a : CallAnswer) (x : Option Var) (pc : ℕ) (s : Scene) → LeadsOut (outcome_case o a x pc s)
outcome_out nothing a x pc s = tt
outcome_out null a x pc s = tt
outcome_out object a x pc s = tt
outcome_out text a x pc s = tt
outcome_out (known n) a x pc s = tt
outcome_out number a x pc s = any_out x pc s

argument_out : (x : Option Var) (as' : List Atom) (pc : ℕ) (s : Scene) → LeadsOut (argument_case x as' pc s)
argument_out x [] pc s = tt
argument_out x (a ∷ as') pc s = tt

answer_out : (k : ℕ) (a : CallAnswer) (x : Option Var) (as' : List Atom) (pc : ℕ) (s : Scene)
    → Outs (answer_cases k a x as' pc s)
answer_out k (Of a) x as' pc s = (outcome_out (get_or (outcomes_of_row a) k nothing) (Of a) x pc s, tt)
answer_out k Argument x as' pc s = (argument_out x as' pc s, tt)

parts_out : (i : Instr) (pc n k : ℕ) (s : Scene) → maps i ≤ n + 1 → Outs (part_cases i pc n k s)
parts_out (Set x a) pc n k s le = (tt, tt)
parts_out (Arith x kind o a b) pc n k s le = arithmetic_out (linear o s a b) (result_holding o kind (known_by s a)
    (known_by s b)) (stays_out o kind (constant_of a) (constant_of b)) x.0 (pc + 1) s
parts_out (Fit x kind a) pc n k s le = if_out (does_not_fit kind (constant_of a)) []
    (leads (pc + 1) (with_var x.0 (holding_of s a) (form_of s a) s) ∷ []) tt (tt, tt)
parts_out (Compare x c a b) pc n k s le = if_out (is_number (holding_of s a) && is_number (holding_of s b))
    (number_comparison x.0 c a b (pc + 1) s) (pointer_comparison x.0 c (holding_of s a) (holding_of s b) (pc + 1) s)
    (numbers_out x.0 c a b (pc + 1) s) (pointers_out x.0 c (holding_of s a) (holding_of s b) (pc + 1) s)
parts_out (Load x place) pc zero k s le = absurd (omega (arith, le))
parts_out (Load x place) pc (suc zero) k s le = absurd (omega (arith, le))
parts_out (Load x place) pc (suc (suc n)) k s le =
    kinds_out (is_object (place_kind place)) (is_integer (place_kind place)) x.0 place (pc + 1) s
parts_out (Store place a) pc zero k s le = absurd (omega (arith, le))
parts_out (Store place a) pc (suc zero) k s le = absurd (omega (arith, le))
parts_out (Store place a) pc (suc (suc n)) k s le = (tt, tt)
parts_out (Api x g as') pc zero k s le = absurd (omega (arith, le))
parts_out (Api x g as') pc (suc n) k s le = answer_out k g.answer x as' (pc + 1) s
parts_out (Call x f as') pc zero k s le = absurd (omega (arith, le))
parts_out (Call x f as') pc (suc n) k s le = tt
parts_out (Forget x) pc n k s le = (tt, tt)
parts_out (Jump to) pc n k s le = (tt, tt)
parts_out (Branch a this other) pc n k s le = branch_out (holding_of s a) (form_of s a) (value_by s a) this.0 other.0 s
parts_out (Return a) pc zero k s le = absurd (omega (arith, le))
parts_out (Return a) pc (suc n) k s le = (tt, tt)
parts_out Fall pc n k s le = tt

last_out : (code : Code) (p : Point) (s : Shape) → maps (instr_at code p.instr) ≤ p.done + 1
    → Outs (cases_at code p s)
last_out code p s le =
    let i = instr_at code p.instr in
    if_out (are_set (scene_of s) (reads i p.done)) (part_cases i p.instr p.done p.class (scene_of s)) []
    (parts_out i p.instr p.done p.class (scene_of s) le) tt

-- ---- what is skipped

not_within : (code : Code) (p : Point) (s : Shape) (c : Case) (o : Onward) → IsOut o
    → skip_within code p s c o ≡ at_point p s
not_within code p s c (within k) is = absurd is
not_within code p s c (leads_to pc) is = refl
not_within code p s c leaves is = refl

not_skipped : (code : Code) (p : Point) (s : Shape) (cs : List Case) → Outs cs
    → skip_one code p s cs ≡ at_point p s
not_skipped code p s [] all = refl
not_skipped code p s (c ∷ []) all = not_within code p s c c.onward all.0
not_skipped code p s (c ∷ d ∷ cs) all = refl

pub last_stays : (code : Code) (p : Point) (s : Shape) → maps (instr_at code p.instr) ≤ p.done + 1
    → skip code (at_point p s) ≡ at_point p s
last_stays code p s le = not_skipped code p s (cases_at code p s) (last_out code p s le)

pub settled_last : (code : Code) (p : Point) (s : Shape) → maps (instr_at code p.instr) ≤ p.done + 1
    → settle code (at_point p s) ≡ at_point p s
settled_last code p s le = ap (skip code) (last_stays code p s le) ∙ last_stays code p s le

-- the place after the next part, or this one
pub data SkipsSo (code : Code) (p : Point) (s : Shape) (c : Case) (k : ℕ) : Type 0 where
  stays : skip code (at_point p s) ≡ at_point p s → SkipsSo code p s c k
  passes : skip code (at_point p s) ≡ at_point (part_done p k) (arrive code (part_done p k) c.scene).shape
      → changes_nothing s (arrive code (part_done p k) c.scene) ≡ true → SkipsSo code p s c k

passes_or_stays : (code : Code) (p : Point) (s : Shape) (c : Case) (k : ℕ) (b : Bool)
    → changes_nothing s (arrive code (part_done p k) c.scene) ≡ b
    → skip code (at_point p s) ≡ skip_to (at_point p s) (part_done p k) s (arrive code (part_done p k) c.scene)
    → SkipsSo code p s c k
passes_or_stays code p s c k true is e = passes
    (e ∙ ap (λ z. cond z (at_point (part_done p k) (arrive code (part_done p k) c.scene).shape) (at_point p s)) is) is
passes_or_stays code p s c k false is e = stays
    (e ∙ ap (λ z. cond z (at_point (part_done p k) (arrive code (part_done p k) c.scene).shape) (at_point p s)) is)

skips_among : (code : Code) (p : Point) (s : Shape) (c : Case) (k : ℕ) (cs : List Case) → cases_at code p s ≡ cs
    → IsAmong cs c → c.onward ≡ within k → SkipsSo code p s c k
skips_among code p s c k [] is at on = absurd (let z = at.1.0 in omega (arith, z))
skips_among code p s c k (d ∷ []) is at on = one at.0 at.1.0 at.1.1
  where
    one : (i : ℕ) → i < length (d ∷ []) → c ≡ get_or (d ∷ []) i c → SkipsSo code p s c k
    one zero lt e = passes_or_stays code p s c k (changes_nothing s (arrive code (part_done p k) c.scene)) refl
        (ap (skip_one code p s) is ∙ ap (λ z. skip_within code p s z z.onward) (sym e)
        ∙ ap (skip_within code p s c) on)
    one (suc i) lt e = absurd (omega (arith, lt))
skips_among code p s c k (d ∷ e ∷ cs) is at on = stays (ap (skip_one code p s) is)

pub skips_so : (code : Code) (p : Point) (s : Shape) (c : Case) (k : ℕ) → IsAmong (cases_at code p s) c
    → c.onward ≡ within k → SkipsSo code p s c k
skips_so code p s c k at on = skips_among code p s c k (cases_at code p s) refl at on

-- ---- at most two parts are left out

few_maps : (i : Instr) → maps i ≤ 3
few_maps (Set x a) = omega arith
few_maps (Arith x kind o a b) = omega arith
few_maps (Fit x kind a) = omega arith
few_maps (Compare x c a b) = omega arith
few_maps (Load x place) = omega arith
few_maps (Store place a) = omega arith
few_maps (Api x g as') = omega arith
few_maps (Call x f as') = omega arith
few_maps (Forget x) = omega arith
few_maps (Jump to) = omega arith
few_maps (Branch a this other) = omega arith
few_maps (Return a) = omega arith
few_maps Fall = omega arith

late_stays : (code : Code) (p : Point) (s : Shape) → 2 ≤ p.done → skip code (at_point p s) ≡ at_point p s
late_stays code p s le = last_stays code p s (let m = few_maps (instr_at code p.instr) in omega (arith, m, le))

twice_within : (code : Code) (p : Point) (s : Shape) (c : Case) (o : Onward) → 1 ≤ p.done
    → skip code (at_point p s) ≡ skip_within code p s c o
    → skip code (skip_within code p s c o) ≡ skip_within code p s c o
twice_within code p s c (within k) le e = at (changes_nothing s (arrive code (part_done p k) c.scene)) refl
  where
    at : (b : Bool) → changes_nothing s (arrive code (part_done p k) c.scene) ≡ b
        → skip code (cond (changes_nothing s (arrive code (part_done p k) c.scene))
        (at_point (part_done p k) (arrive code (part_done p k) c.scene).shape) (at_point p s))
        ≡ cond (changes_nothing s (arrive code (part_done p k) c.scene))
        (at_point (part_done p k) (arrive code (part_done p k) c.scene).shape) (at_point p s)
    at true is = subst (λ b. skip code (cond b (at_point (part_done p k) (arrive code (part_done p k) c.scene).shape)
        (at_point p s)) ≡ cond b (at_point (part_done p k) (arrive code (part_done p k) c.scene).shape) (at_point p s))
        (sym is) (late_stays code (part_done p k) (arrive code (part_done p k) c.scene).shape (omega (arith, le)))
    at false is = subst (λ b. skip code (cond b (at_point (part_done p k) (arrive code (part_done p k) c.scene).shape)
        (at_point p s)) ≡ cond b (at_point (part_done p k) (arrive code (part_done p k) c.scene).shape) (at_point p s))
        (sym is) (e ∙ ap (λ b. cond b (at_point (part_done p k) (arrive code (part_done p k) c.scene).shape)
        (at_point p s)) is)
twice_within code p s c (leads_to pc) le e = e
twice_within code p s c leaves le e = e

twice_one : (code : Code) (p : Point) (s : Shape) (cs : List Case) → cases_at code p s ≡ cs → 1 ≤ p.done
    → skip code (skip_one code p s cs) ≡ skip_one code p s cs
twice_one code p s [] is le = ap (skip_one code p s) is
twice_one code p s (c ∷ []) is le = twice_within code p s c c.onward le (ap (skip_one code p s) is)
twice_one code p s (c ∷ d ∷ cs) is le = ap (skip_one code p s) is

pub skip_twice : (code : Code) (p : Point) (s : Shape) → 1 ≤ p.done
    → skip code (skip code (at_point p s)) ≡ skip code (at_point p s)
skip_twice code p s le = twice_one code p s (cases_at code p s) refl le
