-- Where the cases of a part lead, and what they keep.
--   FreesAt i s o           a number that is put stands in the instruction's variable
--   LeadsAt i n c o         a case leads on within its instruction before the last part, and out of it from the last
--                           one on; and only a return leaves
--   IsCaseOf i n s c        so it is with a case; the static objects stay; and a return forgets the variables
--   AreCases i n s cs       so it is with all cases
--   Ends i n, Goes i n      no part comes after this one, some part does; and the instruction is no return
--   IsThere s x             the variable of a result is there, if there is one
use Rattle.std.proofs.Common.{◌≡◌, ◌∙◌, ℕ, zero, suc, ◌+◌, ◌==◌, ◌<◌, ◌≤◌, Bool, true, false, ℤ, pos, List, []}
use Rattle.std.proofs.Common.{◌∷◌, negsuc, length, map, Option, Some, None, if◌then◌else◌, refl, ap, arith}
use Rattle.std.specs.Prelude.{◌&&◌, get_or, nat_le}
use Rattle.std.specs.List.{All, enumerate_from, slice_index_or}
use Rattle.std.specs.declared.cmp.Ordering.{Ordering}
use Rattle.std.specs.declared.cmp.Ordering.TheVariants.{Less, Equal, Greater}
use Rattle.std.proofs.lemmas.Bool.{ltb-true}
use Rattle.std.proofs.lemmas.List.{get_or-set_same}
use Rattle.std.proofs.lemmas.List.Elements.{All-cons, All-map, All-nil}
use Rattle.pungi_base.specs.declared.value.Value.TheVariants as value
use Rattle.pungi_api.specs.declared.call_answer.CallAnswer.{CallAnswer}
use Rattle.pungi_api.specs.declared.call_answer.CallAnswer.TheVariants.{Of, Argument}
use Rattle.pungi_api.specs.declared.signature.Signature.{Signature}
use Rattle.pungi_api.specs.Signatures.{is_signature}
use Rattle.pungi_types.specs.declared.kind.ValueKind.{ValueKind}
use Rattle.pungi_meaning.specs.declared.op.Op.{Op}
use Rattle.pungi_meaning.specs.declared.cmp.Cmp.{Cmp}
use Rattle.pungi_meaning.specs.Values.{arithmetic, is_true}
use Rattle.pungi_world.specs.Choices.{is_between}
use Rattle.pungi_code.specs.declared.atom.Atom.{Atom}
use Rattle.pungi_code.specs.declared.atom.Var.{Var}
use Rattle.pungi_code.specs.declared.code.Code.{Code}
use Rattle.pungi_code.specs.declared.instr.Instr.{Instr}
use Rattle.pungi_code.specs.declared.instr.Instr.TheVariants.{Set, Arith, Fit, Compare, Load, Store, Api, Call}
use Rattle.pungi_code.specs.declared.instr.Instr.TheVariants.{Unset as Forget, Jump, Branch, Return, Fall}
use Rattle.pungi_code.specs.declared.place.Place.{Place}
use Rattle.pungi_code.specs.Limits.{most_arguments}
use Rattle.pungi_code.specs.WellFormed.{is_var, is_wide, is_answer, are_arguments, counts_in}
use Rattle.pungi_code.specs.WellFormed.{is_place, var_kind, returned_param, leads_on, is_integer, is_object, place_kind}
use Rattle.pungi_code.specs.WellFormed.{is_number as is_numeric}
use Rattle.pungi_shape.specs.declared.holding.Holding.{Holding}
use Rattle.pungi_shape.specs.declared.holding.Holding.TheVariants.{Dead, Unset, Null, Text, Known, Number, Token}
use Rattle.pungi_shape.specs.Cases.{Case, Onward, within, leads_to, leaves, passes_on, leads, frees, are_set}
use Rattle.pungi_shape.specs.Calls.{Outcome, nothing, null, object, text, known, number, outcome_cases, outcome_case}
use Rattle.pungi_shape.specs.Calls.{outcomes_of, outcomes_of_row, stops, does, any_number, argument_case}
use Rattle.pungi_shape.specs.Calls.{answer_cases}
use Rattle.pungi_shape.specs.Comparisons.{orders, order_case, order_number, order_branch, number_comparison, is_so}
use Rattle.pungi_shape.specs.Comparisons.{is_same_so, says, says_same, are_apart, token_comparison, branch}
use Rattle.pungi_shape.specs.Comparisons.{branch_on, pointer_comparison}
use Rattle.pungi_shape.specs.Edges.{free_var}
use Rattle.pungi_shape.specs.Forms.{Form, minus, zero_form}
use Rattle.pungi_shape.specs.Numbers.{arithmetic_as, constant_of, does_not_fit, holding_or_number, known_by, linear}
use Rattle.pungi_shape.specs.Numbers.{result_holding, stays_out, value_by}
use Rattle.pungi_shape.specs.Parts.{maps, reads}
use Rattle.pungi_shape.specs.Reached.{FreesNumber, IsLeft, Unheld, names_in}
use Rattle.pungi_shape.specs.Scenes.{Scene, form_of, holding_of, merge, with_var}
use Rattle.pungi_shape.specs.Shapes.{is_number}
use Rattle.pungi_shape.specs.Slots.{find_slot, load_by_kind, load_of, slot_holding, store_object, touch_first}
use Rattle.pungi_shape.specs.Steps.{after_return, cases, forget_slots, holdings_of, out, part_cases}
use Rattle.pungi_shape.proofs.FileCodes.{IsInstrOfFile}
use Rattle.pungi_shape.proofs.NumberLemmas.{both_true}
use Rattle.pungi_shape.proofs.StaticLemmas.{Keeps, does_keeps, find_keeps, first_keeps, if_keeps, merge_keeps}
use Rattle.pungi_shape.proofs.StaticLemmas.{put_keeps, reference_keeps, return_keeps, store_keeps}

abbrev pub FreesAt : Instr → Scene → Option ℕ → Type 0
FreesAt i s None = Unit {0}
FreesAt i s (Some x) = (x ≡ free_var i) × FreesNumber i s.shape

abbrev pub LeadsAt : Instr → ℕ → Case → Onward → Type 0
LeadsAt i n c (within k) = (n + 1 < maps i) × (c.freed ≡ None)
LeadsAt i n c (leads_to pc) = (maps i ≤ n + 1) × FreesAt i c.scene c.freed
LeadsAt i n c leaves = (a : _) × ((i ≡ Return a) × (0 < n))

pub record IsCaseOf (i : Instr) (n : ℕ) (s : Scene) (c : Case) : Type 0 where
  pub leads : LeadsAt i n c c.onward
  pub names : names_in c.scene.shape ≡ names_in s.shape
  pub left : (a : _) → i ≡ Return a → n ≡ 0 → IsLeft c.scene.shape

abbrev AreCases : Instr → ℕ → Scene → List Case → Type 0
AreCases i n s cs = All (IsCaseOf i n s) cs

record Ends (i : Instr) (n : ℕ) : Type 0 where
  last : maps i ≤ n + 1
  stays : (a : Option Atom) → i ≡ Return a → ⊥

record Goes (i : Instr) (n : ℕ) : Type 0 where
  more : n + 1 < maps i
  stays : (a : Option Atom) → i ≡ Return a → ⊥

-- ---- single cases

led : (i : Instr) (n pc : ℕ) (guard : List Form) (s t : Scene) → Ends i n → Keeps s t
    → IsCaseOf i n s (record { guard = guard; scene = t; freed = None; onward = leads_to pc })
led i n pc guard s t e same =
    record { leads = (e.last, tt); names = same; left = λ a is first. absurd (e.stays a is) }

freed : (i : Instr) (n pc : ℕ) (s t : Scene) → Ends i n → FreesNumber i t.shape → Keeps s t
    → IsCaseOf i n s (frees (free_var i) pc t)
freed i n pc s t e puts same =
    record { leads = (e.last, (refl, puts)); names = same; left = λ a is first. absurd (e.stays a is) }

on : (i : Instr) (n k : ℕ) (s t : Scene) → Goes i n → Keeps s t → IsCaseOf i n s (passes_on k t)
on i n k s t e same =
    record { leads = (e.more, refl); names = same; left = λ a is first. absurd (e.stays a is) }

-- ---- lists of cases

none : (i : Instr) (n : ℕ) (s : Scene) → AreCases i n s []
none i n s = All-nil (IsCaseOf i n s)

one : (i : Instr) (n : ℕ) (s : Scene) (c : Case) → IsCaseOf i n s c → AreCases i n s (c ∷ [])
one i n s c h = All-cons (IsCaseOf i n s) c [] h (none i n s)

two : (i : Instr) (n : ℕ) (s : Scene) (b c : Case) → IsCaseOf i n s b → IsCaseOf i n s c
    → AreCases i n s (b ∷ c ∷ [])
two i n s b c g h = All-cons (IsCaseOf i n s) b (c ∷ []) g (one i n s c h)

if_so : (i : Instr) (n : ℕ) (s : Scene) (b : Bool) (cs ds : List Case) → AreCases i n s cs → AreCases i n s ds
    → AreCases i n s (if b then cs else ds)
if_so i n s true cs ds g h = g
if_so i n s false cs ds g h = h

each : {X : Type 0} (i : Instr) (n : ℕ) (s : Scene) (f : X → Case) (xs : List X) → ((x : X) → IsCaseOf i n s (f x))
    → AreCases i n s (map f xs)
each i n s f xs h = All-map (IsCaseOf i n s) f xs (λ k d below. h (slice_index_or xs k d))

one_led : (i : Instr) (n pc : ℕ) (s t : Scene) → Ends i n → Keeps s t → AreCases i n s (leads pc t ∷ [])
one_led i n pc s t e same = one i n s (leads pc t) (led i n pc [] s t e same)

scenes_on : (i : Instr) (n : ℕ) (s : Scene) (ts : List Scene) → Goes i n → All (Keeps s) ts
    → AreCases i n s (map (passes_on 0) ts)
scenes_on i n s ts e all =
    All-map (IsCaseOf i n s) (passes_on 0) ts (λ k d below. on i n 0 s (slice_index_or ts k d) e (all k d below))

-- ---- numbers

between_number : (b : Bool) (n : ℤ) → is_number (if b then Known n else Number) ≡ true
between_number true n = refl
between_number false n = refl

or_number : (o : Option ℤ) → is_number (holding_or_number o) ≡ true
or_number None = refl
or_number (Some n) = between_number (is_between (negsuc 0) (pos 1) n) n

result_number : (o : Op) (kind : ValueKind) (p q : Option ℤ) → is_number (result_holding o kind p q) ≡ true
result_number o kind (Some m) (Some n) = or_number (arithmetic o kind m n)
result_number o kind (Some m) None = refl
result_number o kind None q = refl

puts_number : (i : Instr) (h : Holding) (f : Form) (s : Scene) → leads_on i ≡ true → free_var i < length s.shape.vars
    → is_number h ≡ true → FreesNumber i (with_var (free_var i) h f s).shape
puts_number i h f s on' lt e =
    record { number = ap is_number (get_or-set_same s.shape.vars (free_var i) h Dead lt) ∙ e; leads_on = on' }

arithmetic_lead : (i : Instr) (n : ℕ) (o : Option Form) (h : Holding) (away : Bool) (pc : ℕ) (s : Scene) → Ends i n
    → leads_on i ≡ true → free_var i < length s.shape.vars → is_number h ≡ true
    → AreCases i n s (arithmetic_as o h away (free_var i) pc s)
arithmetic_lead i n None h away pc s e on' lt num =
    one i n s _ (freed i n pc s (with_var (free_var i) h (zero_form s.width) s) e
    (puts_number i h (zero_form s.width) s on' lt num) refl)
arithmetic_lead i n (Some f) h away pc s e on' lt num =
    if_so i n s away [] (leads pc (with_var (free_var i) h f s) ∷ []) (none i n s)
    (one_led i n pc s (with_var (free_var i) h f s) e refl)

-- ---- comparisons

order_leads : (i : Instr) (n : ℕ) (f : Form) (o : Ordering) (pc : ℕ) (s t : Scene) → Ends i n → Keeps s t
    → IsCaseOf i n s (order_case f o pc t)
order_leads i n f Less pc s t e same = led i n pc [] s t e same
order_leads i n f Equal pc s t e same = led i n pc (f ∷ []) s t e same
order_leads i n f Greater pc s t e same = led i n pc [] s t e same

numbers_lead : (i : Instr) (n x : ℕ) (c : Cmp) (a b : Atom) (pc : ℕ) (s : Scene) → Ends i n
    → AreCases i n s (number_comparison x c a b pc s)
numbers_lead i n x c a b pc s e =
    each i n s (λ o. order_case (minus (form_of s a) (form_of s b)) o pc (says x (is_so c o) s))
    (orders (value_by s a) (value_by s b))
    (λ o. order_leads i n (minus (form_of s a) (form_of s b)) o pc s (says x (is_so c o) s) e refl)

one_says : (i : Instr) (n x : ℕ) (c : Cmp) (same : Bool) (pc : ℕ) (s : Scene) → Ends i n
    → AreCases i n s (says_same x c same pc s ∷ [])
one_says i n x c same pc s e = one_led i n pc s (says x (is_same_so c same) s) e refl

tokens_lead : (i : Instr) (n x : ℕ) (c : Cmp) (t u pc : ℕ) (s : Scene) → Ends i n
    → AreCases i n s (token_comparison x c t u pc s)
tokens_lead i n x c t u pc s e =
    let same = says_same x c true pc (merge t u s) in
    let other = says_same x c false pc s in
    if_so i n s (t == u) (says_same x c true pc s ∷ [])
    (if are_apart s.shape t u then other ∷ [] else same ∷ other ∷ []) (one_says i n x c true pc s e)
    (if_so i n s (are_apart s.shape t u) (other ∷ []) (same ∷ other ∷ []) (one_says i n x c false pc s e)
    (two i n s same other (led i n pc [] s (says x (is_same_so c true) (merge t u s)) e (merge_keeps t u s))
    (led i n pc [] s (says x (is_same_so c false) s) e refl)))

pointers_lead : (i : Instr) (n x : ℕ) (c : Cmp) (h k : Holding) (pc : ℕ) (s : Scene) → Ends i n
    → AreCases i n s (pointer_comparison x c h k pc s)
pointers_lead i n x c (Token t) (Token u) pc s e = tokens_lead i n x c t u pc s e
pointers_lead i n x c Null Null pc s e = one_says i n x c true pc s e
pointers_lead i n x c Text Text pc s e = one_says i n x c true pc s e
pointers_lead i n x c h k pc s e = one_says i n x c false pc s e

branch_lead : (i : Instr) (n : ℕ) (h : Holding) (f : Form) (m : Option ℤ) (this other : ℕ) (s : Scene) → Ends i n
    → AreCases i n s (branch_on h f m this other s)
branch_lead i n Null f m this other s e = one_led i n other s s e refl
branch_lead i n Text f m this other s e = one_led i n this s s e refl
branch_lead i n (Token t) f m this other s e = one_led i n this s s e refl
branch_lead i n h f m this other s e =
    each i n s (order_branch f this other s) (orders m (Some (pos 0)))
    (λ o. order_leads i n f o (branch (is_true (value.Int (order_number o))) this other) s s e refl)

-- ---- loads

load_leads : (i : Instr) (n x : ℕ) (h : Holding) (pc : ℕ) (s : Scene) → Ends i n → AreCases i n s (load_of x h pc s)
load_leads i n x Unset pc s e = none i n s
load_leads i n x Dead pc s e = none i n s
load_leads i n x h pc s e = one_led i n pc s (with_var x h (zero_form s.width) s) e refl

kinds_lead : (i : Instr) (n : ℕ) (object integer : Bool) (place : Place) (pc : ℕ) (s : Scene) → Ends i n
    → leads_on i ≡ true → free_var i < length s.shape.vars
    → AreCases i n s (load_by_kind object integer (free_var i) place pc s)
kinds_lead i n true integer place pc s e on' lt = load_leads i n (free_var i) (slot_holding s place) pc s e
kinds_lead i n false true place pc s e on' lt =
    one i n s _ (freed i n pc s (with_var (free_var i) Number (zero_form s.width) s) e
    (puts_number i Number (zero_form s.width) s on' lt refl) refl)
kinds_lead i n false false place pc s e on' lt =
    two i n s _ _ (led i n pc [] s (with_var (free_var i) Null (zero_form s.width) s) e refl)
    (led i n pc [] s (with_var (free_var i) Text (zero_form s.width) s) e refl)

-- ---- calls

abbrev IsThere : Scene → Option Var → Type 0
IsThere s None = Unit {0}
IsThere s (Some x) = x.0 < length s.shape.vars

outcomes_lead : (i : Instr) (n : ℕ) (g : Signature) (hs : List Holding) (s : Scene) → Goes i n
    → AreCases i n s (outcome_cases g hs s)
outcomes_lead i n g hs s e =
    if_so i n s (stops g.params hs) []
    (map (λ e. passes_on e.0 (does g.own g hs e.1 s)) (enumerate_from 0 (outcomes_of g.answer))) (none i n s)
    (each i n s (λ e. passes_on e.0 (does g.own g hs e.1 s)) (enumerate_from 0 (outcomes_of g.answer))
    (λ o. on i n o.0 s (does g.own g hs o.1 s) e (does_keeps g.own g hs o.1 s)))

any_leads : (x : Option Var) (g : Signature) (as' : List Atom) (n pc : ℕ) (s : Scene)
    → Ends (Api x g as') n → IsThere s x → IsCaseOf (Api x g as') n s (any_number x pc s)
any_leads None g as' n pc s e there = led (Api None g as') n pc [] s s e refl
any_leads (Some x) g as' n pc s e there =
    freed (Api (Some x) g as') n pc s (with_var x.0 Number (zero_form s.width) s) e
    (puts_number (Api (Some x) g as') Number (zero_form s.width) s refl there refl) refl

outcome_leads : (o : Outcome) (a : CallAnswer) (x : Option Var) (g : Signature) (as' : List Atom)
    (n pc : ℕ) (s : Scene) → Ends (Api x g as') n → IsThere s x
    → IsCaseOf (Api x g as') n s (outcome_case o a x pc s)
outcome_leads nothing a x g as' n pc s e there = led (Api x g as') n pc [] s s e refl
outcome_leads null a x g as' n pc s e there =
    led (Api x g as') n pc [] s _ e (put_keeps x Null (zero_form s.width) s)
outcome_leads object a x g as' n pc s e there =
    led (Api x g as') n pc [] s _ e (reference_keeps x _ _ s)
outcome_leads text a x g as' n pc s e there =
    led (Api x g as') n pc [] s _ e (put_keeps x Text (zero_form s.width) s)
outcome_leads (known m) a x g as' n pc s e there =
    led (Api x g as') n pc [] s _ e (put_keeps x (Known m) _ s)
outcome_leads number a x g as' n pc s e there = any_leads x g as' n pc s e there

argument_leads : (i : Instr) (n : ℕ) (x : Option Var) (as' : List Atom) (pc : ℕ) (s : Scene) → Ends i n
    → IsCaseOf i n s (argument_case x as' pc s)
argument_leads i n x [] pc s e = led i n pc [] s _ e (put_keeps x Null (zero_form s.width) s)
argument_leads i n x (a ∷ as') pc s e = led i n pc [] s _ e (put_keeps x (holding_of s a) (form_of s a) s)

answers_lead : (k : ℕ) (a : CallAnswer) (x : Option Var) (g : Signature) (as' : List Atom)
    (n pc : ℕ) (s : Scene) → Ends (Api x g as') n → IsThere s x
    → AreCases (Api x g as') n s (answer_cases k a x as' pc s)
answers_lead k (Of a) x g as' n pc s e there =
    one (Api x g as') n s _
    (outcome_leads (get_or (outcomes_of_row a) k nothing) (Of a) x g as' n pc s e there)
answers_lead k Argument x g as' n pc s e there =
    one (Api x g as') n s _ (argument_leads (Api x g as') n x as' pc s e)

-- ---- returns

left_vars : (hs : List Holding) → All Unheld (map (λ _. Unset) hs)
left_vars hs = All-map Unheld (λ _. Unset) hs (λ i d below. record { number = refl; token = refl })

is_left : (a : Option Atom) (s : Scene) → IsLeft (after_return a s).shape
is_left None s = record { vars = left_vars s.shape.vars; slots = refl }
is_left (Some a) s = record { vars = left_vars s.shape.vars; slots = refl }

-- ---- all instructions

there_var : (code : Code) (x : Var) (b : Bool) (s : Scene) → (is_var code.vars x && b) ≡ true
    → length s.shape.vars ≡ length code.vars → x.0 < length s.shape.vars
there_var code x b s h vars =
    let lt = ltb-true x.0 (length code.vars) (both_true (is_var code.vars x) b h).0 in omega (arith, lt, vars)

there_answer : (code : Code) (g : Signature) (x : Option Var) (s : Scene) → is_answer code.vars g x ≡ true
    → length s.shape.vars ≡ length code.vars → IsThere s x
there_answer code g None s h vars = tt
there_answer code g (Some x) s h vars =
    there_var code x (is_wide (returned_param g.answer) (var_kind code.vars x)) s h vars

there_result : (code : Code) (x : Option Var) (g : Signature) (as' : List Atom) (s : Scene)
    → IsInstrOfFile code (Api x g as') → length s.shape.vars ≡ length code.vars → IsThere s x
there_result code x g as' s h vars =
    there_answer code g x s (both_true (is_answer code.vars g x) (are_arguments code.vars g.params as'
    && (nat_le (length as') most_arguments && is_signature g)) h.sound).0 vars

parts_lead : (code : Code) (i : Instr) (pc n k : ℕ) (s : Scene) → IsInstrOfFile code i
    → length s.shape.vars ≡ length code.vars → AreCases i n s (part_cases i pc n k s)
parts_lead code (Set x a) pc n k s sound vars =
    one_led (Set x a) n (pc + 1) s (with_var x.0 (holding_of s a) (form_of s a) s)
    (record { last = omega arith; stays = λ b is. absurd cc }) refl
parts_lead code (Arith x kind o a b) pc n k s sound vars =
    arithmetic_lead (Arith x kind o a b) n (linear o s a b) (result_holding o kind (known_by s a) (known_by s b))
    (stays_out o kind (constant_of a) (constant_of b)) (pc + 1) s
    (record { last = omega arith; stays = λ b is. absurd cc }) refl
    (there_var code x (counts_in kind (var_kind code.vars x) && (is_numeric code.vars a && is_numeric code.vars b)) s
    sound.sound vars) (result_number o kind (known_by s a) (known_by s b))
parts_lead code (Fit x kind a) pc n k s sound vars =
    if_so (Fit x kind a) n s (does_not_fit kind (constant_of a)) []
    (leads (pc + 1) (with_var x.0 (holding_of s a) (form_of s a) s) ∷ []) (none (Fit x kind a) n s)
    (one_led (Fit x kind a) n (pc + 1) s (with_var x.0 (holding_of s a) (form_of s a) s)
    (record { last = omega arith; stays = λ b is. absurd cc }) refl)
parts_lead code (Compare x c a b) pc n k s sound vars =
    let e : Ends (Compare x c a b) n = record { last = omega arith; stays = λ d is. absurd cc } in
    if_so (Compare x c a b) n s (is_number (holding_of s a) && is_number (holding_of s b))
    (number_comparison x.0 c a b (pc + 1) s) (pointer_comparison x.0 c (holding_of s a) (holding_of s b) (pc + 1) s)
    (numbers_lead (Compare x c a b) n x.0 c a b (pc + 1) s e)
    (pointers_lead (Compare x c a b) n x.0 c (holding_of s a) (holding_of s b) (pc + 1) s e)
parts_lead code (Load x place) pc zero k s sound vars =
    scenes_on (Load x place) 0 s (find_slot place s) (record { more = omega arith; stays = λ b is. absurd cc })
    (find_keeps place s)
parts_lead code (Load x place) pc (suc zero) k s sound vars =
    scenes_on (Load x place) 1 s (touch_first place s) (record { more = omega arith; stays = λ b is. absurd cc })
    (first_keeps place s)
parts_lead code (Load x place) pc (suc (suc n)) k s sound vars =
    kinds_lead (Load x place) (suc (suc n)) (is_object (place_kind place)) (is_integer (place_kind place)) place
    (pc + 1) s
    (record { last = omega arith; stays = λ b is. absurd cc }) refl
    (there_var code x
    (is_place code.vars place (place_kind place) && is_wide (place_kind place) (var_kind code.vars x)) s sound.sound
    vars)
parts_lead code (Store place a) pc zero k s sound vars =
    scenes_on (Store place a) 0 s (find_slot place s) (record { more = omega arith; stays = λ b is. absurd cc })
    (find_keeps place s)
parts_lead code (Store place a) pc (suc zero) k s sound vars =
    scenes_on (Store place a) 1 s (touch_first place s) (record { more = omega arith; stays = λ b is. absurd cc })
    (first_keeps place s)
parts_lead code (Store place a) pc (suc (suc n)) k s sound vars =
    one_led (Store place a) (suc (suc n)) (pc + 1) s
    (if is_object (place_kind place) then store_object (holding_of s a) place s else s)
    (record { last = omega arith; stays = λ b is. absurd cc })
    (if_keeps (is_object (place_kind place)) s (store_object (holding_of s a) place s) s
    (store_keeps (holding_of s a) place s) refl)
parts_lead code (Api x g as') pc zero k s sound vars =
    outcomes_lead (Api x g as') 0 g (holdings_of s as') s
    (record { more = omega arith; stays = λ b is. absurd cc })
parts_lead code (Api x g as') pc (suc n) k s sound vars =
    answers_lead k g.answer x g as' (suc n) (pc + 1) s
    (record { last = omega arith; stays = λ b is. absurd cc }) (there_result code x g as' s sound vars)
parts_lead code (Call x f as') pc zero k s sound vars =
    one (Call x f as') 0 s (passes_on 0 (forget_slots s))
    (on (Call x f as') 0 0 s (forget_slots s) (record { more = omega arith; stays = λ b is. absurd cc }) refl)
parts_lead code (Call x f as') pc (suc n) k s sound vars = none (Call x f as') (suc n) s
parts_lead code (Forget x) pc n k s sound vars =
    one_led (Forget x) n (pc + 1) s (with_var x.0 Unset (zero_form s.width) s)
    (record { last = omega arith; stays = λ b is. absurd cc }) refl
parts_lead code (Jump to) pc n k s sound vars =
    one_led (Jump to) n to.0 s s (record { last = omega arith; stays = λ b is. absurd cc }) refl
parts_lead code (Branch a this other) pc n k s sound vars =
    branch_lead (Branch a this other) n (holding_of s a) (form_of s a) (value_by s a) this.0 other.0 s
    (record { last = omega arith; stays = λ b is. absurd cc })
parts_lead code (Return a) pc zero k s sound vars =
    one (Return a) 0 s (passes_on 0 (after_return a s)) (record {
      leads = (omega arith, refl);
      names = return_keeps a s;
      left = λ b is first. is_left a s;
    })
parts_lead code (Return a) pc (suc n) k s sound vars =
    one (Return a) (suc n) s (out s) (record {
      leads = (a, (refl, omega arith));
      names = refl;
      left = λ b is first. absurd (omega (arith, first));
    })
parts_lead code Fall pc n k s sound vars = none Fall n s

pub cases-lead : (code : Code) (i : Instr) (pc n k : ℕ) (s : Scene) → IsInstrOfFile code i
    → length s.shape.vars ≡ length code.vars → All (IsCaseOf i n s) (cases i pc n k s)
cases-lead code i pc n k s sound vars =
    if_so i n s (are_set s (reads i n)) (part_cases i pc n k s) [] (parts_lead code i pc n k s sound vars)
    (none i n s)
