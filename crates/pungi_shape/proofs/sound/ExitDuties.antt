-- Where the duties of an exit are met, the run that leaves there is balanced.
--   Leaves code ks claim m result    a run of a code returns so: as in Left, but for the kind of the result; and where
--                           what is claimed meets the exit duties, these are met
--   goes_out code names h k what is returned is an object, and its reference goes to the caller
use Rattle.std.proofs.Common.{◌≡◌, ◌≢◌, ◌⊎◌, inl, inr, ℕ, zero, suc, ◌+◌, ◌<◌, ◌≤◌, Bool, true, false, cond, List, []}
use Rattle.std.proofs.Common.{◌∷◌, length, map, get_or, refl, sym, ap, ◌∙◌, subst, arith, Option, Some, None, ℤ, pos}
use Rattle.std.proofs.Common.{◌+ℤ◌, ◌-ℤ◌, not, ◌&&◌}
use Rattle.std.specs.Prelude.{nat_lt, if◌then◌else◌, slice_get}
use Rattle.std.specs.List.{All, filter, list_any, range_with_len}
use Rattle.std.proofs.lemmas.Bool.{false≢true, ltb-true}
use Rattle.std.proofs.lemmas.Int.{ints}
use Rattle.std.proofs.lemmas.List.{length-map, get_or_past}
use Rattle.std.proofs.lemmas.List.Elements.{All-nil, All-cons, All-head, All-tail}
use Rattle.std.proofs.lemmas.List.FromFn.{length-range_with_len, get_or-range_with_len}
use Rattle.pungi_base.specs.declared.entry.Entry.{Entry}
use Rattle.pungi_base.specs.declared.value.Value.{Value}
use Rattle.pungi_base.specs.declared.value.Value.TheVariants as value
use Rattle.pungi_api.specs.Terms.{immortal_count}
use Rattle.pungi_domain.specs.Vectors.{Vector, dot}
use Rattle.pungi_world.specs.declared.content.Content.{Content}
use Rattle.pungi_world.specs.declared.content.Content.TheVariants as content
use Rattle.pungi_world.specs.Escapes.{is_returned, holds_object, given_away, is_argument, taken_at_entry, owned_result}
use Rattle.pungi_world.specs.Escapes.{IsCounted, IsBalanced}
use Rattle.pungi_world.specs.World.{account_of}
use Rattle.pungi_code.specs.declared.code.Code.{Code}
use Rattle.pungi_code.specs.Registers.{Regs}
use Rattle.pungi_shape.specs.declared.holding.Holding.{Holding}
use Rattle.pungi_shape.specs.declared.holding.Holding.TheVariants as held
use Rattle.pungi_shape.specs.declared.shape.Shape.{Shape}
use Rattle.pungi_shape.specs.Forms.{Form, unit, constant, one_if}
use Rattle.pungi_shape.specs.Shapes.{is_token, width_of, exit_of, tokens_of}
use Rattle.pungi_shape.specs.Scenes.{scene_of, after_entry, token_forms}
use Rattle.pungi_shape.specs.Edges.{taken_of, is_owed, is_uncounted, number_due, exit_duty, exit_duties}
use Rattle.pungi_shape.specs.Reached.{IsLeft}
use Rattle.pungi_shape.specs.Described.{Naming, HoldsSo}
use Rattle.pungi_shape.proofs.sound.Views.{View}
use Rattle.pungi_shape.proofs.sound.Shows.{IsScene, IsLive, IsLiveIn, Shows, stands_for, total, argument}
use Rattle.pungi_shape.proofs.sound.FormValues.{length_unit, length_constant, dot_plus, dot_constant}
use Rattle.pungi_shape.proofs.sound.Dues.{due_from, less_due, holding_due, count_due, total_due}
use Rattle.pungi_shape.proofs.sound.Flow.{Claim, AreZero, MeetsExits}
use Rattle.pungi_shape.proofs.sound.Leaving.{left_with, IsReturned}
use Rattle.pungi_shape.proofs.sound.SceneVars.{NamesStatic, get_live}
use Rattle.pungi_shape.proofs.sound.Tests.{both_true, either_true, eqb_is}

pub record Leaves (code : Code) (ks : List ℕ) (claim : Claim) (m : Regs) (result : Option Value) : Type 0 where
  pub shape : Shape
  pub names : Naming
  pub vector : Vector
  pub content : Content
  pub left : IsLeft shape
  pub numbered : tokens_of shape ≡ range_with_len 0 (length shape.made)
  pub claimed : claim.leaves (exit_of shape) vector
  pub met : MeetsExits code claim → AreZero (exit_duties code shape) vector
  pub scene : IsScene ks (length code.vars) (scene_of shape)
  pub shows : Shows names vector None (scene_of shape) (left_with code claim.origin m content)
  pub returned : IsReturned shape.returned content result

-- ---- what the duties say

kept_all : {X : Type 0} (P : X → Type 0) (f : ℕ → X) (p : ℕ → Bool) (ts : List ℕ) → All P (map f (filter p ts))
    → All (λ t. p t ≡ true → P (f t)) ts
kept_all P f p [] all = All-nil (λ t. p t ≡ true → P (f t))
kept_all P f p (t ∷ ts) all = by (p t) refl all (λ here. kept_all P f p ts here)
  where
    by : (b : Bool) → p t ≡ b → All P (map f (cond b (t ∷ filter p ts) (filter p ts)))
        → (All P (map f (filter p ts)) → All (λ u. p u ≡ true → P (f u)) ts)
        → All (λ u. p u ≡ true → P (f u)) (t ∷ ts)
    by true e here rest = All-cons (λ u. p u ≡ true → P (f u)) t ts (λ _. All-head P (f t) (map f (filter p ts)) here)
        (rest (All-tail P (f t) (map f (filter p ts)) here))
    by false e here rest = All-cons (λ u. p u ≡ true → P (f u)) t ts (λ h. absurd (false≢true (sym e ∙ h)))
        (rest here)

-- a token that is counted has the balance that is due
balance_at_exit : (code : Code) (s : Shape) (v : Vector) → AreZero (exit_duties code s) v → 0 < width_of s
    → v 0 ≡ pos 1 → (t : ℕ) → t < length s.made → is_uncounted code s t ≡ false
    → dot (unit (width_of s) (after_entry s + t)) v ≡ pos (one_if (is_owed code s t)) -ℤ pos (taken_of code s t)
balance_at_exit code s v met wide leading t lt counted =
    let n = length s.made in
    let w = width_of s in
    let i = after_entry s + t in
    let due = number_due code s t in
    let all = kept_all (λ f. dot f v ≡ pos 0) (exit_duty code s) (λ u. not (is_uncounted code s u))
    (range_with_len 0 n) met in
    let same : get_or (range_with_len 0 n) t 0 ≡ t = get_or-range_with_len 0 n t 0 lt ∙ omega arith in
    let zero_is : dot (exit_duty code s t) v ≡ pos 0 =
    subst (λ u. not (is_uncounted code s u) ≡ true → dot (exit_duty code s u) v ≡ pos 0) same
    (all t 0 (let l = length-range_with_len 0 n in omega (arith, l, lt))) (ap not counted) in
    let split = dot_plus (unit w i) (constant w due) v (length_unit w i ∙ sym (length_constant w due)) in
    let number = dot_constant w due v wide leading in
    owed_so (dot (unit w i) v) (dot (exit_duty code s t) v) (dot (constant w due) v)
    (pos (one_if (is_owed code s t))) (pos (taken_of code s t)) zero_is split number
  where
    owed_so : (x y c o n : ℤ) → y ≡ pos 0 → y ≡ x +ℤ c → c ≡ n -ℤ o → x ≡ o -ℤ n
    owed_so x y c o n e f g = omega (arith, ints, e, f, g)

-- a static object that isn't counted has a low number
uncounted_low : (names : Naming) (m t : ℕ) (es : List (ℕ × Holding)) → All (NamesStatic names) es
    → list_any (λ k. nat_lt k.0 m && is_token t k.1) es ≡ true → names t < m
uncounted_low names m t [] all e = absurd (false≢true e)
uncounted_low names m t (x ∷ es) all e =
    elim (either_true (nat_lt x.0 m && is_token t x.1) (list_any (λ k. nat_lt k.0 m && is_token t k.1) es) e) [
      | inl h ↦
          let both = both_true (nat_lt x.0 m) (is_token t x.1) h in
          let low = ltb-true x.0 m both.0 in
          let same = named_so x.1 (All-head (NamesStatic names) x es all) both.1 in
          omega (arith, low, same)
      | inr h ↦ uncounted_low names m t es (All-tail (NamesStatic names) x es all) h
    ]
  where
    object_of : (a b : ℕ) → content.Holds (value.Object a) ≡ content.Holds (value.Object b) → a ≡ b
    object_of a b h = cc

    named_so : (h : Holding) → HoldsSo names h (content.Holds (value.Object x.0)) → is_token t h ≡ true → x.0 ≡ names t
    named_so (held.Token u) is h = object_of x.0 (names u) is ∙ ap names (eqb_is u t h)
    named_so held.Dead is h = absurd (false≢true h)
    named_so held.Unset is h = absurd (false≢true h)
    named_so held.Null is h = absurd (false≢true h)
    named_so held.Text is h = absurd (false≢true h)
    named_so (held.Known n) is h = absurd (false≢true h)
    named_so held.Number is h = absurd (false≢true h)

live_below : (w a n t : ℕ) → IsLive (token_forms w a n) t → t < n
live_below w a n t live =
    below (leb_cases n t)
  where
    long : length (token_forms w a n) ≡ n
    long = length-map (range_with_len a n) (λ i. Some (unit w i)) ∙ length-range_with_len a n

    leb_cases : (n t : ℕ) → (n ≤ t) ⊎ (t < n)
    leb_cases n t = grind arith

    below : (n ≤ t) ⊎ (t < n) → t < n
    below (inl past) =
        let none = get_or_past (token_forms w a n) t None (omega (arith, past, long)) in
        absurd (let e = live.1 in (let h = sym none ∙ e in no_form live.0 h))
      where
        no_form : (f : Form) → None ≡ Some f → ⊥
        no_form f h = cc
    below (inr lt) = lt

held_below : (w a n : ℕ) (h : Holding) → IsLiveIn (token_forms w a n) h → (j : ℕ) → h ≡ held.Token j → j < n
held_below w a n h live j e = live_below w a n j (subst (IsLiveIn (token_forms w a n)) e live)

-- whether the object of what is returned goes to the caller
abbrev goes_out : Code → Naming → Holding → ℕ → Bool
goes_out code names h k = if code.terms.convention.borrowed then false else stands_for names h k

owed_due : (b : Bool) (names : Naming) (k n : ℕ) (h : Holding) → ((j : ℕ) → h ≡ held.Token j → j < n)
    → due_from names k (λ u. pos (one_if (cond b false (is_token u h)))) 0 n
    ≡ pos (one_if (cond b false (stands_for names h k)))
owed_due true names k n h below = holding_due names k n held.Dead (λ j e. absurd (cc))
owed_due false names k n h below = holding_due names k n h below

-- ---- what is held stands for objects

stands_content : (names : Naming) (h : Holding) (c : Content) (k : ℕ) → h ≢ held.Dead → HoldsSo names h c
    → stands_for names h k ≡ holds_object c k
stands_content names held.Dead c k ne is = absurd (ne refl)
stands_content names held.Unset c k ne is = sym (ap (λ z. holds_object z k) is)
stands_content names held.Null c k ne is = sym (ap (λ z. holds_object z k) is)
stands_content names held.Text c k ne is = sym (ap (λ z. holds_object z k) is)
stands_content names (held.Known n) c k ne is = sym (ap (λ z. holds_object z k) is)
stands_content names held.Number c k ne is = sym (ap (λ z. holds_object z k) is.1)
stands_content names (held.Token t) c k ne is = sym (ap (λ z. holds_object z k) is)

content_returned : (vs : List Value) (p k : ℕ)
    → holds_object (get_or (map content.Holds vs) p content.Unset) k ≡ is_returned (slice_get vs p) k
content_returned [] p k = refl
content_returned (v ∷ vs) zero k = refl
content_returned (v ∷ vs) (suc p) k = content_returned vs p k

argument_stands : (names : Naming) (e : Entry) (h : Holding) (p k : ℕ) → h ≢ held.Dead
    → HoldsSo names h (argument e p) → stands_for names h k ≡ is_argument e k p
argument_stands names e h p k alive holds =
    stands_content names h (argument e p) k alive holds ∙ content_returned e.args p k

-- the sum of the balances is what is due
exit_total : (code : Code) (ks : List ℕ) (n : ℕ) (s : Shape) (names : Naming) (v : Vector) (o : View) (k : ℕ)
    → IsScene ks n (scene_of s) → Shows names v None (scene_of s) o → AreZero (exit_duties code s) v
    → IsCounted code.terms k
    → total names (scene_of s).balances v k
    ≡ pos (one_if (goes_out code names s.returned k)) -ℤ pos (taken_at_entry code.terms o.entry k)
exit_total code ks n s names v o k is shows met counts =
    let w = width_of s in
    let a = after_entry s in
    let m = length s.made in
    let owed = λ (u : ℕ). pos (one_if (is_owed code s u)) in
    let taken = λ (u : ℕ). pos (taken_of code s u) in
    let sum = total_due names v w 0 a m k (λ u. owed u -ℤ taken u) (λ i lt e. let here : 0 + i ≡ i = omega arith in
    balance_at_exit code s v met is.wide shows.leading i lt (counted i (sym (ap names here) ∙ e))
    ∙ ap (λ u. owed u -ℤ taken u) (sym here)) in
    let first = owed_due code.terms.convention.borrowed names k m s.returned
    (held_below w a m s.returned is.returned_live) in
    let second = count_due names k m (λ p. get_or s.entry p held.Unset) (is_argument o.entry k)
    code.terms.convention.taken
    (λ p. argument_stands names o.entry (get_or s.entry p held.Unset) p k (shows.entry_alive p) (shows.entry p))
    (λ p. held_below w a m (get_or s.entry p held.Unset) (get_live (token_forms w a m) s.entry p is.entry_live)) in
    sum ∙ less_due names k owed taken 0 m ∙ ap (λ z. z -ℤ due_from names k taken 0 m) first
    ∙ ap (λ z. pos (one_if (goes_out code names s.returned k)) -ℤ z) second
  where
    counted : (t : ℕ) → names t ≡ k → is_uncounted code s t ≡ false
    counted t e = by (is_uncounted code s t) refl
      where
        by : (b : Bool) → is_uncounted code s t ≡ b → b ≡ false
        by true h = absurd (let low = uncounted_low names (immortal_count code.terms.profile) t s.statics
            shows.statics h in omega (arith, low, counts, e))
        by false h = refl

-- ---- the run is balanced

level_by : (change given first owed taken : ℤ) → change -ℤ given -ℤ first ≡ owed -ℤ taken → first ≡ pos 0
    → change ≡ given +ℤ owed -ℤ taken
level_by change given first owed taken e none = omega (arith, ints, e, none)

-- what is returned, where its reference goes to the caller
goes_so : (b : Bool) (r : Option Value) (k : ℕ) (c : Bool) → c ≡ is_returned r k
    → pos (one_if (cond b false c)) ≡ pos (cond (is_returned (cond b None r) k) 1 0)
goes_so true r k c e = refl
goes_so false r k c e = ap (λ d. pos (one_if d)) e

result_stands : (names : Naming) (h : Holding) (c : Content) (result : Option Value) (k : ℕ)
    → IsReturned h c result → HoldsSo names h c → stands_for names h k ≡ is_returned result k
result_stands names h c None k returned holds = ap (λ g. stands_for names g k) returned
result_stands names h c (Some v) k returned holds =
    stands_content names h c k returned.1 holds ∙ ap (λ d. holds_object d k) returned.0

pub leaves_balanced : (code : Code) (ks : List ℕ) (claim : Claim) (m : Regs) (result : Option Value)
    → MeetsExits code claim → ((k : ℕ) → claim.origin.debts k ≡ pos 0) → Leaves code ks claim m result
    → IsBalanced code.terms claim.origin.entry m.world result
leaves_balanced code ks claim m result meets none l k counts lt =
    let s = l.shape in
    let entry = claim.origin.entry in
    let given = given_away m.world k in
    let taken = pos (taken_at_entry code.terms entry k) in
    level_by (account_of m.world k).change given (claim.origin.debts k)
    (pos (cond (is_returned (owned_result code.terms result) k) 1 0)) taken
    (l.shows.balances k
    ∙ exit_total code ks (length code.vars) s l.names l.vector (left_with code claim.origin m l.content) k l.scene
    l.shows (l.met meets) counts
    ∙ ap (λ z. z -ℤ taken) (goes_so code.terms.convention.borrowed result k (stands_for l.names s.returned k)
    (result_stands l.names s.returned l.content result k l.returned l.shows.returned))) (none k)
