-- Where a place leads: the shapes at which its cases arrive, and the places after parts that are left out.
--   IsNext code p s c       a case of a place that is found is good, and leads where it may
--   Follows code q r        a place is found where this one is, with the same static objects and as many coordinates
use Rattle.std.proofs.Common.{◌≡◌, ◌∙◌, ℕ, zero, suc, ◌+◌, ◌<◌, ◌≤◌, Bool, true, false, List, [], ◌∷◌, length, map}
use Rattle.std.proofs.Common.{get_or, Option, Some, None, refl, sym, ap, subst, arith, cond}
use Rattle.std.specs.Prelude.{◌&&◌}
use Rattle.std.specs.List.{All, enumerate_from, filter}
use Rattle.std.specs.Ordering.{int_cmp, nat_cmp, is_eq, ordering_then}
use Rattle.std.specs.Cmp.Lexicographic.{slice_cmp}
use Rattle.std.specs.declared.cmp.Ordering.{Ordering}
use Rattle.std.specs.declared.cmp.Ordering.TheVariants.{Less, Equal, Greater}
use Rattle.std.proofs.lemmas.List.Elements.{All-cons, All-head, All-map, All-nil, All-tail}
use Rattle.std.proofs.lemmas.List.FromFn.{length-map-range_with_len}
use Rattle.pungi_code.specs.declared.code.Code.{Code}
use Rattle.pungi_code.specs.declared.instr.Instr.{Instr}
use Rattle.pungi_code.specs.declared.instr.Instr.TheVariants.{Set, Arith, Fit, Compare, Load, Store, Api, Call}
use Rattle.pungi_code.specs.declared.instr.Instr.TheVariants.{Unset as Forget, Jump, Branch, Return, Fall}
use Rattle.pungi_code.specs.WellFormed.{leads_on}
use Rattle.pungi_shape.specs.declared.holding.Holding.{Holding}
use Rattle.pungi_shape.specs.declared.holding.Holding.TheVariants.{Dead, Unset, Null, Text, Known, Number, Token}
use Rattle.pungi_shape.specs.declared.point.Point.{Point}
use Rattle.pungi_shape.specs.declared.shape.Shape.{Shape}
use Rattle.pungi_shape.specs.Arrivals.{arrive, is_kept, kept_shape, place_in, put_slots, trim}
use Rattle.pungi_shape.specs.Bounds.{IsCodeOfFile, IsScene}
use Rattle.pungi_shape.specs.Cases.{Case, Onward, within, leads_to, leaves}
use Rattle.pungi_shape.specs.Edges.{cases_at, changes_nothing, free_var, is_freed, is_none_of, part_done, settle, skip}
use Rattle.pungi_shape.specs.Edges.{skip_one, skip_within, units}
use Rattle.pungi_shape.specs.Forms.{unit}
use Rattle.pungi_shape.specs.Liveness.{instr_at, is_holder}
use Rattle.pungi_shape.specs.Parts.{maps}
use Rattle.pungi_shape.specs.Places.{Place, at_entry, at_point, after_call, width_at}
use Rattle.pungi_shape.specs.Reached.{FreesNumber, IsLeft, IsPart, IsReached, IsShapeOf, Unheld, names_at, names_in}
use Rattle.pungi_shape.specs.Scenes.{Scene, scene_of}
use Rattle.pungi_shape.specs.Shapes.{is_number, numbers_of_shape, rename_holding, rename_tracked, tokens_of}
use Rattle.pungi_shape.specs.Shapes.{width_of}
use Rattle.pungi_shape.proofs.ArrivalLemmas.{arrive-entry, arrive-rows, arrive-shape, arrive-vars}
use Rattle.pungi_shape.proofs.CaseGoals.{FreesAt, IsCaseOf, LeadsAt, cases-lead}
use Rattle.pungi_shape.proofs.CaseLemmas.{IsGoodCase, cases-plain}
use Rattle.pungi_shape.proofs.FileCodes.{sound-at}
use Rattle.pungi_shape.proofs.NumberLemmas.{both_true}
use Rattle.pungi_shape.proofs.SceneLemmas.{scene_of-plain, scene_of-scene}
use Rattle.pungi_shape.proofs.StaticLemmas.{names_renamed}

-- ---- instructions

pub maps-some : (i : Instr) → 0 < maps i
maps-some (Set x a) = omega arith
maps-some (Arith x kind o a b) = omega arith
maps-some (Fit x kind a) = omega arith
maps-some (Compare x c a b) = omega arith
maps-some (Load x place) = omega arith
maps-some (Store place a) = omega arith
maps-some (Api x g as') = omega arith
maps-some (Call x f as') = omega arith
maps-some (Forget x) = omega arith
maps-some (Jump to) = omega arith
maps-some (Branch a this other) = omega arith
maps-some (Return a) = omega arith
maps-some Fall = omega arith

-- ---- what is kept of variables

trim-kept : (code : Code) (p : Point) (n : ℕ) (hs : List Holding) (x m : ℕ) → n + x ≡ m → is_holder code p m ≡ true
    → get_or (map (λ y. cond (is_holder code p y.0) y.1 Dead) (enumerate_from n hs)) x Dead ≡ get_or hs x Dead
trim-kept code p n [] x m e is = refl
trim-kept code p n (h ∷ hs) zero m e is =
    ap (λ b. cond b h Dead) (ap (is_holder code p) (let z : n ≡ m = omega (arith, e) in z) ∙ is)
trim-kept code p n (h ∷ hs) (suc x) m e is = trim-kept code p (n + 1) hs x m (omega (arith, e)) is

number_renamed : (g : ℕ → ℕ) (h : Holding) → is_number (rename_holding g h) ≡ is_number h
number_renamed g Dead = refl
number_renamed g Unset = refl
number_renamed g Null = refl
number_renamed g Text = refl
number_renamed g (Known n) = refl
number_renamed g Number = refl
number_renamed g (Token t) = refl

number_at : (g : ℕ → ℕ) (hs : List Holding) (x : ℕ)
    → is_number (get_or (map (rename_holding g) hs) x Dead) ≡ is_number (get_or hs x Dead)
number_at g [] x = refl
number_at g (h ∷ hs) zero = number_renamed g h
number_at g (h ∷ hs) (suc x) = number_at g hs x

arrived-number : (code : Code) (p : Point) (s : Scene) (x : ℕ) → is_holder code p x ≡ true
    → is_number (get_or (arrive code p s).shape.vars x Dead) ≡ is_number (get_or s.shape.vars x Dead)
arrived-number code p s x is =
    number_at (place_in (tokens_of (kept_shape code p s))) (kept_shape code p s).vars x
    ∙ ap is_number (trim-kept code p 0 s.shape.vars x x (omega arith) is)

unheld_renamed : (g : ℕ → ℕ) (h : Holding) → Unheld h → Unheld (rename_holding g h)
unheld_renamed g Dead u = u
unheld_renamed g Unset u = u
unheld_renamed g Null u = u
unheld_renamed g Text u = u
unheld_renamed g (Known n) u = u
unheld_renamed g Number u = u
unheld_renamed g (Token t) u = absurd (let e = u.token in cc)

pub trim-all : (P : Holding → Type 0) (code : Code) (p : Point) (n : ℕ) (hs : List Holding) → P Dead → All P hs
    → All P (map (λ y. cond (is_holder code p y.0) y.1 Dead) (enumerate_from n hs))
trim-all P code p n [] dead all = All-nil P
trim-all P code p n (h ∷ hs) dead all =
    All-cons P (cond (is_holder code p n) h Dead)
    (map (λ y. cond (is_holder code p y.0) y.1 Dead) (enumerate_from (n + 1) hs)) (at (is_holder code p n))
    (trim-all P code p (n + 1) hs dead (All-tail P h hs all))
  where
    at : (b : Bool) → P (cond b h Dead)
    at true = All-head P h hs all
    at false = dead

pub arrived-left : (code : Code) (p : Point) (s : Scene) → IsLeft s.shape → IsLeft (arrive code p s).shape
arrived-left code p s h =
    let t = trim code p s.shape in
    let g = place_in (tokens_of (kept_shape code p s)) in
    record {
      vars = All-map Unheld (rename_holding g) t.vars (λ k d lt. unheld_renamed g (get_or t.vars k d)
          (trim-all Unheld code p 0 s.shape.vars (record { number = refl; token = refl }) h.vars k d lt));
      slots = ap (λ rs. map (rename_tracked g) (map (λ e. e.1) (put_slots t (filter (is_kept t) rs)))) h.slots;
    }

pub arrived-names : (code : Code) (p : Point) (s : Scene) → names_in (arrive code p s).shape ≡ names_in s.shape
arrived-names code p s = names_renamed (place_in (tokens_of (kept_shape code p s))) s.shape.statics

pub arrived-shape : (code : Code) (p : Point) (s : Scene) → IsScene s → length s.shape.entry ≡ code.params
    → length s.shape.vars ≡ length code.vars → IsShapeOf code (arrive code p s).shape
arrived-shape code p s k entry vars = record {
  shape = arrive-shape code p s k;
  entry = arrive-entry code p s ∙ entry;
  vars = arrive-vars code p s ∙ vars;
}

-- ---- cases of a place

pub record IsNext (code : Code) (p : Point) (s : Shape) (c : Case) : Type 0 where
  pub good : IsGoodCase (scene_of s) c
  pub leads : IsCaseOf (instr_at code p.instr) p.done (scene_of s) c

pub cases-next : (code : Code) (p : Point) (s : Shape) → IsCodeOfFile code → IsShapeOf code s
    → All (IsNext code p s) (cases_at code p s)
cases-next code p s h is =
    let i = instr_at code p.instr in
    let good = cases-plain code i p.instr p.done p.class (scene_of s) (sound-at code p.instr h)
    (scene_of-scene s is.shape) (scene_of-plain s) in
    let leads = cases-lead code i p.instr p.done p.class (scene_of s) (sound-at code p.instr h) is.vars in
    λ k d lt. record { good = good k d lt; leads = leads k d lt }

pub next-shape : (code : Code) (p : Point) (s : Shape) (c : Case) (q : Point) → IsShapeOf code s → IsNext code p s c
    → IsShapeOf code (arrive code q c.scene).shape
next-shape code p s c q is n =
    arrived-shape code q c.scene n.good.scene (n.good.entry ∙ is.entry) (n.good.vars ∙ is.vars)

pub next-names : (code : Code) (p : Point) (s : Shape) (c : Case) (q : Point) → IsNext code p s c
    → names_in (arrive code q c.scene).shape ≡ names_in s
next-names code p s c q n = arrived-names code q c.scene ∙ n.leads.names

-- ---- parts

pub start-part : (code : Code) (pc : ℕ) (s : Shape) → IsPart (instr_at code pc) 0 s
start-part code pc s =
    let some = maps-some (instr_at code pc) in
    record {
      part = omega (arith, some);
      frees = λ e. absurd (omega (arith, some, e));
      left = λ a is lt. absurd (omega (arith, lt));
    }

pub within-part : (code : Code) (p : Point) (s : Shape) (c : Case) (q : Point) → IsNext code p s c
    → p.done + 1 < maps (instr_at code p.instr)
    → IsPart (instr_at code p.instr) (p.done + 1) (arrive code q c.scene).shape
within-part code p s c q n more = record {
  part = omega (arith, more);
  frees = λ e. absurd (omega (arith, more, e));
  left = λ a is lt. arrived-left code q c.scene (n.leads.left a is (
      let two : maps (instr_at code p.instr) ≡ 2 = ap maps is in
      omega (arith, more, two)
      ));
}

frees-part : (code : Code) (i : Instr) (q : Point) (s : Scene) (o : Option ℕ) → FreesAt i s o
    → is_freed code q o ≡ true → FreesNumber i (arrive code q s).shape
frees-part code i q s None f is = absurd (let bad : false ≡ true = is in cc)
frees-part code i q s (Some x) f is =
    let holds : is_holder code q (free_var i) ≡ true = subst (λ y. is_holder code q y ≡ true) f.0 is in
    record { number = arrived-number code q s (free_var i) holds ∙ f.1.number; leads_on = f.1.leads_on }

pub last-part : (code : Code) (p : Point) (c : Case) (q : Point) → p.done < maps (instr_at code p.instr)
    → maps (instr_at code p.instr) ≤ p.done + 1 → FreesAt (instr_at code p.instr) c.scene c.freed
    → is_freed code q c.freed ≡ true
    → IsPart (instr_at code p.instr) (p.done + 1) (arrive code q c.scene).shape
last-part code p c q lt le f is =
    let frees = frees-part code (instr_at code p.instr) q c.scene c.freed f is in
    record {
      part = omega (arith, lt);
      frees = λ e. frees;
      left = λ a same below. absurd (
          let on : leads_on (Return a) ≡ true = subst (λ i. leads_on i ≡ true) same frees.leads_on in
          let bad : false ≡ true = on in
          cc
          );
    }

-- ---- parts that are left out

pub record Follows (code : Code) (q r : Place) : Type 0 where
  pub reached : IsReached code r
  pub names : names_at r ≡ names_at q
  pub width : width_at r ≡ width_at q

same : (code : Code) (q : Place) → IsReached code q → Follows code q q
same code q is = record { reached = is; names = refl; width = refl }

then_equal : (o p : Ordering) → is_eq (ordering_then o p) ≡ true → is_eq p ≡ true
then_equal Less p e = absurd (let bad : false ≡ true = e in cc)
then_equal Equal p e = e
then_equal Greater p e = absurd (let bad : false ≡ true = e in cc)

counted : {K : Type 0} (R : K → K → Ordering) (xs ys : List K) → is_eq (slice_cmp R xs ys) ≡ true
    → length xs ≡ length ys
counted R [] [] e = refl
counted R [] (y ∷ ys) e = absurd (let bad : false ≡ true = e in cc)
counted R (x ∷ xs) [] e = absurd (let bad : false ≡ true = e in cc)
counted R (x ∷ xs) (y ∷ ys) e =
    let rest = counted R xs ys (then_equal (R x y) (slice_cmp R xs ys) e) in omega (arith, rest)

same_width : (code : Code) (q : Point) (s : Shape) (t : Scene) → IsScene t
    → changes_nothing s (arrive code q t) ≡ true → width_of (arrive code q t).shape ≡ width_of s
same_width code q s t k e =
    let a = arrive code q t in
    let rows = is_eq (slice_cmp (slice_cmp int_cmp) a.rows (units (width_of s))) in
    let both = both_true (is_eq (slice_cmp nat_cmp (numbers_of_shape a.shape) (numbers_of_shape s)))
    (rows && is_none_of a.drops) e in
    sym (arrive-rows code q t k)
    ∙ counted (slice_cmp int_cmp) a.rows (units (width_of s)) (both_true rows (is_none_of a.drops) both.1).0
    ∙ length-map-range_with_len (unit (width_of s)) 0 (width_of s)

skips-within : (code : Code) (p : Point) (s : Shape) (c : Case) (o : Onward) → IsReached code (at_point p s)
    → IsNext code p s c → LeadsAt (instr_at code p.instr) p.done c o
    → Follows code (at_point p s) (skip_within code p s c o)
skips-within code p s c (leads_to pc) is n l = same code (at_point p s) is
skips-within code p s c leaves is n l = same code (at_point p s) is
skips-within code p s c (within k) is n l = at (changes_nothing s (arrive code (part_done p k) c.scene)) refl
  where
    at : (b : Bool) → changes_nothing s (arrive code (part_done p k) c.scene) ≡ b → Follows code (at_point p s)
        (cond b (at_point (part_done p k) (arrive code (part_done p k) c.scene).shape) (at_point p s))
    at true e = record {
      reached = (next-shape code p s c (part_done p k) is.0 n, within-part code p s c (part_done p k) n l.0);
      names = next-names code p s c (part_done p k) n;
      width = same_width code (part_done p k) s c.scene n.good.scene e;
    }
    at false e = same code (at_point p s) is

skips-one : (code : Code) (p : Point) (s : Shape) (cs : List Case) → IsReached code (at_point p s)
    → All (IsNext code p s) cs → Follows code (at_point p s) (skip_one code p s cs)
skips-one code p s [] is all = same code (at_point p s) is
skips-one code p s (c ∷ []) is all =
    let n = All-head (IsNext code p s) c [] all in skips-within code p s c c.onward is n n.leads.leads
skips-one code p s (c ∷ d ∷ cs) is all = same code (at_point p s) is

skip-follows : (code : Code) (q : Place) → IsCodeOfFile code → IsReached code q → Follows code q (skip code q)
skip-follows code (at_entry s) h is = same code (at_entry s) is
skip-follows code (after_call p s e) h is = same code (after_call p s e) is
skip-follows code (at_point p s) h is =
    skips-one code p s (cases_at code p s) is (cases-next code p s h is.0)

pub settle-follows : (code : Code) (q : Place) → IsCodeOfFile code → IsReached code q
    → Follows code q (settle code q)
settle-follows code q h is =
    let once = skip-follows code q h is in
    let twice = skip-follows code (skip code q) h once.reached in
    record {
      reached = twice.reached;
      names = twice.names ∙ once.names;
      width = twice.width ∙ once.width;
    }
