-- Two tokens are the same object, or different ones: which answers are left, and what they make of a state.
use Rattle.std.proofs.Common.{◌≡◌, ℕ, ◌<◌, List, [], ◌∷◌, ◌++◌, Bool, true, false, refl, sym, ap, ◌∙◌, subst, arith}
use Rattle.std.proofs.Common.{◌⊎◌, inl, inr, cond, eq-eqb}
use Rattle.std.specs.Prelude.{◌==◌, ◌||◌, ◌&&◌, nat_lt}
use Rattle.std.specs.List.{list_any}
use Rattle.std.proofs.lemmas.Bool.{eqb-true}
use Rattle.std.proofs.lemmas.Bool.Decides.{nat_tests}
use Rattle.std.proofs.lemmas.List.Folds.{Any-from_list_any}
use Rattle.pungi_base.specs.declared.value.Value.{Value}
use Rattle.pungi_base.specs.declared.value.Value.TheVariants as value
use Rattle.pungi_meaning.specs.Values.{is_equal}
use Rattle.pungi_symbol.specs.declared.answers.decision.Decision.TheVariants.{Same as IsSame}
use Rattle.pungi_symbol.specs.declared.states.mark.Mark.TheVariants.{IsObject}
use Rattle.pungi_symbol.specs.declared.states.state.Pair.{Pair}
use Rattle.pungi_symbol.specs.declared.states.state.State.{State}
use Rattle.pungi_symbol.specs.states.Terms.{Table, at, is_mark}
use Rattle.pungi_symbol.specs.states.Known.{count, mark_of}
use Rattle.pungi_symbol.specs.answers.SymbolicState.{class_of, are_one, are_other, can_be, can_same, is_part}
use Rattle.pungi_symbol.specs.answers.SymbolicState.{is_new_to}
use Rattle.pungi_symbol.specs.answers.SymbolicState.{merge_classes, merge_two, apply_same}
use Rattle.pungi_symbol.specs.runs.Fits.{Fits, FitsState, AreNew, AreMadeSound, AreNotesSound, IsSound, named}
use Rattle.pungi_symbol.proofs.answers.Fits.{merges, merges_back, parts_fit, parts_back}
use Rattle.pungi_symbol.proofs.answers.Made.{IsNoNew, no_new, new_apart, merged_made}
use Rattle.pungi_symbol.proofs.questions.Firsts.{below_or}
use Rattle.pungi_symbol.proofs.states.NamedObjects.{named_gather}
use Rattle.pungi_symbol.proofs.answers.SoundNotes.{part_sound, merge_sound, or_left, or_right}

-- ---- values of objects

pub object_value : (v : Value) → is_mark IsObject v ≡ true → (k : ℕ) × (v ≡ value.Object k)
object_value value.Null h = absurd (let bad : false ≡ true = h in cc)
object_value (value.Object k) h = (k, refl)
object_value (value.Int n) h = absurd (let bad : false ≡ true = h in cc)
object_value value.Text h = absurd (let bad : false ≡ true = h in cc)

pub same_is : (v w : Value) → is_mark IsObject v ≡ true → is_equal v w ≡ true → v ≡ w
same_is value.Null w h e = absurd (let bad : false ≡ true = h in cc)
same_is (value.Object j) value.Null h e = absurd (let bad : false ≡ true = e in cc)
same_is (value.Object j) (value.Object k) h e = ap value.Object (eqb-true j k e)
same_is (value.Object j) (value.Int n) h e = absurd (let bad : false ≡ true = e in cc)
same_is (value.Object j) value.Text h e = absurd (let bad : false ≡ true = e in cc)
same_is (value.Int n) w h e = absurd (let bad : false ≡ true = h in cc)
same_is value.Text w h e = absurd (let bad : false ≡ true = h in cc)

pub is_same : (v w : Value) → is_mark IsObject v ≡ true → v ≡ w → is_equal v w ≡ true
is_same value.Null w h e = absurd (let bad : false ≡ true = h in cc)
is_same (value.Object j) w h e = ap (is_equal (value.Object j)) (sym e) ∙ eq-eqb j j refl
is_same (value.Int n) w h e = absurd (let bad : false ≡ true = h in cc)
is_same value.Text w h e = absurd (let bad : false ≡ true = h in cc)

-- ---- pairs

and_left : (a b : Bool) → (a && b) ≡ true → a ≡ true
and_left true b e = refl
and_left false b e = absurd (let bad : false ≡ true = e in cc)

and_right : (a b : Bool) → (a && b) ≡ true → b ≡ true
and_right true b e = e
and_right false b e = absurd (let bad : false ≡ true = e in cc)

or_case : (a b : Bool) → (a || b) ≡ true → (a ≡ true) ⊎ (b ≡ true)
or_case true b e = inl refl
or_case false b e = inr e

both_eq : (a b c d : ℕ) → ((a == c) && (b == d)) ≡ true → (a ≡ c) × (b ≡ d)
both_eq a b c d h = (eqb-true a c (and_left (a == c) (b == d) h), eqb-true b d (and_right (a == c) (b == d) h))

parts_says : (a b c d : ℕ) → (((a == c) && (b == d)) || ((a == d) && (b == c))) ≡ true
    → ((a ≡ c) × (b ≡ d)) ⊎ ((a ≡ d) × (b ≡ c))
parts_says a b c d e = elim (or_case ((a == c) && (b == d)) ((a == d) && (b == c)) e) [
  | inl h ↦ inl (both_eq a b c d h)
  | inr h ↦ inr (both_eq a b d c h)
]

or_swap : (a b : Bool) → (a || b) ≡ (b || a)
or_swap true true = refl
or_swap true false = refl
or_swap false true = refl
or_swap false false = refl

parts_swap : (cs : List ℕ) (c d : ℕ) (ps : List Pair) → list_any (is_part cs c d) ps ≡ list_any (is_part cs d c) ps
parts_swap cs c d [] = refl
parts_swap cs c d (p ∷ ps) =
    ap (λ b. b || list_any (is_part cs c d) ps) (or_swap ((class_of cs p.a == c) && (class_of cs p.b == d))
    ((class_of cs p.a == d) && (class_of cs p.b == c)))
    ∙ ap (λ b. is_part cs d c p || b) (parts_swap cs c d ps)

lt_is : (a b : ℕ) → a < b → nat_lt a b ≡ true
lt_is a b h = grind (arith, nat_tests)

lt_says : (a b : ℕ) → nat_lt a b ≡ true → a < b
lt_says a b h = grind (arith, nat_tests)

both_true : (a b : Bool) → a ≡ true → b ≡ true → (a && b) ≡ true
both_true a b e f = ap (λ z. z && b) e ∙ f

-- ---- what an answer makes of a state

pub data Way (s : State) (t u : ℕ) (b : Bool) (s' : State) : Type 0 where
  kept : class_of s.classes t ≡ class_of s.classes u → b ≡ true → s' ≡ s → Way s t u b s'
  merged : (c d : ℕ) → ((c ≡ class_of s.classes t) × (d ≡ class_of s.classes u))
      ⊎ ((c ≡ class_of s.classes u) × (d ≡ class_of s.classes t)) → c < d → (d < s.statics → ⊥)
      → IsNoNew s.known.made s.known.slots s.classes c d → list_any (is_part s.classes c d) s.others ≡ false → b ≡ true
      → s' ≡ merge_classes c d s → Way s t u b s'
  parted : (class_of s.classes t ≡ class_of s.classes u → ⊥) → b ≡ false
      → s' ≡ record s { others = s.others ++ (record { a = t; b = u }) ∷ [] } → Way s t u b s'

module _ (s : State) (t u : ℕ) where
  abbrev C : ℕ
  C = class_of s.classes t

  abbrev D : ℕ
  D = class_of s.classes u

  abbrev New : ℕ → ℕ → Bool
  New c d = is_new_to s.known s.classes c d

  -- all that says that they differ but that both are static
  abbrev Others : Bool
  Others = (New C D || New D C) || list_any (is_part s.classes C D) s.others

  not_one : are_one s.classes t u ≡ false → C ≡ D → ⊥
  not_one e h = let bad : true ≡ false = sym (eq-eqb C D h) ∙ e in cc

  merge_way : are_one s.classes t u ≡ false → are_other s.statics s.known s.classes s.others t u ≡ false
      → Way s t u true (merge_two C D s)
  merge_way one other =
      let statics = or_left (nat_lt C s.statics && nat_lt D s.statics) Others other in
      let others = or_right (nat_lt C s.statics && nat_lt D s.statics) Others other in
      let news = or_left (New C D || New D C) (list_any (is_part s.classes C D) s.others) others in
      let pairs = or_right (New C D || New D C) (list_any (is_part s.classes C D) s.others) others in
      let new_cd = or_left (New C D) (New D C) news in
      let new_dc = or_right (New C D) (New D C) news in
      let no_two : C < s.statics → D < s.statics
      → ⊥ = λ h g. let bad : true ≡ false = sym (both_true _ _ (lt_is C s.statics h) (lt_is D s.statics g))
      ∙ statics in cc in
      by (nat_lt D C) refl no_two new_cd new_dc pairs
    where
      by : (r : Bool) → nat_lt D C ≡ r → (C < s.statics → D < s.statics → ⊥) → New C D ≡ false → New D C ≡ false
          → list_any (is_part s.classes C D) s.others ≡ false
          → Way s t u true (cond r (merge_classes D C s) (merge_classes C D s))
      by true e never new_cd new_dc pairs =
          let lt = lt_says D C e in
          merged D C (inr (refl, refl)) lt (λ h. never h (omega (arith, lt, h)))
          (no_new s.known s.classes D C new_dc new_cd lt)
          (sym (parts_swap s.classes C D s.others) ∙ pairs) refl refl
      by false e never new_cd new_dc pairs =
          let lt : C < D = elim (below_or C D) [
            | inl h ↦ h
            | inr h ↦ elim (below_or D C) [
              | inl g ↦ absurd (let bad : true ≡ false = sym (lt_is D C g) ∙ e in cc)
              | inr g ↦ absurd (not_one one (omega (arith, h, g)))
            ]
          ] in
          merged C D (inl (refl, refl)) lt (λ h. never (omega (arith, lt, h)) h)
          (no_new s.known s.classes C D new_cd new_dc lt) pairs refl refl

  way_by : (b one other : Bool) → are_one s.classes t u ≡ one
      → are_other s.statics s.known s.classes s.others t u ≡ other
      → can_be one other (IsSame b) ≡ true → Way s t u b (apply_same one b t u s)
  way_by true true other e f c = kept (eqb-true C D e) refl refl
  way_by true false true e f c = absurd (let bad : false ≡ true = c in cc)
  way_by true false false e f c = merge_way e f
  way_by false true other e f c = absurd (let bad : false ≡ true = c in cc)
  way_by false false other e f c = parted (not_one e) refl refl

  pub way_is : (b : Bool) → can_same s t u (IsSame b) ≡ true → Way s t u b (apply_same (are_one s.classes t u) b t u s)
  way_is b c = way_by b (are_one s.classes t u) (are_other s.statics s.known s.classes s.others t u) refl refl c

  -- ---- it stays sound

  pub way_sound : (b : Bool) (s' : State) → IsSound s → mark_of s.known t ≡ IsObject → mark_of s.known u ≡ IsObject
      → t < count s.known → u < count s.known → Way s t u b s'
      → AreNotesSound s.statics s.known.marks s'.classes s'.balances s'.others
  way_sound b s' w mt mu lt lu (kept same e z) = subst (λ r. AreNotesSound s.statics s.known.marks r.classes
      r.balances r.others) (sym z) w.notes
  way_sound b s' w mt mu lt lu (merged c d which older no_static no_new no_pair e z) =
      let oc = w.notes.class_older t lt in
      let od = w.notes.class_older u lu in
      subst (λ r. AreNotesSound s.statics s.known.marks r.classes r.balances r.others) (sym z) (elim which [
        | inl h ↦ merge_sound s.statics s.known.marks s.classes s.balances s.others w.notes c d older
            (let hd = h.1 in omega (arith, hd, od, lu))
            (ap (class_of s.classes) h.0 ∙ w.notes.class_stands t lt ∙ sym h.0) (ap (class_of s.classes) h.1
            ∙ w.notes.class_stands u lu ∙ sym h.1)
            (ap (mark_of s.known) h.0 ∙ w.notes.class_mark t lt ∙ mt) (ap (mark_of s.known) h.1
            ∙ w.notes.class_mark u lu ∙ mu) no_static no_pair
        | inr h ↦ merge_sound s.statics s.known.marks s.classes s.balances s.others w.notes c d older
            (let hd = h.1 in omega (arith, hd, oc, lt))
            (ap (class_of s.classes) h.0 ∙ w.notes.class_stands u lu ∙ sym h.0) (ap (class_of s.classes) h.1
            ∙ w.notes.class_stands t lt ∙ sym h.1)
            (ap (mark_of s.known) h.0 ∙ w.notes.class_mark u lu ∙ mu) (ap (mark_of s.known) h.1
            ∙ w.notes.class_mark t lt ∙ mt) no_static no_pair
      ])
  way_sound b s' w mt mu lt lu (parted ne e z) = subst (λ r. AreNotesSound s.statics s.known.marks r.classes
      r.balances r.others) (sym z)
      (part_sound s.statics s.known.marks s.classes s.balances s.others w.notes t u (lt, mt) (lu, mu) ne)

  pub way_made : (b : Bool) (s' : State) → IsSound s → Way s t u b s'
      → AreMadeSound s.known.marks s.known.made s.known.slots s'.classes
  way_made b s' w (kept same e z) =
      subst (λ r. AreMadeSound s.known.marks s.known.made s.known.slots r.classes) (sym z) w.made
  way_made b s' w (merged c d which older no_static no_new no_pair e z) =
      subst (λ r. AreMadeSound s.known.marks s.known.made s.known.slots r.classes) (sym z)
      (merged_made s.known.marks s.known.made s.known.slots s.classes w.made w.notes.classes_long w.terms.at_entry c d
      no_new)
  way_made b s' w (parted ne e z) =
      subst (λ r. AreMadeSound s.known.marks s.known.made s.known.slots r.classes) (sym z) w.made

  -- ---- with values of the tokens

  module _ (table : Table) (w : IsSound s) (mt : mark_of s.known t ≡ IsObject) (mu : mark_of s.known u ≡ IsObject)
      (lt : t < count s.known) (lu : u < count s.known) where
    abbrev Notes : Type 0
    Notes = Fits table s.statics s.known.marks s.classes s.others

    class_value : Notes → (x : ℕ) → x < count s.known → at table (class_of s.classes x) ≡ at table x
    class_value f x h = f.classes x h

    is_object_t : Notes → is_mark IsObject (at table t) ≡ true
    is_object_t f = subst (λ k. is_mark k (at table t) ≡ true) mt (f.marks t lt)

    static_class : Notes → (x : ℕ) → x < count s.known → class_of s.classes x < s.statics
        → at table x ≡ value.Object (class_of s.classes x)
    static_class f x h lt = sym (f.classes x h) ∙ f.statics (class_of s.classes x) lt

    objects_one : (a b : ℕ) → value.Object a ≡ value.Object b → a ≡ b
    objects_one a b e = cc

    abbrev AreNews : Type 0
    AreNews = AreNew table s.known.made s.known.slots

    news_apart : Notes → AreNews → (New C D || New D C) ≡ true → at table C ≡ at table D → ⊥
    news_apart f new e same = elim (or_case (New C D) (New D C) e) [
      | inl h ↦ new_apart table s.known s.classes new w.terms.at_entry f.classes C D h same
      | inr h ↦ new_apart table s.known s.classes new w.terms.at_entry f.classes D C h (sym same)
    ]

    -- a pair
    pair_class : Notes → list_any (is_part s.classes C D) s.others ≡ true → at table t ≡ at table u → ⊥
    pair_class f h same =
        let hit = Any-from_list_any (is_part s.classes C D) s.others h in
        let k = hit.0 in
        let p = hit.1 in
        let b : (p.a < count s.known) × (p.b < count s.known) = subst (λ q. (q.a < count s.known)
        × (q.b < count s.known)) hit.3 (w.notes.others_below k p hit.2) in
        let o : at table p.a ≡ at table p.b → ⊥ = subst (λ q. at table q.a ≡ at table q.b → ⊥) hit.3
        (f.others k p hit.2) in
        let one_class : (x y : ℕ) → x < count s.known → y < count s.known
        → class_of s.classes x ≡ class_of s.classes y
        → at table x ≡ at table y = λ x y hx hy z. sym (f.classes x hx) ∙ ap (at table) z ∙ f.classes y hy in
        elim (parts_says (class_of s.classes p.a) (class_of s.classes p.b) C D hit.4) [
          | inl g ↦ o (one_class p.a t b.0 lt g.0 ∙ same ∙ sym (one_class p.b u b.1 lu g.1))
          | inr g ↦ o (one_class p.a u b.0 lu g.0 ∙ sym same ∙ sym (one_class p.b t b.1 lt g.1))
        ]

    -- different static objects, one that was made and one to which it is new, or a pair
    other_class : Notes → AreNews → are_one s.classes t u ≡ false
        → are_other s.statics s.known s.classes s.others t u ≡ true → at table t ≡ at table u → ⊥
    other_class f new one e same = elim (or_case (nat_lt C s.statics && nat_lt D s.statics) Others e) [
      | inl h ↦
          let ct = static_class f t lt (lt_says C s.statics (and_left (nat_lt C s.statics)
          (nat_lt D s.statics) h)) in
          let cu = static_class f u lu (lt_says D s.statics (and_right (nat_lt C s.statics)
          (nat_lt D s.statics) h)) in
          not_one one (objects_one C D (sym ct ∙ same ∙ cu))
      | inr h ↦ elim (or_case (New C D || New D C) (list_any (is_part s.classes C D) s.others) h) [
        | inl n ↦ news_apart f new n (f.classes t lt ∙ same ∙ sym (f.classes u lu))
        | inr o ↦ pair_class f o same
      ]
    ]

    can_by : (b one other : Bool) → are_one s.classes t u ≡ one
        → are_other s.statics s.known s.classes s.others t u ≡ other
        → Notes → AreNews → is_equal (at table t) (at table u) ≡ b → can_be one other (IsSame b) ≡ true
    can_by true true other e g f n v = refl
    can_by true false true e g f n v =
        absurd (other_class f n e g (same_is (at table t) (at table u) (is_object_t f) v))
    can_by true false false e g f n v = refl
    can_by false true other e g f n v =
        let same : at table t ≡ at table u = sym (f.classes t lt) ∙ ap (at table) (eqb-true C D e) ∙ f.classes u lu in
        absurd (let bad : true ≡ false = sym (is_same (at table t) (at table u) (is_object_t f) same) ∙ v in cc)
    can_by false false other e g f n v = refl

    pub same_can : FitsState table s → can_same s t u (IsSame (is_equal (at table t) (at table u))) ≡ true
    same_can f = can_by (is_equal (at table t) (at table u)) (are_one s.classes t u)
        (are_other s.statics s.known s.classes s.others t u) refl refl f.notes f.new refl

    one_value : Notes → (c d : ℕ) → ((c ≡ C) × (d ≡ D)) ⊎ ((c ≡ D) × (d ≡ C)) → at table t ≡ at table u
        → at table c ≡ at table d
    one_value f c d (inl h) e = ap (at table) h.0 ∙ f.classes t lt ∙ e ∙ sym (f.classes u lu) ∙ sym (ap (at table) h.1)
    one_value f c d (inr h) e = ap (at table) h.0 ∙ f.classes u lu ∙ sym e ∙ sym (f.classes t lt)
        ∙ sym (ap (at table) h.1)

    within : (c d : ℕ) → ((c ≡ C) × (d ≡ D)) ⊎ ((c ≡ D) × (d ≡ C)) → (c < count s.known) × (d < count s.known)
    within c d (inl h) = let oc = w.notes.class_older t lt in let od = w.notes.class_older u lu in let a = h.0 in
        let b = h.1 in (omega (arith, oc, a, lt), omega (arith, od, b, lu))
    within c d (inr h) = let oc = w.notes.class_older t lt in let od = w.notes.class_older u lu in let a = h.0 in
        let b = h.1 in (omega (arith, od, a, lu), omega (arith, oc, b, lt))

    stands : (c d : ℕ) → ((c ≡ C) × (d ≡ D)) ⊎ ((c ≡ D) × (d ≡ C)) → class_of s.classes d ≡ d
    stands c d (inl h) = ap (class_of s.classes) h.1 ∙ w.notes.class_stands u lu ∙ sym h.1
    stands c d (inr h) = ap (class_of s.classes) h.1 ∙ w.notes.class_stands t lt ∙ sym h.1

    -- the values fit, and the balances of each object are as they were
    notes_fit : (b : Bool) (s' : State) → Notes → is_equal (at table t) (at table u) ≡ b
        → Way s t u b s' → Fits table s.statics s.known.marks s'.classes s'.others
    notes_fit b s' f v (kept same e z) = subst (λ r. Fits table s.statics s.known.marks r.classes r.others) (sym z) f
    notes_fit b s' f v (merged c d which older no_static no_new no_pair e z) = subst
        (λ r. Fits table s.statics s.known.marks r.classes r.others) (sym z)
        (merges table s.statics s.known.marks s.classes s.others c d w.notes.classes_long
        (one_value f c d which (same_is (at table t) (at table u) (is_object_t f) (v ∙ e))) f)
    notes_fit b s' f v (parted ne e z) = subst (λ r. Fits table s.statics s.known.marks r.classes r.others) (sym z)
        (parts_fit table s.statics s.known.marks s.classes s.others t u (λ h. let bad : true
        ≡ false = sym (is_same (at table t) (at table u) (is_object_t f) h) ∙ v ∙ e in cc) f)

    named_by : (b : Bool) (s' : State) → Notes → is_equal (at table t) (at table u) ≡ b
        → Way s t u b s' → (o : ℕ) → named o table.values s'.balances ≡ named o table.values s.balances
    named_by b s' f v (kept same e z) o = ap (λ r. named o table.values r.balances) z
    named_by b s' f v (merged c d which older no_static no_new no_pair e z) o =
        let bl = w.notes.balances_long in
        let both = within c d which in
        let bc = both.0 in
        let bd = both.1 in
        ap (λ r. named o table.values r.balances) z
        ∙ named_gather o table.values s.balances c d (omega (arith, bc, bl)) (omega (arith, bd, bl))
        (λ h. absurd (omega (arith, older, h))) (one_value f c d which (same_is (at table t) (at table u)
        (is_object_t f) (v ∙ e)))
    named_by b s' f v (parted ne e z) o = ap (λ r. named o table.values r.balances) z

    pub way_fits : (b : Bool) (s' : State) → FitsState table s → is_equal (at table t) (at table u) ≡ b
        → Way s t u b s' → Fits table s.statics s.known.marks s'.classes s'.others
    way_fits b s' f v way = notes_fit b s' f.notes v way

    pub way_named : (b : Bool) (s' : State) → FitsState table s → is_equal (at table t) (at table u) ≡ b
        → Way s t u b s' → (o : ℕ) → named o table.values s'.balances ≡ named o table.values s.balances
    way_named b s' f v way o = named_by b s' f.notes v way o

    -- back
    equal_or : (v x : Value) → is_mark IsObject v ≡ true → (v ≡ x → ⊥) → (b : Bool) → is_equal v x ≡ b → b ≡ false
    equal_or v x h ne true e = absurd (ne (same_is v x h e))
    equal_or v x h ne false e = refl

    pub way_back : (b : Bool) (s' : State) → Way s t u b s'
        → Fits table s.statics s.known.marks s'.classes s'.others
        → Notes × (is_equal (at table t) (at table u) ≡ b)
    way_back b s' (kept same e z) f' =
        let f : Notes = subst (λ r. Fits table s.statics s.known.marks r.classes r.others) z f' in (
          f,
          is_same (at table t) (at table u) (is_object_t f) (sym (f.classes t lt) ∙ ap (at table) same
              ∙ f.classes u lu) ∙ sym e,
        )
    way_back b s' (merged c d which older no_static no_new no_pair e z) f' =
        let g = subst (λ r. Fits table s.statics s.known.marks r.classes r.others) z f' in
        let both = within c d which in
        let r = merges_back table s.statics s.known.marks s.classes s.others c d w.notes.classes_long both.1
        (stands c d which) g in
        let f = r.0 in
        (f, is_same (at table t) (at table u) (is_object_t f) (back f c d which r.1) ∙ sym e)
      where
        back : Notes → (c d : ℕ) → ((c ≡ C) × (d ≡ D)) ⊎ ((c ≡ D) × (d ≡ C)) → at table c ≡ at table d
            → at table t ≡ at table u
        back f c d (inl h) e = sym (f.classes t lt) ∙ ap (at table) (sym h.0) ∙ e ∙ ap (at table) h.1 ∙ f.classes u lu
        back f c d (inr h) e = sym (f.classes t lt) ∙ ap (at table) (sym h.1) ∙ sym e ∙ ap (at table) h.0
            ∙ f.classes u lu
    way_back b s' (parted ne e z) f' =
        let g = subst (λ r. Fits table s.statics s.known.marks r.classes r.others) z f' in
        let r = parts_back table s.statics s.known.marks s.classes s.others t u g in (
          r.0,
          equal_or (at table t) (at table u) (is_object_t r.0) r.1 (is_equal (at table t) (at table u)) refl
              ∙ sym e,
        )
