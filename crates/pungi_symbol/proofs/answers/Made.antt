-- Objects that were made: which tokens are theirs, and what is noted of them where slots, tokens and classes change.
use Rattle.std.proofs.Common.{◌≡◌, ◌≢◌, ℕ, zero, suc, ◌<◌, ◌≤◌, List, [], ◌∷◌, ◌++◌, length, get_or, map, Bool}
use Rattle.std.proofs.Common.{true}
use Rattle.std.proofs.Common.{false, refl, sym, ap, ◌∙◌, subst, arith, ◌⊎◌, inl, inr, eq-eqb, length-append}
use Rattle.std.specs.Prelude.{slice_set, ◌==◌, ◌||◌, ◌&&◌, nat_lt}
use Rattle.std.proofs.lemmas.Bool.{eqb-true}
use Rattle.std.proofs.lemmas.Bool.Decides.{nat_tests}
use Rattle.std.proofs.Math.ListN.{length-set, get_or-append}
use Rattle.std.proofs.Math.Seq.{get_or-append_seam}
use Rattle.std.proofs.lemmas.List.{get_or-set_other, get_or-map}
use Rattle.pungi_symbol.specs.declared.states.known.Known.{Known}
use Rattle.pungi_symbol.specs.declared.states.mark.Mark.{Mark}
use Rattle.pungi_symbol.specs.declared.states.mark.Mark.TheVariants.{IsNull, IsObject}
use Rattle.pungi_symbol.specs.declared.states.spot.Touched.{Touched}
use Rattle.pungi_symbol.specs.declared.states.term.Term.{Term}
use Rattle.pungi_symbol.specs.declared.states.term.Term.TheVariants.{Unset, Null, Text, Number, Token, Sum}
use Rattle.pungi_symbol.specs.states.Terms.{Table, at}
use Rattle.pungi_symbol.specs.states.Known.{no_slot, slot_note}
use Rattle.pungi_symbol.specs.answers.SymbolicState.{class_of, redirect, is_among, is_of_class, is_content, is_new_to}
use Rattle.pungi_base.specs.declared.value.Value.TheVariants as value
use Rattle.pungi_symbol.specs.runs.Fits.{is_the, IsBelow, AreNew, AreMadeSound}
use Rattle.pungi_symbol.specs.runs.RunInState.{is_this_made}
use Rattle.pungi_symbol.proofs.answers.SoundNotes.{redirect_is}
use Rattle.pungi_symbol.proofs.states.Contents.{is_open}
use Rattle.pungi_symbol.proofs.states.Terms.{end_each}

pub one_of : (a b : Bool) → (a || b) ≡ true → (a ≡ true) ⊎ (b ≡ true)
one_of true b e = inl refl
one_of false b e = inr e

pub neither : (a b : Bool) → (a || b) ≡ false → (a ≡ false) × (b ≡ false)
neither true b e = absurd (let bad : true ≡ false = e in cc)
neither false b e = (refl, e)

pub both_of : (a b : Bool) → (a && b) ≡ true → (a ≡ true) × (b ≡ true)
both_of true b e = (refl, e)
both_of false b e = absurd (let bad : false ≡ true = e in cc)

or_one : (a b : Bool) → b ≡ true → (a || b) ≡ true
or_one true b e = refl
or_one false b e = e

-- ---- tokens

pub among_more : (ns more : List ℕ) (m : ℕ) → is_among ns m ≡ true → is_among (ns ++ more) m ≡ true
among_more [] more m e = absurd (let bad : false ≡ true = e in cc)
among_more (n ∷ ns) more m e = elim (one_of (n == m) (is_among ns m) e) [
  | inl h ↦ ap (λ b. b || is_among (ns ++ more) m) h
  | inr h ↦ or_one (n == m) (is_among (ns ++ more) m) (among_more ns more m h)
]

pub among_either : (ns more : List ℕ) (m : ℕ) → is_among (ns ++ more) m ≡ true
    → (is_among ns m ≡ true) ⊎ (is_among more m ≡ true)
among_either [] more m e = inr e
among_either (n ∷ ns) more m e = elim (one_of (n == m) (is_among (ns ++ more) m) e) [
  | inl h ↦ inl (ap (λ b. b || is_among ns m) h)
  | inr h ↦ elim (among_either ns more m h) [
    | inl g ↦ inl (or_one (n == m) (is_among ns m) g)
    | inr g ↦ inr g
  ]
]

pub among_one : (n m : ℕ) → is_among (n ∷ []) m ≡ true → n ≡ m
among_one n m e = elim (one_of (n == m) false e) [
  | inl h ↦ eqb-true n m h
  | inr h ↦ absurd (let bad : false ≡ true = h in cc)
]

pub among_last : (ns : List ℕ) (n : ℕ) → is_among (ns ++ n ∷ []) n ≡ true
among_last [] n = ap (λ b. b || false) (eq-eqb n n refl)
among_last (m ∷ ns) n = or_one (m == n) (is_among (ns ++ n ∷ []) n) (among_last ns n)

pub among_at : (ns : List ℕ) (j : ℕ) → j < length ns → is_among ns (get_or ns j 0) ≡ true
among_at [] j h = absurd (omega (arith, h))
among_at (n ∷ ns) zero h = ap (λ b. b || is_among ns n) (eq-eqb n n refl)
among_at (n ∷ ns) (suc j) h =
    or_one (n == get_or ns j 0) (is_among ns (get_or ns j 0)) (among_at ns j (omega (arith, h)))

-- the object of a token that was made is one that was made
pub among_made : (table : Table) (made : List ℕ) (m k : ℕ) → is_among made m ≡ true → at table m ≡ value.Object k
    → is_this_made table made k ≡ true
among_made table [] m k a e = absurd (let bad : false ≡ true = a in cc)
among_made table (n ∷ ns) m k a e = elim (one_of (n == m) (is_among ns m) a) [
  | inl h ↦ ap (λ b. b || is_this_made table ns k) (ap (λ z. is_the k (at table z)) (eqb-true n m h) ∙ ap (is_the k) e
      ∙ eq-eqb k k refl)
  | inr h ↦ or_one (is_the k (at table n)) (is_this_made table ns k) (among_made table ns m k h e)
]

-- ---- what slots held at entry

pub no_token : {X : Type 0} (t : ℕ) → Unset ≡ Token t → X
no_token t e = absurd (cc)

of_class : (cs : List ℕ) (c : ℕ) (x : Term) → is_of_class cs c x ≡ true
    → (t : ℕ) × (x ≡ Token t) × (class_of cs t ≡ c)
of_class cs c Unset e = absurd (let bad : false ≡ true = e in cc)
of_class cs c Null e = absurd (let bad : false ≡ true = e in cc)
of_class cs c Text e = absurd (let bad : false ≡ true = e in cc)
of_class cs c (Number n) e = absurd (let bad : false ≡ true = e in cc)
of_class cs c (Token t) e = (t, refl, eqb-true (class_of cs t) c e)
of_class cs c (Sum s) e = absurd (let bad : false ≡ true = e in cc)

-- a slot that held an object of a class
pub content_at : (cs : List ℕ) (c : ℕ) (slots : List Touched) → is_content slots cs c ≡ true
    → (i : ℕ) × (t : ℕ) × ((slot_note slots i).at_entry ≡ Token t) × (class_of cs t ≡ c)
content_at cs c [] e = absurd (let bad : false ≡ true = e in cc)
content_at cs c (s ∷ slots) e = elim (one_of (is_of_class cs c s.at_entry) (is_content slots cs c) e) [
  | inl h ↦ let r = of_class cs c s.at_entry h in (0, r.0, r.1, r.2)
  | inr h ↦ let r = content_at cs c slots h in (suc r.0, r.1, r.2, r.3)
]

-- no slot held one
pub no_content : (cs : List ℕ) (c : ℕ) (slots : List Touched) → is_content slots cs c ≡ false → (i t : ℕ)
    → (slot_note slots i).at_entry ≡ Token t → class_of cs t ≡ c → ⊥
no_content cs c [] e i t h g = no_token t h
no_content cs c (s ∷ slots) e zero t h g =
    let off = (neither (is_of_class cs c s.at_entry) (is_content slots cs c) e).0 in
    let on : is_of_class cs c s.at_entry ≡ true = ap (is_of_class cs c) h ∙ eq-eqb (class_of cs t) c g in
    let bad : true ≡ false = sym on ∙ off in absurd (cc)
no_content cs c (s ∷ slots) e (suc i) t h g =
    no_content cs c slots (neither (is_of_class cs c s.at_entry) (is_content slots cs c) e).1 i t h g

before_each : {X : Type 0} (P : X → Type 0) (xs : List X) (x d : X) → P d → ((z : ℕ) → P (get_or (xs ++ x ∷ []) z d))
    → (z : ℕ) → P (get_or xs z d)
before_each P [] x d o all z = o
before_each P (v ∷ xs) x d o all zero = all zero
before_each P (v ∷ xs) x d o all (suc z) = before_each P xs x d o (λ y. all (suc y)) z

-- a store leaves what was there at entry
abbrev pub StoredSlots : List Touched → ℕ → Term → List Touched
StoredSlots slots i c = slice_set slots i (record (slot_note slots i) { held = c })

pub stored_entry : (slots : List Touched) (i : ℕ) (c : Term) (z : ℕ)
    → (slot_note (StoredSlots slots i c) z).at_entry ≡ (slot_note slots z).at_entry
stored_entry [] i c z = refl
stored_entry (v ∷ xs) zero c zero = refl
stored_entry (v ∷ xs) zero c (suc z) = refl
stored_entry (v ∷ xs) (suc i) c zero = refl
stored_entry (v ∷ xs) (suc i) c (suc z) = stored_entry xs i c z

-- ---- values of the tokens

module _ (table : Table) where
  abbrev Parted : ℕ → Touched → Type 0
  Parted m s = (t : ℕ) → s.at_entry ≡ Token t → at table t ≡ at table m → ⊥

  -- a slot is touched
  pub slot_new : (made : List ℕ) (slots : List Touched) (note : Touched)
      → ((m t : ℕ) → is_among made m ≡ true → note.at_entry ≡ Token t → at table t ≡ at table m → ⊥)
      → AreNew table made slots → AreNew table made (slots ++ note ∷ [])
  slot_new made slots note f h = record {
    later = h.later;
    outside = λ m i t a. end_each (Parted m) slots note no_slot (λ u e. no_token u e) (λ z u. h.outside m z u a)
        (λ u. f m u a) i t;
  }

  pub slot_back : (made : List ℕ) (slots : List Touched) (note : Touched) → AreNew table made (slots ++ note ∷ [])
      → AreNew table made slots
  slot_back made slots note h = record {
    later = h.later;
    outside = λ m i t a. before_each (Parted m) slots note no_slot (λ u e. no_token u e) (λ z u. h.outside m z u a) i t;
  }

  pub stored_new : (made : List ℕ) (slots : List Touched) (i : ℕ) (c : Term) → AreNew table made slots
      → AreNew table made (StoredSlots slots i c)
  stored_new made slots i c h = record {
    later = h.later;
    outside = λ m z t a e. h.outside m z t a (sym (stored_entry slots i c z) ∙ e);
  }

  pub stored_back : (made : List ℕ) (slots : List Touched) (i : ℕ) (c : Term)
      → AreNew table made (StoredSlots slots i c) → AreNew table made slots
  stored_back made slots i c h = record {
    later = h.later;
    outside = λ m z t a e. h.outside m z t a (stored_entry slots i c z ∙ e);
  }

  -- objects are made
  pub made_new : (made more : List ℕ) (slots : List Touched)
      → ((m t : ℕ) → is_among more m ≡ true → t < m → at table t ≡ at table m → ⊥)
      → ((m i t : ℕ) → is_among more m ≡ true → (slot_note slots i).at_entry ≡ Token t → at table t ≡ at table m → ⊥)
      → AreNew table made slots → AreNew table (made ++ more) slots
  made_new made more slots f g h = record {
    later = λ m t a lt e. elim (among_either made more m a) [ inl b ↦ h.later m t b lt e | inr b ↦ f m t b lt e ];
    outside = λ m i t a at e. elim (among_either made more m a) [
      | inl b ↦ h.outside m i t b at e
      | inr b ↦ g m i t b at e
    ];
  }

  pub made_back : (made more : List ℕ) (slots : List Touched) → AreNew table (made ++ more) slots
      → AreNew table made slots
  made_back made more slots h = record {
    later = λ m t a. h.later m t (among_more made more m a);
    outside = λ m i t a. h.outside m i t (among_more made more m a);
  }

  pub new_as : (made made' : List ℕ) (slots slots' : List Touched) → made' ≡ made → slots' ≡ slots
      → AreNew table made' slots' → AreNew table made slots
  new_as made made' slots slots' e f h = subst (AreNew table made) f (subst (λ z. AreNew table z slots') e h)

-- ---- two classes

lt_says : (a b : ℕ) → nat_lt a b ≡ true → a < b
lt_says a b h = grind (arith, nat_tests)

lt_is : (a b : ℕ) → a < b → nat_lt a b ≡ true
lt_is a b h = grind (arith, nat_tests)

-- of two classes that may be one the newer isn't that of an object that was made, nor is the older, where a slot held
-- the newer
abbrev pub IsNoNew : List ℕ → List Touched → List ℕ → ℕ → ℕ → Type 0
IsNoNew made slots cs c d = (is_among made d ≡ false) × (is_among made c ≡ true → is_content slots cs d ≡ false)

first_off : (a b x : Bool) → (a && (b || x)) ≡ false → b ≡ true → a ≡ false
first_off true b x e h = absurd (let bad : true ≡ false = sym (ap (λ z. z || x) h) ∙ e in cc)
first_off false b x e h = refl

last_off : (a b x : Bool) → (a && (b || x)) ≡ false → a ≡ true → x ≡ false
last_off true b x e h = (neither b x e).1
last_off false b x e h = absurd (let bad : false ≡ true = h in cc)

pub no_new : (k : Known) (cs : List ℕ) (c d : ℕ) → is_new_to k cs c d ≡ false → is_new_to k cs d c ≡ false → c < d
    → IsNoNew k.made k.slots cs c d
no_new k cs c d e f lt = (
  first_off (is_among k.made d) (nat_lt c d) (is_content k.slots cs c) e (lt_is c d lt),
  last_off (is_among k.made c) (nat_lt d c) (is_content k.slots cs d) f,
)

-- what an object that was made is new to is another
pub new_apart : (table : Table) (k : Known) (cs : List ℕ) → AreNew table k.made k.slots
    → ((i : ℕ) → IsBelow (length k.marks) (slot_note k.slots i).at_entry)
    → ((t : ℕ) → t < length k.marks → at table (class_of cs t) ≡ at table t)
    → (c d : ℕ) → is_new_to k cs c d ≡ true → at table c ≡ at table d → ⊥
new_apart table k cs new entries classes c d e same =
    let r = both_of (is_among k.made d) (nat_lt c d || is_content k.slots cs c) e in
    elim (one_of (nat_lt c d) (is_content k.slots cs c) r.1) [
      | inl h ↦ new.later d c r.0 (lt_says c d h) same
      | inr h ↦
          let held = content_at cs c k.slots h in
          let lt : held.1 < length k.marks = subst (IsBelow (length k.marks)) held.2 (entries held.0) in
          new.outside d held.0 held.1 r.0 held.2 (sym (classes held.1 lt) ∙ ap (at table) held.3 ∙ same)
    ]

-- ---- what is noted

module _ (ms : List Mark) (made : List ℕ) (slots : List Touched) (cs : List ℕ) (w : AreMadeSound ms made slots cs) where
  abbrev Held : ℕ → Touched → Type 0
  Held m s = (t : ℕ) → s.at_entry ≡ Token t → class_of cs t ≡ m → ⊥

  pub slot_made : (note : Touched)
      → ((m t : ℕ) → is_among made m ≡ true → note.at_entry ≡ Token t → class_of cs t ≡ m → ⊥)
      → AreMadeSound ms made (slots ++ note ∷ []) cs
  slot_made note f = record {
    below = w.below;
    objects = w.objects;
    own = w.own;
    outside = λ m i t a. end_each (Held m) slots note no_slot (λ u e. no_token u e) (λ z u. w.outside m z u a)
        (λ u. f m u a) i t;
  }

  pub stored_made : (i : ℕ) (c : Term) → AreMadeSound ms made (StoredSlots slots i c) cs
  stored_made i c = record {
    below = w.below;
    objects = w.objects;
    own = w.own;
    outside = λ m z t a e. w.outside m z t a (sym (stored_entry slots i c z) ∙ e);
  }

  -- the answer to whether a pointer is NULL
  pub null_made : (t : ℕ) (r : Mark) → is_open (get_or ms t IsNull) ≡ true
      → AreMadeSound (slice_set ms t r) made slots cs
  null_made t r o = record {
    below = λ m a. let len = length-set ms t r in let b = w.below m a in omega (arith, len, b);
    objects = λ m a.
        let ne : m ≢ t = λ e. let bad : true ≡ false = sym o ∙ ap (λ z. is_open (get_or ms z IsNull)) (sym e)
        ∙ ap is_open (w.objects m a) in cc in
        get_or-set_other ms t m r IsNull ne ∙ w.objects m a;
    own = w.own;
    outside = w.outside;
  }

  -- a token comes in
  module _ (long : length cs ≡ length ms) (entries : (i : ℕ) → IsBelow (length ms) (slot_note slots i).at_entry) where
    pub arrived_made : (r : Mark) → AreMadeSound (ms ++ r ∷ []) made slots (cs ++ length ms ∷ [])
    arrived_made r = record {
      below = λ m a. let len = length-append ms (r ∷ []) in let b = w.below m a in omega (arith, len, b);
      objects = λ m a. get_or-append ms (r ∷ []) IsNull m (w.below m a) ∙ w.objects m a;
      own = λ m a. let b = w.below m a in get_or-append cs (length ms ∷ []) 0 m (omega (arith, b, long)) ∙ w.own m a;
      outside = λ m i t a e same.
          let b : t < length ms = subst (IsBelow (length ms)) e (entries i) in
          w.outside m i t a e (sym (get_or-append cs (length ms ∷ []) 0 t (omega (arith, b, long))) ∙ same);
    }

    -- it is that of an object that was made
    pub made_more : (more : List ℕ) → ((t : ℕ) → t < length ms → class_of cs t ≤ t)
        → ((m : ℕ) → is_among more m ≡ true → m ≡ length ms)
        → AreMadeSound (ms ++ IsObject ∷ []) (made ++ more) slots (cs ++ length ms ∷ [])
    made_more more older f =
        let h = arrived_made IsObject in
        let len = length-append ms (IsObject ∷ []) in
        record {
          below = λ m a. elim (among_either made more m a) [
            | inl b ↦ h.below m b
            | inr b ↦ let e = f m b in omega (arith, e, len)
          ];
          objects = λ m a. elim (among_either made more m a) [
            | inl b ↦ h.objects m b
            | inr b ↦ ap (λ z. get_or (ms ++ IsObject ∷ []) z IsNull) (f m b) ∙ get_or-append_seam ms IsObject [] IsNull
          ];
          own = λ m a. elim (among_either made more m a) [
            | inl b ↦ h.own m b
            | inr b ↦ ap (class_of (cs ++ length ms ∷ [])) (f m b ∙ sym long)
                ∙ get_or-append_seam cs (length ms) [] 0 ∙ sym (f m b)
          ];
          outside = λ m i t a e same. elim (among_either made more m a) [
            | inl b ↦ h.outside m i t b e same
            | inr b ↦
                let lt : t < length ms = subst (IsBelow (length ms)) e (entries i) in
                let o = older t lt in
                let c = get_or-append cs (length ms ∷ []) 0 t (omega (arith, lt, long)) in
                let last = f m b in
                absurd (omega (arith, lt, o, c, last, same))
          ];
        }

    -- two classes are merged, into the older
    pub merged_made : (c d : ℕ) → IsNoNew made slots cs c d → AreMadeSound ms made slots (map (redirect c d) cs)
    merged_made c d fresh = record {
      below = w.below;
      objects = w.objects;
      own = λ m a.
          let b = w.below m a in
          let ne : m ≢ d = λ e. let bad : true ≡ false = sym a ∙ ap (is_among made) e ∙ fresh.0 in cc in
          get_or-map (redirect c d) cs m 0 0 (omega (arith, b, long)) ∙ ap (redirect c d) (w.own m a) ∙ stays m ne;
      outside = λ m i t a e same.
          let lt : t < length ms = subst (IsBelow (length ms)) e (entries i) in
          let there : t < length cs = omega (arith, lt, long) in
          let new : redirect c d (class_of cs t) ≡ m = sym (get_or-map (redirect c d) cs t 0 0 there) ∙ same in
          elim (redirect_is c d (class_of cs t)) [
            | inl r ↦ no_content cs d slots (fresh.1 (ap (is_among made) (sym r.1 ∙ new) ∙ a)) i t e r.0
            | inr r ↦ w.outside m i t a e (sym r.1 ∙ new)
          ];
    }
      where
        stays : (m : ℕ) → m ≢ d → redirect c d m ≡ m
        stays m ne = elim (redirect_is c d m) [ inl h ↦ absurd (ne h.0) | inr h ↦ h.1 ]
