-- What is noted of tokens stays sound after an answer.
use Rattle.std.proofs.Common.{◌≡◌, ◌≢◌, ℕ, ◌+◌, ◌<◌, ℤ, pos, ◌+ℤ◌, List, [], ◌∷◌, ◌++◌, length, get_or, Bool, true}
use Rattle.std.proofs.Common.{false, refl, sym, ap, ◌∙◌, arith, ◌⊎◌, inl, inr, Option, None, Some, map, cond}
use Rattle.std.proofs.Common.{length-append, eq-eqb}
use Rattle.std.specs.Prelude.{slice_set, ◌==◌, ◌||◌, ◌&&◌, nat_lt}
use Rattle.std.specs.List.{list_any}
use Rattle.std.proofs.lemmas.Bool.{cases_eq}
use Rattle.std.proofs.lemmas.Bool.Decides.{eqb_tells, nat_tests}
use Rattle.std.proofs.Math.ListN.{length-set, length-map, get_or-append}
use Rattle.std.proofs.Math.Seq.{get_or-append_seam}
use Rattle.std.proofs.lemmas.List.{get_or-set_same, get_or-set_other, get_or-map}
use Rattle.std.proofs.lemmas.List.Elements.{All-append}
use Rattle.std.proofs.lemmas.List.Folds.{list_any_at}
use Rattle.pungi_symbol.specs.declared.states.mark.Mark.{Mark}
use Rattle.pungi_symbol.specs.declared.states.mark.Mark.TheVariants.{IsNull, IsObject}
use Rattle.pungi_symbol.specs.declared.states.state.Pair.{Pair}
use Rattle.pungi_symbol.specs.answers.SymbolicState.{class_of, balance_at, redirect, gather_at, is_part, add_to}
use Rattle.pungi_symbol.specs.runs.Fits.{AreNotesSound}
use Rattle.pungi_symbol.proofs.answers.Fits.{one_all}
use Rattle.pungi_symbol.proofs.states.Contents.{is_open}

-- a token that is known to be an object, if there is one
abbrev pub IsObjectIn : List Mark → Option ℕ → Type 0
IsObjectIn ms None = Unit {0}
IsObjectIn ms (Some t) = (t < length ms) × (get_or ms t IsNull ≡ IsObject)

first_way : (a b c d : ℕ) → a ≡ c → b ≡ d → (((a == c) && (b == d)) || ((a == d) && (b == c))) ≡ true
first_way a b c d e f = rw (eq-eqb a c e, eq-eqb b d f) refl

or_true : (b : Bool) → (b || true) ≡ true
or_true true = refl
or_true false = refl

second_way : (a b c d : ℕ) → a ≡ d → b ≡ c → (((a == c) && (b == d)) || ((a == d) && (b == c))) ≡ true
second_way a b c d e f = rw (eq-eqb a d e, eq-eqb b c f) (or_true ((a == c) && (b == d)))

pub or_left : (a b : Bool) → (a || b) ≡ false → a ≡ false
or_left true b e = absurd (let bad : true ≡ false = e in cc)
or_left false b e = refl

pub or_right : (a b : Bool) → (a || b) ≡ false → b ≡ false
or_right true b e = absurd (let bad : true ≡ false = e in cc)
or_right false b e = e

pub and_both : (a b : Bool) → (a && b) ≡ false → a ≡ true → b ≡ false
and_both true b e h = e
and_both false b e h = absurd (let bad : false ≡ true = h in cc)

below_false : (a b : ℕ) → nat_lt a b ≡ false → a < b → ⊥
below_false a b e h = grind (arith, nat_tests)

below_true : (a b : ℕ) → a < b → nat_lt a b ≡ true
below_true a b h = grind (arith, nat_tests)

pub redirect_is : (c d e : ℕ) → ((e ≡ d) × (redirect c d e ≡ c)) ⊎ ((e ≢ d) × (redirect c d e ≡ e))
redirect_is c d e = elim (eqb_tells e d) [
  | inl h ↦ inl (h.1, ap (λ b. cond b c e) h.0)
  | inr h ↦ inr (h.1, ap (λ b. cond b c e) h.0)
]

module _ (first : ℕ) (ms : List Mark) (cs : List ℕ) (bs : List ℤ) (ps : List Pair)
    (w : AreNotesSound first ms cs bs ps) where
  Mk : ℕ → Mark
  Mk t = get_or ms t IsNull

  class_below : (t : ℕ) → t < length ms → class_of cs t < length ms
  class_below t lt = let o = w.class_older t lt in omega (arith, o, lt)

  pub added_sound : (r : Option ℕ) (d : ℤ) → IsObjectIn ms r → AreNotesSound first ms cs (add_to cs r d bs) ps
  added_sound None d h = w
  added_sound (Some t) d h =
      let c = class_of cs t in
      let x = balance_at bs c +ℤ d in
      record {
        statics = w.statics;
        static_objects = w.static_objects;
        classes_long = w.classes_long;
        balances_long = length-set bs c x ∙ w.balances_long;
        class_older = w.class_older;
        class_static = w.class_static;
        class_stands = w.class_stands;
        class_mark = w.class_mark;
        alone = w.alone;
        no_object = λ u lt no.
            let ne : u ≢ c = λ e. no (ap (λ z. get_or ms z IsNull) e ∙ w.class_mark t h.0 ∙ h.1) in
            get_or-set_other bs c u x (pos 0) ne ∙ w.no_object u lt no;
        merged = λ u lt no.
            let ne : u ≢ c = λ e. no (ap (class_of cs) e ∙ w.class_stands t h.0 ∙ sym e) in
            get_or-set_other bs c u x (pos 0) ne ∙ w.merged u lt no;
        others_below = w.others_below;
        others_objects = w.others_objects;
        others_part = w.others_part;
      }

  -- the answer to whether a pointer is NULL
  pub null_sound : (t : ℕ) (m : Mark) → t < length ms → is_open (get_or ms t IsNull) ≡ true
      → AreNotesSound first (slice_set ms t m) cs bs ps
  null_sound t m lt opened =
      let new = slice_set ms t m in
      let len : length new ≡ length ms = length-set ms t m in
      let not : get_or ms t IsNull ≡ IsObject → ⊥ = λ e. let bad : true ≡ false = sym opened ∙ ap is_open e in cc in
      let here : class_of cs t ≡ t = w.alone t lt not in
      let elsewhere : (u : ℕ) → u ≢ t → get_or new u IsNull
      ≡ get_or ms u IsNull = λ u ne. get_or-set_other ms t u m IsNull ne in
      let object_elsewhere : (u : ℕ) → get_or ms u IsNull ≡ IsObject → get_or new u IsNull ≡ IsObject = λ u e.
      elsewhere u (λ same. not (ap (λ z. get_or ms z IsNull) (sym same) ∙ e)) ∙ e in
      let down : (u : ℕ) → u < length new → u < length ms = λ u h. omega (arith, len, h) in
      record {
        statics = let s = w.statics in omega (arith, len, s);
        static_objects = λ u h. object_elsewhere u (w.static_objects u h);
        classes_long = w.classes_long ∙ sym len;
        balances_long = w.balances_long ∙ sym len;
        class_older = λ u h. w.class_older u (down u h);
        class_static = w.class_static;
        class_stands = λ u h. w.class_stands u (down u h);
        class_mark = λ u h. elim (cases_eq u t) [
          | inl e ↦ ap (λ v. get_or new v IsNull) (ap (class_of cs) e ∙ here ∙ sym e)
          | inr ne ↦
              let apart : class_of cs u ≢ t = λ e.
              let mu : get_or ms u IsNull ≡ get_or ms t IsNull = sym (w.class_mark u (down u h))
              ∙ ap (λ z. get_or ms z IsNull) e in
              let un : get_or ms u IsNull ≡ IsObject → ⊥ = λ o. not (sym mu ∙ o) in
              ne (sym (w.alone u (down u h) un) ∙ e) in
              elsewhere (class_of cs u) apart ∙ w.class_mark u (down u h) ∙ sym (elsewhere u ne)
        ];
        alone = λ u h no. elim (cases_eq u t) [
          | inl e ↦ ap (class_of cs) e ∙ here ∙ sym e
          | inr ne ↦ w.alone u (down u h) (λ o. no (elsewhere u ne ∙ o))
        ];
        no_object = λ u h no. elim (cases_eq u t) [
          | inl e ↦ ap (balance_at bs) e ∙ w.no_object t lt not
          | inr ne ↦ w.no_object u (down u h) (λ o. no (elsewhere u ne ∙ o))
        ];
        merged = λ u h no. w.merged u (down u h) no;
        others_below = λ k d h. let b = w.others_below k d h in (omega (arith, len, b.0), omega (arith, len, b.1));
        others_objects = λ k d h. let b = w.others_objects k d h in (object_elsewhere _ b.0, object_elsewhere _ b.1);
        others_part = w.others_part;
      }

  -- a token comes in
  pub arrived_sound : (m : Mark) (d : ℤ) → ((m ≡ IsObject → ⊥) → d ≡ pos 0)
      → AreNotesSound first (ms ++ m ∷ []) (cs ++ length ms ∷ []) (bs ++ d ∷ []) ps
  arrived_sound m d zero_if =
      let n = length ms in
      let new = ms ++ m ∷ [] in
      let cs' = cs ++ n ∷ [] in
      let bs' = bs ++ d ∷ [] in
      let len : length new ≡ n + 1 = length-append ms (m ∷ []) in
      let clen : length cs' ≡ length cs + 1 = length-append cs (n ∷ []) in
      let blen : length bs' ≡ length bs + 1 = length-append bs (d ∷ []) in
      let cl = w.classes_long in
      let bl = w.balances_long in
      let same_mark : (u : ℕ) → u < n → get_or new u IsNull
      ≡ get_or ms u IsNull = λ u h. get_or-append ms (m ∷ []) IsNull u h in
      let same_class : (u : ℕ) → u < n → class_of cs' u ≡ class_of cs u = λ u h. let lt : u
      < length cs = omega (arith, cl, h) in get_or-append cs (n ∷ []) 0 u lt in
      let same_balance : (u : ℕ) → u < n → balance_at bs' u ≡ balance_at bs u = λ u h. let lt : u
      < length bs = omega (arith, bl, h) in get_or-append bs (d ∷ []) (pos 0) u lt in
      let last_class : class_of cs' n ≡ n = ap (class_of cs') (sym cl) ∙ get_or-append_seam cs n [] 0 in
      let last_balance : balance_at bs' n ≡ d = ap (balance_at bs') (sym bl) ∙ get_or-append_seam bs d [] (pos 0) in
      let last_mark : get_or new n IsNull ≡ m = get_or-append_seam ms m [] IsNull in
      let down : (u : ℕ) → u < length new → u ≢ n → u < n = λ u h ne. omega (arith, len, h, ne) in
      let last : (u : ℕ) → u ≡ n → class_of cs' u ≡ u = λ u e. ap (class_of cs') e ∙ last_class ∙ sym e in
      let few = w.statics in
      let early : (u : ℕ) → u < first → u < n = λ u h. omega (arith, few, h) in
      record {
        statics = omega (arith, few, len);
        static_objects = λ u h. same_mark u (early u h) ∙ w.static_objects u h;
        classes_long = omega (arith, clen, cl, len);
        balances_long = omega (arith, blen, bl, len);
        class_older = λ u h. elim (cases_eq u n) [
          | inl e ↦ let c = last u e in omega (arith, c)
          | inr ne ↦ let b = w.class_older u (down u h ne) in let c = same_class u (down u h ne) in omega (arith, b, c)
        ];
        class_static = λ u h. same_class u (early u h) ∙ w.class_static u h;
        class_stands = λ u h. elim (cases_eq u n) [
          | inl e ↦ ap (class_of cs') (last u e)
          | inr ne ↦ let lt = down u h ne in
              ap (class_of cs') (same_class u lt) ∙ same_class (class_of cs u) (class_below u lt)
              ∙ w.class_stands u lt ∙ sym (same_class u lt)
        ];
        class_mark = λ u h. elim (cases_eq u n) [
          | inl e ↦ ap (λ v. get_or new v IsNull) (last u e)
          | inr ne ↦ let lt = down u h ne in
              ap (λ v. get_or new v IsNull) (same_class u lt) ∙ same_mark (class_of cs u) (class_below u lt)
              ∙ w.class_mark u lt ∙ sym (same_mark u lt)
        ];
        alone = λ u h no. elim (cases_eq u n) [
          | inl e ↦ last u e
          | inr ne ↦ let lt = down u h ne in same_class u lt ∙ w.alone u lt (λ o. no (same_mark u lt ∙ o))
        ];
        no_object = λ u h no. elim (cases_eq u n) [
          | inl e ↦ ap (balance_at bs') e ∙ last_balance ∙ zero_if (λ o. no (ap (λ v. get_or new v IsNull) e
              ∙ last_mark ∙ o))
          | inr ne ↦ let lt = down u h ne in same_balance u lt ∙ w.no_object u lt (λ o. no (same_mark u lt ∙ o))
        ];
        merged = λ u h no. elim (cases_eq u n) [
          | inl e ↦ absurd (no (last u e))
          | inr ne ↦ let lt = down u h ne in same_balance u lt ∙ w.merged u lt (λ o. no (same_class u lt ∙ o))
        ];
        others_below = λ k p h. let b = w.others_below k p h in (omega (arith, len, b.0), omega (arith, len, b.1));
        others_objects = λ k p h. let b = w.others_below k p h in let o = w.others_objects k p h in
            (same_mark _ b.0 ∙ o.0, same_mark _ b.1 ∙ o.1);
        others_part = λ k p h e. let b = w.others_below k p h in w.others_part k p h
            (sym (same_class _ b.0) ∙ e ∙ same_class _ b.1);
      }

  -- two tokens are different objects
  pub part_sound : (t u : ℕ) → (t < length ms) × (get_or ms t IsNull ≡ IsObject)
      → (u < length ms) × (get_or ms u IsNull ≡ IsObject) → (class_of cs t ≡ class_of cs u → ⊥)
      → AreNotesSound first ms cs bs (ps ++ (record { a = t; b = u }) ∷ [])
  part_sound t u ht hu ne =
      let new : Pair = record { a = t; b = u } in
      record {
        statics = w.statics;
        static_objects = w.static_objects;
        classes_long = w.classes_long;
        balances_long = w.balances_long;
        class_older = w.class_older;
        class_static = w.class_static;
        class_stands = w.class_stands;
        class_mark = w.class_mark;
        alone = w.alone;
        no_object = w.no_object;
        merged = w.merged;
        others_below = All-append (λ p. (p.a < length ms) × (p.b < length ms)) ps (new ∷ []) w.others_below
            (one_all (λ p. (p.a < length ms) × (p.b < length ms)) new (ht.0, hu.0));
        others_objects = All-append (λ p. (get_or ms p.a IsNull ≡ IsObject) × (get_or ms p.b IsNull ≡ IsObject)) ps
            (new ∷ []) w.others_objects (one_all (λ p. (get_or ms p.a IsNull ≡ IsObject)
            × (get_or ms p.b IsNull ≡ IsObject)) new (ht.1, hu.1));
        others_part = All-append (λ p. class_of cs p.a ≡ class_of cs p.b → ⊥) ps (new ∷ []) w.others_part
            (one_all (λ p. class_of cs p.a ≡ class_of cs p.b → ⊥) new ne);
      }

  -- two classes are merged, into the older
  pub merge_sound : (c d : ℕ) → c < d → d < length ms → class_of cs c ≡ c → class_of cs d ≡ d
      → get_or ms c IsNull ≡ IsObject → get_or ms d IsNull ≡ IsObject
      → (d < first → ⊥) → list_any (is_part cs c d) ps ≡ false
      → AreNotesSound first ms (map (redirect c d) cs) (gather_at c d bs) ps
  merge_sound c d older ld stands_c stands_d mark_c mark_d no_static no_pair =
      let n = length ms in
      let lc : c < n = omega (arith, older, ld) in
      let ne : c ≢ d = λ e. absurd (omega (arith, older, e)) in
      let cs' = map (redirect c d) cs in
      let cl = w.classes_long in
      let bl = w.balances_long in
      let new : (x : ℕ) → x < n → class_of cs' x ≡ redirect c d (class_of cs x) = λ x h. let lt : x
      < length cs = omega (arith, h, cl) in get_or-map (redirect c d) cs x 0 0 lt in
      let stays : (e : ℕ) → e ≢ d → redirect c d e ≡ e = λ e other. elim (redirect_is c d e)
      [ inl h ↦ absurd (other h.0) | inr h ↦ h.1 ] in
      let at_c : class_of cs' c ≡ c = new c lc ∙ ap (redirect c d) stands_c ∙ stays c ne in
      let one = slice_set bs c (balance_at bs c +ℤ balance_at bs d) in
      let len1 : length one ≡ length bs = length-set bs c (balance_at bs c +ℤ balance_at bs d) in
      let len2 : length (slice_set one d (pos 0)) ≡ length one = length-set one d (pos 0) in
      let keeps : (x : ℕ) → x ≢ c → x ≢ d → balance_at (gather_at c d bs) x ≡ balance_at bs x = λ x nc nd.
      get_or-set_other one d x (pos 0) (pos 0) nd ∙ get_or-set_other bs c x (balance_at bs c +ℤ balance_at bs d)
      (pos 0) nc in
      let d_lt : d < length one = omega (arith, ld, len1, bl) in
      let emptied : balance_at (gather_at c d bs) d ≡ pos 0 = get_or-set_same one d (pos 0) (pos 0) d_lt in
      let few = w.statics in
      record {
        statics = w.statics;
        static_objects = w.static_objects;
        classes_long = length-map cs (redirect c d) ∙ cl;
        balances_long = len2 ∙ len1 ∙ bl;
        class_older = λ x h. let o = w.class_older x h in elim (redirect_is c d (class_of cs x)) [
          | inl e ↦ let z = new x h ∙ e.1 in let y = e.0 in omega (arith, z, y, o, older)
          | inr e ↦ let z = new x h ∙ e.1 in omega (arith, z, o)
        ];
        class_static = λ x h.
            let lt : x < n = omega (arith, h, few) in
            let same = w.class_static x h in
            new x lt ∙ ap (redirect c d) same ∙ stays x (λ e. no_static (omega (arith, e, h)));
        class_stands = λ x h. elim (redirect_is c d (class_of cs x)) [
          | inl e ↦ ap (class_of cs') (new x h ∙ e.1) ∙ at_c ∙ sym (new x h ∙ e.1)
          | inr e ↦ ap (class_of cs') (new x h ∙ e.1) ∙ new (class_of cs x) (class_below x h)
              ∙ ap (redirect c d) (w.class_stands x h) ∙ sym (new x h)
        ];
        class_mark = λ x h. elim (redirect_is c d (class_of cs x)) [
          | inl e ↦ ap (λ z. get_or ms z IsNull) (new x h ∙ e.1) ∙ mark_c
              ∙ sym (sym (w.class_mark x h) ∙ ap (λ z. get_or ms z IsNull) e.0 ∙ mark_d)
          | inr e ↦ ap (λ z. get_or ms z IsNull) (new x h ∙ e.1) ∙ w.class_mark x h
        ];
        alone = λ x h no.
            let here = w.alone x h no in
            let nd : x ≢ d = λ e. no (ap (λ z. get_or ms z IsNull) e ∙ mark_d) in
            new x h ∙ ap (redirect c d) here ∙ stays x nd;
        no_object = λ x h no. keeps x (λ e. no (ap (λ z. get_or ms z IsNull) e ∙ mark_c))
            (λ e. no (ap (λ z. get_or ms z IsNull) e ∙ mark_d)) ∙ w.no_object x h no;
        merged = λ x h no. elim (cases_eq x d) [
          | inl e ↦ ap (balance_at (gather_at c d bs)) e ∙ emptied
          | inr nd ↦
              let nc : x ≢ c = λ e. no (ap (class_of cs') e ∙ at_c ∙ sym e) in
              keeps x nc nd ∙ w.merged x h (λ e. no (new x h ∙ ap (redirect c d) e ∙ stays x nd))
        ];
        others_below = w.others_below;
        others_objects = w.others_objects;
        others_part = λ k p h e.
            let b = w.others_below k p h in
            let q = get_or ps k p in
            let r : redirect c d (class_of cs q.a) ≡ redirect c d (class_of cs q.b) = sym (new q.a b.0) ∙ e
            ∙ new q.b b.1 in
            let hit : is_part cs c d q ≡ true → ⊥ = λ yes. let bad : true
            ≡ false = sym (list_any_at (is_part cs c d) ps k p h yes) ∙ no_pair in cc in
            elim (redirect_is c d (class_of cs q.a)) [
              | inl ea ↦ elim (redirect_is c d (class_of cs q.b)) [
                | inl eb ↦ w.others_part k p h (ea.0 ∙ sym eb.0)
                | inr eb ↦ hit (second_way (class_of cs q.a) (class_of cs q.b) c d ea.0 (sym eb.1 ∙ sym r ∙ ea.1))
              ]
              | inr ea ↦ elim (redirect_is c d (class_of cs q.b)) [
                | inl eb ↦ hit (first_way (class_of cs q.a) (class_of cs q.b) c d (sym ea.1 ∙ r ∙ eb.1) eb.0)
                | inr eb ↦ w.others_part k p h (sym ea.1 ∙ r ∙ eb.1)
              ]
            ];
      }
