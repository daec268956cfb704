-- Which values of the tokens fit a state after an answer: those that fit the state before and give this answer.
use Rattle.std.proofs.Common.{◌≡◌, ℕ, zero, suc, ◌+◌, ◌<◌, List, [], ◌∷◌, ◌++◌, length, get_or, map, true, sym, ap, ◌∙◌}
use Rattle.std.proofs.Common.{subst, arith, inl, inr, All, cond, eq-eqb, length-append}
use Rattle.std.specs.Prelude.{slice_set}
use Rattle.std.proofs.lemmas.Bool.{cases_eq}
use Rattle.std.proofs.lemmas.Bool.Decides.{eqb_tells}
use Rattle.std.proofs.Math.ListN.{length-set, get_or-append}
use Rattle.std.proofs.Math.Seq.{get_or-append_seam}
use Rattle.std.proofs.lemmas.List.{get_or-set_same, get_or-set_other, get_or-map}
use Rattle.std.proofs.lemmas.List.Elements.{All-append}
use Rattle.pungi_symbol.specs.declared.states.mark.Mark.{Mark}
use Rattle.pungi_symbol.specs.declared.states.mark.Mark.TheVariants.{IsNull}
use Rattle.pungi_symbol.specs.declared.states.state.Pair.{Pair}
use Rattle.pungi_symbol.specs.states.Terms.{Table, at, is_mark}
use Rattle.pungi_symbol.specs.answers.SymbolicState.{class_of, redirect}
use Rattle.pungi_symbol.specs.runs.Fits.{Fits}

pub one_all : {X : Type 0} (P : X → Type 0) (x : X) → P x → All P (x ∷ [])
one_all P x p zero d h = p
one_all P x p (suc k) d h = absurd (omega (arith, h))

pub two_all : {X : Type 0} (P : X → Type 0) (x y : X) → P x → P y → All P (x ∷ y ∷ [])
two_all P x y p q zero d h = p
two_all P x y p q (suc zero) d h = q
two_all P x y p q (suc (suc k)) d h = absurd (omega (arith, h))

pub all_before : {X : Type 0} (P : X → Type 0) (xs ys : List X) → All P (xs ++ ys) → All P xs
all_before P xs ys all k d h =
    let len : length (xs ++ ys) ≡ length xs + length ys = length-append xs ys in
    subst P (get_or-append xs ys d k h) (all k d (omega (arith, len, h)))

pub all_after : {X : Type 0} (P : X → Type 0) (xs ys : List X) → All P (xs ++ ys) → All P ys
all_after P [] ys all k d h = all k d h
all_after P (x ∷ xs) ys all k d h = all_after P xs ys (λ j e lt. all (suc j) e (omega (arith, lt))) k d h

pub all_split : {X : Type 0} (P : X → Type 0) (xs : List X) (x : X) → All P (xs ++ x ∷ []) → All P xs × P x
all_split P xs x all =
    let len : length (xs ++ x ∷ []) ≡ length xs + 1 = length-append xs (x ∷ []) in (
      λ k d h. subst P (get_or-append xs (x ∷ []) d k h) (all k d (omega (arith, len, h))),
      subst P (get_or-append_seam xs x [] x) (all (length xs) x (omega (arith, len))),
    )

module _ (table : Table) (first : ℕ) (ms : List Mark) (cs : List ℕ) (ps : List Pair) where
  -- the mark of a token changes
  pub mark_fits : (t : ℕ) (m : Mark) → is_mark m (at table t) ≡ true → Fits table first ms cs ps
      → Fits table first (slice_set ms t m) cs ps
  mark_fits t m is f =
      let len : length (slice_set ms t m) ≡ length ms = length-set ms t m in
      record {
        statics = f.statics;
        marks = λ u h.
            let below : u < length ms = omega (arith, len, h) in
            elim (cases_eq u t) [
              | inl e ↦ subst (λ w. is_mark (get_or (slice_set ms t m) w IsNull) (at table w) ≡ true) (sym e)
                  (let lt : t < length ms = omega (arith, e, below) in
                  subst (λ k. is_mark k (at table t) ≡ true) (sym (get_or-set_same ms t m IsNull lt)) is)
              | inr ne ↦ subst (λ k. is_mark k (at table u) ≡ true) (sym (get_or-set_other ms t u m IsNull ne))
                  (f.marks u below)
            ];
        classes = λ u h. f.classes u (omega (arith, len, h));
        others = f.others;
      }

  pub mark_back : (t : ℕ) (m old : Mark) → t < length ms → get_or ms t IsNull ≡ old
      → (is_mark m (at table t) ≡ true → is_mark old (at table t) ≡ true)
      → Fits table first (slice_set ms t m) cs ps → Fits table first ms cs ps × (is_mark m (at table t) ≡ true)
  mark_back t m old lt was weaker f =
      let len : length (slice_set ms t m) ≡ length ms = length-set ms t m in
      let is : is_mark m (at table t) ≡ true = subst (λ k. is_mark k (at table t) ≡ true)
      (get_or-set_same ms t m IsNull lt) (f.marks t (omega (arith, len, lt))) in (
        record {
          statics = f.statics;
          marks = λ u h. elim (cases_eq u t) [
            | inl e ↦ subst (λ w. is_mark (get_or ms w IsNull) (at table w) ≡ true) (sym e)
                (subst (λ k. is_mark k (at table t) ≡ true) (sym was) (weaker is))
            | inr ne ↦ subst (λ k. is_mark k (at table u) ≡ true) (get_or-set_other ms t u m IsNull ne)
                (f.marks u (omega (arith, len, h)))
          ];
          classes = λ u h. f.classes u (omega (arith, len, h));
          others = f.others;
        },
        is,
      )

  -- a token comes in
  pub arrives : (m : Mark) → length cs ≡ length ms → is_mark m (at table (length ms)) ≡ true
      → Fits table first ms cs ps → Fits table first (ms ++ m ∷ []) (cs ++ length ms ∷ []) ps
  arrives m long is f =
      let len : length (ms ++ m ∷ []) ≡ length ms + 1 = length-append ms (m ∷ []) in
      record {
        statics = f.statics;
        marks = λ u h. elim (cases_eq u (length ms)) [
          | inl e ↦ subst (λ w. is_mark (get_or (ms ++ m ∷ []) w IsNull) (at table w) ≡ true) (sym e)
              (subst (λ k. is_mark k (at table (length ms)) ≡ true) (sym (get_or-append_seam ms m [] IsNull)) is)
          | inr ne ↦ let below : u < length ms = omega (arith, len, h, ne) in
              subst (λ k. is_mark k (at table u) ≡ true) (sym (get_or-append ms (m ∷ []) IsNull u below))
              (f.marks u below)
        ];
        classes = λ u h. elim (cases_eq u (length ms)) [
          | inl e ↦ subst (λ w. at table (class_of (cs ++ length ms ∷ []) w) ≡ at table w) (sym (e ∙ sym long))
              (ap (at table) (get_or-append_seam cs (length ms) [] 0 ∙ sym long))
          | inr ne ↦ let below : u < length ms = omega (arith, len, h, ne) in
              let there : u < length cs = omega (arith, below, long) in
              ap (at table) (get_or-append cs (length ms ∷ []) 0 u there) ∙ f.classes u below
        ];
        others = f.others;
      }

  pub arrives_back : (m : Mark) → length cs ≡ length ms → Fits table first (ms ++ m ∷ []) (cs ++ length ms ∷ []) ps
      → Fits table first ms cs ps × (is_mark m (at table (length ms)) ≡ true)
  arrives_back m long f =
      let len : length (ms ++ m ∷ []) ≡ length ms + 1 = length-append ms (m ∷ []) in (
        record {
          statics = f.statics;
          marks = λ u h. subst (λ k. is_mark k (at table u) ≡ true) (get_or-append ms (m ∷ []) IsNull u h)
              (f.marks u (omega (arith, len, h)));
          classes = λ u h. let there : u < length cs = omega (arith, h, long) in
              sym (ap (at table) (get_or-append cs (length ms ∷ []) 0 u there)) ∙ f.classes u (omega (arith, len, h));
          others = f.others;
        },
        subst (λ k. is_mark k (at table (length ms)) ≡ true) (get_or-append_seam ms m [] IsNull)
            (f.marks (length ms) (omega (arith, len))),
      )

  at_redirect : (c d e : ℕ) → at table c ≡ at table d → at table (redirect c d e) ≡ at table e
  at_redirect c d e same = elim (eqb_tells e d) [
    | inl w ↦ ap (λ b. at table (cond b c e)) w.0 ∙ same ∙ ap (at table) (sym w.1)
    | inr w ↦ ap (λ b. at table (cond b c e)) w.0
  ]

  -- two classes are merged
  pub merges : (c d : ℕ) → length cs ≡ length ms → at table c ≡ at table d → Fits table first ms cs ps
      → Fits table first ms (map (redirect c d) cs) ps
  merges c d long one f = record {
    statics = f.statics;
    marks = f.marks;
    classes = λ w h. let there : w < length cs = omega (arith, h, long) in
        ap (at table) (get_or-map (redirect c d) cs w 0 0 there) ∙ at_redirect c d (class_of cs w) one ∙ f.classes w h;
    others = f.others;
  }

  redirect_from : (c d e : ℕ) → e ≡ d → redirect c d e ≡ c
  redirect_from c d e same = ap (λ b. cond b c e) (eq-eqb e d same)

  pub merges_back : (c d : ℕ) → length cs ≡ length ms → d < length ms → class_of cs d ≡ d
      → Fits table first ms (map (redirect c d) cs) ps → Fits table first ms cs ps × (at table c ≡ at table d)
  merges_back c d long lt stands f =
      let moved : (w : ℕ) → w < length ms → at table (redirect c d (class_of cs w)) ≡ at table w =
      λ w h. let there : w < length cs = omega (arith, h, long) in
      sym (ap (at table) (get_or-map (redirect c d) cs w 0 0 there)) ∙ f.classes w h in
      let cd : at table c ≡ at table d = ap (at table) (sym (redirect_from c d (class_of cs d) stands))
      ∙ moved d lt in (
        record {
          statics = f.statics;
          marks = f.marks;
          classes = λ w h. sym (at_redirect c d (class_of cs w) cd)
              ∙ moved w h;
          others = f.others;
        },
        cd,
      )

  -- two tokens are different objects
  pub parts_fit : (t u : ℕ) → (at table t ≡ at table u → ⊥) → Fits table first ms cs ps
      → Fits table first ms cs (ps ++ (record { a = t; b = u }) ∷ [])
  parts_fit t u ne f = record {
    statics = f.statics;
    marks = f.marks;
    classes = f.classes;
    others = All-append (λ p. at table p.a ≡ at table p.b → ⊥) ps ((record { a = t; b = u }) ∷ []) f.others
        (one_all (λ p. at table p.a ≡ at table p.b → ⊥) (record { a = t; b = u }) ne);
  }

  pub parts_back : (t u : ℕ) → Fits table first ms cs (ps ++ (record { a = t; b = u }) ∷ [])
      → Fits table first ms cs ps × (at table t ≡ at table u → ⊥)
  parts_back t u f =
      let both = all_split (λ p. at table p.a ≡ at table p.b → ⊥) ps (record { a = t; b = u }) f.others in
      (record { statics = f.statics; marks = f.marks; classes = f.classes; others = both.0 }, both.1)
