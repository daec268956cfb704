-- Values that others are taken in.
--   AreGrownBelow, grown_none, grown_more, grown_all    the values of exit classes as far as they were made
--   AreNoneBelow, none_none, none_more, none_all    the values of no vectors so
use Rattle.std.proofs.Common.{◌≡◌, ◌∙◌, inl, inr, ℕ, ◌+◌, ◌<◌, ◌≤◌, Bool, true, false, ◌||◌, List, [], ◌∷◌, ◌++◌}
use Rattle.std.proofs.Common.{length}
use Rattle.std.proofs.Common.{Option, Some, refl, sym, ap, subst, arith, take, pos, get_or, ℤ}
use Rattle.std.specs.Prelude.{slice_get}
use Rattle.std.specs.List.{slice_index_or}
use Rattle.std.proofs.lemmas.Bool.{cases_lt}
use Rattle.std.proofs.lemmas.List.{take_more}
use Rattle.std.proofs.lemmas.List.Sums.{sum_by-append, sum_by_more}
use Rattle.std.proofs.lemmas.Option.{slice_get_within, get_or_from_slice_get}
use Rattle.pungi_domain.specs.Builds.{Covers}
use Rattle.pungi_domain.specs.Spans.{Zero}
use Rattle.pungi_domain.specs.Vectors.{Vectors, Follows}
use Rattle.pungi_summary.specs.Results.{AreNone}
use Rattle.pungi_summary.specs.Values.{AreGrown, IsGrown, exits_room, room_of}
use Rattle.pungi_summary.proofs.Lists.{get_kept, get_last, get_push, length_more}

pub record AreGrownBelow {D : Type 0} (least : Bool) (member : D → Vectors) (width rank : D → ℕ)
    (old : List (Option D)) (added : List D) (n : ℕ) (new : List (Option D)) (grew : Bool) : Type 0 where
  pub count : length new ≡ n
  pub each : (c : ℕ) (d a : D) → c < n → slice_get old c ≡ Some (Some d) → slice_get added c ≡ Some a
      → (s : D) × (slice_get new c ≡ Some (Some s)) × IsGrown least member width d a s
  pub room : exits_room width rank new ≤ exits_room width rank (take n old)
  pub rose : grew ≡ true → exits_room width rank new < exits_room width rank (take n old)
  pub unchanged : grew ≡ false → new ≡ take n old

module _ {D : Type 0} (least : Bool) (member : D → Vectors) (width rank : D → ℕ) (old : List (Option D))
    (added : List D) where
  pub grown_none : AreGrownBelow least member width rank old added 0 [] false
  grown_none = record {
    count = refl;
    each = λ c d a lt. absurd (omega (arith, lt));
    room = omega arith;
    rose = λ e. absurd (cc);
    unchanged = λ e. refl;
  }

  pub grown_more : (n : ℕ) (d a s : D) (new : List (Option D)) (before grew after : Bool) → after ≡ (before || grew)
      → slice_get old n ≡ Some (Some d) → slice_get added n ≡ Some a → IsGrown least member width d a s
      → (grew ≡ true → room_of width rank (Some s) < room_of width rank (Some d)) → (grew ≡ false → s ≡ d)
      → AreGrownBelow least member width rank old added n new before
      → AreGrownBelow least member width rank old added (n + 1) (new ++ Some s ∷ []) after
  grown_more n d a s new before grew after after_is d_is a_is grown rose same h =
      let count = h.count in
      let lt = slice_get_within old n (Some d) d_is in
      let at : get_or old n (Some d) ≡ Some d = get_or_from_slice_get old n (Some d) (Some d) d_is in
      let sum_new = sum_by-append (room_of width rank) new (Some s ∷ []) in
      let sum_old = sum_by_more (room_of width rank) old n (Some d) lt in
      let room_at : room_of width rank (get_or old n (Some d)) ≡ room_of width rank (Some d) =
      ap (room_of width rank) at in
      record {
        count = length_more new (Some s) ∙ ap (λ k. k + 1) count;
        each = λ c x y below x_is y_is. elim (cases_lt c n) [
          | inl less ↦ let e = h.each c x y less x_is y_is in (e.0, get_kept new (Some s) (Some e.0) c e.1, e.2)
          | inr from ↦
              let number : c ≡ n = omega arith in
              let x_at = subst (λ i. slice_get old i ≡ Some (Some x)) number x_is in
              let y_at = subst (λ i. slice_get added i ≡ Some y) number y_is in
              let x_same : d ≡ x = cc (x_at, d_is) in
              let y_same : a ≡ y = cc (y_at, a_is) in
              let last : c ≡ length new = omega (arith, number, count) in (
                s,
                subst (λ i. slice_get (new ++ Some s ∷ []) i ≡ Some (Some s)) (sym last) (get_last new (Some s)),
                subst (λ z. IsGrown least member width z y s) x_same
                    (subst (λ z. IsGrown least member width d z s) y_same grown),
              )
        ];
        room = room_le grew rose same h.room sum_new sum_old room_at;
        rose = λ is. rose_lt before grew rose same h.room h.rose sum_new sum_old room_at (sym after_is ∙ is);
        unchanged = λ is. stays before grew same h.unchanged lt at (sym after_is ∙ is);
      }
    where
      room_le : (grew : Bool) → (grew ≡ true → room_of width rank (Some s) < room_of width rank (Some d))
          → (grew ≡ false → s ≡ d) → exits_room width rank new ≤ exits_room width rank (take n old)
          → exits_room width rank (new ++ Some s ∷ []) ≡ exits_room width rank new + (0 + room_of width rank (Some s))
          → exits_room width rank (take (n + 1) old)
          ≡ exits_room width rank (take n old) + room_of width rank (get_or old n (Some d))
          → room_of width rank (get_or old n (Some d)) ≡ room_of width rank (Some d)
          → exits_room width rank (new ++ Some s ∷ []) ≤ exits_room width rank (take (n + 1) old)
      room_le true rose same le a b r = (let lt = rose refl in omega (arith, lt, le, a, b, r))
      room_le false rose same le a b r =
          let e = ap (λ x. room_of width rank (Some x)) (same refl) in
          omega (arith, e, le, a, b, r)

      rose_lt : (before grew : Bool) → (grew ≡ true → room_of width rank (Some s) < room_of width rank (Some d))
          → (grew ≡ false → s ≡ d) → exits_room width rank new ≤ exits_room width rank (take n old)
          → (before ≡ true → exits_room width rank new < exits_room width rank (take n old))
          → exits_room width rank (new ++ Some s ∷ []) ≡ exits_room width rank new + (0 + room_of width rank (Some s))
          → exits_room width rank (take (n + 1) old)
          ≡ exits_room width rank (take n old) + room_of width rank (get_or old n (Some d))
          → room_of width rank (get_or old n (Some d)) ≡ room_of width rank (Some d)
          → (before || grew) ≡ true
          → exits_room width rank (new ++ Some s ∷ []) < exits_room width rank (take (n + 1) old)
      rose_lt before true rose same le more a b r is = (let lt = rose refl in omega (arith, lt, le, a, b, r))
      rose_lt true false rose same le more a b r is =
          let e = ap (λ x. room_of width rank (Some x)) (same refl) in
          let lt = more refl in
          omega (arith, e, lt, a, b, r)
      rose_lt false false rose same le more a b r is = absurd (cc)

      stays : (before grew : Bool) → (grew ≡ false → s ≡ d) → (before ≡ false → new ≡ take n old) → n < length old
          → get_or old n (Some d) ≡ Some d → (before || grew) ≡ false → new ++ Some s ∷ [] ≡ take (n + 1) old
      stays true grew same so lt at is = absurd (cc)
      stays false true same so lt at is = absurd (cc)
      stays false false same so lt at is =
          ap (λ (xs : List (Option D)). xs ++ Some s ∷ []) (so refl)
          ∙ (ap (λ (x : Option D). take n old ++ x ∷ []) (ap Some (same refl) ∙ sym at)
          ∙ sym (take_more old n (Some d) lt))

  pub grown_all : (n : ℕ) (new : List (Option D)) (grew : Bool) → length added ≡ n
      → AreGrownBelow least member width rank old added n new grew → AreGrown least member width old added new
  grown_all n new grew count h = record {
    count = h.count ∙ sym count;
    each = λ c d a d_is a_is.
        let lt = slice_get_within added c a a_is in
        h.each c d a (omega (arith, lt, count)) d_is a_is;
  }

pub record AreNoneBelow {D : Type 0} (least : Bool) (member : D → Vectors) (width : D → ℕ) (ws : List ℕ) (n : ℕ)
    (ds : List (Option D)) : Type 0 where
  pub count : length ds ≡ n
  pub each : (c : ℕ) → c < n
      → (d : D) × (slice_get ds c ≡ Some (Some d)) × (width d ≡ slice_index_or ws c 0)
  pub none : (c : ℕ) (d : D) → slice_get ds c ≡ Some (Some d)
      → Covers least (slice_index_or ws c 0) (Zero (slice_index_or ws c 0)) (member d)

module _ {D : Type 0} (least : Bool) (member : D → Vectors) (width : D → ℕ) (ws : List ℕ) where
  pub none_none : AreNoneBelow least member width ws 0 []
  none_none = record {
    count = refl;
    each = λ c lt. absurd (omega (arith, lt));
    none = λ c d is. absurd (cc);
  }

  pub none_more : (n w : ℕ) (ds : List (Option D)) (d : D)
      → ((s : D) (u v : ℕ → ℤ) → ((i : ℕ) → i < width s → v i ≡ u i) → member s u → member s v)
      → ((s : D) → member s (λ _. pos 0)) → w ≡ slice_index_or ws n 0 → width d ≡ w
      → (least ≡ true → Follows w (Zero w) (member d)) → AreNoneBelow least member width ws n ds
      → AreNoneBelow least member width ws (n + 1) (ds ++ Some d ∷ [])
  none_more n w ds d same zero w_is d_wide follows h =
      let count = h.count in
      let covers : Covers least w (Zero w) (member d) = (
        λ v z. same d (λ _. pos 0) v (λ i lt. z i (omega (arith, lt, d_wide))) (zero d),
        follows,
      ) in
      record {
        count = length_more ds (Some d) ∙ ap (λ k. k + 1) count;
        each = λ c lt. elim (cases_lt c n) [
          | inl less ↦ let e = h.each c less in (e.0, get_kept ds (Some d) (Some e.0) c e.1, e.2)
          | inr from ↦
              let number : c ≡ n = omega arith in
              let last : c ≡ length ds = omega (arith, number, count) in (
                d,
                subst (λ i. slice_get (ds ++ Some d ∷ []) i ≡ Some (Some d)) (sym last) (get_last ds (Some d)),
                d_wide ∙ (w_is ∙ ap (λ i. slice_index_or ws i 0) (sym number)),
              )
        ];
        none = λ c x is. elim (get_push ds (Some d) c (Some x) is) [
          | inl old ↦ h.none c x old
          | inr this ↦
              let its = this.1 in
              let same_value : d ≡ x = cc in
              let number : n ≡ c = sym (this.0 ∙ count) in
              subst (λ y. Covers least (slice_index_or ws c 0) (Zero (slice_index_or ws c 0)) (member y)) same_value
              (subst (λ i. Covers least (slice_index_or ws i 0) (Zero (slice_index_or ws i 0)) (member d)) number
              (subst (λ k. Covers least k (Zero k) (member d)) w_is covers))
        ];
      }

  pub none_all : (n : ℕ) (ds : List (Option D)) → length ws ≡ n → AreNoneBelow least member width ws n ds
      → AreNone least member width ws ds
  none_all n ds count h = record {
    values = record {
      count = h.count ∙ sym count;
      each = λ c lt. h.each c (omega (arith, lt, count));
    };
    none = h.none;
  }

pub or_true : (b c : Bool) → b ≡ true → true ≡ (b || c)
or_true true c is = refl
or_true false c is = absurd (cc)

pub or_false : (b c : Bool) → b ≡ false → c ≡ (b || c)
or_false false c is = refl
or_false true c is = absurd (cc)
