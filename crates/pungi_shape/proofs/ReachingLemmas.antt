-- A walk over the functions that a function reaches by calls.
--   IsReaching codes f marks list i    functions of a list are marked, and no others; they are reached; and the first
--                           so many call only such ones
use Rattle.std.proofs.Common.{◌≡◌, ◌∙◌, inl, inr, ℕ, zero, suc, ◌+◌, ◌*◌, ◌<◌, ◌≤◌, Bool, true, false, cond, List}
use Rattle.std.proofs.Common.{[], ◌∷◌, ◌++◌, length, replicate, slice_get, Some, refl, sym, ap, subst, arith}
use Rattle.std.proofs.Common.{append-nil, append_assoc}
use Rattle.std.specs.Prelude.{get_or, slice_set}
use Rattle.std.specs.List.{All, IsAmong, flat_map}
use Rattle.std.proofs.lemmas.Bool.{cases_eq, cases_lt}
use Rattle.std.proofs.lemmas.List.{get_or-replicate, length-append, length-replicate}
use Rattle.std.proofs.lemmas.List.{length-set}
use Rattle.std.proofs.lemmas.List.Folds.{sum_by-replicate}
use Rattle.std.proofs.lemmas.List.Sums.{sum_by-le, sum_by-set}
use Rattle.std.proofs.lemmas.Option.{get_or_from_slice_get, slice_get-get_or, slice_get_within}
use Rattle.pungi_code.specs.declared.code.Codes.{Codes}
use Rattle.pungi_links.specs.Ring.{Stands}
use Rattle.pungi_shape.specs.Named.{callees_of, functions_from, functions_within}
use Rattle.pungi_shape.specs.Reaching.{AreFrom, IsAdded, IsMarked, marked_count}
use Rattle.pungi_shape.proofs.CallerLemmas.{stands-at, stands-left, stands-right, stands-split}
use Rattle.pungi_shape.proofs.sound.InOrder.{among_some, numbers_only}
use Rattle.pungi_shape.proofs.sound.Members.{among_append, among_left, among_right, first_among, later_among}
use Rattle.pungi_shape.proofs.sound.Members.{nothing_in, one_of}
use Rattle.pungi_shape.proofs.sound.Reaches.{from_call, from_itself}

-- ---- numbers that stand in a list are among it

pub stands-among : (x : ℕ) (xs : List ℕ) → Stands x xs → IsAmong xs x
stands-among x [] h = absurd h
stands-among x (y ∷ xs) (inl e) = (0, (omega arith, e))
stands-among x (y ∷ xs) (inr h) = later_among y xs x (stands-among x xs h)

pub among-stands : (x : ℕ) (xs : List ℕ) → IsAmong xs x → Stands x xs
among-stands x [] there = nothing_in x there
among-stands x (y ∷ xs) there = elim (one_of y xs x there) [
  | inl e ↦ inl e
  | inr later ↦ inr (among-stands x xs later)
]

pub stands-get : (x : ℕ) (xs : List ℕ) → Stands x xs → (k : ℕ) × (slice_get xs k ≡ Some x)
stands-get x [] h = absurd h
stands-get x (y ∷ xs) (inl e) = (0, ap Some (sym e))
stands-get x (y ∷ xs) (inr h) = (let s = stands-get x xs h in (suc s.0, s.1))

-- ---- marks

mark-same : (marks : List Bool) (g : ℕ) → g < length marks → IsMarked (slice_set marks g true) g
mark-same [] g lt = absurd (omega (arith, lt))
mark-same (b ∷ marks) zero lt = refl
mark-same (b ∷ marks) (suc g) lt = mark-same marks g (omega (arith, lt))

mark-other : (marks : List Bool) (g h : ℕ) → (h ≡ g → ⊥)
    → slice_get (slice_set marks g true) h ≡ slice_get marks h
mark-other [] g h differ = refl
mark-other (b ∷ marks) zero zero differ = absurd (differ refl)
mark-other (b ∷ marks) zero (suc h) differ = refl
mark-other (b ∷ marks) (suc g) zero differ = refl
mark-other (b ∷ marks) (suc g) (suc h) differ = mark-other marks g h (λ e. differ (ap suc e))

no-mark : (n g : ℕ) → IsMarked (replicate n false) g → ⊥
no-mark n g marked =
    let lt = slice_get_within (replicate n false) g true marked in
    let long : length (replicate n false) ≡ n = length-replicate n false in
    let there : get_or (replicate n false) g true ≡ true =
    get_or_from_slice_get (replicate n false) g true true marked in
    let none : get_or (replicate n false) g true ≡ false = get_or-replicate n g false true (omega (arith, lt, long)) in
    absurd (cc)

-- ---- functions that are added

pub added-none : (marks : List Bool) (list : List ℕ) → IsAdded [] marks marks list list
added-none marks list = record {
  count = refl;
  kept = λ g m. m;
  there = λ g here. absurd (nothing_in g here);
  only = λ g m. inl m;
  new = [];
  added = sym (append-nil list);
  each = λ g s. absurd s;
  all = λ g m. inl m;
  once = refl;
}

pub added-before : (g : ℕ) (marks : List Bool) (list : List ℕ) → IsMarked marks g
    → IsAdded (g ∷ []) marks marks list list
added-before g marks list marked = record {
  count = refl;
  kept = λ h m. m;
  there = λ h here. elim (one_of g [] h here) [
    | inl e ↦ subst (IsMarked marks) (sym e) marked
    | inr rest ↦ absurd (nothing_in h rest)
  ];
  only = λ h m. inl m;
  new = [];
  added = sym (append-nil list);
  each = λ h s. absurd s;
  all = λ h m. inl m;
  once = refl;
}

pub added-now : (g : ℕ) (marks : List Bool) (list : List ℕ) → g < length marks → get_or marks g false ≡ false
    → IsAdded (g ∷ []) marks (slice_set marks g true) list (list ++ g ∷ [])
added-now g marks list lt unmarked =
    let was : slice_get marks g ≡ Some false = slice_get-get_or marks g false lt ∙ ap Some unmarked in
    let same = mark-same marks g lt in
    let counts = sum_by-set (λ b. cond b 1 0) marks g true false lt in
    let of_mark : Bool → ℕ = λ b. cond b 1 0 in
    let zero_was : of_mark (get_or marks g false) ≡ 0 = ap of_mark unmarked in
    let longer = length-append list (g ∷ []) in
    record {
      count = length-set marks g true;
      kept = λ h m. elim (cases_eq h g) [
        | inl e ↦ subst (IsMarked (slice_set marks g true)) (sym e) same
        | inr differ ↦ mark-other marks g h differ ∙ m
      ];
      there = λ h here. elim (one_of g [] h here) [
        | inl e ↦ subst (IsMarked (slice_set marks g true)) (sym e) same
        | inr rest ↦ absurd (nothing_in h rest)
      ];
      only = λ h m. elim (cases_eq h g) [
        | inl e ↦ inr (0, (omega arith, e))
        | inr differ ↦ inl (sym (mark-other marks g h differ) ∙ m)
      ];
      new = g ∷ [];
      added = refl;
      each = λ h s. elim s [
        | inl e ↦ (
          λ m. let at : IsMarked marks g = subst (IsMarked marks) e m in absurd (cc (at, was)),
          subst (IsMarked (slice_set marks g true)) (sym e) same,
        )
        | inr rest ↦ absurd rest
      ];
      all = λ h m. elim (cases_eq h g) [
        | inl e ↦ inr (inl e)
        | inr differ ↦ inl (sym (mark-other marks g h differ) ∙ m)
      ];
      once = omega (arith, counts, zero_was, longer);
    }

pub added-append : (gs hs : List ℕ) (a b c : List Bool) (l m n : List ℕ) → IsAdded gs a b l m → IsAdded hs b c m n
    → IsAdded (gs ++ hs) a c l n
added-append gs hs a b c l m n one two = record {
  count = two.count ∙ one.count;
  kept = λ g marked. two.kept g (one.kept g marked);
  there = λ g here. elim (among_append gs hs g here) [
    | inl first ↦ two.kept g (one.there g first)
    | inr second ↦ two.there g second
  ];
  only = λ g marked. elim (two.only g marked) [
    | inl before ↦ elim (one.only g before) [
      | inl old ↦ inl old
      | inr first ↦ inr (among_left gs hs g first)
    ]
    | inr second ↦ inr (among_right gs hs g second)
  ];
  new = one.new ++ two.new;
  added = two.added ∙ ap (λ xs. xs ++ two.new) one.added ∙ append_assoc l one.new two.new;
  each = λ g s. elim (stands-split g one.new two.new s) [
    | inl first ↦ let h = one.each g first in (h.0, two.kept g h.1)
    | inr second ↦ let h = two.each g second in (λ marked. h.0 (one.kept g marked), h.1)
  ];
  all = λ g marked. elim (two.all g marked) [
    | inl before ↦ elim (one.all g before) [
      | inl old ↦ inl old
      | inr first ↦ inr (stands-left g one.new two.new first)
    ]
    | inr second ↦ inr (stands-right g one.new two.new second)
  ];
  once = (let x = one.once in let y = two.once in omega (arith, x, y));
}

-- the same functions in another list
pub added-as : (gs hs : List ℕ) (a b : List Bool) (l m : List ℕ) → ((g : ℕ) → IsAmong hs g → IsAmong gs g)
    → ((g : ℕ) → IsAmong gs g → IsAmong hs g) → IsAdded gs a b l m → IsAdded hs a b l m
added-as gs hs a b l m to from added = record {
  count = added.count;
  kept = added.kept;
  there = λ g here. added.there g (to g here);
  only = λ g marked. elim (added.only g marked) [ inl old ↦ inl old | inr here ↦ inr (from g here) ];
  new = added.new;
  added = added.added;
  each = added.each;
  all = added.all;
  once = added.once;
}

-- ---- the walk

pub record IsReaching (codes : Codes) (f : ℕ) (marks : List Bool) (list : List ℕ) (i : ℕ) : Type 0 where
  pub count : length marks ≡ length codes.codes
  pub first : IsMarked marks f
  pub listed : (g : ℕ) → IsMarked marks g → Stands g list
  pub marked : (g : ℕ) → Stands g list → IsMarked marks g
  pub once : length list ≡ marked_count marks
  pub only : (g : ℕ) → Stands g list → IsAmong (functions_from codes f) g
  pub closed : (j g h : ℕ) → j < i → slice_get list j ≡ Some g → IsAmong (callees_of codes g) h → IsMarked marks h
  pub within : i ≤ length list

pub reaching-first : (codes : Codes) (f : ℕ) (marks : List Bool) (list : List ℕ)
    → IsAdded (f ∷ []) (replicate (length codes.codes) false) marks [] list → IsReaching codes f marks list 0
reaching-first codes f marks list added =
    let n = length codes.codes in
    let none : List ℕ = [] in
    let long : length (replicate n false) ≡ n = length-replicate n false in
    let count = added.count in
    let zeros : marked_count (replicate n false) ≡ n * 0 = sum_by-replicate (λ b. cond b 1 0) n false in
    let once = added.once in
    record {
      count = count ∙ long;
      first = added.there f (first_among f none);
      listed = λ g m. elim (added.all g m) [
        | inl old ↦ absurd (no-mark n g old)
        | inr new ↦ subst (Stands g) (sym added.added) new
      ];
      marked = λ g s. (added.each g (subst (Stands g) added.added s)).1;
      once = omega (arith, once, zeros);
      only = λ g s.
          elim (added.only g (added.each g (subst (Stands g) added.added s)).1) [
            | inl old ↦ absurd (no-mark n g old)
            | inr here ↦ elim (one_of f none g here) [
              | inl e ↦ subst (IsAmong (functions_from codes f)) (sym e) (from_itself codes f)
              | inr rest ↦ absurd (nothing_in g rest)
            ]
          ];
      closed = λ j g h lt at called. absurd (omega (arith, lt));
      within = omega arith;
    }

get-left : (xs ys : List ℕ) (k : ℕ) → k < length xs → slice_get (xs ++ ys) k ≡ slice_get xs k
get-left [] ys k lt = absurd (omega (arith, lt))
get-left (x ∷ xs) ys zero lt = refl
get-left (x ∷ xs) ys (suc k) lt = get-left xs ys k (omega (arith, lt))

pub reaching-more : (codes : Codes) (f : ℕ) (marks marks' : List Bool) (list list' : List ℕ) (i g : ℕ)
    → IsReaching codes f marks list i → slice_get list i ≡ Some g
    → IsAdded (callees_of codes g) marks marks' list list' → IsReaching codes f marks' list' (i + 1)
reaching-more codes f marks marks' list list' i g now at added =
    let lt = slice_get_within list i g at in
    let longer : length list' ≡ length list + length added.new =
    ap length added.added ∙ length-append list added.new in
    let once = added.once in
    let before = now.once in
    let here : IsAmong (functions_from codes f) g = now.only g (stands-at list i g at) in
    record {
      count = added.count ∙ now.count;
      first = added.kept f now.first;
      listed = λ h m. elim (added.all h m) [
        | inl old ↦ subst (Stands h) (sym added.added) (stands-left h list added.new (now.listed h old))
        | inr new ↦ subst (Stands h) (sym added.added) (stands-right h list added.new new)
      ];
      marked = λ h s. elim (stands-split h list added.new (subst (Stands h) added.added s)) [
        | inl old ↦ added.kept h (now.marked h old)
        | inr new ↦ (added.each h new).1
      ];
      once = omega (arith, once, before);
      only = λ h s. elim (stands-split h list added.new (subst (Stands h) added.added s)) [
        | inl old ↦ now.only h old
        | inr new ↦ elim (added.only h (added.each h new).1) [
          | inl marked ↦ absurd ((added.each h new).0 marked)
          | inr called ↦ from_call codes f g h here called
        ]
      ];
      closed = λ j k h less there called.
          let old : slice_get list j ≡ Some k =
          sym (get-left list added.new j (omega (arith, less, lt))) ∙ ap (λ xs. slice_get xs j) (sym added.added)
          ∙ there in
          elim (cases_lt j i) [
            | inl earlier ↦ added.kept h (now.closed j k h earlier old called)
            | inr last ↦
                let now_at : j ≡ i = omega (arith, less, last) in
                let there_at : slice_get list i ≡ Some k = subst (λ n. slice_get list n ≡ Some k) now_at old in
                let same : k ≡ g = cc (there_at, at) in
                added.there h (subst (λ n. IsAmong (callees_of codes n) h) same called)
          ];
      within = omega (arith, longer, lt);
    }

-- where each of so many functions was looked at, there are no more
pub reaching-all : (codes : Codes) (f : ℕ) (marks : List Bool) (list : List ℕ) (i : ℕ)
    → IsReaching codes f marks list i → length codes.codes ≤ i → i ≡ length list
reaching-all codes f marks list i now le =
    let most = sum_by-le (λ b. cond b 1 0) 1 marks (λ k d lt. at_most (get_or marks k d)) in
    let once = now.once in
    let count = now.count in
    let within = now.within in
    omega (arith, most, once, count, within, le)
  where
    at_most : (b : Bool) → cond b 1 0 ≤ 1
    at_most true = omega arith
    at_most false = omega arith

pub reaching-below : (codes : Codes) (f : ℕ) (marks : List Bool) (list : List ℕ) (i : ℕ)
    → IsReaching codes f marks list i → All (λ g. g < length codes.codes) list
reaching-below codes f marks list i now k d lt =
    let g = get_or list k d in
    let marked = now.marked g (stands-at list k g (slice_get-get_or list k d lt)) in
    let below = slice_get_within marks g true marked in
    let count = now.count in
    omega (arith, below, count)

-- the function that a walk looks at next
pub reaching-here : (codes : Codes) (f : ℕ) (marks : List Bool) (list : List ℕ) (i g : ℕ)
    → IsReaching codes f marks list i → i < length list → g ≡ get_or list i g → g < length codes.codes
reaching-here codes f marks list i g now lt is =
    subst (λ h. h < length codes.codes) (sym is) (reaching-below codes f marks list i now i g lt)

module _ (codes : Codes) (f : ℕ) (marks : List Bool) (list : List ℕ) (now : IsReaching codes f marks list (length list))
  where
    called-listed : (g h : ℕ) → Stands g list → IsAmong (callees_of codes g) h → Stands h list
    called-listed g h s called =
        let at = stands-get g list s in
        now.listed h (now.closed at.0 g h (slice_get_within list at.0 g at.1) at.1 called)

    within-listed : (n g h : ℕ) → Stands g list → IsAmong (functions_within codes n g) h → Stands h list
    within-listed zero g h s there = elim (one_of g [] h there) [
      | inl e ↦ subst (λ k. Stands k list) (sym e) s
      | inr rest ↦ absurd (nothing_in h rest)
    ]
    within-listed (suc n) g h s there =
        elim (one_of g (flat_map (functions_within codes n) (callees_of codes g)) h there) [
          | inl e ↦ subst (λ k. Stands k list) (sym e) s
          | inr rest ↦
              let some = among_some (functions_within codes n) (callees_of codes g) h rest in
              within-listed n some.0 h (called-listed g some.0 s some.1.0) some.1.1
        ]

    reaching-from : AreFrom codes f list
    reaching-from = record {
      there = λ g there. stands-among g list (within-listed (length codes.codes) f g (now.listed f now.first)
          (numbers_only (functions_within codes (length codes.codes) f) g there));
      only = λ g there. now.only g (among-stands g list there);
    }

pub reaching-end : (codes : Codes) (f : ℕ) (marks : List Bool) (list : List ℕ) (i : ℕ)
    → IsReaching codes f marks list i → i ≡ length list → AreFrom codes f list
reaching-end codes f marks list i now e =
    reaching-from codes f marks list (subst (IsReaching codes f marks list) e now)
