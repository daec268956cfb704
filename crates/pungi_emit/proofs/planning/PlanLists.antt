-- What is left of a plan.
use Rattle.std.proofs.Common.{◌≡◌, ℕ, ◌+◌, ◌≤◌, List, [], ◌∷◌, ◌++◌, length, take, drop, replicate, refl, sym, ap, ◌∙◌}
use Rattle.std.proofs.Common.{arith, append_assoc, length-append}
use Rattle.std.proofs.lemmas.List.{take_at, drop_at, append_cancel_left, map-append, length-replicate}
use Rattle.pungi_emit.specs.declared.planning.scope.Placed.{Placed}
use Rattle.pungi_emit.specs.planning.Plans.{names_of, places_of, Begins}

-- ---- room

-- the room is there
pub room_is_there : (p0 p1 p2 xs : List ℕ) (i n m : ℕ) → p1 ≡ p0 ++ replicate n 0 → i ≡ length p0 → p2 ≡ p1 ++ xs
    → m ≡ n → i + m ≤ length p2
room_is_there p0 p1 p2 xs i n m e h f k =
    let a : length p2 ≡ length p1 + length xs = ap length f ∙ length-append p1 xs in
    let b : length p1 ≡ length p0 + length (replicate {A = ℕ} n 0) = ap length e ∙ length-append p0 (replicate n 0) in
    let c : length (replicate {A = ℕ} n 0) ≡ n = length-replicate n 0 in
    omega (arith, a, b, c, h, k)

-- it is filled, and the places that came after it stay
pub filled : (p0 p1 p2 p3 known xs : List ℕ) (i n : ℕ) → p1 ≡ p0 ++ replicate n 0 → i ≡ length p0 → p2 ≡ p1 ++ xs
    → length known ≡ n → p3 ≡ take i p2 ++ (known ++ drop (i + length known) p2) → p3 ≡ p0 ++ (known ++ xs)
filled p0 p1 p2 p3 known xs i n e h f m g =
    let whole : p2 ≡ p0 ++ (replicate n 0 ++ xs) = f ∙ ap (λ p. p ++ xs) e ∙ append_assoc p0 (replicate n 0) xs in
    let long : length (replicate {A = ℕ} n 0) ≡ n = length-replicate n 0 in
    let front : take i p2 ≡ p0 = ap (take i) whole ∙ take_at p0 (replicate n 0 ++ xs) i (sym h) in
    let room : length (p0 ++ replicate n 0) ≡ i + length known = length-append p0 (replicate n 0)
    ∙ omega (arith, h, m, long) in
    let back : drop (i + length known) p2 ≡ xs = ap (drop (i + length known)) (f ∙ ap (λ p. p ++ xs) e)
    ∙ drop_at (p0 ++ replicate n 0) xs (i + length known) room in
    g ∙ ap (λ p. p ++ (known ++ drop (i + length known) p2)) front ∙ ap (λ p. p0 ++ (known ++ p)) back

-- ---- labels

pub names_append : (ms ns : List Placed) → names_of (ms ++ ns) ≡ names_of ms ++ names_of ns
names_append ms ns = map-append (λ (m : Placed). m.name) ms ns

pub places_append : (ms ns : List Placed) → places_of (ms ++ ns) ≡ places_of ms ++ places_of ns
places_append ms ns = map-append (λ (m : Placed). m.place) ms ns

-- labels of the same names, whose places begin the same plan
pub same_labels : (ms ns : List Placed) (xs ys : List ℕ) → names_of ms ≡ names_of ns
    → places_of ms ++ xs ≡ places_of ns ++ ys → ms ≡ ns
same_labels [] [] xs ys e f = refl
same_labels [] (n ∷ ns) xs ys e f = absurd cc
same_labels (m ∷ ms) [] xs ys e f = absurd cc
same_labels (m ∷ ms) (n ∷ ns) xs ys e f =
    let name : m.name ≡ n.name = cc in
    let place : m.place ≡ n.place = cc in
    let names : names_of ms ≡ names_of ns = cc in
    let places : places_of ms ++ xs ≡ places_of ns ++ ys = cc in
    let first : ◌≡◌ {A = Placed} m n = λ i. record { name = name i; place = place i } in
    ap (λ l. l ∷ ms) first ∙ ap (λ ls. n ∷ ls) (same_labels ms ns xs ys names places)

-- ---- plans

-- a list of which the front is known
front_is : (xs ys l m : List ℕ) → length xs ≡ length ys → xs ++ l ≡ ys ++ m → xs ≡ ys
front_is xs ys l m n e = sym (take_at xs l (length ys) n) ∙ ap (take (length ys)) e ∙ take_at ys m (length ys) refl

back_is : (xs ys l m : List ℕ) → length xs ≡ length ys → xs ++ l ≡ ys ++ m → l ≡ m
back_is xs ys l m n e = sym (drop_at xs l (length ys) n) ∙ ap (drop (length ys)) e ∙ drop_at ys m (length ys) refl

pub begins_as : (xs ys l : List ℕ) → xs ≡ ys → Begins xs l → Begins ys l
begins_as xs ys l e b = record { rest = b.rest; is = b.is ∙ ap (λ x. x ++ b.rest) e }

-- the places of a part that begins at this place
pub begins_at : (plan : ℕ → List ℕ) (at n : ℕ) (l : List ℕ) → Begins (plan at) l → n ≡ at → Begins (plan n) l
begins_at plan at n l b e = begins_as (plan at) (plan n) l (ap plan (sym e)) b

pub front_begins : (xs ys l : List ℕ) → Begins (xs ++ ys) l → Begins xs l
front_begins xs ys l b = record { rest = ys ++ b.rest; is = b.is ∙ append_assoc xs ys b.rest }

pub back_begins : (xs ys l after : List ℕ) → Begins (xs ++ ys) l → l ≡ xs ++ after → Begins ys after
back_begins xs ys l after b e =
    record {
      rest = b.rest;
      is = append_cancel_left xs after (ys ++ b.rest)
          (sym e ∙ b.is ∙ append_assoc xs ys b.rest);
    }

pub front_long : (xs ys l : List ℕ) → Begins (xs ++ ys) l → length xs ≤ length l
front_long xs ys l b =
    let h : length l ≡ length (xs ++ (ys ++ b.rest)) = ap length (b.is ∙ append_assoc xs ys b.rest) in
    let k = length-append xs (ys ++ b.rest) in
    omega (arith, h, k)

pub front_known : (xs ys more l after : List ℕ) → Begins (ys ++ more) l → l ≡ xs ++ after → length xs ≡ length ys
    → xs ≡ ys
front_known xs ys more l after b e n =
    front_is xs ys after (more ++ b.rest) n (sym e ∙ b.is ∙ append_assoc ys more b.rest)

pub back_known : (xs ys more l after : List ℕ) → Begins (ys ++ more) l → l ≡ xs ++ after → length xs ≡ length ys
    → Begins more after
back_known xs ys more l after b e n =
    record {
      rest = b.rest;
      is = back_is xs ys after (more ++ b.rest) n (sym e ∙ b.is ∙ append_assoc ys more b.rest);
    }

-- .. one place, and those of a part
pub one_place : (xs l0 l1 : List ℕ) (x other : ℕ) → Begins (x ∷ xs) l0 → l0 ≡ other ∷ l1 → other ≡ x
one_place xs l0 l1 x other b e = let h = b.is in cc

pub one_begins : (xs l0 l1 : List ℕ) (x other : ℕ) → Begins (x ∷ xs) l0 → l0 ≡ other ∷ l1 → Begins xs l1
one_begins xs l0 l1 x other b e =
    let h = b.is in
    let k : l1 ≡ xs ++ b.rest = cc in
    record { rest = b.rest; is = k }

pub one_through : (xs l0 l1 l2 : List ℕ) (x other : ℕ) → l0 ≡ other ∷ l1 → other ≡ x → l1 ≡ xs ++ l2
    → l0 ≡ (x ∷ xs) ++ l2
one_through xs l0 l1 l2 x other e h f = e ∙ ap (λ n. n ∷ l1) h ∙ ap (λ l. x ∷ l) f

-- .. two places, and those of a part
pub two_first : (xs l0 l1 : List ℕ) (x y other : ℕ) → Begins (x ∷ y ∷ xs) l0 → l0 ≡ other ∷ l1 → other ≡ x
two_first xs l0 l1 x y other b e = one_place (y ∷ xs) l0 l1 x other b e

pub two_second : (xs l0 l1 l2 : List ℕ) (x y other end : ℕ) → Begins (x ∷ y ∷ xs) l0 → l0 ≡ other ∷ l1
    → l1 ≡ end ∷ l2 → end ≡ y
two_second xs l0 l1 l2 x y other end b e f = one_place xs l1 l2 y end (one_begins (y ∷ xs) l0 l1 x other b e) f

pub two_begins : (xs l0 l1 l2 : List ℕ) (x y other end : ℕ) → Begins (x ∷ y ∷ xs) l0 → l0 ≡ other ∷ l1
    → l1 ≡ end ∷ l2 → Begins xs l2
two_begins xs l0 l1 l2 x y other end b e f = one_begins xs l1 l2 y end (one_begins (y ∷ xs) l0 l1 x other b e) f

pub two_through : (xs l0 l1 l2 l3 : List ℕ) (x y other end : ℕ) → l0 ≡ other ∷ l1 → l1 ≡ end ∷ l2 → other ≡ x
    → end ≡ y → l2 ≡ xs ++ l3 → l0 ≡ (x ∷ y ∷ xs) ++ l3
two_through xs l0 l1 l2 l3 x y other end e f h k g =
    one_through (y ∷ xs) l0 l1 l3 x other e h (one_through xs l1 l2 l3 y end f k g)

-- .. two parts
pub both_through : (xs ys l0 l1 l2 : List ℕ) → l0 ≡ xs ++ l1 → l1 ≡ ys ++ l2 → l0 ≡ (xs ++ ys) ++ l2
both_through xs ys l0 l1 l2 e f = e ∙ ap (λ l. xs ++ l) f ∙ sym (append_assoc xs ys l2)

-- what a plan begins with at two moments
pub record Left (xs now ys then : List ℕ) : Type 0 where
  pub rest : List ℕ
  pub now_is : now ≡ xs ++ rest
  pub then_is : then ≡ ys ++ rest

pub at_first : (xs l : List ℕ) → Begins xs l → Left xs l xs l
at_first xs l b = record { rest = b.rest; now_is = b.is; then_is = b.is }

pub left_now : (xs now ys then : List ℕ) → Left xs now ys then → Begins xs now
left_now xs now ys then b = record { rest = b.rest; is = b.now_is }

pub left_more : (xs more now after ys then : List ℕ) → Left (xs ++ more) now ys then → now ≡ xs ++ after
    → Left more after ys then
left_more xs more now after ys then b e = record {
  rest = b.rest;
  now_is = append_cancel_left xs after (more ++ b.rest) (sym e ∙ b.now_is ∙ append_assoc xs more b.rest);
  then_is = b.then_is;
}

pub left_at : (plan : ℕ → List ℕ) (at n : ℕ) (now ys then : List ℕ) → Left (plan at) now ys then → n ≡ at
    → Left (plan n) now ys then
left_at plan at n now ys then b e =
    record { rest = b.rest; now_is = b.now_is ∙ ap (λ i. plan i ++ b.rest) (sym e); then_is = b.then_is }

pub at_last : (now ys then : List ℕ) → Left [] now ys then → then ≡ ys ++ now
at_last now ys then b = b.then_is ∙ ap (λ l. ys ++ l) (sym b.now_is)

-- ---- room that is filled in front of a part

pub one_filled : (plan : ℕ → List ℕ) (p0 p1 p2 p3 : List ℕ) (i x y n at : ℕ) → p1 ≡ p0 ++ replicate 1 0
    → i ≡ length p0 → p2 ≡ p1 ++ plan n → p3 ≡ take i p2 ++ ((x ∷ []) ++ drop (i + 1) p2) → x ≡ y → n ≡ at
    → p3 ≡ p0 ++ (y ∷ plan at)
one_filled plan p0 p1 p2 p3 i x y n at e h f g k m =
    filled p0 p1 p2 p3 (x ∷ []) (plan n) i 1 e h f refl g ∙ ap (λ z. p0 ++ (z ∷ plan n)) k
    ∙ ap (λ z. p0 ++ (y ∷ plan z)) m

pub two_filled : (xs ys : List ℕ) (p0 p1 p2 p3 : List ℕ) (i x1 y1 x2 y2 : ℕ) → p1 ≡ p0 ++ replicate 2 0
    → i ≡ length p0 → p2 ≡ p1 ++ xs → p3 ≡ take i p2 ++ ((x1 ∷ x2 ∷ []) ++ drop (i + 2) p2) → x1 ≡ y1 → x2 ≡ y2
    → xs ≡ ys → p3 ≡ p0 ++ (y1 ∷ y2 ∷ ys)
two_filled xs ys p0 p1 p2 p3 i x1 y1 x2 y2 e h f g k m q =
    filled p0 p1 p2 p3 (x1 ∷ x2 ∷ []) xs i 2 e h f refl g ∙ ap (λ z. p0 ++ (z ∷ x2 ∷ xs)) k
    ∙ ap (λ z. p0 ++ (y1 ∷ z ∷ xs)) m ∙ ap (λ z. p0 ++ (y1 ∷ y2 ∷ z)) q
