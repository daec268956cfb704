-- Words at the front of a list one by one: a turn takes the first, and the last leaves what follows.
--   keywords_turn, keywords_end, consts_turn, consts_end, stars_turn, stars_end, texts_turn, texts_end    what is read
--   by what stands in front
--   consts_shorter    the tokens after are no more
--   ReadTo read whole last front ts    what is read so far, before what stands in the tokens left, is all, and so are
--                                      the tokens left then
--   read_turn, read_end    one more, and no more
--   CountTo, count_turn, count_end    the same of a count
use Rattle.std.proofs.Common.{◌≡◌, ℕ, zero, suc, ◌+◌, ◌<◌, ◌≤◌, Bool, List, [], ◌∷◌, ◌++◌, length, Option, Some, None}
use Rattle.std.proofs.Common.{refl, sym, ◌∙◌, ap, append_assoc, append-nil, arith}
use Rattle.pungi_base.specs.declared.key.Key.{Key}
use Rattle.pungi_base.specs.declared.key.Key.TheVariants as keys
use Rattle.pungi_base.specs.declared.names.Name.{Name}
use Rattle.pungi_base.specs.declared.pos.Pos.{Pos}
use Rattle.pungi_base.specs.declared.punct.Punct.TheVariants as puncts
use Rattle.pungi_parse.specs.tokens.OneToken.{eat, eat_key, eat_text, eat_listed}
use Rattle.pungi_parse.specs.Reading.{on_some}
use Rattle.pungi_parse.specs.types.TypeReader.{keywords, consts, stars, stars_in, texts}
use Rattle.pungi_parse.proofs.tokens.Eaten.{eat_some, eat_key_some, eat_text_some, eat_listed_some}
use Rattle.pungi_tree.specs.Placed.{Placed}

pub record ReadTo {A : Type 0} (read : List Placed → List A × List Placed) (whole : List A) (last : List Placed)
    (front : List A) (ts : List Placed) : Type 0 where
  pub items : front ++ (read ts).0 ≡ whole
  pub left : (read ts).1 ≡ last

pub read_turn : {A : Type 0} (read : List Placed → List A × List Placed) (whole front : List A)
    (last ts us : List Placed) (x : A) → read ts ≡ (x ∷ (read us).0, (read us).1) → ReadTo read whole last front ts
    → ReadTo read whole last (front ++ x ∷ []) us
read_turn {A = A} read whole front last ts us x h r = record {
  items = append_assoc front (x ∷ []) (read us).0 ∙ ap (λ (z : List A × List Placed). front ++ z.0) (sym h) ∙ r.items;
  left = ap (λ (z : List A × List Placed). z.1) (sym h) ∙ r.left;
}

pub record ReadAll {A : Type 0} (whole : List A) (last : List Placed) (front : List A) (ts : List Placed) : Type 0 where
  pub items : front ≡ whole
  pub left : ts ≡ last

pub read_end : {A : Type 0} (read : List Placed → List A × List Placed) (whole front : List A)
    (last ts : List Placed) → read ts ≡ ([], ts) → ReadTo read whole last front ts → ReadAll whole last front ts
read_end {A = A} read whole front last ts h r = record {
  items = sym (append-nil front) ∙ ap (λ (z : List A × List Placed). front ++ z.0) (sym h) ∙ r.items;
  left = ap (λ (z : List A × List Placed). z.1) (sym h) ∙ r.left;
}

pub record CountTo (whole : ℕ) (last : List Placed) (front : ℕ) (ts : List Placed) : Type 0 where
  pub items : front + (consts ts).0 ≡ whole
  pub left : (consts ts).1 ≡ last

tail_same : (t u : Placed) (ts us : List Placed) → t ∷ ts ≡ u ∷ us → ts ≡ us
tail_same t u ts us h = cc

module _ (test : Key → Bool) where
  pub keywords_turn : (ts : List Placed) (k : Key × Pos × List Placed) → eat_listed test ts ≡ Some k
      → keywords test ts ≡ (k.0 ∷ (keywords test k.2).0, (keywords test k.2).1)
  unfolding keywords on_some
  keywords_turn [] k h = absurd (cc)
  keywords_turn (t ∷ ts) k h = rw (h, tail_same _ _ _ _ (eat_listed_some test (t ∷ ts) k h).0) refl

  pub keywords_end : (ts : List Placed) → eat_listed test ts ≡ None → keywords test ts ≡ ([], ts)
  unfolding keywords on_some
  keywords_end [] h = refl
  keywords_end (t ∷ ts) h = rw h refl

pub consts_turn : (ts : List Placed) (c : Pos × List Placed) → eat_key keys.Const ts ≡ Some c
    → consts ts ≡ (suc (consts c.1).0, (consts c.1).1)
unfolding consts on_some
consts_turn [] c h = absurd (cc)
consts_turn (t ∷ ts) c h = rw (h, tail_same _ _ _ _ (eat_key_some keys.Const (t ∷ ts) c h)) refl

pub consts_end : (ts : List Placed) → eat_key keys.Const ts ≡ None → consts ts ≡ (0, ts)
unfolding consts on_some
consts_end [] h = refl
consts_end (t ∷ ts) h = rw h refl

pub consts_shorter : (ts : List Placed) → length (consts ts).1 ≤ length ts
consts_shorter [] = rw (consts_end [] refl) (omega arith)
consts_shorter (t ∷ ts) = cases (consts_shorter ts) (eat_key keys.Const (t ∷ ts)) refl
  where
    cases : length (consts ts).1 ≤ length ts → (o : Option (Pos × List Placed)) → eat_key keys.Const (t ∷ ts) ≡ o
        → length (consts (t ∷ ts)).1 ≤ suc (length ts)
    cases n None h = rw (consts_end (t ∷ ts) h) (omega arith)
    cases n (Some c) h = rw (consts_turn (t ∷ ts) c h, ← tail_same _ _ _ _ (eat_key_some keys.Const (t ∷ ts) c h))
        (omega (arith, n))

pub texts_turn : (ts : List Placed) (n : Name × Pos × List Placed) → eat_text ts ≡ Some n
    → texts ts ≡ (n.0 ∷ (texts n.2).0, (texts n.2).1)
unfolding texts on_some
texts_turn [] n h = absurd (cc)
texts_turn (t ∷ ts) n h = rw (h, tail_same _ _ _ _ (eat_text_some (t ∷ ts) n h)) refl

pub texts_end : (ts : List Placed) → eat_text ts ≡ None → texts ts ≡ ([], ts)
unfolding texts on_some
texts_end [] h = refl
texts_end (t ∷ ts) h = rw h refl

star_shorter : (ts : List Placed) (s : Pos × List Placed) → eat puncts.Star ts ≡ Some s
    → length (consts s.1).1 < length ts
star_shorter ts s h = omega (arith, consts_shorter s.1, ap length (eat_some puncts.Star ts s h))

-- more turns than there are tokens change nothing
stars_enough : (k m : ℕ) (ts : List Placed) → length ts ≤ k → length ts ≤ m → stars_in k ts ≡ stars_in m ts
unfolding stars_in on_some
stars_enough zero zero ts h i = refl
stars_enough zero (suc m) [] h i = refl
stars_enough zero (suc m) (t ∷ ts) h i = absurd (omega arith)
stars_enough (suc k) zero [] h i = refl
stars_enough (suc k) zero (t ∷ ts) h i = absurd (omega arith)
stars_enough (suc k) (suc m) ts h i = cases (λ us a b. stars_enough k m us a b) (eat puncts.Star ts) refl
  where
    cases : ((us : List Placed) → length us ≤ k → length us ≤ m → stars_in k us ≡ stars_in m us)
        → (o : Option (Pos × List Placed)) → eat puncts.Star ts ≡ o → stars_in (suc k) ts ≡ stars_in (suc m) ts
    cases same None e = rw e refl
    cases same (Some s) e = rw (
      e,
      same (consts s.1).1 (omega (arith, star_shorter ts s e))
          (omega (arith, star_shorter ts s e)),
    ) refl

pub stars_turn : (ts : List Placed) (s : Pos × List Placed) → eat puncts.Star ts ≡ Some s
    → stars ts ≡ ((consts s.1).0 ∷ (stars (consts s.1).1).0, (stars (consts s.1).1).1)
unfolding stars stars_in on_some
stars_turn [] s h = absurd (cc)
stars_turn (t ∷ ts) s h =
    rw (
      h,
      stars_enough (length ts) (length (consts s.1).1) (consts s.1).1
          (omega (arith, star_shorter (t ∷ ts) s h)) (omega arith),
    ) refl

pub stars_end : (ts : List Placed) → eat puncts.Star ts ≡ None → stars ts ≡ ([], ts)
unfolding stars stars_in on_some
stars_end [] h = refl
stars_end (t ∷ ts) h = rw h refl

pub count_turn : (whole front : ℕ) (last ts : List Placed) (c : Pos × List Placed) → eat_key keys.Const ts ≡ Some c
    → CountTo whole last front ts → CountTo whole last (front + 1) c.1
count_turn whole front last ts c h r =
    let e : (consts ts).0 ≡ suc (consts c.1).0 = ap (λ (z : ℕ × List Placed). z.0) (consts_turn ts c h) in
    record {
      items = omega (arith, r.items);
      left = ap (λ (z : ℕ × List Placed). z.1) (sym (consts_turn ts c h))
          ∙ r.left;
    }

pub count_end : (whole front : ℕ) (last ts : List Placed) → eat_key keys.Const ts ≡ None
    → CountTo whole last front ts → (front ≡ whole) × (ts ≡ last)
count_end whole front last ts h r =
    let e : (consts ts).0 ≡ 0 = ap (λ (z : ℕ × List Placed). z.0) (consts_end ts h) in
    (omega (arith, r.items), ap (λ (z : ℕ × List Placed). z.1) (sym (consts_end ts h)) ∙ r.left)
