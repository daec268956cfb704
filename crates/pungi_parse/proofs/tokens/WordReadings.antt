-- Reading keywords, `const`, pointers, texts and words: what is read stands at the front, and all that stands there is
-- read.
--   .._gives, .._sound    what is read is spelled
--   .._complete           what is spelled is read, where no more of it follows
--   .._no_longer          no more tokens are left than there were
use Rattle.std.proofs.Common.{◌≡◌, ℕ, zero, suc, ◌≤◌, Bool, true, List, [], ◌∷◌, length, Some, None, inl, inr, refl, ap}
use Rattle.std.proofs.Common.{subst, arith}
use Rattle.pungi_base.specs.declared.key.Key.{Key}
use Rattle.pungi_base.specs.declared.key.Key.TheVariants as keys
use Rattle.pungi_base.specs.declared.names.Name.{Name}
use Rattle.pungi_base.specs.declared.pos.Pos.{Pos}
use Rattle.pungi_base.specs.declared.punct.Punct.TheVariants as puncts
use Rattle.pungi_parse.specs.tokens.OneToken.{eat_key, eat_text, eat_listed}
use Rattle.pungi_parse.specs.Reading.{chain, on_some, when, unless}
use Rattle.pungi_parse.specs.types.TypeReader.{keywords, consts, stars_in, stars, texts, plain_word, type_word}
use Rattle.pungi_parse.proofs.tokens.Eaten.{eat_some, eat_key_some, eat_word_some, eat_text_some, eat_listed_some}
use Rattle.pungi_parse.proofs.tokens.Ends.{StarsEnd}
use Rattle.pungi_parse.proofs.Tools.{bind_some, on_some_cases, when_some, unless_some, some_same, and_true, and_join}
use Rattle.pungi_parse.proofs.Tools.{not_true, not_false}
use Rattle.pungi_tree.specs.ExprSpells.{SpellsKeys, SpellsConsts, SpellsStars, SpellsTexts}
use Rattle.pungi_tree.specs.Operators.{all_keys}
use Rattle.pungi_tree.specs.Placed.{Placed, word_at}
use Rattle.pungi_tree.specs.TypeWords.{is_type, is_word}

abbrev Keywords : (Key → Bool) → List Placed → List Key × List Placed → Type 0
Keywords test ts y = SpellsKeys y.0 ts y.1 × (all_keys test y.0 ≡ true)

keywords_gives : (test : Key → Bool) (ts : List Placed) (y : List Key × List Placed) → keywords test ts ≡ y
    → Keywords test ts y
unfolding keywords
keywords_gives test [] y h = subst (Keywords test []) h (refl, refl)
keywords_gives test (t ∷ ts) y h = elim (on_some_cases _ _ _ _ h) [
  | inl w ↦
      let more = keywords_gives test ts (keywords test ts) refl in
      let k = eat_listed_some test (t ∷ ts) w.0 w.1 in
      let same : ts ≡ w.0.2 = cc in
      let s : SpellsKeys (w.0.0 ∷ (keywords test ts).0) (t ∷ ts) (keywords test ts).1
      = (w.0.2, w.0.1, k.0, subst (λ z. SpellsKeys (keywords test ts).0 z (keywords test ts).1) same more.0) in
      subst (Keywords test (t ∷ ts)) w.2 (s, and_join _ _ k.1 more.1)
  | inr n ↦ subst (Keywords test (t ∷ ts)) n.1 (refl, refl)
]

pub keywords_sound : (test : Key → Bool) (ts : List Placed)
    → SpellsKeys (keywords test ts).0 ts (keywords test ts).1 × (all_keys test (keywords test ts).0 ≡ true)
keywords_sound test ts = keywords_gives test ts (keywords test ts) refl

pub keywords_complete : (test : Key → Bool) (ks : List Key) (ts rest : List Placed) → SpellsKeys ks ts rest
    → all_keys test ks ≡ true → eat_listed test rest ≡ None → keywords test ts ≡ (ks, rest)
unfolding keywords on_some
keywords_complete test [] ts [] s ok h = rw s refl
keywords_complete test [] ts (t ∷ rest) s ok h = rw (s, h) refl
keywords_complete test (k ∷ ks) ts rest s ok h =
    let a = and_true (test k) (all_keys test ks) ok in
    rw (s.2, a.0, keywords_complete test ks s.0 rest s.3 a.1 h) refl

consts_gives : (ts : List Placed) (y : ℕ × List Placed) → consts ts ≡ y → SpellsConsts y.0 ts y.1
unfolding consts
consts_gives [] y h = subst (λ (z : ℕ × List Placed). SpellsConsts z.0 [] z.1) h refl
consts_gives (t ∷ ts) y h = elim (on_some_cases _ _ _ _ h) [
  | inl w ↦
      let k = eat_key_some keys.Const (t ∷ ts) w.0 w.1 in
      let same : ts ≡ w.0.1 = cc in
      let s : SpellsConsts (suc (consts ts).0) (t ∷ ts) (consts ts).1 = (
        w.0.1,
        w.0.0,
        k,
        subst
            (λ z. SpellsConsts (consts ts).0 z (consts ts).1) same (consts_gives ts (consts ts) refl),
      ) in
      subst (λ (z : ℕ × List Placed). SpellsConsts z.0 (t ∷ ts) z.1) w.2 s
  | inr n ↦ subst (λ (z : ℕ × List Placed). SpellsConsts z.0 (t ∷ ts) z.1) n.1 refl
]

pub consts_sound : (ts : List Placed) → SpellsConsts (consts ts).0 ts (consts ts).1
consts_sound ts = consts_gives ts (consts ts) refl

pub consts_complete : (n : ℕ) (ts rest : List Placed) → SpellsConsts n ts rest → eat_key keys.Const rest ≡ None
    → consts ts ≡ (n, rest)
unfolding consts on_some
consts_complete zero ts [] s h = rw s refl
consts_complete zero ts (t ∷ rest) s h = rw (s, h) refl
consts_complete (suc n) ts rest s h = rw (s.2, consts_complete n s.0 rest s.3 h) refl

stars_gives : (k : ℕ) (ts : List Placed) (y : List ℕ × List Placed) → stars_in k ts ≡ y → SpellsStars y.0 ts y.1
unfolding stars_in
stars_gives zero ts y h = subst (λ (z : List ℕ × List Placed). SpellsStars z.0 ts z.1) h refl
stars_gives (suc k) ts y h = elim (on_some_cases _ _ _ _ h) [
  | inl w ↦
      let s = eat_some puncts.Star ts w.0 w.1 in
      let c = consts w.0.1 in
      let more = stars_gives k c.1 (stars_in k c.1) refl in
      subst (λ (z : List ℕ × List Placed). SpellsStars z.0 ts z.1) w.2 (w.0.1, c.1, w.0.0, s, consts_sound w.0.1, more)
  | inr n ↦ subst (λ (z : List ℕ × List Placed). SpellsStars z.0 ts z.1) n.1 refl
]

pub stars_sound : (ts : List Placed) → SpellsStars (stars ts).0 ts (stars ts).1
unfolding stars
stars_sound ts = stars_gives (length ts) ts (stars_in (length ts) ts) refl

texts_gives : (ts : List Placed) (y : List Name × List Placed) → texts ts ≡ y → SpellsTexts y.0 ts y.1
unfolding texts
texts_gives [] y h = subst (λ (z : List Name × List Placed). SpellsTexts z.0 [] z.1) h refl
texts_gives (t ∷ ts) y h = elim (on_some_cases _ _ _ _ h) [
  | inl w ↦
      let k = eat_text_some (t ∷ ts) w.0 w.1 in
      let same : ts ≡ w.0.2 = cc in
      let s : SpellsTexts (w.0.0 ∷ (texts ts).0) (t ∷ ts) (texts ts).1 = (
        w.0.2,
        w.0.1,
        k,
        subst
            (λ z. SpellsTexts (texts ts).0 z (texts ts).1) same (texts_gives ts (texts ts) refl),
      ) in
      subst (λ (z : List Name × List Placed). SpellsTexts z.0 (t ∷ ts) z.1) w.2 s
  | inr n ↦ subst (λ (z : List Name × List Placed). SpellsTexts z.0 (t ∷ ts) z.1) n.1 refl
]

pub texts_sound : (ts : List Placed) → SpellsTexts (texts ts).0 ts (texts ts).1
texts_sound ts = texts_gives ts (texts ts) refl

pub texts_complete : (ns : List Name) (ts rest : List Placed) → SpellsTexts ns ts rest → eat_text rest ≡ None
    → texts ts ≡ (ns, rest)
unfolding texts on_some
texts_complete [] ts [] s h = rw s refl
texts_complete [] ts (t ∷ rest) s h = rw (s, h) refl
texts_complete (n ∷ ns) ts rest s h = rw (s.2, texts_complete ns s.0 rest s.3 h) refl

pub keys_no_longer : (ks : List Key) (ts rest : List Placed) → SpellsKeys ks ts rest → length rest ≤ length ts
keys_no_longer [] ts rest s = rw s (omega arith)
keys_no_longer (k ∷ ks) ts rest s = let i = keys_no_longer ks s.0 rest s.3 in rw s.2 (omega arith)

pub consts_no_longer : (n : ℕ) (ts rest : List Placed) → SpellsConsts n ts rest → length rest ≤ length ts
consts_no_longer zero ts rest s = rw s (omega arith)
consts_no_longer (suc n) ts rest s = let i = consts_no_longer n s.0 rest s.3 in rw s.2 (omega arith)

pub stars_no_longer : (ss : List ℕ) (ts rest : List Placed) → SpellsStars ss ts rest → length rest ≤ length ts
stars_no_longer [] ts rest s = rw s (omega arith)
stars_no_longer (n ∷ ss) ts rest s =
    let c = consts_no_longer n s.0 s.1 s.4 in
    let i = stars_no_longer ss s.1 rest s.5 in
    rw s.3 (omega arith)

pub texts_no_longer : (ns : List Name) (ts rest : List Placed) → SpellsTexts ns ts rest → length rest ≤ length ts
texts_no_longer [] ts rest s = rw s (omega arith)
texts_no_longer (n ∷ ns) ts rest s = let i = texts_no_longer ns s.0 rest s.3 in rw s.2 (omega arith)

-- no `const` stands before pointers, or before what ends them
no_const_before : (ss : List ℕ) (ts rest : List Placed) → SpellsStars ss ts rest → eat_key keys.Const rest ≡ None
    → eat_key keys.Const ts ≡ None
no_const_before [] ts rest s h = rw s h
no_const_before (n ∷ ss) ts rest s h = rw s.3 refl

stars_come : (ss : List ℕ) (k : ℕ) (ts rest : List Placed) → length ts ≤ k → SpellsStars ss ts rest → StarsEnd rest
    → stars_in k ts ≡ (ss, rest)
unfolding stars_in on_some
stars_come [] zero ts rest h s e = rw s refl
stars_come [] (suc k) ts rest h s e = rw (s, e.no_star) refl
stars_come (n ∷ ss) zero ts rest h s e = absurd (omega (arith, h, ap length s.3))
stars_come (n ∷ ss) (suc k) ts rest h s e =
    let c = consts_complete n s.0 s.1 s.4 (no_const_before ss s.1 rest s.5 e.no_const) in
    let i = stars_come ss k s.1 rest (omega (arith, h, ap length s.3, consts_no_longer n s.0 s.1 s.4)) s.5 e in
    rw (s.3, c, i) refl

pub stars_complete : (ss : List ℕ) (ts rest : List Placed) → SpellsStars ss ts rest → StarsEnd rest
    → stars ts ≡ (ss, rest)
unfolding stars
stars_complete ss ts rest s e = stars_come ss (length ts) ts rest (omega arith) s e

module _ (types : List Name) where
  pub plain_word_sound : (ts : List Placed) (w : Name × Pos × List Placed) → plain_word types ts ≡ Some w
      → (ts ≡ word_at w.0 w.1 ∷ w.2) × (is_word types w.0 ≡ true)
  unfolding plain_word
  plain_word_sound ts w h =
      let o = bind_some _ _ _ h in
      let g = unless_some _ _ _ o.2 in
      let e : o.0 ≡ w = some_same _ _ g.1 in
      subst (λ (z : Name × Pos × List Placed). (ts ≡ word_at z.0 z.1 ∷ z.2) × (is_word types z.0 ≡ true)) e
      (eat_word_some ts o.0 o.1, not_false _ g.0)

  pub type_word_sound : (ts : List Placed) (w : Name × Pos × List Placed) → type_word types ts ≡ Some w
      → (ts ≡ word_at w.0 w.1 ∷ w.2) × (is_type types w.0 ≡ true)
  unfolding type_word
  type_word_sound ts w h =
      let o = bind_some _ _ _ h in
      let g = when_some _ _ _ o.2 in
      let e : o.0 ≡ w = some_same _ _ g.1 in
      subst (λ (z : Name × Pos × List Placed). (ts ≡ word_at z.0 z.1 ∷ z.2) × (is_type types z.0 ≡ true)) e
      (eat_word_some ts o.0 o.1, g.0)

  pub plain_word_complete : (n : Name) (p : Pos) (ts : List Placed) → is_word types n ≡ true
      → plain_word types (word_at n p ∷ ts) ≡ Some (n, p, ts)
  unfolding plain_word chain unless
  plain_word_complete n p ts h = rw (not_true _ h) refl

  pub type_word_complete : (n : Name) (p : Pos) (ts : List Placed) → is_type types n ≡ true
      → type_word types (word_at n p ∷ ts) ≡ Some (n, p, ts)
  unfolding type_word chain when
  type_word_complete n p ts h = rw h refl

  pub no_plain_word : (n : Name) (p : Pos) (ts : List Placed) → is_type types n ≡ true
      → plain_word types (word_at n p ∷ ts) ≡ None
  unfolding plain_word chain unless
  no_plain_word n p ts h = rw h refl

  pub no_type_word : (n : Name) (p : Pos) (ts : List Placed) → is_word types n ≡ true
      → type_word types (word_at n p ∷ ts) ≡ None
  unfolding type_word chain when
  no_type_word n p ts h = rw (not_true _ h) refl
