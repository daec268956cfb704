-- Tokens whose brackets match close the braces that they open.
use Rattle.std.proofs.Common.{◌≡◌, ℕ, suc, Bool, true, false, cond, List, [], ◌∷◌, Option, Some, None, refl}
use Rattle.std.specs.Prelude.{◌&&◌, ◌==◌}
use Rattle.pungi_base.specs.declared.kind.Kind.{Kind}
use Rattle.pungi_base.specs.declared.kind.Kind.TheVariants as kind
use Rattle.pungi_base.specs.declared.punct.Punct.{Punct}
use Rattle.pungi_base.specs.declared.punct.Punct.TheVariants as puncts
use Rattle.pungi_spelling.proofs.Scans.{Steps, Scans, none, one, suc_is_positive}
use Rattle.pungi_tree.specs.Balanced.{is_right_paren, is_right_bracket, is_right_brace, is_same, closed, awaited_after}
use Rattle.pungi_tree.specs.Balanced.{holds_of, closes}
use Rattle.pungi_tree.specs.Placed.{Placed, kinds}
use Rattle.pungi_tree.specs.Tokens.{mark}
use Rattle.pungi_tree.specs.TypeWords.{is_typedef_key}

-- the number of open braces where these brackets are awaited as well
abbrev raise_by : Bool → ℕ → ℕ
raise_by true n = suc n
raise_by false n = n

abbrev raise : List Punct → ℕ → ℕ
raise [] n = n
raise (m ∷ awaited) n = raise_by (is_right_brace m) (raise awaited n)

raise_is_positive : (awaited : List Punct) (n : ℕ) → (raise awaited (suc n) == 0) ≡ false
raise_is_positive [] n = suc_is_positive n
raise_is_positive (m ∷ awaited) n = step (is_right_brace m) (raise awaited (suc n)) (raise_is_positive awaited n)
  where
    step : (b : Bool) (k : ℕ) → (k == 0) ≡ false → (raise_by b k == 0) ≡ false
    step true k h = suc_is_positive k
    step false k h = h

and_false : (x y : Bool) → y ≡ false → (x && y) ≡ false
and_false true y h = h
and_false false y h = refl

same_list : (x y : List Punct) → Some x ≡ Some y → x ≡ y
same_list x y h = cc

holds_some : (o : Option (List Punct)) (test : List Punct → Bool) → holds_of o test ≡ true
    → (x : List Punct) × (o ≡ Some x) × (test x ≡ true)
holds_some None test h = absurd (cc)
holds_some (Some x) test h = (x, refl, h)

closed_some : (m : Punct) (awaited after : List Punct) → closed m awaited ≡ Some after
    → (n : Punct) × (awaited ≡ n ∷ after) × (is_same m n ≡ true)
closed_some m [] after h = absurd (cc)
closed_some m (n ∷ awaited) after h = step (is_same m n) refl h
  where
    step : (b : Bool) → is_same m n ≡ b → cond b (Some awaited) None ≡ Some after
        → (x : Punct) × (n ∷ awaited ≡ x ∷ after) × (is_same m x ≡ true)
    step true e h = let s : awaited ≡ after = cc in (n, rw s refl, e)
    step false e h = absurd (cc)

paren_is_no_brace : (m : Punct) → is_right_paren m ≡ true → is_right_brace m ≡ false
paren_is_no_brace puncts.RightBrace h = absurd (cc)
paren_is_no_brace _ h = refl

bracket_is_no_brace : (m : Punct) → is_right_bracket m ≡ true → is_right_brace m ≡ false
bracket_is_no_brace puncts.RightBrace h = absurd (cc)
bracket_is_no_brace _ h = refl

mark_steps : (n : ℕ) (m : Punct) (awaited after : List Punct) → awaited_after (mark m) awaited ≡ Some after
    → Steps (raise awaited (suc n)) (mark m) (raise after (suc n))
mark_steps n puncts.LeftParen awaited after h =
    let s : puncts.RightParen ∷ awaited ≡ after = same_list _ _ h in rw (← s) (refl, refl, refl)
mark_steps n puncts.LeftBracket awaited after h =
    let s : puncts.RightBracket ∷ awaited ≡ after = same_list _ _ h in rw (← s) (refl, refl, refl)
mark_steps n puncts.LeftBrace awaited after h =
    let s : puncts.RightBrace ∷ awaited ≡ after = same_list _ _ h in rw (← s) (refl, refl, refl)
mark_steps n puncts.RightParen awaited after h =
    let c = closed_some puncts.RightParen awaited after h in rw (c.1, paren_is_no_brace c.0 c.2) (refl, refl, refl)
mark_steps n puncts.RightBracket awaited after h =
    let c = closed_some puncts.RightBracket awaited after h in rw (c.1, bracket_is_no_brace c.0 c.2)
    (refl, refl, refl)
mark_steps n puncts.RightBrace awaited after h =
    let c = closed_some puncts.RightBrace awaited after h in rw (c.1, c.2) (refl, refl, refl)
mark_steps n puncts.Semicolon awaited after h =
    let s = same_list awaited after h in rw (← s) (refl, refl, raise_is_positive awaited n)
mark_steps n _ awaited after h = let s = same_list awaited after h in rw (← s) (refl, refl, refl)

token_steps : (n : ℕ) (k : Kind) (awaited after : List Punct) → awaited_after k awaited ≡ Some after
    → Steps (raise awaited (suc n)) k (raise after (suc n))
token_steps n (kind.Punct m) awaited after h = mark_steps n m awaited after h
token_steps n (kind.Key k) awaited after h =
    let s = same_list awaited after h in rw (← s) (
      refl,
      and_false (is_typedef_key k) _
          (raise_is_positive awaited n),
      refl,
    )
token_steps n _ awaited after h = let s = same_list awaited after h in rw (← s) (refl, refl, refl)

pub table_reads : (n : ℕ) (ts : List Placed) (awaited : List Punct) → closes ts awaited ≡ true
    → Scans (raise awaited (suc n)) (suc n) (kinds ts)
table_reads n [] [] h = none (suc n)
table_reads n [] (m ∷ awaited) h = absurd (cc)
table_reads n (t ∷ ts) awaited h =
    let s = holds_some (awaited_after t.0 awaited) (closes ts) h in
    one _ _ _ _ _ (token_steps n t.0 awaited s.0 s.1) (table_reads n ts s.0 s.2)
