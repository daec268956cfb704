-- What is put under a word, where a list is gone through and the first of each word counts.
use Rattle.std.proofs.Common.{◌≡◌, ℕ, ◌==◌, Bool, true, false, ◌||◌, cond, Option, None, Some, option_map, is_some}
use Rattle.std.proofs.Common.{refl, sym, ap, ◌∙◌, arith}
use Rattle.std.proofs.lemmas.Bool.Decides.{nat_tests}
use Rattle.pungi_names.specs.First.{or_first}
use Rattle.pungi_names.proofs.DepthLemmas.{same_word}

module _ {V A : Type 0} (view : V → A) where
  -- what the map has, else what the rest gives, stays the same where the next is put into the map
  pub put_first : (b : Bool) (o : Option V) (v : V) (rest whole : Option A)
      → or_first (option_map view o) (cond b (Some (view v)) rest) ≡ whole
      → or_first (option_map view (or_first o (cond b (Some v) None))) rest ≡ whole
  put_first true None v rest whole h = h
  put_first false None v rest whole h = h
  put_first true (Some x) v rest whole h = h
  put_first false (Some x) v rest whole h = h

or-true : (a : Bool) → (a || true) ≡ true
or-true true = refl
or-true false = refl

or-false : (a : Bool) → (a || false) ≡ a
or-false true = refl
or-false false = refl

-- what the set has, or the rest gives, stays the same where the next is put into the set
pub put_word : {A : Type 0} (b a : Bool) (v : A) (rest : Option A) (whole : Bool)
    → (a || is_some (cond b (Some v) rest)) ≡ whole → ((a || b) || is_some rest) ≡ whole
put_word true a v rest whole h = ap (λ x. x || is_some rest) (or-true a) ∙ sym (or-true a) ∙ h
put_word false a v rest whole h = ap (λ x. x || is_some rest) (or-false a) ∙ h

-- the same where it is put into a map, whatever was there
pub put_some : {V A : Type 0} (b : Bool) (o : Option V) (x : V) (v : A) (rest : Option A) (whole : Bool)
    → (is_some o || is_some (cond b (Some v) rest)) ≡ whole → (is_some (cond b (Some x) o) || is_some rest) ≡ whole
put_some true o x v rest whole h = sym (or-true (is_some o)) ∙ h
put_some false o x v rest whole h = h

-- a word that is there is put nowhere, and one that isn't is put last
pub first-there : {V : Type 0} (find : ℕ → Option V) (word : ℕ) (v : V) → is_some (find word) ≡ true
    → (w : ℕ) → find w ≡ or_first (find w) (cond (word == w) (Some v) None)
first-there find word v there w = at (word == w) refl (find w) refl
  where
    at : (b : Bool) → (word == w) ≡ b → (o : Option _) → find w ≡ o → o ≡ or_first o (cond b (Some v) None)
    at b e (Some x) f = refl
    at false e None f = refl
    at true e None f =
        let same = same_word word w e in
        let no : is_some (find word) ≡ false = ap (λ u. is_some (find u)) same ∙ ap is_some f in
        absurd cc

pub first-new : {V : Type 0} (find found : ℕ → Option V) (word : ℕ) (v : V) → find word ≡ None
    → ((w : ℕ) → found w ≡ cond (word == w) (Some v) (find w))
    → (w : ℕ) → found w ≡ or_first (find w) (cond (word == w) (Some v) None)
first-new find found word v none put w = put w ∙ at (word == w) refl (find w) refl
  where
    at : (b : Bool) → (word == w) ≡ b → (o : Option _) → find w ≡ o
        → cond b (Some v) o ≡ or_first o (cond b (Some v) None)
    at false e None f = refl
    at false e (Some x) f = refl
    at true e None f = refl
    at true e (Some x) f =
        let same = same_word word w e in
        let some : find word ≡ Some x = ap find same ∙ f in
        absurd cc

pub flip : (a b : ℕ) → (a == b) ≡ (b == a)
flip a b = grind (arith, nat_tests)
