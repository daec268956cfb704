-- Which operators and keywords are no braces, no `;` and no `typedef`: all that the grammar allows at a place.
use Rattle.std.proofs.Common.{◌≡◌, ℕ, ◌≤◌, Bool, true, false, refl, arith}
use Rattle.std.specs.Prelude.{◌&&◌}
use Rattle.pungi_base.specs.declared.key.Key.{Key}
use Rattle.pungi_base.specs.declared.key.Key.TheVariants as keys
use Rattle.pungi_base.specs.declared.kind.Kind.{Kind}
use Rattle.pungi_base.specs.declared.kind.Kind.TheVariants as kind
use Rattle.pungi_base.specs.declared.punct.Punct.{Punct}
use Rattle.pungi_base.specs.declared.punct.Punct.TheVariants as puncts
use Rattle.pungi_spelling.proofs.Scans.{Steps}
use Rattle.pungi_tree.specs.Operators.{binary_level, is_assign, prefix_mark_need, prefix_key_need, prefix_need, is_step}
use Rattle.pungi_tree.specs.Operators.{is_base_word, is_qualifier, is_aggregate}
use Rattle.pungi_tree.specs.Tokens.{mark, key}
use Rattle.pungi_tree.specs.TypeWords.{is_typedef_key}

pub first : (x y : Bool) → (x && y) ≡ true → x ≡ true
first true y h = refl
first false y h = h

pub second : (x y : Bool) → (x && y) ≡ true → y ≡ true
second true y h = h
second false y h = absurd (cc)

abbrev pub is_harmless : Punct → Bool
is_harmless puncts.LeftBrace = false
is_harmless puncts.RightBrace = false
is_harmless puncts.Semicolon = false
is_harmless _ = true

mark_steps : (a : ℕ) (m : Punct) → is_harmless m ≡ true → Steps a (mark m) a
mark_steps a puncts.LeftBrace h = absurd (cc)
mark_steps a puncts.RightBrace h = absurd (cc)
mark_steps a puncts.Semicolon h = absurd (cc)
mark_steps a _ h = (refl, refl, refl)

key_steps : (a : ℕ) (k : Key) → is_typedef_key k ≡ false → Steps a (key k) a
key_steps a k h = (refl, rw h refl, refl)

pub step_steps : (a : ℕ) (m : Punct) → is_step m ≡ true → Steps a (mark m) a
step_steps a m h = mark_steps a m (harmless m h)
  where
    harmless : (m : Punct) → is_step m ≡ true → is_harmless m ≡ true
    harmless puncts.LeftBrace h = absurd (cc)
    harmless puncts.RightBrace h = absurd (cc)
    harmless puncts.Semicolon h = absurd (cc)
    harmless _ h = refl

pub assign_steps : (a : ℕ) (m : Punct) → is_assign m ≡ true → Steps a (mark m) a
assign_steps a m h = mark_steps a m (harmless m h)
  where
    harmless : (m : Punct) → is_assign m ≡ true → is_harmless m ≡ true
    harmless puncts.LeftBrace h = absurd (cc)
    harmless puncts.RightBrace h = absurd (cc)
    harmless puncts.Semicolon h = absurd (cc)
    harmless _ h = refl

pub binary_steps : (a : ℕ) (m : Punct) → binary_level m ≤ 16 → Steps a (mark m) a
binary_steps a m h = mark_steps a m (harmless m h)
  where
    harmless : (m : Punct) → binary_level m ≤ 16 → is_harmless m ≡ true
    harmless puncts.LeftBrace h = absurd (omega arith)
    harmless puncts.RightBrace h = absurd (omega arith)
    harmless puncts.Semicolon h = absurd (omega arith)
    harmless _ h = refl

pub prefix_steps : (a : ℕ) (k : Kind) → prefix_need k ≤ 16 → Steps a k a
prefix_steps a (kind.Punct m) h = mark_steps a m (harmless m h)
  where
    harmless : (m : Punct) → prefix_mark_need m ≤ 16 → is_harmless m ≡ true
    harmless puncts.LeftBrace h = absurd (omega arith)
    harmless puncts.RightBrace h = absurd (omega arith)
    harmless puncts.Semicolon h = absurd (omega arith)
    harmless _ h = refl
prefix_steps a (kind.Key k) h = key_steps a k (harmless k h)
  where
    harmless : (k : Key) → prefix_key_need k ≤ 16 → is_typedef_key k ≡ false
    harmless keys.Typedef h = absurd (omega arith)
    harmless _ h = refl
prefix_steps a _ h = (refl, refl, refl)

pub base_word_steps : (a : ℕ) (k : Key) → is_base_word k ≡ true → Steps a (key k) a
base_word_steps a k h = key_steps a k (harmless k h)
  where
    harmless : (k : Key) → is_base_word k ≡ true → is_typedef_key k ≡ false
    harmless keys.Typedef h = absurd (cc)
    harmless _ h = refl

pub qualifier_steps : (a : ℕ) (k : Key) → is_qualifier k ≡ true → Steps a (key k) a
qualifier_steps a k h = key_steps a k (harmless k h)
  where
    harmless : (k : Key) → is_qualifier k ≡ true → is_typedef_key k ≡ false
    harmless keys.Typedef h = absurd (cc)
    harmless _ h = refl

pub aggregate_steps : (a : ℕ) (k : Key) → is_aggregate k ≡ true → Steps a (key k) a
aggregate_steps a k h = key_steps a k (harmless k h)
  where
    harmless : (k : Key) → is_aggregate k ≡ true → is_typedef_key k ≡ false
    harmless keys.Typedef h = absurd (cc)
    harmless _ h = refl
