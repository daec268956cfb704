-- What is left to read of a text, and what was written of one.
use Rattle.std.proofs.Common.{◌≡◌, ℕ, ◌≤◌, ◌<◌, Bool, true, false, ◌&&◌, ◌==◌, nat_lt, List, [], ◌∷◌, ◌++◌, length, take}
use Rattle.std.proofs.Common.{drop, Option, Some, None, refl, sym, subst, ap, ◌∙◌, append_assoc, append-nil}
use Rattle.std.proofs.Common.{take-append-drop, lt-ltb, eq-eqb, ne_eqb}
use Rattle.std.specs.Io.KnownBytes.{Consumes}
use Rattle.pungi_io.specs.OpenedText.{Opened, on_last, with_read}
use Rattle.pungi.specs.Read.{IsFront, IsLong, IsRead, IsWhole}

-- where the texts are known, the bytes so far and what is left are the text of the name
abbrev pub Left : Option (List ℕ → Option (List ℕ)) → List ℕ → Option (List ℕ) → List ℕ → Type 0
Left None name rest bytes = Unit {0}
Left (Some texts) name None bytes = ⊥
Left (Some texts) name (Some rest) bytes = texts name ≡ Some (bytes ++ rest)

pub read_left : (texts : Option (List ℕ → Option (List ℕ))) (name : List ℕ) (rest after : Option (List ℕ))
    (bytes piece : List ℕ) → Left texts name rest bytes → Consumes rest after piece
    → Left texts name after (bytes ++ piece)
read_left None name rest after bytes piece left read = tt
read_left (Some texts) name None after bytes piece left read = absurd left
read_left (Some texts) name (Some rest) None bytes piece left read = absurd read
read_left (Some texts) name (Some rest) (Some others) bytes piece left read =
    left ∙ ap Some (ap (λ (l : List ℕ). bytes ++ l) read ∙ sym (append_assoc bytes piece others))

pub still_left : (texts : Option (List ℕ → Option (List ℕ))) (name : List ℕ) (rest after : Option (List ℕ))
    (bytes buf : List ℕ) (count : ℕ) → Left texts name rest bytes → Consumes rest after (take count buf) → count ≡ 0
    → Left texts name after bytes
still_left texts name rest after bytes buf count left read none =
    subst (λ (b : List ℕ). Left texts name after b)
    (ap (λ (n : ℕ). bytes ++ take n buf) none ∙ append-nil bytes)
    (read_left texts name rest after bytes (take count buf) left read)

take_front : (buf others : List ℕ) → take (length buf) (buf ++ others) ≡ buf
take_front [] others = refl
take_front (x ∷ buf) others = ap (λ (l : List ℕ). x ∷ l) (take_front buf others)

-- a buffer of this length, written over the whole of another, stands there
pub written_over : (buf others : List ℕ) (n : ℕ) → length buf ≡ n → take n (buf ++ others) ≡ buf
written_over buf others n long = ap (λ (m : ℕ). take m (buf ++ others)) (sym long) ∙ take_front buf others

-- a text of which these bytes were read
abbrev pub so_far : List ℕ → List ℕ → Bool → Opened
so_far name bytes ended = record { name = name; bytes = bytes; ended = ended }

-- the last of a list is what stands at its end
last_of : (f : Opened → Opened) (ts : List Opened) (t : Opened) → on_last f (ts ++ t ∷ []) ≡ ts ++ f t ∷ []
last_of f [] t = refl
last_of f (u ∷ []) t = refl
last_of f (u ∷ v ∷ ts) t = ap (λ (us : List Opened). u ∷ us) (last_of f (v ∷ ts) t)

-- after a read of some bytes the text has these too, and after one of none it is read to its end
read_on : (before now after : List Opened) (name bytes buf : List ℕ) (count : ℕ) (ended : Bool)
    → now ≡ before ++ so_far name bytes false ∷ [] → after ≡ on_last (with_read count buf) now
    → (count == 0 && nat_lt 0 (length buf)) ≡ ended
    → after ≡ before ++ so_far name (bytes ++ take count buf) ended ∷ []
read_on before now after name bytes buf count ended stood is end =
    is ∙ ap (λ (ts : List Opened). on_last (with_read count buf) ts) stood
    ∙ last_of (with_read count buf) before (so_far name bytes false)
    ∙ ap (λ (b : Bool). before ++ so_far name (bytes ++ take count buf) b ∷ []) end

pub read_more : (before now after : List Opened) (name bytes buf : List ℕ) (count : ℕ)
    → now ≡ before ++ so_far name bytes false ∷ [] → after ≡ on_last (with_read count buf) now → (count ≡ 0 → ⊥)
    → after ≡ before ++ so_far name (bytes ++ take count buf) false ∷ []
read_more before now after name bytes buf count stood is some =
    read_on before now after name bytes buf count false stood is
    (ap (λ (b : Bool). b && nat_lt 0 (length buf)) (ne_eqb count 0 some))

read_end : (before now after : List Opened) (name bytes buf : List ℕ) (count : ℕ)
    → now ≡ before ++ so_far name bytes false ∷ [] → after ≡ on_last (with_read count buf) now → count ≡ 0
    → 0 < length buf → after ≡ before ++ so_far name bytes true ∷ []
read_end before now after name bytes buf count stood is none room =
    read_on before now after name bytes buf count true stood is
    (ap (λ (b : Bool). b && nat_lt 0 (length buf)) (eq-eqb count 0 none) ∙ lt-ltb 0 (length buf) room)
    ∙ ap (λ (n : ℕ). before ++ so_far name (bytes ++ take n buf) true ∷ []) none
    ∙ ap (λ (b : List ℕ). before ++ so_far name b true ∷ []) (append-nil bytes)

front_left : (texts : Option (List ℕ → Option (List ℕ))) (name : List ℕ) (rest : Option (List ℕ)) (bytes : List ℕ)
    (ended : Bool) → Left texts name rest bytes → IsFront texts (so_far name bytes ended)
front_left None name rest bytes ended left = tt
front_left (Some texts) name None bytes ended left = absurd left
front_left (Some texts) name (Some rest) bytes ended left = (rest, left)

pub long_left : (texts : Option (List ℕ → Option (List ℕ))) (before after : List Opened) (name : List ℕ)
    (rest : Option (List ℕ)) (bytes : List ℕ) (limit : ℕ) → Left texts name rest bytes
    → after ≡ before ++ so_far name bytes false ∷ [] → limit < length bytes
    → (t : Opened) × (after ≡ before ++ t ∷ []) × IsLong texts name limit t
long_left texts before after name rest bytes limit left is long = (
  so_far name bytes false,
  is,
  record { named = refl; front = front_left texts name rest bytes false left; long = long },
)

some_same : (x y : List ℕ) → ◌≡◌ {A = Option (List ℕ)} (Some x) (Some y) → x ≡ y
some_same x y e = cc

whole_of : (texts : Option (List ℕ → Option (List ℕ))) (name : List ℕ) (rest : Option (List ℕ)) (bytes : List ℕ)
    → Left texts name rest bytes → rest ≡ Some [] → IsWhole texts (so_far name bytes true)
whole_of None name rest bytes left end = refl
whole_of (Some texts) name None bytes left end = absurd left
whole_of (Some texts) name (Some rest) bytes left end =
    (refl, left ∙ ap Some (ap (λ (r : List ℕ). bytes ++ r) (some_same rest [] end) ∙ append-nil bytes))

pub whole_left : (texts : Option (List ℕ → Option (List ℕ))) (before now after : List Opened) (name : List ℕ)
    (rest : Option (List ℕ)) (bytes buf : List ℕ) (count limit : ℕ) → Left texts name rest bytes → rest ≡ Some []
    → now ≡ before ++ so_far name bytes false ∷ [] → after ≡ on_last (with_read count buf) now → count ≡ 0
    → 0 < length buf → length bytes ≤ limit
    → (t : Opened) × (after ≡ before ++ t ∷ []) × IsRead texts name limit t × (bytes ≡ t.bytes)
whole_left texts before now after name rest bytes buf count limit left end stood is none room short = (
  so_far name bytes true,
  read_end before now after name bytes buf count stood is none room,
  record { named = refl; whole = whole_of texts name rest bytes left end; short = short },
  refl,
)

pub split_on : (text front rest piece behind : List ℕ) (n : ℕ) → text ≡ front ++ rest → piece ≡ take n rest
    → behind ≡ drop n rest → text ≡ (front ++ take n rest) ++ behind
split_on text front rest piece behind n e p b =
    e ∙ ap (λ (l : List ℕ). front ++ l) (sym (take-append-drop n rest))
    ∙ sym (append_assoc front (take n rest) (drop n rest))
    ∙ ap (λ (l : List ℕ). (front ++ take n rest) ++ l) (sym b)

-- what was taken in two calls
pub taken_on : (a b c x y : List ℕ) → b ≡ a ++ x → c ≡ b ++ y → c ≡ a ++ (x ++ y)
taken_on a b c x y h k = k ∙ ap (λ (l : List ℕ). l ++ y) h ∙ append_assoc a x y
