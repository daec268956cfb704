-- What begins with a mark that begins neither a comment nor a number.
use Rattle.std.proofs.Common.{◌≡◌, ℕ, ◌<◌, Bool, true, false, ◌==◌, ◌&&◌, ◌||◌, not, cond, List, [], ◌∷◌, length}
use Rattle.std.proofs.Common.{get_or, refl, arith}
use Rattle.std.specs.Prelude.{codes}
use Rattle.pungi_lex.specs.declared.line.Line.{Line}
use Rattle.pungi_lex.specs.declared.start.Start.TheVariants as start
use Rattle.pungi_lex.specs.Bytes.{is_one_of, is_blank, is_digit, is_letter, is_in_line, begins}
use Rattle.pungi_lex.specs.Start.{is_mark, is_after_include, start_of, starts_bare}
use Rattle.pungi_lex.proofs.ClassLemmas.{agree_below, agree_at}

abbrev pub is_plain : ℕ → Bool
is_plain b = is_one_of (codes "()[]{};,-+&*~!%<>=^|?:#") b

abbrev pub is_clear : ℕ → Bool
is_clear b = not (is_blank b || 47 == b || is_letter b || is_digit b || b == 46 || 39 == b || 34 == b) && is_mark b

abbrev pub if_plain : ℕ → Bool
if_plain b = cond (is_plain b) (is_clear b) true

all_clear : (b : ℕ) → b < 256 → if_plain b ≡ true
unfolding agree_below
all_clear b lt = agree_at if_plain (λ _. true) 256 refl b lt

clear_of : (p c : Bool) → cond p c true ≡ true → p ≡ true → c ≡ true
clear_of true c h is = h
clear_of false c h is = absurd cc

-- what begins, by the tests on its first byte and on what follows
shape : (k s l d p c q m x y z : Bool) → (not (k || s || l || d || p || c || q) && m) ≡ true
    → cond k start.Blank (cond (s && x) start.LineComment (cond (s && y) start.Comment
    (cond l start.Word (cond (d || (p && z)) start.Number (cond (c && true) start.Char
    (cond (q && true) start.Text (cond m start.Mark start.Nothing))))))) ≡ start.Mark
shape true s l d p c q m x y z h = absurd cc
shape false true l d p c q m x y z h = absurd cc
shape false false true d p c q m x y z h = absurd cc
shape false false false true p c q m x y z h = absurd cc
shape false false false false true c q m x y z h = absurd cc
shape false false false false false true q m x y z h = absurd cc
shape false false false false false false true m x y z h = absurd cc
shape false false false false false false false true x y z h = refl
shape false false false false false false false false x y z h = absurd cc

bare : (text : List ℕ) → 0 < length text → get_or text 0 0 < 256 → is_plain (get_or text 0 0) ≡ true
    → starts_bare text ≡ start.Mark
bare [] some lt is = absurd (omega arith)
bare (b ∷ text) some lt is =
    shape (is_blank b) (47 == b) (is_letter b) (is_digit b) (b == 46) (39 == b) (34 == b) (is_mark b) _ _ _
    (clear_of (is_plain b) (is_clear b) (all_clear b lt) is)

pub plain_starts : (line : Line) (text : List ℕ) → 0 < length text → get_or text 0 0 < 256
    → is_plain (get_or text 0 0) ≡ true → (is_after_include line && begins is_in_line text) ≡ false
    → start_of line text ≡ start.Mark
plain_starts line text some lt is other = rw other (bare text some lt is)
