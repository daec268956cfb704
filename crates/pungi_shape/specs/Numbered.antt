-- New numbers of tokens, and marks on tokens.
--   number_or n o           a number that is there, and else n
--   number_by m t           the number of a token; that after all others where it has none
--   no_numbers n            no token has a number, of n tokens
--   number_token t m, number_tokens ts m    a token gets the next number, unless it has one; so do these, in order
--   key_by m p              the numbers of a slot, with the new number of its base
--   dropped o b             the balance of a token that has no number, if it has a balance
--   mark h marks, mark_all hs marks    the token of a holding is marked; those of several are
--   kept_by marks p         a slot is kept: a global, or a field of a marked object
--   put_at o a b c          one of three lists, by an order: the first for less, the second for equal
--   put_spot m r rs, put_spots m rs    a slot in its place among others, in order; several
--   made_by made marks t    a made object that is marked
use Rattle.std.specs.Prelude.{ℕ, Bool, true, false, ◌&&◌, Option, Some, None, is_some, List, [], ◌∷◌}
use Rattle.std.specs.Prelude.{◌++◌, length, get_or, replicate, slice_set, if◌then◌else◌}
use Rattle.std.specs.Ordering.{nat_cmp}
use Rattle.std.specs.declared.cmp.Ordering.{Ordering}
use Rattle.std.specs.declared.cmp.Ordering.TheVariants.{Less, Equal, Greater}
use Rattle.std.specs.Cmp.Lexicographic.{slice_cmp}
use Rattle.pungi_shape.specs.declared.holding.Holding.{Holding}
use Rattle.pungi_shape.specs.declared.holding.Holding.TheVariants.{Token}
use Rattle.pungi_shape.specs.declared.numbering.Numbering.{Numbering}
use Rattle.pungi_shape.specs.declared.tracked.Spot.{Spot}
use Rattle.pungi_shape.specs.declared.tracked.Spot.TheVariants.{Global, Field}
use Rattle.pungi_shape.specs.declared.tracked.Tracked.{Tracked}
use Rattle.pungi_shape.specs.Forms.{Form}
use Rattle.pungi_shape.specs.Shapes.{numbers_of_spot, rename_spot}

-- ---- numbers

abbrev pub number_or : ℕ → Option ℕ → ℕ
number_or n None = n
number_or n (Some k) = k

abbrev pub number_by : Numbering → ℕ → ℕ
number_by m t = number_or (length m.tokens) (get_or m.numbers t None)

abbrev pub no_numbers : ℕ → Numbering
no_numbers n = record { numbers = replicate n None; tokens = [] }

abbrev pub number_token : ℕ → Numbering → Numbering
number_token t m =
    if is_some (get_or m.numbers t None) then m else
    record { numbers = slice_set m.numbers t (Some (length m.tokens)); tokens = m.tokens ++ t ∷ [] }

abbrev pub number_tokens : List ℕ → Numbering → Numbering
number_tokens [] m = m
number_tokens (t ∷ ts) m = number_tokens ts (number_token t m)

abbrev pub key_by : Numbering → Spot → List ℕ
key_by m p = numbers_of_spot (rename_spot (number_by m) p)

abbrev pub dropped : Option ℕ → Option Form → List Form
dropped None (Some f) = f ∷ []
dropped o b = []

-- ---- marks

abbrev pub mark : Holding → List Bool → List Bool
mark (Token t) marks = slice_set marks t true
mark h marks = marks

abbrev pub mark_all : List Holding → List Bool → List Bool
mark_all [] marks = marks
mark_all (h ∷ hs) marks = mark_all hs (mark h marks)

abbrev pub kept_by : List Bool → Spot → Bool
kept_by marks (Global n) = true
kept_by marks (Field b tag field) = get_or marks b false

abbrev pub made_by : List Bool → List Bool → ℕ → Bool
made_by made marks t = get_or made t false && get_or marks t false

-- ---- slots

abbrev pub put_at : Ordering → List Tracked → List Tracked → List Tracked → List Tracked
put_at Less a b c = a
put_at Equal a b c = b
put_at Greater a b c = c

abbrev pub put_spot : Numbering → Tracked → List Tracked → List Tracked
put_spot m r [] = r ∷ []
put_spot m r (q ∷ rs) =
    put_at (slice_cmp nat_cmp (key_by m r.spot) (key_by m q.spot)) (r ∷ q ∷ rs) (r ∷ rs) (q ∷ put_spot m r rs)

abbrev pub put_spots : Numbering → List Tracked → List Tracked
put_spots m [] = []
put_spots m (r ∷ rs) = put_spot m r (put_spots m rs)
