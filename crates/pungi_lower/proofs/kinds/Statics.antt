-- The number of a word's static object is that of one that is there.
use Rattle.std.proofs.Common.{◌≡◌, ℕ, ◌+◌, ◌-◌, ◌<◌, ◌≤◌, arith, Bool, true, false, List, [], ◌∷◌, length, refl}
use Rattle.std.specs.Prelude.{◌&&◌, ◌||◌, ◌==◌, not, nat_le, if◌then◌else◌}
use Rattle.std.proofs.lemmas.Bool.Decides.{nat_tests}
use Rattle.pungi_tree.specs.Syntax.{Item}
use Rattle.pungi_types.specs.Names.{is_among, type_objects, is_plain_static, is_type_object, is_built_in_static}
use Rattle.pungi_types.specs.Names.{is_table_name, is_own_static, place_among, static_number, statics_in}
use Rattle.pungi_resolve.proofs.Clean.{and_left, and_right, and_true}
use Rattle.pungi_layout.proofs.well_formed.Instructions.{le_true}

-- .. a word among the file's type objects
not_same : (x w : ℕ) → (x == w) ≡ false → (w == x) ≡ false
not_same x w h = grind (arith, nat_tests)

among_others : (a b : Bool) → a ≡ false → (a || b) ≡ true → b ≡ true
among_others true b h k = absurd (cc)
among_others false b h k = k

place_there : (ws : List ℕ) (w : ℕ) → is_among ws w ≡ true → place_among ws w < length ws
place_there [] w h = absurd (cc)
place_there (x ∷ ws) w h =
    elim (x == w) as (λ b. ((x == w) ≡ b) → (if b then 0 else place_among ws w + 1) < length (x ∷ ws)) [
      | true ↦ λ e. omega arith
      | false ↦ λ e.
          let l = place_there ws w (among_others (w == x) (is_among ws w) (not_same x w e) h) in
          omega (arith, l)
    ] refl

-- .. a built-in static
at_least : (m n : ℕ) → nat_le m n ≡ true → m ≤ n
at_least m n h = grind (arith, nat_tests)

below : (m n : ℕ) → nat_le m n ≡ false → n < m
below m n h = grind (arith, nat_tests)

is_false : (b : Bool) → not b ≡ true → b ≡ false
is_false true h = absurd (cc)
is_false false h = refl

is_not : (b : Bool) → b ≡ false → not b ≡ true
is_not true h = absurd (cc)
is_not false h = refl

not_least : (m n : ℕ) → n < m → nat_le m n ≡ false
not_least m n h = grind (arith, nat_tests)

-- from this word on, and before that one
range : (m n w : ℕ) → (nat_le m w && not (nat_le n w)) ≡ true → (m ≤ w) × (w < n)
range m n w h = (
  at_least m w (and_left (nat_le m w) (not (nat_le n w)) h),
  below n w (is_false (nat_le n w) (and_right (nat_le m w) (not (nat_le n w)) h)),
)

in_range : (m n w : ℕ) → m ≤ w → w < n → (nat_le m w && not (nat_le n w)) ≡ true
in_range m n w h k =
    and_true (nat_le m w) (not (nat_le n w)) (le_true m w h) (is_not (nat_le n w) (not_least n w k))

plain_built_in : (w : ℕ) → is_plain_static w ≡ true → is_built_in_static w ≡ true
plain_built_in w h = let r = range 79 97 w h in in_range 79 103 w r.0 (omega (arith, r.1))

type_built_in : (w : ℕ) → (nat_le 97 w && not (nat_le 103 w)) ≡ true → is_built_in_static w ≡ true
type_built_in w h = let r = range 97 103 w h in in_range 79 103 w (omega (arith, r.0)) r.1

-- .. either
-- a type object that isn't built in is the file's
among_file : (built among : Bool) (w : ℕ) → (built ≡ true → is_built_in_static w ≡ true)
    → is_built_in_static w ≡ false → (built || among) ≡ true → among ≡ true
among_file true among w f e h = let t = f refl in absurd (cc)
among_file false among w f e h = h

static_there : (file : List Item) (w : ℕ) → (is_built_in_static w ≡ false → is_among (type_objects file) w ≡ true)
    → static_number file w < statics_in file
static_there file w f =
    elim (is_built_in_static w) as (λ b. (is_built_in_static w ≡ b)
    → (if b then w - 79 else place_among (type_objects file) w + 24) < 24 + length (type_objects file)) [
      | true ↦ λ e. let r = range 79 103 w e in omega (arith, r.0, r.1)
      | false ↦ λ e. let l = place_there (type_objects file) w (f e) in omega (arith, l)
    ] refl

pub own_static_there : (file : List Item) (w : ℕ) → is_own_static file w ≡ true
    → static_number file w < statics_in file
own_static_there file w h =
    let b = plain_built_in w (and_left (is_plain_static w) (not (is_table_name file w)) h) in
    static_there file w (λ e. absurd (cc))

pub type_object_there : (file : List Item) (w : ℕ) → is_type_object file w ≡ true
    → static_number file w < statics_in file
type_object_there file w h =
    static_there file w (λ e. among_file (nat_le 97 w && not (nat_le 103 w)) (is_among (type_objects file) w) w
    (type_built_in w) e h)
