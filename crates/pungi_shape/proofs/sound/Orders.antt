-- How two numbers compare.
--   AreOrdered o i j        two numbers compare so
use Rattle.std.proofs.Common.{◌≡◌, true, false, not, [], ◌∷◌, refl, sym, ap, ◌∙◌, subst, arith, Option, Some, None, ℤ}
use Rattle.std.specs.Prelude.{int_lt, int_le, ◌<ℤ◌}
use Rattle.std.specs.List.{IsAmong}
use Rattle.std.specs.Ordering.{int_cmp, int_eq, MatchOrdering}
use Rattle.std.specs.declared.cmp.Ordering.{Ordering}
use Rattle.std.specs.declared.cmp.Ordering.TheVariants.{Less, Equal, Greater}
use Rattle.std.specs.Cmp.{int_ranks}
use Rattle.std.proofs.lemmas.Bool.Decides.{Decides-int_eq}
use Rattle.std.proofs.lemmas.Int.{ints}
use Rattle.pungi_base.specs.declared.value.Value.TheVariants as value
use Rattle.pungi_domain.specs.Vectors.{Vector}
use Rattle.pungi_meaning.specs.declared.cmp.Cmp.{Cmp}
use Rattle.pungi_meaning.specs.declared.cmp.Cmp.TheVariants as cmps
use Rattle.pungi_meaning.specs.Values.{holds}
use Rattle.pungi_code.specs.declared.atom.Atom.{Atom}
use Rattle.pungi_shape.specs.Scenes.{Scene, holding_of}
use Rattle.pungi_shape.specs.Numbers.{constant_of, known_by, either, value_by}
use Rattle.pungi_shape.specs.Comparisons.{orders, is_so}
use Rattle.pungi_shape.specs.Described.{Naming}
use Rattle.pungi_shape.proofs.sound.Views.{View}
use Rattle.pungi_shape.proofs.sound.Arithmetic.{IsConstant, constant_is, known_is, IsNumberAt}

-- ---- numbers

abbrev pub AreOrdered : Ordering → ℤ → ℤ → Type 0
AreOrdered o i j = MatchOrdering o (i <ℤ j) (i ≡ j) (j <ℤ i)

pub ordered : (i j : ℤ) (o : Ordering) → int_cmp i j ≡ o → AreOrdered o i j
ordered i j o e = subst (λ r. AreOrdered r i j) e (int_ranks i j)

lt_is : (i j : ℤ) → i <ℤ j → int_lt i j ≡ true
lt_is i j lt = grind (arith, ints)

lt_not : (i j : ℤ) → i <ℤ j → int_lt j i ≡ false
lt_not i j lt = grind (arith, ints)

lt_le : (i j : ℤ) → i <ℤ j → int_le i j ≡ true
lt_le i j lt = grind (arith, ints)

lt_not_le : (i j : ℤ) → i <ℤ j → int_le j i ≡ false
lt_not_le i j lt = grind (arith, ints)

pub lt_not_eq : (i j : ℤ) → i <ℤ j → int_eq i j ≡ false
lt_not_eq i j lt = grind (arith, ints)

pub gt_not_eq : (i j : ℤ) → i <ℤ j → int_eq j i ≡ false
gt_not_eq i j lt = grind (arith, ints)

pub eq_is : (i : ℤ) → int_eq i i ≡ true
eq_is i = (Decides-int_eq i i).1 refl

eq_not_lt : (i : ℤ) → int_lt i i ≡ false
eq_not_lt i = grind (arith, ints)

eq_le : (i : ℤ) → int_le i i ≡ true
eq_le i = grind (arith, ints)

so_less : (c : Cmp) (i j : ℤ) → i <ℤ j → holds c (value.Int i) (value.Int j) ≡ is_so c Less
so_less cmps.Equal i j lt = lt_not_eq i j lt
so_less cmps.NotEqual i j lt = ap not (lt_not_eq i j lt)
so_less cmps.Less i j lt = lt_is i j lt
so_less cmps.LessEqual i j lt = lt_le i j lt
so_less cmps.Greater i j lt = lt_not i j lt
so_less cmps.GreaterEqual i j lt = lt_not_le i j lt

so_equal : (c : Cmp) (i : ℤ) → holds c (value.Int i) (value.Int i) ≡ is_so c Equal
so_equal cmps.Equal i = eq_is i
so_equal cmps.NotEqual i = ap not (eq_is i)
so_equal cmps.Less i = eq_not_lt i
so_equal cmps.LessEqual i = eq_le i
so_equal cmps.Greater i = eq_not_lt i
so_equal cmps.GreaterEqual i = eq_le i

so_greater : (c : Cmp) (i j : ℤ) → j <ℤ i → holds c (value.Int i) (value.Int j) ≡ is_so c Greater
so_greater cmps.Equal i j lt = gt_not_eq j i lt
so_greater cmps.NotEqual i j lt = ap not (gt_not_eq j i lt)
so_greater cmps.Less i j lt = lt_not j i lt
so_greater cmps.LessEqual i j lt = lt_not_le j i lt
so_greater cmps.Greater i j lt = lt_is j i lt
so_greater cmps.GreaterEqual i j lt = lt_le j i lt

-- a comparison holds as the order of the numbers says
pub compares_so : (c : Cmp) (i j : ℤ) (o : Ordering) → int_cmp i j ≡ o
    → holds c (value.Int i) (value.Int j) ≡ is_so c o
compares_so c i j Less e = so_less c i j (ordered i j Less e)
compares_so c i j Equal e =
    ap (λ z. holds c (value.Int i) (value.Int z)) (sym (ordered i j Equal e)) ∙ so_equal c i
compares_so c i j Greater e = so_greater c i j (ordered i j Greater e)

all_orders : (o : Ordering) → IsAmong (Less ∷ Equal ∷ Greater ∷ []) o
all_orders Less = (0, (omega arith, refl))
all_orders Equal = (1, (omega arith, refl))
all_orders Greater = (2, (omega arith, refl))

pub orders_have : (p q : Option ℤ) (i j : ℤ) → IsConstant p i → IsConstant q j → IsAmong (orders p q) (int_cmp i j)
orders_have None q i j is js = all_orders (int_cmp i j)
orders_have (Some m) None i j is js = all_orders (int_cmp i j)
orders_have (Some m) (Some n) i j is js =
    (0, (omega arith, ap (λ z. int_cmp z j) (is m refl) ∙ ap (λ z. int_cmp m z) (js n refl)))

pub either_is : (p q : Option ℤ) (i : ℤ) → IsConstant p i → IsConstant q i → IsConstant (either p q) i
either_is None q i is js = js
either_is (Some m) q i is js = is

pub value_is : (s : Scene) (names : Naming) (v : Vector) (o : View) (a : Atom) (i : ℤ) → IsNumberAt s names v o a i
    → IsConstant (value_by s a) i
value_is s names v o a i at =
    either_is (constant_of a) (known_by s a) i (constant_is o a i at.read) (known_is names (holding_of s a) i at.holds)
