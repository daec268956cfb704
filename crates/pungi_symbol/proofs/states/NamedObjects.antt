-- The balances of the tokens that name an object, after a change.
use Rattle.std.proofs.Common.{◌≡◌, ◌≢◌, ℕ, zero, suc, ◌<◌, ℤ, pos, ◌+ℤ◌, ◌-ℤ◌, List, [], ◌∷◌, ◌++◌, length, Bool, true}
use Rattle.std.proofs.Common.{false, sym, ap, ◌∙◌, arith}
use Rattle.std.specs.Prelude.{slice_set, if◌then◌else◌}
use Rattle.std.proofs.Math.ListN.{length-set}
use Rattle.std.proofs.lemmas.Int.{ints}
use Rattle.std.proofs.lemmas.List.{get_or-set_other}
use Rattle.pungi_base.specs.declared.value.Value.{Value}
use Rattle.pungi_symbol.specs.states.Terms.{value_at}
use Rattle.pungi_symbol.specs.answers.SymbolicState.{balance_at, gather_at}
use Rattle.pungi_symbol.specs.runs.Fits.{is_the, named}

-- a part of a number
abbrev pub part : Bool → ℤ → ℤ
part b d = if b then d else pos 0

part_add : (b : Bool) (x d rest : ℤ) → part b (x +ℤ d) +ℤ rest ≡ (part b x +ℤ rest) +ℤ part b d
part_add true x d rest = omega (arith, ints)
part_add false x d rest = omega (arith, ints)

pub named_set : (o : ℕ) (values : List Value) (bs : List ℤ) (t : ℕ) (d : ℤ) → t < length bs
    → named o values (slice_set bs t (balance_at bs t +ℤ d))
    ≡ named o values bs +ℤ part (is_the o (value_at values t)) d
named_set o values [] t d h = absurd (omega arith)
named_set o [] (b ∷ bs) zero d h = omega (arith, ints)
named_set o [] (b ∷ bs) (suc t) d h = omega (arith, ints)
named_set o (v ∷ values) (b ∷ bs) zero d h = part_add (is_the o v) b d (named o values bs)
named_set o (v ∷ values) (b ∷ bs) (suc t) d h =
    let e = named_set o values bs t d (omega arith) in
    omega (arith, ints, e)

pub named_end : (o : ℕ) (values : List Value) (bs : List ℤ) (d : ℤ)
    → named o values (bs ++ d ∷ []) ≡ named o values bs +ℤ part (is_the o (value_at values (length bs))) d
named_end o [] [] d = omega (arith, ints)
named_end o (v ∷ values) [] d = omega (arith, ints)
named_end o [] (b ∷ bs) d = omega (arith, ints)
named_end o (v ∷ values) (b ∷ bs) d =
    let e = named_end o values bs d in
    omega (arith, ints, e)

part_off : (b : Bool) (d n : ℤ) → (n +ℤ part b d) +ℤ part b (pos 0 -ℤ d) ≡ n
part_off true d n = omega (arith, ints)
part_off false d n = omega (arith, ints)

add_off : (d : ℤ) → d +ℤ (pos 0 -ℤ d) ≡ pos 0
add_off d = omega (arith, ints)

pub named_gather : (o : ℕ) (values : List Value) (bs : List ℤ) (c d : ℕ) → c < length bs → d < length bs → d ≢ c
    → value_at values c ≡ value_at values d → named o values (gather_at c d bs) ≡ named o values bs
named_gather o values bs c d hc hd ne e =
    let one = slice_set bs c (balance_at bs c +ℤ balance_at bs d) in
    let long : d < length one = simp length-set hd in
    let same : balance_at one d ≡ balance_at bs d = get_or-set_other bs c d (balance_at bs c +ℤ balance_at bs d)
    (pos 0) ne in
    let off : balance_at one d +ℤ (pos 0 -ℤ balance_at bs d)
    ≡ pos 0 = ap (λ x. x +ℤ (pos 0 -ℤ balance_at bs d)) same ∙ add_off (balance_at bs d) in
    let first = named_set o values bs c (balance_at bs d) hc in
    let second = named_set o values one d (pos 0 -ℤ balance_at bs d) long in
    let there : named o values (slice_set one d (balance_at one d +ℤ (pos 0 -ℤ balance_at bs d)))
    ≡ named o values (gather_at c d bs) = ap (λ x. named o values (slice_set one d x)) off in
    sym there ∙ second
    ∙ ap (λ x. x +ℤ part (is_the o (value_at values d)) (pos 0 -ℤ balance_at bs d)) first
    ∙ ap (λ v. (named o values bs +ℤ part (is_the o v) (balance_at bs d)) +ℤ part (is_the o (value_at values d))
    (pos 0 -ℤ balance_at bs d)) e
    ∙ part_off (is_the o (value_at values d)) (balance_at bs d) (named o values bs)
