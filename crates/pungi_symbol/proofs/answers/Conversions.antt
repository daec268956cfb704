-- The ways in which an argument parser ends, by their numbers.
use Rattle.std.proofs.Common.{◌≡◌, ℕ, suc, ◌+◌, ◌-◌, ◌<◌, ◌≤◌, pos, negsuc, List, ◌++◌, length, map, ◌∙◌, arith}
use Rattle.std.specs.List.{range_with_len}
use Rattle.std.proofs.lemmas.List.{length-append, get_or_append_left, get_or-append_right, get_or_past}
use Rattle.std.proofs.lemmas.List.FromFn.{length-map-range_with_len, get_or-map-range_with_len}
use Rattle.pungi_symbol.specs.declared.states.mark.Mark.{Mark}
use Rattle.pungi_symbol.specs.declared.states.mark.Mark.TheVariants.{IsNull, IsConverted}
use Rattle.pungi_symbol.specs.states.Terms.{failed_after, converted_to, conversions, mark_at}

-- so many ways to fail from one on, then so many to succeed from one on
abbrev pub endings : ℕ → ℕ → ℕ → ℕ → List Mark
endings a f b n = map failed_after (range_with_len a f) ++ map converted_to (range_with_len b n)

pub endings_long : (a f b n : ℕ) → length (endings a f b n) ≡ f + n
endings_long a f b n =
    let failed = length-map-range_with_len failed_after a f in
    let converted = length-map-range_with_len converted_to b n in
    let all = length-append (map failed_after (range_with_len a f)) (map converted_to (range_with_len b n)) in
    omega (arith, all, failed, converted)

pub ending_failed : (a f b n k i : ℕ) → k < f → a + k ≡ i → mark_at (endings a f b n) k ≡ IsConverted (negsuc i)
ending_failed a f b n k i lt e =
    let long = length-map-range_with_len failed_after a f in
    get_or_append_left (map failed_after (range_with_len a f)) (map converted_to (range_with_len b n)) IsNull k
    (omega (arith, long, lt))
    ∙ get_or-map-range_with_len failed_after a f k i IsNull lt e

pub ending_converted : (a f b n k i : ℕ) → f ≤ k → k - f < n → b + (k - f) ≡ i
    → mark_at (endings a f b n) k ≡ IsConverted (pos i)
ending_converted a f b n k i le lt e =
    get_or-append_right (map failed_after (range_with_len a f)) (map converted_to (range_with_len b n)) f k IsNull
    (length-map-range_with_len failed_after a f) le
    ∙ get_or-map-range_with_len converted_to b n (k - f) i IsNull lt e

-- ---- as they are computed

pub conversions_long : (failures least most : ℕ)
    → length (conversions failures least most) ≡ failures + (suc most - least)
conversions_long failures least most = endings_long 0 failures least (suc most - least)

pub failed_at : (failures least most k : ℕ) → k < failures
    → mark_at (conversions failures least most) k ≡ IsConverted (negsuc k)
failed_at failures least most k lt =
    let here : 0 + k ≡ k = omega arith in ending_failed 0 failures least (suc most - least) k k lt here

pub converted_at : (failures least most k units : ℕ) → failures ≤ k → least + (k - failures) ≡ units → units ≤ most
    → mark_at (conversions failures least most) k ≡ IsConverted (pos units)
converted_at failures least most k units le e few =
    ending_converted 0 failures least (suc most - least) k units le (omega (arith, le, e, few)) e

pub none_at : (failures least most k : ℕ) → failures ≤ k → most < least + (k - failures)
    → mark_at (conversions failures least most) k ≡ IsNull
none_at failures least most k le past =
    let long = conversions_long failures least most in
    get_or_past (conversions failures least most) k IsNull (omega (arith, long, le, past))

pub ruleset by_number = (failed_at, converted_at, none_at)
