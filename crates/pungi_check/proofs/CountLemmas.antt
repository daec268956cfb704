-- What is known of the functions below a number, as loops over them go on.
use Rattle.std.proofs.Common.{◌≡◌, ℕ, zero, suc, ◌+◌, ◌<◌, Bool, true, false, List, [], ◌∷◌, ◌++◌, length, get_or, take}
use Rattle.std.proofs.Common.{Some, Vec, refl, ◌∙◌, sym, arith, length-append}
use Rattle.std.specs.Prelude.{◌==◌, nat_lt, ◌&&◌, ◌||◌, slice_get, is_some, if◌then◌else◌}
use Rattle.std.specs.declared.alloc.Global.{Global}
use Rattle.std.proofs.lemmas.Bool.Decides.{nat_tests}
use Rattle.std.proofs.lemmas.List.{take_more}
use Rattle.std.proofs.lemmas.Option.{slice_get_read}
use Rattle.std.proofs.lemmas.List.Folds.{list_any-append}
use Rattle.pungi_types.specs.Names.{is_among}
use Rattle.pungi_check.specs.CallGraph.{is_alone, is_call}
use Rattle.pungi_check.specs.Worklist.{callers_at, AreCallers, Added, NoCallers, Visited}
use Rattle.pungi_check.specs.declared.call_node.CallNode.{CallNode}
use Rattle.pungi_check.proofs.CallerLemmas.{and_none, added_then}
use Rattle.pungi_check.proofs.MarkLemmas.{visited_then, is_below}
use Rattle.pungi_check.proofs.ReachLemmas.{alone_within, call_within}

pub added_more : (a b c : List (Vec ℕ Global)) (i : ℕ) (xs : List ℕ) (k : ℕ) → k < length xs
    → Added a b i (take k xs) → Added b c i (get_or xs k 0 ∷ []) → Added a c i (take (k + 1) xs)
added_more a b c i xs k h f g = rw (take_more xs k 0 h) (added_then a b c i (take k xs) (get_or xs k 0 ∷ []) f g)

pub visited_more : (a b c : List Bool) (w v u : List ℕ) (xs : List ℕ) (k : ℕ) → k < length xs
    → Visited a b w v (take k xs) → Visited b c v u (get_or xs k 0 ∷ []) → Visited a c w u (take (k + 1) xs)
visited_more a b c w v u xs k h f g =
    rw (take_more xs k 0 h) (visited_then a b c w v u (take k xs) (get_or xs k 0 ∷ []) f g)

no_more : (cs : List (Vec ℕ Global)) (v : Vec ℕ Global) → v.items ≡ [] → ((j : ℕ) → callers_at cs j ≡ []) → (j : ℕ)
    → callers_at (cs ++ v ∷ []) j ≡ []
no_more [] v e h zero = e
no_more [] v e h (suc j) = refl
no_more (c ∷ cs) v e h zero = h zero
no_more (c ∷ cs) v e h (suc j) = no_more cs v e (λ i. h (suc i)) j

pub no_callers_start : NoCallers 0 []
no_callers_start = record { count = refl; none = λ j. refl }

pub no_callers_more : (n : ℕ) (cs : List (Vec ℕ Global)) (v : Vec ℕ Global) → v.items ≡ [] → NoCallers n cs
    → NoCallers (n + 1) (cs ++ v ∷ [])
no_callers_more n cs v e h = record {
  count = let l = length-append cs (v ∷ []) in let c = h.count in omega arith;
  none = no_more cs v e h.none;
}

-- the calls of the functions below k
pub record CallersBelow (fs : List CallNode) (cs : List (Vec ℕ Global)) (k : ℕ) : Type 0 where
  pub count : length cs ≡ length fs
  pub calls : (i j : ℕ) → j < length fs → is_among (callers_at cs j) i ≡ (nat_lt i k && is_call fs i j)

none_below : (i : ℕ) → nat_lt i 0 ≡ false
none_below i = grind (arith, nat_tests)

not_below_itself : (i k : ℕ) → (i == k) ≡ true → nat_lt i k ≡ false
not_below_itself i k h = grind (arith, nat_tests)

below_next : (i k : ℕ) → (i == k) ≡ true → nat_lt i (k + 1) ≡ true
below_next i k h = grind (arith, nat_tests)

below_before : (i k : ℕ) → (i == k) ≡ false → nat_lt i (k + 1) ≡ nat_lt i k
below_before i k h = grind (arith, nat_tests)

or_none : (a : Bool) → (a || false) ≡ a
or_none true = refl
or_none false = refl

and_one : (a : Bool) → (a || false) ≡ (a && true)
and_one true = refl
and_one false = refl

and_false : (a : Bool) → (a && false) ≡ false
and_false true = refl
and_false false = refl

one_below_more : (i k : ℕ) (c d : Bool) → ((i == k) ≡ true → d ≡ c)
    → ((nat_lt i k && c) || (i == k && d)) ≡ (nat_lt i (k + 1) && c)
one_below_more i k c d h =
    elim (i == k) as (λ b. ((i == k) ≡ b) → ((nat_lt i k && c) || (b && d)) ≡ (nat_lt i (k + 1) && c)) [
      | true ↦ λ e. rw (not_below_itself i k e, below_next i k e) (h e)
      | false ↦ λ e. rw (below_before i k e) (or_none (nat_lt i k && c))
    ] refl

pub callers_start : (fs : List CallNode) (cs : List (Vec ℕ Global)) (n : ℕ) → n ≡ length fs → NoCallers n cs
    → CallersBelow fs cs 0
callers_start fs cs n e h = record { count = h.count ∙ e; calls = λ i j l. rw (h.none j, none_below i) refl }

callees_same : (fs : List CallNode) (k j i : ℕ) (f : CallNode) → slice_get fs k ≡ Some f → (i == k) ≡ true
    → is_among f.callees.items j ≡ is_call fs i j
callees_same fs k j i f e h = let q : i ≡ k = grind (arith, nat_tests) in rw (q, e) refl

pub callers_more : (fs : List CallNode) (cs cs' : List (Vec ℕ Global)) (k : ℕ) (f : CallNode) → k < length fs
    → f ≡ get_or fs k f → CallersBelow fs cs k → Added cs cs' k f.callees.items → CallersBelow fs cs' (k + 1)
callers_more fs cs cs' k f h g b a = let e = slice_get_read fs (length fs) k f refl h g in record {
  count = a.count ∙ b.count;
  calls = λ i j l.
      let within : j < length cs = rw b.count l in
      rw (a.adds j i within, b.calls i j l) (one_below_more i k (is_call fs i j) (is_among f.callees.items j)
      (callees_same fs k j i f e));
}

and_below : (c : Bool) (i n : ℕ) → (c ≡ true → i < n) → (nat_lt i n && c) ≡ c
and_below true i n h = rw (is_below i n (h refl)) refl
and_below false i n h = and_false (nat_lt i n)

pub callers_end : (fs : List CallNode) (cs : List (Vec ℕ Global)) (k : ℕ) → k ≡ length fs → CallersBelow fs cs k
    → AreCallers fs cs
callers_end fs cs k e b =
    record {
      count = b.count;
      calls = λ i j l. b.calls i j l
          ∙ rw e (and_below (is_call fs i j) i (length fs) (call_within fs i j));
    }

-- those of the functions below k in which a rule holds alone
pub record AloneBelow (fs : List CallNode) (is : List ℕ) (k : ℕ) : Type 0 where
  pub alone : (i : ℕ) → is_among is i ≡ (nat_lt i k && is_alone fs i)

pub alone_start : (fs : List CallNode) → AloneBelow fs [] 0
alone_start fs = record { alone = λ i. rw (none_below i) refl }

alone_same : (fs : List CallNode) (k i : ℕ) (f : CallNode) → slice_get fs k ≡ Some f → (i == k) ≡ true
    → is_some f.alone ≡ is_alone fs i
alone_same fs k i f e h = let q : i ≡ k = grind (arith, nat_tests) in rw (q, e) refl

alone_more : (fs : List CallNode) (is : List ℕ) (k : ℕ) (f : CallNode) → slice_get fs k ≡ Some f
    → is_some f.alone ≡ true → AloneBelow fs is k → AloneBelow fs (is ++ k ∷ []) (k + 1)
alone_more fs is k f e t b = record {
  alone = λ i.
      rw (list_any-append (λ x. i == x) is (k ∷ []), b.alone i, and_one (i == k))
      (one_below_more i k (is_alone fs i) true (λ h. sym t ∙ alone_same fs k i f e h));
}

alone_less : (fs : List CallNode) (is : List ℕ) (k : ℕ) (f : CallNode) → slice_get fs k ≡ Some f
    → is_some f.alone ≡ false → AloneBelow fs is k → AloneBelow fs is (k + 1)
alone_less fs is k f e t b = record {
  alone = λ i.
      b.alone i ∙ (and_none (nat_lt i k && is_alone fs i) (i == k)
      ∙ one_below_more i k (is_alone fs i) false (λ h. sym t ∙ alone_same fs k i f e h));
}

pub alone_next : (fs : List CallNode) (is is' : List ℕ) (k : ℕ) (f : CallNode) → k < length fs → f ≡ get_or fs k f
    → AloneBelow fs is k → is' ≡ (if is_some f.alone then is ++ k ∷ [] else is) → AloneBelow fs is' (k + 1)
alone_next fs is is' k f h g b n =
    let e = slice_get_read fs (length fs) k f refl h g in
    rw n (elim (is_some f.alone) as (λ t. (is_some f.alone ≡ t)
    → AloneBelow fs (if t then is ++ k ∷ [] else is) (k + 1))
    [ true ↦ λ t. alone_more fs is k f e t b | false ↦ λ t. alone_less fs is k f e t b ] refl)

pub alone_end : (fs : List CallNode) (is : List ℕ) (k : ℕ) → k ≡ length fs → AloneBelow fs is k → (i : ℕ)
    → is_among is i ≡ is_alone fs i
alone_end fs is k e b i = b.alone i ∙ rw e (and_below (is_alone fs i) i (length fs) (alone_within fs i))
