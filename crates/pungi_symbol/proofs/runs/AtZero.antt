-- Computations in which each number that enters is 0: their results are fixed, one after another, and bounds say them.
use Rattle.std.proofs.Common.{◌≡◌, ℕ, zero, suc, ◌+◌, ◌<◌, ◌≤◌, ℤ, pos, ◌+ℤ◌, ◌-ℤ◌, List, [], ◌∷◌, ◌++◌, length}
use Rattle.std.proofs.Common.{get_or, map, Bool, true, false, refl, sym, ap, ◌∙◌, subst, arith, None, Some, cond}
use Rattle.std.proofs.Common.{length-append}
use Rattle.std.specs.Prelude.{All, nat_lt}
use Rattle.std.proofs.Math.ListN.{get_or-append}
use Rattle.std.proofs.Math.Seq.{get_or-append_seam}
use Rattle.std.proofs.lemmas.Int.{ints}
use Rattle.std.proofs.lemmas.Bool.Decides.{nat_tests}
use Rattle.std.proofs.lemmas.Bool.{ltb-true}
use Rattle.std.proofs.lemmas.List.Elements.{All-push}
use Rattle.pungi_base.specs.declared.value.Value.TheVariants as value
use Rattle.pungi_types.specs.declared.kind.ValueKind.TheVariants as kinds
use Rattle.pungi_meaning.specs.Values.{number_of, arithmetic, fits, in_range}
use Rattle.pungi_symbol.specs.declared.states.computation.Computation.{Computation}
use Rattle.pungi_symbol.specs.declared.states.known.Known.{Known}
use Rattle.pungi_symbol.specs.declared.states.limit.Limit.{Limit}
use Rattle.pungi_symbol.specs.declared.states.node.Node.{Node}
use Rattle.pungi_symbol.specs.declared.states.node.Node.TheVariants as nodes
use Rattle.pungi_symbol.specs.states.Terms.{Table, NodeBelow, node_value, sum_value, computed_at, value_at}
use Rattle.pungi_symbol.specs.runs.Fits.{IsMet, AreMet}
use Rattle.pungi_symbol.specs.runs.Paths.{Numbers, node_at, sum_at, IsMetBy, AreComputed, computation, no_computation}
use Rattle.pungi_symbol.specs.runs.AtZero.{IsZeroNode, result_of_two, result_at, HasResultAtZero, AreAtZero}
use Rattle.pungi_symbol.specs.runs.AtZero.{AreNeverAtZero, MeansAtZero, results_table, AreResults, Adds}
use Rattle.pungi_symbol.specs.runs.AtZero.{IsResultAtZero, SayResults}

-- ---- one more

same_element : {X : Type 0} (xs : List X) (i : ℕ) (d e : X) → i < length xs → get_or xs i d ≡ get_or xs i e
same_element [] i d e lt = absurd (omega (arith, lt))
same_element (x ∷ xs) zero d e lt = refl
same_element (x ∷ xs) (suc i) d e lt = same_element xs i d e (omega (arith, lt))

one_more : (P : ℕ → Type 0) (n : ℕ) → ((i : ℕ) → i < n → P i) → P n → (i : ℕ) → i < n + 1 → P i
one_more P n h here i lt = by (nat_lt i n) refl
  where
    by : (b : Bool) → nat_lt i n ≡ b → P i
    by true e = h i (ltb-true i n e)
    by false e =
        let ge : n ≤ i = grind (arith, nat_tests, e) in
        let same : n ≡ i = omega (arith, ge, lt) in
        subst P same here

met_less : (table : Table) (ls : List Limit) (l : Limit) → AreMet table (ls ++ l ∷ [])
    → AreMet table ls × IsMet table l
met_less table ls l h =
    let many = length-append ls (l ∷ []) in (
      λ i d lt. subst (IsMet table) (get_or-append ls (l ∷ []) d i lt) (h i d (omega (arith, lt, many))),
      subst (IsMet table) (get_or-append_seam ls l [] l) (h (length ls) l (omega (arith, many))),
    )

-- ---- bounds that say what a number is

pub adds_number : (ls new : List Limit) (x : Node) (n : ℤ)
    → new ≡ (ls ++ (record { x = x; y = nodes.Zero; c = n }) ∷ [])
    ++ (record { x = nodes.Zero; y = x; c = pos 0 -ℤ n }) ∷ []
    → Adds ls new (λ table. node_value table x ≡ n)
adds_number ls new x n is = record {
  only = λ table h.
      let second = met_less table (ls ++ below ∷ []) above (subst (AreMet table) is h) in
      let first = met_less table ls below second.0 in
      let le = first.1 in
      let ge = second.1 in
      (first.0, omega (arith, ints, le, ge));
  all = λ table h e. subst (AreMet table) (sym is) (All-push (IsMet table) (ls ++ below ∷ []) above
      (All-push (IsMet table) ls below h (omega (arith, ints, e))) (omega (arith, ints, e)));
}
  where
    below : Limit
    below = record { x = x; y = nodes.Zero; c = n }

    above : Limit
    above = record { x = nodes.Zero; y = x; c = pos 0 -ℤ n }

pub adds_result : (c : Computation) (j : ℕ) (n : ℤ) (before one two three : List Limit)
    → Adds before one (λ table. IsZeroNode table c.a.node) → Adds one two (λ table. IsZeroNode table c.b.node)
    → Adds two three (λ table. computed_at table j ≡ n) → Adds before three (λ table. IsResultAtZero table c j n)
adds_result c j n before one two three first second third = record {
  only = λ table h.
      let r = third.only table h in
      let q = second.only table r.0 in
      let p = first.only table q.0 in
      (p.0, record { a = p.1; b = q.1; is = r.1 });
  all = λ table h r. third.all table (second.all table (first.all table h r.a) r.b) r.is;
}

pub says_none : (cs : List Computation) (ns : List ℤ) → SayResults 0 cs ns []
says_none cs ns = record {
  only = λ table h j lt. absurd (omega (arith, lt));
  all = λ table h i d lt. absurd (omega (arith, lt));
}

pub says_more : (j : ℕ) (cs : List Computation) (ns : List ℤ) (ls new : List Limit) (z : Computation) (w : ℤ)
    → SayResults j cs ns ls → j < length cs → j < length ns
    → Adds ls new (λ table. IsResultAtZero table (get_or cs j z) j (get_or ns j w)) → SayResults (j + 1) cs ns new
says_more j cs ns ls new z w h here there more = record {
  only = λ table met.
      let r = more.only table met in
      one_more (λ i. IsResultAtZero table (get_or cs i no_computation) i (get_or ns i (pos 0))) j
      (h.only table r.0) (subst (λ c. IsResultAtZero table c j (get_or ns j (pos 0))) same_c
      (subst (λ n. IsResultAtZero table (get_or cs j z) j n) same_n r.1));
  all = λ table r. more.all table (h.all table (λ i lt. r i (omega (arith, lt))))
      (subst (λ c. IsResultAtZero table c j (get_or ns j w)) (sym same_c)
      (subst (λ n. IsResultAtZero table (get_or cs j no_computation) j n) (sym same_n) (r j (omega arith))));
}
  where
    same_c : get_or cs j z ≡ get_or cs j no_computation
    same_c = same_element cs j z no_computation here

    same_n : get_or ns j w ≡ get_or ns j (pos 0)
    same_n = same_element ns j w (pos 0) there

-- ---- what an operator gives

two_long : (c : Computation) (x y m : ℤ) (f g : Bool) → fits kinds.Long x ≡ f → fits kinds.Long y ≡ g
    → result_of_two c (cond f (Some x) None) (cond g (Some y) None) ≡ Some m
    → (fits kinds.Long x ≡ true) × ((fits kinds.Long y ≡ true) × (arithmetic c.op c.kind x y ≡ Some m))
two_long c x y m true true p q e = (p, (q, e))
two_long c x y m true false p q e = absurd (let bad : None ≡ Some m = e in cc)
two_long c x y m false g p q e = absurd (let bad : None ≡ Some m = e in cc)

module _ (table : Table) (c : Computation) (n : ℤ) where
  has_result : IsZeroNode table c.a.node → IsZeroNode table c.b.node → result_at table c ≡ Some n
      → HasResultAtZero table c n
  has_result a b is =
      let x = sum_value table c.a in
      let y = sum_value table c.b in
      let r = two_long c x y n (fits kinds.Long x) (fits kinds.Long y) refl refl is in
      record { a = a; b = b; long_a = r.0; long_b = r.1.0; is = r.1.1 }

  result_is : HasResultAtZero table c n → result_at table c ≡ Some n
  result_is h =
      let x = sum_value table c.a in
      let y = sum_value table c.b in
      ap (λ f. result_of_two c (cond f (Some x) None) (in_range kinds.Long y)) h.long_a
      ∙ ap (λ g. result_of_two c (Some x) (cond g (Some y) None)) h.long_b ∙ h.is

-- ---- the results, one after another

-- what takes results of computations that are the same gives the same
module _ (table : Table) (ns : List ℤ) (n : ℕ)
    (agree : (i : ℕ) → i < n → computed_at table i ≡ get_or ns i (pos 0)) where
  node_agrees : (x : Node) → NodeBelow n x → IsZeroNode table x → node_value table x ≡ node_value (results_table ns) x
  node_agrees nodes.Zero h is = refl
  node_agrees (nodes.Token t) h is = is
  node_agrees (nodes.Computed j) h is = agree j h

  result_agrees : (c : Computation) → NodeBelow n c.a.node × NodeBelow n c.b.node → IsZeroNode table c.a.node
      → IsZeroNode table c.b.node → result_at table c ≡ result_at (results_table ns) c
  result_agrees c h a b =
      ap (λ z. result_of_two c (in_range kinds.Long (z +ℤ c.a.plus)) (in_range kinds.Long (sum_value table c.b)))
      (node_agrees c.a.node h.0 a)
      ∙ ap (λ z. result_of_two c (in_range kinds.Long (sum_value (results_table ns) c.a))
      (in_range kinds.Long (z +ℤ c.b.plus))) (node_agrees c.b.node h.1 b)

-- where each token is 0, so is that of a node
zero_here : (ns : List ℤ) (x : Node) → IsZeroNode (results_table ns) x
zero_here ns nodes.Zero = tt
zero_here ns (nodes.Token t) = refl
zero_here ns (nodes.Computed j) = tt

pub no_results : (cs : List Computation) → AreResults 0 cs []
no_results cs = record {
  long = refl;
  earlier = λ j lt. absurd (omega (arith, lt));
  each = λ j lt. absurd (omega (arith, lt));
  only = λ table h j lt. absurd (omega (arith, lt));
}

module _ (n : ℕ) (cs : List Computation) (ns : List ℤ) (z : Computation) (so_far : AreResults n cs ns)
    (here : n < length cs)
    (before : NodeBelow (length ns) (get_or cs n z).a.node × NodeBelow (length ns) (get_or cs n z).b.node) where
  same_next : get_or cs n z ≡ get_or cs n no_computation
  same_next = same_element cs n z no_computation here

  next_earlier : NodeBelow n (get_or cs n no_computation).a.node × NodeBelow n (get_or cs n no_computation).b.node
  next_earlier = subst (λ c. NodeBelow n c.a.node × NodeBelow n c.b.node) same_next
      (subst (λ m. NodeBelow m (get_or cs n z).a.node × NodeBelow m (get_or cs n z).b.node) so_far.long before)

  -- the next result is that of any values of the tokens by which the computations are so
  next_is : (table : Table) → AreAtZero table cs
      → result_at (results_table ns) (get_or cs n z) ≡ Some (computed_at table n)
  next_is table h =
      let r = h n here in
      ap (result_at (results_table ns)) same_next
      ∙ sym (result_agrees table ns n (so_far.only table h) (get_or cs n no_computation) next_earlier r.a r.b)
      ∙ result_is table (get_or cs n no_computation) (computed_at table n) r

  pub no_next : result_at (results_table ns) (get_or cs n z) ≡ None → AreNeverAtZero cs
  no_next none table h =
      let bad : None ≡ Some (computed_at table n) = sym none ∙ next_is table h in cc

  pub next_results : (m : ℤ) → result_at (results_table ns) (get_or cs n z) ≡ Some m
      → AreResults (n + 1) cs (ns ++ m ∷ [])
  next_results m is = record {
    long = length-append ns (m ∷ []) ∙ ap (λ l. l + 1) so_far.long;
    earlier = one_more (λ j. NodeBelow j (get_or cs j no_computation).a.node
        × NodeBelow j (get_or cs j no_computation).b.node) n so_far.earlier next_earlier;
    each = one_more (λ j. result_at (results_table (ns ++ m ∷ [])) (get_or cs j no_computation)
        ≡ Some (get_or (ns ++ m ∷ []) j (pos 0))) n
        (λ j lt. still j (omega (arith, lt)) (so_far.earlier j lt) ∙ so_far.each j lt ∙ ap Some (sym (old j lt)))
        (still n (omega arith) next_earlier ∙ sym (ap (result_at (results_table ns)) same_next) ∙ is
        ∙ ap Some (sym last));
    only = λ table h. one_more (λ j. computed_at table j ≡ get_or (ns ++ m ∷ []) j (pos 0)) n
        (λ j lt. so_far.only table h j lt ∙ sym (old j lt))
        (same_some (computed_at table n) m (sym (next_is table h) ∙ is) ∙ sym last);
  }
    where
      old : (j : ℕ) → j < n → get_or (ns ++ m ∷ []) j (pos 0) ≡ get_or ns j (pos 0)
      old j lt = let long = so_far.long in get_or-append ns (m ∷ []) (pos 0) j (omega (arith, lt, long))

      last : get_or (ns ++ m ∷ []) n (pos 0) ≡ m
      last = ap (λ i. get_or (ns ++ m ∷ []) i (pos 0)) (sym so_far.long) ∙ get_or-append_seam ns m [] (pos 0)

      still : (j : ℕ) → j ≤ n → NodeBelow j (get_or cs j no_computation).a.node
          × NodeBelow j (get_or cs j no_computation).b.node
          → result_at (results_table (ns ++ m ∷ [])) (get_or cs j no_computation)
          ≡ result_at (results_table ns) (get_or cs j no_computation)
      still j le h =
          let c = get_or cs j no_computation in
          result_agrees (results_table (ns ++ m ∷ [])) ns j (λ i lt. old i (omega (arith, lt, le))) c h
          (zero_here (ns ++ m ∷ []) c.a.node) (zero_here (ns ++ m ∷ []) c.b.node)

      same_some : (a b : ℤ) → Some a ≡ Some b → a ≡ b
      same_some a b e = cc

-- ---- bounds that say the results

pub means_at_zero : (cs : List Computation) (ns : List ℤ) (ls : List Limit) → AreResults (length cs) cs ns
    → SayResults (length cs) cs ns ls → MeansAtZero cs ls
means_at_zero cs ns ls r s = record {
  only = λ table met j lt.
      let p = s.only table met j lt in
      has_result table (get_or cs j no_computation) (computed_at table j) p.a p.b
      (result_agrees table ns j (λ i il. (s.only table met i (omega (arith, il, lt))).is)
      (get_or cs j no_computation) (r.earlier j lt) p.a p.b ∙ r.each j lt ∙ ap Some (sym p.is));
  all = λ table h. s.all table (λ j lt.
      let p = h j lt in record { a = p.a; b = p.b; is = r.only table h j lt });
}

-- ---- numbers that meet them

module _ (ns : Numbers) where
  abbrev Given : Table
  Given = record { values = map value.Int ns.tokens; computed = ns.computed }

  token_same : (zs : List ℤ) (t : ℕ) → number_of (value_at (map value.Int zs) t) ≡ get_or zs t (pos 0)
  token_same [] t = refl
  token_same (z ∷ zs) zero = refl
  token_same (z ∷ zs) (suc t) = token_same zs t

  node_same : (x : Node) → node_value Given x ≡ node_at ns x
  node_same nodes.Zero = refl
  node_same (nodes.Token t) = token_same ns.tokens t
  node_same (nodes.Computed j) = refl

  met_same : (ls : List Limit) → All (IsMetBy ns) ls → AreMet Given ls
  met_same ls h i d lt =
      let l = get_or ls i d in
      let met = h i d lt in
      let a = node_same l.x in
      let b = node_same l.y in
      omega (arith, ints, met, a, b)

  pub are_computed : (k : Known) (ls : List Limit) → MeansAtZero k.computed ls → All (IsMetBy ns) ls → AreComputed k ns
  are_computed k ls means met j lt =
      let c = computation k j in
      let r = means.only Given (met_same ls met) j lt in
      ap (λ z. arithmetic c.op c.kind (z +ℤ c.a.plus) (sum_at ns c.b)) (sym (node_same c.a.node))
      ∙ ap (λ z. arithmetic c.op c.kind (sum_value Given c.a) (z +ℤ c.b.plus)) (sym (node_same c.b.node))
      ∙ r.is
