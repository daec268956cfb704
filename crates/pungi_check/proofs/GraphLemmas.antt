-- The graph that is made of a file's functions is their call graph.
use Rattle.std.proofs.Common.{◌≡◌, ◌≤◌, ℕ, zero, suc, ◌+◌, Bool, true, false, List, [], ◌∷◌, length, map, Option, Some}
use Rattle.std.proofs.Common.{None, refl, sym, ap, subst, ◌∙◌, arith}
use Rattle.std.specs.Prelude.{◌==◌, ◌||◌, slice_get, is_some, option_map, if◌then◌else◌}
use Rattle.std.proofs.lemmas.Bool.Decides.{nat_tests}
use Rattle.pungi_types.specs.Files.{SourceFile, Definition, definitions, number_in}
use Rattle.pungi_types.specs.Names.{is_among, with_word}
use Rattle.pungi_check.specs.Calls.{called_words}
use Rattle.pungi_check.specs.CallGraph.{alone_in, callees_in, IsCallGraph}
use Rattle.pungi_check.specs.declared.call_node.CallNode.{CallNode}
use Rattle.pungi_check.specs.Distinct.{are_new}
use Rattle.pungi_check.specs.Graph.{as_list, callees, Node, node_view, node_of, graph_of}
use Rattle.pungi_check.proofs.DistinctLemmas.{any-append, and-right, kept, later-new, not-both, is-false, or-false}
use Rattle.pungi_check.proofs.DistinctLemmas.{is_word}

number-from : (i : ℕ) (ds : List Definition) (w k : ℕ) → number_in i ds w ≡ Some k → i ≤ k
number-from i [] w k h = absurd (cc)
number-from i (d ∷ ds) w k h =
    elim (d.name.0 == w) as (λ b. (if b then Some i else number_in (i + 1) ds w) ≡ Some k → i ≤ k) [
      | true ↦ λ e. let same : i ≡ k = cc in omega (arith, same)
      | false ↦ λ e. let later : i + 1 ≤ k = number-from (i + 1) ds w k e in omega (arith, later)
    ] h

abbrev is_number : Option ℕ → ℕ → Bool
is_number None j = false
is_number (Some k) j = j == k

found-among : (o : Option ℕ) (j : ℕ) → is_among (as_list o) j ≡ is_number o j
found-among None j = refl
found-among (Some k) j = or-false (j == k)

equal-here : (i : ℕ) → (i + 0 == i) ≡ true
equal-here i = grind (arith, nat_tests)

unequal-above : (i k : ℕ) → i + 1 ≤ k → (i + 0 == k) ≡ false
unequal-above i k h = grind (arith, nat_tests)

unequal-below : (i j : ℕ) → (i + suc j == i) ≡ false
unequal-below i j = grind (arith, nat_tests)

number-above : (i : ℕ) (ds : List Definition) (w : ℕ) → is_number (number_in (i + 1) ds w) (i + 0) ≡ false
number-above i ds w =
    elim (number_in (i + 1) ds w) as (λ o. (number_in (i + 1) ds w ≡ o) → is_number o (i + 0) ≡ false) [
      | None ↦ λ e. refl
      | (Some k) ↦ λ e. unequal-above i k (number-from (i + 1) ds w k e)
    ] refl

one-further : (i j : ℕ) → i + 1 + j ≡ i + suc j
one-further i j = omega arith

-- the number that is found for a word is that of the function of this name
number-is : (i : ℕ) (ws : List ℕ) (ds : List Definition) (w j : ℕ) (e : Definition) → are_new ws ds ≡ true
    → slice_get ds j ≡ Some e
    → is_number (number_in i ds w) (i + j) ≡ (e.name.0 == w)
number-is i ws [] w j e n s = absurd (cc)
number-is i ws (d ∷ ds) w zero e n s =
    let same : d ≡ e = cc in
    subst (λ (x : Definition). is_number (number_in i (d ∷ ds) w) (i + 0) ≡ (x.name.0 == w)) same
    (elim (d.name.0 == w) as (λ b. is_number (if b then Some i else number_in (i + 1) ds w) (i + 0) ≡ b) [
      | true ↦ equal-here i
      | false ↦ number-above i ds w
    ])
number-is i ws (d ∷ ds) w (suc j) e n s =
    let rest = and-right (is_among ws d.name.0) (are_new (with_word ws d.name.0) ds) n in
    elim (d.name.0 == w) as (λ b. ((d.name.0 == w) ≡ b)
    → is_number (if b then Some i else number_in (i + 1) ds w) (i + suc j) ≡ (e.name.0 == w)) [
      | true ↦ λ h. unequal-below i j ∙ sym (is-false (e.name.0 == w) (λ k.
          not-both (is_among (with_word ws d.name.0) e.name.0)
          (subst (λ (x : ℕ). is_among (with_word ws d.name.0) x
          ≡ true) (is_word d.name.0 w h ∙ sym (is_word e.name.0 w k)) (kept ws d.name.0))
          (later-new (with_word ws d.name.0) ds j e rest s)))
      | false ↦ λ h. ap (λ n. is_number (number_in (i + 1) ds w) n) (sym (one-further i j))
          ∙ number-is (i + 1) (with_word ws d.name.0) ds w j e rest s
    ] refl

from-zero : (j : ℕ) → j ≡ 0 + j
from-zero j = omega arith

callees-among : (ds : List Definition) (ws : List ℕ) (j : ℕ) (e : Definition) → are_new [] ds ≡ true
    → slice_get ds j ≡ Some e
    → is_among (callees (number_in 0 ds) ws) j ≡ is_among ws e.name.0
callees-among ds [] j e n s = refl
callees-among ds (w ∷ ws) j e n s =
    any-append (λ x. j == x) (as_list (number_in 0 ds w)) (callees (number_in 0 ds) ws)
    ∙ ap (λ b. b || is_among (callees (number_in 0 ds) ws) j) (found-among (number_in 0 ds w) j
    ∙ ap (λ (k : ℕ). is_number (number_in 0 ds w) k) (from-zero j) ∙ number-is 0 [] ds w j e n s)
    ∙ ap (λ b. (e.name.0 == w) || b) (callees-among ds ws j e n s)

slice-map : (A B : Type 0) (f : A → B) (xs : List A) (i : ℕ) → slice_get (map f xs) i ≡ option_map f (slice_get xs i)
slice-map A B f [] i = refl
slice-map A B f (x ∷ xs) zero = refl
slice-map A B f (x ∷ xs) (suc i) = slice-map A B f xs i

length-map : (A B : Type 0) (f : A → B) (xs : List A) → length (map f xs) ≡ length xs
length-map A B f [] = refl
length-map A B f (x ∷ xs) = ap suc (length-map A B f xs)

abbrev node_alone : Option Node → Bool
node_alone None = false
node_alone (Some n) = is_some n.alone

abbrev node_calls : Option Node → List ℕ
node_calls None = []
node_calls (Some n) = n.calls

alone-view : (o : Option CallNode) → alone_in o ≡ node_alone (option_map node_view o)
alone-view None = refl
alone-view (Some f) = refl

calls-view : (o : Option CallNode) → callees_in o ≡ node_calls (option_map node_view o)
calls-view None = refl
calls-view (Some f) = refl

node-at : (file : SourceFile) (fs : List CallNode) → map node_view fs ≡ graph_of file
    → (i : ℕ) (d : Definition) → slice_get (definitions file.items) i ≡ Some d
    → option_map node_view (slice_get fs i) ≡ Some (node_of file (number_in 0 (definitions file.items)) d)
node-at file fs made i d s =
    sym (slice-map CallNode Node node_view fs i) ∙ ap (λ ns. slice_get ns i) made
    ∙ slice-map Definition Node (node_of file (number_in 0 (definitions file.items))) (definitions file.items) i
    ∙ ap (λ o. option_map (node_of file (number_in 0 (definitions file.items))) o) s

-- the graph of a file whose functions have distinct names is its call graph
pub call-graph : (file : SourceFile) (fs : List CallNode) → are_new [] (definitions file.items) ≡ true
    → map node_view fs ≡ graph_of file → IsCallGraph file fs
call-graph file fs new made = record {
  count = sym (length-map CallNode Node node_view fs) ∙ ap length made
      ∙ length-map Definition Node (node_of file (number_in 0 (definitions file.items))) (definitions file.items);
  alone = λ i d s. alone-view (slice_get fs i) ∙ ap node_alone (node-at file fs made i d s);
  calls = λ i j d e s t.
      ap (λ ws. is_among ws j) (calls-view (slice_get fs i) ∙ ap node_calls (node-at file fs made i d s))
      ∙ callees-among (definitions file.items) (called_words d) j e new t;
}
