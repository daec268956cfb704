-- The functions from which calls lead to one that is refused alone are the least set of refused functions.
use Rattle.std.proofs.Common.{◌≡◌, ℕ, zero, suc, ◌<◌, Bool, true, false, List, [], ◌∷◌, length, get_or, Some, refl, ◌∙◌}
use Rattle.std.proofs.Common.{sym, arith}
use Rattle.std.specs.Prelude.{◌==◌, ◌||◌, is_some, slice_get, if◌then◌else◌}
use Rattle.std.specs.List.{list_any}
use Rattle.std.proofs.lemmas.Bool.Decides.{nat_tests}
use Rattle.pungi_types.specs.Files.{SourceFile, Definition, definitions, definition_in}
use Rattle.pungi_types.specs.Names.{is_among, is_some_definition}
use Rattle.pungi_types.specs.Functions.{refusal}
use Rattle.pungi_types.specs.Refused.{Holds, IsRefusedSet}
use Rattle.pungi_check.specs.Calls.{called_words}
use Rattle.pungi_check.specs.CallGraph.{Reaches, alone, by_call, IsReached, IsCallGraph, refused_names}
use Rattle.pungi_check.specs.declared.call_node.CallNode.{CallNode}
use Rattle.pungi_check.proofs.Places.{refused_call}
use Rattle.pungi_check.proofs.Agreement.{or-left, or-right}
use Rattle.pungi_check.proofs.SameFunctions.{world_of}
use Rattle.pungi_check.proofs.FindsFunctions.{refusal-finds}
use Rattle.pungi_check.proofs.Monotone.{same_word, in_set, refusal-alone, refusal-grows}

-- a marked definition of this name
pub record Marked (ds : List Definition) (marks : List Bool) (w : ℕ) : Type 0 where
  pub number : ℕ
  pub definition : Definition
  pub is : slice_get ds number ≡ Some definition
  pub named : definition.name.0 ≡ w
  pub marked : get_or marks number false ≡ true

later : (d : Definition) (ds : List Definition) (b : Bool) (marks : List Bool) (w : ℕ) → Marked ds marks w
    → Marked (d ∷ ds) (b ∷ marks) w
later d ds b marks w m =
    record { number = suc m.number; definition = m.definition; is = m.is; named = m.named; marked = m.marked }

pub is_word : (v w : ℕ) → (v == w) ≡ true → w ≡ v
is_word v w h = grind (arith, nat_tests)

pub names-from : (ds : List Definition) (marks : List Bool) (w : ℕ) → is_among (refused_names ds marks) w ≡ true
    → Marked ds marks w
names-from [] marks w h = absurd (cc)
names-from (d ∷ ds) [] w h = absurd (cc)
names-from (d ∷ ds) (false ∷ marks) w h = later d ds false marks w (names-from ds marks w h)
names-from (d ∷ ds) (true ∷ marks) w h =
    elim (w == d.name.0) as (λ b. ((w == d.name.0) ≡ b) → (b || is_among (refused_names ds marks) w) ≡ true
    → Marked (d ∷ ds) (true ∷ marks) w) [
      | true ↦ λ e k. record { number = zero; definition = d; is = refl; named = is_word w d.name.0 e; marked = refl }
      | false ↦ λ e k. later d ds true marks w (names-from ds marks w k)
    ] refl h

pub named-in : (ds : List Definition) (marks : List Bool) (i : ℕ) (d : Definition) → slice_get ds i ≡ Some d
    → get_or marks i false ≡ true → is_among (refused_names ds marks) d.name.0 ≡ true
named-in [] marks i d e m = absurd (cc)
named-in (c ∷ ds) [] i d e m = absurd (cc)
named-in (c ∷ ds) (true ∷ marks) zero d e m = let same : c ≡ d = cc in rw same (or-left _ _ (same_word d.name.0))
named-in (c ∷ ds) (false ∷ marks) zero d e m = absurd (cc)
named-in (c ∷ ds) (true ∷ marks) (suc i) d e m =
    or-right (d.name.0 == c.name.0) (is_among (refused_names ds marks) d.name.0) (named-in ds marks i d e m)
named-in (c ∷ ds) (false ∷ marks) (suc i) d e m = named-in ds marks i d e m

-- a word of a list of which a test holds
called_in : (p : ℕ → Bool) (ws : List ℕ) → list_any p ws ≡ true → (w : ℕ) × (is_among ws w ≡ true) × (p w ≡ true)
called_in p [] h = absurd (cc)
called_in p (v ∷ ws) h =
    elim (p v) as (λ b. (p v ≡ b) → (b || list_any p ws) ≡ true
    → (w : ℕ) × (is_among (v ∷ ws) w ≡ true) × (p w ≡ true)) [
      | true ↦ λ e k. (v, or-left (v == v) (is_among ws v) (same_word v), e)
      | false ↦ λ e k. let r = called_in p ws k in (r.0, or-right (r.0 == v) (is_among ws r.0) r.1, r.2)
    ] refl h

any_of : (p : ℕ → Bool) (ws : List ℕ) (w : ℕ) → is_among ws w ≡ true → p w ≡ true → list_any p ws ≡ true
any_of p [] w h k = absurd (cc)
any_of p (v ∷ ws) w h k =
    elim (w == v) as (λ b. ((w == v) ≡ b) → (b || is_among ws w) ≡ true → (p v || list_any p ws) ≡ true) [
      | true ↦ λ e m. or-left (p v) (list_any p ws) (rw (is_word w v e) k)
      | false ↦ λ e m. or-right (p v) (list_any p ws) (any_of p ws w m k)
    ] refl h

is_defined : (ds : List Definition) (i : ℕ) (d : Definition) → slice_get ds i ≡ Some d
    → is_some_definition (definition_in ds d.name.0) ≡ true
is_defined [] i d e = absurd (cc)
is_defined (c ∷ ds) zero d e = let same : c ≡ d = cc in rw (same, same_word d.name.0) refl
is_defined (c ∷ ds) (suc i) d e =
    elim (c.name.0 == d.name.0) as (λ b. is_some_definition (if b then Some c else definition_in ds d.name.0)
    ≡ true)
    [ true ↦ refl | false ↦ is_defined ds i d e ]

-- a definition of each number below the count of the functions
definition_at : (ds : List Definition) (i : ℕ) → i < length ds → (d : Definition) × (slice_get ds i ≡ Some d)
definition_at [] i h = absurd (omega arith)
definition_at (d ∷ ds) zero h = (d, refl)
definition_at (d ∷ ds) (suc i) h = definition_at ds i (omega arith)

pub marked_within : (marks : List Bool) (i : ℕ) → get_or marks i false ≡ true → i < length marks
marked_within [] i h = absurd (cc)
marked_within (b ∷ marks) zero h = omega arith
marked_within (b ∷ marks) (suc i) h = let k = marked_within marks i h in omega arith

-- the names of the functions that reach a refused one
pub record IsMarked (file : SourceFile) (fs : List CallNode) (marks : List Bool) : Type 0 where
  pub graph : IsCallGraph file fs
  pub reached : IsReached fs marks

reached-holds : (file : SourceFile) (fs : List CallNode) (marks : List Bool) → IsMarked file fs marks
    → Holds file (refused_names (definitions file.items) marks)
reached-holds file fs marks m i d e h =
    let ds = definitions file.items in
    let t = refused_names ds marks in
    let x = world_of file d in
    elim (list_any (refused_call x t) (called_words d)) as (λ b. (list_any (refused_call x t) (called_words d) ≡ b)
    → is_among t d.name.0 ≡ true) [
      | true ↦ λ k.
          let c = called_in (refused_call x t) (called_words d) k in
          let n = names-from ds marks c.0 (in_set x t c.0 c.2) in
          let called : is_among (called_words d) n.definition.name.0 ≡ true = rw n.named c.1 in
          named-in ds marks i d e (m.reached.complete i (by_call i n.number (m.graph.calls i n.number d n.definition
          e n.is ∙ called) (m.reached.sound n.number n.marked)))
      | false ↦ λ k.
          let same = refusal-alone file t d k in
          let told : is_some (refusal file [] d) ≡ true = rw (← same) h in
          named-in ds marks i d e (m.reached.complete i (alone i (m.graph.alone i d e ∙ told)))
    ] refl

-- a set that holds each function in which a rule holds has those that reach a refused one
reached-in : (file : SourceFile) (fs : List CallNode) (marks : List Bool) → IsMarked file fs marks
    → (other : List ℕ) → Holds file other → (i : ℕ) → Reaches fs i → (d : Definition)
    → slice_get (definitions file.items) i ≡ Some d → is_among other d.name.0 ≡ true
reached-in file fs marks m other o _ (alone i a) d e =
    o i d e (refusal-grows file [] other d (λ w k. absurd (cc)) (sym (m.graph.alone i d e) ∙ a))
reached-in file fs marks m other o _ (by_call i j c r) d e =
    let ds = definitions file.items in
    let x = world_of file d in
    let within = marked_within marks j (m.reached.complete j r) in
    let same = m.reached.count in
    let counts = m.graph.count in
    let f = definition_at ds j (omega arith) in
    let k = reached-in file fs marks m other o j r f.0 f.1 in
    elim (f.0.name.0 == d.name.0) as (λ b. ((f.0.name.0 == d.name.0) ≡ b) → is_among other d.name.0 ≡ true) [
      | true ↦ λ q. rw (is_word f.0.name.0 d.name.0 q) k
      | false ↦ λ q.
          let called : refused_call x other f.0.name.0 ≡ true = rw (is_defined ds j f.0 f.1, q, k) refl in
          o i d e (refusal-finds file other d (any_of (refused_call x other) (called_words d) f.0.name.0
          (sym (m.graph.calls i j d f.0 e f.1) ∙ c) called))
    ] refl

pub reached-least : (file : SourceFile) (fs : List CallNode) (marks : List Bool) → IsMarked file fs marks
    → IsRefusedSet file (refused_names (definitions file.items) marks)
reached-least file fs marks m = record {
  holds = reached-holds file fs marks m;
  least = λ other o w h.
      let n = names-from (definitions file.items) marks w h in
      rw (← n.named) (reached-in file fs marks m other o n.number (m.reached.sound n.number n.marked) n.definition
      n.is);
}
