-- Builds of a program: spans that grow from turn to turn, each of which takes one edge. Spans are given as values of some
-- type, with their members, and `exit f c` is the value of the called function f at its exit class c, where there is
-- one. `least` says whether the values are least, as those of a domain of least values are.
--   Covers least w G T     T has the vectors of G, and where it is least, each equation that all of G meet is met by all
--                          of T: it is the span of G
--   Stage                  the spans of the places and of the exit classes at a moment
--   span_at st t, with_span st t s    the span of an edge's target; the moment after it became s
--   IsFirst least member p st    every vector is at the entries, and the other spans are of no vectors
--   IsMet least member w es s t  t is s after it met the equations in order
--   source_rows w z, exit_rows w z    the maps that put a vector of w coordinates, and one of z - w after them, among z
--   Acts least member exit w z a s t  t is what the action makes of s; a call sets the source's span and the exit's side
--                          by side, by two maps and a union
--   Turn least member p exit e old new    one turn, over this edge
--   IsBuilt least member p exit st    the spans at a moment of some build
--   LargeMet, LargeAct     where meeting the equations, and doing the action, is large
--   LargeTurn least member p exit e st r    a turn over this edge is large, and r is a scaled row of the large span,
--                          divided by the common divisor of its entries
--   IsLargeBuild least member p exit k r    some build has a large turn of an edge from place k
use Rattle.std.specs.Prelude.{◌≡◌, ◌⊎◌, ℕ, ◌-◌, ◌<◌, nat_lt, ℤ, pos, Bool, true, List, [], ◌∷◌, length, map, cond}
use Rattle.std.specs.Prelude.{Option, None, Some, slice_get, slice_set}
use Rattle.std.specs.List.{All, slice_index_or, range_with_len}
use Rattle.pungi_domain.specs.Programs.{width_at, width_to}
use Rattle.pungi_domain.specs.Spans.{Zero, LargeGrow, LargeMap, LargeFree, LargeMeet}
use Rattle.pungi_domain.specs.Vectors.{Vector, Vectors, Image, Freed, Meeting, Either, Follows}
use Rattle.pungi_domain.specs.declared.action.Action.{Action}
use Rattle.pungi_domain.specs.declared.action.Action.TheVariants.{Map, Free, Call}
use Rattle.pungi_domain.specs.declared.affine_edge.AffineEdge.{AffineEdge}
use Rattle.pungi_domain.specs.declared.affine_program.AffineProgram.{AffineProgram}
use Rattle.pungi_domain.specs.declared.equation.Equation.{Equation}
use Rattle.pungi_domain.specs.declared.target.Target.{Target}
use Rattle.pungi_domain.specs.declared.target.Target.TheVariants.{Place, Exit}

abbrev pub Covers : Bool → ℕ → Vectors → Vectors → Type 0
Covers least w G T = ((v : Vector) → G v → T v) × (least ≡ true → Follows w G T)

pub record Stage (S : Type 0) : Type 0 where
  pub at : List S
  pub exits : List S

abbrev pub span_at : {S : Type 0} → Stage S → Target → Option S
span_at st (Place k) = slice_get st.at k
span_at st (Exit k) = slice_get st.exits k

abbrev pub with_span : {S : Type 0} → Stage S → Target → S → Stage S
with_span st (Place k) s = record st { at = slice_set st.at k s }
with_span st (Exit k) s = record st { exits = slice_set st.exits k s }

pub record IsFirst {S : Type 0} (least : Bool) (member : S → Vectors) (p : AffineProgram) (st : Stage S) : Type 0 where
  pub places : length st.at ≡ length p.widths
  pub classes : length st.exits ≡ length p.exits
  pub entries : All (λ k. (s : S) → slice_get st.at k ≡ Some s → (v : Vector) → member s v) p.entries
  pub others : (k : ℕ) (s : S) → All (λ e. e ≡ k → ⊥) p.entries → slice_get st.at k ≡ Some s
      → Covers least (slice_index_or p.widths k 0) (Zero (slice_index_or p.widths k 0)) (member s)
  pub exits : (k : ℕ) (s : S) → slice_get st.exits k ≡ Some s
      → Covers least (slice_index_or p.exits k 0) (Zero (slice_index_or p.exits k 0)) (member s)

abbrev pub IsMet : {S : Type 0} → Bool → (S → Vectors) → ℕ → List Equation → S → S → Type 0
IsMet least member w [] s t = t ≡ s
IsMet {S} least member w (e ∷ es) s t =
    (m : S) × Covers least w (Meeting e.coefficients (member s)) (member m) × IsMet least member w es m t

abbrev pub source_rows : ℕ → ℕ → List (List (ℕ × ℤ))
source_rows w z = map (λ i. cond (nat_lt i w) ((i, pos 1) ∷ []) []) (range_with_len 0 z)

abbrev pub exit_rows : ℕ → ℕ → List (List (ℕ × ℤ))
exit_rows w z = map (λ i. cond (nat_lt i w) [] ((i - w, pos 1) ∷ [])) (range_with_len 0 z)

abbrev pub Acts : {S : Type 0} → Bool → (S → Vectors) → (ℕ → ℕ → Option S) → ℕ → ℕ → Action → S → S → Type 0
Acts least member exit w z (Map m) s t = Covers least z (Image m.rows (member s)) (member t)
Acts least member exit w z (Free c) s t = Covers least z (Freed c (member s)) (member t)
Acts {S} least member exit w z (Call f class onto) s t =
    (x : S) × (exit f class ≡ Some x) × ((left : S) × (right : S)
    × Covers least z (Image (source_rows w z) (member s)) (member left)
    × Covers least z (Image (exit_rows w z) (member x)) (member right)
    × Covers least z (Either (member left) (member right)) (member t))

pub record Turn {S : Type 0} (least : Bool) (member : S → Vectors) (p : AffineProgram) (exit : ℕ → ℕ → Option S)
    (e : AffineEdge) (old new : Stage S) : Type 0 where
  pub source : S
  pub source_is : slice_get old.at e.from ≡ Some source
  pub met : S
  pub guard : IsMet least member (width_at p e.from) e.guard source met
  pub sent : S
  pub action : Acts least member exit (width_at p e.from) (width_to p e.to) e.action met sent
  pub target : S
  pub target_is : span_at old e.to ≡ Some target
  pub value : S
  pub grown : Covers least (width_to p e.to) (Either (member target) (member sent)) (member value)
  pub others : new ≡ with_span old e.to value

pub data IsBuilt {S : Type 0} (least : Bool) (member : S → Vectors) (p : AffineProgram) (exit : ℕ → ℕ → Option S)
    : Stage S → Type 0 where
  built_first : (st : Stage S) → IsFirst least member p st → IsBuilt least member p exit st
  built_on : (old new : Stage S) (k : ℕ) (e : AffineEdge) → IsBuilt least member p exit old
      → slice_get p.edges k ≡ Some e → Turn least member p exit e old new → IsBuilt least member p exit new

-- ---- large turns

abbrev pub LargeMet : {S : Type 0} → Bool → (S → Vectors) → ℕ → List Equation → S → List ℤ → Type 0
LargeMet least member w [] s r = ⊥
LargeMet {S} least member w (e ∷ es) s r =
    LargeMeet w e.coefficients (member s) r
    ⊎ ((m : S) × Covers least w (Meeting e.coefficients (member s)) (member m) × LargeMet least member w es m r)

abbrev pub LargeAct : {S : Type 0} → Bool → (S → Vectors) → (ℕ → ℕ → Option S) → ℕ → ℕ → Action → S → List ℤ
    → Type 0
LargeAct least member exit w z (Map m) s r = LargeMap w m.rows (member s) r
LargeAct least member exit w z (Free c) s r = LargeFree w c (member s) r
LargeAct {S} least member exit w z (Call f class onto) s r =
    (x : S) × (exit f class ≡ Some x)
    × (LargeMap w (source_rows w z) (member s) r
    ⊎ LargeMap (length onto) (exit_rows w z) (member x) r
    ⊎ ((left : S) × (right : S) × Covers least z (Image (source_rows w z) (member s)) (member left)
    × Covers least z (Image (exit_rows w z) (member x)) (member right)
    × LargeGrow z (member left) (member right) r))

pub record LargeTurn {S : Type 0} (least : Bool) (member : S → Vectors) (p : AffineProgram) (exit : ℕ → ℕ → Option S)
    (e : AffineEdge) (st : Stage S) (r : List ℤ) : Type 0 where
  pub source : S
  pub source_is : slice_get st.at e.from ≡ Some source
  pub large : LargeMet least member (width_at p e.from) e.guard source r
      ⊎ ((met : S) × IsMet least member (width_at p e.from) e.guard source met
      × (LargeAct least member exit (width_at p e.from) (width_to p e.to) e.action met r
      ⊎ ((sent : S) × (target : S)
      × Acts least member exit (width_at p e.from) (width_to p e.to) e.action met sent
      × (span_at st e.to ≡ Some target) × LargeGrow (width_to p e.to) (member target) (member sent) r)))

pub record IsLargeBuild {S : Type 0} (least : Bool) (member : S → Vectors) (p : AffineProgram)
    (exit : ℕ → ℕ → Option S) (k : ℕ) (r : List ℤ) : Type 0 where
  pub stage : Stage S
  pub built : IsBuilt least member p exit stage
  pub number : ℕ
  pub edge : AffineEdge
  pub edge_is : slice_get p.edges number ≡ Some edge
  pub from : edge.from ≡ k
  pub large : LargeTurn least member p exit edge stage r
