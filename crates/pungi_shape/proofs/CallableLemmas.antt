-- The calls of a program are calls of functions that are called by the code.
use Rattle.std.proofs.Common.{◌≡◌, ◌∙◌, ℕ, ◌+◌, ◌<◌, List, [], length, map, get_or, slice_get, Some, IsSome, refl, sym}
use Rattle.std.proofs.Common.{ap, subst}
use Rattle.std.specs.List.{All, IsAmong}
use Rattle.std.proofs.lemmas.List.FromFn.{length-range_with_len}
use Rattle.std.proofs.lemmas.List.Elements.{All-append, All-map}
use Rattle.pungi_domain.specs.declared.affine_edge.AffineEdge.{AffineEdge}
use Rattle.pungi_code.specs.declared.code.Code.{Code}
use Rattle.pungi_code.specs.declared.code.Codes.{Codes}
use Rattle.pungi_code.specs.Run.{code_at}
use Rattle.pungi_shape.specs.declared.shape.Shape.{Shape}
use Rattle.pungi_shape.specs.Callables.{IsCallOf}
use Rattle.pungi_shape.specs.Classes.{AreClasses, IsClassOf}
use Rattle.pungi_shape.specs.Edges.{Change, by_map, by_any, by_exit, Edge, edges_from}
use Rattle.pungi_shape.specs.Places.{Place}
use Rattle.pungi_shape.specs.Programs.{action_of, all_edges, calls_from, edges_in_order, exit_cmp, exit_number}
use Rattle.pungi_shape.specs.Programs.{program_of, with_numbers}
use Rattle.pungi_shape.specs.Shapes.{width_of}
use Rattle.pungi_shape.proofs.AllEdgeLemmas.{IsNoExit, all-calls, all-own}
use Rattle.pungi_shape.proofs.CalleeLemmas.{instr-called}
use Rattle.pungi_shape.proofs.FitLemmas.{edges_in_order-all}
use Rattle.pungi_shape.proofs.NamedLemmas.{code-within}
use Rattle.pungi_shape.proofs.NumberPlaces.{among_slice_get}
use Rattle.pungi_shape.proofs.RiseLemmas.{exit-total, rises-number}
use Rattle.pungi_shape.proofs.WellFormedLemmas.{all-each}
use Rattle.pungi_shape.proofs.sound.Members.{first_among, of_all}

module _ (codes : Codes) (others : ℕ → List Shape) (f : ℕ) (code : Code) (is_code : code_at codes f ≡ Some code)
    (classes : AreClasses codes others) where
  -- the number of an exit class that is there
  number-there : (g : ℕ) (x : Shape) → IsAmong (others g) x
      → (let xs = others g in slice_get xs (exit_number xs x) ≡ Some x)
  number-there g x there =
      let xs = others g in
      ap (slice_get xs) (rises-number exit_cmp exit-total xs (classes g).rise x there)
      ∙ among_slice_get xs x there.0 there.1.0 there.1.1

  there-within : (g : ℕ) (x : Shape) → IsAmong (others g) x → g < length codes.codes
  there-within g x there =
      let is = of_all (IsClassOf codes g) (others g) x (classes g).each there in
      code-within codes g (subst IsSome (sym is.is_code) refl)

  own-call : (c : Change) → IsNoExit c → IsCallOf codes others f (action_of others c)
  own-call (by_map rows) is = tt
  own-call (by_any k) is = tt
  own-call (by_exit g x onto) is = absurd is

  edges-call : (q : Place) → All (λ (e : Edge). IsCallOf codes others f (action_of others e.change))
      (all_edges code others q)
  edges-call q =
      All-append (λ (e : Edge). IsCallOf codes others f (action_of others e.change)) (edges_from code q)
      (calls_from code others q)
      (λ i d lt. own-call (get_or (edges_from code q) i d).change (all-own code others q i d lt).change)
      (all-calls code others (λ (e : Edge). IsCallOf codes others f (action_of others e.change)) q
      (λ p s g x is calls class. record {
        called = instr-called codes f g p.instr code is_code
            (subst (λ gs. IsAmong gs g) (sym calls) (first_among g []));
        function = there-within g x class;
        exit = x;
        is_exit = number-there g x class;
        width = length-range_with_len (width_of s) (width_of x);
      }))

  pub program-calls : (ps : List Place) (xs : List Shape)
      → All (λ (e : AffineEdge). IsCallOf codes others f e.action) (program_of code others ps xs).edges
  program-calls ps xs =
      let P = λ (e : AffineEdge). IsCallOf codes others f e.action in
      let number = λ (k : ℕ). with_numbers ps xs others k in
      all-each P (λ (q : ℕ × Place). edges_in_order (map (number q.0) (all_edges code others q.1))) 0 ps
      (λ k q at. edges_in_order-all P (map (number (0 + k)) (all_edges code others q))
      (All-map P (number (0 + k)) (all_edges code others q) (edges-call q)))
