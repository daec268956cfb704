use Rattle.std.proofs.Common.{◌≡◌, ◌<◌, ◌++◌, ℕ, List, Some, false, length, slice_get, take}
use Rattle.pungi_shape.specs.declared.shape.Shape.{Shape}
use Rattle.pungi_shape.specs.Found.{are_over, calls_of, goals_of_calls, with_goals}
use Rattle.pungi_shape.specs.FoundEdges.{found_edges}
use Rattle.pungi_shape.specs.Places.{Place}
use Rattle.pungi_shape.proofs.search.Found.visit_calls.Given as goal

-- the edges of the first classes are kept
abbrev pub invariant-loop-class : goal.invariant-loop-class
invariant-loop-class l = record {
  within : l.k < length l.self.places.items;
  noted : (q : Place) → slice_get l.initial.self.places.items l.k ≡ Some q
      → l.self ≡ with_goals (goals_of_calls l.code q l.g (take l.class l.classes)) l.initial.self;
  fits : (q : Place) → slice_get l.initial.self.places.items l.k ≡ Some q
      → are_over (goals_of_calls l.code q l.g (take l.class l.classes)) l.initial.self ≡ false;
  edges : (q : Place) → slice_get l.initial.self.places.items l.k ≡ Some q
      → (others : ℕ → List Shape) → others l.g ≡ l.classes
      → l.list ≡ l.initial.list ++ found_edges others l.self (calls_of l.code q l.g (take l.class l.classes));
}
