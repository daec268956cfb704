use Rattle.std.proofs.Common.{◌≤◌, length}
use Rattle.pungi_shape.specs.Classes.{classes_of}
use Rattle.pungi_shape.specs.FoundEdges.{AreEdgesOf}
use Rattle.pungi_shape.proofs.SearchLemmas.{IsSearched}
use Rattle.pungi_shape.proofs.search.search.Given as goal

-- the first places are visited, and each has at most one exit class
abbrev pub invariant-visiting : goal.invariant-visiting
invariant-visiting l = record {
  searched : IsSearched l.codes l.f l.code (classes_of l.classes) l.found l.k;
  edges : AreEdgesOf l.code (classes_of l.classes) l.found l.edges.items l.k;
  there : l.k ≤ length l.found.places.items;
}
