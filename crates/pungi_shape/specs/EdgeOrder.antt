-- How an edge is put among others.
--   alone e                 an edge, with nothing beside it
--   put_edge e es           into edges in order, each once
use Rattle.std.specs.Prelude.{List, map}
use Rattle.std.specs.FinMap.{put}
use Rattle.pungi_domain.specs.declared.affine_edge.AffineEdge.{AffineEdge}
use Rattle.pungi_shape.specs.Programs.{edge_cmp}

abbrev pub alone : AffineEdge → AffineEdge × Unit {0}
alone e = (e, tt)

abbrev pub put_edge : AffineEdge → List AffineEdge → List AffineEdge
put_edge e es = map (λ x. x.0) (put edge_cmp e tt (map alone es))
