-- The readers of expressions, types and parameters that lead to each other. Each that stands in another one has a
-- number less; so many as there are tokens are always enough.
--   nothing_read     the readers that read nothing
--   over inner d     the readers whose parts are read by `inner`
--   readers types n d    the readers of what has at most `n` nodes, types and lists of parameters on a path, at most
--                        `d` of them nodes of expressions
use Rattle.std.specs.Prelude.{ℕ, zero, suc, List, None}
use Rattle.pungi_base.specs.declared.names.Name.{Name}
use Rattle.pungi_parse.specs.expr.ExprReader.{expr_at}
use Rattle.pungi_parse.specs.types.TypeReader.{Lower, spec_at, params_at}

abbrev pub nothing_read : Lower
nothing_read = record { expr = λ l ts. None; spec = λ ts. None; params = λ ts. None }

abbrev pub over : List Name → (ℕ → Lower) → ℕ → Lower
over types inner d =
    record {
      expr = λ l ts. expr_at types inner d l ts;
      spec = λ ts. spec_at types (inner d) ts;
      params = λ ts.
          params_at types (inner d) ts;
    }

unfoldable pub readers : List Name → ℕ → ℕ → Lower
readers types zero d = nothing_read
readers types (suc n) d = over types (readers types n) d
