-- How a statement is read at a depth, by what it begins with.
use Rattle.std.proofs.Common.{◌≡◌, ℕ, ◌-◌, ◌<◌, List, Some, ◌∙◌, subst}
use Rattle.pungi_base.specs.declared.names.Name.{Name}
use Rattle.pungi_parse.specs.stmt.Begun.{Begun, begin_at, go_on}
use Rattle.pungi_parse.specs.Gives.{Fails}
use Rattle.pungi_parse.specs.Reading.{Read}
use Rattle.pungi_parse.specs.Readers.{readers}
use Rattle.pungi_parse.specs.stmt.StmtReader.{read_stmt, read_element}
use Rattle.pungi_parse.specs.declared.stop.Stop.{Stop}
use Rattle.pungi_parse.proofs.stmt.Blocks.{stmt_some}
use Rattle.pungi_parse.proofs.stmt.GoesOn.{begun_is, none_begun}
use Rattle.pungi_tree.specs.Placed.{Placed}
use Rattle.pungi_tree.specs.Syntax.{Stmt}

module _ (types : List Name) (n d : ℕ) (ts : List Placed) where
  pub stmt_fails : 0 < d → (e : Stop) → Fails e (begin_at types (readers types n (d - 1))
      (read_stmt types n (d - 1)) (read_element types n (d - 1)) ts)
      → Fails e (read_stmt types n d ts)
  stmt_fails h e f =
      subst (λ (o : Read Stmt). Fails e o) (stmt_some types n d ts h) (none_begun types (readers types n (d - 1))
      (read_stmt types n (d - 1)) (read_element types n (d - 1)) ts e f)

  pub stmt_goes : 0 < d → (b : Begun) (rest : List Placed)
      → begin_at types (readers types n (d - 1)) (read_stmt types n (d - 1)) (read_element types n (d - 1)) ts
      ≡ Some (b, rest)
      → go_on types (readers types n (d - 1)) (read_stmt types n (d - 1)) (read_element types n (d - 1)) b rest
      ≡ read_stmt types n d ts
  stmt_goes h b rest e = begun_is types (readers types n (d - 1)) (read_stmt types n (d - 1))
      (read_element types n (d - 1)) ts b rest e ∙ stmt_some types n d ts h
