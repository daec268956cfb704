-- Where a statement stands, as the walk through a function knows it.
--   labels_of labels                  the labels of the blocks around it, the innermost first
--   frame_at env locals next block around    the names of the file and the locals before them, the number of the next
--                                            local, the names that the block has
--                                     declared so far, and what surrounds it
--   frame_of env walk block around    the same at a place of a walk
--   declaration_of s                  the declaration that a statement is
use Rattle.std.specs.Prelude.{ℕ, List, [], ◌++◌, Option, Some, None}
use Rattle.pungi_tree.specs.Syntax.{Stmt, declare, Decl}
use Rattle.pungi_types.specs.Names.{Env}
use Rattle.pungi_types.specs.Stmts.{Frame}
use Rattle.pungi_types.specs.declared.local.Local.{Local}
use Rattle.pungi_scope.specs.ScopeEnv.{inner_env}
use Rattle.pungi_scope.specs.declared.labels.Labels.{Labels}
use Rattle.pungi_scope.specs.declared.labels.Labels.TheVariants.{Outside, Block'}
use Rattle.pungi_scope.specs.declared.walk.Around.{Around}
use Rattle.pungi_scope.specs.declared.walk.Walk.{Walk}

abbrev pub labels_of : Labels → List ℕ
labels_of Outside = []
labels_of (Block' words p outer) = words.now.keys ++ labels_of outer

abbrev pub frame_at : Env → List Local → ℕ → List ℕ → Around → Frame
frame_at env locals next block around = record {
  env = inner_env env locals;
  block = block;
  next = next;
  result = around.result;
  labels = labels_of around.labels;
  breaks = around.breaks;
  continues = around.continues;
  cases = around.cases;
  switched = around.switched;
}

abbrev pub frame_of : Env → Walk → List ℕ → Around → Frame
frame_of env walk block around = frame_at env walk.locals walk.next block around

abbrev pub declaration_of : Stmt → Option Decl
declaration_of (declare p d) = Some d
declaration_of _ = None
