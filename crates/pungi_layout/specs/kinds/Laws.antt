-- What the layout makes of functions whose parts are of the kinds that they need (C11 6.5, 6.8), in a file of these
-- items, with so many static objects, whose functions have codes of these kinds.
--   known items statics callees f    what is known around the statements of a function
--   IsWellFormedIfTyped f      its code is well-formed among them, returns what its result is and names only static
--                              objects that are there, where it is within the limits
--   AgreeIfTyped f g           two of one file read and write each slot with one kind
use Rattle.std.specs.Prelude.{◌≡◌, ℕ, ◌+◌, ◌*◌, ◌≤◌, true, List, Some, slice_get}
use Rattle.pungi_tree.specs.Syntax.{Item}
use Rattle.pungi_types.specs.Limits.{most_locals, most_nodes}
use Rattle.pungi_resolved.specs.Functions.{ResolvedFunction}
use Rattle.pungi_code.specs.Limits.{most_instructions}
use Rattle.pungi_code.specs.WellFormed.{CallKinds, IsWellFormedAmong, AgreeOnKinds, has_statics, returns_well}
use Rattle.pungi_code.specs.declared.code.Code.{Code}
use Rattle.pungi_code.specs.declared.code.Line.{Line}
use Rattle.pungi_layout.specs.code.Sizes.{stmt_size}
use Rattle.pungi_layout.specs.code.Sound.{stmt_nodes}
use Rattle.pungi_layout.specs.kinds.Typed.{Known, IsStmtTyped}
use Rattle.pungi_layout.specs.code.FunctionCode.{code_of, HasLocals, HasParams}
use Rattle.pungi_layout.specs.code.VarKinds.{var_kinds}

abbrev pub known : List Item → ℕ → (ℕ → CallKinds) → ResolvedFunction → Known
known items statics callees f = record { items = items; statics = statics; callees = callees; result = f.result }

abbrev pub ReturnsWell : Code → Type 0
ReturnsWell code =
    (place : ℕ) (line : Line) → slice_get code.instrs place ≡ Some line → returns_well code line.instr ≡ true

abbrev pub IsWellFormedIfTyped : ResolvedFunction → Type 0
IsWellFormedIfTyped f =
    (items : List Item) (statics : ℕ) (callees : ℕ → CallKinds) → HasLocals f → HasParams f
    → IsStmtTyped (known items statics callees f) (var_kinds f) f.body
    → f.locals ≤ most_locals → stmt_nodes f.body ≤ 3 * most_nodes → stmt_size f.body + 1 ≤ most_instructions
    → IsWellFormedAmong callees (code_of f) × (ReturnsWell (code_of f) × (has_statics statics (code_of f) ≡ true))

abbrev pub AgreeIfTyped : ResolvedFunction → ResolvedFunction → Type 0
AgreeIfTyped f g =
    (items : List Item) (statics : ℕ) (callees : ℕ → CallKinds)
    → IsStmtTyped (known items statics callees f) (var_kinds f) f.body
    → IsStmtTyped (known items statics callees g) (var_kinds g) g.body
    → AgreeOnKinds (code_of f) (code_of g)
