-- Readers: from the front of a list of tokens to what stands there and the tokens after it.
--   Read A            what was read with the tokens after it, or nothing
--   o >>= f           where there is something, `f` of it
--   on_some o f b     `f` of what there is, else `b`
--   when test o, unless test o    `o` where the test holds, or where it does not
use Rattle.std.specs.Prelude.{Bool, true, false, List, Option, Some, None}
use Rattle.pungi_tree.specs.Placed.{Placed}

abbrev pub Read : Type 0 → Type 0
Read A = Option (A × List Placed)

unfoldable pub chain : {A B : Type 0} → Option A → (A → Option B) → Option B
chain None f = None
chain (Some x) f = f x

infixl 10 ◌>>=◌
abbrev pub ◌>>=◌ : {A B : Type 0} → Option A → (A → Option B) → Option B
o >>= f = chain o f

unfoldable pub on_some : {A B : Type 0} → Option A → (A → B) → B → B
on_some (Some x) f b = f x
on_some None f b = b

unfoldable pub when : {A : Type 0} → Bool → Option A → Option A
when true o = o
when false o = None

unfoldable pub unless : {A : Type 0} → Bool → Option A → Option A
unless true o = None
unless false o = o
