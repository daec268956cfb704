-- What affine programs are for (Karr 1976; Li and Tan, ECOOP 2014): where rows at the places of a program hold of every
-- vector that may come there, and say that nothing is owed where a token is dropped or the function returns, each run
-- of the function that returns is balanced, whatever parameters hold the same object, and for any number of turns.
--   no_vectors f c          no function of the file is called, and so no vector stands at an exit class of one
--   IsAlwaysBalanced statics code    each run of a code, alone, that returns is balanced under its terms, from each entry
--                           that fits it
--   SafeIsBalanced          the promise, for rows
--   vectors_of member o     the vectors of a value, and none where there is none
--   ValuesAreBalanced member    the promise, for the vectors of any values, as a search for a fixed point finds them: where
--                           each edge keeps them, and they meet its duties
use Rattle.std.specs.Prelude.{◌≡◌, ℕ, true, List, Option, Some, None}
use Rattle.pungi_base.specs.declared.choice.Choice.{Choice}
use Rattle.pungi_base.specs.declared.entry.Entry.{Entry}
use Rattle.pungi_base.specs.declared.pos.Pos.{Pos}
use Rattle.pungi_base.specs.declared.value.Value.{Value}
use Rattle.pungi_domain.specs.Annotations.{Rows, IsInductive, IsSafe, IsSafeAnnotation}
use Rattle.pungi_domain.specs.Vectors.{Vectors}
use Rattle.pungi_domain.specs.declared.affine_program.AffineProgram.{AffineProgram}
use Rattle.pungi_world.specs.Escapes.{IsBalanced}
use Rattle.pungi_world.specs.declared.world.World.{World}
use Rattle.pungi_meaning.specs.Run.{Returned}
use Rattle.pungi_code.specs.declared.code.Code.{Code}
use Rattle.pungi_code.specs.declared.code.Codes.{Codes}
use Rattle.pungi_code.specs.Entries.{code_fits}
use Rattle.pungi_code.specs.Run.{code_at, exec, start}
use Rattle.pungi_code.specs.WellFormed.{IsAlone}
use Rattle.pungi_shape.specs.Programs.{IsProgram}

abbrev pub no_vectors : ℕ → ℕ → Vectors
no_vectors f c v = ⊥

abbrev pub IsAlwaysBalanced : ℕ → Code → Type 0
IsAlwaysBalanced statics code =
    (entry : Entry) (choices : List Choice) (fuel : ℕ) (w : World) (v : Option Value) (p : Pos) (used : List Pos)
    → code_fits statics code entry ≡ true
    → (exec choices code.instrs fuel 0 (start code entry)).end ≡ Returned w v p used
    → IsBalanced code.terms entry w v

abbrev pub SafeIsBalanced : Type 0
SafeIsBalanced =
    (codes : Codes) (f : ℕ) (code : Code) (p : AffineProgram) (a : Rows) → IsAlone codes f
    → code_at codes f ≡ Some code → IsProgram codes f p
    → IsSafeAnnotation p no_vectors a → IsAlwaysBalanced codes.statics code

abbrev pub vectors_of : {D : Type 0} → (D → Vectors) → Option D → Vectors
vectors_of member None v = ⊥
vectors_of member (Some d) v = member d v

abbrev pub ValuesAreBalanced : {D : Type 0} → (D → Vectors) → Type 0
ValuesAreBalanced {D} member =
    (codes : Codes) (f : ℕ) (code : Code) (p : AffineProgram) (at exits : ℕ → Option D) → IsAlone codes f
    → code_at codes f ≡ Some code → IsProgram codes f p
    → IsInductive p no_vectors (λ k. vectors_of member (at k)) (λ k. vectors_of member (exits k))
    → IsSafe p (λ k. vectors_of member (at k)) → IsAlwaysBalanced codes.statics code
