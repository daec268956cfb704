-- The predefined macros (Python/C API Reference Manual 3.11: 'Useful macros', 'None Object', 'Boolean Objects',
-- 'Object structures', 'Releasing the GIL', `PyMODINIT_FUNC`). Those of the thread state keep their braces alone: the
-- state that they save and restore has no part in counts.
--   is_predefined n     the number of a predefined macro
--   word n, returned object, headed struct    bodies: a word; a return of a new reference; `struct ob_base;`
--   first_body n        what this name stands for before a text
--   predefined count    the macros before a text, of so many names
use Rattle.std.specs.Prelude.{ℕ, zero, suc, ◌+◌, ◌==◌, pos, Bool, false, ◌&&◌, List, [], ◌∷◌, ◌++◌, nat_le, Option}
use Rattle.std.specs.Prelude.{Some, None, if◌then◌else◌}
use Rattle.pungi_base.specs.declared.kind.Kind.{Kind}
use Rattle.pungi_base.specs.declared.kind.Kind.TheVariants as kind
use Rattle.pungi_base.specs.declared.key.Key.TheVariants as key
use Rattle.pungi_base.specs.declared.punct.Punct.TheVariants as punct
use Rattle.pungi_base.specs.Numbers.{keyword_count, macro_count, py_return_none, py_return_true, py_return_false}
use Rattle.pungi_base.specs.Numbers.{py_begin_allow_threads, py_end_allow_threads, py_modinit_func, py_object_head}
use Rattle.pungi_base.specs.Numbers.{py_object_var_head, py_lt, py_le, py_eq, py_ne, py_gt, py_ge, py_object}
use Rattle.pungi_base.specs.Numbers.{py_var_object, py_none, py_true, py_false, py_new_ref, ob_base}
use Rattle.pungi_lex.specs.Macros.{Macros}

abbrev pub is_predefined : ℕ → Bool
is_predefined n = nat_le keyword_count n && nat_le (n + 1) (keyword_count + macro_count)

abbrev pub word : ℕ → Kind
word n = kind.Word (record { 0 = n })

-- return Py_NewRef(object)
abbrev pub returned : ℕ → List Kind
returned object =
    kind.Key key.Return ∷ word py_new_ref ∷ kind.Punct punct.LeftParen ∷ word object ∷ kind.Punct punct.RightParen
    ∷ []

-- struct ob_base;
abbrev pub headed : ℕ → List Kind
headed struct = word struct ∷ word ob_base ∷ kind.Punct punct.Semicolon ∷ []

abbrev pub number : ℕ → List Kind
number n = kind.Int (pos n) false false ∷ []

abbrev pub first_body : ℕ → Option (List Kind)
first_body n =
    if n == py_return_none then Some (returned py_none)
    else if n == py_return_true then Some (returned py_true)
    else if n == py_return_false then Some (returned py_false)
    else if n == py_begin_allow_threads then Some (kind.Punct punct.LeftBrace ∷ [])
    else if n == py_end_allow_threads then Some (kind.Punct punct.RightBrace ∷ [])
    else if n == py_modinit_func then Some (word py_object ∷ kind.Punct punct.Star ∷ [])
    else if n == py_object_head then Some (headed py_object)
    else if n == py_object_var_head then Some (headed py_var_object)
    else if n == py_lt then Some (number 0)
    else if n == py_le then Some (number 1)
    else if n == py_eq then Some (number 2)
    else if n == py_ne then Some (number 3)
    else if n == py_gt then Some (number 4)
    else if n == py_ge then Some (number 5)
    else None

abbrev pub predefined : ℕ → Macros
predefined zero = []
predefined (suc n) = predefined n ++ first_body n ∷ []
