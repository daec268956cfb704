-- The lines of a trial: one C function on each, with the number of the line in its name. They come by turns in five
-- kinds, so that each kind of verdict is there.
--   clean_kind      the function returns a new number
--   leak_kind       it leaks a reference to its argument
--   list_kind       it fills a list in a loop
--   even_kind       it has two loops with as many turns as each other
--   slot_kind       it calls through a field
--   kinds           the texts of the kinds from 0 to 4, where K stands for the number of the line
--   with_number k text    the text with the decimal digits of k for each K
--   trial_line k    the line of a number: its kind is what is left of the number when it is divided by 5
use Rattle.std.specs.Prelude.{ℕ, ◌%◌, ◌==◌, List, [], ◌∷◌, ◌++◌, codes, get_or, if◌then◌else◌}
use Rattle.std.specs.List.{flat_map}
use Rattle.std.specs.Fmt.{decimal}
use Rattle.pungi_base.specs.Witness.{line_end}

abbrev pub clean_kind : List ℕ
clean_kind = codes "PyObject *fK(PyObject *self, PyObject *args) { return PyLong_FromLong(K); }"

abbrev pub leak_kind : List ℕ
leak_kind = codes "PyObject *fK(PyObject *self, PyObject *x) { Py_INCREF(x); return PyLong_FromLong(K); }"

abbrev pub list_kind : List ℕ
list_kind =
    codes "PyObject *fK(PyObject *self, PyObject *args) { Py_ssize_t i; PyObject *a = PyList_New(K), *b; "
    ++ codes "if (!a) return NULL; for (i = 0; i < K; i++) { b = PyLong_FromLong(i); "
    ++ codes "if (!b) { Py_DECREF(a); return NULL; } PyList_SET_ITEM(a, i, b); } return a; }"

abbrev pub even_kind : List ℕ
even_kind =
    codes "void fK(PyObject *x, int n) { int i; for (i = 0; i < n; i++) Py_INCREF(x); "
    ++ codes "for (i = 0; i < n; i++) Py_DECREF(x); }"

abbrev pub slot_kind : List ℕ
slot_kind = codes "PyObject *fK(PyTypeObject *t) { return t->tp_alloc(t, 0); }"

abbrev pub kinds : List (List ℕ)
kinds = slot_kind ∷ clean_kind ∷ leak_kind ∷ list_kind ∷ even_kind ∷ []

-- 75 is the byte K
abbrev pub with_number : ℕ → List ℕ → List ℕ
with_number k text = flat_map (λ b. if b == 75 then decimal k else b ∷ []) text

abbrev pub trial_line : ℕ → List ℕ
trial_line k = with_number k (get_or kinds (k % 5) [] ++ line_end)
