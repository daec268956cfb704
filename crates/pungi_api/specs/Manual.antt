-- The API calls, one a line, as the manual describes them (Python/C API Reference Manual 3.11).
--   Argument             a parameter of a call, and whether the call takes over the reference that is passed for it
--   object, object_or_null    a pointer to an object, not NULL; one that may be NULL
--   int, long, size, text, module_def    an `int`, a `long`, a `Py_ssize_t`, a text that isn't NULL, and the address of
--                                        a
--                        `PyModuleDef`
--   stolen               an object whose reference is taken over, also where the call fails
--   stolen_on_success    one whose reference is taken over only where the call succeeds
--   Call                 the number of a call's name among the words, the name, and the row that describes the call
--   call, special_call   a call that its parameters and its answer describe; one with a rule of its own
--   plain_calls          the calls of the first sort, in the order of their names among the words
--   special_calls        those of the second sort that are judged (Manual, 'Reference Counting')
--   calls                all of them
use Rattle.std.specs.Prelude.{ℕ, List, [], ◌∷◌, ◌++◌, map, codes}
use Rattle.pungi_api.specs.declared.param.Param.{Param}
use Rattle.pungi_api.specs.declared.param.Param.TheVariants as param
use Rattle.pungi_api.specs.declared.take.Take.{Take}
use Rattle.pungi_api.specs.declared.take.Take.TheVariants as takes
use Rattle.pungi_api.specs.declared.answer.Answer.{Answer}
use Rattle.pungi_api.specs.declared.answer.Answer.TheVariants as answer
use Rattle.pungi_api.specs.declared.row.Form.TheVariants as form
use Rattle.pungi_api.specs.declared.row.Row.{Row}
use Rattle.pungi_api.specs.declared.special.Special.{Special}
use Rattle.pungi_api.specs.declared.special.Special.TheVariants as special

pub record Argument : Type 0 where
  pub param : Param
  pub take : Take

abbrev pub object : Argument
object = record { param = param.Object; take = takes.Never }

abbrev pub object_or_null : Argument
object_or_null = record { param = param.ObjectOrNull; take = takes.Never }

abbrev pub int : Argument
int = record { param = param.Int; take = takes.Never }

abbrev pub long : Argument
long = record { param = param.Long; take = takes.Never }

abbrev pub size : Argument
size = record { param = param.Size; take = takes.Never }

abbrev pub text : Argument
text = record { param = param.Text; take = takes.Never }

abbrev pub module_def : Argument
module_def = record { param = param.ModuleDef; take = takes.Never }

abbrev pub stolen : Argument
stolen = record { param = param.Object; take = takes.Always }

abbrev pub stolen_on_success : Argument
stolen_on_success = record { param = param.Object; take = takes.OnSuccess }

pub record Call : Type 0 where
  pub number : ℕ
  pub name : List ℕ
  pub row : Row

abbrev pub call : ℕ → List ℕ → Answer → List Argument → Call
call number name a arguments = record {
  number = number;
  name = name;
  row = record {
    form = form.Plain;
    params = map (λ (x : Argument). x.param) arguments;
    takes = map
        (λ (x : Argument). x.take) arguments;
    answer = a;
  };
}

abbrev pub special_call : ℕ → List ℕ → Special → Call
special_call number name s =
    record {
      number = number;
      name = name;
      row = record {
        form = form.Special s;
        params = [];
        takes = [];
        answer
            = answer.Null;
      };
    }

abbrev pub plain_calls : List Call
plain_calls =
    call 103 (codes "PyLong_FromLong") answer.New (long ∷ []) ∷
    call 104 (codes "PyUnicode_FromString") answer.New (text ∷ []) ∷
    call 105 (codes "PyBytes_FromString") answer.New (text ∷ []) ∷
    call 106 (codes "PyList_New") answer.New (size ∷ []) ∷
    call 107 (codes "PyTuple_New") answer.New (size ∷ []) ∷
    call 108 (codes "PyDict_New") answer.New ([]) ∷
    call 109 (codes "PyObject_Str") answer.New (object ∷ []) ∷
    call 110 (codes "PyObject_Repr") answer.New (object ∷ []) ∷
    call 111 (codes "PyObject_GetAttr") answer.New (object ∷ object ∷ []) ∷
    call 112 (codes "PyObject_GetAttrString") answer.New (object ∷ text ∷ []) ∷
    call 113 (codes "PyObject_GetItem") answer.New (object ∷ object ∷ []) ∷
    call 114 (codes "PyObject_GetIter") answer.New (object ∷ []) ∷
    call 115 (codes "PyObject_CallObject") answer.New (object ∷ object_or_null ∷ []) ∷
    call 116 (codes "PyObject_Call") answer.New (object ∷ object ∷ object_or_null ∷ []) ∷
    call 117 (codes "PySequence_GetItem") answer.New (object ∷ size ∷ []) ∷
    call 118 (codes "PySequence_Fast") answer.New (object ∷ text ∷ []) ∷
    call 119 (codes "PyNumber_Add") answer.New (object ∷ object ∷ []) ∷
    call 120 (codes "PyNumber_Subtract") answer.New (object ∷ object ∷ []) ∷
    call 121 (codes "PyNumber_Multiply") answer.New (object ∷ object ∷ []) ∷
    call 122 (codes "PyDict_Keys") answer.New (object ∷ []) ∷
    call 123 (codes "PyDict_Values") answer.New (object ∷ []) ∷
    call 124 (codes "PyDict_Items") answer.New (object ∷ []) ∷
    call 125 (codes "PyImport_ImportModule") answer.New (text ∷ []) ∷
    call 126 (codes "PyIter_Next") answer.New (object ∷ []) ∷
    call 127 (codes "PyModule_Create") answer.New (module_def ∷ []) ∷
    call 128 (codes "PyList_GetItem") answer.Borrowed (object ∷ size ∷ []) ∷
    call 129 (codes "PyTuple_GetItem") answer.Borrowed (object ∷ size ∷ []) ∷
    call 130 (codes "PyDict_GetItem") answer.Borrowed (object ∷ object ∷ []) ∷
    call 131 (codes "PyDict_GetItemString") answer.Borrowed (object ∷ text ∷ []) ∷
    call 132 (codes "PyDict_GetItemWithError") answer.Borrowed (object ∷ object ∷ []) ∷
    call 133 (codes "PyImport_AddModule") answer.Borrowed (text ∷ []) ∷
    call 134 (codes "PyErr_Occurred") answer.Borrowed ([]) ∷
    call 135 (codes "PyModule_GetDict") answer.BorrowedSure (object ∷ []) ∷
    call 136 (codes "PySequence_Fast_GET_ITEM") answer.BorrowedSure (object ∷ size ∷ []) ∷
    call 137 (codes "PyList_GET_ITEM") answer.BorrowedSure (object ∷ size ∷ []) ∷
    call 138 (codes "PyTuple_GET_ITEM") answer.BorrowedSure (object ∷ size ∷ []) ∷
    call 139 (codes "PyList_SetItem") answer.Status (object ∷ size ∷ stolen ∷ []) ∷
    call 140 (codes "PyTuple_SetItem") answer.Status (object ∷ size ∷ stolen ∷ []) ∷
    call 141 (codes "PyModule_AddObject") answer.Status (object ∷ text ∷ stolen_on_success ∷ []) ∷
    call 142 (codes "PyModule_AddObjectRef") answer.Status (object ∷ text ∷ object ∷ []) ∷
    call 143 (codes "PyList_Append") answer.Status (object ∷ object ∷ []) ∷
    call 144 (codes "PyList_Insert") answer.Status (object ∷ size ∷ object ∷ []) ∷
    call 145 (codes "PyDict_SetItem") answer.Status (object ∷ object ∷ object ∷ []) ∷
    call 146 (codes "PyDict_SetItemString") answer.Status (object ∷ text ∷ object ∷ []) ∷
    call 147 (codes "PyDict_DelItem") answer.Status (object ∷ object ∷ []) ∷
    call 148 (codes "PyObject_SetAttr") answer.Status (object ∷ object ∷ object ∷ []) ∷
    call 149 (codes "PyObject_SetAttrString") answer.Status (object ∷ text ∷ object ∷ []) ∷
    call 150 (codes "PyObject_SetItem") answer.Status (object ∷ object ∷ object ∷ []) ∷
    call 151 (codes "PySequence_SetItem") answer.Status (object ∷ size ∷ object ∷ []) ∷
    call 152 (codes "PyModule_AddIntConstant") answer.Status (object ∷ text ∷ long ∷ []) ∷
    call 153 (codes "PyType_Ready") answer.Status (object ∷ []) ∷
    call 154 (codes "PyObject_IsTrue") answer.Truth (object ∷ []) ∷
    call 155 (codes "PyObject_IsInstance") answer.Truth (object ∷ object ∷ []) ∷
    call 156 (codes "PyObject_RichCompareBool") answer.Truth (object ∷ object ∷ int ∷ []) ∷
    call 157 (codes "PyObject_Size") answer.Size (object ∷ []) ∷
    call 158 (codes "PySequence_Size") answer.Size (object ∷ []) ∷
    call 159 (codes "PySequence_Length") answer.Size (object ∷ []) ∷
    call 160 (codes "PyLong_AsLong") answer.Long (object ∷ []) ∷
    call 161 (codes "PyList_SET_ITEM") answer.Void (object ∷ size ∷ stolen ∷ []) ∷
    call 162 (codes "PyTuple_SET_ITEM") answer.Void (object ∷ size ∷ stolen ∷ []) ∷
    call 163 (codes "PyErr_SetString") answer.Void (object ∷ text ∷ []) ∷
    call 164 (codes "PyErr_SetNone") answer.Void (object ∷ []) ∷
    call 165 (codes "PyErr_Clear") answer.Void ([]) ∷
    call 166 (codes "PyErr_NoMemory") answer.Null ([]) ∷ []

abbrev pub special_calls : List Call
special_calls =
    special_call 167 (codes "Py_INCREF") special.IncRef ∷
    special_call 168 (codes "Py_DECREF") special.DecRef ∷
    special_call 169 (codes "Py_XINCREF") special.XIncRef ∷
    special_call 170 (codes "Py_XDECREF") special.XDecRef ∷
    special_call 171 (codes "Py_CLEAR") special.Clear ∷
    special_call 172 (codes "Py_NewRef") special.NewRef ∷
    special_call 173 (codes "Py_XNewRef") special.XNewRef ∷
    special_call 175 (codes "PyTuple_Pack") special.TuplePack ∷
    special_call 176 (codes "PyObject_CallFunctionObjArgs") special.CallFunctionObjArgs ∷
    special_call 177 (codes "PyErr_Format") special.ErrFormat ∷
    special_call 178 (codes "PyArg_ParseTuple") special.ParseTuple ∷
    special_call 179 (codes "PyArg_UnpackTuple") special.UnpackTuple ∷
    special_call 180 (codes "PyDict_Next") special.DictNext ∷
    special_call 181 (codes "Py_BuildValue") special.BuildValue ∷ []

abbrev pub calls : List Call
calls = plain_calls ++ special_calls
