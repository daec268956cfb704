-- The words that are known before a text is read. A word's number is its place in the list.
--   keywords        the keywords of the subset (C11 6.4.1), and NULL
--   macros          the predefined object macros (Python/C API Reference Manual 3.11)
--   type_words      the names of types (Python/C API Reference Manual 3.11, C11 7.19 and 7.20)
--   statics         the objects that are there before any run
--   plain_rows      the API calls whose effect is described by their parameters and their return value
--   special_rows    the API calls with effects of their own
--   other_words     further words that the grammar or a directive names
--   builtin_words   all of them, in this order
--   BeginWithWords names   the names begin with these words
--   HasNumber n text       the word of this number is this text
use Rattle.std.specs.Prelude.{◌≡◌, ℕ, List, [], ◌∷◌, ◌++◌, length, take, codes, slice_get, Some}

abbrev pub keywords : List (List ℕ)
keywords =
    codes "int" ∷ codes "long" ∷ codes "short" ∷ codes "char" ∷ codes "unsigned" ∷ codes "signed" ∷ codes "float"
    ∷ codes "double" ∷ codes "void" ∷
    codes "_Bool" ∷ codes "struct" ∷ codes "union" ∷ codes "enum" ∷ codes "typedef" ∷ codes "static"
    ∷ codes "extern" ∷ codes "inline" ∷
    codes "const" ∷ codes "volatile" ∷ codes "register" ∷ codes "if" ∷ codes "else" ∷ codes "while" ∷ codes "do"
    ∷ codes "for" ∷ codes "switch" ∷
    codes "case" ∷ codes "default" ∷ codes "break" ∷ codes "continue" ∷ codes "return" ∷ codes "goto"
    ∷ codes "sizeof" ∷ codes "NULL" ∷ []

abbrev pub macros : List (List ℕ)
macros =
    codes "Py_RETURN_NONE" ∷ codes "Py_RETURN_TRUE" ∷ codes "Py_RETURN_FALSE" ∷ codes "Py_BEGIN_ALLOW_THREADS"
    ∷ codes "Py_END_ALLOW_THREADS" ∷
    codes "PyMODINIT_FUNC" ∷ codes "PyObject_HEAD" ∷ codes "PyObject_VAR_HEAD" ∷ codes "Py_LT" ∷ codes "Py_LE"
    ∷ codes "Py_EQ" ∷ codes "Py_NE" ∷
    codes "Py_GT" ∷ codes "Py_GE" ∷ []

abbrev pub type_words : List (List ℕ)
type_words =
    codes "PyObject" ∷ codes "PyVarObject" ∷ codes "PyTypeObject" ∷ codes "PyMethodDef" ∷ codes "PyModuleDef"
    ∷ codes "PyModuleDef_Slot" ∷
    codes "PyMemberDef" ∷ codes "PyGetSetDef" ∷ codes "PyNumberMethods" ∷ codes "PySequenceMethods"
    ∷ codes "PyMappingMethods" ∷ codes "PyType_Slot" ∷
    codes "PyType_Spec" ∷ codes "PyCFunction" ∷ codes "Py_ssize_t" ∷ codes "Py_hash_t" ∷ codes "Py_buffer"
    ∷ codes "PyThreadState" ∷
    codes "PyGILState_STATE" ∷ codes "size_t" ∷ codes "ssize_t" ∷ codes "int8_t" ∷ codes "int16_t" ∷ codes "int32_t"
    ∷ codes "int64_t" ∷
    codes "uint8_t" ∷ codes "uint16_t" ∷ codes "uint32_t" ∷ codes "uint64_t" ∷ codes "bool" ∷ codes "FILE" ∷ []

abbrev pub statics : List (List ℕ)
statics =
    codes "Py_None" ∷ codes "Py_True" ∷ codes "Py_False" ∷ codes "PyExc_Exception" ∷ codes "PyExc_TypeError"
    ∷ codes "PyExc_ValueError" ∷
    codes "PyExc_RuntimeError" ∷ codes "PyExc_KeyError" ∷ codes "PyExc_IndexError" ∷ codes "PyExc_AttributeError"
    ∷ codes "PyExc_OverflowError" ∷
    codes "PyExc_MemoryError" ∷ codes "PyExc_StopIteration" ∷ codes "PyExc_ImportError" ∷ codes "PyExc_SystemError" ∷
    codes "PyExc_NotImplementedError" ∷ codes "PyExc_OSError" ∷ codes "PyExc_ZeroDivisionError"
    ∷ codes "PyList_Type" ∷ codes "PyTuple_Type" ∷
    codes "PyDict_Type" ∷ codes "PyUnicode_Type" ∷ codes "PyLong_Type" ∷ codes "PyBytes_Type" ∷ []

abbrev pub plain_rows : List (List ℕ)
plain_rows =
    codes "PyLong_FromLong" ∷ codes "PyUnicode_FromString" ∷ codes "PyBytes_FromString" ∷ codes "PyList_New"
    ∷ codes "PyTuple_New" ∷
    codes "PyDict_New" ∷ codes "PyObject_Str" ∷ codes "PyObject_Repr" ∷ codes "PyObject_GetAttr"
    ∷ codes "PyObject_GetAttrString" ∷
    codes "PyObject_GetItem" ∷ codes "PyObject_GetIter" ∷ codes "PyObject_CallObject" ∷ codes "PyObject_Call"
    ∷ codes "PySequence_GetItem" ∷
    codes "PySequence_Fast" ∷ codes "PyNumber_Add" ∷ codes "PyNumber_Subtract" ∷ codes "PyNumber_Multiply"
    ∷ codes "PyDict_Keys" ∷
    codes "PyDict_Values" ∷ codes "PyDict_Items" ∷ codes "PyImport_ImportModule" ∷ codes "PyIter_Next"
    ∷ codes "PyModule_Create" ∷
    codes "PyList_GetItem" ∷ codes "PyTuple_GetItem" ∷ codes "PyDict_GetItem" ∷ codes "PyDict_GetItemString"
    ∷ codes "PyDict_GetItemWithError" ∷
    codes "PyImport_AddModule" ∷ codes "PyErr_Occurred" ∷ codes "PyModule_GetDict"
    ∷ codes "PySequence_Fast_GET_ITEM" ∷ codes "PyList_GET_ITEM" ∷
    codes "PyTuple_GET_ITEM" ∷ codes "PyList_SetItem" ∷ codes "PyTuple_SetItem" ∷ codes "PyModule_AddObject"
    ∷ codes "PyModule_AddObjectRef" ∷
    codes "PyList_Append" ∷ codes "PyList_Insert" ∷ codes "PyDict_SetItem" ∷ codes "PyDict_SetItemString"
    ∷ codes "PyDict_DelItem" ∷
    codes "PyObject_SetAttr" ∷ codes "PyObject_SetAttrString" ∷ codes "PyObject_SetItem" ∷ codes "PySequence_SetItem" ∷
    codes "PyModule_AddIntConstant" ∷ codes "PyType_Ready" ∷ codes "PyObject_IsTrue" ∷ codes "PyObject_IsInstance" ∷
    codes "PyObject_RichCompareBool" ∷ codes "PyObject_Size" ∷ codes "PySequence_Size" ∷ codes "PySequence_Length"
    ∷ codes "PyLong_AsLong" ∷
    codes "PyList_SET_ITEM" ∷ codes "PyTuple_SET_ITEM" ∷ codes "PyErr_SetString" ∷ codes "PyErr_SetNone"
    ∷ codes "PyErr_Clear" ∷
    codes "PyErr_NoMemory" ∷ []

abbrev pub special_rows : List (List ℕ)
special_rows =
    codes "Py_INCREF" ∷ codes "Py_DECREF" ∷ codes "Py_XINCREF" ∷ codes "Py_XDECREF" ∷ codes "Py_CLEAR"
    ∷ codes "Py_NewRef" ∷ codes "Py_XNewRef" ∷
    codes "PyObject_New" ∷ codes "PyTuple_Pack" ∷ codes "PyObject_CallFunctionObjArgs" ∷ codes "PyErr_Format"
    ∷ codes "PyArg_ParseTuple" ∷
    codes "PyArg_UnpackTuple" ∷ codes "PyDict_Next" ∷ codes "Py_BuildValue" ∷ []

abbrev pub other_words : List (List ℕ)
other_words =
    codes "ob_base" ∷ codes "PyDoc_STRVAR" ∷ codes "Py_UNUSED" ∷ codes "include" ∷ codes "define" ∷ []

abbrev pub builtin_words : List (List ℕ)
builtin_words = keywords ++ macros ++ type_words ++ statics ++ plain_rows ++ special_rows ++ other_words

abbrev pub BeginWithWords : List (List ℕ) → Type 0
BeginWithWords names = take (length builtin_words) names ≡ builtin_words

abbrev pub HasNumber : ℕ → List ℕ → Type 0
HasNumber n text = slice_get builtin_words n ≡ Some text
