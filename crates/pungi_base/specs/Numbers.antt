-- The numbers of words, and how many there are of each kind. A word's number is its place in the list of words, from 0.
--   word_count, keyword_count, macro_count, type_word_count, static_count
--                       how many words there are, keywords, predefined macros, names of types, and objects that are
--                       there before any run
--   plain_static_count  how many of these objects are used without `&`; the others are type objects
--   first_type, types_end             the names of types: the first, and the first word after them
--   first_static, first_type_object, statics_end
--                       the objects: the first, the first type object, and the first word after them
--   first_free          the first word that a text may declare as its own: all before it are keywords, macros, types,
--                       objects and API calls
--   py_return_none ..   the number of the word of this name; include_word and define_word are those of directives
--   IsNumber constant n text    the program's constant is this number, which the word has
--   IsCount constant n words    the program's constant is this number, and so many words there are
use Rattle.std.specs.Prelude.{◌≡◌, ℕ, List, length}
use Rattle.pungi_base.specs.Words.{HasNumber}

abbrev pub word_count : ℕ
word_count = 187

abbrev pub keyword_count : ℕ
keyword_count = 34

abbrev pub macro_count : ℕ
macro_count = 14

abbrev pub type_word_count : ℕ
type_word_count = 31

abbrev pub static_count : ℕ
static_count = 24

abbrev pub plain_static_count : ℕ
plain_static_count = 18

abbrev pub first_type : ℕ
first_type = 48

abbrev pub types_end : ℕ
types_end = 79

abbrev pub first_static : ℕ
first_static = 79

abbrev pub first_type_object : ℕ
first_type_object = 97

abbrev pub statics_end : ℕ
statics_end = 103

abbrev pub first_free : ℕ
first_free = 182

abbrev pub py_return_none : ℕ
py_return_none = 34

abbrev pub py_return_true : ℕ
py_return_true = 35

abbrev pub py_return_false : ℕ
py_return_false = 36

abbrev pub py_begin_allow_threads : ℕ
py_begin_allow_threads = 37

abbrev pub py_end_allow_threads : ℕ
py_end_allow_threads = 38

abbrev pub py_modinit_func : ℕ
py_modinit_func = 39

abbrev pub py_object_head : ℕ
py_object_head = 40

abbrev pub py_object_var_head : ℕ
py_object_var_head = 41

abbrev pub py_lt : ℕ
py_lt = 42

abbrev pub py_le : ℕ
py_le = 43

abbrev pub py_eq : ℕ
py_eq = 44

abbrev pub py_ne : ℕ
py_ne = 45

abbrev pub py_gt : ℕ
py_gt = 46

abbrev pub py_ge : ℕ
py_ge = 47

abbrev pub py_object : ℕ
py_object = 48

abbrev pub py_var_object : ℕ
py_var_object = 49

abbrev pub py_type_object : ℕ
py_type_object = 50

abbrev pub py_method_def : ℕ
py_method_def = 51

abbrev pub py_module_def : ℕ
py_module_def = 52

abbrev pub py_member_def : ℕ
py_member_def = 54

abbrev pub py_get_set_def : ℕ
py_get_set_def = 55

abbrev pub py_ssize_t : ℕ
py_ssize_t = 62

abbrev pub py_none : ℕ
py_none = 79

abbrev pub py_true : ℕ
py_true = 80

abbrev pub py_false : ℕ
py_false = 81

abbrev pub py_long_from_long : ℕ
py_long_from_long = 103

abbrev pub py_incref : ℕ
py_incref = 167

abbrev pub py_decref : ℕ
py_decref = 168

abbrev pub py_xincref : ℕ
py_xincref = 169

abbrev pub py_xdecref : ℕ
py_xdecref = 170

abbrev pub py_clear : ℕ
py_clear = 171

abbrev pub py_new_ref : ℕ
py_new_ref = 172

abbrev pub py_xnew_ref : ℕ
py_xnew_ref = 173

abbrev pub py_object_new : ℕ
py_object_new = 174

abbrev pub py_tuple_pack : ℕ
py_tuple_pack = 175

abbrev pub py_object_call_function_obj_args : ℕ
py_object_call_function_obj_args = 176

abbrev pub py_err_format : ℕ
py_err_format = 177

abbrev pub py_arg_parse_tuple : ℕ
py_arg_parse_tuple = 178

abbrev pub py_arg_unpack_tuple : ℕ
py_arg_unpack_tuple = 179

abbrev pub py_dict_next : ℕ
py_dict_next = 180

abbrev pub py_build_value : ℕ
py_build_value = 181

abbrev pub ob_base : ℕ
ob_base = 182

abbrev pub py_doc_strvar : ℕ
py_doc_strvar = 183

abbrev pub py_unused : ℕ
py_unused = 184

abbrev pub include_word : ℕ
include_word = 185

abbrev pub define_word : ℕ
define_word = 186

abbrev pub IsNumber : ℕ → ℕ → List ℕ → Type 0
IsNumber constant n text = (constant ≡ n) × HasNumber n text

abbrev pub IsCount : ℕ → ℕ → List (List ℕ) → Type 0
IsCount constant n words = (constant ≡ n) × (n ≡ length words)
