-- What one call of the API takes, takes over and returns (Python/C API Reference Manual 3.11).
--   own_effect s, own_params s given, own_answer s    of a row with a rule of its own: what it does in place of what the
--                               rest says, what its arguments may be, and what it returns
--   plain_signature row         a call whose parameters, answer and arguments that it takes over say all
--   special_signature s given   a call with a rule of its own, whose arguments are of these sorts
--   form_signature f row given  a call of a row of this form
--   signature_of row given      a call of a row
--   simple_signature ps a       a call that takes over nothing, has no effect of its own and returns this
--   output_signature a          what is written to a variable whose address is passed comes as if a call without
--                               arguments returned it
--   unit_param, unit_take u     what an argument that is put into a value that is built may be, and whether it is taken
--                               over
--   build_signature units       a call of `Py_BuildValue` in which no object is NULL
--   typed_params us, parse_params us    the types that stand among the arguments of `PyArg_ParseTuple`, and all of its
--                               arguments that are no variables
--   unpack_params, next_params    those of `PyArg_UnpackTuple`, and of `PyDict_Next`
--   made_signature              a call of `PyObject_New`
--   null_signature g            the same call, where it returns NULL
--   row_answer a                the answer that a row would have which returns that, as far as success can be seen
--   returns_object a ps         what a call returns that is its argument is an object or NULL
--   is_sure a                   a call with this answer uses no choice
--   has_outcomes own a          a call that has an effect of its own uses none, and an argument parser ends with an
--                               `int`
--   is_signature g              a call takes over only objects, on success only where success can be seen, and returns
--                               no argument but an object; with an effect of its own it uses no choice, and what it
--                               returns is within its kind
use Rattle.std.specs.Prelude.{◌-◌, Bool, true, false, ◌&&◌, List, [], ◌∷◌, length, drop, replicate, Option, Some}
use Rattle.std.specs.Prelude.{None, map}
use Rattle.pungi_format.specs.declared.in_unit.InUnit.{InUnit}
use Rattle.pungi_format.specs.declared.in_unit.InUnit.TheVariants as in_unit
use Rattle.pungi_format.specs.declared.out_unit.OutUnit.{OutUnit}
use Rattle.pungi_format.specs.declared.out_unit.OutUnit.TheVariants as unit
use Rattle.pungi_api.specs.declared.answer.Answer.{Answer}
use Rattle.pungi_api.specs.declared.answer.Answer.TheVariants as answer
use Rattle.pungi_api.specs.declared.call_answer.CallAnswer.{CallAnswer}
use Rattle.pungi_api.specs.declared.call_answer.CallAnswer.TheVariants.{Of, Argument}
use Rattle.pungi_api.specs.declared.own_effect.OwnEffect.{OwnEffect}
use Rattle.pungi_api.specs.declared.own_effect.OwnEffect.TheVariants as own
use Rattle.pungi_api.specs.declared.param.Param.{Param}
use Rattle.pungi_api.specs.declared.param.Param.TheVariants as param
use Rattle.pungi_api.specs.declared.row.Form.{Form}
use Rattle.pungi_api.specs.declared.row.Form.TheVariants as form
use Rattle.pungi_api.specs.declared.row.Row.{Row}
use Rattle.pungi_api.specs.declared.signature.Signature.{Signature}
use Rattle.pungi_api.specs.declared.special.Special.{Special}
use Rattle.pungi_api.specs.declared.special.Special.TheVariants as special
use Rattle.pungi_api.specs.declared.take.Take.{Take}
use Rattle.pungi_api.specs.declared.take.Take.TheVariants as takes
use Rattle.pungi_api.specs.Rows.{fits_int, is_object, may_take_all}

-- `None` where the parameters, the answer and what is taken over say all
abbrev pub own_effect : Special → Option OwnEffect
own_effect special.IncRef = Some own.IncRef
own_effect special.XIncRef = Some own.IncRef
own_effect special.NewRef = Some own.IncRef
own_effect special.XNewRef = Some own.IncRef
own_effect special.DecRef = Some own.DecRef
own_effect special.XDecRef = Some own.DecRef
own_effect special.Clear = Some own.DecRef
own_effect s = None

-- `PyTuple_Pack` takes a number and then objects, `PyObject_CallFunctionObjArgs` objects of which all but the first may
-- be NULL, `PyErr_Format` an exception, a text and then anything
abbrev pub own_params : Special → List Param → List Param
own_params special.IncRef given = param.Object ∷ []
own_params special.DecRef given = param.Object ∷ []
own_params special.NewRef given = param.Object ∷ []
own_params special.TuplePack given = param.Size ∷ replicate (length given - 1) param.Object
own_params special.CallFunctionObjArgs given = param.Object ∷ replicate (length given - 1) param.ObjectOrNull
own_params special.ErrFormat given = param.Object ∷ param.Text ∷ drop 2 given
own_params s given = param.ObjectOrNull ∷ []

abbrev pub own_answer : Special → CallAnswer
own_answer special.NewRef = Argument
own_answer special.XNewRef = Argument
own_answer special.TuplePack = Of answer.New
own_answer special.CallFunctionObjArgs = Of answer.New
own_answer special.ErrFormat = Of answer.Null
own_answer s = Of answer.Void

abbrev pub plain_signature : Row → Signature
plain_signature row =
    record {
      own = None;
      params = row.params;
      takes = row.takes;
      answer = Of row.answer;
    }

abbrev pub special_signature : Special → List Param → Signature
special_signature s given =
    record {
      own = own_effect s;
      params = own_params s given;
      takes = replicate (length (own_params s given)) takes.Never;
      answer = own_answer s;
    }

abbrev pub form_signature : Form → Row → List Param → Signature
form_signature form.Plain row given = plain_signature row
form_signature (form.Special s) row given = special_signature s given

abbrev pub signature_of : Row → List Param → Signature
signature_of row given = form_signature row.form row given

-- ---- calls that are made of formats

abbrev pub simple_signature : List Param → Answer → Signature
simple_signature ps a =
    record {
      own = None;
      params = ps;
      takes = replicate (length ps) takes.Never;
      answer = Of a;
    }

abbrev pub output_signature : Answer → Signature
output_signature a = simple_signature [] a

abbrev pub unit_param : OutUnit → Param
unit_param unit.Keep = param.ObjectOrNull
unit_param unit.Take = param.ObjectOrNull
unit_param unit.Int = param.Int
unit_param unit.Long = param.Long
unit_param unit.Size = param.Size
unit_param unit.TextOrNull = param.TextOrNull

abbrev pub unit_take : OutUnit → Take
unit_take unit.Take = takes.Always
unit_take u = takes.Never

abbrev pub build_signature : List OutUnit → Signature
build_signature units =
    record {
      own = None;
      params = param.Text ∷ map unit_param units;
      takes = takes.Never ∷ map unit_take units;
      answer = Of answer.New;
    }

abbrev pub typed_params : List InUnit → List Param
typed_params [] = []
typed_params (in_unit.ObjectOf ∷ us) = param.Object ∷ typed_params us
typed_params (u ∷ us) = typed_params us

abbrev pub parse_params : List InUnit → List Param
parse_params us = param.Object ∷ param.Text ∷ typed_params us

abbrev pub unpack_params : List Param
unpack_params = param.Object ∷ param.Text ∷ param.Size ∷ param.Size ∷ []

abbrev pub next_params : List Param
next_params = param.Object ∷ param.Size ∷ []

-- the type of the object that is made
abbrev pub made_signature : Signature
made_signature = simple_signature (param.Object ∷ []) answer.Made

abbrev pub null_signature : Signature → Signature
null_signature g = record g { answer = Of answer.Null }

-- ---- well-formed calls

-- what it returns that is its argument shows no success
abbrev pub row_answer : CallAnswer → Answer
row_answer (Of a) = a
row_answer Argument = answer.Void

abbrev pub returns_object : CallAnswer → List Param → Bool
returns_object (Of a) ps = true
returns_object Argument [] = false
returns_object Argument (p ∷ ps) = is_object p

abbrev pub is_sure : Answer → Bool
is_sure answer.Void = true
is_sure answer.Null = true
is_sure a = false

abbrev pub has_outcomes : Option OwnEffect → CallAnswer → Bool
has_outcomes own Argument = true
has_outcomes None (Of a) = fits_int a
has_outcomes (Some o) (Of a) = is_sure a

abbrev pub is_signature : Signature → Bool
is_signature g =
    may_take_all (row_answer g.answer) g.params g.takes
    && (returns_object g.answer g.params && has_outcomes g.own g.answer)
