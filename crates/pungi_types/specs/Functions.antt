-- Where each rule holds in a function, and which is reported (C11 6.9.1).
--   file_env file refused self    the names of the file, where a function of this name stands
--   result_kind env d   the kind of a function's result
--   first_frame env d, after_param, after_params, params_frame    the frames before and after parameters
--   name_findings, param_findings, dots_findings, params_findings    what holds in parameters
--   body_findings f s, body_locals s    what holds in a body, and how many locals it declares
--   result_findings, parts_findings, text_findings env d    N1 to N14
--   params_count, size_findings d    N15 and N16
--   is_object_decl, is_object_param, takes_object    a parameter, and that at a place, is for an object
--   may_declare env d c   a convention fits a function: what it takes over and what it lends are objects
--   convention_findings env d    N17
--   whole_findings, or_whole    N15 to N17, where no other rule holds
--   findings env d, refusal_in env d, refusal file refused d    all that holds, and the finding that is reported
use Rattle.std.specs.Prelude.{ℕ, zero, suc, ◌+◌, nat_lt, Bool, true, false, not, ◌&&◌, ◌||◌, List, [], Option, Some}
use Rattle.std.specs.Prelude.{None, is_none}
use Rattle.std.specs.List.{list_all}
use Rattle.pungi_base.specs.declared.pos.Pos.{Pos}
use Rattle.pungi_api.specs.declared.terms.Convention.{Convention}
use Rattle.pungi_api.specs.Terms.{convention_of}
use Rattle.pungi_tree.specs.Syntax.{Params, params, ParamDecl, param_decl, ParamDecls, no_params, param_and, ParamDeclr}
use Rattle.pungi_tree.specs.Syntax.{named, bare, unused, Stmt, block, Item}
use Rattle.pungi_types.specs.Files.{SourceFile, Definition, declr_name, declr_pos}
use Rattle.pungi_types.specs.Names.{Env, with_word}
use Rattle.pungi_types.specs.Operators.{is_object}
use Rattle.pungi_types.specs.Kinds.{type_kind, spec_base}
use Rattle.pungi_types.specs.Findings.{Findings, nothing_found, ◌and◌, when, least}
use Rattle.pungi_types.specs.Calls.{param_kind}
use Rattle.pungi_types.specs.Labels.{label_findings, param_count, stmts_locals}
use Rattle.pungi_types.specs.Nodes.{function_nodes}
use Rattle.pungi_types.specs.Stmts.{Frame, with_local, declared_n1, declared_n8, spec_pos, in_block, stmts_findings}
use Rattle.pungi_types.specs.Limits.{most_locals, most_nodes}
use Rattle.pungi_types.specs.declared.kind.ValueKind.{ValueKind}
use Rattle.pungi_types.specs.declared.finding.Finding.{Finding}

-- the names of the file, where a function of this name stands
abbrev pub file_env : SourceFile → List ℕ → ℕ → Env
file_env file refused self = record { file = file; self = self; refused = refused; locals = [] }

abbrev pub result_kind : Env → Definition → Option ValueKind
result_kind env d = type_kind env.file.items (spec_base d.result) d.stars

-- the frame in front of the first parameter
abbrev pub first_frame : Env → Definition → Frame
first_frame env d = record {
  env = env;
  block = [];
  next = 0;
  result = result_kind env d;
  labels = [];
  breaks = false;
  continues = false;
  cases = false;
  switched = false;
}

-- only a parameter that is written plainly has a name in the body; the others are locals without one
abbrev pub after_param : Frame → ParamDecl → Frame
after_param f (param_decl qs s (named d)) =
    record f {
      env = with_local f.env (record {
        name = declr_name d;
        number = f.next;
        kind = param_kind f.env.file.items s
            (named d);
      });
      block = with_word f.block (declr_name d).0;
      next = f.next + 1;
    }
after_param f (param_decl qs s (bare stars)) = record f { next = f.next + 1 }
after_param f (param_decl qs s (unused stars n p)) = record f { next = f.next + 1 }

abbrev pub name_findings : Frame → ParamDeclr → Findings
name_findings f (named d) = declared_n8 f.env f.block (declr_name d) (declr_pos d)
name_findings f _ = nothing_found

abbrev pub param_findings : Frame → ParamDecls → Findings
param_findings f no_params = nothing_found
param_findings f (param_and (param_decl qs s d) ds) =
    declared_n1 qs s (param_kind f.env.file.items s d)
    and (name_findings f d and param_findings (after_param f (param_decl qs s d)) ds)

abbrev pub after_params : Frame → ParamDecls → Frame
after_params f no_params = f
after_params f (param_and d ds) = after_params (after_param f d) ds

abbrev pub dots_findings : Option Pos → Findings
dots_findings None = nothing_found
dots_findings (Some p) = when true p 1

abbrev pub params_findings : Frame → Params → Findings
params_findings f (params ds v dots) = dots_findings dots and param_findings f ds

abbrev pub params_frame : Frame → Params → Frame
params_frame f (params ds v dots) = after_params f ds

-- a body is a block, and the parameters count as locals of it
abbrev pub body_findings : Frame → Stmt → Findings
body_findings f (block p ss q) = stmts_findings (record (in_block f ss) { block = f.block }) ss
body_findings f _ = nothing_found

abbrev pub body_locals : Stmt → ℕ
body_locals (block p ss q) = stmts_locals ss
body_locals _ = 0

-- N1: a result of no kind
abbrev pub result_findings : Env → Definition → Findings
result_findings env d = when (is_none (result_kind env d)) (spec_pos d.result) 1

-- where a rule holds in the parameters and the body
abbrev pub parts_findings : Frame → Definition → Findings
parts_findings f d =
    params_findings f d.params and (label_findings [] d.body and body_findings (params_frame f d.params) d.body)

-- N1 to N14
abbrev pub text_findings : Env → Definition → Findings
text_findings env d = result_findings env d and parts_findings (first_frame env d) d

abbrev pub params_count : Params → ℕ
params_count (params ds v dots) = param_count ds

-- N15: too many locals, N16: too many nodes
abbrev pub size_findings : Definition → Findings
size_findings d =
    when (nat_lt most_locals (params_count d.params + body_locals d.body)) d.pos 15
    and when (nat_lt most_nodes (function_nodes d)) d.pos 16

abbrev pub is_object_decl : List Item → ParamDecl → Bool
is_object_decl file (param_decl qs s d) = is_object (param_kind file s d)

abbrev pub is_object_param : List Item → ParamDecls → ℕ → Bool
is_object_param file no_params p = false
is_object_param file (param_and d ds) zero = is_object_decl file d
is_object_param file (param_and d ds) (suc p) = is_object_param file ds p

abbrev pub takes_object : List Item → Params → ℕ → Bool
takes_object file (params ds v dots) p = is_object_param file ds p

abbrev pub may_declare : Env → Definition → Convention → Bool
may_declare env d c =
    list_all (takes_object env.file.items d.params) c.taken && (not c.borrowed || is_object (result_kind env d))

-- N17: what is declared of a function takes over or lends what is no object
abbrev pub convention_findings : Env → Definition → Findings
convention_findings env d = when (not (may_declare env d (convention_of env.file.terms d.name.0))) d.pos 17

abbrev pub whole_findings : Env → Definition → Findings
whole_findings env d = size_findings d and convention_findings env d

abbrev pub or_whole : Env → Definition → Findings → Option Finding → Findings
or_whole env d fs None = whole_findings env d
or_whole env d fs (Some f) = fs

-- where a rule holds in a function; what is looked at as a whole is examined only where no other rule holds
abbrev pub findings : Env → Definition → Findings
findings env d = or_whole env d (text_findings env d) (least (text_findings env d))

-- the finding that is reported of a function, where these names are in force
abbrev pub refusal_in : Env → Definition → Option Finding
refusal_in env d = least (findings env d)

-- the finding that is reported of a function, where these functions are refused
abbrev pub refusal : SourceFile → List ℕ → Definition → Option Finding
refusal file refused d = refusal_in (file_env file refused d.name.0) d
