-- The loop over parameters (C11 6.7.6.3).
--   ParamsTo types low start front ts    these parameters are read, and further ones are read from here
--   params_begin, params_turn, params_fail, params_dots, params_end    the first, one more, a failure, the end with `,
--                                                                      ...`, and without
--   params_deepest        how deep they are with one more
use Rattle.std.proofs.Common.{◌≡◌, ℕ, zero, suc, ◌<◌, max, List, [], ◌∷◌, ◌++◌, length, Option, Some, None, refl, ◌∙◌}
use Rattle.std.proofs.Common.{ap, arith}
use Rattle.pungi_base.specs.declared.names.Name.{Name}
use Rattle.pungi_base.specs.declared.pos.Pos.{Pos}
use Rattle.pungi_base.specs.declared.punct.Punct.TheVariants as puncts
use Rattle.pungi_parse.specs.tokens.OneToken.{eat}
use Rattle.pungi_parse.specs.Gives.{Fails}
use Rattle.pungi_parse.specs.Reading.{Read, ◌>>=◌, chain, on_some}
use Rattle.pungi_parse.specs.ReaderParts.{close_params}
use Rattle.pungi_parse.specs.types.TypeReader.{Lower, param, some_params, more_params, dots_front}
use Rattle.pungi_parse.specs.declared.stop.Stop.{Stop}
use Rattle.pungi_parse.specs.declared.stop.Stop.TheVariants as stops
use Rattle.pungi_parse.proofs.ListLoop.{before, before_push, ListTo, list_turn, list_fail, list_end}
use Rattle.pungi_tree.specs.ExprDepth.{param_decl_depth, param_decls_depth}
use Rattle.pungi_tree.specs.ExprView.{param_decls_of}
use Rattle.pungi_tree.specs.Placed.{Placed}
use Rattle.pungi_tree.specs.Syntax.{Params, ParamDecl, ParamDecls, no_params, param_and}

abbrev pub More : Type 0
More = ParamDecls × Option Pos

abbrev pub put_param : ParamDecl → More → More
put_param p y = (param_and p y.0, y.1)

pub all_params : List ParamDecl → More × List Placed → Read Params
all_params front y = close_params (before param_and front y.0.0) y.0.1 y.1

all_before : (front : List ParamDecl) → before param_and front no_params ≡ param_decls_of front
all_before [] = refl
all_before (p ∷ front) = ap (λ z. param_and p z) (all_before front)

pub params_deepest : (front : List ParamDecl) (p : ParamDecl)
    → param_decls_depth (param_decls_of (front ++ p ∷ []))
    ≡ max (param_decls_depth (param_decls_of front)) (param_decl_depth p)
params_deepest [] p = omega arith
params_deepest (a ∷ front) p = omega (arith, params_deepest front p)

place : (front : List ParamDecl) (p : ParamDecl) (y : More × List Placed)
    → all_params front (put_param p y.0, y.1) ≡ all_params (front ++ p ∷ []) y
unfolding all_params
place front p y = rw (before_push param_and front p y.0.0) refl

abbrev pub ParamsTo : List Name → Lower → List Placed → List ParamDecl → List Placed → Type 0
ParamsTo types low start front ts = ListTo (more_params types low) all_params (some_params types low start) front ts

module _ (types : List Name) (low : Lower) (start : List Placed) where
  pub params_begin : (p : ParamDecl) (ts : List Placed) → param types low start ≡ Some (p, ts)
      → ParamsTo types low start (p ∷ []) ts
  unfolding some_params chain all_params close_params
  params_begin p ts r = record { fuel = suc (length ts); enough = omega arith; comes = rw r refl }

  more_turn : (k : ℕ) (p : ParamDecl) (ts rest : List Placed) (o : Pos × List Placed) → dots_front ts ≡ None
      → eat puncts.Comma ts ≡ Some o → param types low o.1 ≡ Some (p, rest)
      → more_params types low (suc k) ts ≡ (more_params types low k rest >>= λ (y : More × List Placed). Some
      (put_param p y.0, y.1))
  unfolding more_params on_some chain
  more_turn k p ts rest o d h r = rw (d, h, r) refl

  more_fails : (k : ℕ) (ts : List Placed) (o : Pos × List Placed) → dots_front ts ≡ None
      → eat puncts.Comma ts ≡ Some o → param types low o.1 ≡ None → more_params types low k ts ≡ None
  unfolding more_params on_some chain
  more_fails zero ts o d h r = refl
  more_fails (suc k) ts o d h r = rw (d, h, r) refl

  more_dots : (k : ℕ) (ts : List Placed) (o : Pos × List Placed) → dots_front ts ≡ Some o
      → more_params types low (suc k) ts ≡ Some ((no_params, Some o.0), o.1)
  unfolding more_params on_some
  more_dots k ts o h = rw h refl

  more_ends : (k : ℕ) (ts : List Placed) → dots_front ts ≡ None → eat puncts.Comma ts ≡ None
      → more_params types low (suc k) ts ≡ Some ((no_params, None), ts)
  unfolding more_params on_some
  more_ends k ts d h = rw (d, h) refl

  pub params_turn : (front : List ParamDecl) (p : ParamDecl) (ts rest : List Placed) (o : Pos × List Placed)
      → ParamsTo types low start front ts → dots_front ts ≡ None → eat puncts.Comma ts ≡ Some o
      → param types low o.1 ≡ Some (p, rest) → length rest < length ts
      → ParamsTo types low start (front ++ p ∷ []) rest
  params_turn front p ts rest o c d h r n = list_turn put_param (more_params types low) all_params
      (some_params types low start) front ts p rest (λ y. place front p y) (λ k. more_turn k p ts rest o d h r) n c

  pub params_fail : (f : Stop) (front : List ParamDecl) (ts : List Placed) (o : Pos × List Placed)
      → ParamsTo types low start front ts → dots_front ts ≡ None → eat puncts.Comma ts ≡ Some o
      → Fails f (param types low o.1) → Fails f (some_params types low start)
  params_fail stops.Memory front ts o c d h r = tt
  params_fail stops.NothingRead front ts o c d h r = list_fail put_param (more_params types low) all_params
      (some_params types low start) front ts (λ k. more_fails k ts o d h r) c

  pub params_dots : (front : List ParamDecl) (ts : List Placed) (o : Pos × List Placed)
      → ParamsTo types low start front ts → dots_front ts ≡ Some o
      → some_params types low start ≡ close_params (param_decls_of front) (Some o.0) o.1
  unfolding all_params
  params_dots front ts o c h = list_end put_param (more_params types low) all_params (some_params types low start)
      front ts ((no_params, Some o.0), o.1) (λ k. more_dots k ts o h) c ∙ rw (all_before front) refl

  pub params_end : (front : List ParamDecl) (ts : List Placed) → ParamsTo types low start front ts
      → dots_front ts ≡ None → eat puncts.Comma ts ≡ None
      → some_params types low start ≡ close_params (param_decls_of front) None ts
  unfolding all_params
  params_end front ts c d h = list_end put_param (more_params types low) all_params (some_params types low start)
      front ts ((no_params, None), ts) (λ k. more_ends k ts d h) c ∙ rw (all_before front) refl
