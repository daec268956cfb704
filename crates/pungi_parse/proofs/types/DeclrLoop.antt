-- The loop over declarators (C11 6.7.2.1).
--   DeclrsTo types low start front ts    these declarators are read, and further ones are read from here
--   declrs_begin, declrs_turn, declrs_fail, declrs_end    the first, one more, a failure, and the end
--   declrs_deepest        how deep they are with one more
use Rattle.std.proofs.Common.{◌≡◌, ℕ, zero, suc, ◌<◌, max, List, [], ◌∷◌, ◌++◌, length, Some, None, refl, ◌∙◌, ap}
use Rattle.std.proofs.Common.{arith}
use Rattle.pungi_base.specs.declared.names.Name.{Name}
use Rattle.pungi_base.specs.declared.pos.Pos.{Pos}
use Rattle.pungi_base.specs.declared.punct.Punct.TheVariants as puncts
use Rattle.pungi_parse.specs.tokens.OneToken.{eat}
use Rattle.pungi_parse.specs.Gives.{Fails}
use Rattle.pungi_parse.specs.Reading.{Read, ◌>>=◌, chain, on_some}
use Rattle.pungi_parse.specs.types.TypeReader.{Lower, declr_at, declrs, more_declrs}
use Rattle.pungi_parse.specs.declared.stop.Stop.{Stop}
use Rattle.pungi_parse.specs.declared.stop.Stop.TheVariants as stops
use Rattle.pungi_parse.proofs.ListLoop.{before, before_push, ListTo, list_turn, list_fail, list_end}
use Rattle.pungi_tree.specs.ExprDepth.{declr_depth, declrs_depth}
use Rattle.pungi_tree.specs.ExprView.{declrs_of}
use Rattle.pungi_tree.specs.Placed.{Placed}
use Rattle.pungi_tree.specs.Syntax.{Declr, Declrs, no_declrs, declr_and}

pub all_declrs : List Declr → Declrs × List Placed → Read Declrs
all_declrs front y = Some (before declr_and front y.0, y.1)

all_before : (front : List Declr) → before declr_and front no_declrs ≡ declrs_of front
all_before [] = refl
all_before (d ∷ front) = ap (λ z. declr_and d z) (all_before front)

pub declrs_deepest : (front : List Declr) (d : Declr)
    → declrs_depth (declrs_of (front ++ d ∷ [])) ≡ max (declrs_depth (declrs_of front)) (declr_depth d)
declrs_deepest [] d = omega arith
declrs_deepest (a ∷ front) d = omega (arith, declrs_deepest front d)

place : (front : List Declr) (d : Declr) (y : Declrs × List Placed)
    → all_declrs front (declr_and d y.0, y.1) ≡ all_declrs (front ++ d ∷ []) y
unfolding all_declrs
place front d y = rw (before_push declr_and front d y.0) refl

abbrev pub DeclrsTo : List Name → Lower → List Placed → List Declr → List Placed → Type 0
DeclrsTo types low start front ts = ListTo (more_declrs types low) all_declrs (declrs types low start) front ts

module _ (types : List Name) (low : Lower) (start : List Placed) where
  pub declrs_begin : (d : Declr) (ts : List Placed) → declr_at types low start ≡ Some (d, ts)
      → DeclrsTo types low start (d ∷ []) ts
  unfolding declrs chain all_declrs
  declrs_begin d ts r = record { fuel = suc (length ts); enough = omega arith; comes = rw r refl }

  more_turn : (k : ℕ) (d : Declr) (ts rest : List Placed) (o : Pos × List Placed) → eat puncts.Comma ts ≡ Some o
      → declr_at types low o.1 ≡ Some (d, rest)
      → more_declrs types low (suc k) ts ≡ (more_declrs types low k rest >>= λ (y : Declrs × List Placed). Some
      (declr_and d y.0, y.1))
  unfolding more_declrs on_some chain
  more_turn k d ts rest o h r = rw (h, r) refl

  more_fails : (k : ℕ) (ts : List Placed) (o : Pos × List Placed) → eat puncts.Comma ts ≡ Some o
      → declr_at types low o.1 ≡ None → more_declrs types low k ts ≡ None
  unfolding more_declrs on_some chain
  more_fails zero ts o h r = refl
  more_fails (suc k) ts o h r = rw (h, r) refl

  more_ends : (k : ℕ) (ts : List Placed) → eat puncts.Comma ts ≡ None
      → more_declrs types low (suc k) ts ≡ Some (no_declrs, ts)
  unfolding more_declrs on_some
  more_ends k ts h = rw h refl

  pub declrs_turn : (front : List Declr) (d : Declr) (ts rest : List Placed) (o : Pos × List Placed)
      → DeclrsTo types low start front ts → eat puncts.Comma ts ≡ Some o → declr_at types low o.1 ≡ Some (d, rest)
      → length rest < length ts → DeclrsTo types low start (front ++ d ∷ []) rest
  declrs_turn front d ts rest o c h r n = list_turn declr_and (more_declrs types low) all_declrs
      (declrs types low start) front ts d rest (λ y. place front d y) (λ k. more_turn k d ts rest o h r) n c

  pub declrs_fail : (f : Stop) (front : List Declr) (ts : List Placed) (o : Pos × List Placed)
      → DeclrsTo types low start front ts → eat puncts.Comma ts ≡ Some o → Fails f (declr_at types low o.1)
      → Fails f (declrs types low start)
  declrs_fail stops.Memory front ts o c h r = tt
  declrs_fail stops.NothingRead front ts o c h r = list_fail declr_and (more_declrs types low) all_declrs
      (declrs types low start) front ts (λ k. more_fails k ts o h r) c

  pub declrs_end : (front : List Declr) (ts : List Placed) → DeclrsTo types low start front ts
      → eat puncts.Comma ts ≡ None → declrs types low start ≡ Some (declrs_of front, ts)
  unfolding all_declrs
  declrs_end front ts c h = list_end declr_and (more_declrs types low) all_declrs (declrs types low start) front ts
      (no_declrs, ts) (λ k. more_ends k ts h) c ∙ rw (all_before front) refl
