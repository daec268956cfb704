-- The loop over the lines of a struct (C11 6.7.2.1).
--   FieldsTo types low start front ts    these lines are read, and further ones are read from here
--   fields_begin, fields_turn, fields_fail, fields_end    before the first, one more, a failure, and the end
--   fields_deepest        how deep they are with one more
use Rattle.std.proofs.Common.{◌≡◌, ℕ, zero, suc, ◌<◌, max, List, [], ◌∷◌, ◌++◌, length, Some, None, refl, ◌∙◌, ap}
use Rattle.std.proofs.Common.{arith}
use Rattle.pungi_base.specs.declared.names.Name.{Name}
use Rattle.pungi_base.specs.declared.pos.Pos.{Pos}
use Rattle.pungi_base.specs.declared.punct.Punct.TheVariants as puncts
use Rattle.pungi_parse.specs.tokens.OneToken.{eat}
use Rattle.pungi_parse.specs.Gives.{Fails}
use Rattle.pungi_parse.specs.Reading.{Read, ◌>>=◌, chain, on_some}
use Rattle.pungi_parse.specs.types.TypeReader.{Lower, field, fields}
use Rattle.pungi_parse.specs.declared.stop.Stop.{Stop}
use Rattle.pungi_parse.specs.declared.stop.Stop.TheVariants as stops
use Rattle.pungi_parse.proofs.ListLoop.{before, before_push, ListTo, list_turn, list_fail, list_end}
use Rattle.pungi_tree.specs.ExprDepth.{field_depth, fields_depth}
use Rattle.pungi_tree.specs.ExprView.{fields_of}
use Rattle.pungi_tree.specs.Placed.{Placed}
use Rattle.pungi_tree.specs.Syntax.{Field, Fields, no_fields, field_and}

pub all_fields : List Field → Fields × List Placed → Read Fields
all_fields front y = Some (before field_and front y.0, y.1)

all_before : (front : List Field) → before field_and front no_fields ≡ fields_of front
all_before [] = refl
all_before (f ∷ front) = ap (λ z. field_and f z) (all_before front)

pub fields_deepest : (front : List Field) (f : Field)
    → fields_depth (fields_of (front ++ f ∷ [])) ≡ max (fields_depth (fields_of front)) (field_depth f)
fields_deepest [] f = omega arith
fields_deepest (a ∷ front) f = omega (arith, fields_deepest front f)

place : (front : List Field) (f : Field) (y : Fields × List Placed)
    → all_fields front (field_and f y.0, y.1) ≡ all_fields (front ++ f ∷ []) y
unfolding all_fields
place front f y = rw (before_push field_and front f y.0) refl

abbrev pub all_lines : List Name → Lower → List Placed → Read Fields
all_lines types low start = fields types low (suc (length start)) start

abbrev pub FieldsTo : List Name → Lower → List Placed → List Field → List Placed → Type 0
FieldsTo types low start front ts = ListTo (fields types low) all_fields (all_lines types low start) front ts

whole : (r : Read Fields) → r ≡ (r >>= all_fields [])
unfolding chain all_fields
whole None = refl
whole (Some y) = refl

module _ (types : List Name) (low : Lower) (start : List Placed) where
  pub fields_begin : FieldsTo types low start [] start
  fields_begin = record { fuel = suc (length start); enough = omega arith; comes = whole _ }

  more_turn : (k : ℕ) (f : Field) (ts rest : List Placed) → eat puncts.RightBrace ts ≡ None
      → field types low ts ≡ Some (f, rest) → fields types low (suc k) ts
      ≡ (fields types low k rest >>= λ (y : Fields × List Placed). Some (field_and f y.0, y.1))
  unfolding fields on_some chain
  more_turn k f ts rest h r = rw (h, r) refl

  more_fails : (k : ℕ) (ts : List Placed) → eat puncts.RightBrace ts ≡ None → field types low ts ≡ None
      → fields types low k ts ≡ None
  unfolding fields on_some chain
  more_fails zero ts h r = refl
  more_fails (suc k) ts h r = rw (h, r) refl

  more_ends : (k : ℕ) (ts : List Placed) (o : Pos × List Placed) → eat puncts.RightBrace ts ≡ Some o
      → fields types low (suc k) ts ≡ Some (no_fields, ts)
  unfolding fields on_some
  more_ends k ts o h = rw h refl

  pub fields_turn : (front : List Field) (f : Field) (ts rest : List Placed) → FieldsTo types low start front ts
      → eat puncts.RightBrace ts ≡ None → field types low ts ≡ Some (f, rest) → length rest < length ts
      → FieldsTo types low start (front ++ f ∷ []) rest
  fields_turn front f ts rest c h r n = list_turn field_and (fields types low) all_fields
      (all_lines types low start) front ts f rest (λ y. place front f y) (λ k. more_turn k f ts rest h r) n c

  pub fields_fail : (f : Stop) (front : List Field) (ts : List Placed) → FieldsTo types low start front ts
      → eat puncts.RightBrace ts ≡ None → Fails f (field types low ts) → Fails f (all_lines types low start)
  fields_fail stops.Memory front ts c h r = tt
  fields_fail stops.NothingRead front ts c h r = list_fail field_and (fields types low) all_fields
      (all_lines types low start) front ts (λ k. more_fails k ts h r) c

  pub fields_end : (front : List Field) (ts : List Placed) (o : Pos × List Placed)
      → FieldsTo types low start front ts → eat puncts.RightBrace ts ≡ Some o
      → all_lines types low start ≡ Some (fields_of front, ts)
  unfolding all_fields
  fields_end front ts o c h = list_end field_and (fields types low) all_fields (all_lines types low start) front ts
      (no_fields, ts) (λ k. more_ends k ts o h) c ∙ rw (all_before front) refl
