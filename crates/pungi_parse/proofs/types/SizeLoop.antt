-- The loop over the brackets of an array (C11 6.7.6.2).
--   SizesTo types low start front ts    these brackets are read, and further ones are read from here
--   sizes_begin, sizes_turn, sizes_fail, sizes_end    before the first, one more, a failure, and the end
--   sizes_deepest         how deep they are with one more
use Rattle.std.proofs.Common.{◌≡◌, ℕ, zero, suc, ◌<◌, max, List, [], ◌∷◌, ◌++◌, length, Option, Some, None, refl, ◌∙◌}
use Rattle.std.proofs.Common.{ap, arith}
use Rattle.pungi_base.specs.declared.names.Name.{Name}
use Rattle.pungi_base.specs.declared.pos.Pos.{Pos}
use Rattle.pungi_base.specs.declared.punct.Punct.TheVariants as puncts
use Rattle.pungi_parse.specs.tokens.OneToken.{eat}
use Rattle.pungi_parse.specs.Gives.{Fails}
use Rattle.pungi_parse.specs.Reading.{Read, ◌>>=◌, chain, on_some}
use Rattle.pungi_parse.specs.ReaderParts.{size_at, size_depth}
use Rattle.pungi_parse.specs.types.TypeReader.{Lower, sizes_at, sizes_in}
use Rattle.pungi_parse.specs.declared.stop.Stop.{Stop}
use Rattle.pungi_parse.specs.declared.stop.Stop.TheVariants as stops
use Rattle.pungi_parse.proofs.ListLoop.{before, before_push, ListTo, list_turn, list_fail, list_end}
use Rattle.pungi_parse.proofs.Tools.{some_same}
use Rattle.pungi_tree.specs.ExprDepth.{sizes_depth}
use Rattle.pungi_tree.specs.ExprView.{sizes_of}
use Rattle.pungi_tree.specs.Placed.{Placed}
use Rattle.pungi_tree.specs.Syntax.{Expr, Sizes, no_sizes, open_and, size_and}

abbrev pub put_size : Option Expr → Sizes → Sizes
put_size None ss = open_and ss
put_size (Some e) ss = size_and e ss

pub all_sizes : List (Option Expr) → Sizes × List Placed → Read Sizes
all_sizes front y = Some (before put_size front y.0, y.1)

all_before : (front : List (Option Expr)) → before put_size front no_sizes ≡ sizes_of front
all_before [] = refl
all_before (None ∷ front) = ap (λ z. open_and z) (all_before front)
all_before (Some e ∷ front) = ap (λ z. size_and e z) (all_before front)

pub sizes_deepest : (front : List (Option Expr)) (s : Option Expr)
    → sizes_depth (sizes_of (front ++ s ∷ [])) ≡ max (sizes_depth (sizes_of front)) (size_depth s)
sizes_deepest [] None = omega arith
sizes_deepest [] (Some e) = omega arith
sizes_deepest (None ∷ front) s = omega (arith, sizes_deepest front s)
sizes_deepest (Some a ∷ front) s = omega (arith, sizes_deepest front s)

place : (front : List (Option Expr)) (s : Option Expr) (y : Sizes × List Placed)
    → all_sizes front (put_size s y.0, y.1) ≡ all_sizes (front ++ s ∷ []) y
unfolding all_sizes
place front s y = rw (before_push put_size front s y.0) refl

abbrev pub SizesTo : List Name → Lower → List Placed → List (Option Expr) → List Placed → Type 0
SizesTo types low start front ts = ListTo (sizes_in types low) all_sizes (sizes_at types low start) front ts

whole : (r : Read Sizes) → r ≡ (r >>= all_sizes [])
unfolding chain all_sizes
whole None = refl
whole (Some y) = refl

abbrev nothing : Pos × List Placed → Read (Option Expr)
nothing c = Some (None, c.1)

abbrev something : Expr → Pos × List Placed → Read (Option Expr)
something e c = Some (Some e, c.1)

abbrev opened : Sizes × List Placed → Read Sizes
opened ss = Some (open_and ss.0, ss.1)

abbrev sized : Expr → Sizes × List Placed → Read Sizes
sized e ss = Some (size_and e ss.0, ss.1)

abbrev with_size : Option Expr → Sizes × List Placed → Read Sizes
with_size s ss = Some (put_size s ss.0, ss.1)

same_pair : (x y : Option Expr × List Placed) → Some x ≡ Some y → (x.0 ≡ y.0) × (x.1 ≡ y.1)
same_pair x y h =
    let g = some_same x y h in
    (ap (λ (z : Option Expr × List Placed). z.0) g, ap (λ (z : Option Expr × List Placed). z.1) g)

-- one bracket with what stands in it, by cases on what may stand there
inside : (o : Option (Pos × List Placed)) (e : Expr) (next : List Placed → Read Sizes) (s : Option Expr)
    (rest : List Placed) → (o >>= something e) ≡ Some (s, rest)
    → (o >>= λ c. next c.1 >>= sized e) ≡ (next rest >>= with_size s)
unfolding chain
inside None e next s rest h = absurd (cc)
inside (Some c) e next s rest h =
    let g = same_pair (Some e, c.1) (s, rest) h in
    rw (← g.0, ← g.1) refl

one_size : (close : Option (Pos × List Placed)) (e : Read Expr) (after : Expr × List Placed
    → Option (Pos × List Placed)) (next : List Placed → Read Sizes) (s : Option Expr) (rest : List Placed)
    → on_some close nothing (e >>= λ x. after x >>= something x.0) ≡ Some (s, rest)
    → on_some close (λ c. next c.1 >>= opened) (e >>= λ x. after x >>= λ c. next c.1 >>= sized x.0)
    ≡ (next rest >>= with_size s)
unfolding on_some chain
one_size (Some c) e after next s rest h =
    let g = same_pair (None, c.1) (s, rest) h in
    rw (← g.0, ← g.1) refl
one_size None None after next s rest h = absurd (cc)
one_size None (Some x) after next s rest h = inside (after x) x.0 next s rest h

outside : (o : Option (Pos × List Placed)) (e : Expr) (next : List Placed → Read Sizes) → (o >>= something e) ≡ None
    → (o >>= λ c. next c.1 >>= sized e) ≡ None
unfolding chain
outside None e next h = refl
outside (Some c) e next h = absurd (cc)

no_size : (close : Option (Pos × List Placed)) (e : Read Expr) (after : Expr × List Placed
    → Option (Pos × List Placed)) (next : List Placed → Read Sizes)
    → on_some close nothing (e >>= λ x. after x >>= something x.0) ≡ None
    → on_some close (λ c. next c.1 >>= opened) (e >>= λ x. after x >>= λ c. next c.1 >>= sized x.0) ≡ None
unfolding on_some chain
no_size (Some c) e after next h = absurd (cc)
no_size None None after next h = refl
no_size None (Some x) after next h = outside (after x) x.0 next h

module _ (types : List Name) (low : Lower) (start : List Placed) where
  pub sizes_begin : SizesTo types low start [] start
  unfolding sizes_at
  sizes_begin = record { fuel = suc (length start); enough = omega arith; comes = whole _ }

  more_turn : (k : ℕ) (s : Option Expr) (ts rest : List Placed) (o : Pos × List Placed)
      → eat puncts.LeftBracket ts ≡ Some o → size_at low o.1 ≡ Some (s, rest)
      → sizes_in types low (suc k) ts ≡ (sizes_in types low k rest >>= λ (y : Sizes × List Placed). Some
      (put_size s y.0, y.1))
  unfolding sizes_in on_some size_at
  more_turn k s ts rest o h r = rw h (one_size (eat puncts.RightBracket o.1) (low.expr 0 o.1)
      (λ e. eat puncts.RightBracket e.1) (λ us. sizes_in types low k us) s rest r)

  more_fails : (k : ℕ) (ts : List Placed) (o : Pos × List Placed) → eat puncts.LeftBracket ts ≡ Some o
      → size_at low o.1 ≡ None → sizes_in types low k ts ≡ None
  unfolding sizes_in on_some size_at
  more_fails zero ts o h r = refl
  more_fails (suc k) ts o h r = rw h (no_size (eat puncts.RightBracket o.1) (low.expr 0 o.1)
      (λ e. eat puncts.RightBracket e.1) (λ us. sizes_in types low k us) r)

  more_ends : (k : ℕ) (ts : List Placed) → eat puncts.LeftBracket ts ≡ None
      → sizes_in types low (suc k) ts ≡ Some (no_sizes, ts)
  unfolding sizes_in on_some
  more_ends k ts h = rw h refl

  pub sizes_turn : (front : List (Option Expr)) (s : Option Expr) (ts rest : List Placed) (o : Pos × List Placed)
      → SizesTo types low start front ts → eat puncts.LeftBracket ts ≡ Some o → size_at low o.1 ≡ Some (s, rest)
      → length rest < length ts → SizesTo types low start (front ++ s ∷ []) rest
  sizes_turn front s ts rest o c h r n = list_turn put_size (sizes_in types low) all_sizes
      (sizes_at types low start) front ts s rest (λ y. place front s y) (λ k. more_turn k s ts rest o h r) n c

  pub sizes_fail : (f : Stop) (front : List (Option Expr)) (ts : List Placed) (o : Pos × List Placed)
      → SizesTo types low start front ts → eat puncts.LeftBracket ts ≡ Some o → Fails f (size_at low o.1)
      → Fails f (sizes_at types low start)
  sizes_fail stops.Memory front ts o c h r = tt
  sizes_fail stops.NothingRead front ts o c h r = list_fail put_size (sizes_in types low) all_sizes
      (sizes_at types low start) front ts (λ k. more_fails k ts o h r) c

  pub sizes_end : (front : List (Option Expr)) (ts : List Placed) → SizesTo types low start front ts
      → eat puncts.LeftBracket ts ≡ None → sizes_at types low start ≡ Some (sizes_of front, ts)
  unfolding all_sizes
  sizes_end front ts c h = list_end put_size (sizes_in types low) all_sizes (sizes_at types low start) front ts
      (no_sizes, ts) (λ k. more_ends k ts h) c ∙ rw (all_before front) refl
