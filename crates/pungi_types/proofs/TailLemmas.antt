-- What stands after a declared name, seen through the tree that it stands for.
use Rattle.std.proofs.Common.{◌≡◌, map, rules, Vec, Option}
use Rattle.std.specs.declared.alloc.Global.{Global}
use Rattle.pungi_types.specs.Files.{declr_tail}
use Rattle.pungi_tree.specs.ExprView.{declr_view, tail_view, sizes_of, optional_view}
use Rattle.pungi_tree.specs.Syntax as plain
use Rattle.pungi_tree.specs.declared.declr.Tail.TheVariants.{Sizes}
use Rattle.pungi_tree.specs.declared.declr.Tail.TheViews.{the_lemmas}
use Rattle.pungi_tree.specs.declared.declr.Tail.TheFolds.{fold_out-Declr, fold_out-Tail}
use Rattle.pungi_tree.specs.declared.declr.Declr.{Declr}
use Rattle.pungi_tree.specs.declared.expr.Expr.{Expr}

pub declr_tail-view : (d : Declr) → declr_tail (declr_view d) ≡ tail_view d.tail
declr_tail-view d = search (rules, the_lemmas, fold_out-Declr, fold_out-Tail)

pub tail_view-sizes : (v : Vec (Option Expr) Global)
    → tail_view (Sizes v) ≡ plain.sizes (sizes_of (map optional_view v.items))
tail_view-sizes v = search (rules, the_lemmas, fold_out-Declr, fold_out-Tail)
