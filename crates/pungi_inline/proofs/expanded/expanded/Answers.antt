use Rattle.std.proofs.Common.{◌≡◌, ◌++◌, [], length, map, ap, ◌∙◌}
use Rattle.pungi_inline.specs.Inlined.{all_lines, all_kinds, all_heads, label_in}
use Rattle.pungi_inline.specs.Moved.{moved_head}
use Rattle.pungi_inline.specs.Places.{place_in}
use Rattle.pungi_inline.specs.Sites.{line_sizes, place_from}
use Rattle.pungi_inline.proofs.ExpandedLemmas.{expanded_is}
use Rattle.pungi_inline.proofs.expanded.expanded.Goals as goal

pub returns : goal.returns
returns c =
    let cs = c.args.codes.now in
    let code = c.args.code.now in
    let to = place_in c.in_ok-places.places.starts.items in
    let lines : c.as_slice-lines.result.now ≡ code.instrs = c.as_slice-lines.ensures in
    let sizes : c.in_ok-sizes.sizes.items ≡ line_sizes cs c.as_slice-lines.result.now = c.in_ok-sizes.ensures in
    let passed : c.as_slice.result.now ≡ c.in_ok-sizes.sizes.items = c.as_slice.ensures.value in
    let places : to ≡ place_from 0 c.as_slice.result.now = c.in_ok-places.ensures in
    let labels : to ≡ label_in cs code.instrs
    = places ∙ ap (place_from 0) (passed ∙ sizes ∙ ap (line_sizes cs) lines) in
    let count : c.len.result ≡ length code.vars = c.len.ensures in
    let instrs : c.in_ok-instrs.instrs.items ≡ all_lines cs to c.len.result 0 c.as_slice-lines.result.now
    = c.in_ok-instrs.ensures in
    let vars : c.in_ok-vars.vars.items ≡ code.vars ++ all_kinds cs code.instrs = c.in_ok-vars.ensures in
    let none : c.new-heads.result.items ≡ [] = c.new-heads.ensures.items in
    let heads : c.as_slice-2.result.now ≡ code.heads = c.as_slice-2.ensures in
    let first : c.put_heads.new.out.items ≡ c.new-heads.result.items ++ map (moved_head to) c.as_slice-2.result.now
    = c.in_ok-put_heads.ensures in
    let rest : c.all_heads.new.out.items ≡ c.put_heads.new.out.items ++ all_heads cs 0 c.as_slice-lines.result.now
    = c.in_ok-all_heads.ensures in
    let made : c.new-3.result ≡ c.all_heads.new.out.items = c.new-3.ensures in
    expanded_is cs code to c.new.result c.new-2.result c.new-3.result c.in_ok-terms.terms labels
    (c.new.ensures ∙ instrs ∙ ap (λ n. all_lines cs to n 0 c.as_slice-lines.result.now) count
    ∙ ap (all_lines cs to (length code.vars) 0) lines)
    (c.new-2.ensures ∙ vars)
    (made ∙ rest ∙ ap (λ xs. xs ++ all_heads cs 0 c.as_slice-lines.result.now) (first
    ∙ ap (λ xs. xs ++ map (moved_head to) c.as_slice-2.result.now) none ∙ ap (map (moved_head to)) heads)
    ∙ ap (λ xs. map (moved_head to) code.heads ++ all_heads cs 0 xs) lines)
    c.in_ok-terms.ensures
