use Rattle.std.proofs.Common.{get_or, ◌∙◌, ap, sym}
use Rattle.pungi_base.specs.declared.pos.Pos.{Pos}
use Rattle.pungi_lex.specs.Join.{after_byte, join_length}
use Rattle.pungi_lex.proofs.JoinLemmas.{stands_to_end, stands_to_byte, stands_to_join}
use Rattle.pungi_lex.proofs.join.front_of.Goals as goal

pub returns-in-empty-clause-bytes : goal.returns-in-empty-clause-bytes
returns-in-empty-clause-bytes c =
    rw c.right_of-next.ensures (stands_to_end c.args.at c.args.text.now c.unbroken_count-count.result
    c.unbroken_count-count.ensures.count).bytes

pub returns-in-empty-clause-places : goal.returns-in-empty-clause-places
returns-in-empty-clause-places c =
    rw c.right_of-next.ensures (stands_to_end c.args.at c.args.text.now c.unbroken_count-count.result
    c.unbroken_count-count.ensures.count).places

pub returns-then-length-eq0-clause-bytes : goal.returns-then-length-eq0-clause-bytes
returns-then-length-eq0-clause-bytes c =
    (stands_to_byte c.args.at c.after_byte.result c.args.text.now c.split_at.result.1.now
    c.unbroken_count-count.result c.unbroken_count-count.ensures.count c.split_at.ensures.back
    c.in-len1-up.len_at_least (sym c.join_length-length.ensures ∙ c.if-length-eq0.true)
    (c.after_byte.ensures.place ∙ ap (λ (p : Pos). after_byte p (get_or c.split_at.result.1.now 0 0))
    c.right_of-next.ensures)).bytes

pub returns-then-length-eq0-clause-places : goal.returns-then-length-eq0-clause-places
returns-then-length-eq0-clause-places c =
    (stands_to_byte c.args.at c.after_byte.result c.args.text.now c.split_at.result.1.now
    c.unbroken_count-count.result c.unbroken_count-count.ensures.count c.split_at.ensures.back
    c.in-len1-up.len_at_least (sym c.join_length-length.ensures ∙ c.if-length-eq0.true)
    (c.after_byte.ensures.place ∙ ap (λ (p : Pos). after_byte p (get_or c.split_at.result.1.now 0 0))
    c.right_of-next.ensures)).places

pub returns-else-length-eq0-clause-bytes : goal.returns-else-length-eq0-clause-bytes
returns-else-length-eq0-clause-bytes c =
    (stands_to_join c.args.at c.args.text.now c.unbroken_count-count.result c.join_length-length.result
    c.unbroken_count-count.ensures.count (c.join_length-length.ensures ∙ ap join_length c.split_at.ensures.back)
    c.if-length-eq0.false).bytes

pub returns-else-length-eq0-clause-places : goal.returns-else-length-eq0-clause-places
returns-else-length-eq0-clause-places c =
    (stands_to_join c.args.at c.args.text.now c.unbroken_count-count.result c.join_length-length.result
    c.unbroken_count-count.ensures.count (c.join_length-length.ensures ∙ ap join_length c.split_at.ensures.back)
    c.if-length-eq0.false).places
