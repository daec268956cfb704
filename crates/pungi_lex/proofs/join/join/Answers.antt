use Rattle.std.proofs.Common.{◌≡◌, ◌+◌, ◌++◌, ℕ, List, length, drop, take, ap, sym, ◌∙◌, arith, append_assoc}
use Rattle.std.proofs.lemmas.List.{drop-drop}
use Rattle.pungi_lex.specs.Join.{Placed, joined_from, bytes_of}
use Rattle.pungi_lex.proofs.join.join.Goals as goal

pub fronts-preserved : goal.fronts-preserved
fronts-preserved c =
    let so_far = c.fronts.invariant in
    let front = c.front_of-front.result in
    let told = c.front_of-front.ensures in
    let rest : c.split_at.result.1.now ≡ drop c.fronts.done c.args.text.now = c.split_at.ensures.back in
    let last : List Placed = joined_from 0 front.next (drop (c.fronts.done + front.passed) c.args.text.now) in
    let behind : joined_from 0 front.next (drop front.passed c.split_at.result.1.now)
    ≡ last = ap (λ (l : List ℕ). joined_from 0 front.next (drop front.passed l)) rest
    ∙ ap (joined_from 0 front.next) (drop-drop front.passed c.fronts.done c.args.text.now) in
    record {
      bytes = so_far.bytes ∙ ap (λ (l : List ℕ). c.fronts.bytes.items ++ bytes_of (joined_from 0 c.fronts.at l))
          (sym rest)
          ∙ ap (λ (l : List ℕ). c.fronts.bytes.items ++ l) (told.bytes
          ∙ ap (λ (l : List Placed). take front.kept c.split_at.result.1.now ++ bytes_of l) behind)
          ∙ sym (append_assoc c.fronts.bytes.items (take front.kept c.split_at.result.1.now) (bytes_of last))
          ∙ ap (λ (l : List ℕ). l ++ bytes_of last) (ap (λ (l : List ℕ). c.fronts.bytes.items ++ l)
          (sym c.split_at-in-fronts.ensures.front) ∙ sym c.in_ok-extend_from_slice.ensures.items);
      short = omega (
        arith,
        ap length c.in_ok-extend_from_slice.ensures.items,
        c.in_ok-extend_from_slice.ensures.len,
        c.split_at-in-fronts.ensures.front_len,
        told.kept,
        so_far.short,
      );
      within = omega (arith, told.within, c.split_at.ensures.back_len, so_far.within);
      line = omega (arith, told.line, so_far.line, told.some);
      col = omega (arith, told.col, so_far.col);
    }
