use Rattle.std.proofs.Common.{◌≡◌, ◌+◌, ◌++◌, ◌∷◌, [], ℕ, List, length, drop, take, ap, sym, ◌∙◌, arith, append_assoc}
use Rattle.std.proofs.lemmas.List.{drop-drop, length-append, length-take-le}
use Rattle.std.proofs.lemmas.List.Elements.{All-push, All-same}
use Rattle.pungi_base.specs.declared.pos.Pos.{Pos}
use Rattle.pungi_lex.specs.declared.stretch.Stretch.{Stretch}
use Rattle.pungi_lex.specs.Join.{Placed, joined_from, bytes_of, places_of}
use Rattle.pungi_lex.specs.Stretch.{places_along, side_by_side, IsNarrow}
use Rattle.pungi_lex.proofs.StretchLemmas.{along_one}
use Rattle.pungi_lex.proofs.join.stretches_of.Goals as goal

pub fronts-preserved : goal.fronts-preserved
fronts-preserved c =
    let so_far = c.fronts.invariant in
    let front = c.front_of-front.result in
    let told = c.front_of-front.ensures in
    let rest : c.split_at.result.1.now ≡ drop c.fronts.done c.args.text.now = c.split_at.ensures.back in
    let last : List Placed = joined_from 0 front.next (drop (c.fronts.done + front.passed) c.args.text.now) in
    let behind : joined_from 0 front.next (drop front.passed c.split_at.result.1.now)
    ≡ last = ap (λ (l : List ℕ). joined_from 0 front.next (drop front.passed l)) rest
    ∙ ap (joined_from 0 front.next) (drop-drop front.passed c.fronts.done c.args.text.now) in
    let added : Stretch = record { at = c.fronts.at; count = front.kept } in
    let thin : IsNarrow added = omega (
      arith,
      so_far.col,
      told.kept,
      told.within,
      c.split_at.ensures.back_len,
      so_far.within,
      c.requires.short,
    ) in
    let kept_long : length (take front.kept c.split_at.result.1.now)
    ≡ front.kept = length-take-le front.kept c.split_at.result.1.now (omega (arith, told.kept, told.within)) in
    let counted : c.fronts.count + length (bytes_of (joined_from 0 c.fronts.at c.split_at.result.1.now))
    ≡ c.fronts.count + front.kept + length (bytes_of last) =
    omega (
      arith,
      ap length told.bytes,
      ap (λ (l : List Placed). length (bytes_of l)) behind,
      length-append
          (take front.kept c.split_at.result.1.now) (bytes_of (joined_from 0 front.next
          (drop front.passed c.split_at.result.1.now))),
      kept_long,
    ) in
    record {
      places = so_far.places ∙ ap (λ (l : List ℕ). places_along c.fronts.stretches.items
          ++ places_of (joined_from 0 c.fronts.at l)) (sym rest)
          ∙ ap (λ (l : List Pos). places_along c.fronts.stretches.items ++ l) (told.places
          ∙ ap (λ (l : List Placed). side_by_side c.fronts.at front.kept ++ places_of l) behind)
          ∙ sym (append_assoc (places_along c.fronts.stretches.items) (side_by_side c.fronts.at front.kept)
          (places_of last))
          ∙ ap (λ (l : List Pos). l ++ places_of last) (sym (along_one c.fronts.stretches.items added)
          ∙ ap places_along (sym c.in_ok-push.ensures.items));
      narrow = All-same IsNarrow c.push.new.self.items (c.fronts.stretches.items ++ added ∷ [])
          c.in_ok-push.ensures.items (All-push IsNarrow c.fronts.stretches.items added so_far.narrow thin);
      count = so_far.count ∙ ap (λ (l : List ℕ). c.fronts.count + length (bytes_of (joined_from 0 c.fronts.at l)))
          (sym rest) ∙ counted;
      few = omega (arith, told.kept, so_far.few);
      within = omega (arith, told.within, c.split_at.ensures.back_len, so_far.within);
      line = omega (arith, told.line, so_far.line, told.some);
      col = omega (arith, told.col, so_far.col);
    }
