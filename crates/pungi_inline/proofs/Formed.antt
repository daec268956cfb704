-- A round of copies keeps a code well-formed.
use Rattle.std.proofs.Common.{◌≡◌, ℕ, ◌+◌, ◌<◌, ◌≤◌, true, false, ◌&&◌, ◌++◌, length}
use Rattle.std.proofs.Common.{take, map, Option, Some, None, refl, sym, ap, ◌∙◌, subst, arith, leb-true, length-append}
use Rattle.std.specs.Prelude.{slice_get, nat_le, if◌then◌else◌}
use Rattle.std.proofs.lemmas.Bool.{and_parts}
use Rattle.pungi_code.specs.declared.code.Code.{Code}
use Rattle.pungi_code.specs.declared.code.Codes.{Codes}
use Rattle.pungi_code.specs.declared.code.Line.{Line}
use Rattle.pungi_code.specs.declared.instr.Instr.{Instr}
use Rattle.pungi_code.specs.declared.instr.Instr.TheVariants.{Call}
use Rattle.pungi_code.specs.Limits.{most_instructions, most_variables}
use Rattle.pungi_code.specs.WellFormed.{AreWellFormed, IsWellFormedAmong, kinds_of, leads_on, are_arguments}
use Rattle.pungi_code.specs.WellFormed.{fits_result}
use Rattle.pungi_inline.specs.Copies.{copy}
use Rattle.pungi_inline.specs.Inlined.{lines_of, all_lines, all_kinds, all_heads, label_in, expanded, replaced}
use Rattle.pungi_inline.specs.Moved.{moved_instr, moved_head, line}
use Rattle.pungi_inline.specs.Sites.{Site, site_at, line_size, line_sizes, window_sizes, total, has_site, is_small}
use Rattle.pungi_inline.specs.Sites.{call_size}
use Rattle.pungi_inline.proofs.AddedKinds.{all_kinds_long, first_window, call_window}
use Rattle.pungi_inline.proofs.CalledCodes.{called, have_params, formed_call, call_fits}
use Rattle.pungi_inline.proofs.CopyFormed.{IsGood, copy_good}
use Rattle.pungi_inline.proofs.EachLine.{Each, each_at, each_line}
use Rattle.pungi_inline.proofs.HeldKinds.{held_append, all_held}
use Rattle.pungi_inline.proofs.MovedKinds.{moved_sound}
use Rattle.pungi_inline.proofs.MovedLabels.{leads_same, back_moved, head_moved, head_front, head_later, head_of_copy}
use Rattle.pungi_inline.proofs.MovedLabels.{some_line, labels_in, back_to}
use Rattle.pungi_inline.proofs.PartPlaces.{start_within}
use Rattle.pungi_inline.proofs.Parts.{next_part}
use Rattle.pungi_inline.proofs.PassedKinds.{arguments_kept, result_kept}
use Rattle.pungi_inline.proofs.Placed.{few_args, lines_length, copy_length}

-- after a call comes an instruction
call_leads : (i : Instr) (s : Site) (n : ℕ) → i ≡ Call s.into n s.args → leads_on i ≡ true
call_leads i s n e = ap leads_on e

module _ (codes : Codes) (formed : AreWellFormed codes) (c : Code) (h : IsWellFormedAmong (kinds_of codes) c)
    (small : is_small codes.codes c ≡ true) where
  abbrev size : Line → ℕ
  size l = line_size (site_at codes.codes l)

  abbrev to : ℕ → ℕ
  to = label_in codes.codes c.instrs

  abbrev new : Code
  new = expanded codes.codes c

  -- .. sizes
  few_lines : total (line_sizes codes.codes c.instrs) ≤ most_instructions
  few_lines =
      leb-true (total (line_sizes codes.codes c.instrs)) most_instructions
      (and_parts (nat_le (total (line_sizes codes.codes c.instrs)) most_instructions) _ small).0

  few_kinds : length (c.vars ++ all_kinds codes.codes c.instrs) ≤ most_variables
  few_kinds =
      let a = length-append c.vars (all_kinds codes.codes c.instrs) in
      let b = all_kinds_long codes.codes c.instrs in
      let d = leb-true (length c.vars + total (window_sizes codes.codes c.instrs)) most_variables
      (and_parts (nat_le (total (line_sizes codes.codes c.instrs)) most_instructions) _ small).1 in
      omega (arith, a, b, d)

  new_long : length new.instrs ≡ total (line_sizes codes.codes c.instrs)
  new_long = lines_length codes.codes (have_params codes formed) to (length c.vars) 0 c.instrs

  some : (l : Line) → 1 ≤ size l
  some l = some_line (site_at codes.codes l)

  -- where one instruction leads to the next one, that is in the new code
  next_within : (i : ℕ) (l : Line) → slice_get c.instrs i ≡ Some l → leads_on l.instr ≡ true
      → 0 + total (take i (line_sizes codes.codes c.instrs)) + size l < length new.instrs
  next_within i l e t =
      let k = h.last i l e t in
      let a = next_part size c.instrs i l e in
      let b = start_within size some c.instrs (i + 1) k in
      let d = new_long in
      omega (arith, a, b, d)

  -- .. lines
  -- an instruction in whose place there is no copy
  kept_good : (i : ℕ) (l : Line) → slice_get c.instrs i ≡ Some l → site_at codes.codes l ≡ None
      → IsGood (kinds_of codes) new (to i) (line l.pos (moved_instr 0 to l.instr))
  kept_good i l e none =
      let d = new_long in
      record {
        sound = moved_sound (kinds_of codes) c new 0 to
            (first_window c.vars (all_kinds codes.codes c.instrs) few_kinds)
            (labels_in c new size some 0 (omega (arith, d))) l.instr (h.sound i l e);
        last = λ t.
            let k = next_within i l e (sym (leads_same 0 to l.instr) ∙ t) in
            let one : size l ≡ 1 = ap line_size none in
            omega (arith, k, one);
        back = back_moved (kinds_of codes) c new.heads 0 to i (to i)
            (λ m there k. back_to c new size some 0
            (λ n g. head_front (map (moved_head to) c.heads) (all_heads codes.codes 0 c.instrs) _
            (head_moved to c.heads n g)) i m there k)
            l.instr (h.sound i l e) (h.back i l e);
      }

  -- a call in whose place there is a copy
  call_good : (i : ℕ) (l : Line) (s : Site) → slice_get c.instrs i ≡ Some l → site_at codes.codes l ≡ Some s
      → Each (IsGood (kinds_of codes) new) (to i)
      (copy l.pos (length c.vars + total (take i (window_sizes codes.codes c.instrs))) (to i) s)
  call_good i l s e o =
      let more = all_kinds codes.codes c.instrs in
      let call = called codes.codes l.instr s o in
      let f = formed_call codes formed l.instr s call in
      let fits = and_parts (fits_result c.vars s.code.result s.into) _
      (call_fits codes c l.instr s call (h.sound i l e)) in
      let args = and_parts (are_arguments c.vars (take s.code.params s.code.vars) s.args) _ fits.1 in
      let k = next_within i l e (call_leads l.instr s call.number call.is) in
      let n : size l ≡ call_size s = ap line_size o in
      copy_good codes new s (length c.vars + total (take i (window_sizes codes.codes c.instrs))) (to i) f
      (call_window codes.codes c.vars c.instrs i l s e o few_kinds) (omega (arith, k, n))
      (λ m g. head_later (map (moved_head to) c.heads) (all_heads codes.codes 0 c.instrs) m
      (head_of_copy codes.codes c.instrs 0 i l s e o m g))
      l.pos (arguments_kept c.vars more (take s.code.params s.code.vars) s.args args.0)
      (result_kept c.vars more s.code.result s.into fits.0)

  each_good : (i : ℕ) (l : Line) → slice_get c.instrs i ≡ Some l → (o : Option Site) → site_at codes.codes l ≡ o
      → Each (IsGood (kinds_of codes) new) (to i)
      (lines_of to (length c.vars + total (take i (window_sizes codes.codes c.instrs))) (to i) l o)
  each_good i l e None k = (kept_good i l e k, tt)
  each_good i l e (Some s) k = call_good i l s e k

  placed_long : (w at : ℕ) (l : Line) (o : Option Site) → site_at codes.codes l ≡ o
      → length (lines_of to w at l o) ≡ line_size o
  placed_long w at l None k = refl
  placed_long w at l (Some s) k =
      copy_length l.pos w at s (few_args codes.codes (have_params codes formed) l s k)

  all_good : Each (IsGood (kinds_of codes) new) 0 (all_lines codes.codes to (length c.vars) 0 c.instrs)
  all_good =
      each_line (IsGood (kinds_of codes) new) codes.codes to
      (λ w at l. placed_long w at l (site_at codes.codes l) refl) c.instrs (length c.vars) 0
      (λ i l e. each_good i l e (site_at codes.codes l) refl)

  good_at : (n : ℕ) (l : Line) → slice_get new.instrs n ≡ Some l → IsGood (kinds_of codes) new n l
  good_at n l e =
      let z : 0 + n ≡ n = omega arith in
      subst (λ (m : ℕ). IsGood (kinds_of codes) new m l) z
      (each_at (IsGood (kinds_of codes) new) (all_lines codes.codes to (length c.vars) 0 c.instrs) 0 n l all_good e)

  -- .. the code
  expanded_among : IsWellFormedAmong (kinds_of codes) (expanded codes.codes c)
  expanded_among =
      let a = length-append c.vars (all_kinds codes.codes c.instrs) in
      let b = h.locals in
      let d = new_long in
      let few = few_lines in
      record {
        params = h.params;
        among = h.among;
        locals = omega (arith, a, b);
        vars = few_kinds;
        few = omega (arith, d, few);
        kinds = held_append c.vars (all_kinds codes.codes c.instrs) h.kinds (all_held codes formed c.instrs);
        sound = λ n l e. (good_at n l e).sound;
        last = λ n l e t. (good_at n l e).last t;
        back = λ n l e. (good_at n l e).back;
      }

-- a round leaves a code as it is, or it gives one with copies
pub replaced_among : (codes : Codes) → AreWellFormed codes → (c : Code) → IsWellFormedAmong (kinds_of codes) c
    → IsWellFormedAmong (kinds_of codes) (replaced codes.codes c)
replaced_among codes formed c h =
    let b = has_site codes.codes c.instrs && is_small codes.codes c in
    elim b as (λ x. b ≡ x → IsWellFormedAmong (kinds_of codes) (if x then expanded codes.codes c else c)) [
      | true ↦ λ t. expanded_among codes formed c h (and_parts (has_site codes.codes c.instrs) _ t).1
      | false ↦ λ t. h
    ] refl
