-- Where each line of a code with copies stands.
--   HaveParams cs            the parameters of each code are among its variables
use Rattle.std.proofs.Common.{◌≡◌, ℕ, zero, suc, ◌+◌, ◌-◌, ◌<◌, ◌≤◌, ◌==◌, ◌&&◌, List, [], ◌∷◌, ◌++◌, length}
use Rattle.std.proofs.Common.{take, Option, Some, None, refl, sym, ap, ◌∙◌, subst, arith, length-append, nat_lt}
use Rattle.std.proofs.lemmas.Bool.{and_parts, eqb-true}
use Rattle.std.proofs.lemmas.Option.{none-some, same_Some, cond_some, slice_get_within}
use Rattle.std.specs.Prelude.{slice_get}
use Rattle.std.specs.List.{flat_map}
use Rattle.pungi_base.specs.declared.pos.Pos.{Pos}
use Rattle.pungi_code.specs.declared.atom.Atom.{Atom}
use Rattle.pungi_code.specs.declared.atom.Var.{Var}
use Rattle.pungi_code.specs.declared.code.Code.{Code}
use Rattle.pungi_code.specs.declared.code.Line.{Line}
use Rattle.pungi_code.specs.declared.instr.Instr.{Instr}
use Rattle.pungi_code.specs.declared.instr.Instr.TheVariants.{Set, Unset, Call, Return}
use Rattle.pungi_code.specs.Frames.{code_numbered}
use Rattle.pungi_code.specs.WellFormed.{is_slot_kind}
use Rattle.pungi_inline.specs.Copies.{passed, unset, entry_lines, copied_instr, copied_line, copy, body_lines}
use Rattle.pungi_inline.specs.Copies.{body_label, end_place, exit_lines, result_var}
use Rattle.pungi_inline.specs.Inlined.{lines_of, all_lines}
use Rattle.pungi_inline.specs.Moved.{line, var_in}
use Rattle.pungi_inline.specs.Sites.{Site, result_kind, site, site_of, is_copied, site_at, copied_size, body_sizes}
use Rattle.pungi_inline.specs.Sites.{total}
use Rattle.pungi_inline.specs.Sites.{entry_size, exit_size, line_size, window_size, line_sizes, window_sizes}
use Rattle.pungi_inline.proofs.Parts.{at_left, at_right, at_first, at_rest, which_part, next_part, parts_length}
use Rattle.pungi_inline.proofs.Parts.{at_part}

-- ---- a called code

module _ (w : ℕ) (to : ℕ → ℕ) (r : Var) (end : ℕ) where
  copied_length : (p : Pos) (i : Instr) → length (copied_instr w to r end p i) ≡ copied_size i
  copied_length p (Return None) = refl
  copied_length p (Return (Some a)) = refl
  copied_length p i = refl

  pub body_length : (ls : List Line) → length (flat_map (copied_line w to r end) ls) ≡ total (body_sizes ls)
  body_length ls = parts_length (copied_line w to r end) (λ l. copied_size l.instr)
      (λ l. copied_length l.pos l.instr) ls

  pub at_body : (ls : List Line) (i : ℕ) (l : Line) (k : ℕ) → slice_get ls i ≡ Some l → k < copied_size l.instr
      → slice_get (flat_map (copied_line w to r end) ls) (total (take i (body_sizes ls)) + k)
      ≡ slice_get (copied_line w to r end l) k
  at_body ls i l k e lt = at_part (copied_line w to r end) (λ l. copied_size l.instr)
      (λ l. copied_length l.pos l.instr) ls i l k e lt

pub which_body : (ls : List Line) (q : ℕ) → q < total (body_sizes ls)
    → (i : ℕ) × (l : Line) × (k : ℕ) × (slice_get ls i ≡ Some l) × (k < copied_size l.instr)
    × (q ≡ total (take i (body_sizes ls)) + k)
which_body ls q lt = which_part (λ l. copied_size l.instr) ls q lt

pub next_body : (ls : List Line) (i : ℕ) (l : Line) → slice_get ls i ≡ Some l
    → total (take (i + 1) (body_sizes ls)) ≡ total (take i (body_sizes ls)) + copied_size l.instr
next_body ls i l e = next_part (λ l. copied_size l.instr) ls i l e

-- ---- a copy

module _ (p : Pos) (w : ℕ) where
  passed_length : (n : ℕ) (as' : List Atom) → length (passed p w n as') ≡ length as'
  passed_length n [] = refl
  passed_length n (a ∷ as') = ap suc (passed_length (n + 1) as')

  unset_length : (n count : ℕ) → length (unset p w n count) ≡ count
  unset_length n zero = refl
  unset_length n (suc count) = ap suc (unset_length (n + 1) count)

  at_argument : (n : ℕ) (as' : List Atom) (k : ℕ) (a : Atom) → slice_get as' k ≡ Some a
      → slice_get (passed p w n as') k ≡ Some (line p (Set (var_in w (n + k)) a))
  at_argument n [] k a e = absurd (none-some a e)
  at_argument n (b ∷ as') zero a e = ap (λ z. Some (line p (Set (var_in w n) z))) (same_Some b a e)
      ∙ ap (λ m. Some (line p (Set (var_in w m) a))) (omega arith)
  at_argument n (b ∷ as') (suc k) a e = at_argument (n + 1) as' k a e
      ∙ ap (λ m. Some (line p (Set (var_in w m) a))) (omega arith)

  at_nothing : (n count k : ℕ) → k < count
      → slice_get (unset p w n count) k ≡ Some (line p (Unset (var_in w (n + k))))
  at_nothing n zero k lt = absurd (omega arith)
  at_nothing n (suc count) zero lt = ap (λ m. Some (line p (Unset (var_in w m)))) (omega arith)
  at_nothing n (suc count) (suc k) lt = at_nothing (n + 1) count k (omega arith)
      ∙ ap (λ m. Some (line p (Unset (var_in w m)))) (omega arith)

  exit_length : (r : Var) (x : Option Var) → length (exit_lines p r x) ≡ exit_size x
  exit_length r None = refl
  exit_length r (Some x) = refl

module _ (p : Pos) (w at : ℕ) (s : Site) (few : length s.args ≤ length s.code.vars) where
  entry_length : length (entry_lines p w s) ≡ entry_size s.code
  entry_length =
      let both = length-append (passed p w 0 s.args) (unset p w (length s.args) (entry_size s.code - length s.args)) in
      let first = passed_length p w 0 s.args in
      let second = unset_length p w (length s.args) (entry_size s.code - length s.args) in
      omega (arith, both, first, second)

  copied_lines_length : length (body_lines w at s.code) ≡ total (body_sizes s.code.instrs)
  copied_lines_length =
      body_length w (body_label at s.code) (result_var w s.code) (end_place at s.code) s.code.instrs

  pub copy_length : length (copy p w at s)
      ≡ entry_size s.code + total (body_sizes s.code.instrs) + exit_size s.into
  copy_length =
      let all = length-append (entry_lines p w s) (body_lines w at s.code
      ++ exit_lines p (result_var w s.code) s.into) in
      let rest = length-append (body_lines w at s.code) (exit_lines p (result_var w s.code) s.into) in
      let entry = entry_length in
      let body = copied_lines_length in
      let exit = exit_length p w (result_var w s.code) s.into in
      omega (arith, all, rest, entry, body, exit)

  pub at_passed : (k : ℕ) (a : Atom) → slice_get s.args k ≡ Some a
      → slice_get (copy p w at s) k ≡ Some (line p (Set (var_in w k) a))
  at_passed k a e =
      let lt = slice_get_within s.args k a e in
      let entry = entry_length in
      let first = passed_length p w 0 s.args in
      at_left (entry_lines p w s) (body_lines w at s.code ++ exit_lines p (result_var w s.code) s.into) k
      (omega (arith, lt, entry))
      ∙ at_left (passed p w 0 s.args) (unset p w (length s.args) (entry_size s.code - length s.args)) k
      (omega (arith, lt, first))
      ∙ at_argument p w 0 s.args k a e ∙ ap (λ m. Some (line p (Set (var_in w m) a))) (omega arith)

  pub at_unset : (k : ℕ) → length s.args ≤ k → k < entry_size s.code
      → slice_get (copy p w at s) k ≡ Some (line p (Unset (var_in w k)))
  at_unset k le lt =
      let entry = entry_length in
      at_left (entry_lines p w s) (body_lines w at s.code ++ exit_lines p (result_var w s.code) s.into) k
      (omega (arith, entry))
      ∙ ap (slice_get (entry_lines p w s)) (let h : k ≡ length s.args + (k - length s.args) = omega arith in h)
      ∙ at_right (passed p w 0 s.args) (unset p w (length s.args) (entry_size s.code - length s.args)) (length s.args)
      (k - length s.args) (passed_length p w 0 s.args)
      ∙ at_nothing p w (length s.args) (entry_size s.code - length s.args) (k - length s.args) (omega arith)
      ∙ ap (λ m. Some (line p (Unset (var_in w m)))) (omega arith)

  pub in_body : (k : ℕ) → k < total (body_sizes s.code.instrs)
      → slice_get (copy p w at s) (entry_size s.code + k) ≡ slice_get (body_lines w at s.code) k
  in_body k lt =
      let body = copied_lines_length in
      at_right (entry_lines p w s) (body_lines w at s.code ++ exit_lines p (result_var w s.code) s.into)
      (entry_size s.code) k entry_length
      ∙ at_left (body_lines w at s.code) (exit_lines p (result_var w s.code) s.into) k (omega (arith, body))

  pub at_exit : (k : ℕ)
      → slice_get (copy p w at s) (entry_size s.code + total (body_sizes s.code.instrs) + k)
      ≡ slice_get (exit_lines p (result_var w s.code) s.into) k
  at_exit k = at_rest (entry_lines p w s) (body_lines w at s.code ++ exit_lines p (result_var w s.code) s.into)
      (entry_size s.code) (total (body_sizes s.code.instrs)) k entry_length
      ∙ at_right (body_lines w at s.code) (exit_lines p (result_var w s.code) s.into)
      (total (body_sizes s.code.instrs)) k copied_lines_length

-- ---- the lines of a code

abbrev pub HaveParams : List (Option Code) → Type 0
HaveParams cs = (f : ℕ) (c : Code) → code_numbered cs f ≡ Some c → c.params ≤ length c.vars

module _ (cs : List (Option Code)) (params : HaveParams cs) where
  few_call : (x : Option Var) (as' : List Atom) (f : ℕ) (s : Site) (o : Option Code) → code_numbered cs f ≡ o
      → site_of x as' o ≡ Some s → length s.args ≤ length s.code.vars
  few_call x as' f s None known e = absurd (none-some s e)
  few_call x as' f s (Some c) known e =
      let made = cond_some (is_copied c as') (record { into = x; args = as'; code = c }) s e in
      let tests = and_parts (nat_lt 0 (length c.instrs))
      (length as' == c.params && is_slot_kind (result_kind c.result)) made.0 in
      let counts = and_parts (length as' == c.params) (is_slot_kind (result_kind c.result)) tests.1 in
      let same = eqb-true (length as') c.params counts.0 in
      let there = params f c known in
      subst (λ z. length z.args ≤ length z.code.vars) made.1 (omega (arith, same, there))

  few_in : (i : Instr) (s : Site) → site cs i ≡ Some s → length s.args ≤ length s.code.vars
  few_in (Call x f as') s e = few_call x as' f s (code_numbered cs f) refl e
  few_in i s e = absurd (none-some s e)

  -- a copied call has at most as many arguments as the code has variables
  pub few_args : (l : Line) (s : Site) → site_at cs l ≡ Some s → length s.args ≤ length s.code.vars
  few_args l s e = few_in l.instr s e

  place_length : (to : ℕ → ℕ) (w at : ℕ) (l : Line) (o : Option Site) → site_at cs l ≡ o
      → length (lines_of to w at l o) ≡ line_size o
  place_length to w at l None e = refl
  place_length to w at l (Some s) e = copy_length l.pos w at s (few_args l s e)

  pub lines_length : (to : ℕ → ℕ) (w at : ℕ) (ls : List Line)
      → length (all_lines cs to w at ls) ≡ total (line_sizes cs ls)
  lines_length to w at [] = refl
  lines_length to w at (l ∷ ls) =
      let first = place_length to w at l (site_at cs l) refl in
      let rest = lines_length to (w + window_size (site_at cs l)) (at + line_size (site_at cs l)) ls in
      length-append (lines_of to w at l (site_at cs l))
      (all_lines cs to (w + window_size (site_at cs l)) (at + line_size (site_at cs l)) ls)
      ∙ omega (arith, first, rest)

  moved_on : (to : ℕ → ℕ) (w v at q : ℕ) (l : Line) (k : ℕ) → w ≡ v → at ≡ q
      → slice_get (lines_of to w at l (site_at cs l)) k ≡ slice_get (lines_of to v q l (site_at cs l)) k
  moved_on to w v at q l k e g = ap (λ z. slice_get (lines_of to z at l (site_at cs l)) k) e
      ∙ ap (λ z. slice_get (lines_of to v z l (site_at cs l)) k) g

  -- the k-th instruction in the place of the i-th line
  pub at_line : (to : ℕ → ℕ) (w at : ℕ) (ls : List Line) (i : ℕ) (l : Line) (k : ℕ) → slice_get ls i ≡ Some l
      → k < line_size (site_at cs l)
      → slice_get (all_lines cs to w at ls) (total (take i (line_sizes cs ls)) + k)
      ≡ slice_get (lines_of to (w + total (take i (window_sizes cs ls))) (at + total (take i (line_sizes cs ls))) l
      (site_at cs l)) k
  at_line to w at [] i l k e lt = absurd (none-some l e)
  at_line to w at (m ∷ ls) zero l k e lt =
      let same = same_Some m l e in
      at_first (lines_of to w at m (site_at cs m))
      (all_lines cs to (w + window_size (site_at cs m)) (at + line_size (site_at cs m)) ls) (line_size (site_at cs m)) k
      (place_length to w at m (site_at cs m) refl) (subst (λ z. k < line_size (site_at cs z)) (sym same) lt)
      ∙ ap (λ z. slice_get (lines_of to w at z (site_at cs z)) k) same
      ∙ moved_on to w (w + 0) at (at + 0) l k (omega arith) (omega arith)
  at_line to w at (m ∷ ls) (suc i) l k e lt =
      at_rest (lines_of to w at m (site_at cs m))
      (all_lines cs to (w + window_size (site_at cs m)) (at + line_size (site_at cs m)) ls) (line_size (site_at cs m))
      (total (take i (line_sizes cs ls))) k (place_length to w at m (site_at cs m) refl)
      ∙ at_line to (w + window_size (site_at cs m)) (at + line_size (site_at cs m)) ls i l k e lt
      ∙ moved_on to (w + window_size (site_at cs m) + total (take i (window_sizes cs ls)))
      (w + (window_size (site_at cs m) + total (take i (window_sizes cs ls))))
      (at + line_size (site_at cs m) + total (take i (line_sizes cs ls)))
      (at + (line_size (site_at cs m) + total (take i (line_sizes cs ls)))) l k (omega arith) (omega arith)

  -- each instruction stands in the place of a line
  pub which_line : (ls : List Line) (q : ℕ) → q < total (line_sizes cs ls)
      → (i : ℕ) × (l : Line) × (k : ℕ) × (slice_get ls i ≡ Some l) × (k < line_size (site_at cs l))
      × (q ≡ total (take i (line_sizes cs ls)) + k)
  which_line ls q lt = which_part (λ l. line_size (site_at cs l)) ls q lt

  -- the next line begins where this one ends
  pub next_place : (ls : List Line) (i : ℕ) (l : Line) → slice_get ls i ≡ Some l
      → total (take (i + 1) (line_sizes cs ls)) ≡ total (take i (line_sizes cs ls)) + line_size (site_at cs l)
  next_place ls i l e = next_part (λ l. line_size (site_at cs l)) ls i l e
