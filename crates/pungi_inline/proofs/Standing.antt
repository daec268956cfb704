-- Where the instructions of a code with copies stand in it.
use Rattle.std.proofs.Common.{◌≡◌, ℕ, ◌+◌, ◌<◌, ◌≤◌, List, length, take, Option}
use Rattle.std.proofs.Common.{Some, None, ap, ◌∙◌, arith}
use Rattle.std.specs.Prelude.{slice_get}
use Rattle.pungi_code.specs.declared.atom.Atom.{Atom}
use Rattle.pungi_code.specs.declared.atom.Atom.TheVariants as atom
use Rattle.pungi_code.specs.declared.atom.Var.{Var}
use Rattle.pungi_code.specs.declared.code.Code.{Code}
use Rattle.pungi_code.specs.declared.code.Line.{Line}
use Rattle.pungi_code.specs.declared.instr.Instr.TheVariants.{Set, Unset}
use Rattle.pungi_inline.specs.Copies.{copied_line, copy, exit_lines, result_var, body_label, end_place}
use Rattle.pungi_inline.specs.Inlined.{lines_of, label_in}
use Rattle.pungi_inline.specs.Moved.{line, moved_line, var_in}
use Rattle.pungi_inline.specs.Sites.{Site, site_at, copied_size, body_sizes, total, entry_size, exit_size, call_size}
use Rattle.pungi_inline.specs.Sites.{line_size, window_size}
use Rattle.pungi_inline.proofs.Placed.{HaveParams, few_args, at_line, next_place, at_body, next_body, at_passed}
use Rattle.pungi_inline.proofs.Placed.{at_unset, in_body, at_exit}
use Rattle.pungi_inline.proofs.PartPlaces.{part_within}
use Rattle.pungi_inline.proofs.Related.{target, window_at, all_vars}

module _ (cs : List (Option Code)) (c : Code) where
  -- a window is within all variables
  pub window_within : (pc : ℕ) (l : Line) (s : Site) → slice_get c.instrs pc ≡ Some l → site_at cs l ≡ Some s
      → window_at cs c pc + (length s.code.vars + 1) ≤ all_vars cs c
  window_within pc l s e is =
      let h = part_within (λ (x : Line). window_size (site_at cs x)) c.instrs pc l e in
      let g : window_size (site_at cs l) ≡ length s.code.vars + 1 = ap window_size is in
      omega (arith, h, g)

  module _ (params : HaveParams cs) where
    -- ---- lines that are no calls to replace

    -- the line stands where its label goes
    pub base_line : (pc : ℕ) (l : Line) → slice_get c.instrs pc ≡ Some l → site_at cs l ≡ None
        → slice_get (target cs c) (label_in cs c.instrs pc) ≡ Some (moved_line 0 (label_in cs c.instrs) l)
    base_line pc l e none =
        let size : line_size (site_at cs l) ≡ 1 = ap line_size none in
        ap (slice_get (target cs c)) (omega arith)
        ∙ at_line cs params (label_in cs c.instrs) (length c.vars) 0 c.instrs pc l 0 e (omega (arith, size))
        ∙ ap (λ o. slice_get (lines_of (label_in cs c.instrs) (window_at cs c pc) (label_in cs c.instrs pc) l o) 0) none

    -- and the next one behind it
    pub after_base : (pc : ℕ) (l : Line) → slice_get c.instrs pc ≡ Some l → site_at cs l ≡ None
        → label_in cs c.instrs pc + 1 ≡ label_in cs c.instrs (pc + 1)
    after_base pc l e none =
        let size : line_size (site_at cs l) ≡ 1 = ap line_size none in
        omega (arith, size, next_place cs params c.instrs pc l e)

    -- ---- a copy

    module _ (pc : ℕ) (l : Line) (s : Site) (e : slice_get c.instrs pc ≡ Some l) (is : site_at cs l ≡ Some s) where
      -- a copied call has at most as many arguments as the code has variables
      few : length s.args ≤ length s.code.vars
      few = few_args cs params l s is

      -- the copy stands in the place of the call
      copy_line : (k : ℕ) → k < call_size s
          → slice_get (target cs c) (label_in cs c.instrs pc + k)
          ≡ slice_get (copy l.pos (window_at cs c pc) (label_in cs c.instrs pc) s) k
      copy_line k lt =
          let size : line_size (site_at cs l) ≡ call_size s = ap line_size is in
          ap (slice_get (target cs c)) (omega arith)
          ∙ at_line cs params (label_in cs c.instrs) (length c.vars) 0 c.instrs pc l k e (omega (arith, size, lt))
          ∙ ap (λ o. slice_get (lines_of (label_in cs c.instrs) (window_at cs c pc) (label_in cs c.instrs pc) l o) k)
          is

      -- first it sets the parameters
      pub set_line : (k : ℕ) (a : Atom) → k < entry_size s.code → slice_get s.args k ≡ Some a
          → slice_get (target cs c) (label_in cs c.instrs pc + k)
          ≡ Some (line l.pos (Set (var_in (window_at cs c pc) k) a))
      set_line k a lt at =
          copy_line k (omega (arith, lt))
          ∙ at_passed l.pos (window_at cs c pc) (label_in cs c.instrs pc) s few k a at

      -- then it unsets all others
      pub unset_line : (k : ℕ) → k < entry_size s.code → length s.args ≤ k
          → slice_get (target cs c) (label_in cs c.instrs pc + k)
          ≡ Some (line l.pos (Unset (var_in (window_at cs c pc) k)))
      unset_line k lt le =
          copy_line k (omega (arith, lt))
          ∙ at_unset l.pos (window_at cs c pc) (label_in cs c.instrs pc) s few k le lt

      -- then come the copied instructions
      pub body_line : (j : ℕ) (b : Line) (k : ℕ) → slice_get s.code.instrs j ≡ Some b → k < copied_size b.instr
          → slice_get (target cs c) (body_label (label_in cs c.instrs pc) s.code j + k)
          ≡ slice_get (copied_line (window_at cs c pc) (body_label (label_in cs c.instrs pc) s.code)
          (result_var (window_at cs c pc) s.code) (end_place (label_in cs c.instrs pc) s.code) b) k
      body_line j b k at lt =
          let size = part_within (λ (x : Line). copied_size x.instr) s.code.instrs j b at in
          ap (slice_get (target cs c)) (omega arith)
          ∙ copy_line (entry_size s.code + (total (take j (body_sizes s.code.instrs)) + k)) (omega (arith, size, lt))
          ∙ in_body l.pos (window_at cs c pc) (label_in cs c.instrs pc) s few
          (total (take j (body_sizes s.code.instrs)) + k) (omega (arith, size, lt))
          ∙ at_body (window_at cs c pc) (body_label (label_in cs c.instrs pc) s.code)
          (result_var (window_at cs c pc) s.code) (end_place (label_in cs c.instrs pc) s.code) s.code.instrs j b k at
          lt

      -- where the copy of an instruction is one, the next one stands behind it
      pub after_body : (j : ℕ) (b : Line) → slice_get s.code.instrs j ≡ Some b → copied_size b.instr ≡ 1
          → body_label (label_in cs c.instrs pc) s.code j + 1 ≡ body_label (label_in cs c.instrs pc) s.code (j + 1)
      after_body j b at one = omega (arith, one, next_body s.code.instrs j b at)

      -- last the result goes where the call wants it
      pub exit_line : (x : Var) → s.into ≡ Some x
          → slice_get (target cs c) (end_place (label_in cs c.instrs pc) s.code)
          ≡ Some (line l.pos (Set x (atom.Var (result_var (window_at cs c pc) s.code))))
      exit_line x wanted =
          let size : exit_size s.into ≡ 1 = ap exit_size wanted in
          ap (slice_get (target cs c)) (omega arith)
          ∙ copy_line (entry_size s.code + total (body_sizes s.code.instrs) + 0) (omega (arith, size))
          ∙ at_exit l.pos (window_at cs c pc) (label_in cs c.instrs pc) s few 0
          ∙ ap (λ o. slice_get (exit_lines l.pos (result_var (window_at cs c pc) s.code) o) 0) wanted

      -- behind the copy stands the next line
      pub after_copy : end_place (label_in cs c.instrs pc) s.code + exit_size s.into ≡ label_in cs c.instrs (pc + 1)
      after_copy =
          let size : line_size (site_at cs l) ≡ call_size s = ap line_size is in
          omega (arith, size, next_place cs params c.instrs pc l e)
