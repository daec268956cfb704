-- A code with one round of copies, from its parts.
use Rattle.std.proofs.Common.{◌≡◌, ℕ, List, ◌++◌, length, map, Option}
use Rattle.pungi_api.specs.declared.param.Param.{Param}
use Rattle.pungi_api.specs.declared.terms.Terms.{Terms}
use Rattle.pungi_code.specs.declared.code.Code.{Code}
use Rattle.pungi_code.specs.declared.code.Head.{Head}
use Rattle.pungi_code.specs.declared.code.Line.{Line}
use Rattle.pungi_inline.specs.Inlined.{all_lines, all_kinds, all_heads, label_in, expanded}
use Rattle.pungi_inline.specs.Moved.{moved_head}

module _ (cs : List (Option Code)) (c : Code) where
  -- its labels, instructions, variables, heads and terms are those of the definition
  pub expanded_is : (to : ℕ → ℕ) (ls : List Line) (ks : List Param) (hs : List Head) (ts : Terms)
      → to ≡ label_in cs c.instrs → ls ≡ all_lines cs to (length c.vars) 0 c.instrs
      → ks ≡ c.vars ++ all_kinds cs c.instrs → hs ≡ map (moved_head to) c.heads ++ all_heads cs 0 c.instrs
      → ts ≡ c.terms
      → record {
        instrs = ls;
        vars = ks;
        params = c.params;
        locals = c.locals;
        result = c.result;
        heads = hs;
        terms = ts;
      } ≡ expanded cs c
  expanded_is to ls ks hs ts to_is ls_is ks_is hs_is ts_is = cc
