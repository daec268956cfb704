-- How a statement is read at a depth, and the loop over the statements of a block.
--   join list ss      statements in front of others
--   finish_block      statements read before, with those that are read and the closing brace
--   BlockTo           the loop is after these statements and goes on with the rest as the reader does
use Rattle.std.proofs.Common.{◌≡◌, ℕ, zero, suc, ◌-◌, ◌<◌, Bool, true, false, List, [], ◌∷◌, ◌++◌, length, Option, Some}
use Rattle.std.proofs.Common.{None, refl, sym, ap, ◌∙◌, arith}
use Rattle.pungi_base.specs.declared.names.Name.{Name}
use Rattle.pungi_base.specs.declared.pos.Pos.{Pos}
use Rattle.pungi_base.specs.declared.punct.Punct.TheVariants as puncts
use Rattle.pungi_parse.specs.tokens.OneToken.{eat}
use Rattle.pungi_parse.specs.Gives.{Fails}
use Rattle.pungi_parse.specs.Reading.{Read, chain, on_some, when}
use Rattle.pungi_parse.specs.Readers.{readers}
use Rattle.pungi_parse.specs.stmt.StmtReader.{declare_at, stmts_in, block_at, stmt_at, element_at, read_stmt}
use Rattle.pungi_parse.specs.stmt.StmtReader.{read_element}
use Rattle.pungi_parse.specs.types.TypeReader.{begins_decl}
use Rattle.pungi_parse.specs.declared.stop.Stop.{Stop}
use Rattle.pungi_parse.specs.declared.stop.Stop.TheVariants as stops
use Rattle.pungi_tree.specs.Placed.{Placed}
use Rattle.pungi_tree.specs.StmtView.{stmts_of}
use Rattle.pungi_tree.specs.Syntax.{Stmt, block, Stmts, no_stmts, stmt_and}

pub stmt_none : (types : List Name) (n d : ℕ) (ts : List Placed) → d ≡ 0 → read_stmt types n d ts ≡ None
unfolding read_stmt
stmt_none types n zero ts h = refl
stmt_none types n (suc d) ts h = absurd (omega arith)

pub stmt_some : (types : List Name) (n d : ℕ) (ts : List Placed) → 0 < d
    → stmt_at types (readers types n (d - 1)) (read_stmt types n (d - 1)) (read_element types n (d - 1)) ts
    ≡ read_stmt types n d ts
unfolding read_stmt
stmt_some types n zero ts h = absurd (omega arith)
stmt_some types n (suc d) ts h = let e : suc d - 1 ≡ d = omega arith in rw e refl

pub element_none : (types : List Name) (n d : ℕ) (ts : List Placed) → d ≡ 0 → read_element types n d ts ≡ None
unfolding element_at
element_none types n zero ts h = refl
element_none types n (suc d) ts h = absurd (omega arith)

pub element_decl : (types : List Name) (n d : ℕ) (ts : List Placed) → 0 < d → begins_decl types ts ≡ true
    → declare_at types (readers types n (d - 1)) ts ≡ read_element types n d ts
unfolding element_at on_some when
element_decl types n zero ts h b = absurd (omega arith)
element_decl types n (suc d) ts h b = let e : suc d - 1 ≡ d = omega arith in rw (e, b) refl

pub element_stmt : (types : List Name) (n d : ℕ) (ts : List Placed) → 0 < d → begins_decl types ts ≡ false
    → read_stmt types n d ts ≡ read_element types n d ts
unfolding element_at on_some when
element_stmt types n zero ts h b = absurd (omega arith)
element_stmt types n (suc d) ts h b = rw b refl

pub join : List Stmt → Stmts → Stmts
join [] ss = ss
join (s ∷ list) ss = stmt_and s (join list ss)

join_push : (list : List Stmt) (s : Stmt) (ss : Stmts) → join (list ++ s ∷ []) ss ≡ join list (stmt_and s ss)
unfolding join
join_push [] s ss = refl
join_push (t ∷ list) s ss = ap (stmt_and t) (join_push list s ss)

join_all : (list : List Stmt) → join list no_stmts ≡ stmts_of list
unfolding join
join_all [] = refl
join_all (s ∷ list) = ap (stmt_and s) (join_all list)

pub finish_block : Pos → List Stmt → Read Stmts → Read Stmt
finish_block p list read =
    chain read (λ more. chain (eat puncts.RightBrace more.1) (λ c. Some (block p (join list more.0) c.0, c.1)))

module _ (types : List Name) (n d : ℕ) where
  pub some_stmts : ℕ → List Placed → Read Stmts
  some_stmts k ts = stmts_in types (readers types n d) (read_stmt types n d) (read_element types n d) k ts

  abbrev pub whole_block : Pos → List Placed → Read Stmt
  whole_block p ts = block_at types (readers types n d) (read_stmt types n d) (read_element types n d) p ts

  pub record BlockTo (start : List Placed) (p : Pos) (list : List Stmt) (ts : List Placed) : Type 0 where
    pub fuel : ℕ
    pub enough : length ts < fuel
    pub goes_on : finish_block p list (some_stmts fuel ts) ≡ whole_block p start

  pub block_begin : (start : List Placed) (p : Pos) → BlockTo start p [] start
  unfolding finish_block some_stmts block_at join
  block_begin start p = record { fuel = suc (length start); enough = omega arith; goes_on = refl }

  finish_turn : (p : Pos) (list : List Stmt) (s : Stmt) (read : Read Stmts)
      → finish_block p (list ++ s ∷ []) read ≡ finish_block p list (chain read
      (λ more. Some (stmt_and s more.0, more.1)))
  unfolding finish_block chain
  finish_turn p list s None = refl
  finish_turn p list s (Some x) = ap (λ (f : Stmts). chain (eat puncts.RightBrace x.1)
      (λ c. Some (block p f c.0, c.1))) (join_push list s x.0)

  some_turn : (k : ℕ) (ts : List Placed) (s : Stmt) (rest : List Placed) → eat puncts.RightBrace ts ≡ None
      → read_element types n d ts ≡ Some (s, rest)
      → some_stmts (suc k) ts ≡ chain (some_stmts k rest) (λ more. Some (stmt_and s more.0, more.1))
  unfolding some_stmts stmts_in chain on_some
  some_turn k ts s rest h e = rw (h, e) refl

  turned : (start : List Placed) (p : Pos) (list : List Stmt) (ts : List Placed) (s : Stmt) (rest : List Placed) (k : ℕ)
      → length ts < k → finish_block p list (some_stmts k ts) ≡ whole_block p start
      → eat puncts.RightBrace ts ≡ None → read_element types n d ts ≡ Some (s, rest) → length rest < length ts
      → BlockTo start p (list ++ s ∷ []) rest
  turned start p list ts s rest zero enough goes h e shorter = absurd (omega arith)
  turned start p list ts s rest (suc k) enough goes h e shorter = record {
    fuel = k;
    enough = omega arith;
    goes_on = finish_turn p list s (some_stmts k rest) ∙ ap (finish_block p list) (sym (some_turn k ts s rest h e))
        ∙ goes;
  }

  pub block_turn : (start : List Placed) (p : Pos) (list : List Stmt) (ts : List Placed) (s : Stmt)
      (rest : List Placed) → BlockTo start p list ts
      → eat puncts.RightBrace ts ≡ None → read_element types n d ts ≡ Some (s, rest) → length rest < length ts
      → BlockTo start p (list ++ s ∷ []) rest
  block_turn start p list ts s rest to h e shorter = turned start p list ts s rest to.fuel to.enough to.goes_on h e
      shorter

  some_fail : (k : ℕ) (ts : List Placed) → eat puncts.RightBrace ts ≡ None → read_element types n d ts ≡ None
      → some_stmts k ts ≡ None
  unfolding some_stmts stmts_in chain on_some
  some_fail zero ts h e = refl
  some_fail (suc k) ts h e = rw (h, e) refl

  none_finished : (p : Pos) (list : List Stmt) → finish_block p list None ≡ None
  unfolding finish_block chain
  none_finished p list = refl

  pub block_fails : (start : List Placed) (p : Pos) (list : List Stmt) (ts : List Placed) (e : Stop)
      → BlockTo start p list ts
      → eat puncts.RightBrace ts ≡ None → Fails e (read_element types n d ts) → Fails e (whole_block p start)
  block_fails start p list ts stops.Memory to h f = tt
  block_fails start p list ts stops.NothingRead to h f =
      sym to.goes_on ∙ ap (finish_block p list) (some_fail to.fuel ts h f) ∙ none_finished p list

  ended : (start : List Placed) (p : Pos) (list : List Stmt) (ts : List Placed) (q : Pos) (rest : List Placed) (k : ℕ)
      → length ts < k → finish_block p list (some_stmts k ts) ≡ whole_block p start
      → eat puncts.RightBrace ts ≡ Some (q, rest)
      → whole_block p start ≡ Some (block p (stmts_of list) q, rest)
  unfolding finish_block some_stmts stmts_in chain on_some
  ended start p list ts q rest zero enough goes h = absurd (omega arith)
  ended start p list ts q rest (suc k) enough goes h = sym goes
      ∙ rw (h, h) (ap (λ (f : Stmts). Some (block p f q, rest)) (join_all list))

  pub block_end : (start : List Placed) (p : Pos) (list : List Stmt) (ts : List Placed) (q : Pos)
      (rest : List Placed) → BlockTo start p list ts
      → eat puncts.RightBrace ts ≡ Some (q, rest) → whole_block p start ≡ Some (block p (stmts_of list) q, rest)
  block_end start p list ts q rest to h = ended start p list ts q rest to.fuel to.enough to.goes_on h
