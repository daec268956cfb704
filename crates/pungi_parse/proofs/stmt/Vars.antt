-- The loop over the variables of a declaration.
--   finish_vars vs read       variables read before, with those that are read and the semicolon
--   VarsTo                    the loop is after these variables and goes on with the rest as the reader does
use Rattle.std.proofs.Common.{◌≡◌, ℕ, zero, suc, ◌<◌, List, [], ◌∷◌, ◌++◌, length, map, Option, Some, None, refl, sym}
use Rattle.std.proofs.Common.{ap, ◌∙◌, append_assoc, arith}
use Rattle.std.proofs.lemmas.List.{append-nil}
use Rattle.pungi_base.specs.declared.names.Name.{Name}
use Rattle.pungi_base.specs.declared.pos.Pos.{Pos}
use Rattle.pungi_base.specs.declared.punct.Punct.TheVariants as puncts
use Rattle.pungi_base.specs.declared.token.Token.{Token}
use Rattle.pungi_parse.specs.tokens.OneToken.{eat}
use Rattle.pungi_parse.specs.Gives.{Fails}
use Rattle.pungi_parse.specs.Reading.{Read, chain, on_some}
use Rattle.pungi_parse.specs.Readers.{readers}
use Rattle.pungi_parse.specs.stmt.StmtReader.{var_at, more_vars, vars_at}
use Rattle.pungi_parse.specs.types.TypeReader.{Lower}
use Rattle.pungi_parse.specs.declared.stop.Stop.{Stop}
use Rattle.pungi_parse.specs.declared.stop.Stop.TheVariants as stops
use Rattle.pungi_tree.specs.Placed.{Placed, placed}
use Rattle.pungi_tree.specs.Syntax.{VarDecl}

unfoldable pub finish_vars : List VarDecl → Read (List VarDecl) → Read (List VarDecl)
finish_vars vs read = chain read (λ more. chain (eat puncts.Semicolon more.1) (λ c. Some (vs ++ more.0, c.1)))

module _ (types : List Name) (n d : ℕ) where
  pub record VarsTo (start : List Placed) (vs : List VarDecl) (ts : List Placed) : Type 0 where
    pub fuel : ℕ
    pub enough : length ts < fuel
    pub goes_on : finish_vars vs (more_vars types (readers types n d) fuel ts) ≡ vars_at types (readers types n d) start

  pub vars_begin : (start : List Placed) (v : VarDecl) (ts : List Placed)
      → var_at types (readers types n d) start ≡ Some (v, ts) → VarsTo start (v ∷ []) ts
  unfolding finish_vars vars_at chain
  vars_begin start v ts h = record {
    fuel = suc (length ts);
    enough = omega arith;
    goes_on = rw h refl;
  }

  pub vars_first_fails : (start : List Placed) (e : Stop) → Fails e (var_at types (readers types n d) start)
      → Fails e (vars_at types (readers types n d) start)
  unfolding vars_at chain
  vars_first_fails start stops.Memory h = tt
  vars_first_fails start stops.NothingRead h = rw h refl

  finish_turn : (vs : List VarDecl) (v : VarDecl) (read : Read (List VarDecl))
      → finish_vars (vs ++ v ∷ []) read ≡ finish_vars vs (chain read (λ more. Some (v ∷ more.0, more.1)))
  unfolding finish_vars chain
  finish_turn vs v None = refl
  finish_turn vs v (Some x) = ap (λ (f : List VarDecl). chain (eat puncts.Semicolon x.1) (λ c. Some (f, c.1)))
      (append_assoc vs (v ∷ []) x.0)

  more_turn : (k : ℕ) (ts : List Placed) (p : Pos) (after : List Placed) (v : VarDecl) (rest : List Placed)
      → eat puncts.Comma ts ≡ Some (p, after)
      → var_at types (readers types n d) after ≡ Some (v, rest)
      → more_vars types (readers types n d) (suc k) ts ≡ chain (more_vars types (readers types n d) k rest)
      (λ more. Some (v ∷ more.0, more.1))
  unfolding more_vars chain on_some
  more_turn k ts p after v rest h e = rw (h, e) refl

  turned : (start : List Placed) (vs : List VarDecl) (ts : List Placed) (p : Pos) (after : List Placed)
      (v : VarDecl) (rest : List Placed) (k : ℕ)
      → length ts < k → finish_vars vs (more_vars types (readers types n d) k ts)
      ≡ vars_at types (readers types n d) start
      → eat puncts.Comma ts ≡ Some (p, after) → var_at types (readers types n d) after ≡ Some (v, rest)
      → length rest < length ts
      → VarsTo start (vs ++ v ∷ []) rest
  turned start vs ts p after v rest zero enough goes h e shorter = absurd (omega arith)
  turned start vs ts p after v rest (suc k) enough goes h e shorter = record {
    fuel = k;
    enough = omega arith;
    goes_on = finish_turn vs v (more_vars types (readers types n d) k rest)
        ∙ ap (finish_vars vs) (sym (more_turn k ts p after v rest h e)) ∙ goes;
  }

  pub vars_turn : (start : List Placed) (vs : List VarDecl) (ts : List Placed) (p : Pos) (after : List Placed)
      (v : VarDecl) (rest : List Placed)
      → VarsTo start vs ts → eat puncts.Comma ts ≡ Some (p, after)
      → var_at types (readers types n d) after ≡ Some (v, rest) → length rest < length ts
      → VarsTo start (vs ++ v ∷ []) rest
  vars_turn start vs ts p after v rest to h e shorter = turned start vs ts p after v rest to.fuel to.enough
      to.goes_on h e shorter

  more_fails : (k : ℕ) (ts : List Placed) (p : Pos) (after : List Placed) → eat puncts.Comma ts ≡ Some (p, after)
      → var_at types (readers types n d) after ≡ None
      → more_vars types (readers types n d) k ts ≡ None
  unfolding more_vars chain on_some
  more_fails zero ts p after h e = refl
  more_fails (suc k) ts p after h e = rw (h, e) refl

  none_finished : (vs : List VarDecl) → finish_vars vs None ≡ None
  unfolding finish_vars chain
  none_finished vs = refl

  pub vars_fail : (start : List Placed) (vs : List VarDecl) (ts : List Placed) (p : Pos) (after : List Placed)
      (e : Stop)
      → VarsTo start vs ts → eat puncts.Comma ts ≡ Some (p, after)
      → Fails e (var_at types (readers types n d) after) → Fails e (vars_at types (readers types n d) start)
  vars_fail start vs ts p after stops.Memory to h f = tt
  vars_fail start vs ts p after stops.NothingRead to h f =
      sym to.goes_on ∙ ap (finish_vars vs) (more_fails to.fuel ts p after h f) ∙ none_finished vs

  ended : (start : List Placed) (vs : List VarDecl) (ts : List Placed) (k : ℕ) → length ts < k
      → finish_vars vs (more_vars types (readers types n d) k ts) ≡ vars_at types (readers types n d) start
      → eat puncts.Comma ts ≡ None
      → vars_at types (readers types n d) start ≡ chain (eat puncts.Semicolon ts) (λ c. Some (vs, c.1))
  unfolding finish_vars more_vars chain on_some
  ended start vs ts zero enough goes h = absurd (omega arith)
  ended start vs ts (suc k) enough goes h = sym goes
      ∙ rw h (ap (λ (f : List VarDecl). chain (eat puncts.Semicolon ts) (λ c. Some (f, c.1))) (append-nil vs))

  pub vars_end : (start : List Placed) (vs : List VarDecl) (ts : List Placed) → VarsTo start vs ts
      → eat puncts.Comma ts ≡ None
      → vars_at types (readers types n d) start ≡ chain (eat puncts.Semicolon ts) (λ c. Some (vs, c.1))
  vars_end start vs ts to h = ended start vs ts to.fuel to.enough to.goes_on h

  pub vars_finish : (start : List Placed) (vs : List VarDecl) (ts : List Placed) (p : Pos) (rest : List Placed)
      → VarsTo start vs ts
      → eat puncts.Comma ts ≡ None → eat puncts.Semicolon ts ≡ Some (p, rest)
      → vars_at types (readers types n d) start ≡ Some (vs, rest)
  unfolding chain
  vars_finish start vs ts p rest to none h = vars_end start vs ts to none ∙ rw h refl

  pub vars_open : (start : List Placed) (vs : List VarDecl) (ts : List Placed) → VarsTo start vs ts
      → eat puncts.Comma ts ≡ None
      → eat puncts.Semicolon ts ≡ None → vars_at types (readers types n d) start ≡ None
  unfolding chain
  vars_open start vs ts to none h = vars_end start vs ts to none ∙ rw h refl

pub placed_length : (ts : List Token) → length (placed ts) ≡ length ts
placed_length [] = refl
placed_length (t ∷ ts) = ap suc (placed_length ts)
