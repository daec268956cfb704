-- What is required of a callee, by what is seen of it.
use Rattle.std.proofs.Common.{◌≡◌, ℕ, Option, None, Some, option_map, is_some, refl, ap, List}
use Rattle.pungi_api.specs.declared.param.Param.{Param}
use Rattle.pungi_api.specs.declared.row.Form.{Form}
use Rattle.pungi_api.specs.declared.row.Form.TheVariants as forms
use Rattle.pungi_api.specs.declared.row.Row.{Row}
use Rattle.pungi_api.specs.declared.special.Special.{Special}
use Rattle.pungi_api.specs.declared.special.Special.TheVariants as specials
use Rattle.pungi_tree.specs.Syntax.{Item}
use Rattle.pungi_types.specs.Calls.{Callee, no_word, a_value, defined, a_row, no_function, wants, result_kind}
use Rattle.pungi_types.specs.Calls.{takes_arguments, row_or, value_or_none, defined_or, row_wants, own_wants}
use Rattle.pungi_types.specs.Exprs.{is_value_called, is_unknown_call}
use Rattle.pungi_types.specs.Files.{Definition}
use Rattle.pungi_types.specs.Names.{Env, is_some_definition}
use Rattle.pungi_types.specs.Standing.{row_called, is_defined}
use Rattle.pungi_types.specs.declared.kind.ValueKind.{ValueKind}
use Rattle.pungi_types.specs.declared.wants.Want.{Want}
use Rattle.pungi_names.specs.CallsView.{function_signature}
use Rattle.pungi_names.specs.RowsView.{fixed_wants, row_seen}
use Rattle.pungi_names.specs.SeenCalls as s
use Rattle.pungi_names.specs.SeenCalls.{Seen, seen, defined_called}

own-seen : (p : Special) (ps : List Param) (n : ℕ)
    → s.own_wants_seen p (fixed_wants (forms.Special p) ps) n ≡ own_wants p n
own-seen specials.Clear ps n = refl
own-seen specials.TuplePack ps n = refl
own-seen specials.CallFunctionObjArgs ps n = refl
own-seen specials.ErrFormat ps n = refl
own-seen _ ps n = refl

form-seen : (f : Form) (ps : List Param) (n : ℕ) → s.row_wants_seen f (fixed_wants f ps) n ≡ row_wants f ps n
form-seen forms.Plain ps n = refl
form-seen (forms.Special p) ps n = own-seen p ps n

module _ (env : Env) where
  pub wants-seen : (c : Callee) (n : ℕ) → s.wants_seen (seen env.file.items c) n ≡ wants env c n
  wants-seen no_word n = refl
  wants-seen a_value n = refl
  wants-seen (defined d) n = refl
  wants-seen (a_row r) n = form-seen r.form r.params n
  wants-seen no_function n = refl

  pub result-seen : (c : Callee) → s.result_seen env.self env.refused (seen env.file.items c) ≡ result_kind env c
  result-seen no_word = refl
  result-seen a_value = refl
  result-seen (defined d) = refl
  result-seen (a_row r) = refl
  result-seen no_function = refl

  pub value-seen : (c : Callee) → s.is_value_seen (seen env.file.items c) ≡ is_value_called c
  value-seen no_word = refl
  value-seen a_value = refl
  value-seen (defined d) = refl
  value-seen (a_row r) = refl
  value-seen no_function = refl

  pub takes-seen : (c : Callee) → s.takes_seen (seen env.file.items c) ≡ takes_arguments c
  takes-seen no_word = refl
  takes-seen a_value = refl
  takes-seen (defined d) = refl
  takes-seen (a_row r) = refl
  takes-seen no_function = refl

  pub unknown-seen : (c : Callee) → s.is_unknown_seen env.self env.refused (seen env.file.items c)
      ≡ is_unknown_call env c
  unknown-seen no_word = refl
  unknown-seen a_value = refl
  unknown-seen (defined d) = refl
  unknown-seen (a_row r) = refl
  unknown-seen no_function = refl

  pub row-seen : (c : Callee) → s.row_of_seen (seen env.file.items c) ≡ row_called c
  row-seen no_word = refl
  row-seen a_value = refl
  row-seen (defined d) = refl
  row-seen (a_row r) = refl
  row-seen no_function = refl

  pub defined-seen : (c : Callee) → s.is_defined_seen (seen env.file.items c) ≡ is_defined c
  defined-seen no_word = refl
  defined-seen a_value = refl
  defined-seen (defined d) = refl
  defined-seen (a_row r) = refl
  defined-seen no_function = refl

pub none-seen : {A B C : Type 0} (f : A → C) (g : B → C) (o : Option A) (p : Option B)
    → option_map f o ≡ option_map g p → is_some o ≡ is_some p
none-seen f g None None e = refl
none-seen f g (Some x) (Some y) e = refl
none-seen f g None (Some y) e = absurd cc
none-seen f g (Some x) None e = absurd cc

pub same-definition : (o : Option Definition) → is_some o ≡ is_some_definition o
same-definition None = refl
same-definition (Some d) = refl

-- what is seen where a row is looked for
pub row-there : (file : List Item) (w : ℕ) (r : Row) (ws : List Want) (o : Option Row)
    → Some (r, ws) ≡ option_map row_seen o
    → s.row_called r ws ≡ seen file (row_or file w o)
row-there file w r ws (Some q) e = let same : (r, ws) ≡ row_seen q = cc in ap (λ p. s.row_called p.0 p.1) same
row-there file w r ws None e = absurd cc

pub row-missing : (file : List Item) (w : ℕ) (o : Option Row) → None ≡ option_map row_seen o
    → seen file (value_or_none file w) ≡ seen file (row_or file w o)
row-missing file w None e = refl
row-missing file w (Some q) e = absurd cc

-- and where a function is
pub definition-there : (env : Env) (w : ℕ) (x : ℕ × (List Want × Option ValueKind)) (o : Option Definition)
    → Some x ≡ option_map (function_signature env.file.items) o
    → defined_called x ≡ seen env.file.items (defined_or env w o)
definition-there env w x (Some d) e = let same : x ≡ function_signature env.file.items d = cc in ap defined_called same
definition-there env w x None e = absurd cc

pub definition-missing : (env : Env) (w : ℕ) (o : Option Definition)
    → None ≡ option_map (function_signature env.file.items) o
    → seen env.file.items (defined_or env w None) ≡ seen env.file.items (defined_or env w o)
definition-missing env w None e = refl
definition-missing env w (Some d) e = absurd cc
