-- Sums over all DECLARE statements that stand in a part of a source.
use Rattle.std.specs.Prelude.{ℕ, ◌+◌, List}
use Rattle.pli_language.specs.Tree as T
use Rattle.tree_tokens.specs.TreeTokens.{list_tokens, declare_tokens}

abbrev mutual
  pub declared_sum : (List T.DeclareItem → ℕ) → T.Stmt → ℕ
  declared_sum f (T.If condition unit place) = declared_sum f unit
  declared_sum f (T.IfElse condition unit otherwise place) = declared_sum f unit + declared_sum f otherwise
  declared_sum f (T.Do body place) = declares_sum f body
  declared_sum f (T.DoWhile condition body place) = declares_sum f body
  declared_sum f (T.DoCount counting body place) = declares_sum f body
  declared_sum f (T.Begin body place) = declares_sum f body
  declared_sum f (T.OnUnit condition unit place) = declared_sum f unit
  declared_sum f _ = 0

  pub declares_sum : (List T.DeclareItem → ℕ) → T.Items → ℕ
  declares_sum f T.NoItem = 0
  declares_sum f (T.ItemThen (T.Procedure head body) rest) = declares_sum f body + declares_sum f rest
  declares_sum f (T.ItemThen (T.Declare items place) rest) = f items + declares_sum f rest
  declares_sum f (T.ItemThen (T.Statement labels statement) rest) = declared_sum f statement + declares_sum f rest
  declares_sum f (T.ItemThen (T.EndLabels labels place) rest) = declares_sum f rest

-- the tokens of one, with its semicolon
abbrev pub declaring_tokens : List T.DeclareItem → ℕ
declaring_tokens items = 2 + list_tokens declare_tokens items

abbrev pub declared_tokens : T.Stmt → ℕ
declared_tokens s = declared_sum declaring_tokens s

abbrev pub declares_tokens : T.Items → ℕ
declares_tokens is = declares_sum declaring_tokens is
