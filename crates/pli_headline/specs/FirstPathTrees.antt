-- The first path: the programs that this compiler compiled first, by their trees. For them no limit on the length of code is
-- ever met. Each is one procedure with OPTIONS(MAIN), in it declarations of scalars of FIXED BINARY(31) without INITIAL, and
-- then assignments and PUT EDIT of one number by one F(w); its names are those of the declared variables.
use Rattle.std.specs.Prelude.{◌≡◌, ℕ, zero, suc, ◌<◌, ◌≤◌, ◌^◌, List, [], ◌∷◌, ◌++◌, map, flat_map, None, Some, All, Contains, ⊤}
use Rattle.pli_language.specs.declared.expr.Place.{Place}
use Rattle.pli_language.specs.declared.expr.PrefixOp.{PrefixOp}
use Rattle.pli_language.specs.declared.expr.PrefixOp.TheVariants as P
use Rattle.pli_language.specs.declared.expr.InfixOp.{InfixOp}
use Rattle.pli_language.specs.declared.expr.InfixOp.TheVariants as I
use Rattle.pli_language.specs.Tree as T

-- ---- statements, where variables of these names are declared

abbrev pub Names : Type 0
Names = List (List ℕ)

abbrev pub IsVariable : Names → T.Reference → Type 0
IsVariable names (T.Plain (T.Last name T.Absent)) = Contains names name.letters
IsVariable names _ = ⊥

abbrev pub IsSign : PrefixOp → Type 0
IsSign P.Not = ⊥
IsSign _ = ⊤

abbrev pub IsSum : InfixOp → Type 0
IsSum I.Add = ⊤
IsSum I.Subtract = ⊤
IsSum _ = ⊥

-- constants of 31 bits and variables, under parentheses, signs, + and -
abbrev pub IsExpression : Names → T.Expr → Type 0
IsExpression names (T.Number n place) = n < 2 ^ 31
IsExpression names (T.Parenthesized e place) = IsExpression names e
IsExpression names (T.Prefix op e place) = IsSign op × IsExpression names e
IsExpression names (T.Infix op l r) = IsSum op × (IsExpression names l × IsExpression names r)
IsExpression names (T.Refers r) = IsVariable names r
IsExpression names _ = ⊥

abbrev pub IsSingle : Names → T.Exprs → Type 0
IsSingle names (T.ExprThen e T.NoExpr) = IsExpression names e
IsSingle names _ = ⊥

-- one F(w)
abbrev pub IsField : T.Formats → Type 0
IsField (T.FormatThen place (suc zero) (T.FixedFormat width) T.NoFormat) = (1 ≤ width) × (width ≤ 1024)
IsField _ = ⊥

abbrev pub IsStatement : Names → T.Stmt → Type 0
IsStatement names (T.Assign target source place) = IsVariable names target × IsExpression names source
IsStatement names (T.Put None (p ∷ []) place) = IsSingle names p.items × IsField p.formats
IsStatement names _ = ⊥

-- without labels
abbrev pub AreStatements : Names → T.Items → Type 0
AreStatements names T.NoItem = ⊤
AreStatements names (T.ItemThen (T.Statement [] s) rest) = IsStatement names s × AreStatements names rest
AreStatements names _ = ⊥

-- ---- declarations

abbrev pub wide_fixed : List T.Attribute
wide_fixed = T.Fixed None ∷ T.Binary (Some 31) ∷ []

abbrev pub IsScalar : T.DeclaredName → Type 0
IsScalar n = n.dimensions ≡ []

-- names of FIXED BINARY(31) and nothing more, outside structures and without dimensions
pub record DeclaresNumbers (item : T.DeclareItem) : Type 0 where
  pub no_level : item.level ≡ None
  pub scalars : All IsScalar item.names
  pub no_dimensions : item.dimensions ≡ []
  pub attributes_are : item.attributes ≡ wide_fixed

abbrev pub names_in : List T.DeclareItem → Names
names_in items = flat_map (λ i. map (λ (n : T.DeclaredName). n.name.letters) i.names) items

-- the names that the declarations at the front of a body declare
abbrev pub names_of : T.Items → Names
names_of (T.ItemThen (T.Declare items place) rest) = names_in items ++ names_of rest
names_of _ = []

-- ---- programs

-- declarations, then statements
abbrev pub IsBody : Names → T.Items → Type 0
IsBody names (T.ItemThen (T.Declare items place) rest) = All DeclaresNumbers items × IsBody names rest
IsBody names items = AreStatements names items

-- a procedure with one label, no parameters and OPTIONS(MAIN)
abbrev pub main_head : T.Name → Place → T.ProcedureHead
main_head label place = record { labels = label ∷ []; place = place; parameters = []; options = T.Main ∷ [] }

abbrev pub main_items : T.Name → Place → T.Items → T.Items
main_items label place body = T.ItemThen (T.Procedure (main_head label place) body) T.NoItem

pub record IsFirstPath (tree : T.Tree) : Type 0 where
  pub label : T.Name
  pub place : Place
  pub body : T.Items
  pub is : tree.procedures ≡ main_items label place body
  pub holds : IsBody (names_of body) body
