-- The forms of the first path's programs, which are fewer than those for which the headline is proved by now.
use Rattle.std.specs.Prelude.{◌≡◌, ℕ, ◌<◌, ◌^◌, List, [], ◌∷◌, length, None, false, ⊤}
use Rattle.pli_typing.specs.TypedTree as Y
use Rattle.pli_meaning.specs.DeclaredShapes.{variables_of_block}
use Rattle.pli_coding.specs.Streams.{has_text}
use Rattle.pli_headline.specs.ProvedSoFar.{plain_variable, AreProvedFormats, HasData, IsLine}

-- ---- declarations

abbrev pub plain_number : Y.DeclaredVariable
plain_number = plain_variable (Y.FixedLeaf 31) []

abbrev pub AreNumbers : List Y.DeclaredVariable → Type 0
AreNumbers [] = ⊤
AreNumbers (d ∷ ds) = (d ≡ plain_number) × AreNumbers ds

abbrev pub AllNumbers : List (List Y.DeclaredVariable) → Type 0
AllNumbers [] = ⊤
AllNumbers (ds ∷ rest) = AreNumbers ds × AllNumbers rest

-- ---- expressions, in a block with so many variables

-- a variable of the block itself, all of it
pub record IsFirstReference (block count : ℕ) (r : Y.Reference) : Type 0 where
  pub index : ℕ
  pub declared : index < count
  pub is : r ≡ Y.Referring (record { class = Y.AutomaticClass; block = block; level = 0; index = index }) Y.NotLocated (record { first = 0; count = 1 }) Y.NoNumber

abbrev pub IsFirstOperator : Y.ArithmeticOperator → Type 0
IsFirstOperator Y.Sum = ⊤
IsFirstOperator Y.Difference = ⊤
IsFirstOperator _ = ⊥

abbrev pub IsFirstNumber : (block count : ℕ) → Y.Number → Type 0
IsFirstNumber block count (Y.NumberConstant n) = n < 2 ^ 31
IsFirstNumber block count (Y.NumberIn r) = IsFirstReference block count r
IsFirstNumber block count (Y.Signed sign x) = IsFirstNumber block count x
IsFirstNumber block count (Y.Calculated operator left right) =
    IsFirstOperator operator × (IsFirstNumber block count left × IsFirstNumber block count right)
IsFirstNumber block count _ = ⊥

-- ---- statements

abbrev pub IsFirstItem : (block count : ℕ) → Y.PutItem → Type 0
IsFirstItem block count (Y.PutValue (Y.NumberValue precision x)) = IsFirstNumber block count x
IsFirstItem block count _ = ⊥

abbrev pub AreFirstItems : (block count : ℕ) → List Y.PutItem → Type 0
AreFirstItems block count [] = ⊤
AreFirstItems block count (i ∷ is) = IsFirstItem block count i × AreFirstItems block count is

abbrev pub AreFirstPairs : (block count : ℕ) → List Y.PutPair → Type 0
AreFirstPairs block count [] = ⊤
AreFirstPairs block count (p ∷ ps) =
    AreFirstItems block count p.items × ((AreProvedFormats p.formats × (HasData p.formats × (has_text p.formats ≡ false))) × AreFirstPairs block count ps)

abbrev pub IsFirstStatement : (block count : ℕ) → Y.Stmt → Type 0
IsFirstStatement block count (Y.Null line) = IsLine line
IsFirstStatement block count (Y.Assign target (Y.StoredNumber precision x) line) =
    (precision ≡ 31) × (IsFirstReference block count target × (IsFirstNumber block count x × IsLine line))
IsFirstStatement block count (Y.Put None pairs line) = AreFirstPairs block count pairs × IsLine line
IsFirstStatement block count _ = ⊥

abbrev pub AreFirstStatements : (block count : ℕ) → Y.Stmts → Type 0
AreFirstStatements block count (Y.EndOfList labels) = ⊤
AreFirstStatements block count (Y.StmtThen labels first rest) =
    IsFirstStatement block count first × AreFirstStatements block count rest

pub record IsFirstBlock (program : Y.Program) (head : Y.BlockHead) (body : Y.Stmts) : Type 0 where
  pub kind : head.kind ≡ Y.ProcedureBlock
  pub level : head.level ≡ 0
  pub line : IsLine head.line
  pub statements : AreFirstStatements head.number (length (variables_of_block program head.number)) body

-- one procedure, without parameters and without a result
pub record IsFirstProgram (program : Y.Program) : Type 0 where
  pub head : Y.BlockHead
  pub body : Y.Stmts
  pub alone : program.procedures ≡ record { block = Y.BlockOf head body; parameters = []; result = None } ∷ []
  pub plain : AllNumbers program.variables
  pub block : IsFirstBlock program head body
