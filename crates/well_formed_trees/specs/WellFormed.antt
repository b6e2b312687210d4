-- Well-formed: what a code proof wants to know of a typed tree, and the law that the typed tree of each accepted
-- source is so.
use Rattle.std.specs.Prelude.{◌≡◌, ℕ, suc, ◌<◌, ◌≤◌, List, [], ◌∷◌, length, slice_get, Option, Some, None, ⊤}
use Rattle.pli_language.specs.declared.token.Token.{Token}
use Rattle.pli_language.specs.Tokens.{Tokens}
use Rattle.pli_language.specs.Tree as T
use Rattle.pli_language.specs.Parsing.{Spells}
use Rattle.pli_language.specs.Declaring.{declaring_faults}
use Rattle.pli_language.specs.Declarations.{blocks_of}
use Rattle.well_formed_trees.specs.Written.{IsShaped}
use Rattle.pli_typing.specs.TypedTree as Y
use Rattle.pli_typing.specs.Resolving.{typing_faults, typed_tree}
use Rattle.well_formed_trees.specs.Ranges.{IsLine, IsPrecision}
use Rattle.well_formed_trees.specs.Surroundings.{Around, Table, NoReturn, Returns, head_of, variables_of_block}
use Rattle.well_formed_trees.specs.Surroundings.{parameter}
use Rattle.well_formed_trees.specs.Every.{Every}
use Rattle.well_formed_trees.specs.Statements.{labels_in, IsListed, SoundStmts}
use Rattle.well_formed_trees.specs.Declarations.{IsNoArea, IsTextSize, SoundVariables}
use Rattle.well_formed_trees.specs.Blocks.{BlockLabelsOnce, times, procedure_numbers}

-- ---- procedures

-- a procedure stands in no block, or in the outermost list of one that is in the table
abbrev pub IsHeld : Table → (level : ℕ) → List Around → Type 0
IsHeld table level [] = level ≡ 0
IsHeld table level (a ∷ more) = (level ≡ suc a.level) × (slice_get table a.number ≡ Some (a ∷ more))

-- what RETURNS says: no area, and constant extents
abbrev pub IsConstantExtent : Y.Extent → Type 0
IsConstantExtent (Y.ConstantExtent z) = IsTextSize (Y.ConstantExtent z)
IsConstantExtent _ = ⊥

abbrev pub IsResult : Y.LeafType → Type 0
IsResult (Y.FixedLeaf p) = IsPrecision p
IsResult (Y.CharacterLeaf size) = IsConstantExtent size
IsResult (Y.VaryingLeaf size) = IsConstantExtent size
IsResult type = IsNoArea type

abbrev pub IsResultIf : Option Y.LeafType → Type 0
IsResultIf None = ⊤
IsResultIf (Some type) = IsResult type

-- a parameter is one of the block's variables
pub record IsParameter (program : Y.Program) (p : Y.Procedure) (index : ℕ) : Type 0 where
  pub d : Y.DeclaredVariable
  pub found : parameter program p index ≡ Some d
  pub class_is : d.class ≡ Y.ParameterClass

abbrev pub AreApart : List ℕ → Type 0
AreApart [] = ⊤
AreApart (i ∷ is) = (times i is ≡ 0) × AreApart is

abbrev pub procedure_around : Y.BlockHead → Y.Stmts → List Around → List Around
procedure_around head body outer =
    record { number = head.number; level = head.level; outermost = labels_in body; inner = [] } ∷ outer

pub record SoundProcedure (table : Table) (program : Y.Program) (p : Y.Procedure) : Type 0 where
  pub head : Y.BlockHead
  pub body : Y.Stmts
  pub is : p.block ≡ Y.BlockOf head body
  pub kind : head.kind ≡ Y.ProcedureBlock
  pub line : IsLine head.line
  pub outer : List Around
  pub held : IsHeld table head.level outer
  pub listed : IsListed table head (procedure_around head body outer)
  pub statements :
      SoundStmts (record {
        program = program;
        table = table;
        around = procedure_around head body outer;
        returning =
            Returns p.result;
      }) body
  pub labels : BlockLabelsOnce p.block
  pub parameters : Every (IsParameter program p) p.parameters
  pub apart : AreApart p.parameters
  pub result : IsResultIf p.result

-- ---- blocks

-- block 0 is the whole program, which declares nothing; of each other block the table has what is around its first
-- statement, itself first
pub record IsEntry (table : Table) (number : ℕ) : Type 0 where
  pub own : Around
  pub outer : List Around
  pub entry : slice_get table number ≡ Some (own ∷ outer)
  pub number_is : own.number ≡ number
  pub shallow : own.level < 16

-- a block begins behind the one that holds it, and all that begin between them stand in that one, too: so the last
-- block of a level up to a number is the one of that level that holds the block with the number
abbrev pub Between : Table → (low high level : ℕ) → Type 0
Between table low high level =
    (m : ℕ) (a : Around) (more : List Around) → low < m → m ≤ high → slice_get table m ≡ Some (a ∷ more)
    → level < a.level

abbrev pub IsBehind : Table → (number : ℕ) → List Around → Type 0
IsBehind table number [] = ⊤
IsBehind table number (a ∷ more) = (a.number < number) × Between table a.number number a.level

abbrev pub AreNested : Table → Type 0
AreNested table =
    (number : ℕ) (own : Around) (outer : List Around) → slice_get table number ≡ Some (own ∷ outer)
    → IsBehind table number outer

-- each number from 1 on stands once, and no other one does
pub record AreNumbered (count : ℕ) (numbers : List ℕ) : Type 0 where
  pub once : (n : ℕ) → 1 ≤ n → n < count → times n numbers ≡ 1
  pub none : (n : ℕ) → count ≤ n → times n numbers ≡ 0
  pub not_outermost : times 0 numbers ≡ 0

-- the variables of a block, of which one may have extents that name those before it
abbrev pub DeclaresSound : Table → Y.Program → (number : ℕ) → Type 0
DeclaresSound table program number =
    (around : List Around) → slice_get table number ≡ Some around
    → SoundVariables (record { program = program; table = table; around = around; returning = NoReturn }) 0
    (variables_of_block program number)

-- ---- programs

-- the first procedure stands in no block and has no parameters; all others stand in blocks
abbrev pub IsInner : Y.Procedure → Type 0
IsInner p = 1 ≤ (head_of p.block).level

abbrev pub HasMain : List Y.Procedure → Type 0
HasMain [] = ⊥
HasMain (p ∷ ps) = ((head_of p.block).level ≡ 0) × ((p.parameters ≡ []) × Every IsInner ps)

pub record IsWellFormed (program : Y.Program) : Type 0 where
  pub table : Table
  pub main : HasMain program.procedures
  pub numbers : AreNumbered (length table) (procedure_numbers program.procedures)
  pub entries : (number : ℕ) → 1 ≤ number → number < length table → IsEntry table number
  pub nested : AreNested table
  pub procedures : Every (SoundProcedure table program) program.procedures
  pub lists : length program.variables ≡ length table
  pub outermost : variables_of_block program 0 ≡ []
  pub variables : (number : ℕ) → DeclaresSound table program number

-- ---- the law: the typed tree of each accepted source is well formed

abbrev pub AcceptedWellFormed : Type 0
AcceptedWellFormed =
    (s : List ℕ) (tokens : List Token) (tree : T.Tree) → Tokens s tokens → Spells s tokens tree
    → declaring_faults tree ≡ [] → typing_faults tree ≡ [] → IsWellFormed (typed_tree tree)

-- ---- parts of it that need less of the source

-- what spelling says
abbrev pub ShapeKept : Type 0
ShapeKept = (s : List ℕ) (tokens : List Token) (tree : T.Tree) → Spells s tokens tree → IsShaped tree

-- the numbers of blocks
abbrev pub NumbersKept : Type 0
NumbersKept =
    (tree : T.Tree) → IsShaped tree
    → AreNumbered (length (blocks_of tree)) (procedure_numbers (typed_tree tree).procedures)

-- what blocks declare is listed by their numbers
abbrev pub ListsKept : Type 0
ListsKept = (tree : T.Tree) → length (typed_tree tree).variables ≡ length (blocks_of tree)

-- the whole program declares nothing
abbrev pub OutermostKept : Type 0
OutermostKept = (tree : T.Tree) → variables_of_block (typed_tree tree) 0 ≡ []

-- the labels of a block stand once where declarations break no rule
abbrev pub LabelsKept : Type 0
LabelsKept =
    (tree : T.Tree) → IsShaped tree → declaring_faults tree ≡ []
    → Every (λ p. BlockLabelsOnce p.block) (typed_tree tree).procedures
