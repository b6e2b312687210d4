-- The tree of a program, as the definitions see it: the types of `src/expr.rt`, `src/declaration.rt` and `src/stmt.rt`
-- as pure data, without boxes.
use Rattle.std.specs.Prelude.{ℕ, ℤ, List, Bool, Option}
use Rattle.pli_language.specs.declared.token.Word.{Word}
use Rattle.pli_language.specs.declared.expr.Place.{Place}
use Rattle.pli_language.specs.declared.expr.PrefixOp.{PrefixOp}
use Rattle.pli_language.specs.declared.expr.InfixOp.{InfixOp}
use Rattle.pli_language.specs.declared.condition.Condition.{Condition}

-- ---- expressions

pub record Name : Type 0 where
  pub letters : List ℕ
  pub word : Word
  pub place : Place

mutual
  pub data Expr : Type 0 where
    Number : (value : ℕ) → (place : Place) → Expr
    Text : (value : List ℕ) → (place : Place) → Expr
    Bit : (value : Bool) → (place : Place) → Expr
    Parenthesized : (inner : Expr) → (place : Place) → Expr
    Prefix : (op : PrefixOp) → (operand : Expr) → (place : Place) → Expr
    Infix : (op : InfixOp) → (left right : Expr) → Expr
    Refers : Reference → Expr

  pub data Reference : Type 0 where
    Plain : Qualified → Reference
    Located : (locator : Reference) → (target : Qualified) → Reference

  pub data Qualified : Type 0 where
    Last : (name : Name) → (arguments : Arguments) → Qualified
    Of : (name : Name) → (arguments : Arguments) → (rest : Qualified) → Qualified

  pub data Arguments : Type 0 where
    Absent : Arguments
    Listed : Exprs → Arguments

  pub data Exprs : Type 0 where
    NoExpr : Exprs
    ExprThen : (first : Expr) → (rest : Exprs) → Exprs

-- ---- declarations

pub record Refer : Type 0 where
  pub member : Name
  pub place : Place

pub record Extent : Type 0 where
  pub value : Expr
  pub refer : Option Refer

pub data Bound : Type 0 where
  StarBound : (place : Place) → Bound
  Upper : (upper : Extent) → Bound
  Both : (lower upper : Extent) → Bound

pub data Size : Type 0 where
  StarSize : (place : Place) → Size
  Given : Extent → Size

pub data InitialValue : Type 0 where
  InitialNumber : ℤ → InitialValue
  InitialText : List ℕ → InitialValue
  InitialBit : Bool → InitialValue
  InitialSkip InitialNull InitialEmpty : InitialValue

pub record InitialItem : Type 0 where
  pub repetition : ℕ
  pub value : InitialValue

pub data Attribute : Type 0 where
  Fixed : (digits : Option ℕ) → Attribute
  Binary : (digits : Option ℕ) → Attribute
  Character : (length : Option Size) → Attribute
  Varying BitOne Pointer : Attribute
  Offset : (area : Option Name) → Attribute
  Area : (size : Option Size) → Attribute
  Automatic Static Controlled : Attribute
  Based : (locator : Option Name) → Attribute
  Initial : List InitialItem → Attribute
  Builtin Aligned Unaligned Internal : Attribute

pub record DeclaredName : Type 0 where
  pub name : Name
  pub dimensions : List Bound

pub record DeclareItem : Type 0 where
  pub level : Option ℕ
  pub names : List DeclaredName
  pub dimensions : List Bound
  pub attributes : List Attribute

pub record Allocation : Type 0 where
  pub variable : Name
  pub area : Option Reference
  pub locator : Option Reference

pub record Freeing : Type 0 where
  pub generation : Reference
  pub area : Option Reference

-- ---- statements

mutual
  pub data Format : Type 0 where
    FormatList : Formats → Format
    FixedFormat : (width : ℕ) → Format
    TextFormat : (width : Option ℕ) → Format
    SpaceFormat : (number : ℕ) → Format
    SkipFormat : (number : ℕ) → Format
    ColumnFormat : (number : ℕ) → Format

  pub data Formats : Type 0 where
    NoFormat : Formats
    FormatThen : (place : Place) → (repetition : ℕ) → (first : Format) → (rest : Formats) → Formats

pub record EditPair : Type 0 where
  pub items : Exprs
  pub formats : Formats
  pub place : Place

pub record Skip : Type 0 where
  pub number : ℕ
  pub place : Place

pub data ProcedureOption : Type 0 where
  Main Recursive : ProcedureOption
  Returns : List Attribute → ProcedureOption

pub record ProcedureHead : Type 0 where
  pub labels : List Name
  pub place : Place
  pub parameters : List Name
  pub options : List ProcedureOption

pub record Counting : Type 0 where
  pub variable : Reference
  pub start : Expr
  pub limit : Option Expr
  pub step : Option Expr
  pub condition : Option Expr

mutual
  pub data Stmt : Type 0 where
    Null : (place : Place) → Stmt
    Assign : (target : Reference) → (source : Expr) → (place : Place) → Stmt
    If : (condition : Expr) → (unit : Stmt) → (place : Place) → Stmt
    IfElse : (condition : Expr) → (unit otherwise : Stmt) → (place : Place) → Stmt
    Do : (body : Items) → (place : Place) → Stmt
    DoWhile : (condition : Expr) → (body : Items) → (place : Place) → Stmt
    DoCount : (counting : Counting) → (body : Items) → (place : Place) → Stmt
    Begin : (body : Items) → (place : Place) → Stmt
    OnSystem : (condition : Condition) → (place : Place) → Stmt
    OnUnit : (condition : Condition) → (unit : Stmt) → (place : Place) → Stmt
    Call : (procedure : Name) → (arguments : Arguments) → (place : Place) → Stmt
    Return : (value : Option Expr) → (place : Place) → Stmt
    Goto : (label : Name) → (place : Place) → Stmt
    Stop : (place : Place) → Stmt
    Signal : (condition : Condition) → (place : Place) → Stmt
    Revert : (condition : Condition) → (place : Place) → Stmt
    Allocate : (allocations : List Allocation) → (place : Place) → Stmt
    Free : (freeings : List Freeing) → (place : Place) → Stmt
    Get : (skip : Option Skip) → (pairs : List EditPair) → (place : Place) → Stmt
    Put : (skip : Option Skip) → (pairs : List EditPair) → (place : Place) → Stmt

  pub data Item : Type 0 where
    Procedure : (head : ProcedureHead) → (body : Items) → Item
    Declare : (items : List DeclareItem) → (place : Place) → Item
    Statement : (labels : List Name) → (statement : Stmt) → Item
    EndLabels : (labels : List Name) → (place : Place) → Item

  pub data Items : Type 0 where
    NoItem : Items
    ItemThen : (first : Item) → (rest : Items) → Items

-- a program: its outer procedures
pub record Tree : Type 0 where
  pub procedures : Items
