-- The typed tree of the whole language, as pure data: the tree with the declaration, or the built-in, at each reference and
-- the kind at each expression. (X3.53-1976, chapter 3, the abstract program, cut to this language.)
--
-- Numbers, texts, bits and the two kinds of locators have types of their own, so a conversion between two of them is a node,
-- and no operator can stand over an operand of the wrong kind. What a value must fit (precision, length, capacity) is seen
-- where it is stored. Parentheses are gone; names are gone but for labels.
use Rattle.std.specs.Prelude.{ℕ, ℤ, List, Bool, Option}
use Rattle.pli_language.specs.declared.condition.Condition.{Condition}
use Rattle.pli_language.specs.Tree.{Formats, InitialItem}

-- ---- variables (chapter 7, storage)

pub data StorageClass : Type 0 where
  AutomaticClass ParameterClass StaticClass BasedClass ControlledClass : StorageClass

-- a variable of level 1: its class, the number of the block that declares it, that block's level (0 for the outermost
-- procedure), and its place among the variables of level 1 that the block declares
pub record Variable : Type 0 where
  pub class : StorageClass
  pub block : ℕ
  pub level : ℕ
  pub index : ℕ

-- a part of a variable: the first of its leaves, and how many they are
pub record Part : Type 0 where
  pub first : ℕ
  pub count : ℕ

-- the sign before an operand
pub data Sign : Type 0 where
  Positive Negative : Sign

-- ---- leaves (chapter 4, data types and bounds)

-- a bound, length or size: a constant, the argument's (`*`), the value of one of its variable's evaluations, or what a member
-- of the same generation tells (REFER)
pub data Extent : Type 0 where
  ConstantExtent : ℤ → Extent
  StarExtent ReferExtent : Extent
  EvaluatedExtent : (place : ℕ) → Extent

pub record Bounds : Type 0 where
  pub lower : Extent
  pub upper : Extent

-- the kind of a leaf; an OFFSET may be declared with an area, and an area's size isn't rounded yet
pub data LeafType : Type 0 where
  FixedLeaf : (precision : ℕ) → LeafType
  CharacterLeaf : (length : Extent) → LeafType
  VaryingLeaf : (length : Extent) → LeafType
  BitLeaf PointerLeaf : LeafType
  OffsetLeaf : (area : Option Variable) → LeafType
  AreaLeaf : (size : Extent) → LeafType

-- a leaf with all its bounds, inherited ones first
pub record Leaf : Type 0 where
  pub type : LeafType
  pub bounds : List Bounds
  pub initial : List InitialItem

-- ---- expressions (chapter 9)

pub data ArithmeticOperator : Type 0 where
  Sum Difference Product Quotient : ArithmeticOperator

pub data BitOperator : Type 0 where
  Conjunction Disjunction : BitOperator

pub data Comparison : Type 0 where
  IsEqual IsNotEqual IsLess IsGreater IsLessOrEqual IsGreaterOrEqual : Comparison

pub data Extremum : Type 0 where
  Greatest Least : Extremum

mutual
  pub data Number : Type 0 where
    NumberConstant : (value : ℕ) → Number
    NumberIn : Reference → Number
    NumberFrom : Call → Number
    NumberOfText : Text → Number
    NumberOfBit : Bit → Number
    Signed : Sign → Number → Number
    Calculated : ArithmeticOperator → (left right : Number) → Number
    Absolute : Number → Number
    SignOf : Number → Number
    Extreme : Extremum → (first : Number) → (more : Numbers) → Number
    Modulo : (dividend divisor : Number) → Number
    Divided : (precision : ℕ) → (dividend divisor : Number) → Number
    LengthOf : Text → Number
    IndexOf : (searched sought : Text) → Number
    VerifyOf : (searched allowed : Text) → Number
    LowerBound : Reference → (dimension : ℕ) → Number
    UpperBound : Reference → (dimension : ℕ) → Number
    ElementsOf : Reference → (dimension : ℕ) → Number
    AllocationsOf : Variable → Number
    OnCode : Number

  pub data Numbers : Type 0 where
    NoNumber : Numbers
    NumberThen : (first : Number) → (rest : Numbers) → Numbers

  -- a number becomes text by the places of its precision
  pub data Text : Type 0 where
    TextConstant : (bytes : List ℕ) → Text
    TextIn : Reference → Text
    TextFrom : Call → Text
    TextOfNumber : (precision : ℕ) → Number → Text
    TextOfBit : Bit → Text
    Joined : (left right : Text) → Text
    SubstringFrom : Text → (start : Number) → Text
    Substring : Text → (start count : Number) → Text

  pub data Bit : Type 0 where
    BitConstant : Bool → Bit
    BitIn : Reference → Bit
    BitFrom : Call → Bit
    BitOfText : Text → Bit
    Negated : Bit → Bit
    Combined : BitOperator → (left right : Bit) → Bit
    NumbersCompared : Comparison → (left right : Number) → Bit
    TextsCompared : Comparison → (left right : Text) → Bit
    BitsCompared : Comparison → (left right : Bit) → Bit
    -- equal, or else not equal
    PointersCompared : (equal : Bool) → (left right : Pointer) → Bit
    OffsetsCompared : (equal : Bool) → (left right : Offset) → Bit

  -- the conversions of locators are the built-ins POINTER and OFFSET, with the declared area
  pub data Pointer : Type 0 where
    NullPointer : Pointer
    PointerIn : Reference → Pointer
    PointerFrom : Call → Pointer
    AddressOf : Reference → Pointer
    PointerInto : Offset → (area : Variable) → Pointer

  pub data Offset : Type 0 where
    NullOffset : Offset
    OffsetIn : Reference → Offset
    OffsetFrom : Call → Offset
    OffsetInto : Pointer → (area : Variable) → Offset

  -- a part of a variable's generation, or an element of it: no subscripts mean the whole part, else there are as many as the
  -- part has dimensions
  pub data Reference : Type 0 where
    Referring : (variable : Variable) → (locator : Locator) → (part : Part) → (subscripts : Numbers) → Reference

  -- a BASED variable is located, and no other
  pub data Locator : Type 0 where
    NotLocated : Locator
    LocatedBy : Pointer → Locator

  -- a procedure by its block's number, with the level of the block that declares it
  pub data Call : Type 0 where
    Calling : (procedure level : ℕ) → (arguments : Arguments) → Call

  -- an argument goes by reference, or as a copy of the parameter's kind. A POINTER for an OFFSET of the callee's own area is
  -- converted last: by the area that a parameter stands for, or where that area isn't made yet.
  pub data Argument : Type 0 where
    ByReference : Reference → Argument
    ByCopy : LeafType → Stored → Argument
    ByOffsetInParameter : Pointer → (parameter : ℕ) → Argument
    ByOffsetInAutomatic : Pointer → Argument

  pub data Arguments : Type 0 where
    NoArgument : Arguments
    ArgumentThen : (first : Argument) → (rest : Arguments) → Arguments

  -- a value on its way into storage, converted to the kind that is there
  pub data Stored : Type 0 where
    StoredNumber : (precision : ℕ) → Number → Stored
    StoredText : Text → Stored
    StoredBit : Bit → Stored
    StoredPointer : Pointer → Stored
    StoredOffset : Offset → Stored

-- the value of an expression with its kind; NULL is a POINTER or an OFFSET as its place wants it
pub data Value : Type 0 where
  NumberValue : (precision : ℕ) → Number → Value
  TextValue : Text → Value
  BitValue : Bit → Value
  PointerValue : Pointer → Value
  OffsetValue : (area : Option Variable) → Offset → Value
  NullValue : Value

-- ---- declarations (chapters 4 and 7)

-- an extent that is evaluated, with what is checked as soon as it is: a length from 0 to 1,024, a size from 0 on, a pair of
-- bounds, or nothing yet
pub data Check : Type 0 where
  NoCheck LengthCheck SizeCheck : Check
  BoundsCheck : Bounds → Check

pub record Evaluation : Type 0 where
  pub value : Number
  pub check : Check

-- the member, a leaf, that keeps the one REFER extent, and what ALLOCATE sets it to
pub record ReferMember : Type 0 where
  pub member : ℕ
  pub amount : Extent

-- a variable of level 1 or a member of it: how many structures hold it, and how many dimensions it declares itself
pub record Member : Type 0 where
  pub depth : ℕ
  pub dimensions : ℕ

-- a variable of level 1, with itself and all its members in declared order; those without members are its leaves. Each extent
-- as it is written is evaluated once, in source order, for all leaves that share it.
pub record DeclaredVariable : Type 0 where
  pub class : StorageClass
  pub members : List Member
  pub leaves : List Leaf
  pub refer : Option ReferMember
  pub evaluations : List Evaluation

-- ---- statements (chapters 6 and 8)

-- a locator that ALLOCATE sets
pub data LocatorTarget : Type 0 where
  SetPointer : Reference → LocatorTarget
  SetOffset : Reference → (area : Variable) → LocatorTarget

-- without an area the heap is meant
pub data Allocation : Type 0 where
  AllocateBased : Variable → (area : Option Variable) → LocatorTarget → Allocation
  AllocateControlled : Variable → Allocation

-- with an area the generation must stand there
pub data Freeing : Type 0 where
  FreeBased : Variable → (locator : Pointer) → (area : Option Variable) → Freeing
  FreeControlled : Variable → Freeing

-- a variable that counts turns is a number or a text
pub data Counter : Type 0 where
  NumberCounter : (precision : ℕ) → Reference → Counter
  TextCounter : Reference → Counter

-- aggregates go element by element
pub data GetItem : Type 0 where
  GetScalar : Reference → GetItem
  GetAggregate : Reference → GetItem

pub data PutItem : Type 0 where
  PutValue : Value → PutItem
  PutAggregate : Reference → PutItem

pub record GetPair : Type 0 where
  pub items : List GetItem
  pub formats : Formats

pub record PutPair : Type 0 where
  pub items : List PutItem
  pub formats : Formats

-- an on-unit is a block: that of its BEGIN, or one around a single statement, which declares nothing
pub data BlockKind : Type 0 where
  ProcedureBlock BeginBlock UnitBlock SimpleUnit : BlockKind

-- a block's kind, its number among the blocks of the program (a simple unit has that of the block around it), its level, and
-- the line of its first word (of ON for a simple unit)
pub record BlockHead : Type 0 where
  pub kind : BlockKind
  pub number : ℕ
  pub level : ℕ
  pub line : ℕ

-- each statement has the line of its first token after labels
mutual
  pub data Stmt : Type 0 where
    Null : (line : ℕ) → Stmt
    Assign : (target : Reference) → (source : Stored) → (line : ℕ) → Stmt
    -- one value into each element of an array
    AssignElements : (target : Reference) → (source : Stored) → (line : ℕ) → Stmt
    AssignAggregate : (target source : Reference) → (line : ℕ) → Stmt
    AssignArea : (target source : Variable) → (line : ℕ) → Stmt
    EmptyArea : (target : Variable) → (line : ℕ) → Stmt
    If : (condition : Bit) → (unit : Stmt) → (line : ℕ) → Stmt
    IfElse : (condition : Bit) → (unit otherwise : Stmt) → (line : ℕ) → Stmt
    Do : (body : Stmts) → (line : ℕ) → Stmt
    DoWhile : (condition : Bit) → (body : Stmts) → (line : ℕ) → Stmt
    -- without TO and BY: one turn at most
    DoOnce : (variable : Reference) → (start : Stored) → (condition : Option Bit) → (body : Stmts) → (line : ℕ) → Stmt
    -- the start becomes a number or a text when it is assigned, once limit and step are evaluated
    DoCount : (counter : Counter) → (start : Value) → (limit : Option Number) → (step : Number) → (condition : Option Bit) → (body : Stmts) → (line : ℕ) → Stmt
    Begin : Block → Stmt
    OnSystem : (condition : Condition) → (line : ℕ) → Stmt
    OnUnit : (condition : Condition) → (unit : Block) → (line : ℕ) → Stmt
    CallProcedure : Call → (line : ℕ) → Stmt
    Return : (line : ℕ) → Stmt
    -- with the kind of RETURNS
    ReturnValue : LeafType → Stored → (line : ℕ) → Stmt
    -- a label of the block at a level
    Goto : (level : ℕ) → (label : List ℕ) → (line : ℕ) → Stmt
    Stop : (line : ℕ) → Stmt
    Signal : (condition : Condition) → (line : ℕ) → Stmt
    Revert : (condition : Condition) → (line : ℕ) → Stmt
    Allocate : List Allocation → (line : ℕ) → Stmt
    Free : List Freeing → (line : ℕ) → Stmt
    Get : (skip : Option ℕ) → (pairs : List GetPair) → (line : ℕ) → Stmt
    Put : (skip : Option ℕ) → (pairs : List PutPair) → (line : ℕ) → Stmt

  -- a list of statements, each behind its labels, and the labels of its END
  pub data Stmts : Type 0 where
    EndOfList : (labels : List (List ℕ)) → Stmts
    StmtThen : (labels : List (List ℕ)) → (first : Stmt) → (rest : Stmts) → Stmts

  pub data Block : Type 0 where
    BlockOf : (head : BlockHead) → (body : Stmts) → Block

-- a procedure: its block, for each parameter its place among the block's variables, and what RETURNS says
pub record Procedure : Type 0 where
  pub block : Block
  pub parameters : List ℕ
  pub result : Option LeafType

-- a program: the variables of level 1 of each block, by its number, and the procedures in source order, of which the first is
-- the main one
pub record Program : Type 0 where
  pub variables : List (List DeclaredVariable)
  pub procedures : List Procedure
