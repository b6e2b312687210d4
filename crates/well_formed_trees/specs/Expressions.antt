-- What is so of all expressions, references, calls and values of a typed tree, by their forms.
use Rattle.std.specs.Prelude.{◌≡◌, ℕ, suc, true, List, [], ◌∷◌, length, slice_get, Option, Some, ⊤}
use Rattle.pli_typing.specs.TypedTree as Y
use Rattle.pli_typing.specs.Calls.{leaves_pass}
use Rattle.well_formed_trees.specs.Ranges.{IsConstant, IsPrecision, IsLength}
use Rattle.well_formed_trees.specs.Surroundings.{Around, Where, IsAround, IsArea, IsAreaReached, IsOfClass, head_of}
use Rattle.well_formed_trees.specs.Surroundings.{procedure_numbered, parameter}
use Rattle.well_formed_trees.specs.References.{variable_of, Designates, IsLocated, IsScalar, IsNumberScalar}
use Rattle.well_formed_trees.specs.References.{IsTextScalar, IsOffsetScalar, IsDimension, IsWhole, HasName}

-- ---- conversions

-- a value on its way into storage is of the kind that is there; none goes into an area
abbrev pub Fits : Y.LeafType → Y.Stored → Type 0
Fits (Y.FixedLeaf p) (Y.StoredNumber q n) = p ≡ q
Fits (Y.CharacterLeaf size) (Y.StoredText t) = ⊤
Fits (Y.VaryingLeaf size) (Y.StoredText t) = ⊤
Fits Y.BitLeaf (Y.StoredBit b) = ⊤
Fits Y.PointerLeaf (Y.StoredPointer p) = ⊤
Fits (Y.OffsetLeaf area) (Y.StoredOffset o) = ⊤
Fits _ _ = ⊥

-- what a function gives
abbrev pub GivesText : Option Y.LeafType → Type 0
GivesText (Some (Y.CharacterLeaf size)) = ⊤
GivesText (Some (Y.VaryingLeaf size)) = ⊤
GivesText _ = ⊥

abbrev pub GivesOffset : Option Y.LeafType → Type 0
GivesOffset (Some (Y.OffsetLeaf area)) = ⊤
GivesOffset _ = ⊥

abbrev pub GivesNumber : Option Y.LeafType → Type 0
GivesNumber (Some (Y.FixedLeaf precision)) = ⊤
GivesNumber _ = ⊥

-- ---- procedures

-- the procedure with a number is there, and the block that holds it stands around, at a level
pub record IsProcedure (w : Where) (number level : ℕ) (p : Y.Procedure) : Type 0 where
  pub found : procedure_numbered number w.program.procedures ≡ Some p
  pub level_is : (head_of p.block).level ≡ suc level
  pub kind : (head_of p.block).kind ≡ Y.ProcedureBlock
  pub own : Around
  pub holder : Around
  pub outer : List Around
  pub entry : slice_get w.table number ≡ Some (own ∷ holder ∷ outer)
  pub holder_around : IsAround holder.number level w.around

-- what a procedure that is called returns
abbrev pub Gives : (Option Y.LeafType → Type 0) → Where → Y.Call → Type 0
Gives test w (Y.Calling number level arguments) =
    (p : Y.Procedure) × (procedure_numbered number w.program.procedures ≡ Some p) × test p.result

-- ---- arguments

-- a scalar parameter
pub record IsScalarParameter (d : Y.DeclaredVariable) (type : Y.LeafType) : Type 0 where
  pub leaf : Y.Leaf
  pub one : d.leaves ≡ leaf ∷ []
  pub type_is : leaf.type ≡ type
  pub none : leaf.bounds ≡ []

-- a parameter for an OFFSET of an area that its own procedure declares
pub record TakesOffset (p : Y.Procedure) (d : Y.DeclaredVariable) (class : Y.StorageClass) : Type 0 where
  pub area : Y.Variable
  pub scalar : IsScalarParameter d (Y.OffsetLeaf (Some area))
  pub own : area.block ≡ (head_of p.block).number
  pub class_is : area.class ≡ class

-- by reference goes a whole variable whose leaves the parameter's take
pub record Passes (w : Where) (d : Y.DeclaredVariable) (r : Y.Reference) : Type 0 where
  pub given : IsWhole w r
  pub taken : leaves_pass d.leaves given.designates.d.leaves ≡ true

abbrev pub IsPassed : Where → Y.Procedure → Y.DeclaredVariable → Y.Argument → Type 0
IsPassed w p d (Y.ByReference r) = Passes w d r
IsPassed w p d (Y.ByCopy type s) = IsScalarParameter d type × Fits type s
IsPassed w p d (Y.ByOffsetInParameter x place) =
    (t : TakesOffset p d Y.ParameterClass) × (slice_get p.parameters place ≡ Some t.area.index)
IsPassed w p d (Y.ByOffsetInAutomatic x) = TakesOffset p d Y.AutomaticClass

-- as many arguments as parameters, each of which is declared
abbrev pub ArePassed : Where → Y.Procedure → List ℕ → Y.Arguments → Type 0
ArePassed w p [] Y.NoArgument = ⊤
ArePassed w p (i ∷ is) (Y.ArgumentThen a more) =
    ((d : Y.DeclaredVariable) × (parameter w.program p i ≡ Some d) × IsPassed w p d a) × ArePassed w p is more
ArePassed w p _ _ = ⊥

pub record IsCallable (w : Where) (number level : ℕ) (arguments : Y.Arguments) : Type 0 where
  pub procedure : Y.Procedure
  pub is : IsProcedure w number level procedure
  pub passed : ArePassed w procedure procedure.parameters arguments

-- ---- expressions

abbrev pub IsSomeNumber : Y.Numbers → Type 0
IsSomeNumber Y.NoNumber = ⊥
IsSomeNumber (Y.NumberThen first rest) = ⊤

-- a CONTROLLED variable; a variable that ADDR names
abbrev pub IsControlled : Where → Y.Variable → Type 0
IsControlled w v = IsOfClass w Y.ControlledClass v

pub record IsNamed (w : Where) (r : Y.Reference) : Type 0 where
  pub whole : IsWhole w r
  pub named : HasName (variable_of r).class
  pub no_area : ¬ IsArea w (variable_of r)

abbrev mutual
  pub SoundNumber : Where → Y.Number → Type 0
  SoundNumber w (Y.NumberConstant n) = IsConstant n
  SoundNumber w (Y.NumberIn r) = IsNumberScalar w r × SoundReference w r
  SoundNumber w (Y.NumberFrom c) = Gives GivesNumber w c × SoundCall w c
  SoundNumber w (Y.NumberOfText t) = SoundText w t
  SoundNumber w (Y.NumberOfBit b) = SoundBit w b
  SoundNumber w (Y.Signed sign n) = SoundNumber w n
  SoundNumber w (Y.Calculated op a b) = SoundNumber w a × SoundNumber w b
  SoundNumber w (Y.Absolute n) = SoundNumber w n
  SoundNumber w (Y.SignOf n) = SoundNumber w n
  SoundNumber w (Y.Extreme which first more) = SoundNumber w first × (IsSomeNumber more × SoundNumbers w more)
  SoundNumber w (Y.Modulo a b) = SoundNumber w a × SoundNumber w b
  SoundNumber w (Y.Divided precision a b) = IsPrecision precision × (SoundNumber w a × SoundNumber w b)
  SoundNumber w (Y.LengthOf t) = SoundText w t
  SoundNumber w (Y.IndexOf a b) = SoundText w a × SoundText w b
  SoundNumber w (Y.VerifyOf a b) = SoundText w a × SoundText w b
  SoundNumber w (Y.LowerBound r dimension) = IsDimension w r dimension × SoundReference w r
  SoundNumber w (Y.UpperBound r dimension) = IsDimension w r dimension × SoundReference w r
  SoundNumber w (Y.ElementsOf r dimension) = IsDimension w r dimension × SoundReference w r
  SoundNumber w (Y.AllocationsOf v) = IsControlled w v
  SoundNumber w Y.OnCode = ⊤

  pub SoundNumbers : Where → Y.Numbers → Type 0
  SoundNumbers w Y.NoNumber = ⊤
  SoundNumbers w (Y.NumberThen first rest) = SoundNumber w first × SoundNumbers w rest

  pub SoundText : Where → Y.Text → Type 0
  SoundText w (Y.TextConstant bytes) = IsLength (length bytes)
  SoundText w (Y.TextIn r) = IsTextScalar w r × SoundReference w r
  SoundText w (Y.TextFrom c) = Gives GivesText w c × SoundCall w c
  SoundText w (Y.TextOfNumber precision n) = IsPrecision precision × SoundNumber w n
  SoundText w (Y.TextOfBit b) = SoundBit w b
  SoundText w (Y.Joined a b) = SoundText w a × SoundText w b
  SoundText w (Y.SubstringFrom t start) = SoundText w t × SoundNumber w start
  SoundText w (Y.Substring t start count) = SoundText w t × (SoundNumber w start × SoundNumber w count)

  pub SoundBit : Where → Y.Bit → Type 0
  SoundBit w (Y.BitConstant b) = ⊤
  SoundBit w (Y.BitIn r) = IsScalar w Y.BitLeaf r × SoundReference w r
  SoundBit w (Y.BitFrom c) = Gives (λ t. t ≡ Some Y.BitLeaf) w c × SoundCall w c
  SoundBit w (Y.BitOfText t) = SoundText w t
  SoundBit w (Y.Negated b) = SoundBit w b
  SoundBit w (Y.Combined op a b) = SoundBit w a × SoundBit w b
  SoundBit w (Y.NumbersCompared op a b) = SoundNumber w a × SoundNumber w b
  SoundBit w (Y.TextsCompared op a b) = SoundText w a × SoundText w b
  SoundBit w (Y.BitsCompared op a b) = SoundBit w a × SoundBit w b
  SoundBit w (Y.PointersCompared equal a b) = SoundPointer w a × SoundPointer w b
  SoundBit w (Y.OffsetsCompared equal a b) = SoundOffset w a × SoundOffset w b

  pub SoundPointer : Where → Y.Pointer → Type 0
  SoundPointer w Y.NullPointer = ⊤
  SoundPointer w (Y.PointerIn r) = IsScalar w Y.PointerLeaf r × SoundReference w r
  SoundPointer w (Y.PointerFrom c) = Gives (λ t. t ≡ Some Y.PointerLeaf) w c × SoundCall w c
  SoundPointer w (Y.AddressOf r) = IsNamed w r × SoundReference w r
  SoundPointer w (Y.PointerInto o area) = IsArea w area × SoundOffset w o

  pub SoundOffset : Where → Y.Offset → Type 0
  SoundOffset w Y.NullOffset = ⊤
  SoundOffset w (Y.OffsetIn r) = IsOffsetScalar w r × SoundReference w r
  SoundOffset w (Y.OffsetFrom c) = Gives GivesOffset w c × SoundCall w c
  SoundOffset w (Y.OffsetInto p area) = IsAreaReached w area × SoundPointer w p

  pub SoundReference : Where → Y.Reference → Type 0
  SoundReference w (Y.Referring v locator part subscripts) =
      Designates w (Y.Referring v locator part subscripts)
      × (IsLocated v.class locator × (SoundLocator w locator × SoundNumbers w subscripts))

  pub SoundLocator : Where → Y.Locator → Type 0
  SoundLocator w Y.NotLocated = ⊤
  SoundLocator w (Y.LocatedBy p) = SoundPointer w p

  pub SoundCall : Where → Y.Call → Type 0
  SoundCall w (Y.Calling number level arguments) = IsCallable w number level arguments × SoundArguments w arguments

  pub SoundArgument : Where → Y.Argument → Type 0
  SoundArgument w (Y.ByReference r) = SoundReference w r
  SoundArgument w (Y.ByCopy type s) = SoundStored w s
  SoundArgument w (Y.ByOffsetInParameter p place) = SoundPointer w p
  SoundArgument w (Y.ByOffsetInAutomatic p) = SoundPointer w p

  pub SoundArguments : Where → Y.Arguments → Type 0
  SoundArguments w Y.NoArgument = ⊤
  SoundArguments w (Y.ArgumentThen first rest) = SoundArgument w first × SoundArguments w rest

  pub SoundStored : Where → Y.Stored → Type 0
  SoundStored w (Y.StoredNumber precision n) = IsPrecision precision × SoundNumber w n
  SoundStored w (Y.StoredText t) = SoundText w t
  SoundStored w (Y.StoredBit b) = SoundBit w b
  SoundStored w (Y.StoredPointer p) = SoundPointer w p
  SoundStored w (Y.StoredOffset o) = SoundOffset w o

-- a number, a text or a bit
abbrev pub SoundComputational : Where → Y.Value → Type 0
SoundComputational w (Y.NumberValue precision n) = IsPrecision precision × SoundNumber w n
SoundComputational w (Y.TextValue t) = SoundText w t
SoundComputational w (Y.BitValue b) = SoundBit w b
SoundComputational w _ = ⊥
