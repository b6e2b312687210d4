-- The programs for which the headline is proved so far: a main procedure with scalars of FIXED BINARY, BIT(1) and CHARACTER of
-- constant lengths, VARYING or not, with or without INITIAL, arrays of these with constant bounds, with or without
-- INITIAL, procedures inside it, without parameters and results, and BEGIN blocks in these and in one another, which declare such
-- scalars and arrays, too; expressions of numbers, bits and texts, and elements of arrays in them; assignments of these, and of one
-- number, bit or text to all elements of an array of the main procedure, and of one such array to another of its kind with equal bounds,
-- CALL of these procedures, also by themselves, IF, groups, DO WHILE, DO with a variable, GOTO to a label of a list around it in its block,
-- in a block around it up to the procedure's own,
-- or of the main procedure's own list, RETURN, STOP, SIGNAL, ON with SYSTEM, ON for AREA and ENDFILE with a single statement or a BEGIN
-- block, which declares as others do, in the main procedure's own block, REVERT, PUT EDIT of numbers, bits and texts, and GET EDIT of such
-- scalars and elements, by lists of F, A, X, SKIP and COLUMN items. Each form that is proved takes a line off.
use Rattle.std.specs.Prelude.{◌≡◌, ℕ, suc, int_le, ◌<◌, ◌≤◌, ◌^◌, List, [], ◌∷◌, ◌++◌, length, map, max, nat_lt, ◌*◌, slice_get, Bool, Option, None, Some, true, false, if◌then◌else◌, ⊤, ◌==◌, ◌&&◌, ◌⊎◌, pos, ◌+◌}
use Rattle.pli_language.specs.Keywords.{same_bytes}
use Rattle.pli_language.specs.declared.condition.Condition.TheVariants as C
use Rattle.pli_language.specs.Tree as T
use Rattle.pli_language.specs.Formats.{formats_move_data}
use Rattle.pli_typing.specs.Signatures.{Bounds, element_count, rounded_up}
use Rattle.pli_typing.specs.TypedTree as Y
use Rattle.pli_meaning.specs.Numbers.{is_of_precision}
use Rattle.pli_meaning.specs.Control.{Label, is_among}
use Rattle.pli_meaning.specs.DeclaredShapes.{variables_of_block, bounds_of}
use Rattle.pli_meaning.specs.Executing.{labels_in}
use Rattle.pli_coding.specs.Environments.{BlockPlace, last_of_level}
use Rattle.pli_coding.specs.Expressions.{given_in}
use Rattle.pli_coding.specs.Images.{blocks_of}
use Rattle.pli_coding.specs.SignatureTable.{table_of}
use Rattle.pli_coding.specs.Streams.{has_fixed, has_text}
use Rattle.pli_headline.specs.InnerWords.{body_words, all_inner_words}
use Rattle.pli_headline.specs.EndUnits.{main_catches_end, HasUnitFor}

-- ---- declarations

-- an AUTOMATIC scalar of a type, with what INITIAL gives it
abbrev pub plain_variable : Y.LeafType → List T.InitialItem → Y.DeclaredVariable
plain_variable type initial =
    record {
      class = Y.AutomaticClass;
      members = record { depth = 0; dimensions = 0 } ∷ [];
      leaves = record { type = type; bounds = []; initial = initial } ∷ [];
      refer = None;
      evaluations = [];
    }

-- FIXED BINARY of 1 to 31 bits, BIT(1), and CHARACTER of a constant length of 1,024 at most, which may be VARYING
abbrev pub IsScalar : Y.LeafType → Type 0
IsScalar (Y.FixedLeaf p) = (1 ≤ p) × (p ≤ 31)
IsScalar Y.BitLeaf = ⊤
IsScalar (Y.CharacterLeaf (Y.ConstantExtent (pos n))) = (1 ≤ n) × (n ≤ 1024)
IsScalar (Y.VaryingLeaf (Y.ConstantExtent (pos n))) = (1 ≤ n) × (n ≤ 1024)
IsScalar _ = ⊥

-- CHARACTER of a constant length, which may be VARYING
abbrev pub text_leaf : (varying : Bool) → (most : ℕ) → Y.LeafType
text_leaf false most = Y.CharacterLeaf (Y.ConstantExtent (pos most))
text_leaf true most = Y.VaryingLeaf (Y.ConstantExtent (pos most))

-- a constant of a type, or an asterisk, which leaves the variable as it begins
abbrev pub IsConstantOf : Y.LeafType → T.InitialValue → Type 0
IsConstantOf (Y.FixedLeaf p) (T.InitialNumber z) = is_of_precision p z ≡ true
IsConstantOf (Y.FixedLeaf p) T.InitialSkip = ⊤
IsConstantOf Y.BitLeaf (T.InitialBit b) = ⊤
IsConstantOf Y.BitLeaf T.InitialSkip = ⊤
IsConstantOf (Y.CharacterLeaf (Y.ConstantExtent (pos n))) (T.InitialText bytes) = length bytes ≤ 1024
IsConstantOf (Y.CharacterLeaf (Y.ConstantExtent (pos n))) T.InitialSkip = ⊤
IsConstantOf (Y.VaryingLeaf (Y.ConstantExtent (pos n))) (T.InitialText bytes) = length bytes ≤ 1024
IsConstantOf (Y.VaryingLeaf (Y.ConstantExtent (pos n))) T.InitialSkip = ⊤
IsConstantOf _ _ = ⊥

-- any number of these; a scalar begins with the first that is repeated at all
abbrev pub AreConstants : Y.LeafType → List T.InitialItem → Type 0
AreConstants type [] = ⊤
AreConstants type (i ∷ is) = (i.repetition < 2 ^ 31) × (IsConstantOf type i.value × AreConstants type is)

-- ---- arrays

abbrev pub constant_bounds : Bounds → Y.Bounds
constant_bounds b = record { lower = Y.ConstantExtent b.lower; upper = Y.ConstantExtent b.upper }

-- an AUTOMATIC array of a type with constant bounds, with what INITIAL gives it; a scalar is one without bounds
abbrev pub array_variable : Y.LeafType → List Bounds → List T.InitialItem → Y.DeclaredVariable
array_variable type bs initial =
    record {
      class = Y.AutomaticClass;
      members = record { depth = 0; dimensions = length bs } ∷ [];
      leaves = record { type = type; bounds = map constant_bounds bs; initial = initial } ∷ [];
      refer = None;
      evaluations = [];
    }

-- numbers of 31 bits, in order
abbrev pub IsBounds : Bounds → Type 0
IsBounds b = (is_of_precision 31 b.lower ≡ true) × ((is_of_precision 31 b.upper ≡ true) × (int_le b.lower b.upper ≡ true))

abbrev pub AreBounds : List Bounds → Type 0
AreBounds [] = ⊤
AreBounds (b ∷ bs) = IsBounds b × AreBounds bs

-- FIXED BINARY of 1 to 31 bits, and BIT(1)
abbrev pub IsElementType : Y.LeafType → Type 0
IsElementType (Y.FixedLeaf p) = (1 ≤ p) × (p ≤ 31)
IsElementType Y.BitLeaf = ⊤
IsElementType _ = ⊥

-- a scalar, or an array of scalars of up to eight dimensions
abbrev pub IsHeld : Y.LeafType → List Bounds → Type 0
IsHeld type [] = IsScalar type
IsHeld type (b ∷ bs) = IsScalar type × ((IsBounds b × AreBounds bs) × (length bs ≤ 7))

pub record IsPlain (d : Y.DeclaredVariable) : Type 0 where
  pub type : Y.LeafType
  pub bounds : List Bounds
  pub initial : List T.InitialItem
  pub held : IsHeld type bounds
  pub begins : AreConstants type initial
  pub is : d ≡ array_variable type bounds initial

abbrev pub ArePlain : List Y.DeclaredVariable → Type 0
ArePlain [] = ⊤
ArePlain (d ∷ ds) = IsPlain d × ArePlain ds

-- the type of a variable, and the bounds of an array
pub record Kind : Type 0 where
  pub type : Y.LeafType
  pub bounds : List Bounds

abbrev pub alone : Y.LeafType → Kind
alone type = record { type = type; bounds = [] }

-- those of a block's variables
abbrev pub Types : Type 0
Types = List Kind

abbrev pub kind_in : List Y.Leaf → Kind
kind_in [] = alone Y.BitLeaf
kind_in (l ∷ ls) = record { type = l.type; bounds = map (bounds_of []) l.bounds }

abbrev pub declared_kind : Y.DeclaredVariable → Kind
declared_kind d = kind_in d.leaves

abbrev pub types_of : List Y.DeclaredVariable → Types
types_of ds = map declared_kind ds

-- ---- names

-- where a variable is declared: the number and the level of its block, and its place among that block's variables
pub record Spot : Type 0 where
  pub number : ℕ
  pub level : ℕ
  pub index : ℕ

-- the variables that statements of a program name
pub record Names : Type 0 where
  pub program : Y.Program
  pub at : ℕ → Spot

-- those of the main procedure
abbrev pub main_names : Y.Program → (block : ℕ) → Names
main_names program block = record { program = program; at = λ j. record { number = block; level = 0; index = j } }

abbrev pub variable_at : Names → ℕ → Y.Variable
variable_at names j =
    record { class = Y.AutomaticClass; block = (names.at j).number; level = (names.at j).level; index = (names.at j).index }

-- with one more, behind so many
abbrev pub names_with : Names → (count : ℕ) → Spot → Names
names_with names count spot = record { program = names.program; at = λ j. if nat_lt j count then names.at j else spot }

-- with those of a block inside, from one of its variables on
abbrev pub names_from : Names → Types → (number level index : ℕ) → List Y.DeclaredVariable → Names
names_from names types number level index [] = names
names_from names types number level index (d ∷ ds) =
    names_from (names_with names (length types) (record { number = number; level = level; index = index })) (types ++ (declared_kind d ∷ [])) number level (suc index) ds

abbrev pub names_in : Names → Types → Y.BlockHead → List Y.DeclaredVariable → Names
names_in names types head ds = names_from names types head.number head.level 0 ds

abbrev pub types_in : Types → List Y.DeclaredVariable → Types
types_in types [] = types
types_in types (d ∷ ds) = types_in (types ++ (declared_kind d ∷ [])) ds

-- ---- expressions, of variables with these names and types

-- a variable of the block itself of a type, all of it
pub record IsOwn (names : Names) (types : Types) (type : Y.LeafType) (r : Y.Reference) : Type 0 where
  pub index : ℕ
  pub declared : slice_get types index ≡ Some (alone type)
  pub is : r ≡ Y.Referring (variable_at names index) Y.NotLocated (record { first = 0; count = 1 }) Y.NoNumber

-- an element of an array of the block, with as many subscripts as it has bounds
pub record IsElement (names : Names) (types : Types) (type : Y.LeafType) (r : Y.Reference) : Type 0 where
  pub index : ℕ
  pub bound : Bounds
  pub bounds : List Bounds
  pub first : Y.Number
  pub rest : Y.Numbers
  pub declared : slice_get types index ≡ Some (record { type = type; bounds = bound ∷ bounds })
  pub many : given_in rest ≡ length bounds
  pub is : r ≡ Y.Referring (variable_at names index) Y.NotLocated (record { first = 0; count = 1 }) (Y.NumberThen first rest)

-- an array of the main procedure, all of it
pub record IsWhole (names : Names) (types : Types) (type : Y.LeafType) (r : Y.Reference) : Type 0 where
  pub index : ℕ
  pub outermost : (names.at index).level ≡ 0
  pub bound : Bounds
  pub bounds : List Bounds
  pub declared : slice_get types index ≡ Some (record { type = type; bounds = bound ∷ bounds })
  pub is : r ≡ Y.Referring (variable_at names index) Y.NotLocated (record { first = 0; count = 1 }) Y.NoNumber

-- one of texts
pub record IsWholeText (names : Names) (types : Types) (r : Y.Reference) : Type 0 where
  pub varying : Bool
  pub most : ℕ
  pub whole : IsWhole names types (text_leaf varying most) r

-- two of numbers or bits of one type with equal bounds
pub record AreAlike (names : Names) (types : Types) (target source : Y.Reference) : Type 0 where
  pub type : Y.LeafType
  pub element : IsElementType type
  pub target_is : IsWhole names types type target
  pub source_is : IsWhole names types type source
  pub same : source_is.bound ∷ source_is.bounds ≡ target_is.bound ∷ target_is.bounds

-- two of CHARACTER, or of CHARACTER VARYING, of any lengths, with equal bounds
pub record AreAlikeTexts (names : Names) (types : Types) (target source : Y.Reference) : Type 0 where
  pub varying : Bool
  pub most : ℕ
  pub other : ℕ
  pub target_is : IsWhole names types (text_leaf varying most) target
  pub source_is : IsWhole names types (text_leaf varying other) source
  pub alike : source_is.bound ∷ source_is.bounds ≡ target_is.bound ∷ target_is.bounds

abbrev pub AreCopied : (names : Names) (types : Types) (target source : Y.Reference) → Type 0
AreCopied names types target source = AreAlike names types target source ⊎ AreAlikeTexts names types target source

-- a scalar, or an element
abbrev pub IsPart : (names : Names) (types : Types) (type : Y.LeafType) (r : Y.Reference) → Type 0
IsPart names types type r = IsOwn names types type r ⊎ IsElement names types type r

-- one that holds a number
pub record IsPartNumber (names : Names) (types : Types) (r : Y.Reference) : Type 0 where
  pub precision : ℕ
  pub part : IsPart names types (Y.FixedLeaf precision) r

-- a dimension of an array of the block, of which a bound or the number of its subscripts is asked
pub record IsDimension (names : Names) (types : Types) (r : Y.Reference) (dimension : ℕ) : Type 0 where
  pub index : ℕ
  pub type : Y.LeafType
  pub held : IsScalar type
  pub bound : Bounds
  pub bounds : List Bounds
  pub declared : slice_get types index ≡ Some (record { type = type; bounds = bound ∷ bounds })
  pub place : ℕ
  pub asked : Bounds
  pub dimension_is : dimension ≡ suc place
  pub among : slice_get (bound ∷ bounds) place ≡ Some asked
  pub is : r ≡ Y.Referring (variable_at names index) Y.NotLocated (record { first = 0; count = 1 }) Y.NoNumber

-- one that holds a text
pub record IsPartText (names : Names) (types : Types) (r : Y.Reference) : Type 0 where
  pub varying : Bool
  pub most : ℕ
  pub part : IsPart names types (text_leaf varying most) r

-- the places of a number as a text go by its precision
abbrev pub IsPrecision : ℕ → Type 0
IsPrecision precision = (1 ≤ precision) × (precision ≤ 31)

abbrev mutual
  pub IsProvedNumber : (names : Names) (types : Types) → Y.Number → Type 0
  IsProvedNumber names types (Y.NumberConstant n) = n < 2 ^ 31
  IsProvedNumber names types (Y.NumberIn (Y.Referring v locator part subscripts)) =
      IsPartNumber names types (Y.Referring v locator part subscripts) × AreProvedNumbers names types subscripts
  IsProvedNumber names types (Y.NumberOfBit x) = IsProvedBit names types x
  IsProvedNumber names types (Y.NumberOfText x) = IsProvedText names types x
  IsProvedNumber names types (Y.Signed sign x) = IsProvedNumber names types x
  IsProvedNumber names types (Y.Calculated operator left right) = IsProvedNumber names types left × IsProvedNumber names types right
  IsProvedNumber names types (Y.Absolute x) = IsProvedNumber names types x
  IsProvedNumber names types (Y.SignOf x) = IsProvedNumber names types x
  IsProvedNumber names types (Y.Extreme extremum first more) = IsProvedNumber names types first × AreProvedNumbers names types more
  IsProvedNumber names types (Y.Modulo dividend divisor) = IsProvedNumber names types dividend × IsProvedNumber names types divisor
  IsProvedNumber names types (Y.Divided precision dividend divisor) =
      (precision ≤ 31) × (IsProvedNumber names types dividend × IsProvedNumber names types divisor)
  IsProvedNumber names types (Y.LengthOf x) = IsProvedText names types x
  IsProvedNumber names types (Y.IndexOf searched sought) = IsProvedText names types searched × IsProvedText names types sought
  IsProvedNumber names types (Y.VerifyOf searched allowed) = IsProvedText names types searched × IsProvedText names types allowed
  IsProvedNumber names types (Y.LowerBound r dimension) = IsDimension names types r dimension
  IsProvedNumber names types (Y.UpperBound r dimension) = IsDimension names types r dimension
  IsProvedNumber names types (Y.ElementsOf r dimension) = IsDimension names types r dimension
  IsProvedNumber names types Y.OnCode = ⊤
  IsProvedNumber names types _ = ⊥

  pub AreProvedNumbers : (names : Names) (types : Types) → Y.Numbers → Type 0
  AreProvedNumbers names types Y.NoNumber = ⊤
  AreProvedNumbers names types (Y.NumberThen first rest) = IsProvedNumber names types first × AreProvedNumbers names types rest

  pub IsProvedBit : (names : Names) (types : Types) → Y.Bit → Type 0
  IsProvedBit names types (Y.BitConstant b) = ⊤
  IsProvedBit names types (Y.BitIn (Y.Referring v locator part subscripts)) =
      IsPart names types Y.BitLeaf (Y.Referring v locator part subscripts) × AreProvedNumbers names types subscripts
  IsProvedBit names types (Y.Negated x) = IsProvedBit names types x
  IsProvedBit names types (Y.Combined operator left right) = IsProvedBit names types left × IsProvedBit names types right
  IsProvedBit names types (Y.NumbersCompared comparison left right) = IsProvedNumber names types left × IsProvedNumber names types right
  IsProvedBit names types (Y.BitOfText x) = IsProvedText names types x
  IsProvedBit names types (Y.TextsCompared comparison left right) = IsProvedText names types left × IsProvedText names types right
  IsProvedBit names types (Y.BitsCompared comparison left right) = IsProvedBit names types left × IsProvedBit names types right
  IsProvedBit names types _ = ⊥

  -- constants of 1,024 bytes at most, variables, elements, numbers and bits as texts, texts that are joined, and their parts
  pub IsProvedText : (names : Names) (types : Types) → Y.Text → Type 0
  IsProvedText names types (Y.TextConstant bytes) = length bytes ≤ 1024
  IsProvedText names types (Y.TextIn (Y.Referring v locator part subscripts)) =
      IsPartText names types (Y.Referring v locator part subscripts) × AreProvedNumbers names types subscripts
  IsProvedText names types (Y.TextOfNumber precision x) = IsPrecision precision × IsProvedNumber names types x
  IsProvedText names types (Y.TextOfBit x) = IsProvedBit names types x
  IsProvedText names types (Y.Joined left right) = IsProvedText names types left × IsProvedText names types right
  IsProvedText names types (Y.SubstringFrom x start) = IsProvedText names types x × IsProvedNumber names types start
  IsProvedText names types (Y.Substring x start many) =
      IsProvedText names types x × (IsProvedNumber names types start × IsProvedNumber names types many)
  IsProvedText names types _ = ⊥

-- what is assigned to: a scalar, or an element with proved subscripts
abbrev pub AreSubscripts : (names : Names) (types : Types) → Y.Reference → Type 0
AreSubscripts names types (Y.Referring v locator part subscripts) = AreProvedNumbers names types subscripts

abbrev pub IsAssigned : (names : Names) (types : Types) → Y.LeafType → Y.Reference → Type 0
IsAssigned names types type r = IsPart names types type r × AreSubscripts names types r

abbrev pub IsAssignedText : (names : Names) (types : Types) → Y.Reference → Type 0
IsAssignedText names types r = IsPartText names types r × AreSubscripts names types r

abbrev pub IsProvedNumberIf : (names : Names) (types : Types) → Option Y.Number → Type 0
IsProvedNumberIf names types None = ⊤
IsProvedNumberIf names types (Some x) = IsProvedNumber names types x

abbrev pub IsProvedBitIf : (names : Names) (types : Types) → Option Y.Bit → Type 0
IsProvedBitIf names types None = ⊤
IsProvedBitIf names types (Some x) = IsProvedBit names types x

-- with what a variable that counts begins
abbrev pub IsProvedStart : (names : Names) (types : Types) → Y.Value → Type 0
IsProvedStart names types (Y.NumberValue precision x) = IsProvedNumber names types x
IsProvedStart names types (Y.TextValue x) = IsProvedText names types x
IsProvedStart names types (Y.BitValue x) = IsProvedBit names types x
IsProvedStart names types _ = ⊥

-- ---- PUT

-- the number of a control item or of SKIP, or how often an item stands
abbrev pub IsTimes : ℕ → Type 0
IsTimes n = (1 ≤ n) × (n ≤ 1000)

abbrev pub HasFormat : T.Formats → Type 0
HasFormat T.NoFormat = ⊥
HasFormat (T.FormatThen place repetition first rest) = ⊤

abbrev pub IsWidth : ℕ → Type 0
IsWidth width = (1 ≤ width) × (width ≤ 1024)

abbrev pub IsWidthIf : Option ℕ → Type 0
IsWidthIf None = ⊤
IsWidthIf (Some width) = IsWidth width

-- F items, A items, control items, and lists of these that have an item
abbrev mutual
  pub IsProvedFormat : T.Format → Type 0
  IsProvedFormat (T.FixedFormat width) = IsWidth width
  IsProvedFormat (T.SpaceFormat n) = IsTimes n
  IsProvedFormat (T.SkipFormat n) = IsTimes n
  IsProvedFormat (T.ColumnFormat n) = IsTimes n
  IsProvedFormat (T.TextFormat width) = IsWidthIf width
  IsProvedFormat (T.FormatList formats) = AreProvedFormats formats × HasFormat formats

  pub AreProvedFormats : T.Formats → Type 0
  AreProvedFormats T.NoFormat = ⊤
  AreProvedFormats (T.FormatThen place repetition first rest) =
      IsTimes repetition × (IsProvedFormat first × AreProvedFormats rest)

-- a data item, at any depth
abbrev pub HasData : T.Formats → Type 0
HasData formats = formats_move_data formats ≡ true

abbrev pub IsProvedItem : (names : Names) (types : Types) → Y.PutItem → Type 0
IsProvedItem names types (Y.PutValue (Y.NumberValue precision x)) = IsProvedNumber names types x
IsProvedItem names types (Y.PutValue (Y.TextValue x)) = IsProvedText names types x
IsProvedItem names types (Y.PutValue (Y.BitValue x)) = IsProvedBit names types x
IsProvedItem names types _ = ⊥

abbrev pub AreProvedItems : (names : Names) (types : Types) → List Y.PutItem → Type 0
AreProvedItems names types [] = ⊤
AreProvedItems names types (i ∷ is) = IsProvedItem names types i × AreProvedItems names types is

-- a number that an A item may show
abbrev pub HasPrecision : Y.PutItem → Type 0
HasPrecision (Y.PutValue (Y.NumberValue precision x)) = IsPrecision precision
HasPrecision _ = ⊤

abbrev pub HavePrecisions : List Y.PutItem → Type 0
HavePrecisions [] = ⊤
HavePrecisions (i ∷ is) = HasPrecision i × HavePrecisions is

abbrev pub AreProvedPairs : (names : Names) (types : Types) → List Y.PutPair → Type 0
AreProvedPairs names types [] = ⊤
AreProvedPairs names types (p ∷ ps) =
    AreProvedItems names types p.items
    × ((AreProvedFormats p.formats × (HasData p.formats × (has_text p.formats ≡ true → HavePrecisions p.items)))
    × AreProvedPairs names types ps)

-- ---- GET

-- A items of GET have widths
abbrev mutual
  pub HasWidths : T.Format → Type 0
  HasWidths (T.TextFormat None) = ⊥
  HasWidths (T.FormatList formats) = HaveWidths formats
  HasWidths _ = ⊤

  pub HaveWidths : T.Formats → Type 0
  HaveWidths T.NoFormat = ⊤
  HaveWidths (T.FormatThen place repetition first rest) = HasWidths first × HaveWidths rest

-- numbers and texts are read by any item, and bits by A items
abbrev pub IsReadBy : (fixed : Bool) → Y.LeafType → Type 0
IsReadBy fixed (Y.FixedLeaf p) = ⊤
IsReadBy fixed Y.BitLeaf = fixed ≡ false
IsReadBy fixed (Y.CharacterLeaf (Y.ConstantExtent (pos n))) = ⊤
IsReadBy fixed (Y.VaryingLeaf (Y.ConstantExtent (pos n))) = ⊤
IsReadBy fixed _ = ⊥

-- a variable of the block that is read by items of a list, or an element
pub record IsTarget (names : Names) (types : Types) (fixed : Bool) (r : Y.Reference) : Type 0 where
  pub type : Y.LeafType
  pub part : IsPart names types type r
  pub read : IsReadBy fixed type
  pub subscripts : AreSubscripts names types r

abbrev pub IsProvedGetItem : (names : Names) (types : Types) (fixed : Bool) → Y.GetItem → Type 0
IsProvedGetItem names types fixed (Y.GetScalar r) = IsTarget names types fixed r
IsProvedGetItem names types fixed _ = ⊥

abbrev pub AreProvedGetItems : (names : Names) (types : Types) (fixed : Bool) → List Y.GetItem → Type 0
AreProvedGetItems names types fixed [] = ⊤
AreProvedGetItems names types fixed (i ∷ is) =
    IsProvedGetItem names types fixed i × AreProvedGetItems names types fixed is

abbrev pub AreProvedGetPairs : (names : Names) (types : Types) → List Y.GetPair → Type 0
AreProvedGetPairs names types [] = ⊤
AreProvedGetPairs names types (p ∷ ps) =
    AreProvedGetItems names types (has_fixed p.formats) p.items
    × ((AreProvedFormats p.formats × (HasData p.formats × HaveWidths p.formats)) × AreProvedGetPairs names types ps)

-- ---- statements

-- lines fit a word
abbrev pub IsLine : ℕ → Type 0
IsLine line = line < 2 ^ 31

-- what an on-unit declares: nothing where it is a single statement
abbrev pub unit_declares : Y.Program → Y.BlockHead → Y.BlockKind → List Y.DeclaredVariable
unit_declares program head Y.SimpleUnit = []
unit_declares program head _ = variables_of_block program head.number

-- what may be an on-unit by itself
abbrev pub IsSimple : Y.Stmt → Type 0
IsSimple (Y.Null line) = ⊤
IsSimple (Y.Assign target source line) = ⊤
IsSimple (Y.AssignElements target source line) = ⊤
IsSimple (Y.AssignAggregate target source line) = ⊤
IsSimple (Y.CallProcedure call line) = ⊤
IsSimple (Y.Goto level label line) = ⊤
IsSimple (Y.Stop line) = ⊤
IsSimple (Y.Signal condition line) = ⊤
IsSimple (Y.OnSystem condition line) = ⊤
IsSimple (Y.Revert condition line) = ⊤
IsSimple (Y.Put skip pairs line) = ⊤
IsSimple (Y.Get skip pairs line) = ⊤
IsSimple _ = ⊥

-- an on-unit is a single statement, or a block
abbrev pub IsUnitBody : Y.BlockKind → Y.Stmts → Type 0
IsUnitBody Y.SimpleUnit (Y.StmtThen [] x (Y.EndOfList [])) = IsSimple x
IsUnitBody Y.UnitBlock body = ⊤
IsUnitBody _ _ = ⊥

abbrev mutual
  pub IsProvedStatement : (names : Names) (types : Types) → Y.Stmt → Type 0
  IsProvedStatement names types (Y.Null line) = IsLine line
  IsProvedStatement names types (Y.Assign target (Y.StoredNumber precision x) line) =
      IsAssigned names types (Y.FixedLeaf precision) target × (IsProvedNumber names types x × IsLine line)
  IsProvedStatement names types (Y.Assign target (Y.StoredBit x) line) =
      IsAssigned names types Y.BitLeaf target × (IsProvedBit names types x × IsLine line)
  IsProvedStatement names types (Y.Assign target (Y.StoredText x) line) =
      IsAssignedText names types target × (IsProvedText names types x × IsLine line)
  IsProvedStatement names types (Y.AssignElements target (Y.StoredNumber precision x) line) =
      IsWhole names types (Y.FixedLeaf precision) target × (IsProvedNumber names types x × IsLine line)
  IsProvedStatement names types (Y.AssignElements target (Y.StoredBit x) line) =
      IsWhole names types Y.BitLeaf target × (IsProvedBit names types x × IsLine line)
  IsProvedStatement names types (Y.AssignElements target (Y.StoredText x) line) =
      IsWholeText names types target × (IsProvedText names types x × IsLine line)
  IsProvedStatement names types (Y.AssignAggregate target source line) = AreCopied names types target source × IsLine line
  IsProvedStatement names types (Y.If condition unit line) =
      IsProvedBit names types condition × (IsProvedStatement names types unit × IsLine line)
  IsProvedStatement names types (Y.IfElse condition unit otherwise line) =
      IsProvedBit names types condition × (IsProvedStatement names types unit × (IsProvedStatement names types otherwise × IsLine line))
  IsProvedStatement names types (Y.Do body line) = AreProvedStatements names types body × IsLine line
  IsProvedStatement names types (Y.DoWhile condition body line) =
      IsProvedBit names types condition × (AreProvedStatements names types body × IsLine line)
  IsProvedStatement names types (Y.DoOnce target (Y.StoredNumber precision x) condition body line) =
      (IsAssigned names types (Y.FixedLeaf precision) target × IsProvedNumber names types x) × (IsProvedBitIf names types condition × (AreProvedStatements names types body × IsLine line))
  IsProvedStatement names types (Y.DoOnce target (Y.StoredBit x) condition body line) =
      (IsAssigned names types Y.BitLeaf target × IsProvedBit names types x) × (IsProvedBitIf names types condition × (AreProvedStatements names types body × IsLine line))
  IsProvedStatement names types (Y.DoOnce target (Y.StoredText x) condition body line) =
      (IsAssignedText names types target × IsProvedText names types x) × (IsProvedBitIf names types condition × (AreProvedStatements names types body × IsLine line))
  IsProvedStatement names types (Y.DoCount (Y.NumberCounter precision target) start limit step condition body line) =
      (IsAssigned names types (Y.FixedLeaf precision) target × IsProvedStart names types start)
      × ((IsProvedNumberIf names types limit × IsProvedNumber names types step) × (IsProvedBitIf names types condition × (AreProvedStatements names types body × IsLine line)))
  IsProvedStatement names types (Y.Begin (Y.BlockOf head body)) =
      (head.kind ≡ Y.BeginBlock)
      × (IsLine head.line
      × AreProvedStatements (names_in names types head (variables_of_block names.program head.number)) (types_in types (variables_of_block names.program head.number)) body)
  IsProvedStatement names types (Y.CallProcedure (Y.Calling procedure level Y.NoArgument) line) = (level ≡ 0) × IsLine line
  IsProvedStatement names types (Y.Return line) = IsLine line
  IsProvedStatement names types (Y.Goto level label line) = IsLine line
  IsProvedStatement names types (Y.Stop line) = IsLine line
  IsProvedStatement names types (Y.Signal condition line) = IsLine line
  IsProvedStatement names types (Y.OnSystem condition line) = IsLine line
  IsProvedStatement names types (Y.Revert condition line) = IsLine line
  IsProvedStatement names types (Y.OnUnit condition (Y.BlockOf head body) line) =
      HasUnitFor names.program condition
      × (IsUnitBody head.kind body
      × (IsLine line
      × (IsLine head.line
      × AreProvedStatements (names_in names types head (unit_declares names.program head head.kind)) (types_in types (unit_declares names.program head head.kind)) body)))
  IsProvedStatement names types (Y.Put None pairs line) = AreProvedPairs names types pairs × IsLine line
  IsProvedStatement names types (Y.Put (Some n) pairs line) = IsTimes n × (AreProvedPairs names types pairs × IsLine line)
  IsProvedStatement names types (Y.Get None pairs line) = AreProvedGetPairs names types pairs × IsLine line
  IsProvedStatement names types (Y.Get (Some n) pairs line) = IsTimes n × (AreProvedGetPairs names types pairs × IsLine line)
  IsProvedStatement names types _ = ⊥

  pub AreProvedStatements : (names : Names) (types : Types) → Y.Stmts → Type 0
  AreProvedStatements names types (Y.EndOfList labels) = ⊤
  AreProvedStatements names types (Y.StmtThen labels first rest) =
      IsProvedStatement names types first × AreProvedStatements names types rest

-- ---- jumps

-- how often a label of a block stands among some
abbrev pub times : (block : ℕ) → Label → List (ℕ × Label) → ℕ
times block label [] = 0
times block label (p ∷ ps) =
    if (block == p.0) && same_bytes label p.1 then suc (times block label ps) else times block label ps

abbrev pub of_block : (block : ℕ) → List Label → List (ℕ × Label)
of_block block labels = map (λ l. (block, l)) labels

-- the labels of a list in a block, and of the lists of groups and blocks in it
abbrev mutual
  pub inner_labels : (block : ℕ) → Y.Stmt → List (ℕ × Label)
  inner_labels block (Y.If condition unit line) = inner_labels block unit
  inner_labels block (Y.IfElse condition unit otherwise line) = inner_labels block unit ++ inner_labels block otherwise
  inner_labels block (Y.Do body line) = all_labels block body
  inner_labels block (Y.DoWhile condition body line) = all_labels block body
  inner_labels block (Y.DoOnce target start condition body line) = all_labels block body
  inner_labels block (Y.DoCount counter start limit step condition body line) = all_labels block body
  inner_labels block (Y.Begin (Y.BlockOf head body)) = all_labels head.number body
  inner_labels block (Y.OnUnit condition (Y.BlockOf head body) line) = all_labels head.number body
  inner_labels block _ = []

  pub all_labels : (block : ℕ) → Y.Stmts → List (ℕ × Label)
  all_labels block (Y.EndOfList labels) = of_block block labels
  all_labels block (Y.StmtThen labels first rest) = of_block block labels ++ (inner_labels block first ++ all_labels block rest)

-- an on-unit that is a block has another number than the procedure
abbrev pub IsUnitApart : (number : ℕ) → Y.BlockHead → Y.BlockKind → Type 0
IsUnitApart number head Y.SimpleUnit = ⊤
IsUnitApart number head _ = (number == head.number) ≡ false

-- a block around: its level, its number, and the labels of the lists in it that are carried out around
pub record OuterBlock : Type 0 where
  pub level : ℕ
  pub number : ℕ
  pub labels : List Label

-- one of them has a level and a label, which stands once in the program's blocks of its number, and the code goes to just that block
abbrev pub IsOutward : (block to : ℕ) (label : Label) (all : List (ℕ × Label)) (blocks : List BlockPlace) → List OuterBlock → Type 0
IsOutward block to label all blocks [] = ⊥
IsOutward block to label all blocks (o ∷ os) =
    ((o.level ≡ to) × ((is_among label o.labels ≡ true) × ((times o.number label all ≡ 1) × (last_of_level block to 0 blocks ≡ o.number))))
    ⊎ IsOutward block to label all blocks os

-- a GOTO names a label of a list around it in its block, which has a level, or in a block around it up to the procedure's own, or, in a
-- procedure inside the main one or in an on-unit, of the main one's own list, and the label stands once in the program's blocks of that
-- number; begin blocks stand up to a hundred deep; on-units are given in the main procedure's own block
abbrev mutual
  pub JumpsAround : (block level : ℕ) → (all : List (ℕ × Label)) → (blocks : List BlockPlace) → (main : OuterBlock) → (outer : List OuterBlock) → (around : List Label) → Y.Stmt → Type 0
  JumpsAround block level all blocks main outer around (Y.If condition unit line) = JumpsAround block level all blocks main outer around unit
  JumpsAround block level all blocks main outer around (Y.IfElse condition unit otherwise line) = JumpsAround block level all blocks main outer around unit × JumpsAround block level all blocks main outer around otherwise
  JumpsAround block level all blocks main outer around (Y.Do body line) = AllJumpAround block level all blocks main outer (labels_in body ++ around) body
  JumpsAround block level all blocks main outer around (Y.DoWhile condition body line) = AllJumpAround block level all blocks main outer (labels_in body ++ around) body
  JumpsAround block level all blocks main outer around (Y.DoOnce target start condition body line) = AllJumpAround block level all blocks main outer (labels_in body ++ around) body
  JumpsAround block level all blocks main outer around (Y.DoCount counter start limit step condition body line) = AllJumpAround block level all blocks main outer (labels_in body ++ around) body
  JumpsAround block level all blocks main outer around (Y.Begin (Y.BlockOf head body)) =
      ((head.level ≡ suc level) × (head.level ≤ 100))
      × AllJumpAround head.number head.level all blocks main (record { level = level; number = block; labels = around } ∷ outer) (labels_in body) body
  JumpsAround block level all blocks main outer around (Y.Goto to label line) =
      ((to ≡ level) × ((is_among label around ≡ true) × (times block label all ≡ 1))) ⊎ IsOutward block to label all blocks outer
  JumpsAround block level all blocks main outer around (Y.OnUnit condition (Y.BlockOf head body) line) =
      ((0 == level) ≡ true) × ((head.level ≡ 1) × (IsUnitApart block head head.kind × AllJumpAround head.number head.level all blocks main (main ∷ []) (labels_in body) body))
  JumpsAround block level all blocks main outer around _ = ⊤

  pub AllJumpAround : (block level : ℕ) → (all : List (ℕ × Label)) → (blocks : List BlockPlace) → (main : OuterBlock) → (outer : List OuterBlock) → (around : List Label) → Y.Stmts → Type 0
  AllJumpAround block level all blocks main outer around (Y.EndOfList labels) = ⊤
  AllJumpAround block level all blocks main outer around (Y.StmtThen labels first rest) = JumpsAround block level all blocks main outer around first × AllJumpAround block level all blocks main outer around rest

-- ---- what the variables of blocks in a part take in frames

-- a scalar, or an element of an array: whole words
abbrev pub bytes_each : Y.LeafType → ℕ
bytes_each (Y.CharacterLeaf (Y.ConstantExtent (pos n))) = rounded_up 4 n
bytes_each (Y.VaryingLeaf (Y.ConstantExtent (pos n))) = rounded_up 4 (2 + n)
bytes_each _ = 4

-- a variable: 16 bytes for its name, and its data in whole pieces of 16
abbrev pub bytes_for : Kind → ℕ
bytes_for k = 16 + rounded_up 16 (bytes_each k.type * element_count k.bounds)

abbrev pub bytes_of : List Y.DeclaredVariable → ℕ
bytes_of [] = 0
bytes_of (d ∷ ds) = bytes_for (declared_kind d) + bytes_of ds

abbrev mutual
  pub bytes_in : Y.Program → Y.Stmt → ℕ
  bytes_in program (Y.If condition unit line) = bytes_in program unit
  bytes_in program (Y.IfElse condition unit otherwise line) = max (bytes_in program unit) (bytes_in program otherwise)
  bytes_in program (Y.Do body line) = inner_bytes program body
  bytes_in program (Y.DoWhile condition body line) = inner_bytes program body
  bytes_in program (Y.DoOnce target start condition body line) = inner_bytes program body
  bytes_in program (Y.DoCount counter start limit step condition body line) = inner_bytes program body
  bytes_in program (Y.Begin (Y.BlockOf head body)) = bytes_of (variables_of_block program head.number) + inner_bytes program body
  bytes_in program _ = 0

  pub inner_bytes : Y.Program → Y.Stmts → ℕ
  inner_bytes program (Y.EndOfList labels) = 0
  inner_bytes program (Y.StmtThen labels first rest) = max (bytes_in program first) (inner_bytes program rest)

-- ---- calls

abbrev pub is_number : ℕ → List ℕ → Bool
is_number number [] = false
is_number number (n ∷ ns) = if number == n then true else is_number number ns

-- an on-unit that is a block has another number than the procedures that are called
abbrev pub IsUnitNew : (may : List ℕ) → Y.BlockHead → Y.BlockKind → Type 0
IsUnitNew may head Y.SimpleUnit = ⊤
IsUnitNew may head _ = is_number head.number may ≡ false

-- where calls stand, variables of BEGIN blocks around take few bytes in frames, so that 500 frames fit the stacks above them
abbrev pub IsShallow : (bytes : ℕ) → Type 0
IsShallow bytes = bytes ≤ 20000

-- and so it is where GET and SIGNAL raise ENDFILE, in a program that has a unit for it
abbrev pub MayEnd : Y.Program → (bytes : ℕ) → Type 0
MayEnd program bytes = (main_catches_end program.procedures ≡ false) ⊎ IsShallow bytes

-- calls name one of some numbers, and they and SIGNAL of AREA stand where variables of BEGIN blocks around take few bytes; an on-unit has
-- no RETURN and few bytes for temporaries and variables, as a procedure that is called
abbrev mutual
  pub CallsAmong : Y.Program → (may : List ℕ) → (returns : Bool) → (bytes : ℕ) → Y.Stmt → Type 0
  CallsAmong program may returns bytes (Y.If condition unit line) = CallsAmong program may returns bytes unit
  CallsAmong program may returns bytes (Y.IfElse condition unit otherwise line) = CallsAmong program may returns bytes unit × CallsAmong program may returns bytes otherwise
  CallsAmong program may returns bytes (Y.Do body line) = AllCallAmong program may returns bytes body
  CallsAmong program may returns bytes (Y.DoWhile condition body line) = AllCallAmong program may returns bytes body
  CallsAmong program may returns bytes (Y.DoOnce target start condition body line) = AllCallAmong program may returns bytes body
  CallsAmong program may returns bytes (Y.DoCount counter start limit step condition body line) = AllCallAmong program may returns bytes body
  CallsAmong program may returns bytes (Y.Begin (Y.BlockOf head body)) =
      AllCallAmong program may returns (bytes + bytes_of (variables_of_block program head.number)) body
  CallsAmong program may returns bytes (Y.CallProcedure (Y.Calling procedure level _) line) = IsShallow bytes × (is_number procedure may ≡ true)
  CallsAmong program may returns bytes (Y.Return line) = returns ≡ true
  CallsAmong program may returns bytes (Y.Signal C.Area line) = IsShallow bytes
  CallsAmong program may returns bytes (Y.Signal C.Endfile line) = MayEnd program bytes
  CallsAmong program may returns bytes (Y.Get skip pairs line) = MayEnd program bytes
  CallsAmong program may returns bytes (Y.OnUnit condition (Y.BlockOf head body) line) =
      AllCallAmong program may false 0 body
      × ((4 * (body_words body + all_inner_words body)
      + (bytes_of (unit_declares program head head.kind) + inner_bytes program body) ≤ 3200)
      × IsUnitNew may head head.kind)
  CallsAmong program may returns bytes _ = ⊤

  pub AllCallAmong : Y.Program → (may : List ℕ) → (returns : Bool) → (bytes : ℕ) → Y.Stmts → Type 0
  AllCallAmong program may returns bytes (Y.EndOfList labels) = ⊤
  AllCallAmong program may returns bytes (Y.StmtThen labels first rest) = CallsAmong program may returns bytes first × AllCallAmong program may returns bytes rest

-- how many procedures have a number
abbrev pub number_of_block : Y.Block → ℕ
number_of_block (Y.BlockOf head body) = head.number

abbrev pub number_times : (number : ℕ) → List Y.Procedure → ℕ
number_times number [] = 0
number_times number (p ∷ ps) = if number == number_of_block p.block then suc (number_times number ps) else number_times number ps

-- each number is that of one of them
abbrev pub AllOnce : List ℕ → List Y.Procedure → Type 0
AllOnce [] others = ⊤
AllOnce (n ∷ ns) others = (number_times n others ≡ 1) × AllOnce ns others

-- ---- programs

-- in all blocks
abbrev pub AllPlain : List (List Y.DeclaredVariable) → Type 0
AllPlain [] = ⊤
AllPlain (ds ∷ rest) = ArePlain ds × AllPlain rest

-- the labels of procedures
abbrev pub block_labels : Y.Block → List (ℕ × Label)
block_labels (Y.BlockOf head body) = all_labels head.number body

abbrev pub procedure_labels : List Y.Procedure → List (ℕ × Label)
procedure_labels [] = []
procedure_labels (p ∷ ps) = block_labels p.block ++ procedure_labels ps

-- the main procedure, whose own list is carried out around all calls
abbrev pub labels_of_block : Y.Block → List Label
labels_of_block (Y.BlockOf head body) = labels_in body

abbrev pub main_labels : List Y.Procedure → List Label
main_labels [] = []
main_labels (p ∷ ps) = labels_of_block p.block

abbrev pub main_outer : (block : ℕ) → List Y.Procedure → OuterBlock
main_outer block procedures = record { level = 0; number = block; labels = main_labels procedures }

-- a procedure that is called: it has few bytes for temporaries and variables in its frame and those of BEGIN blocks in it, so that 500
-- frames fit the stacks
pub record IsCallable (program : Y.Program) (called : List ℕ) (head : Y.BlockHead) (body : Y.Stmts) : Type 0 where
  pub kind : head.kind ≡ Y.ProcedureBlock
  pub line : IsLine head.line
  pub calls : AllCallAmong program called true 0 body
  pub few : 4 * (body_words body + all_inner_words body)
      + (bytes_of (variables_of_block program head.number) + inner_bytes program body) ≤ 3200

-- a procedure inside the main one, whose number is the given block's: it has no parameters and no result
pub record IsInner (program : Y.Program) (block : ℕ) (all : List (ℕ × Label)) (called : List ℕ) (p : Y.Procedure) : Type 0 where
  pub head : Y.BlockHead
  pub body : Y.Stmts
  pub is : p ≡ record { block = Y.BlockOf head body; parameters = []; result = None }
  pub apart : (block == head.number) ≡ false
  pub level : head.level ≡ 1
  pub statements : AreProvedStatements (names_in (main_names program block) (types_of (variables_of_block program block)) head (variables_of_block program head.number)) (types_in (types_of (variables_of_block program block)) (variables_of_block program head.number)) body
  pub jumps : AllJumpAround head.number 1 all (blocks_of program.procedures) (main_outer block program.procedures) (main_outer block program.procedures ∷ []) (labels_in body) body
  pub callable : is_number head.number called ≡ true → IsCallable program called head body

abbrev pub AreInner : Y.Program → (block : ℕ) → (all : List (ℕ × Label)) → (called : List ℕ) → List Y.Procedure → Type 0
AreInner program block all called [] = ⊤
AreInner program block all called (p ∷ ps) = IsInner program block all called p × AreInner program block all called ps

pub record IsProvedBlock (program : Y.Program) (head : Y.BlockHead) (body : Y.Stmts) (others : List Y.Procedure) (called : List ℕ) : Type 0 where
  pub kind : head.kind ≡ Y.ProcedureBlock
  pub level : head.level ≡ 0
  pub line : IsLine head.line
  pub statements : AreProvedStatements (main_names program head.number) (types_of (variables_of_block program head.number)) body
  pub jumps : AllJumpAround head.number 0 (all_labels head.number body ++ procedure_labels others) (blocks_of program.procedures) (main_outer head.number program.procedures) [] (labels_in body) body
  pub calls : AllCallAmong program called true 0 body
  pub few : inner_bytes program body ≤ 1000000

-- the main procedure, without parameters and without a result, and procedures inside it, of which those of some numbers are called; the
-- numbers of signatures fit what the code says
pub record IsProvedSoFar (program : Y.Program) : Type 0 where
  pub head : Y.BlockHead
  pub body : Y.Stmts
  pub others : List Y.Procedure
  pub called : List ℕ
  pub procedures : program.procedures ≡ record { block = Y.BlockOf head body; parameters = []; result = None } ∷ others
  pub plain : AllPlain program.variables
  pub few : length (table_of program) < 2 ^ 24
  pub block : IsProvedBlock program head body others called
  pub inner : AreInner program head.number (all_labels head.number body ++ procedure_labels others) called others
  pub once : AllOnce called others
