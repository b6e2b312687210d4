-- Short words for statements and expressions of typed trees.
use Rattle.std.proofs.Common.{ℕ, pos, List, [], ◌∷◌, map, None}
use Rattle.pli_language.specs.Tree as T
use Rattle.pli_typing.specs.TypedTree as Y
use Rattle.coding_runs.proofs.RowPieces.{place, whole, part, put_pair, get_pair, head, bounds}

abbrev pub n : ℕ → Y.Number
n value = Y.NumberConstant value

abbrev pub minus : Y.Number → Y.Number
minus x = Y.Signed Y.Negative x

abbrev pub text : List ℕ → Y.Text
text bytes = Y.TextConstant bytes

abbrev pub num : Y.Variable → Y.Number
num v = Y.NumberIn (whole v)

abbrev pub txt : Y.Variable → Y.Text
txt v = Y.TextIn (whole v)

abbrev pub bit : Y.Variable → Y.Bit
bit v = Y.BitIn (whole v)

abbrev pub ptr : Y.Variable → Y.Pointer
ptr v = Y.PointerIn (whole v)

abbrev pub numbers : List Y.Number → Y.Numbers
numbers [] = Y.NoNumber
numbers (x ∷ xs) = Y.NumberThen x (numbers xs)

-- a leaf of a variable, with these subscripts
abbrev pub at : Y.Variable → (leaf : ℕ) → List Y.Number → Y.Reference
at v leaf subscripts = Y.Referring v Y.NotLocated (part leaf 1) (numbers subscripts)

-- all leaves of a variable, with these subscripts
abbrev pub all : Y.Variable → (leaves : ℕ) → List Y.Number → Y.Reference
all v leaves subscripts = Y.Referring v Y.NotLocated (part 0 leaves) (numbers subscripts)

abbrev pub at_pointer : Y.Pointer → Y.Variable → (leaf : ℕ) → List Y.Number → Y.Reference
at_pointer p v leaf subscripts = Y.Referring v (Y.LocatedBy p) (part leaf 1) (numbers subscripts)

abbrev pub const : ℕ → Y.Extent
const z = Y.ConstantExtent (pos z)

abbrev pub up_to : ℕ → Y.Bounds
up_to z = bounds (const 1) (const z)

-- ---- statements, all of one line

abbrev pub line : ℕ
line = 3

abbrev pub list : List Y.Stmt → Y.Stmts
list [] = Y.EndOfList []
list (s ∷ ss) = Y.StmtThen [] s (list ss)

abbrev pub set : Y.Reference → (precision : ℕ) → Y.Number → Y.Stmt
set target precision x = Y.Assign target (Y.StoredNumber precision x) line

abbrev pub set_text : Y.Reference → Y.Text → Y.Stmt
set_text target x = Y.Assign target (Y.StoredText x) line

abbrev pub set_bit : Y.Reference → Y.Bit → Y.Stmt
set_bit target x = Y.Assign target (Y.StoredBit x) line

abbrev pub set_pointer : Y.Reference → Y.Pointer → Y.Stmt
set_pointer target x = Y.Assign target (Y.StoredPointer x) line

abbrev pub format : T.Format → T.Formats
format f = T.FormatThen place 1 f T.NoFormat

abbrev pub format_then : T.Format → T.Formats → T.Formats
format_then f rest = T.FormatThen place 1 f rest

abbrev pub fixed : ℕ → T.Formats
fixed width = format (T.FixedFormat width)

abbrev pub any : T.Formats
any = format (T.TextFormat None)

abbrev pub put_with : List Y.PutItem → T.Formats → Y.Stmt
put_with items formats = Y.Put None (put_pair items formats ∷ []) line

abbrev pub number_item : Y.Number → Y.PutItem
number_item x = Y.PutValue (Y.NumberValue 31 x)

abbrev pub text_item : Y.Text → Y.PutItem
text_item x = Y.PutValue (Y.TextValue x)

abbrev pub bit_item : Y.Bit → Y.PutItem
bit_item x = Y.PutValue (Y.BitValue x)

abbrev pub put_numbers : List Y.Number → Y.Stmt
put_numbers xs = put_with (map number_item xs) (fixed 12)

abbrev pub put_texts : List Y.Text → Y.Stmt
put_texts xs = put_with (map text_item xs) any

abbrev pub get_with : List Y.GetItem → T.Formats → Y.Stmt
get_with items formats = Y.Get None (get_pair items formats ∷ []) line

abbrev pub simple_unit : (block level : ℕ) → Y.Stmt → Y.Block
simple_unit block level s = Y.BlockOf (head Y.SimpleUnit block level line) (list (s ∷ []))

abbrev pub arguments : List Y.Argument → Y.Arguments
arguments [] = Y.NoArgument
arguments (a ∷ as') = Y.ArgumentThen a (arguments as')

abbrev pub call : (procedure level : ℕ) → List Y.Argument → Y.Call
call procedure level as' = Y.Calling procedure level (arguments as')

abbrev pub do_call : (procedure level : ℕ) → List Y.Argument → Y.Stmt
do_call procedure level as' = Y.CallProcedure (call procedure level as') line
