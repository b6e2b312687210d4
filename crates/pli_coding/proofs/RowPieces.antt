-- Short words for the parts of typed trees.
use Rattle.std.proofs.Common.{ℕ, List, [], ◌∷◌, Option, None}
use Rattle.pli_language.specs.Tree as T
use Rattle.pli_typing.specs.TypedTree as Y

abbrev pub variable : Y.StorageClass → (block level index : ℕ) → Y.Variable
variable class block level index = record { class = class; block = block; level = level; index = index }

abbrev pub automatic : (block level index : ℕ) → Y.Variable
automatic block level index = variable Y.AutomaticClass block level index

abbrev pub parameter : (block level index : ℕ) → Y.Variable
parameter block level index = variable Y.ParameterClass block level index

abbrev pub part : (first count : ℕ) → Y.Part
part first count = record { first = first; count = count }

-- all of a variable of one leaf
abbrev pub whole : Y.Variable → Y.Reference
whole v = Y.Referring v Y.NotLocated (part 0 1) Y.NoNumber

abbrev pub bounds : Y.Extent → Y.Extent → Y.Bounds
bounds lower upper = record { lower = lower; upper = upper }

abbrev pub initial : ℕ → T.InitialValue → T.InitialItem
initial repetition value = record { repetition = repetition; value = value }

abbrev pub leaf : Y.LeafType → List Y.Bounds → List T.InitialItem → Y.Leaf
leaf type bounds initial = record { type = type; bounds = bounds; initial = initial }

abbrev pub plain : Y.LeafType → Y.Leaf
plain type = leaf type [] []

abbrev pub member : ℕ → ℕ → Y.Member
member depth dimensions = record { depth = depth; dimensions = dimensions }

abbrev pub declared : Y.StorageClass → List Y.Member → List Y.Leaf → Option Y.ReferMember → List Y.Evaluation → Y.DeclaredVariable
declared class members leaves refer evaluations =
    record { class = class; members = members; leaves = leaves; refer = refer; evaluations = evaluations }

abbrev pub scalar : Y.StorageClass → Y.LeafType → Y.DeclaredVariable
scalar class type = declared class (member 0 0 ∷ []) (plain type ∷ []) None []

abbrev pub head : Y.BlockKind → (number level line : ℕ) → Y.BlockHead
head kind number level line = record { kind = kind; number = number; level = level; line = line }

abbrev pub procedure : Y.Block → List ℕ → Option Y.LeafType → Y.Procedure
procedure block parameters result = record { block = block; parameters = parameters; result = result }

abbrev pub program : List (List Y.DeclaredVariable) → List Y.Procedure → Y.Program
program variables procedures = record { variables = variables; procedures = procedures }
