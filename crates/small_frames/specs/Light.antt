-- What the limits on sources say of the weights of each head: of its expressions none is too heavy.
use Rattle.std.specs.Prelude.{ℕ, ◌+◌, ◌*◌, ◌<◌, ◌≤◌, Bool, List, length, Option, false, ⊤}
use Rattle.pli_language.specs.declared.token.Token.{Token}
use Rattle.pli_language.specs.Heads as H
use Rattle.pli_language.specs.Heads.{most_parameters}
use Rattle.pli_language.specs.Marks.{most_arguments}
use Rattle.pli_language.specs.Tokens.{Tokens}
use Rattle.pli_language.specs.Parsing.{Spells}
use Rattle.pli_language.specs.Tree as T
use Rattle.pli_coding.specs.Expressions.{argument_words}
use Rattle.well_formed_trees.specs.Every.{Every}
use Rattle.well_formed_trees.specs.Spelled.{RangedIf, ItemsHave}
use Rattle.small_frames.specs.Weights.{argument_count, weight, reference_weight, heaviest_in, heaviest_of, most_weight}

-- ---- expressions, where functions may be called

abbrev pub most_expression : ℕ
most_expression = most_weight argument_words most_arguments

abbrev pub IsLight : T.Expr → Type 0
IsLight e = weight argument_words e ≤ most_expression

abbrev pub IsLightReference : T.Reference → Type 0
IsLightReference r = reference_weight argument_words r ≤ most_expression

abbrev pub LightIf : Option T.Expr → Type 0
LightIf e = RangedIf IsLight e

abbrev pub LightReferenceIf : Option T.Reference → Type 0
LightReferenceIf r = RangedIf IsLightReference r

-- ---- extents, in which none is called

abbrev pub most_extent : ℕ
most_extent = most_weight 1 most_arguments

abbrev pub LightExtent : T.Extent → Type 0
LightExtent e = weight 1 e.value ≤ most_extent

abbrev pub LightBound : T.Bound → Type 0
LightBound (T.StarBound place) = ⊤
LightBound (T.Upper upper) = LightExtent upper
LightBound (T.Both lower upper) = LightExtent lower × LightExtent upper

abbrev pub LightSize : T.Size → Type 0
LightSize (T.StarSize place) = ⊤
LightSize (T.Given e) = LightExtent e

abbrev pub LightAttribute : T.Attribute → Type 0
LightAttribute (T.Character size) = RangedIf LightSize size
LightAttribute (T.Area size) = RangedIf LightSize size
LightAttribute _ = ⊤

abbrev pub LightName : T.DeclaredName → Type 0
LightName d = Every LightBound d.dimensions

abbrev pub LightItem : T.DeclareItem → Type 0
LightItem d = (Every LightName d.names × Every LightBound d.dimensions) × Every LightAttribute d.attributes

-- ---- heads

abbrev pub LightCounting : T.Counting → Type 0
LightCounting c =
    (IsLightReference c.variable × IsLight c.start) × ((LightIf c.limit × LightIf c.step) × LightIf c.condition)

abbrev pub LightAllocation : T.Allocation → Type 0
LightAllocation a = LightReferenceIf a.area × LightReferenceIf a.locator

abbrev pub LightFreeing : T.Freeing → Type 0
LightFreeing f = IsLightReference f.generation × LightReferenceIf f.area

abbrev pub LightPair : T.EditPair → Type 0
LightPair p = heaviest_of argument_words p.items ≤ most_expression

-- a statement that holds none
abbrev pub LightSimple : T.Stmt → Type 0
LightSimple (T.Assign target source place) = IsLightReference target × IsLight source
LightSimple (T.Call name a place) = argument_words * argument_count a + heaviest_in argument_words a ≤ most_expression
LightSimple (T.Return value place) = LightIf value
LightSimple (T.Allocate allocations place) = Every LightAllocation allocations
LightSimple (T.Free freeings place) = Every LightFreeing freeings
LightSimple (T.Get skip pairs place) = Every LightPair pairs
LightSimple (T.Put skip pairs place) = Every LightPair pairs
LightSimple _ = ⊤

-- a head inside so many blocks, and so many groups, IFs and on-units
abbrev pub HasLight : (blocks units : ℕ) → (returns : Bool) → H.Head → Type 0
HasLight b u r (H.ProcedureFront place parameters options) = (length parameters ≤ most_parameters) × (b < 16)
HasLight b u r (H.Declaring items place) = Every LightItem items
HasLight b u r (H.Simple s) = LightSimple s
HasLight b u r (H.IfThen e place) = IsLight e × (u < 64)
HasLight b u r (H.DoGroup place) = u < 64
HasLight b u r (H.DoWhileGroup e place) = IsLight e × (u < 64)
HasLight b u r (H.DoCountGroup c place) = LightCounting c × (u < 64)
HasLight b u r (H.BeginBlock place) = b < 16
HasLight b u r (H.On on place) = u < 64
HasLight b u r _ = ⊤

-- the law: each head of what is spelled is so
abbrev pub HeadsLight : Type 0
HeadsLight =
    (s : List ℕ) (tokens : List Token) (tree : T.Tree) → Tokens s tokens → Spells s tokens tree
    → ItemsHave HasLight 0 0 false tree.procedures
