-- The pure tree of a tree that a program holds: the same, without its boxes.
use Rattle.std.specs.Prelude.{Option, Some, None, map}
use Rattle.pli_language.specs.declared.expr.Name.{Name as NameHeld}
use Rattle.pli_language.specs.declared.expr.Expr.{Expr as ExprHeld}
use Rattle.pli_language.specs.declared.expr.Expr as E
use Rattle.pli_language.specs.declared.expr.Reference.{Reference as ReferenceHeld}
use Rattle.pli_language.specs.declared.expr.Reference as R
use Rattle.pli_language.specs.declared.expr.Qualified.{Qualified as QualifiedHeld}
use Rattle.pli_language.specs.declared.expr.Qualified as Q
use Rattle.pli_language.specs.declared.expr.Arguments.{Arguments as ArgumentsHeld}
use Rattle.pli_language.specs.declared.expr.Arguments as A
use Rattle.pli_language.specs.declared.expr.Exprs.{Exprs as ExprsHeld}
use Rattle.pli_language.specs.declared.expr.Exprs as L
use Rattle.pli_language.specs.Tree.{Name, Expr, Number, Text, Bit, Parenthesized, Prefix, Infix, Refers, Reference, Plain, Located, Qualified, Last, Of, Arguments, Absent, Listed, Exprs, NoExpr, ExprThen}
use Rattle.pli_language.specs.declared.declaration.Refer.{Refer as ReferHeld}
use Rattle.pli_language.specs.declared.declaration.Extent.{Extent as ExtentHeld}
use Rattle.pli_language.specs.declared.declaration.Bound.{Bound as BoundHeld}
use Rattle.pli_language.specs.declared.declaration.Bound.TheVariants as B
use Rattle.pli_language.specs.declared.declaration.Size.{Size as SizeHeld}
use Rattle.pli_language.specs.declared.declaration.Size.TheVariants as Z
use Rattle.pli_language.specs.declared.declaration.InitialValue.{InitialValue as InitialValueHeld}
use Rattle.pli_language.specs.declared.declaration.InitialValue.TheVariants as V
use Rattle.pli_language.specs.declared.declaration.InitialItem.{InitialItem as InitialItemHeld}
use Rattle.pli_language.specs.declared.declaration.Attribute.{Attribute as AttributeHeld}
use Rattle.pli_language.specs.declared.declaration.Attribute.TheVariants as T
use Rattle.pli_language.specs.declared.declaration.DeclaredName.{DeclaredName as DeclaredNameHeld}
use Rattle.pli_language.specs.declared.declaration.DeclareItem.{DeclareItem as DeclareItemHeld}
use Rattle.pli_language.specs.declared.declaration.Allocation.{Allocation as AllocationHeld}
use Rattle.pli_language.specs.declared.declaration.Freeing.{Freeing as FreeingHeld}
use Rattle.pli_language.specs.declared.stmt.Format.{Format as FormatHeld}
use Rattle.pli_language.specs.declared.stmt.Format as F
use Rattle.pli_language.specs.declared.stmt.Formats.{Formats as FormatsHeld}
use Rattle.pli_language.specs.declared.stmt.Formats as G
use Rattle.pli_language.specs.declared.stmt.EditPair.{EditPair as EditPairHeld}
use Rattle.pli_language.specs.declared.stmt.Skip.{Skip as SkipHeld}
use Rattle.pli_language.specs.declared.stmt.ProcedureOption.{ProcedureOption as ProcedureOptionHeld}
use Rattle.pli_language.specs.declared.stmt.ProcedureOption.TheVariants as O
use Rattle.pli_language.specs.declared.stmt.ProcedureHead.{ProcedureHead as ProcedureHeadHeld}
use Rattle.pli_language.specs.declared.stmt.Counting.{Counting as CountingHeld}
use Rattle.pli_language.specs.declared.stmt.Stmt.{Stmt as StmtHeld}
use Rattle.pli_language.specs.declared.stmt.Stmt as S
use Rattle.pli_language.specs.declared.stmt.Item.{Item as ItemHeld}
use Rattle.pli_language.specs.declared.stmt.Item as I
use Rattle.pli_language.specs.declared.stmt.Items.{Items as ItemsHeld}
use Rattle.pli_language.specs.declared.stmt.Items as J
use Rattle.pli_language.specs.declared.stmt.Tree.{Tree as TreeHeld}
use Rattle.pli_language.specs.Tree.{Refer, Extent, Bound, StarBound, Upper, Both, Size, StarSize, Given, InitialValue, InitialNumber, InitialText, InitialBit, InitialSkip, InitialNull, InitialEmpty, InitialItem, Attribute, Fixed, Binary, Character, Varying, BitOne, Pointer, Offset, Area, Automatic, Static, Controlled, Based, Initial, Builtin, Aligned, Unaligned, Internal, DeclaredName, DeclareItem, Allocation, Freeing}
use Rattle.pli_language.specs.Tree.{Format, FormatList, FixedFormat, TextFormat, SpaceFormat, SkipFormat, ColumnFormat, Formats, NoFormat, FormatThen, EditPair, Skip, ProcedureOption, Main, Recursive, Returns, ProcedureHead, Counting, Stmt, Null, Assign, If, IfElse, Do, DoWhile, DoCount, Begin, OnSystem, OnUnit, Call, Return, Goto, Stop, Signal, Revert, Allocate, Free, Get, Put, Item, Procedure, Declare, Statement, EndLabels, Items, NoItem, ItemThen, Tree}

abbrev pub name_of : NameHeld → Name
name_of n = record { letters = n.letters.items; word = n.word; place = n.place }

unfoldable mutual
  pub expr_of : ExprHeld → Expr
  expr_of (E.Number v p) = Number v p
  expr_of (E.Text v p) = Text v.items p
  expr_of (E.Bit v p) = Bit v p
  expr_of (E.Parenthesized' a e p) = Parenthesized (expr_of e) p
  expr_of (E.Prefix' op a e p) = Prefix op (expr_of e) p
  expr_of (E.Infix' op a l b r) = Infix op (expr_of l) (expr_of r)
  expr_of (E.Refers r) = Refers (reference_of r)

  pub reference_of : ReferenceHeld → Reference
  reference_of (R.Plain q) = Plain (qualified_of q)
  reference_of (R.Located' a r q) = Located (reference_of r) (qualified_of q)

  pub qualified_of : QualifiedHeld → Qualified
  qualified_of (Q.Last n a) = Last (name_of n) (arguments_of a)
  qualified_of (Q.Of' n a p q) = Of (name_of n) (arguments_of a) (qualified_of q)

  pub arguments_of : ArgumentsHeld → Arguments
  arguments_of A.Absent = Absent
  arguments_of (A.Listed es) = Listed (exprs_of es)

  pub exprs_of : ExprsHeld → Exprs
  exprs_of L.End = NoExpr
  exprs_of (L.More' a e b es) = ExprThen (expr_of e) (exprs_of es)

-- ---- declarations

abbrev pub option_of : {X Y : Type 0} → (X → Y) → Option X → Option Y
option_of f None = None
option_of f (Some x) = Some (f x)

abbrev pub refer_of : ReferHeld → Refer
refer_of r = record { member = name_of r.member; place = r.place }

abbrev pub extent_of : ExtentHeld → Extent
extent_of e = record { value = expr_of e.value; refer = option_of refer_of e.refer }

abbrev pub bound_of : BoundHeld → Bound
bound_of (B.Star p) = StarBound p
bound_of (B.Upper e) = Upper (extent_of e)
bound_of (B.Both l u) = Both (extent_of l) (extent_of u)

abbrev pub size_of : SizeHeld → Size
size_of (Z.Star p) = StarSize p
size_of (Z.Given e) = Given (extent_of e)

abbrev pub initial_value_of : InitialValueHeld → InitialValue
initial_value_of (V.Number z) = InitialNumber z
initial_value_of (V.Text t) = InitialText t.items
initial_value_of (V.Bit b) = InitialBit b
initial_value_of V.Skip = InitialSkip
initial_value_of V.Null = InitialNull
initial_value_of V.Empty = InitialEmpty

abbrev pub initial_item_of : InitialItemHeld → InitialItem
initial_item_of i = record { repetition = i.repetition; value = initial_value_of i.value }

abbrev pub attribute_of : AttributeHeld → Attribute
attribute_of (T.Fixed p) = Fixed p
attribute_of (T.Binary p) = Binary p
attribute_of (T.Character s) = Character (option_of size_of s)
attribute_of T.Varying = Varying
attribute_of T.Bit = BitOne
attribute_of T.Pointer = Pointer
attribute_of (T.Offset a) = Offset (option_of name_of a)
attribute_of (T.Area s) = Area (option_of size_of s)
attribute_of T.Automatic = Automatic
attribute_of T.Static = Static
attribute_of T.Controlled = Controlled
attribute_of (T.Based l) = Based (option_of name_of l)
attribute_of (T.Initial is) = Initial (map initial_item_of is.items)
attribute_of T.Builtin = Builtin
attribute_of T.Aligned = Aligned
attribute_of T.Unaligned = Unaligned
attribute_of T.Internal = Internal

abbrev pub declared_name_of : DeclaredNameHeld → DeclaredName
declared_name_of d = record { name = name_of d.name; dimensions = map bound_of d.dimensions.items }

abbrev pub declare_item_of : DeclareItemHeld → DeclareItem
declare_item_of d = record {
  level = d.level;
  names = map declared_name_of d.names.items;
  dimensions = map bound_of d.dimensions.items;
  attributes = map attribute_of d.attributes.items;
}

abbrev pub allocation_of : AllocationHeld → Allocation
allocation_of a = record {
  variable = name_of a.variable;
  area = option_of reference_of a.area;
  locator = option_of reference_of a.locator;
}

abbrev pub freeing_of : FreeingHeld → Freeing
freeing_of f = record { generation = reference_of f.generation; area = option_of reference_of f.area }

-- ---- statements

unfoldable mutual
  pub format_of : FormatHeld → Format
  format_of (F.List' a fs) = FormatList (formats_of fs)
  format_of (F.Fixed w) = FixedFormat w
  format_of (F.Text w) = TextFormat w
  format_of (F.Space n) = SpaceFormat n
  format_of (F.Skip n) = SkipFormat n
  format_of (F.Column n) = ColumnFormat n

  pub formats_of : FormatsHeld → Formats
  formats_of G.End = NoFormat
  formats_of (G.More' p n f a fs) = FormatThen p n (format_of f) (formats_of fs)

abbrev pub edit_pair_of : EditPairHeld → EditPair
edit_pair_of p = record { items = exprs_of p.items; formats = formats_of p.formats; place = p.place }

abbrev pub skip_of : SkipHeld → Skip
skip_of s = record { number = s.number; place = s.place }

abbrev pub procedure_option_of : ProcedureOptionHeld → ProcedureOption
procedure_option_of O.Main = Main
procedure_option_of O.Recursive = Recursive
procedure_option_of (O.Returns attributes) = Returns (map attribute_of attributes.items)

abbrev pub procedure_head_of : ProcedureHeadHeld → ProcedureHead
procedure_head_of h = record {
  labels = map name_of h.labels.items;
  place = h.place;
  parameters = map name_of h.parameters.items;
  options = map procedure_option_of h.options.items;
}

abbrev pub counting_of : CountingHeld → Counting
counting_of c = record {
  variable = reference_of c.variable;
  start = expr_of c.start;
  limit = option_of expr_of c.limit;
  step = option_of expr_of c.step;
  condition = option_of expr_of c.condition;
}

unfoldable mutual
  pub stmt_of : StmtHeld → Stmt
  stmt_of (S.Null p) = Null p
  stmt_of (S.Assign r e p) = Assign (reference_of r) (expr_of e) p
  stmt_of (S.If' e a u p) = If (expr_of e) (stmt_of u) p
  stmt_of (S.IfElse' e a u b o p) = IfElse (expr_of e) (stmt_of u) (stmt_of o) p
  stmt_of (S.Do b p) = Do (items_of b) p
  stmt_of (S.DoWhile e b p) = DoWhile (expr_of e) (items_of b) p
  stmt_of (S.DoCount c b p) = DoCount (counting_of c) (items_of b) p
  stmt_of (S.Begin b p) = Begin (items_of b) p
  stmt_of (S.OnSystem c p) = OnSystem c p
  stmt_of (S.OnUnit' c a u p) = OnUnit c (stmt_of u) p
  stmt_of (S.Call n a p) = Call (name_of n) (arguments_of a) p
  stmt_of (S.Return e p) = Return (option_of expr_of e) p
  stmt_of (S.Goto n p) = Goto (name_of n) p
  stmt_of (S.Stop p) = Stop p
  stmt_of (S.Signal c p) = Signal c p
  stmt_of (S.Revert c p) = Revert c p
  stmt_of (S.Allocate made p) = Allocate (map allocation_of made.items) p
  stmt_of (S.Free fs p) = Free (map freeing_of fs.items) p
  stmt_of (S.Get n ps p) = Get (option_of skip_of n) (map edit_pair_of ps.items) p
  stmt_of (S.Put n ps p) = Put (option_of skip_of n) (map edit_pair_of ps.items) p

  pub item_of : ItemHeld → Item
  item_of (I.Procedure h b) = Procedure (procedure_head_of h) (items_of b)
  item_of (I.Declare ds p) = Declare (map declare_item_of ds.items) p
  item_of (I.Statement ls s) = Statement (map name_of ls.items) (stmt_of s)
  item_of (I.EndLabels ls p) = EndLabels (map name_of ls.items) p

  pub items_of : ItemsHeld → Items
  items_of J.End = NoItem
  items_of (J.More' a i b is) = ItemThen (item_of i) (items_of is)

abbrev pub tree_of : TreeHeld → Tree
tree_of t = record { procedures = items_of t.procedures }
