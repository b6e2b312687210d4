-- Trees for worked rows: each token at its line and column.
use Rattle.std.specs.Prelude.{◌≡◌, ℕ, List, [], ◌∷◌, ◌++◌, map, Option, Some, None}
use Rattle.pli_language.specs.declared.expr.Place.{Place}
use Rattle.pli_language.specs.declared.token.Word.{Word}
use Rattle.pli_language.specs.declared.token.Word.TheVariants as W
use Rattle.pli_language.specs.declared.fault.SourceFault.{SourceFault}
use Rattle.pli_language.specs.declared.fault.SourceKind.{SourceKind}
use Rattle.pli_language.specs.Tree.{Name, Expr, Reference, Plain, Last, Absent, Exprs, NoExpr, ExprThen, Bound, Extent, InitialValue, InitialItem, Attribute, DeclaredName, DeclareItem, Allocation, Freeing, Formats, EditPair, Skip, ProcedureOption, Main, Stmt, DoCount, Item, Procedure, Items, NoItem, ItemThen, Tree}
use Rattle.pli_language.specs.Refusals.{fault, least}
use Rattle.pli_typing.specs.Resolving.{typing_faults}

abbrev pub at : ℕ → ℕ → Place
at line column = record { line = line; column = column }

abbrev pub spelled : Word → List ℕ → Place → Name
spelled word letters place = record { letters = letters; word = word; place = place }

abbrev pub name : List ℕ → Place → Name
name = spelled W.Other

-- the names of built-ins
abbrev pub abs_at : Place → Name
abs_at = spelled W.Abs (65 ∷ 66 ∷ 83 ∷ [])

abbrev pub sign_at : Place → Name
sign_at = spelled W.Sign (83 ∷ 73 ∷ 71 ∷ 78 ∷ [])

abbrev pub max_at : Place → Name
max_at = spelled W.Max (77 ∷ 65 ∷ 88 ∷ [])

abbrev pub min_at : Place → Name
min_at = spelled W.Min (77 ∷ 73 ∷ 78 ∷ [])

abbrev pub mod_at : Place → Name
mod_at = spelled W.Mod (77 ∷ 79 ∷ 68 ∷ [])

abbrev pub divide_at : Place → Name
divide_at = spelled W.Divide (68 ∷ 73 ∷ 86 ∷ 73 ∷ 68 ∷ 69 ∷ [])

abbrev pub length_at : Place → Name
length_at = spelled W.Length (76 ∷ 69 ∷ 78 ∷ 71 ∷ 84 ∷ 72 ∷ [])

abbrev pub substr_at : Place → Name
substr_at = spelled W.Substr (83 ∷ 85 ∷ 66 ∷ 83 ∷ 84 ∷ 82 ∷ [])

abbrev pub index_at : Place → Name
index_at = spelled W.Index (73 ∷ 78 ∷ 68 ∷ 69 ∷ 88 ∷ [])

abbrev pub verify_at : Place → Name
verify_at = spelled W.Verify (86 ∷ 69 ∷ 82 ∷ 73 ∷ 70 ∷ 89 ∷ [])

abbrev pub lbound_at : Place → Name
lbound_at = spelled W.Lbound (76 ∷ 66 ∷ 79 ∷ 85 ∷ 78 ∷ 68 ∷ [])

abbrev pub hbound_at : Place → Name
hbound_at = spelled W.Hbound (72 ∷ 66 ∷ 79 ∷ 85 ∷ 78 ∷ 68 ∷ [])

abbrev pub dim_at : Place → Name
dim_at = spelled W.Dim (68 ∷ 73 ∷ 77 ∷ [])

abbrev pub allocation_at : Place → Name
allocation_at = spelled W.Allocation (65 ∷ 76 ∷ 76 ∷ 79 ∷ 67 ∷ 65 ∷ 84 ∷ 73 ∷ 79 ∷ 78 ∷ [])

abbrev pub addr_at : Place → Name
addr_at = spelled W.Addr (65 ∷ 68 ∷ 68 ∷ 82 ∷ [])

abbrev pub null_at : Place → Name
null_at = spelled W.Null (78 ∷ 85 ∷ 76 ∷ 76 ∷ [])

abbrev pub empty_at : Place → Name
empty_at = spelled W.Empty (69 ∷ 77 ∷ 80 ∷ 84 ∷ 89 ∷ [])

abbrev pub pointer_at : Place → Name
pointer_at = spelled W.Pointer (80 ∷ 79 ∷ 73 ∷ 78 ∷ 84 ∷ 69 ∷ 82 ∷ [])

abbrev pub offset_at : Place → Name
offset_at = spelled W.Offset (79 ∷ 70 ∷ 70 ∷ 83 ∷ 69 ∷ 84 ∷ [])

abbrev pub oncode_at : Place → Name
oncode_at = spelled W.Oncode (79 ∷ 78 ∷ 67 ∷ 79 ∷ 68 ∷ 69 ∷ [])

-- a short form that is no built-in's name
abbrev pub ptr_at : Place → Name
ptr_at = spelled W.Ptr (80 ∷ 84 ∷ 82 ∷ [])

-- a name alone as a reference
abbrev pub plain : Name → Reference
plain n = Plain (Last n Absent)

abbrev pub extent : Expr → Extent
extent e = record { value = e; refer = None }

abbrev pub unsubscripted : Name → DeclaredName
unsubscripted n = record { name = n; dimensions = [] }

abbrev pub dimensioned : Name → List Bound → DeclaredName
dimensioned n bounds = record { name = n; dimensions = bounds }

-- an extent that a member keeps, with the place of REFER
abbrev pub kept_extent : Expr → Name → Place → Extent
kept_extent e member place = record { value = e; refer = Some (record { member = member; place = place }) }

abbrev pub starting : ℕ → InitialValue → InitialItem
starting repetition value = record { repetition = repetition; value = value }

abbrev pub declared : Option ℕ → List DeclaredName → List Bound → List Attribute → DeclareItem
declared level names dimensions attributes = record { level = level; names = names; dimensions = dimensions; attributes = attributes }

abbrev pub exprs : List Expr → Exprs
exprs [] = NoExpr
exprs (e ∷ es) = ExprThen e (exprs es)

abbrev pub items : List Item → Items
items [] = NoItem
items (i ∷ is) = ItemThen i (items is)

abbrev pub procedure : List Name → Place → List Name → List ProcedureOption → List Item → Item
procedure labels place parameters options body =
    Procedure (record { labels = labels; place = place; parameters = parameters; options = options }) (items body)

abbrev pub counted : Reference → Expr → Option Expr → Option Expr → Option Expr → Items → Place → Stmt
counted variable start limit step condition body place =
    DoCount (record { variable = variable; start = start; limit = limit; step = step; condition = condition }) body place

abbrev pub allocating : Name → Option Reference → Option Reference → Allocation
allocating variable area locator = record { variable = variable; area = area; locator = locator }

abbrev pub freeing : Reference → Option Reference → Freeing
freeing generation area = record { generation = generation; area = area }

abbrev pub skipping : ℕ → Place → Option Skip
skipping number place = Some (record { number = number; place = place })

abbrev pub edited : List Expr → Formats → Place → EditPair
edited es formats place = record { items = exprs es; formats = formats; place = place }

-- T: PROC OPTIONS(MAIN); on the first line, and then these items
abbrev pub program : List Item → List Item → Tree
program declarations rest =
    record { procedures = items (procedure (name (84 ∷ []) (at 1 1) ∷ []) (at 1 4) [] (Main ∷ []) (declarations ++ rest) ∷ []) }

-- what refuses it
unfoldable pub refusal : Tree → Option SourceFault
refusal tree = least (typing_faults tree)

-- items that stand on the third line behind those of a program, and what is said of them
pub record Row : Type 0 where
  pub rest : List Item
  pub said : Option SourceFault

abbrev pub row : List Item → Option SourceFault → Row
row rest said = record { rest = rest; said = said }

abbrev pub accepted : Option SourceFault
accepted = None

abbrev pub refused : ℕ → SourceKind → Option SourceFault
refused column kind = Some (fault (at 3 column) kind)

-- typing refuses the programs of these rows as they say
abbrev pub AsSaid : (List Item → Tree) → List Row → Type 0
AsSaid whole rows = map (λ r. refusal (whole r.rest)) rows ≡ map (λ r. r.said) rows
