-- Assignments, the variables of DO, and the items of GET and PUT.
-- (X3.53-1976, chapter 6, the assignment and DO statements, and chapter 8, edit-directed input and output.)
use Rattle.std.specs.Prelude.{Bool, true, false, not, ◌&&◌, ◌||◌, ◌==◌, List, [], ◌∷◌, length, Option, Some, None, if◌then◌else◌}
use Rattle.std.specs.List.{list_any}
use Rattle.pli_language.specs.declared.expr.Place.{Place}
use Rattle.pli_language.specs.declared.fault.SourceKind.TheVariants.{TypeMismatch}
use Rattle.pli_language.specs.Tree as T
use Rattle.pli_typing.specs.Judging.{Judged, fine, broken, demand, each, ◌>>=◌, ◌>>◌}
use Rattle.pli_typing.specs.TypedTree as Y
use Rattle.pli_typing.specs.Converting.{Designated, Referent, Designates, Gives, GivesUnknown, GivesEmptyArea, GivesNothing, NotKnown, Operand, element_type, scalar_type, is_area, is_aggregate, variable_of, no_reference, operand_value, stored_as, operand_stored}

-- ---- whole aggregates (chapter 9)

-- equal kinds, whatever the lengths of texts
abbrev pub same_type : Y.LeafType → Y.LeafType → Bool
same_type (Y.FixedLeaf p) (Y.FixedLeaf q) = p == q
same_type (Y.CharacterLeaf n) (Y.CharacterLeaf m) = true
same_type (Y.VaryingLeaf n) (Y.VaryingLeaf m) = true
same_type Y.BitLeaf Y.BitLeaf = true
same_type Y.PointerLeaf Y.PointerLeaf = true
same_type (Y.OffsetLeaf a) (Y.OffsetLeaf b) = true
same_type _ _ = false

-- equal kinds of leaves, with equal numbers of dimensions
abbrev pub leaves_match : List Y.Leaf → List Y.Leaf → Bool
leaves_match [] [] = true
leaves_match (a ∷ as') (b ∷ bs) = same_type a.type b.type && (length a.bounds == length b.bounds) && leaves_match as' bs
leaves_match _ _ = false

-- ---- assignments (chapter 6)

abbrev pub nothing_done : Place → Y.Stmt
nothing_done place = Y.Null place.line

abbrev pub assigned_scalar : Place → Y.Reference → Y.LeafType → Operand → Judged Y.Stmt
assigned_scalar place target t source = do
  s ← operand_stored t source
  fine (Y.Assign target s place.line)

abbrev pub area_to_area : Place → Y.Variable → Place → Designated → Judged Y.Stmt
area_to_area place target source_place d =
    if is_area d then fine (Y.AssignArea target (variable_of d.reference) place.line) else broken source_place TypeMismatch (nothing_done place)

-- into an area goes an area, or EMPTY()
abbrev pub assigned_area : Place → Y.Variable → Place → Referent → Judged Y.Stmt
assigned_area place target source_place (Designates d) = area_to_area place target source_place d
assigned_area place target source_place (Gives v) = broken source_place TypeMismatch (nothing_done place)
assigned_area place target source_place GivesUnknown = fine (nothing_done place)
assigned_area place target source_place GivesEmptyArea = fine (Y.EmptyArea target place.line)
assigned_area place target source_place GivesNothing = broken source_place TypeMismatch (nothing_done place)
assigned_area place target source_place NotKnown = fine (nothing_done place)

-- into an array goes a scalar, converted once; into a structure none
abbrev pub assigned_elements : Place → Y.Reference → Option Y.LeafType → Place → Option Y.Value → Judged Y.Stmt
assigned_elements place target t source_place None = fine (nothing_done place)
assigned_elements place target None source_place (Some v) = broken source_place TypeMismatch (nothing_done place)
assigned_elements place target (Some t) source_place (Some v) = do
  s ← stored_as t source_place (Some v)
  fine (Y.AssignElements target s place.line)

abbrev pub assigned_each : Place → Designated → Operand → Judged Y.Stmt
assigned_each place target source = do
  v ← operand_value source
  assigned_elements place target.reference (element_type target) source.place v

abbrev pub assigned_matching : Place → Designated → Designated → Judged Y.Stmt
assigned_matching place target d =
    if leaves_match target.leaves d.leaves then fine (Y.AssignAggregate target.reference d.reference place.line) else broken place TypeMismatch (nothing_done place)

-- into an aggregate goes an aggregate of equal leaves
abbrev pub assigned_aggregate : Place → Designated → Operand → Referent → Judged Y.Stmt
assigned_aggregate place target source (Designates d) = if is_aggregate d then assigned_matching place target d else assigned_each place target source
assigned_aggregate place target source _ = assigned_each place target source

abbrev pub assigned_to : Place → Designated → Option Y.LeafType → Operand → Judged Y.Stmt
assigned_to place target None source = assigned_aggregate place target source source.referent
assigned_to place target (Some (Y.AreaLeaf n)) source = assigned_area place (variable_of target.reference) source.place source.referent
assigned_to place target (Some t) source = assigned_scalar place target.reference t source

-- only a variable is assigned to
abbrev pub assigned_referent : Place → Place → Referent → Operand → Judged Y.Stmt
assigned_referent place target_place (Designates d) source = assigned_to place d (scalar_type d) source
assigned_referent place target_place (Gives v) source = broken target_place TypeMismatch (nothing_done place)
assigned_referent place target_place GivesUnknown source = broken target_place TypeMismatch (nothing_done place)
assigned_referent place target_place GivesEmptyArea source = broken target_place TypeMismatch (nothing_done place)
assigned_referent place target_place GivesNothing source = broken target_place TypeMismatch (nothing_done place)
assigned_referent place target_place NotKnown source = fine (nothing_done place)

abbrev pub assignment : Place → Operand → Operand → Judged Y.Stmt
assignment place target source = assigned_referent place target.place target.referent source

-- ---- computational values (chapter 3, data types)

-- a number, a text or a bit, which each convert to numbers and to texts
abbrev pub computational : Place → Option Y.Value → Judged Y.Value
computational place (Some (Y.NumberValue p n)) = fine (Y.NumberValue p n)
computational place (Some (Y.TextValue t)) = fine (Y.TextValue t)
computational place (Some (Y.BitValue b)) = fine (Y.BitValue b)
computational place (Some v) = broken place TypeMismatch v
computational place None = fine Y.NullValue

abbrev pub computational_operand : Operand → Judged Y.Value
computational_operand o = do
  v ← operand_value o
  computational o.place v

-- ---- the variable of DO (chapter 6)

-- a scalar that can be assigned to, with its kind
pub record Scalar : Type 0 where
  pub reference : Y.Reference
  pub type : Y.LeafType

abbrev pub scalar_if : Place → Y.Reference → Option Y.LeafType → Judged (Option Scalar)
scalar_if place r None = broken place TypeMismatch None
scalar_if place r (Some (Y.AreaLeaf n)) = broken place TypeMismatch None
scalar_if place r (Some t) = fine (Some (record { reference = r; type = t }))

abbrev pub scalar_referent : Place → Referent → Judged (Option Scalar)
scalar_referent place (Designates d) = scalar_if place d.reference (scalar_type d)
scalar_referent place (Gives v) = broken place TypeMismatch None
scalar_referent place GivesUnknown = broken place TypeMismatch None
scalar_referent place GivesEmptyArea = broken place TypeMismatch None
scalar_referent place GivesNothing = broken place TypeMismatch None
scalar_referent place NotKnown = fine None

abbrev pub scalar_operand : Operand → Judged (Option Scalar)
scalar_operand o = scalar_referent o.place o.referent

-- a variable that counts converts to numbers and from them
abbrev pub counter_of : Place → Y.Reference → Y.LeafType → Judged Y.Counter
counter_of place r (Y.FixedLeaf p) = fine (Y.NumberCounter p r)
counter_of place r (Y.CharacterLeaf n) = fine (Y.TextCounter r)
counter_of place r (Y.VaryingLeaf n) = fine (Y.TextCounter r)
counter_of place r _ = broken place TypeMismatch (Y.TextCounter r)

-- ---- GET and PUT (chapter 8)

-- a format list holds an F at some depth
abbrev mutual
  pub format_holds_fixed : T.Format → Bool
  format_holds_fixed (T.FormatList fs) = holds_fixed fs
  format_holds_fixed (T.FixedFormat width) = true
  format_holds_fixed (T.TextFormat width) = false
  format_holds_fixed (T.SpaceFormat n) = false
  format_holds_fixed (T.SkipFormat n) = false
  format_holds_fixed (T.ColumnFormat n) = false

  pub holds_fixed : T.Formats → Bool
  holds_fixed T.NoFormat = false
  holds_fixed (T.FormatThen place repetition f fs) = format_holds_fixed f || holds_fixed fs

-- a field that is read becomes a number or a text, and a bit where no number is read
abbrev pub is_read : Bool → Y.LeafType → Bool
is_read has_fixed (Y.FixedLeaf p) = true
is_read has_fixed (Y.CharacterLeaf n) = true
is_read has_fixed (Y.VaryingLeaf n) = true
is_read has_fixed Y.BitLeaf = not has_fixed
is_read has_fixed _ = false

-- numbers, texts and bits are written
abbrev pub is_written : Y.LeafType → Bool
is_written t = is_read false t

abbrev pub all_pass : (Y.LeafType → Bool) → List Y.Leaf → Bool
all_pass test leaves = not (list_any (λ l. not (test l.type)) leaves)

abbrev pub get_designated : Designated → Y.GetItem
get_designated d = if is_aggregate d then Y.GetAggregate d.reference else Y.GetScalar d.reference

abbrev pub get_referent : Bool → Place → Referent → Judged Y.GetItem
get_referent has_fixed place (Designates d) = do
  demand (all_pass (is_read has_fixed) d.leaves) place TypeMismatch
  fine (get_designated d)
get_referent has_fixed place NotKnown = fine (Y.GetScalar no_reference)
get_referent has_fixed place _ = broken place TypeMismatch (Y.GetScalar no_reference)

abbrev pub get_item : Bool → Operand → Judged Y.GetItem
get_item has_fixed o = get_referent has_fixed o.place o.referent

abbrev pub put_value : Place → Option Y.Value → Judged Y.PutItem
put_value place v = do
  w ← computational place v
  fine (Y.PutValue w)

abbrev pub put_scalar : Operand → Judged Y.PutItem
put_scalar o = do
  v ← operand_value o
  put_value o.place v

abbrev pub put_aggregate : Place → Designated → Judged Y.PutItem
put_aggregate place d = do
  demand (all_pass is_written d.leaves) place TypeMismatch
  fine (Y.PutAggregate d.reference)

abbrev pub put_referent : Operand → Referent → Judged Y.PutItem
put_referent o (Designates d) = if is_aggregate d then put_aggregate o.place d else put_scalar o
put_referent o _ = put_scalar o

abbrev pub put_item : Operand → Judged Y.PutItem
put_item o = put_referent o o.referent

abbrev pub get_pair : T.Formats → List Operand → Judged Y.GetPair
get_pair formats os = do
  items ← each (get_item (holds_fixed formats)) os
  fine (record { items = items; formats = formats })

abbrev pub put_pair : T.Formats → List Operand → Judged Y.PutPair
put_pair formats os = do
  items ← each put_item os
  fine (record { items = items; formats = formats })
