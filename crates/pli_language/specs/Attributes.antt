-- Which tokens spell which declarations.
use Rattle.std.specs.Prelude.{◌≡◌, ◌≢◌, ℕ, suc, pos, neg_ℤ, nat_le, List, [], ◌∷◌, Option, Some, None, Bool, true, false, slice_range}
use Rattle.pli_language.specs.declared.token.Word.{Word}
use Rattle.pli_language.specs.declared.token.Word.TheVariants as W
use Rattle.pli_language.specs.declared.token.Symbol.TheVariants as S
use Rattle.pli_language.specs.declared.token.Kind.{Kind}
use Rattle.pli_language.specs.declared.token.Kind.TheVariants as K
use Rattle.pli_language.specs.declared.token.Token.{Token}
use Rattle.pli_language.specs.Tokens.{IsTextOf}
use Rattle.pli_language.specs.Spells.{Takes, next_kind, name_at, place_of, SpellsExpr, SpellsCount}
use Rattle.pli_language.specs.declared.expr.Place.{Place}
use Rattle.pli_language.specs.declared.fault.SourceKind.TheVariants.{TooLarge}
use Rattle.pli_language.specs.Marks.{Marks, note_if, expr_marks, first_place}
use Rattle.pli_language.specs.Tree.{Name, Expr, Extent, Bound, StarBound, Upper, Both, Size, StarSize, Given, InitialValue, InitialNumber, InitialText, InitialBit, InitialSkip, InitialNull, InitialEmpty, InitialItem, Attribute, Fixed, Binary, Character, Varying, BitOne, Pointer, Offset, Area, Automatic, Static, Controlled, Based, Initial, Builtin, Aligned, Unaligned, Internal, DeclaredName, DeclareItem}

abbrev pub is_name : Option Kind → Bool
is_name (Some (K.Name word)) = true
is_name _ = false

-- ---- extents and dimensions

-- an expression, and the member that keeps its value, where one stands
pub data SpellsExtent (s : List ℕ) : List Token → Extent → List Token → Type 0 where
  alone : (ts rest : List Token) (e : Expr) → SpellsExpr s ts e rest → next_kind rest ≢ Some (K.Name W.Refer) → SpellsExtent s ts (record { value = e; refer = None }) rest
  referring : (ts mid after inside behind rest : List Token) (t u v w : Token) (e : Expr) (word : Word) → SpellsExpr s ts e mid → Takes mid (K.Name W.Refer) t after → Takes after (K.Symbol S.OpenParenthesis) u inside → Takes inside (K.Name word) v behind → Takes behind (K.Symbol S.CloseParenthesis) w rest → SpellsExtent s ts (record { value = e; refer = Some (record { member = name_at s v word; place = place_of t }) }) rest

pub data SpellsBound (s : List ℕ) : List Token → Bound → List Token → Type 0 where
  star : (ts rest : List Token) (t : Token) → Takes ts (K.Symbol S.Times) t rest → SpellsBound s ts (StarBound (place_of t)) rest
  upper : (ts rest : List Token) (e : Extent) → SpellsExtent s ts e rest → next_kind rest ≢ Some (K.Symbol S.Colon) → SpellsBound s ts (Upper e) rest
  both : (ts mid after rest : List Token) (t : Token) (lower above : Extent) → SpellsExtent s ts lower mid → Takes mid (K.Symbol S.Colon) t after → SpellsExtent s after above rest → SpellsBound s ts (Both lower above) rest

-- one or more, with commas between them
pub data SpellsBounds (s : List ℕ) : List Token → List Bound → List Token → Type 0 where
  one_bound : (ts rest : List Token) (b : Bound) → SpellsBound s ts b rest → next_kind rest ≢ Some (K.Symbol S.Comma) → SpellsBounds s ts (b ∷ []) rest
  further_bounds : (ts mid after rest : List Token) (t : Token) (b : Bound) (bs : List Bound) → SpellsBound s ts b mid → Takes mid (K.Symbol S.Comma) t after → SpellsBounds s after bs rest → SpellsBounds s ts (b ∷ bs) rest

-- bounds in parentheses, where they stand
pub data SpellsDimensions (s : List ℕ) : List Token → List Bound → List Token → Type 0 where
  no_dimension : (ts : List Token) → next_kind ts ≢ Some (K.Symbol S.OpenParenthesis) → SpellsDimensions s ts [] ts
  dimensions : (ts after mid rest : List Token) (t u : Token) (bs : List Bound) → Takes ts (K.Symbol S.OpenParenthesis) t after → SpellsBounds s after bs mid → Takes mid (K.Symbol S.CloseParenthesis) u rest → SpellsDimensions s ts bs rest

-- ---- what stands in parentheses behind an attribute's word, where it does

-- digits, and a scale, which is 0
pub data SpellsPrecision : List Token → Option ℕ → List Token → Type 0 where
  no_precision : (ts : List Token) → next_kind ts ≢ Some (K.Symbol S.OpenParenthesis) → SpellsPrecision ts None ts
  digits : (ts rest : List Token) (n : ℕ) → SpellsCount ts n rest → SpellsPrecision ts (Some n) rest
  digits_and_scale : (ts after mid behind inside rest : List Token) (t u v w x : Token) (n : ℕ) → Takes ts (K.Symbol S.OpenParenthesis) t after → Takes after (K.Number n) u mid → Takes mid (K.Symbol S.Comma) v behind → Takes behind (K.Number 0) w inside → Takes inside (K.Symbol S.CloseParenthesis) x rest → SpellsPrecision ts (Some n) rest

-- a length or an area's size
pub data SpellsSize (s : List ℕ) : List Token → Option Size → List Token → Type 0 where
  no_size : (ts : List Token) → next_kind ts ≢ Some (K.Symbol S.OpenParenthesis) → SpellsSize s ts None ts
  star_size : (ts after mid rest : List Token) (t u v : Token) → Takes ts (K.Symbol S.OpenParenthesis) t after → Takes after (K.Symbol S.Times) u mid → Takes mid (K.Symbol S.CloseParenthesis) v rest → SpellsSize s ts (Some (StarSize (place_of u))) rest
  given_size : (ts after mid rest : List Token) (t u : Token) (e : Extent) → Takes ts (K.Symbol S.OpenParenthesis) t after → SpellsExtent s after e mid → Takes mid (K.Symbol S.CloseParenthesis) u rest → SpellsSize s ts (Some (Given e)) rest

-- an area or a locator
pub data SpellsOwner (s : List ℕ) : List Token → Option Name → List Token → Type 0 where
  no_owner : (ts : List Token) → next_kind ts ≢ Some (K.Symbol S.OpenParenthesis) → SpellsOwner s ts None ts
  owner : (ts after mid rest : List Token) (t u v : Token) (word : Word) → Takes ts (K.Symbol S.OpenParenthesis) t after → Takes after (K.Name word) u mid → Takes mid (K.Symbol S.CloseParenthesis) v rest → SpellsOwner s ts (Some (name_at s u word)) rest

-- BIT is BIT(1)
pub data SpellsBitLength : List Token → List Token → Type 0 where
  no_bit_length : (ts : List Token) → next_kind ts ≢ Some (K.Symbol S.OpenParenthesis) → SpellsBitLength ts ts
  bit_length : (ts rest : List Token) → SpellsCount ts 1 rest → SpellsBitLength ts rest

-- ---- initial values

-- how often a value stands, once where nothing says it
pub data SpellsRepetition : List Token → ℕ → List Token → Type 0 where
  once : (ts : List Token) → next_kind ts ≢ Some (K.Symbol S.OpenParenthesis) → SpellsRepetition ts 1 ts
  repeated : (ts rest : List Token) (n : ℕ) → SpellsCount ts n rest → SpellsRepetition ts n rest

-- the empty parentheses that may stand behind NULL and EMPTY
pub data SpellsNoArguments : List Token → List Token → Type 0 where
  bare : (ts : List Token) → next_kind ts ≢ Some (K.Symbol S.OpenParenthesis) → SpellsNoArguments ts ts
  empty : (ts mid rest : List Token) (t u : Token) → Takes ts (K.Symbol S.OpenParenthesis) t mid → Takes mid (K.Symbol S.CloseParenthesis) u rest → SpellsNoArguments ts rest

pub data SpellsInitialValue (s : List ℕ) : List Token → InitialValue → List Token → Type 0 where
  unsigned : (ts rest : List Token) (t : Token) (n : ℕ) → Takes ts (K.Number n) t rest → SpellsInitialValue s ts (InitialNumber (pos n)) rest
  positive : (ts mid rest : List Token) (t u : Token) (n : ℕ) → Takes ts (K.Symbol S.Plus) t mid → Takes mid (K.Number n) u rest → SpellsInitialValue s ts (InitialNumber (pos n)) rest
  negative : (ts mid rest : List Token) (t u : Token) (n : ℕ) → Takes ts (K.Symbol S.Minus) t mid → Takes mid (K.Number n) u rest → SpellsInitialValue s ts (InitialNumber (neg_ℤ (pos n))) rest
  text : (ts rest : List Token) (t : Token) (v : List ℕ) → Takes ts K.Text t rest → IsTextOf v (slice_range s t.start t.end) → SpellsInitialValue s ts (InitialText v) rest
  bit : (ts rest : List Token) (t : Token) (b : Bool) → Takes ts (K.Bit b) t rest → SpellsInitialValue s ts (InitialBit b) rest
  skipped : (ts rest : List Token) (t : Token) → Takes ts (K.Symbol S.Times) t rest → SpellsInitialValue s ts InitialSkip rest
  null : (ts mid rest : List Token) (t : Token) → Takes ts (K.Name W.Null) t mid → SpellsNoArguments mid rest → SpellsInitialValue s ts InitialNull rest
  empty_area : (ts mid rest : List Token) (t : Token) → Takes ts (K.Name W.Empty) t mid → SpellsNoArguments mid rest → SpellsInitialValue s ts InitialEmpty rest

pub data SpellsInitialItem (s : List ℕ) : List Token → InitialItem → List Token → Type 0 where
  initial_item : (ts mid rest : List Token) (n : ℕ) (v : InitialValue) → SpellsRepetition ts n mid → SpellsInitialValue s mid v rest → SpellsInitialItem s ts (record { repetition = n; value = v }) rest

pub data SpellsInitialItems (s : List ℕ) : List Token → List InitialItem → List Token → Type 0 where
  one_value : (ts rest : List Token) (i : InitialItem) → SpellsInitialItem s ts i rest → next_kind rest ≢ Some (K.Symbol S.Comma) → SpellsInitialItems s ts (i ∷ []) rest
  further_values : (ts mid after rest : List Token) (t : Token) (i : InitialItem) (is : List InitialItem) → SpellsInitialItem s ts i mid → Takes mid (K.Symbol S.Comma) t after → SpellsInitialItems s after is rest → SpellsInitialItems s ts (i ∷ is) rest

-- ---- attributes

-- the attributes of one word
abbrev pub plain_attribute : Word → Option Attribute
plain_attribute W.Varying = Some Varying
plain_attribute W.Pointer = Some Pointer
plain_attribute W.Ptr = Some Pointer
plain_attribute W.Automatic = Some Automatic
plain_attribute W.Static = Some Static
plain_attribute W.Controlled = Some Controlled
plain_attribute W.Builtin = Some Builtin
plain_attribute W.Aligned = Some Aligned
plain_attribute W.Unaligned = Some Unaligned
plain_attribute W.Internal = Some Internal
plain_attribute _ = None

pub data SpellsAttribute (s : List ℕ) : List Token → Attribute → List Token → Type 0 where
  plain : (ts rest : List Token) (t : Token) (word : Word) (a : Attribute) → Takes ts (K.Name word) t rest → plain_attribute word ≡ Some a → SpellsAttribute s ts a rest
  fixed : (ts after rest : List Token) (t : Token) (p : Option ℕ) → Takes ts (K.Name W.Fixed) t after → SpellsPrecision after p rest → SpellsAttribute s ts (Fixed p) rest
  binary : (ts after rest : List Token) (t : Token) (p : Option ℕ) → Takes ts (K.Name W.Binary) t after → SpellsPrecision after p rest → SpellsAttribute s ts (Binary p) rest
  character : (ts after rest : List Token) (t : Token) (n : Option Size) → Takes ts (K.Name W.Character) t after → SpellsSize s after n rest → SpellsAttribute s ts (Character n) rest
  bit : (ts after rest : List Token) (t : Token) → Takes ts (K.Name W.Bit) t after → SpellsBitLength after rest → SpellsAttribute s ts BitOne rest
  offset : (ts after rest : List Token) (t : Token) (area : Option Name) → Takes ts (K.Name W.Offset) t after → SpellsOwner s after area rest → SpellsAttribute s ts (Offset area) rest
  area : (ts after rest : List Token) (t : Token) (n : Option Size) → Takes ts (K.Name W.Area) t after → SpellsSize s after n rest → SpellsAttribute s ts (Area n) rest
  based : (ts after rest : List Token) (t : Token) (locator : Option Name) → Takes ts (K.Name W.Based) t after → SpellsOwner s after locator rest → SpellsAttribute s ts (Based locator) rest
  initial : (ts after mid behind rest : List Token) (t u v : Token) (is : List InitialItem) → Takes ts (K.Name W.Initial) t after → Takes after (K.Symbol S.OpenParenthesis) u mid → SpellsInitialItems s mid is behind → Takes behind (K.Symbol S.CloseParenthesis) v rest → SpellsAttribute s ts (Initial is) rest

-- attributes, up to a token that is no name
pub data SpellsAttributes (s : List ℕ) : List Token → List Attribute → List Token → Type 0 where
  no_attribute : (ts : List Token) → is_name (next_kind ts) ≡ false → SpellsAttributes s ts [] ts
  attribute : (ts mid rest : List Token) (a : Attribute) (others : List Attribute) → SpellsAttribute s ts a mid → SpellsAttributes s mid others rest → SpellsAttributes s ts (a ∷ others) rest

-- ---- items of DECLARE

pub data SpellsDeclaredName (s : List ℕ) : List Token → DeclaredName → List Token → Type 0 where
  declared_name : (ts after rest : List Token) (t : Token) (word : Word) (bs : List Bound) → Takes ts (K.Name word) t after → SpellsDimensions s after bs rest → SpellsDeclaredName s ts (record { name = name_at s t word; dimensions = bs }) rest

pub data SpellsDeclaredNames (s : List ℕ) : List Token → List DeclaredName → List Token → Type 0 where
  one_name : (ts rest : List Token) (d : DeclaredName) → SpellsDeclaredName s ts d rest → next_kind rest ≢ Some (K.Symbol S.Comma) → SpellsDeclaredNames s ts (d ∷ []) rest
  further_names : (ts mid after rest : List Token) (t : Token) (d : DeclaredName) (ds : List DeclaredName) → SpellsDeclaredName s ts d mid → Takes mid (K.Symbol S.Comma) t after → SpellsDeclaredNames s after ds rest → SpellsDeclaredNames s ts (d ∷ ds) rest

pub data SpellsLevel : List Token → Option ℕ → List Token → Type 0 where
  no_level : (ts : List Token) → ((n : ℕ) → next_kind ts ≢ Some (K.Number n)) → SpellsLevel ts None ts
  level : (ts rest : List Token) (t : Token) (n : ℕ) → Takes ts (K.Number n) t rest → SpellsLevel ts (Some n) rest

-- what stands before the attributes of an item: its level, a name, or names in parentheses with their dimensions
pub record ItemFront : Type 0 where
  pub level : Option ℕ
  pub names : List DeclaredName
  pub dimensions : List Bound

pub data SpellsFront (s : List ℕ) : List Token → ItemFront → List Token → Type 0 where
  single : (ts mid rest : List Token) (n : Option ℕ) (d : DeclaredName) → SpellsLevel ts n mid → SpellsDeclaredName s mid d rest → SpellsFront s ts (record { level = n; names = d ∷ []; dimensions = [] }) rest
  factored : (ts mid after inside behind rest : List Token) (t u : Token) (n : Option ℕ) (ds : List DeclaredName) (bs : List Bound) → SpellsLevel ts n mid → Takes mid (K.Symbol S.OpenParenthesis) t after → SpellsDeclaredNames s after ds inside → Takes inside (K.Symbol S.CloseParenthesis) u behind → SpellsDimensions s behind bs rest → SpellsFront s ts (record { level = n; names = ds; dimensions = bs }) rest

pub data SpellsDeclareItem (s : List ℕ) : List Token → DeclareItem → List Token → Type 0 where
  declare_item : (ts mid rest : List Token) (f : ItemFront) (attributes : List Attribute) → SpellsFront s ts f mid → SpellsAttributes s mid attributes rest → SpellsDeclareItem s ts (record { level = f.level; names = f.names; dimensions = f.dimensions; attributes = attributes }) rest

pub data SpellsDeclareItems (s : List ℕ) : List Token → List DeclareItem → List Token → Type 0 where
  one_item : (ts rest : List Token) (d : DeclareItem) → SpellsDeclareItem s ts d rest → next_kind rest ≢ Some (K.Symbol S.Comma) → SpellsDeclareItems s ts (d ∷ []) rest
  further_items : (ts mid after rest : List Token) (t : Token) (d : DeclareItem) (ds : List DeclareItem) → SpellsDeclareItem s ts d mid → Takes mid (K.Symbol S.Comma) t after → SpellsDeclareItems s after ds rest → SpellsDeclareItems s ts (d ∷ ds) rest

-- ---- what the limits say

abbrev pub most_dimensions : ℕ
most_dimensions = 8

abbrev pub extent_marks : Extent → Marks → Marks
extent_marks e m = expr_marks e.value m

abbrev pub bound_marks : Bound → Marks → Marks
bound_marks (StarBound p) m = m
bound_marks (Upper e) m = extent_marks e m
bound_marks (Both lower above) m = extent_marks above (extent_marks lower m)

abbrev pub bound_place : Bound → Place
bound_place (StarBound p) = p
bound_place (Upper e) = first_place e.value
bound_place (Both lower above) = first_place lower.value

-- bounds, before which so many stand
abbrev pub bounds_marks : ℕ → List Bound → Marks → Marks
bounds_marks before [] m = m
bounds_marks before (b ∷ bs) m =
    bounds_marks (suc before) bs (bound_marks b (note_if (nat_le most_dimensions before) (bound_place b) TooLarge m))

abbrev pub size_marks : Option Size → Marks → Marks
size_marks (Some (Given e)) m = extent_marks e m
size_marks _ m = m

abbrev pub attribute_marks : Attribute → Marks → Marks
attribute_marks (Character n) m = size_marks n m
attribute_marks (Area n) m = size_marks n m
attribute_marks _ m = m

abbrev pub attributes_marks : List Attribute → Marks → Marks
attributes_marks [] m = m
attributes_marks (a ∷ others) m = attributes_marks others (attribute_marks a m)

abbrev pub declared_names_marks : List DeclaredName → Marks → Marks
declared_names_marks [] m = m
declared_names_marks (d ∷ ds) m = declared_names_marks ds (bounds_marks 0 d.dimensions m)

abbrev pub front_marks : ItemFront → Marks → Marks
front_marks f m = bounds_marks 0 f.dimensions (declared_names_marks f.names m)

abbrev pub declare_item_marks : DeclareItem → Marks → Marks
declare_item_marks d m =
    attributes_marks d.attributes (bounds_marks 0 d.dimensions (declared_names_marks d.names m))

abbrev pub declare_items_marks : List DeclareItem → Marks → Marks
declare_items_marks [] m = m
declare_items_marks (d ∷ ds) m = declare_items_marks ds (declare_item_marks d m)

-- ---- left out

-- the words of attributes that are left out
abbrev pub is_left_out_attribute : Word → Bool
is_left_out_attribute W.Decimal = true
is_left_out_attribute W.Float = true
is_left_out_attribute W.Picture = true
is_left_out_attribute W.Complex = true
is_left_out_attribute W.Label = true
is_left_out_attribute W.Entry = true
is_left_out_attribute W.File = true
is_left_out_attribute W.External = true
is_left_out_attribute W.Like = true
is_left_out_attribute W.Defined = true
is_left_out_attribute W.Union = true
is_left_out_attribute W.Generic = true
is_left_out_attribute _ = false

-- FIXED and BINARY
abbrev pub has_precision : Word → Bool
has_precision W.Fixed = true
has_precision W.Binary = true
has_precision _ = false

-- an attribute that is left out: by its word, as BIT of another length than 1, or by its scale
pub data LeavesOutAttribute : List Token → Type 0 where
  word : (ts rest : List Token) (t : Token) (word : Word) → Takes ts (K.Name word) t rest → is_left_out_attribute word ≡ true → LeavesOutAttribute ts
  bits : (ts after rest : List Token) (t : Token) (n : ℕ) → Takes ts (K.Name W.Bit) t after → SpellsCount after n rest → n ≢ 1 → LeavesOutAttribute ts
  scale : (ts at after mid behind inside rest : List Token) (t u v w x y : Token) (word : Word) (n q : ℕ) → Takes ts (K.Name word) t at → has_precision word ≡ true → Takes at (K.Symbol S.OpenParenthesis) u after → Takes after (K.Number n) v mid → Takes mid (K.Symbol S.Comma) w behind → Takes behind (K.Number q) x inside → q ≢ 0 → Takes inside (K.Symbol S.CloseParenthesis) y rest → LeavesOutAttribute ts

-- one that is left out stands among attributes; with the marks made before it, and the tokens from it on
pub data LeavesOutAttributes (s : List ℕ) : List Token → Marks → List Token → Marks → Type 0 where
  here : (ts : List Token) (m : Marks) → LeavesOutAttribute ts → LeavesOutAttributes s ts m ts m
  later : (ts mid at : List Token) (m m' : Marks) (a : Attribute) → SpellsAttribute s ts a mid → LeavesOutAttributes s mid (attribute_marks a m) at m' → LeavesOutAttributes s ts m at m'

pub data LeavesOutItems (s : List ℕ) : List Token → Marks → List Token → Marks → Type 0 where
  in_item : (ts mid at : List Token) (m m' : Marks) (f : ItemFront) → SpellsFront s ts f mid → LeavesOutAttributes s mid (front_marks f m) at m' → LeavesOutItems s ts m at m'
  behind_item : (ts mid after at : List Token) (t : Token) (m m' : Marks) (d : DeclareItem) → SpellsDeclareItem s ts d mid → Takes mid (K.Symbol S.Comma) t after → LeavesOutItems s after (declare_item_marks d m) at m' → LeavesOutItems s ts m at m'
