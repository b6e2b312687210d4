-- Where the elements of variables are: a name and a signature's number, the leaf that lives there, and the element at
-- subscripts. What is AUTOMATIC or STATIC and of constant size is reached without a service.
use Rattle.std.specs.Prelude.{ℕ, zero, suc, ◌+◌, ◌*◌, ◌^◌, ◌-◌, ℤ, pos, negsuc, neg_ℤ, ◌+ℤ◌, ◌-ℤ◌, Bool, true, false}
use Rattle.std.specs.Prelude.{not, ◌&&◌, ◌||◌, ◌==◌, nat_le, List, [], ◌∷◌, ◌++◌, length, take, Option, Some, None}
use Rattle.std.specs.Prelude.{is_some, slice_get, unwrap_or, if◌then◌else◌}
use Rattle.std.specs.List.{list_all}
use Rattle.rv_meaning.specs.declared.instr.Instr.TheVariants as I
use Rattle.rv_meaning.specs.declared.instr.LoadKind.TheVariants as Load
use Rattle.rv_meaning.specs.declared.instr.StoreKind.TheVariants as Store
use Rattle.rv_meaning.specs.declared.instr.Register.{Register}
use Rattle.rv_meaning.specs.declared.instr.RegisterOp.TheVariants as Op
use Rattle.rv_meaning.specs.declared.instr.ImmediateOp.TheVariants as Imm
use Rattle.rv_meaning.specs.declared.instr.ShiftOp.TheVariants as Shift
use Rattle.rv_meaning.specs.declared.instr.BranchTest.TheVariants as Test
use Rattle.pli_typing.specs.Signatures.{leaf_bytes, rounded_up, leaves_size}
use Rattle.pli_typing.specs.TypedTree as Y
use Rattle.pli_meaning.specs.Codes.{subscript_code}
use Rattle.pli_meaning.specs.Contents.{same_int}
use Rattle.pli_meaning.specs.DeclaredShapes.{kind_of, shape_of}
use Rattle.pli_coding.specs.Registers.{frame_register, a0, a1, a2, a3, a4, u0, u1, u2, u3, u4}
use Rattle.pli_coding.specs.Assembly.{Datum, NumberWord, StaticStorage, DataPlace, BaseIn, OffsetOf, Code}
use Rattle.pli_coding.specs.Instructions.{immediate, shift, registers, add, subtract, move, small, constant, number}
use Rattle.pli_coding.specs.Instructions.{displaced, plus, load_word, store_word, skip_where, service, tested_service}
use Rattle.pli_coding.specs.Instructions.{status_tested, error_raised}
use Rattle.pli_coding.specs.Frames.{own_offset, buffer, buffer_size, buffer_lower, buffer_upper, display, list_offset}
use Rattle.pli_coding.specs.Frames.{list_place, argument_at, name_bytes, is_constant, is_constant_type, are_constant}
use Rattle.pli_coding.specs.Frames.{has_constant_size, constant_size, parameters_of_block, automatic_place, words_place}
use Rattle.pli_coding.specs.SignatureTable.{signature_of, is_open, number_in_table}
use Rattle.pli_coding.specs.Environments.{Environment, declaration_of, Taken, with_words, with_number, fetch}

-- ---- frames

-- code that finds the frame at a level, and the register that then has its address
abbrev pub frame_found : Environment → (level : ℕ) → Register → Code
frame_found e level r = if level == e.level then [] else load_word r frame_register (display level)

abbrev pub frame_in : Environment → (level : ℕ) → Register → Register
frame_in e level r = if level == e.level then frame_register else r

-- the offset of a place of a frame
abbrev pub frame_offset : Environment → (level : ℕ) → Register → (place : ℤ) → Code
frame_offset e level r place = frame_found e level r ++ (load_word r (frame_in e level r) own_offset ++ plus r r place)

-- that of a place of the running frame
abbrev pub own_place : Environment → Register → (place : ℤ) → Code
own_place e r place = frame_offset e e.level r place

-- ---- names, and numbers of signatures

-- where a name stands: in the frame at a level, so far into the list of arguments that this frame has, in static data,
-- or so many bytes behind the place of a datum
abbrev pub place_behind : ℕ → ℤ → ℤ
place_behind n z = z +ℤ pos n

pub data NamePlace : Type 0 where
  FrameName : (level : ℕ) → (place : ℤ) → NamePlace
  ListName : (level : ℕ) → (place : ℤ) → NamePlace
  DataName : Datum → NamePlace
  NameInData : Datum → (place : ℕ) → NamePlace

-- a constant, a word of a frame, of its list of arguments, or of static data
pub data NumberPlace : Type 0 where
  KnownNumber : ℕ → NumberPlace
  FrameNumber : (level : ℕ) → (place : ℤ) → NumberPlace
  ListNumber : (level : ℕ) → (place : ℤ) → NumberPlace
  DataNumber : Datum → NumberPlace

pub record Located : Type 0 where
  pub name : NamePlace
  pub number : NumberPlace

-- what means the signature that a variable's generation has
abbrev pub own_signature : ℕ
own_signature = 2 ^ 32 - 1

abbrev pub table_number : Environment → Y.DeclaredVariable → ℕ
table_number e d = number_in_table (signature_of d) e.table

abbrev pub known_or_own : Environment → Y.DeclaredVariable → NumberPlace
known_or_own e d = KnownNumber (if is_open (signature_of d) then own_signature else table_number e d)

-- the bounds that REFER tells the upper one of
abbrev pub referred_bounds : List Y.Leaf → List Y.Bounds
referred_bounds [] = []
referred_bounds (l ∷ []) = l.bounds
referred_bounds (l ∷ m ∷ ls) = referred_bounds (m ∷ ls)

abbrev pub is_one : Y.Extent → Bool
is_one (Y.ConstantExtent z) = same_int z (pos 1)
is_one _ = false

abbrev pub begin_at_one : List Y.Bounds → Bool
begin_at_one [] = true
begin_at_one (b ∷ bs) = is_one b.lower

-- the table can't tell a lower bound beside REFER: another than 1 is filled in when the run begins
abbrev pub needs_number_word : Y.DeclaredVariable → Bool
needs_number_word d = is_some d.refer && not (begin_at_one (referred_bounds d.leaves))

abbrev pub based_number : Environment → Y.Variable → Y.DeclaredVariable → NumberPlace
based_number e v d =
    if needs_number_word d then DataNumber (NumberWord v.block v.index) else KnownNumber (table_number e d)

abbrev pub static_datum : Environment → (block index : ℕ) → Y.DeclaredVariable → Datum
static_datum e block index d = StaticStorage block index (constant_size e.parts d)

-- the place of a variable among the parameters of its block
abbrev pub place_among : (index : ℕ) → List ℕ → ℕ
place_among index [] = 0
place_among index (i ∷ is) = if i == index then 0 else suc (place_among index is)

abbrev pub number_of_parameter : Environment → Y.Variable → ℕ
number_of_parameter e v = place_among v.index (parameters_of_block e.program v.block)

-- words that a located or CONTROLLED variable takes: its name, and the number of its signature
abbrev pub locator_words : ℕ
locator_words = 5

abbrev pub is_found_first : Y.StorageClass → Bool
is_found_first Y.BasedClass = true
is_found_first Y.ControlledClass = true
is_found_first _ = false

abbrev pub behind_locator : Y.Variable → Taken → Taken
behind_locator v t = if is_found_first v.class then with_words locator_words t else t

-- the words of a name at the temporaries in use, and the one behind them
abbrev pub waiting_name : Taken → ℤ
waiting_name t = words_place t.words 4

abbrev pub waiting_number : Taken → ℤ
waiting_number t = words_place (t.words + 4) 1

abbrev pub located_by_class : Environment → Taken → Y.Variable → Y.DeclaredVariable → Y.StorageClass → Located
located_by_class e t v d Y.AutomaticClass =
    record {
      name = FrameName v.level (pos (automatic_place e.parts e.program v.block v.level v.index));
      number = known_or_own e d;
    }
located_by_class e t v d Y.ParameterClass =
    record {
      name = ListName v.level (argument_at (number_of_parameter e v) 0);
      number = ListNumber v.level (argument_at (number_of_parameter e v) 4);
    }
located_by_class e t v d Y.StaticClass =
    record { name = DataName (static_datum e v.block v.index d); number = known_or_own e d }
located_by_class e t v d Y.BasedClass =
    record { name = FrameName e.level (waiting_name t); number = based_number e v d }
located_by_class e t v d Y.ControlledClass =
    record { name = FrameName e.level (waiting_name t); number = FrameNumber e.level (waiting_number t) }

abbrev pub located : Environment → Taken → Y.Variable → Located
located e t v = located_by_class e t v (declaration_of e v) v.class

-- a BASED variable whose name stands there
abbrev pub based_located : Environment → Y.Variable → NamePlace → Located
based_located e v name = record { name = name; number = based_number e v (declaration_of e v) }

-- the offset of a place of the list of arguments that a frame has
abbrev pub argument_offset : Environment → (level : ℕ) → Register → (place : ℤ) → Code
argument_offset e level r place =
    frame_found e level r ++ (load_word r (frame_in e level r) list_offset ++ plus r r place)

-- the word at a place of it, by its address
abbrev pub argument_word : Environment → (level : ℕ) → Register → (place : ℤ) → Code
argument_word e level r place =
    frame_found e level r ++ (load_word r (frame_in e level r) (pos (list_place level)) ++ load_word r r place)

abbrev pub name_offset : Environment → Register → NamePlace → Code
name_offset e r (FrameName level place) = frame_offset e level r place
name_offset e r (ListName level place) = argument_offset e level r place
name_offset e r (DataName d) = OffsetOf r (DataPlace d) ∷ []
name_offset e r (NameInData d place) = OffsetOf r (DataPlace d) ∷ plus r r (pos place)

-- the word at an offset, by way of the base in another register
abbrev pub data_word : Register → Register → Datum → Code
data_word r through d = OffsetOf r (DataPlace d) ∷ BaseIn through ∷ add r r through ∷ load_word r r (pos 0)

abbrev pub number_loaded : Environment → Register → NumberPlace → Code
number_loaded e r (KnownNumber n) = number r n
number_loaded e r (FrameNumber level place) = frame_found e level r ++ load_word r (frame_in e level r) place
number_loaded e r (ListNumber level place) = argument_word e level r place
number_loaded e r (DataNumber d) = data_word r u0 d

-- ---- CONTROLLED variables, by their numbers

abbrev pub is_controlled : Y.StorageClass → Bool
is_controlled Y.ControlledClass = true
is_controlled _ = false

abbrev pub controlled_among : List Y.DeclaredVariable → ℕ
controlled_among [] = 0
controlled_among (d ∷ ds) = (if is_controlled d.class then 1 else 0) + controlled_among ds

-- in the order in which they are declared, from 0
abbrev pub controlled_from : List (List Y.DeclaredVariable) → (block index : ℕ) → ℕ
controlled_from [] block index = 0
controlled_from (ds ∷ rest) zero index = controlled_among (take index ds)
controlled_from (ds ∷ rest) (suc block) index = controlled_among ds + controlled_from rest block index

abbrev pub controlled_number : Environment → Y.Variable → ℕ
controlled_number e v = controlled_from e.program.variables v.block v.index

-- the newest generation of a CONTROLLED variable: its name and its signature's number wait in words. The status is in
-- a0.
abbrev pub newest_found : Environment → Taken → Y.Variable → Code
newest_found e t v =
    own_place e a1 (waiting_name t)
    ++ (number a0 (controlled_number e v)
    ++ (service 18 ++ (store_word frame_register a1 (waiting_number t) ++ (move a1 a0 ∷ status_tested))))

abbrev pub class_found : Environment → Taken → Y.Variable → Y.StorageClass → Code
class_found e t v Y.ControlledClass = newest_found e t v
class_found e t v _ = []

-- ---- leaves

abbrev pub no_leaf : Y.Leaf
no_leaf = record { type = Y.BitLeaf; bounds = []; initial = [] }

abbrev pub leaf_number : Environment → Y.Variable → (leaf : ℕ) → Y.Leaf
leaf_number e v leaf = unwrap_or (slice_get (declaration_of e v).leaves leaf) no_leaf

abbrev pub is_direct_class : Y.StorageClass → Bool
is_direct_class Y.AutomaticClass = true
is_direct_class Y.StaticClass = true
is_direct_class _ = false

-- whether a variable's data stands at a constant place
abbrev pub is_direct : Environment → Y.Variable → Bool
is_direct e v = is_direct_class v.class && has_constant_size (declaration_of e v)

-- the bytes before a leaf in data of constant size
abbrev pub leaf_place : Y.DeclaredVariable → (leaf : ℕ) → ℕ
leaf_place d leaf = leaves_size (take leaf (shape_of [] d).signature.leaves)

-- ---- the extent that REFER tells

abbrev pub is_star : Y.Extent → Bool
is_star Y.StarExtent = true
is_star _ = false

abbrev pub is_star_type : Y.LeafType → Bool
is_star_type (Y.CharacterLeaf e) = is_star e
is_star_type (Y.VaryingLeaf e) = is_star e
is_star_type _ = false

abbrev pub takes_any : List Y.Bounds → Y.LeafType → Bool
takes_any [] type = is_star_type type
takes_any (b ∷ bs) type = is_star b.upper

abbrev pub last_takes_any : List Y.Leaf → Bool
last_takes_any [] = false
last_takes_any (l ∷ []) = takes_any l.bounds l.type
last_takes_any (l ∷ m ∷ ls) = last_takes_any (m ∷ ls)

abbrev pub is_parameter : Y.StorageClass → Bool
is_parameter Y.ParameterClass = true
is_parameter _ = false

-- the part has the last leaf, and REFER may tell its extent: that of a BASED variable, or of an argument
abbrev pub may_refer : Y.DeclaredVariable → Bool
may_refer d = is_some d.refer || (is_parameter d.class && last_takes_any d.leaves)

abbrev pub is_referred : Environment → Y.Variable → Y.Part → Bool
is_referred e v part = (part.first + part.count == length (declaration_of e v).leaves) && may_refer (declaration_of e v)

-- its extent in a0, with a description of the leaf in the buffer where one stands there
abbrev pub buffer_if : Environment → (is_wanted : Bool) → Register → Code
buffer_if e true r = own_place e r (pos buffer)
buffer_if e false r = small r 0 ∷ []

abbrev pub refer_read : Environment → Located → (is_wanted : Bool) → Code
refer_read e l is_wanted =
    name_offset e a0 l.name ++ (number_loaded e a1 l.number ++ (buffer_if e is_wanted a2 ++ tested_service 15))

-- ---- a leaf that lives

abbrev pub needs_buffer : Y.Leaf → Bool
needs_buffer l = not (is_constant_type l.type && list_all are_constant l.bounds)

abbrev pub leaf_resolved : Environment → Located → (leaf : ℕ) → (is_wanted : Bool) → Code
leaf_resolved e l leaf is_wanted =
    name_offset e a0 l.name
    ++ (number_loaded e a1 l.number
    ++ (number a2 leaf ++ (buffer_if e is_wanted a3 ++ (small a4 0 ∷ tested_service 8))))

abbrev pub refer_if : Environment → Located → (is_wanted is_referred : Bool) → Code
refer_if e l is_wanted true = move u3 a0 ∷ refer_read e l is_wanted
refer_if e l is_wanted false = move u3 a0 ∷ []

-- the offset of the part's first leaf, in u3; the extent that REFER tells, where it may, in a0
abbrev pub leaf_found : Environment → Located → (leaf : ℕ) → (is_wanted is_referred : Bool) → Code
leaf_found e l leaf is_wanted is_referred = leaf_resolved e l leaf is_wanted ++ refer_if e l is_wanted is_referred

-- ---- variables at constant places

-- an element's address: a register, and a displacement
pub record Address : Type 0 where
  pub register : Register
  pub displacement : ℤ

-- their base, found by way of a register
abbrev pub direct_base : Environment → Register → Y.Variable → Y.StorageClass → Code
direct_base e r v Y.StaticClass =
    BaseIn r ∷ OffsetOf u0 (DataPlace (static_datum e v.block v.index (declaration_of e v))) ∷ add r r u0 ∷ []
direct_base e r v _ = frame_found e v.level r

abbrev pub direct_register : Environment → Register → Y.Variable → Y.StorageClass → Register
direct_register e r v Y.StaticClass = r
direct_register e r v _ = frame_in e v.level r

abbrev pub direct_place : Environment → Y.Variable → Y.StorageClass → (leaf : ℕ) → ℕ
direct_place e v Y.StaticClass leaf = name_bytes + leaf_place (declaration_of e v) leaf
direct_place e v _ leaf =
    automatic_place e.parts e.program v.block v.level v.index + name_bytes + leaf_place (declaration_of e v) leaf

-- a number, bit or OFFSET value
abbrev pub loaded : Y.LeafType → Register → Address → Code
loaded (Y.FixedLeaf p) rd a =
    displaced (λ r z. I.Load (if nat_le p 15 then Load.Half else Load.Word) rd r z) a.register a.displacement
loaded Y.BitLeaf rd a = displaced (λ r z. I.Load Load.ByteUnsigned rd r z) a.register a.displacement
loaded _ rd a = load_word rd a.register a.displacement

-- ---- simple numbers: constants, and variables at constant places. Each comes into a register by itself, and changes
-- no other but u0.

abbrev pub is_simple : Environment → Y.Number → Bool
is_simple e (Y.NumberConstant n) = true
is_simple e (Y.NumberIn (Y.Referring v Y.NotLocated part Y.NoNumber)) = is_direct e v
is_simple e _ = false

abbrev pub are_simple : Environment → Y.Numbers → Bool
are_simple e Y.NoNumber = true
are_simple e (Y.NumberThen first rest) = is_simple e first && are_simple e rest

abbrev pub variable_loaded : Environment → Register → Y.Variable → Y.Part → Code
variable_loaded e r v part =
    direct_base e r v v.class
    ++ loaded (leaf_number e v part.first).type r
    (record { register = direct_register e r v v.class; displacement = pos (direct_place e v v.class part.first) })

abbrev pub simple_loaded : Environment → Register → Y.Number → Code
simple_loaded e r (Y.NumberConstant n) = number r n
simple_loaded e r (Y.NumberIn (Y.Referring v locator part subscripts)) = variable_loaded e r v part
simple_loaded e r _ = []

-- ---- subscripts

-- a bound, constant or from the buffer
abbrev pub bound_loaded : Register → Y.Extent → (place : ℤ) → Code
bound_loaded r (Y.ConstantExtent z) place = constant r z
bound_loaded r _ place = load_word r frame_register place

-- less the lower bound
abbrev pub less_lower : Y.Extent → (place : ℤ) → Code
less_lower (Y.ConstantExtent z) place = if same_int z (pos 0) then [] else plus u1 u1 (neg_ℤ z)
less_lower _ place = load_word u2 frame_register place ++ subtract u1 u1 u2 ∷ []

-- the distance of the bounds
abbrev pub range_loaded : Y.Bounds → (dimension : ℕ) → Code
range_loaded b dimension = range_between b.lower b.upper
  where
    range_between : (lower upper : Y.Extent) → Code
    range_between (Y.ConstantExtent l) (Y.ConstantExtent u) = constant u2 (u -ℤ l)
    range_between l u =
        bound_loaded u2 u (buffer_upper dimension)
        ++ (bound_loaded u0 l (buffer_lower dimension) ++ subtract u2 u2 u0 ∷ [])

-- the place among the elements of the dimensions so far makes room in u1 for the next subscript
abbrev pub place_kept : (dimension : ℕ) → Code
place_kept zero = []
place_kept (suc n) = move u4 u1 ∷ []

-- the distance in u1 becomes the place among the elements of one more dimension
abbrev pub counted_in : (dimension : ℕ) → Code
counted_in zero = []
counted_in (suc n) = immediate Imm.Add u2 u2 (pos 1) ∷ registers Op.Multiply u4 u4 u2 ∷ add u1 u4 u1 ∷ []

-- a subscript, in u1, lies within its bounds (102)
abbrev pub subscript_counted : (dimension : ℕ) → Y.Bounds → Code
subscript_counted dimension b =
    less_lower b.lower (buffer_lower dimension)
    ++ (range_loaded b dimension
    ++ (skip_where Test.GreaterOrEqualUnsigned u2 u1 (error_raised subscript_code) ++ counted_in dimension))

-- a subscript comes into u1. It waits, unless it and all behind it are simple.
abbrev pub subscript_given : Environment → Taken → Y.Number → (behind : Y.Numbers) → Code
subscript_given e t x behind = if is_simple e x && are_simple e behind then simple_loaded e u1 x else fetch u1 t

-- the place of an element among those of its leaf, row by row, in u1
abbrev pub subscripts_counted : Environment → Taken → (dimension : ℕ) → (subscripts : Y.Numbers) → List Y.Bounds → Code
subscripts_counted e t dimension Y.NoNumber bounds = []
subscripts_counted e t dimension (Y.NumberThen first rest) [] = []
subscripts_counted e t dimension (Y.NumberThen first rest) (b ∷ bs) =
    place_kept dimension
    ++ (subscript_given e t first rest
    ++ (subscript_counted dimension b ++ subscripts_counted e (with_number t) (suc dimension) rest bs))

-- ---- elements

-- the place in u1 times a constant, in u4
abbrev pub times_constant : ℕ → Code
times_constant n =
    if n == 4 then shift Shift.Left u4 u1 2 ∷ []
    else number u2 n ++ registers Op.Multiply u4 u1 u2 ∷ []

-- times a size from the buffer, with so many bytes more, rounded up to 4
abbrev pub times_size : (more : ℕ) → Code
times_size more =
    load_word u2 frame_register buffer_size
    ++ (immediate Imm.Add u2 u2 (pos (more + 3)) ∷ immediate Imm.And u2 u2 (negsuc 3) ∷ registers Op.Multiply u4 u1 u2
    ∷ [])

-- the distance of an element from the first one
abbrev pub times_stride : Y.LeafType → Code
times_stride (Y.CharacterLeaf e) =
    if is_constant e then times_constant (rounded_up 4 (leaf_bytes (kind_of [] (Y.CharacterLeaf e)))) else times_size 0
times_stride (Y.VaryingLeaf e) =
    if is_constant e then times_constant (rounded_up 4 (leaf_bytes (kind_of [] (Y.VaryingLeaf e)))) else times_size 2
times_stride type = times_constant (rounded_up 4 (leaf_bytes (kind_of [] type)))

-- u3, or what stands in a register, and the element's distance
abbrev pub element_added : Register → Y.LeafType → (subscripts : Y.Numbers) → Code
element_added r type Y.NoNumber = []
element_added r type (Y.NumberThen first rest) = times_stride type ++ add u3 r u4 ∷ []

abbrev pub register_of : Environment → Y.Variable → (given : ℕ) → Register
register_of e v zero = if is_direct e v then direct_register e u3 v v.class else u3
register_of e v (suc n) = u3

abbrev pub place_of : Environment → Y.Variable → (leaf : ℕ) → ℕ
place_of e v leaf = if is_direct e v then direct_place e v v.class leaf else 0

-- where the code below leaves an element
abbrev pub address_of : Environment → Y.Variable → Y.Part → (given : ℕ) → Address
address_of e v part given = record { register = register_of e v given; displacement = pos (place_of e v part.first) }

abbrev pub direct_reached : Environment → Taken → Y.Variable → Y.Leaf → (subscripts : Y.Numbers) → Code
direct_reached e t v l subscripts =
    subscripts_counted e t 0 subscripts l.bounds
    ++ (direct_base e u3 v v.class ++ element_added (direct_register e u3 v v.class) l.type subscripts)

-- an element of a generation whose name stands somewhere
abbrev pub leaf_reached : Environment → Located → Taken → Y.Variable → Y.Part → Y.Leaf → (subscripts : Y.Numbers) → Code
leaf_reached e at t v part l subscripts =
    leaf_found e at part.first (needs_buffer l) (is_referred e v part)
    ++ (subscripts_counted e t 0 subscripts l.bounds ++ (BaseIn u0 ∷ add u3 u3 u0 ∷ element_added u3 l.type subscripts))

abbrev pub found_reached : Environment → (found t : Taken) → Y.Variable → Y.Part → Y.Leaf → (subscripts : Y.Numbers)
    → Code
found_reached e found t v part l subscripts =
    class_found e found v v.class ++ leaf_reached e (located e found v) t v part l subscripts

-- behind a locator, which waits where `found` says, and subscripts, which wait where t says: an element's address
abbrev pub reached : Environment → (found t : Taken) → Y.Variable → Y.Part → (subscripts : Y.Numbers) → Code
reached e found t v part subscripts =
    if is_direct e v then direct_reached e t v (leaf_number e v part.first) subscripts
    else found_reached e found t v part (leaf_number e v part.first) subscripts

-- ---- names in POINTER variables

-- where the name in a leaf stands, of a variable whose data has a constant place
abbrev pub direct_name : Environment → Y.Variable → Y.StorageClass → (leaf : ℕ) → NamePlace
direct_name e v Y.StaticClass leaf =
    NameInData (static_datum e v.block v.index (declaration_of e v)) (direct_place e v Y.StaticClass leaf)
direct_name e v class leaf = FrameName v.level (pos (direct_place e v class leaf))

-- an element of a BASED variable whose name stands there
abbrev pub based_reached : Environment → NamePlace → Taken → Y.Variable → Y.Part → (subscripts : Y.Numbers) → Code
based_reached e name t v part subscripts =
    leaf_reached e (based_located e v name) t v part (leaf_number e v part.first) subscripts

-- code for a name that stands, or else other code
abbrev pub where_standing : Option NamePlace → (NamePlace → Code) → Code → Code
where_standing (Some name) at otherwise = at name
where_standing None at otherwise = otherwise

-- the place of such a name in the running frame
abbrev pub own_name : Environment → Option NamePlace → Option ℤ
own_name e (Some (FrameName level place)) = if level == e.level then Some place else None
own_name e _ = None

-- ---- stores of numbers, bits and OFFSET values

abbrev pub stored : Y.LeafType → Register → Address → Code
stored (Y.FixedLeaf p) value a =
    displaced (λ r z. I.Store (if nat_le p 15 then Store.Half else Store.Word) r value z) a.register a.displacement
stored Y.BitLeaf value a = displaced (λ r z. I.Store Store.Byte r value z) a.register a.displacement
stored _ value a = store_word a.register value a.displacement

-- ---- names, word by word

abbrev pub word_copied : (from to : Address) → (n : ℕ) → Code
word_copied from to n =
    load_word u1 from.register (place_behind (4 * n) from.displacement)
    ++ store_word to.register u1 (place_behind (4 * n) to.displacement)

abbrev pub name_copied : (from to : Address) → Code
name_copied from to =
    word_copied from to 0 ++ (word_copied from to 1 ++ (word_copied from to 2 ++ word_copied from to 3))

-- a place of the running frame
abbrev pub in_own_frame : ℤ → Address
in_own_frame place = record { register = frame_register; displacement = place }

-- ---- texts

-- an address as an offset, in a0
abbrev pub address_offset : Address → Code
address_offset a = BaseIn u0 ∷ subtract a0 a.register u0 ∷ plus a0 a0 a.displacement

abbrev pub length_loaded : Register → Y.Extent → Code
length_loaded r (Y.ConstantExtent z) = constant r z
length_loaded r _ = load_word r frame_register buffer_size

-- the length of a text in a1, and in a2 whether it varies
abbrev pub text_kind : Y.LeafType → Code
text_kind (Y.CharacterLeaf e) = length_loaded a1 e ++ small a2 0 ∷ []
text_kind (Y.VaryingLeaf e) = length_loaded a1 e ++ small a2 1 ∷ []
text_kind _ = []

abbrev pub text_pushed : Y.LeafType → Address → Code
text_pushed type a = address_offset a ++ (text_kind type ++ service 20)

-- the top text
abbrev pub text_stored : Y.LeafType → Address → Code
text_stored type a = address_offset a ++ (text_kind type ++ service 27)
