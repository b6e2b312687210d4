-- Where a block's frame has what, in bytes from the frame's address: temporaries below it; above it what is saved, the
-- display, where the list of arguments is, and then one variable after the other.
use Rattle.std.specs.Prelude.{ℕ, zero, suc, ◌+◌, ◌*◌, ◌^◌, ◌-◌, ℤ, pos, neg_ℤ, Bool, true, false, ◌&&◌, nat_le, min}
use Rattle.std.specs.Prelude.{List, [], ◌∷◌, length, Option, Some, None, if◌then◌else◌}
use Rattle.std.specs.List.{list_all}
use Rattle.pli_typing.specs.Signatures.{rounded_up, rounded_down, data_size, natural}
use Rattle.pli_typing.specs.TypedTree as Y
use Rattle.pli_meaning.specs.DeclaredShapes.{variables_of_block, procedure_numbered, shape_of}

-- ---- parts of memory

-- where the two stacks begin, the upper one at the part's start and the lower one at its end, and the bytes that an
-- area of a capacity takes
pub record MemoryParts : Type 0 where
  pub stack_start : ℕ
  pub stack_end : ℕ
  pub area_bytes : ℕ → ℕ

-- 7 MiB for code and static data, then 7 MiB for the stacks
abbrev pub usual_parts : (area_bytes : ℕ → ℕ) → MemoryParts
usual_parts area_bytes = record { stack_start = 7 * 2 ^ 20; stack_end = 14 * 2 ^ 20; area_bytes = area_bytes }

-- ---- the fixed part

abbrev pub return_address : ℤ
return_address = pos 0

abbrev pub frame_below : ℤ
frame_below = pos 4

-- the nth register of those that hold temporaries
abbrev pub saved_register : ℕ → ℤ
saved_register n = pos (8 + 4 * n)

-- the frame's own offset, and the top of the lower stack
abbrev pub own_offset : ℤ
own_offset = pos 36

abbrev pub lower_top : ℤ
lower_top = pos 40

-- the offset of the list of arguments, in a procedure that has parameters
abbrev pub list_offset : ℤ
list_offset = pos 44

-- a function's number, or its name, on the way out
abbrev pub result : ℕ
result = 48

-- what service 8 tells of a leaf: its kind, its precision or length, and its bounds
abbrev pub buffer : ℕ
buffer = 64

abbrev pub buffer_kind : ℤ
buffer_kind = pos 64

abbrev pub buffer_size : ℤ
buffer_size = pos 68

abbrev pub buffer_lower : ℕ → ℤ
buffer_lower dimension = pos (72 + 8 * dimension)

abbrev pub buffer_upper : ℕ → ℤ
buffer_upper dimension = pos (76 + 8 * dimension)

-- the frame of the block around at a level
abbrev pub display : (level : ℕ) → ℤ
display level = pos (144 + 4 * level)

-- behind the display, where there are parameters, the address of the list of arguments: a word
abbrev pub list_place : (level : ℕ) → ℕ
list_place level = 144 + 4 * level

abbrev pub name_bytes : ℕ
name_bytes = 16

abbrev pub fixed_size : (level parameters : ℕ) → ℕ
fixed_size level parameters = rounded_up 16 (list_place level + 4 * min 1 parameters)

-- ---- the list of arguments: six words for each, which stand in the caller's frame as long as the callee's does

abbrev pub argument_bytes : ℕ
argument_bytes = 24

-- a word of the nth argument: a name or a value from 0 on, the number of a signature or a text's length in 4, and in 5
-- whether it is a copy
abbrev pub argument_at : (n word : ℕ) → ℤ
argument_at n word = pos (argument_bytes * n + 4 * word)

-- ---- variables

-- the table tells no greater capacity: it is filled in when the program runs
abbrev pub greatest_area : ℕ
greatest_area = 2 ^ 20

abbrev pub is_constant : Y.Extent → Bool
is_constant (Y.ConstantExtent z) = true
is_constant _ = false

-- what an AREA of a size holds
abbrev pub capacity_of : ℤ → ℕ
capacity_of z = rounded_down 16 (natural z)

abbrev pub is_constant_area : Y.Extent → Bool
is_constant_area (Y.ConstantExtent z) = nat_le (capacity_of z) greatest_area
is_constant_area _ = false

abbrev pub is_constant_type : Y.LeafType → Bool
is_constant_type (Y.CharacterLeaf e) = is_constant e
is_constant_type (Y.VaryingLeaf e) = is_constant e
is_constant_type (Y.AreaLeaf e) = is_constant_area e
is_constant_type _ = true

abbrev pub are_constant : Y.Bounds → Bool
are_constant b = is_constant b.lower && is_constant b.upper

abbrev pub is_constant_leaf : Y.Leaf → Bool
is_constant_leaf l = is_constant_type l.type && list_all are_constant l.bounds

-- whether every generation of a variable has the same size
abbrev pub has_constant_size : Y.DeclaredVariable → Bool
has_constant_size d = list_all is_constant_leaf d.leaves

-- an area with what its keeper adds
abbrev pub area_size : MemoryParts → Y.Extent → ℕ
area_size parts (Y.ConstantExtent z) = parts.area_bytes (capacity_of z)
area_size parts _ = 0

abbrev pub size_of_leaves : MemoryParts → Y.DeclaredVariable → List Y.Leaf → ℕ
size_of_leaves parts d (l ∷ []) = only_leaf l.type
  where
    only_leaf : Y.LeafType → ℕ
    only_leaf (Y.AreaLeaf e) = area_size parts e
    only_leaf _ = data_size (shape_of [] d).signature
size_of_leaves parts d _ = data_size (shape_of [] d).signature

-- the bytes of a variable of constant size
abbrev pub constant_size : MemoryParts → Y.DeclaredVariable → ℕ
constant_size parts d = rounded_up 16 (size_of_leaves parts d d.leaves)

abbrev pub is_automatic : Y.StorageClass → Bool
is_automatic Y.AutomaticClass = true
is_automatic _ = false

-- what a variable takes in the frame: its name, and its data where that has a constant size
abbrev pub frame_bytes : MemoryParts → Y.DeclaredVariable → ℕ
frame_bytes parts d =
    if is_automatic d.class then name_bytes + (if has_constant_size d then constant_size parts d else 0) else 0

-- no place is counted past this one: what would begin there can never be made
abbrev pub last_place : ℕ
last_place = 4 * 2 ^ 20

-- the place of the name of the variable of an index, or behind all
abbrev pub variable_place : MemoryParts → (at : ℕ) → List Y.DeclaredVariable → (index : ℕ) → ℕ
variable_place parts at [] index = at
variable_place parts at (d ∷ ds) zero = at
variable_place parts at (d ∷ ds) (suc index) = variable_place parts (min last_place (at + frame_bytes parts d)) ds index

-- ---- the frame of a block of a program

abbrev pub parameters_in : Option Y.Procedure → List ℕ
parameters_in None = []
parameters_in (Some p) = p.parameters

-- the parameters of a block, by their places among its variables; none where it is no procedure
abbrev pub parameters_of_block : Y.Program → (block : ℕ) → List ℕ
parameters_of_block program block = parameters_in (procedure_numbered block program.procedures)

abbrev pub first_variable : Y.Program → (block level : ℕ) → ℕ
first_variable program block level = fixed_size level (length (parameters_of_block program block))

abbrev pub automatic_place : MemoryParts → Y.Program → (block level index : ℕ) → ℕ
automatic_place parts program block level index =
    variable_place parts (first_variable program block level) (variables_of_block program block) index

-- where the frame ends once all variables are made
abbrev pub frame_end : MemoryParts → Y.Program → (block level : ℕ) → ℕ
frame_end parts program block level =
    automatic_place parts program block level (length (variables_of_block program block))

-- ---- temporaries

-- so many words from the one of a place on, the first of them lowest
abbrev pub words_place : (place count : ℕ) → ℤ
words_place place count = neg_ℤ (pos (4 * (place + count)))

-- one of these words
abbrev pub word_in : (place count n : ℕ) → ℤ
word_in place count n = neg_ℤ (pos (4 * (place + count - n)))

-- what a frame keeps below its address, where so many words are the most in use
abbrev pub temporary_bytes : (words : ℕ) → ℕ
temporary_bytes words = rounded_up 16 (4 * words)
