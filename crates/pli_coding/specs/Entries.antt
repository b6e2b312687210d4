-- How blocks are entered and left: their frames, parameters and variables.
use Rattle.std.specs.Prelude.{ℕ, zero, suc, ◌+◌, ℤ, pos, neg_ℤ, max, min, List, [], ◌∷◌, ◌++◌, Option, Some}
use Rattle.std.specs.Prelude.{None, slice_get, if◌then◌else◌}
use Rattle.rv_meaning.specs.declared.instr.Register.{Register}
use Rattle.rv_meaning.specs.declared.instr.BranchTest.TheVariants as Test
use Rattle.pli_typing.specs.TypedTree as Y
use Rattle.pli_meaning.specs.DeclaredShapes.{variables_of_block}
use Rattle.pli_coding.specs.Registers.{zero_register, return_register, stack_register, frame_register, held, a0, a1, a2}
use Rattle.pli_coding.specs.Registers.{a3, a4, u0, u1, u2, u3, u4, u5}
use Rattle.pli_coding.specs.Assembly.{BaseIn, OffsetOf, DataPlace, Code}
use Rattle.pli_coding.specs.Instructions.{add, subtract, move, small, number, plus, load_word, store_word, skip_where}
use Rattle.pli_coding.specs.Instructions.{service}
use Rattle.pli_coding.specs.Frames.{return_address, frame_below, saved_register, own_offset, lower_top, display}
use Rattle.pli_coding.specs.Frames.{list_offset, list_place, argument_at, name_bytes, fixed_size, has_constant_size}
use Rattle.pli_coding.specs.Frames.{constant_size, is_automatic, frame_bytes, last_place, automatic_place}
use Rattle.pli_coding.specs.Frames.{temporary_bytes}
use Rattle.pli_coding.specs.StaticForms.{size_datum}
use Rattle.pli_coding.specs.Environments.{Environment, Taken, none_taken, most_taken}
use Rattle.pli_coding.specs.Locating.{own_place, table_number, Address, stored, is_star_type}
use Rattle.pli_coding.specs.Extents.{extents_code, number_word, bytes_word, initial_code, extents_take}
use Rattle.pli_coding.specs.Allocating.{act_code}

-- ---- frames

-- the registers that hold temporaries, from the nth on
abbrev pub registers_saved : Register → (n left : ℕ) → Code
registers_saved frame n zero = []
registers_saved frame n (suc left) = store_word frame (held n) (saved_register n) ++ registers_saved frame (suc n) left

abbrev pub registers_restored : (n left : ℕ) → Code
registers_restored n zero = []
registers_restored n (suc left) =
    load_word (held n) frame_register (saved_register n) ++ registers_restored (suc n) left

-- where its code goes on, and the first so many of these registers
abbrev pub all_saved : Register → (held : ℕ) → Code
all_saved frame held = store_word frame return_register return_address ++ registers_saved frame 0 held

abbrev pub all_restored : (held : ℕ) → Code
all_restored held = load_word return_register frame_register return_address ++ registers_restored 0 held

-- the display of the frame in a0, up to a level, and that frame itself
abbrev pub display_copied : (n left : ℕ) → Code
display_copied n zero = store_word frame_register a0 (display n)
display_copied n (suc left) =
    load_word u1 a0 (display n) ++ (store_word frame_register u1 (display n) ++ display_copied (suc n) left)

abbrev pub display_made : (level : ℕ) → Code
display_made zero = []
display_made (suc outer) = display_copied 0 outer

-- what is saved in a frame: in one that is called or raised so many registers that hold temporaries
abbrev pub saved_if : (saved : Option ℕ) → Code
saved_if None = []
saved_if (Some held) = all_saved u0 held

-- a new frame above the temporaries of its block; the frame of the block around it is in a0
abbrev pub frame_begun : (words level parameters : ℕ) → (saved : Option ℕ) → Code
frame_begun words level parameters saved =
    plus u0 stack_register (pos (temporary_bytes words))
    ++ (saved_if saved
    ++ (store_word u0 frame_register frame_below
    ++ (load_word u1 frame_register lower_top
    ++ (move frame_register u0
    ∷ (store_word frame_register u1 lower_top
    ++ (display_made level
    ++ (BaseIn u1
    ∷ subtract u1 frame_register u1
    ∷ (store_word frame_register u1 own_offset
    ++ plus stack_register frame_register (pos (fixed_size level parameters))))))))))

abbrev pub frame_ended : (words : ℕ) → Code
frame_ended words =
    plus stack_register frame_register (neg_ℤ (pos (temporary_bytes words)))
    ++ load_word frame_register frame_register frame_below

-- 0 a procedure, 1 a begin block, 2 an on-unit; argument texts are counted in a3
abbrev pub block_entered : (kind line : ℕ) → Code
block_entered kind line = load_word a1 frame_register own_offset ++ (small a0 kind ∷ (number a2 line ++ service 4))

abbrev pub entered_without_texts : (kind line : ℕ) → Code
entered_without_texts kind line = small a3 0 ∷ block_entered kind line

-- the newest activation ends; with 1 the top text is kept
abbrev pub block_left : (keep : ℕ) → Code
block_left keep = small a0 keep ∷ service 5

-- ---- parameters: the address of the list of arguments comes in a1, and stands in u5 until the copies are made

-- where the list is, for all that names a parameter; u1 has the frame's own offset
abbrev pub list_kept : (level : ℕ) → List ℕ → Code
list_kept level [] = []
list_kept level (p ∷ ps) =
    store_word frame_register a1 (pos (list_place level))
    ++ (subtract a1 a1 frame_register ∷ add a1 a1 u1 ∷ store_word frame_register a1 list_offset)

-- a parameter that may stand for a copy: its place among the parameters, its declaration and its kind
pub record Copied : Type 0 where
  pub n : ℕ
  pub declared : Y.DeclaredVariable
  pub type : Y.LeafType

abbrev pub copied_type : (n : ℕ) → Y.DeclaredVariable → Y.LeafType → List Copied
copied_type n d (Y.AreaLeaf size) = []
copied_type n d type = record { n = n; declared = d; type = type } ∷ []

abbrev pub copied_leaf : (n : ℕ) → Y.DeclaredVariable → List Y.Bounds → Y.LeafType → List Copied
copied_leaf n d [] type = copied_type n d type
copied_leaf n d (b ∷ bs) type = []

abbrev pub copied_leaves : (n : ℕ) → Y.DeclaredVariable → List Y.Leaf → List Copied
copied_leaves n d (l ∷ []) = copied_leaf n d l.bounds l.type
copied_leaves n d _ = []

abbrev pub copied_declared : (n : ℕ) → Option Y.DeclaredVariable → List Copied
copied_declared n None = []
copied_declared n (Some d) = copied_leaves n d d.leaves

abbrev pub copied_parameters : List Y.DeclaredVariable → (n : ℕ) → List ℕ → List Copied
copied_parameters ds n [] = []
copied_parameters ds n (p ∷ ps) = copied_declared n (slice_get ds p) ++ copied_parameters ds (suc n) ps

-- where the list says so
abbrev pub if_copied : Copied → Code → Code
if_copied c code = load_word u4 u5 (argument_at c.n 5) ++ skip_where Test.Equal u4 zero_register code

-- the number of the signature in a1, and in u2 the bytes to reserve; a length that isn't said is the value's
abbrev pub copy_signature : Environment → Copied → Code
copy_signature e c =
    if is_star_type c.type
    then number a0 (table_number e c.declared)
    ++ (OffsetOf a1 (DataPlace (size_datum Y.StarExtent c.declared.leaves))
    ∷ (load_word a3 u5 (argument_at c.n 4) ++ (service 3 ++ (move u2 a1 ∷ move a1 a0 ∷ []))))
    else number a1 (table_number e c.declared) ++ number u2 (constant_size e.parts c.declared)

-- the lower stack grows by u2; its top in u1
abbrev pub lower_taken : Code
lower_taken =
    load_word u1 frame_register lower_top ++ (subtract u1 u1 u2 ∷ store_word frame_register u1 lower_top)

-- the number of the signature, behind where the name will stand
abbrev pub copy_begun : Environment → Copied → Code
copy_begun e c = copy_signature e c ++ (store_word u5 a1 (argument_at c.n 4) ++ lower_taken)

-- the value, before the name is written over it: a name's words in four registers
abbrev pub value_taken : (n : ℕ) → Y.LeafType → Code
value_taken n (Y.CharacterLeaf x) = []
value_taken n (Y.VaryingLeaf x) = []
value_taken n Y.PointerLeaf =
    load_word u0 u5 (argument_at n 0)
    ++ (load_word u2 u5 (argument_at n 1) ++ (load_word u3 u5 (argument_at n 2) ++ load_word u4 u5 (argument_at n 3)))
value_taken n type = load_word u4 u5 (argument_at n 0)

-- the name, whose data begins at the top of the lower stack
abbrev pub copy_named : (n : ℕ) → Code
copy_named n =
    load_word a0 frame_register list_offset
    ++ (plus a0 a0 (argument_at n 0) ++ (small a2 0 ∷ move a3 u1 ∷ small a4 2 ∷ service 7))

-- the data's address
abbrev pub copy_addressed : Code
copy_addressed = BaseIn a0 ∷ add a0 a0 u1 ∷ []

abbrev pub copy_address : Address
copy_address = record { register = a0; displacement = pos 0 }

abbrev pub name_kept : Code
name_kept =
    store_word a0 u0 (pos 0) ++ (store_word a0 u2 (pos 4) ++ (store_word a0 u3 (pos 8) ++ store_word a0 u4 (pos 12)))

-- the value; the place of a text, which isn't 0, goes into the list in place of the 1 until the texts are stored
abbrev pub copy_filled : (n : ℕ) → Y.LeafType → Code
copy_filled n (Y.CharacterLeaf x) = store_word u5 u1 (argument_at n 5)
copy_filled n (Y.VaryingLeaf x) = store_word u5 u1 (argument_at n 5)
copy_filled n Y.PointerLeaf = copy_addressed ++ name_kept
copy_filled n type = copy_addressed ++ stored type u4 copy_address

abbrev pub copy_made : Environment → Copied → Code
copy_made e c = copy_begun e c ++ (value_taken c.n c.type ++ (copy_named c.n ++ copy_filled c.n c.type))

abbrev pub copies_made : Environment → List Copied → Code
copies_made e [] = []
copies_made e (c ∷ cs) = if_copied c (copy_made e c) ++ copies_made e cs

-- the length that is declared, or that of the top text
abbrev pub copy_length : Y.Extent → Code
copy_length (Y.ConstantExtent z) = number a1 (natural z)
  where
    natural : ℤ → ℕ
    natural (pos n) = n
    natural _ = 0
copy_length _ = small a2 2 ∷ (service 27 ++ move a1 a0 ∷ [])

-- the top text, into its copy, whose place stands in the list and in u4
abbrev pub text_copy : Copied → (mode : ℕ) → Y.Extent → Code
text_copy c mode size = if_copied c (copy_length size ++ (move a0 u4 ∷ small a2 mode ∷ service 27))

abbrev pub text_filled : Copied → Y.LeafType → Code
text_filled c (Y.CharacterLeaf size) = text_copy c 0 size
text_filled c (Y.VaryingLeaf size) = text_copy c 1 size
text_filled c _ = []

-- the last text is the top one
abbrev pub texts_filled : List Copied → Code
texts_filled [] = []
texts_filled (c ∷ cs) = texts_filled cs ++ text_filled c c.type

abbrev pub copies_of : Environment → List ℕ → List Copied
copies_of e parameters = copied_parameters (variables_of_block e.program e.block) 0 parameters

abbrev pub arguments_copied : Environment → List ℕ → Code
arguments_copied e parameters = copies_made e (copies_of e parameters) ++ texts_filled (copies_of e parameters)

-- ---- AUTOMATIC variables, whose names stand at a place; where the place behind one isn't counted any more, service 7
-- has ended the run

abbrev pub constant_made : Environment → (place : ℕ) → Y.DeclaredVariable → Code
constant_made e place d =
    own_place e a0 (pos place)
    ++ (number a1 (table_number e d)
    ++ (initial_code a2 d
    ++ (own_place e a3 (pos (place + name_bytes))
    ++ (small a4 0
    ∷ (service 7 ++ plus stack_register frame_register (pos (min last_place (place + frame_bytes e.parts d))))))))

abbrev pub extents_act : (line : ℕ) → List Y.Evaluation → Code
extents_act line [] = []
extents_act line (x ∷ xs) = act_code line

-- the data is placed on the lower stack
abbrev pub adjustable_made : Environment → (line place : ℕ) → Y.DeclaredVariable → Code
adjustable_made e line place d =
    extents_act line d.evaluations
    ++ (extents_code e none_taken d
    ++ (plus stack_register frame_register (pos (place + name_bytes))
    ++ (load_word u2 frame_register (bytes_word none_taken)
    ++ (lower_taken
    ++ (own_place e a0 (pos place)
    ++ (load_word a1 frame_register (number_word none_taken)
    ++ (initial_code a2 d ++ (move a3 u1 ∷ small a4 0 ∷ service 7))))))))

abbrev pub automatic_made : Environment → (line place : ℕ) → Y.DeclaredVariable → Code
automatic_made e line place d =
    if has_constant_size d then constant_made e place d else adjustable_made e line place d

-- in declared order
abbrev pub variables_made : Environment → (line index : ℕ) → List Y.DeclaredVariable → Code
variables_made e line index [] = []
variables_made e line index (d ∷ ds) =
    (if is_automatic d.class
    then automatic_made e line (automatic_place e.parts e.program e.block e.level index) d
    else [])
    ++ variables_made e line (suc index) ds

abbrev pub variables_code : Environment → (line : ℕ) → Code
variables_code e line = variables_made e line 0 (variables_of_block e.program e.block)

-- what making a variable takes: the temporaries of its extents
abbrev pub variable_takes : Y.DeclaredVariable → Taken
variable_takes d =
    if is_automatic d.class then (if has_constant_size d then none_taken else extents_take none_taken d) else none_taken

abbrev pub variables_take : List Y.DeclaredVariable → Taken
variables_take [] = none_taken
variables_take (d ∷ ds) = most_taken (variable_takes d) (variables_take ds)
