-- Pieces of the code by which blocks are entered and left.
use Rattle.std.specs.Prelude.{ℕ, ◌+◌, min, pos, neg_ℤ, List, [], ◌∷◌, ◌++◌, Option, Some, None, slice_get}
use Rattle.std.specs.Prelude.{if◌then◌else◌}
use Rattle.rv_meaning.specs.declared.instr.Register.{Register}
use Rattle.rv_meaning.specs.declared.instr.BranchTest.TheVariants as Test
use Rattle.pli_typing.specs.TypedTree as Y
use Rattle.pli_meaning.specs.DeclaredShapes.{variables_of_block}
use Rattle.pli_coding.specs.Registers.{zero_register, stack_register, frame_register, return_register, held, a0, a1, a2}
use Rattle.pli_coding.specs.Registers.{a3, a4, u0, u1, u2, u3, u4, u5}
use Rattle.pli_coding.specs.Assembly.{BaseIn, OffsetOf, DataPlace, Datum, Code}
use Rattle.pli_coding.specs.Instructions.{add, subtract, move, small, number as number_in, plus, load_word, store_word}
use Rattle.pli_coding.specs.Instructions.{skip_where, service}
use Rattle.pli_coding.specs.Frames.{return_address, frame_below, saved_register, own_offset, lower_top, display}
use Rattle.pli_coding.specs.Frames.{list_offset, list_place, argument_at, name_bytes, fixed_size, temporary_bytes}
use Rattle.pli_coding.specs.Frames.{constant_size, is_automatic, frame_bytes, last_place}
use Rattle.pli_coding.specs.Frames.{automatic_place}
use Rattle.pli_coding.specs.StaticForms.{size_datum}
use Rattle.pli_coding.specs.Environments.{Environment, declaration_of, none_taken}
use Rattle.pli_coding.specs.Locating.{own_place, stored, table_number}
use Rattle.pli_coding.specs.Extents.{bytes_word, initial_code, number_word}
use Rattle.pli_coding.specs.Entries.{Copied, adjustable_made, automatic_made, constant_made, copied_declared}
use Rattle.pli_coding.specs.Entries.{copied_type, copies_made, copy_address, copy_addressed, copy_filled, copy_length}
use Rattle.pli_coding.specs.Entries.{copy_made, copy_signature, extents_act, lower_taken, name_kept, texts_filled}
use Rattle.pli_coding.specs.Entries as E

-- ---- frames

unfoldable pub register_saved : Register → (n : ℕ) → Code
register_saved frame n = store_word frame (held n) (saved_register n)

unfoldable pub register_restored : (n : ℕ) → Code
register_restored n = load_word (held n) frame_register (saved_register n)

abbrev pub return_saved : Register → Code
return_saved frame = store_word frame return_register return_address

abbrev pub return_restored : Code
return_restored = load_word return_register frame_register return_address

unfoldable pub display_read : (n : ℕ) → Code
display_read n = load_word u1 a0 (display n)

unfoldable pub display_written : Register → (n : ℕ) → Code
display_written r n = store_word frame_register r (display n)

unfoldable pub display_kept : (n : ℕ) → Code
display_kept n = display_read n ++ display_written u1 n

unfoldable pub display_ended : (outer : ℕ) → Code
display_ended outer = display_written a0 outer

-- where the new frame is
unfoldable pub frame_placed : (words : ℕ) → Code
frame_placed words = plus u0 stack_register (pos (temporary_bytes words))

-- the running frame is the one below, and the lower stack goes on
unfoldable pub frame_linked : Code
frame_linked =
    store_word u0 frame_register frame_below
    ++ (load_word u1 frame_register lower_top ++ (move frame_register u0 ∷ store_word frame_register u1 lower_top))

unfoldable pub frame_measured : Code
frame_measured = BaseIn u1 ∷ subtract u1 frame_register u1 ∷ store_word frame_register u1 own_offset

unfoldable pub stack_raised : (level parameters : ℕ) → Code
stack_raised level parameters = plus stack_register frame_register (pos (fixed_size level parameters))

unfoldable pub stack_lowered : (words : ℕ) → Code
stack_lowered words = plus stack_register frame_register (neg_ℤ (pos (temporary_bytes words)))

unfoldable pub frame_left : Code
frame_left = load_word frame_register frame_register frame_below

-- ---- variables of the running block

abbrev pub own_variable : Environment → (index : ℕ) → Y.Variable
own_variable e index = record { class = Y.AutomaticClass; block = e.block; level = e.level; index = index }

abbrev pub own_declaration : Environment → (index : ℕ) → Y.DeclaredVariable
own_declaration e index = declaration_of e (own_variable e index)

-- the lower stack grows
unfoldable pub lower_grown : Code
lower_grown = lower_taken

-- ---- arguments

unfoldable pub list_placed : (level : ℕ) → Code
list_placed level = store_word frame_register a1 (pos (list_place level))

unfoldable pub list_measured : Code
list_measured = subtract a1 a1 frame_register ∷ add a1 a1 u1 ∷ store_word frame_register a1 list_offset

unfoldable pub argument_loaded : Register → (n word : ℕ) → Code
argument_loaded r n word = load_word r u5 (argument_at n word)

unfoldable pub place_kept : (n : ℕ) → Code
place_kept n = store_word u5 u1 (argument_at n 5)

-- ---- parameters that may stand for a copy

abbrev pub plain_type : List Y.Bounds → Y.LeafType → Option Y.LeafType
plain_type [] type = Some type
plain_type (b ∷ bs) type = None

-- the type of what has one leaf and no bounds
abbrev pub single_type : List Y.Leaf → Option Y.LeafType
single_type (l ∷ []) = plain_type l.bounds l.type
single_type _ = None

abbrev pub copied_single : (n : ℕ) → Y.DeclaredVariable → Option Y.LeafType → List Copied
copied_single n d None = []
copied_single n d (Some type) = copied_type n d type

-- ---- one copy

abbrev pub copied_of : (n : ℕ) → Y.DeclaredVariable → Y.LeafType → Copied
copied_of n d type = record { n = n; declared = d; type = type }

unfoldable pub signature_asked : (number : ℕ) → Datum → Code
signature_asked number places = number_in a0 number ++ OffsetOf a1 (DataPlace places) ∷ []

unfoldable pub signature_told : Code
signature_told = service 3 ++ (move u2 a1 ∷ move a1 a0 ∷ [])

abbrev pub star_signature : Environment → (n : ℕ) → Y.DeclaredVariable → Code
star_signature e n d =
    signature_asked (table_number e d) (size_datum Y.StarExtent d.leaves) ++ (argument_loaded a3 n 4 ++ signature_told)

unfoldable pub constant_signature : Environment → Y.DeclaredVariable → Code
constant_signature e d = number_in a1 (table_number e d) ++ number_in u2 (constant_size e.parts d)

unfoldable pub signature_found : Environment → Copied → Code
signature_found e c = copy_signature e c

unfoldable pub signature_kept : (n : ℕ) → Code
signature_kept n = store_word u5 a1 (argument_at n 4)

unfoldable pub copy_begun : Environment → Copied → Code
copy_begun e c = E.copy_begun e c

unfoldable pub name_taken : (n : ℕ) → Code
name_taken n =
    argument_loaded u0 n 0 ++ (argument_loaded u2 n 1 ++ (argument_loaded u3 n 2 ++ argument_loaded u4 n 3))

unfoldable pub value_taken : (n : ℕ) → Y.LeafType → Code
value_taken n type = E.value_taken n type

unfoldable pub copy_named : (n : ℕ) → Code
copy_named n = E.copy_named n

unfoldable pub copy_reached : Code
copy_reached = copy_addressed

unfoldable pub name_put : Code
name_put = copy_addressed ++ name_kept

unfoldable pub word_put : Y.LeafType → Code
word_put type = copy_addressed ++ stored type u4 copy_address

unfoldable pub copy_put : (n : ℕ) → Y.LeafType → Code
copy_put n type = copy_filled n type

unfoldable pub copy_whole : Environment → Copied → Code
copy_whole e c = copy_made e c

unfoldable pub copy_skipped : Environment → Copied → Code
copy_skipped e c = skip_where Test.Equal u4 zero_register (copy_made e c)

unfoldable pub one_copied : Environment → Copied → Code
one_copied e c = copies_made e (c ∷ [])

-- what is made for the nth parameter, which has a place among the block's variables
unfoldable pub parameter_copied : Environment → (n place : ℕ) → Code
parameter_copied e n place = copies_made e (copied_declared n (slice_get (variables_of_block e.program e.block) place))

-- ---- one text

unfoldable pub length_given : Y.Extent → Code
length_given size = copy_length size

unfoldable pub text_put : (mode : ℕ) → Y.Extent → Code
text_put mode size = length_given size ++ (move a0 u4 ∷ small a2 mode ∷ service 27)

unfoldable pub text_skipped : (mode : ℕ) → Y.Extent → Code
text_skipped mode size = skip_where Test.Equal u4 zero_register (text_put mode size)

unfoldable pub text_asked : (n mode : ℕ) → Y.Extent → Code
text_asked n mode size = argument_loaded u4 n 5 ++ text_skipped mode size

unfoldable pub parameter_filled : Environment → (n place : ℕ) → Code
parameter_filled e n place = texts_filled (copied_declared n (slice_get (variables_of_block e.program e.block) place))

-- ---- AUTOMATIC variables

unfoldable pub name_told : Environment → (place : ℕ) → Code
name_told e place = own_place e a0 (pos place)

unfoldable pub variable_begun : Environment → Y.DeclaredVariable → Code
variable_begun e d = number_in a1 (table_number e d) ++ initial_code a2 d

unfoldable pub data_told : Environment → (place : ℕ) → Code
data_told e place = own_place e a3 (pos (place + name_bytes))

unfoldable pub variable_asked : Code
variable_asked = small a4 0 ∷ service 7

unfoldable pub stack_behind : Environment → (place : ℕ) → Y.DeclaredVariable → Code
stack_behind e place d = plus stack_register frame_register (pos (min last_place (place + frame_bytes e.parts d)))

unfoldable pub constant_put : Environment → (place : ℕ) → Y.DeclaredVariable → Code
constant_put e place d = constant_made e place d

unfoldable pub extents_acted : (line : ℕ) → Y.DeclaredVariable → Code
extents_acted line d = extents_act line d.evaluations

unfoldable pub stack_named : (place : ℕ) → Code
stack_named place = plus stack_register frame_register (pos (place + name_bytes))

unfoldable pub bytes_waiting : Code
bytes_waiting = load_word u2 frame_register (bytes_word none_taken)

unfoldable pub adjustable_named : Y.DeclaredVariable → Code
adjustable_named d =
    load_word a1 frame_register (number_word none_taken)
    ++ (initial_code a2 d ++ (move a3 u1 ∷ small a4 0 ∷ service 7))

unfoldable pub adjustable_put : Environment → (line place : ℕ) → Y.DeclaredVariable → Code
adjustable_put e line place d = adjustable_made e line place d

unfoldable pub automatic_put : Environment → (line place : ℕ) → Y.DeclaredVariable → Code
automatic_put e line place d = automatic_made e line place d

-- the variable of an index
unfoldable pub variable_made : Environment → (line index : ℕ) → Y.DeclaredVariable → Code
variable_made e line index d =
    if is_automatic d.class
    then automatic_made e line (automatic_place e.parts e.program e.block e.level index) d
    else []
