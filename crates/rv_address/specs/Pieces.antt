-- Pieces of the code of addresses.
use Rattle.std.specs.Prelude.{ℕ, ◌*◌, pos, List, [], ◌∷◌, ◌++◌}
use Rattle.rv_meaning.specs.declared.instr.BranchTest.TheVariants as Test
use Rattle.rv_meaning.specs.declared.instr.Register.{Register}
use Rattle.pli_typing.specs.TypedTree as Y
use Rattle.pli_meaning.specs.Codes.{subscript_code}
use Rattle.pli_coding.specs.Registers.{frame_register, a0, a1, u0, u1, u2, u3}
use Rattle.pli_coding.specs.Assembly.{BaseIn, Code}
use Rattle.pli_coding.specs.Instructions.{add, subtract, move, load_word, store_word, service, status_tested}
use Rattle.pli_coding.specs.Instructions.{skip_where, error_raised}
use Rattle.pli_coding.specs.Frames.{buffer_lower, buffer_upper, automatic_place, list_place}
use Rattle.pli_coding.specs.Environments.{Environment, Taken}
use Rattle.pli_coding.specs.Locating.{Address, frame_in, place_behind, waiting_number, bound_loaded, direct_base}
use Rattle.pli_coding.specs.Locating.{place_kept}
use Rattle.pli_coding.specs.Locating.{subscript_given, subscript_counted, subscripts_counted, element_added}

-- the distance of bounds that aren't both constant
abbrev pub range_held : Y.Bounds → (dimension : ℕ) → Code
range_held b dimension =
    bound_loaded u2 b.upper (buffer_upper dimension)
    ++ (bound_loaded u0 b.lower (buffer_lower dimension) ++ subtract u2 u2 u0 ∷ [])

abbrev pub subscript_tested : Code
subscript_tested = skip_where Test.GreaterOrEqualUnsigned u2 u1 (error_raised subscript_code)

-- the base of a STATIC variable's data
abbrev pub static_base : Environment → Register → Y.Variable → Code
static_base e r v = direct_base e r v Y.StaticClass

-- the place of a variable's name behind its base
abbrev pub direct_start : Environment → Y.Variable → Y.StorageClass → ℕ
direct_start e v Y.StaticClass = 0
direct_start e v _ = automatic_place e.parts e.program v.block v.level v.index

-- what stands behind a leaf that was found
abbrev pub found_added : Environment → Taken → Y.Leaf → (subscripts : Y.Numbers) → Code
found_added e t l subscripts = subscripts_counted e t 0 subscripts l.bounds
    ++ (BaseIn u0 ∷ add u3 u3 u0 ∷ element_added u3 l.type subscripts)

-- the address of a list of arguments
abbrev pub list_loaded : Environment → (level : ℕ) → Register → Code
list_loaded e level r = load_word r (frame_in e level r) (pos (list_place level))

-- the nth word of a name
abbrev pub word_loaded : Address → (n : ℕ) → Code
word_loaded from n = load_word u1 from.register (place_behind (4 * n) from.displacement)

abbrev pub word_stored : Address → (n : ℕ) → Code
word_stored to n = store_word to.register u1 (place_behind (4 * n) to.displacement)

-- what is kept of the newest generation, behind its offset and number
abbrev pub newest_kept : Taken → Code
newest_kept t = service 18 ++ (store_word frame_register a1 (waiting_number t) ++ (move a1 a0 ∷ status_tested))

-- one dimension
unfoldable pub dimension_counted : Environment → Taken → (dimension : ℕ) → Y.Number → (behind : Y.Numbers) → Y.Bounds
    → Code
dimension_counted e t dimension x behind b =
    place_kept dimension ++ (subscript_given e t x behind ++ subscript_counted dimension b)

-- from a subscript on
unfoldable pub some_counted : Environment → Taken → (dimension : ℕ) → Y.Number → (behind : Y.Numbers) → List Y.Bounds
    → Code
some_counted e t dimension x behind bs = subscripts_counted e t dimension (Y.NumberThen x behind) bs
