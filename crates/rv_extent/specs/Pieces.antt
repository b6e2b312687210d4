-- Pieces of the code of extents.
use Rattle.std.specs.Prelude.{ℕ, Bool, false, nat_lt, List, [], ◌++◌}
use Rattle.rv_meaning.specs.declared.instr.Register.{Register}
use Rattle.pli_typing.specs.TypedTree as Y
use Rattle.pli_coding.specs.Registers.{frame_register, a0, a1, a3}
use Rattle.pli_coding.specs.Assembly.{Code}
use Rattle.pli_coding.specs.Instructions.{constant, number, load_word, store_word}
use Rattle.pli_coding.specs.Frames.{greatest_area, capacity_of}
use Rattle.pli_coding.specs.StaticForms.{size_datum}
use Rattle.pli_coding.specs.Environments.{Environment, Taken, with_words}
use Rattle.pli_coding.specs.Expressions.{number_code}
use Rattle.pli_coding.specs.Extents.{number_word, bytes_word, lower_word, refer_word, extent_words, filled_in, checked_code, is_kept_by, constants_filled, evaluations_code}

-- ---- the four words

abbrev pub signature_loaded : Taken → Register → Code
signature_loaded t r = load_word r frame_register (number_word t)

abbrev pub signature_kept : Taken → Code
signature_kept t = store_word frame_register a0 (number_word t)

abbrev pub bytes_kept : Taken → Code
bytes_kept t = store_word frame_register a1 (bytes_word t)

abbrev pub lower_kept : Taken → Code
lower_kept t = store_word frame_register a0 (lower_word t)

abbrev pub lower_waiting : Taken → Register → Code
lower_waiting t r = load_word r frame_register (lower_word t)

abbrev pub amount_kept : Taken → Code
amount_kept t = store_word frame_register a3 (refer_word t)

abbrev pub amount_waiting : Taken → Code
amount_waiting t = load_word a1 frame_register (refer_word t)

-- ---- constant sizes of areas

abbrev pub is_greater_area : Y.Extent → Bool
is_greater_area (Y.ConstantExtent z) = nat_lt greatest_area (capacity_of z)
is_greater_area _ = false

abbrev pub extent_loaded : Register → Y.Extent → Code
extent_loaded r (Y.ConstantExtent z) = constant r z
extent_loaded r _ = []

abbrev pub greater_filled : Taken → List Y.Leaf → Y.Extent → Code
greater_filled t leaves size = extent_loaded a3 size ++ filled_in t (size_datum size leaves)

-- ---- one evaluation, and all

unfoldable pub evaluation_code : Environment → Taken → Y.DeclaredVariable → (place : ℕ) → Y.Evaluation → Code
evaluation_code e t d place x =
    number_code e (with_words extent_words t) x.value ++ checked_code t place (is_kept_by place d.refer) d.leaves x.check

unfoldable pub number_begun : Taken → (number : ℕ) → Code
number_begun t n = number a0 n ++ signature_kept t

-- with the number that the table has
unfoldable pub declared_extents : Environment → Taken → (number : ℕ) → Y.DeclaredVariable → Code
declared_extents e t n d = number_begun t n ++ (constants_filled t d.leaves ++ evaluations_code e t d 0 d.evaluations)
