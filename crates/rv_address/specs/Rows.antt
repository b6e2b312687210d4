-- What is kept of the variables of each block.
use Rattle.std.specs.Prelude.{ℕ, ◌+◌, suc, min, List, [], ◌∷◌, map, Vec, unwrap_or, if◌then◌else◌}
use Rattle.std.specs.declared.alloc.Global.{Global}
use Rattle.rv_meaning.specs.Tables.{TableSignature, signature_words}
use Rattle.pli_language.specs.Keywords.{same_bytes}
use Rattle.pli_typing.specs.declared.typed.DeclaredVariable.{DeclaredVariable}
use Rattle.pli_typing.specs.TypedTree as Y
use Rattle.pli_typing.specs.TypedStatementView.{declared_variable_of}
use Rattle.pli_meaning.specs.DeclaredShapes.{declared_variable}
use Rattle.pli_coding.specs.Environments.{no_declaration}
use Rattle.pli_coding.specs.SignatureTable.{signature_of, number_in_table, table_of}
use Rattle.pli_coding.specs.Frames.{frame_bytes, last_place}
use Rattle.pli_coding.specs.Locating.{controlled_among, is_controlled}
use Rattle.pli_frames.specs.Parts.{parts}

abbrev pub rows_of : List (Vec DeclaredVariable Global) → List (List Y.DeclaredVariable)
rows_of rows = map (λ b. map declared_variable_of b.items) rows

abbrev pub one_controlled : Y.DeclaredVariable → ℕ
one_controlled d = if is_controlled d.class then 1 else 0

abbrev pub all_controlled : List (List Y.DeclaredVariable) → ℕ
all_controlled [] = 0
all_controlled (ds ∷ rest) = controlled_among ds + all_controlled rest

-- the number of each variable's signature
abbrev pub numbers_in : List TableSignature → List Y.DeclaredVariable → List ℕ
numbers_in table ds = map (λ d. number_in_table (signature_of d) table) ds

abbrev pub numbers_of : Y.Program → List (List ℕ)
numbers_of program = map (numbers_in (table_of program)) program.variables

-- the words of each signature, and the place of one of them, or the place behind all
abbrev pub words_of : List TableSignature → List (List ℕ)
words_of table = map signature_words table

abbrev pub place_in : List ℕ → List (List ℕ) → ℕ
place_in words [] = 0
place_in words (w ∷ ws) = if same_bytes words w then 0 else suc (place_in words ws)

abbrev pub items_of : Vec ℕ Global → List ℕ
items_of v = v.items

-- the table as it grows, each signature as its words
abbrev pub with_words : List ℕ → List (List ℕ) → List (List ℕ)
with_words words [] = words ∷ []
with_words words (w ∷ ws) = if same_bytes words w then w ∷ ws else w ∷ with_words words ws

abbrev pub with_row : List Y.DeclaredVariable → List (List ℕ) → List (List ℕ)
with_row [] table = table
with_row (d ∷ ds) table = with_row ds (with_words (signature_words (signature_of d)) table)

abbrev pub with_rows : List (List Y.DeclaredVariable) → List (List ℕ) → List (List ℕ)
with_rows [] table = table
with_rows (ds ∷ rest) table = with_rows rest (with_row ds table)

-- the numbers by such a table
abbrev pub numbers_in_words : List (List ℕ) → List Y.DeclaredVariable → List ℕ
numbers_in_words table ds = map (λ d. place_in (signature_words (signature_of d)) table) ds

abbrev pub number_rows : List (List ℕ) → List (List Y.DeclaredVariable) → List (List ℕ)
number_rows table rows = map (numbers_in_words table) rows

-- that of a variable
abbrev pub number_at : Y.Program → Y.Variable → ℕ
number_at program v = number_in_table (signature_of (unwrap_or (declared_variable program v) no_declaration)) (table_of program)

-- the bytes of a frame before each variable of a block, and those of all, as far as a frame counts them
abbrev pub sums_from : ℕ → List Y.DeclaredVariable → List ℕ
sums_from sum [] = sum ∷ []
sums_from sum (d ∷ ds) = sum ∷ sums_from (min last_place (sum + frame_bytes parts d)) ds

abbrev pub sum_rows : List (List Y.DeclaredVariable) → List (List ℕ)
sum_rows rows = map (sums_from 0) rows
