-- The list of one argument, a number that is copied: six words of the frame of the block that calls. Words of a frame
-- are counted from its address down, so the list's first word is the last of them.
use Rattle.std.specs.Prelude.{ℕ, ◌-◌, ◌/◌, ◌%◌, ◌^◌, ◌==◌, Option, Some, None, List, [], ◌∷◌, ◌++◌, negsuc}
use Rattle.std.specs.Prelude.{if◌then◌else◌}
use Rattle.pli_coding.specs.Assembly.{Code}
use Rattle.pli_coding.specs.Instructions.{move, number, plus, small, store_word}
use Rattle.pli_coding.specs.Registers.{a0, a1, a2, frame_register, u1}
use Rattle.activation_relation.specs.FrameLaws.{with_waits}
use Rattle.activation_relation.specs.Layers.{Layer, Point}

-- ---- where it stands, and what is there

abbrev pub list_under : (frame : ℕ) → ℕ
list_under frame = frame - 24

-- where the procedure is called: the value, and that it is a copy
abbrev pub given_waits : (given : ℕ) → ℕ → Option ℕ
given_waits given n = if n == 5 then Some given else (if n == 0 then Some 1 else None)

-- once the copy is made: the name of a variable, which has a serial number of two words, and its signature's number
abbrev pub named_waits : (serial signature : ℕ) → ℕ → Option ℕ
named_waits serial signature n =
    if n == 5 then Some 1
    else (if n == 4 then Some 0
    else (if n == 3 then Some (serial % 2 ^ 32)
    else (if n == 2 then Some (serial / 2 ^ 32)
    else (if n == 1 then Some signature else (if n == 0 then Some 1 else None)))))

-- ---- points

abbrev pub layered : List Layer → Point → Point
layered ls p = record p { control = record p.control { layers = ls } }

-- nothing is told of the newest block's words, or only of the list in them
abbrev pub with_list : (ℕ → Option ℕ) → Layer → List Layer → Point → Point
with_list waits φ φs p = layered (with_waits waits φ ∷ φs) p

-- ---- the code that gives it: the value from a0, and that it is a copy; then the list, the number of texts, and the
-- frame of the block that declares the procedure

abbrev pub value_given : Code
value_given =
    store_word frame_register a0 (negsuc 23) ++ (small u1 1 ∷ store_word frame_register u1 (negsuc 3))

abbrev pub list_given : Code
list_given = plus a1 frame_register (negsuc 23) ++ (number a2 0 ++ (move a0 frame_register ∷ []))
