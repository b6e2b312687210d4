-- Elements counted by their distance from the first, piece by piece.
use Rattle.std.specs.Prelude.{ℕ, ◌+◌, ◌-◌, pos, [], ◌∷◌, ◌++◌}
use Rattle.rv_meaning.specs.declared.instr.BranchTest.TheVariants as Test
use Rattle.pli_typing.specs.Signatures.{leaf_bytes, rounded_up}
use Rattle.pli_typing.specs.TypedTree as Y
use Rattle.pli_meaning.specs.DeclaredShapes.{kind_of}
use Rattle.pli_coding.specs.Registers.{u1, u2}
use Rattle.pli_coding.specs.Assembly.{JumpBack, Code, size_of}
use Rattle.pli_coding.specs.Instructions.{plus, skip_where}
use Rattle.pli_coding.specs.Environments.{Taken}
use Rattle.pli_coding.specs.Streams.{distance_counted}

abbrev pub element_passed : Y.LeafType → Code
element_passed type = plus u1 u1 (pos (rounded_up 4 (leaf_bytes (kind_of [] type))))

-- back to where so many words stood, until u1 is u2
unfoldable pub repeated_from : ℕ → Code → Code
repeated_from words code = code ++ skip_where Test.Equal u1 u2 (JumpBack (size_of code - words + 1) ∷ [])

-- what is done for each, which began where there were so many words, once more for the next one
unfoldable pub element_counted : ℕ → Taken → Y.Leaf → Code → Code
element_counted words t l code = repeated_from words (code ++ distance_counted t l)
