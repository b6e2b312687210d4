-- Frames and routines of extents that are small, and the law that those of each accepted source are.
use Rattle.std.specs.Prelude.{◌≡◌, ℕ, suc, ◌+◌, ◌*◌, ◌≤◌, List, []}
use Rattle.pli_language.specs.declared.token.Token.{Token}
use Rattle.pli_language.specs.Tokens.{Tokens}
use Rattle.pli_language.specs.Tree as T
use Rattle.pli_language.specs.Parsing.{Spells}
use Rattle.pli_language.specs.Declaring.{declaring_faults}
use Rattle.pli_typing.specs.TypedTree as Y
use Rattle.pli_typing.specs.Resolving.{typing_faults, typed_tree}
use Rattle.pli_meaning.specs.DeclaredShapes.{variables_of_block}
use Rattle.pli_language.specs.Heads.{most_parameters}
use Rattle.pli_coding.specs.Extents.{extent_words}
use Rattle.pli_coding.specs.Frames.{fixed_size, temporary_bytes}
use Rattle.pli_coding.specs.Procedures.{routine_words}
use Rattle.pli_frames.specs.Plans.{BlockFrame, planned}
use Rattle.well_formed_trees.specs.Every.{Every}
use Rattle.small_frames.specs.Light.{most_expression, most_extent}

-- the bytes of a frame beside its block's variables: temporaries, what is saved, the display and the parameters
abbrev pub fixed_bytes : BlockFrame → ℕ
fixed_bytes f = temporary_bytes f.words + fixed_size f.head.level f.parameters

-- the frame in which a routine evaluates a variable's extents, one level further in than the block that declares it
abbrev pub routine_bytes : (level : ℕ) → Y.DeclaredVariable → ℕ
routine_bytes level d = temporary_bytes (routine_words d) + fixed_size (suc level) 0

abbrev pub IsFrameWithin : (frame routine : ℕ) → Y.Program → BlockFrame → Type 0
IsFrameWithin frame routine program f =
    (fixed_bytes f ≤ frame)
    × Every (λ d. routine_bytes f.head.level d ≤ routine) (variables_of_block program f.head.number)

-- no block of a program has a larger frame, and no variable a larger routine
abbrev pub AreFramesWithin : (frame routine : ℕ) → Y.Program → Type 0
AreFramesWithin frame routine program = Every (IsFrameWithin frame routine program) (planned program)

-- so are those of each accepted source
abbrev pub AcceptedWithin : (frame routine : ℕ) → Type 0
AcceptedWithin frame routine =
    (s : List ℕ) (tokens : List Token) (tree : T.Tree) → Tokens s tokens → Spells s tokens tree
    → declaring_faults tree ≡ [] → typing_faults tree ≡ [] → AreFramesWithin frame routine (typed_tree tree)

-- ---- the most that they take

-- the heaviest expression, eight words for a statement, and two for each group around it
abbrev pub most_block_words : ℕ
most_block_words = (most_expression + 8) + 2 * 64

abbrev pub most_routine_words : ℕ
most_routine_words = extent_words + most_extent

abbrev pub most_frame_bytes : ℕ
most_frame_bytes = temporary_bytes most_block_words + fixed_size 16 most_parameters

abbrev pub most_routine_bytes : ℕ
most_routine_bytes = temporary_bytes most_routine_words + fixed_size 17 0

-- the law: whatever bounds are no smaller, each accepted source keeps them
abbrev pub AcceptedSmall : Type 0
AcceptedSmall =
    (frame routine : ℕ) → most_frame_bytes ≤ frame → most_routine_bytes ≤ routine → AcceptedWithin frame routine
