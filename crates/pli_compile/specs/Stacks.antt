-- How frames lie: what stands in one is apart, and as many as may be active fit memory's part for the stacks, with all AUTOMATIC data.
use Rattle.std.specs.Prelude.{◌≡◌, ℕ, suc, ◌+◌, ◌*◌, pos, ◌+ℤ◌, ◌<◌, ◌≤◌, List, [], ◌∷◌, length, slice_get, Some, ⊤}
use Rattle.std.specs.List.{sum}
use Rattle.run_keeper.specs.RunKeeper.{run_keeper}
use Rattle.pli_typing.specs.Signatures.{footprint, data_size, rounded_up, LeafKind, Area, Bounds, Leaf}
use Rattle.pli_typing.specs.TypedTree as Y
use Rattle.pli_meaning.specs.Contents.{Shape}
use Rattle.pli_meaning.specs.StorageState.{most_activations, most_automatic}
use Rattle.pli_coding.specs.Expressions.{ArgumentList, argument_place, argument_words}
use Rattle.pli_coding.specs.Frames.{argument_at, argument_bytes, display, fixed_size, frame_bytes, last_place}
use Rattle.pli_coding.specs.Frames.{list_place, name_bytes, variable_place, words_place}
use Rattle.pli_frames.specs.Parts.{parts}
use Rattle.pli_frames.specs.Plans.{BlockFrame}
use Rattle.pli_serving.specs.Arguments.{data_bytes}
use Rattle.well_formed_trees.specs.Every.{Every}
use Rattle.small_frames.specs.Small.{fixed_bytes, AreFramesWithin}

abbrev pub most_fixed_bytes : ℕ
most_fixed_bytes = 6400

abbrev pub most_routine_bytes : ℕ
most_routine_bytes = 3100

-- no block of the program has a larger frame beside its variables, and no variable a larger one of the routine that
-- evaluates its extents
abbrev pub HasSmallFrames : Y.Program → Type 0
HasSmallFrames program = AreFramesWithin most_fixed_bytes most_routine_bytes program

abbrev pub IsSmall : BlockFrame → Type 0
IsSmall f = fixed_bytes f ≤ most_fixed_bytes

abbrev pub IsRoutineSmall : (bytes : ℕ) → Type 0
IsRoutineSmall bytes = bytes ≤ most_routine_bytes

abbrev pub all_fixed_bytes : List BlockFrame → ℕ
all_fixed_bytes [] = 0
all_fixed_bytes (f ∷ fs) = fixed_bytes f + all_fixed_bytes fs

-- an AREA is a variable by itself, and has no dimensions
abbrev pub IsOneArea : LeafKind → List Bounds → Type 0
IsOneArea (Area n) bounds = bounds ≡ []
IsOneArea _ bounds = ⊤

abbrev pub HasOneArea : List Leaf → Type 0
HasOneArea (l ∷ []) = IsOneArea l.kind l.bounds
HasOneArea _ = ⊤

abbrev pub HaveOneArea : List Shape → Type 0
HaveOneArea [] = ⊤
HaveOneArea (s ∷ ss) = HasOneArea s.signature.leaves × HaveOneArea ss

-- what a generation of an AUTOMATIC variable takes: its name, and its data, an area's with its front
abbrev pub bytes_taken : Shape → ℕ
bytes_taken s = name_bytes + rounded_up 16 (data_bytes run_keeper s)

abbrev pub all_taken : List Shape → ℕ
all_taken [] = 0
all_taken (s ∷ ss) = bytes_taken s + all_taken ss

-- what they count for in the limit on automatic data
abbrev pub all_counted : List Shape → ℕ
all_counted [] = 0
all_counted (s ∷ ss) = footprint (data_size s.signature) + all_counted ss

-- the law: the frames of as many blocks as may be active, each with the frame of a routine that it called, if all are
-- small, fit the part of memory for the stacks together with all the data that the limit on automatic data allows
abbrev pub StacksFit : Type 0
StacksFit =
    (frames : List BlockFrame) (routines : List ℕ) (made : List Shape)
    → length frames ≤ most_activations → length routines ≤ most_activations
    → Every IsSmall frames → Every IsRoutineSmall routines → HaveOneArea made → all_counted made ≤ most_automatic
    → parts.stack_start + all_fixed_bytes frames + sum routines + all_taken made ≤ parts.stack_end

-- the law: what a variable takes in a frame lies before all that stands behind it, as far as places are counted
abbrev pub PlacesApart : Type 0
PlacesApart =
    (variables : List Y.DeclaredVariable) (at i j : ℕ) (d : Y.DeclaredVariable) → slice_get variables i ≡ Some d → i < j → variable_place parts at variables j < last_place
    → variable_place parts at variables i + frame_bytes parts d ≤ variable_place parts at variables j

-- the law: the address of the list of arguments stands behind the display and before the variables, and what an
-- argument takes in the list, a name and the number of its signature, before the next one
abbrev pub ParametersApart : Type 0
ParametersApart =
    (level parameters n : ℕ) → n < parameters
    → ((display level ≡ pos (list_place level)) × (list_place level + 4 ≤ fixed_size level parameters))
    × (argument_bytes * n + (name_bytes + 8) ≤ argument_bytes * suc n)

-- the law: a word of a list of arguments is where the caller stores it, counted from the list's address
abbrev pub ListsMet : Type 0
ListsMet =
    (l : ArgumentList) (n word : ℕ) → argument_words * n + word < l.words
    → words_place l.place l.words +ℤ argument_at n word ≡ argument_place l n word
