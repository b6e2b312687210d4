-- What the REFER member of a generation tells, by what its signature says of it.
use Rattle.std.specs.Prelude.{ℕ, ◌+◌, ℤ, pos, int_le, ◌&&◌, ◌==◌, List, [], ◌∷◌, length, Option, Some, None, if◌then◌else◌}
use Rattle.rv_meaning.specs.Words.{word}
use Rattle.pli_typing.specs.Signatures.{Bounds, Leaf}
use Rattle.pli_typing.specs.TypedTree.{Part}
use Rattle.pli_meaning.specs.Codes.{extent_code}
use Rattle.pli_meaning.specs.Contents.{Shape, number_in}
use Rattle.pli_meaning.specs.Evaluating.{extent_in_force}
use Rattle.pli_meaning.specs.Unreachable.{unreachable_leaf}
use Rattle.pli_serving.specs.Answers.{Answer, Done, Bad}
use Rattle.pli_serving.specs.Arguments.{shape_of_number, where_found}
use Rattle.pli_serving.specs.Bytes.{is_data, number_bytes, with_bytes}
use Rattle.pli_serving.specs.Finding.{Call, Finding, Found}
use Rattle.pli_serving.specs.Names.{refer_answered}
use Rattle.pli_serving.specs.Outcomes.{or_bad}
use Rattle.pli_serving.specs.Values.{generation_at}

-- ---- the service from the place on where the generation is known

abbrev pub whole_part : Shape → Part
whole_part s = record { first = 0; count = length s.signature.leaves }

abbrev pub refer_of_shape : Call → (name buffer : ℕ) → Found → Shape → Answer
refer_of_shape c name buffer f s = refer_answered c s name buffer (extent_in_force (generation_at s f.extent f.at c.memory) (whole_part s))

abbrev pub refer_of_found : Call → (name buffer : ℕ) → Found → Answer
refer_of_found c name buffer f = or_bad (shape_of_number c f.signature) (refer_of_shape c name buffer f)

abbrev pub refer_of_finding : Call → (name buffer : ℕ) → Option Finding → Answer
refer_of_finding c name buffer o = where_found o Bad (refer_of_found c name buffer)

-- ---- what is read

-- the number that a member of a generation holds
abbrev pub member_of : Shape → Found → (member : ℕ) → (memory : List ℕ) → ℤ
member_of s f member m = number_in ((generation_at s f.extent f.at m).values member [])

abbrev pub member_number : Option Shape → Found → (member : ℕ) → (memory : List ℕ) → ℤ
member_number None f member m = pos 0
member_number (Some s) f member m = member_of s f member m

-- the last leaf, one without bounds where there is none
abbrev pub last_of : List Leaf → Leaf
last_of [] = unreachable_leaf
last_of (l ∷ []) = l
last_of (l ∷ m ∷ ls) = last_of (m ∷ ls)

abbrev pub first_lower : List Bounds → Option ℤ
first_lower [] = None
first_lower (b ∷ bs) = Some b.lower

-- ---- by the first lower bound of the last leaf

-- the least that a member may tell
abbrev pub least_by : Option ℤ → ℤ
least_by None = pos 0
least_by (Some z) = z

-- where the extent stands in the leaf's description
abbrev pub word_by : Option ℤ → ℕ
word_by None = 4
word_by (Some z) = 12

-- the memory with the extent in a description, if there is one
abbrev pub extent_kept : Call → (buffer place : ℕ) → ℤ → Option (List ℕ)
extent_kept c buffer place z =
    if buffer == 0 then Some c.memory
    else (if is_data c.layout (buffer + place) 4 then Some (with_bytes (number_bytes 4 (word z)) (buffer + place) c.memory) else None)

abbrev pub told_answered : Call → (name buffer : ℕ) → (extent z : ℤ) → (lower : Option ℤ) → Answer
told_answered c name buffer extent z lower =
    if int_le (least_by lower) z && int_le z extent
    then or_bad (extent_kept c buffer (word_by lower) z) (λ m. Done c.services m (word z) 0)
    else Done c.services c.memory name extent_code
