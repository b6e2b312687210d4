-- How many leaves stand before and among the members of a variable, by counts that are made once.
use Rattle.std.specs.Prelude.{ℕ, ◌+◌, ◌-◌, List, [], ◌∷◌, length, take, drop, slice_get, unwrap_or}
use Rattle.pli_language.specs.Declarations.{Held}
use Rattle.pli_typing.specs.TypedTree as Y
use Rattle.pli_typing.specs.Variables.{leaves_in, with_members}

-- how many leaves stand from each of these on
abbrev pub counts_in : List Held → List ℕ
counts_in [] = []
counts_in (h ∷ hs) = length (leaves_in (h ∷ hs)) ∷ counts_in hs

-- none stand behind the last
abbrev pub count_at : List ℕ → ℕ → ℕ
count_at counts i = unwrap_or (slice_get counts i) 0

-- the part that those are that stand from one place to another
abbrev pub part_between : List ℕ → ℕ → ℕ → Y.Part
part_between counts i j = record { first = count_at counts 0 - count_at counts i; count = count_at counts i - count_at counts j }

-- the part that the first of these is with its members, where they stand at the end of all
abbrev pub part_behind : List ℕ → List Held → List Held → Y.Part
part_behind counts all from = part_between counts (length all - length from) (length all - length from + length (with_members from))

-- the leaves of a part of a variable with these
abbrev pub leaves_at : {X : Type 0} → Y.Part → List X → List X
leaves_at part leaves = take part.count (drop part.first leaves)
