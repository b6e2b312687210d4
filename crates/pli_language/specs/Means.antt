-- Means: which declaration names written in a block belong to.
use Rattle.std.specs.Prelude.{ℕ, ◌+◌, Bool, true, false, ◌&&◌, List, [], ◌∷◌, map, if◌then◌else◌, slice_get, Option, Some, None}
use Rattle.pli_language.specs.declared.scope.Found.{Found}
use Rattle.pli_language.specs.declared.scope.Found.TheVariants as F
use Rattle.pli_language.specs.Keywords.{same_bytes}
use Rattle.pli_language.specs.Declarations.{Declaration, What, Variable', Label, ProcedureName, Block}

-- the letters of the names of the structures that hold what is declared, outermost first
abbrev pub qualifiers_of : What → List (List ℕ)
qualifiers_of (Variable' h) = map (λ v. v.declared.name.letters) h.above
qualifiers_of Label = []
qualifiers_of (ProcedureName head) = []

-- qs is ns with some left out
abbrev pub is_part : List (List ℕ) → List (List ℕ) → Bool
is_part [] ns = true
is_part (q ∷ qs) [] = false
is_part (q ∷ qs) (n ∷ ns) = if same_bytes q n then is_part qs ns else is_part (q ∷ qs) ns

abbrev pub same_names : List (List ℕ) → List (List ℕ) → Bool
same_names [] [] = true
same_names [] (n ∷ ns) = false
same_names (q ∷ qs) [] = false
same_names (q ∷ qs) (n ∷ ns) = same_bytes q n && same_names qs ns

-- a reference with these qualifiers and this last name may mean the declaration; it means it by its full name
abbrev pub is_match : List (List ℕ) → List ℕ → Declaration → Bool
is_match qualifiers last d = same_bytes last d.name.letters && is_part qualifiers (qualifiers_of d.what)

abbrev pub is_full_match : List (List ℕ) → List ℕ → Declaration → Bool
is_full_match qualifiers last d = same_bytes last d.name.letters && same_names qualifiers (qualifiers_of d.what)

-- where the test holds, the first place having this number
abbrev pub places : (Declaration → Bool) → ℕ → List Declaration → List ℕ
places test from [] = []
places test from (d ∷ ds) = if test d then from ∷ places test (from + 1) ds else places test (from + 1) ds

-- the full match, else the only match
abbrev pub chosen : ℕ → List ℕ → List ℕ → Found
chosen block (full ∷ more) matches = F.One (record { block = block; index = full })
chosen block [] [] = F.None
chosen block [] (only ∷ []) = F.One (record { block = block; index = only })
chosen block [] (match ∷ other ∷ more) = F.Ambiguous

-- what they mean in this block, whose declarations are these
abbrev pub means_in : List (List ℕ) → List ℕ → ℕ → List Declaration → Found
means_in qualifiers last block ds = chosen block (places (is_full_match qualifiers last) 0 ds) (places (is_match qualifiers last) 0 ds)

abbrev pub declarations_of : Option Block → List Declaration
declarations_of None = []
declarations_of (Some block) = block.declarations

abbrev pub around_of : Option Block → List ℕ
around_of None = []
around_of (Some block) = block.around

-- the first answer that isn't none
abbrev pub or_else : Found → Found → Found
or_else (F.One d) other = F.One d
or_else F.Ambiguous other = F.Ambiguous
or_else F.None other = other

-- the innermost of these blocks in which a declaration matches
unfoldable pub means_from : List Block → List ℕ → List (List ℕ) → List ℕ → Found
means_from blocks [] qualifiers last = F.None
means_from blocks (b ∷ around) qualifiers last =
    or_else (means_in qualifiers last b (declarations_of (slice_get blocks b))) (means_from blocks around qualifiers last)

-- what a reference with these qualifiers and this last name means in the block with this number
abbrev pub means : List Block → ℕ → List (List ℕ) → List ℕ → Found
means blocks block qualifiers last = means_from blocks (around_of (slice_get blocks block)) qualifiers last

-- all names but the last, and the last
abbrev pub all_but_last : List ℕ → List (List ℕ) → List (List ℕ)
all_but_last n [] = []
all_but_last n (m ∷ ms) = n ∷ all_but_last m ms

abbrev pub last_of : List ℕ → List (List ℕ) → List ℕ
last_of n [] = n
last_of n (m ∷ ms) = last_of m ms

-- what names with points between them mean in a block
abbrev pub names_mean : List Block → ℕ → List (List ℕ) → Found
names_mean blocks block [] = F.None
names_mean blocks block (n ∷ ns) = means blocks block (all_but_last n ns) (last_of n ns)
