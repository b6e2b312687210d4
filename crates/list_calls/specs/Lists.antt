-- Lists of FIXED BINARY(31) arguments, each by copy or by reference: what is passed, what the caller's words tell of it,
-- and what becomes of a point where the parameters are bound.
use Rattle.std.specs.Prelude.{ℕ, ℤ, suc, ◌+◌, ◌*◌, ◌/◌, ◌%◌, ◌^◌, ◌≡◌, List, [], ◌∷◌, length, Option, ⊤}
use Rattle.pli_typing.specs.Signatures.{Fixed}
use Rattle.pli_typing.specs.TypedTree as Y
use Rattle.pli_meaning.specs.BasicValues.{BasicNumber, VariableName}
use Rattle.pli_meaning.specs.Making.{bound}
use Rattle.pli_meaning.specs.Raising.{Passed, PassedName, PassedValue}
use Rattle.pli_meaning.specs.StorageState.{Binding}
use Rattle.pli_coding.specs.Entries.{Copied, copies_of}
use Rattle.pli_coding.specs.Environments.{Environment}
use Rattle.pli_coding.specs.Locating.{table_number}
use Rattle.rv_meaning.specs.Words.{word}
use Rattle.activation_relation.specs.FrameLaws.{with_waits}
use Rattle.activation_relation.specs.Layers.{Layer, Point}
use Rattle.activation_relation.specs.Variables.{grown, with_made}
use Rattle.argument_runs.specs.Copies.{Copy, copy_made_of}
use Rattle.argument_runs.specs.Lists.{layered}
use Rattle.argument_runs.specs.Parameters.{parameter_shape}
use Rattle.word_runs.specs.Words.{with_word}

-- ---- what is passed: a value that is copied, or the name of what lives, with its signature's number

pub data Passing : Type 0 where
  PassesCopy : ℤ → Passing
  PassesName : (serial signature : ℕ) → Passing

abbrev pub passed_as : Passing → Passed
passed_as (PassesCopy z) = PassedValue (Fixed 31) (BasicNumber z)
passed_as (PassesName serial signature) = PassedName (VariableName serial) parameter_shape

abbrev pub all_passed : List Passing → List Passed
all_passed [] = []
all_passed (y ∷ ys) = passed_as y ∷ all_passed ys

abbrev pub copies_in : List Passing → ℕ
copies_in [] = 0
copies_in (PassesCopy z ∷ ys) = suc (copies_in ys)
copies_in (PassesName serial signature ∷ ys) = copies_in ys

-- ---- what the caller's words tell of an argument whose part of the list ends with a word

abbrev pub Told : Type 0
Told = ℕ → Option ℕ

-- a value, and that it is a copy
abbrev pub value_told : (last given : ℕ) → Told → Told
value_told last given before = with_word last 1 (with_word (last + 5) given before)

-- a name, its signature's number, and whether it is that of a copy
abbrev pub name_told : (last serial signature mark : ℕ) → Told → Told
name_told last serial signature mark before =
    with_word last mark
    (with_word (last + 1) signature
    (with_word (last + 2) (serial / 2 ^ 32)
    (with_word (last + 3) (serial % 2 ^ 32) (with_word (last + 4) 0 (with_word (last + 5) 1 before)))))

abbrev pub part_told : (last : ℕ) → Passing → Told → Told
part_told last (PassesCopy z) before = value_told last (word z) before
part_told last (PassesName serial signature) before = name_told last serial signature 0 before

-- the list stands in words behind those that are set aside already, six for each argument; words of a frame are counted
-- from its address down, so the last argument comes first
abbrev pub list_told : (words : ℕ) → List Passing → Told → Told
list_told words [] before = before
list_told words (y ∷ ys) before = list_told words ys (part_told (words + 6 * length ys) y before)

-- ---- the parameters: their places among the procedure's variables, and the numbers of their signatures

pub record Parameter : Type 0 where
  pub index : ℕ
  pub declared : Y.DeclaredVariable
  pub number : ℕ

abbrev pub indices_of : List Parameter → List ℕ
indices_of [] = []
indices_of (x ∷ xs) = x.index ∷ indices_of xs

abbrev pub copied_from : (n : ℕ) → List Parameter → List Copied
copied_from n [] = []
copied_from n (x ∷ xs) = record { n = n; declared = x.declared; type = Y.FixedLeaf 31 } ∷ copied_from (suc n) xs

abbrev pub AreSigned : Environment → List Parameter → Type 0
AreSigned e [] = ⊤
AreSigned e (x ∷ xs) =
    (table_number e x.declared ≡ x.number)
    × (x.declared.leaves ≡ record { type = Y.FixedLeaf 31; bounds = []; initial = [] } ∷ []) × AreSigned e xs

-- its procedure has these parameters
pub record AreTaken (e : Environment) (xs : List Parameter) : Type 0 where
  pub copies : copies_of e (indices_of xs) ≡ copied_from 0 xs
  pub signed : AreSigned e xs

-- ---- they are bound, one after the other

abbrev pub copy_with : Parameter → ℤ → Copy
copy_with x z = record { index = x.index; number = x.number; value = z }

-- the data of a copy stand at the top of the lower stack, and its name takes the place of the value
abbrev pub copied_at : (last : ℕ) → Layer → Layer → List Layer → Copy → Point → Point
copied_at last ψ φ φs x p =
    with_made (copy_made_of ψ x)
    (layered (ψ ∷ with_waits (name_told last (p.state.serials + 1) x.number 1 φ.waits) φ ∷ φs) p)

-- a name is stood for as it is
abbrev pub named_as : Parameter → (serial : ℕ) → Point → Point
named_as x serial p = record p { state = bound x.index (VariableName serial) parameter_shape p.state }

-- where the procedure has the layer ψ and its caller φ
abbrev pub bound_all : (words : ℕ) → List Parameter → List Passing → Layer → Layer → List Layer → Point → Point
bound_all words [] ys ψ φ φs p = p
bound_all words (x ∷ xs) [] ψ φ φs p = p
bound_all words (x ∷ xs) (PassesCopy z ∷ ys) ψ φ φs p =
    bound_all words xs ys (grown (copy_made_of ψ (copy_with x z)) ψ)
    (with_waits (name_told (words + 6 * length ys) (p.state.serials + 1) x.number 1 φ.waits) φ) φs
    (copied_at (words + 6 * length ys) ψ φ φs (copy_with x z) p)
bound_all words (x ∷ xs) (PassesName serial signature ∷ ys) ψ φ φs p =
    bound_all words xs ys ψ φ φs (named_as x serial p)

-- the procedure's layer then, what the caller's words tell, and what the parameters stand for
abbrev pub bound_layer : List Parameter → List Passing → Layer → Layer
bound_layer [] ys ψ = ψ
bound_layer (x ∷ xs) [] ψ = ψ
bound_layer (x ∷ xs) (PassesCopy z ∷ ys) ψ = bound_layer xs ys (grown (copy_made_of ψ (copy_with x z)) ψ)
bound_layer (x ∷ xs) (PassesName serial signature ∷ ys) ψ = bound_layer xs ys ψ

abbrev pub bound_told : (words serials : ℕ) → List Parameter → List Passing → Told → Told
bound_told words serials [] ys told = told
bound_told words serials (x ∷ xs) [] told = told
bound_told words serials (x ∷ xs) (PassesCopy z ∷ ys) told =
    bound_told words (serials + 1) xs ys (name_told (words + 6 * length ys) (serials + 1) x.number 1 told)
bound_told words serials (x ∷ xs) (PassesName serial signature ∷ ys) told = bound_told words serials xs ys told

abbrev pub binding_as : Parameter → (serial : ℕ) → Binding
binding_as x serial = record { variable = x.index; name = VariableName serial; shape = parameter_shape }

abbrev pub bindings_with : (serials : ℕ) → List Parameter → List Passing → List Binding → List Binding
bindings_with serials [] ys bs = bs
bindings_with serials (x ∷ xs) [] bs = bs
bindings_with serials (x ∷ xs) (PassesCopy z ∷ ys) bs =
    bindings_with (serials + 1) xs ys (binding_as x (serials + 1) ∷ bs)
bindings_with serials (x ∷ xs) (PassesName serial signature ∷ ys) bs =
    bindings_with serials xs ys (binding_as x serial ∷ bs)
