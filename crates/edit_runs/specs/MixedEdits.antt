-- PUT EDIT of numbers and texts by any list with data items, F items, A items or both: each value is shown by the item
-- that is next where it is due.
use Rattle.std.specs.Prelude.{ℕ, ◌+◌, ◌<◌, ◌≤◌, ◌≡◌, ℤ, List, [], ◌∷◌, Option, ⊤, true}
use Rattle.pli_language.specs.Tree as T
use Rattle.pli_typing.specs.TypedTree as Y
use Rattle.pli_meaning.specs.Control.{Label}
use Rattle.pli_meaning.specs.Streaming.{format_items}
use Rattle.pli_serving.specs.ServiceState.{EditPlace}
use Rattle.pli_coding.specs.Registers.{held_registers}
use Rattle.pli_coding.specs.Statements.{stmt_code}
use Rattle.pli_coding.specs.Streams.{has_text}
use Rattle.run_steps.specs.Items.{Linked}
use Rattle.run_steps.specs.Reach.{cost}
use Rattle.program_runs.specs.Statements.{Block, DoesWith, HasAct, set_aside, size_with}
use Rattle.expression_runs.specs.Assignments.{setting_around}
use Rattle.expression_runs.specs.Laws as L
use Rattle.expression_runs.specs.Values.{Setting}
use Rattle.text_runs.specs.Laws.{TextDoes}
use Rattle.text_runs.specs.Texts.{ErrorComes}
use Rattle.edit_runs.specs.Edits.{IsSkipped, Item, KnowsFormats, has_data, within}

-- one of its values
pub data Shown : Type 0 where
  NumberShown : Item → Shown
  TextShown : Y.Text → Shown

abbrev pub shown_item : Shown → Y.PutItem
shown_item (NumberShown x) = Y.PutValue (Y.NumberValue x.precision x.source)
shown_item (TextShown x) = Y.PutValue (Y.TextValue x)

abbrev pub shown_items : List Shown → List Y.PutItem
shown_items [] = []
shown_items (x ∷ xs) = shown_item x ∷ shown_items xs

-- one of its data lists
pub record MixedList : Type 0 where
  pub first : Shown
  pub more : List Shown
  pub formats : T.Formats

abbrev pub mixed_pairs : List MixedList → List Y.PutPair
mixed_pairs [] = []
mixed_pairs (x ∷ xs) = record { items = shown_items (x.first ∷ x.more); formats = x.formats } ∷ mixed_pairs xs

-- lines may be ended first
pub record MixedPut : Type 0 where
  pub skip : Option ℕ
  pub first : MixedList
  pub more : List MixedList
  pub line : ℕ

abbrev pub mixed_put : MixedPut → Y.Stmt
mixed_put x = Y.Put x.skip (mixed_pairs (x.first ∷ x.more)) x.line

-- a list with A items shows as many places of a number as its precision wants: the language lets it have 1 to 31 bits
abbrev pub HavePlaces : List Shown → Type 0
HavePlaces [] = ⊤
HavePlaces (NumberShown x ∷ xs) = ((0 < x.precision) × (x.precision ≤ 31)) × HavePlaces xs
HavePlaces (TextShown x ∷ xs) = HavePlaces xs

-- the block knows the format list, which has a data item
pub record IsMixed (k : Block) (x : MixedList) : Type 0 where
  pub some : has_data (format_items x.formats) ≡ true
  pub knows : KnowsFormats k x.formats
  pub places : has_text x.formats ≡ true → HavePlaces (x.first ∷ x.more)

abbrev pub AreMixed : Block → List MixedList → Type 0
AreMixed k [] = ⊤
AreMixed k (x ∷ xs) = IsMixed k x × AreMixed k xs

-- where it stands while so many words are set aside, how many registers its expressions need, and that one act pays
-- for each of them; a field that is too narrow, and a text that shows no number, are ERRORs
pub record IsMixedPut (words : ℕ) (k : Block) (labels : List Label) (x : MixedPut) (index need most : ℕ)
    : Type 0
  where
    pub act : HasAct k x.line
    pub skip : IsSkipped x.skip
    pub lists : AreMixed k (x.first ∷ x.more)
    pub registers : need ≤ k.registers
    pub one : 1 ≤ k.registers
    pub held : k.registers ≤ held_registers
    pub narrow : (place : EditPlace) → ErrorComes (List ℕ) (within place (setting_around words k labels x.line most))
    pub shown : (place : EditPlace) → ErrorComes ℤ (within place (setting_around words k labels x.line most))
    pub statement :
        Linked k.call.surroundings.links k.call.code index (stmt_code k.environment (set_aside words) (mixed_put x))
    pub paid : size_with words k (mixed_put x) + most ≤ cost k.call.code

-- wherever the list is, each of its expressions leaves what it means
abbrev pub AllDo : Setting → (need : ℕ) → List Shown → Type 0
AllDo s need [] = ⊤
AllDo s need (NumberShown x ∷ xs) = ((place : EditPlace) → L.Does (within place s) need x.source) × AllDo s need xs
AllDo s need (TextShown x ∷ xs) = ((place : EditPlace) → TextDoes [] (within place s) need x) × AllDo s need xs

abbrev pub MixedDo : Setting → (need : ℕ) → List MixedList → Type 0
MixedDo s need [] = ⊤
MixedDo s need (x ∷ xs) = AllDo s need (x.first ∷ x.more) × MixedDo s need xs

abbrev pub MixedPutsDo : Type 0
MixedPutsDo =
    (words : ℕ) (k : Block) (labels : List Label) (x : MixedPut) (index left' need most : ℕ) →
    IsMixedPut words k labels x index need most →
    MixedDo (setting_around words k labels x.line most) need (x.first ∷ x.more) →
    DoesWith words k labels (mixed_put x) index left'
