-- PUT EDIT of texts and of numbers by A, with a width or without: some of the data lists, beside those of numbers by F.
use Rattle.std.specs.Prelude.{ℕ, ◌+◌, ◌<◌, ◌≤◌, ◌≡◌, List, [], ◌∷◌, Option, ⊤, false, true}
use Rattle.pli_language.specs.Tree as T
use Rattle.pli_typing.specs.TypedTree as Y
use Rattle.pli_meaning.specs.Control.{Label}
use Rattle.pli_meaning.specs.Streaming.{format_items}
use Rattle.pli_serving.specs.ServiceState.{EditPlace}
use Rattle.pli_coding.specs.Registers.{held_registers}
use Rattle.pli_coding.specs.Statements.{stmt_code}
use Rattle.pli_coding.specs.Streams.{has_fixed, has_text}
use Rattle.run_steps.specs.Items.{Linked}
use Rattle.run_steps.specs.Reach.{cost}
use Rattle.program_runs.specs.Statements.{Block, DoesWith, HasAct, set_aside, size_with}
use Rattle.expression_runs.specs.Assignments.{setting_around}
use Rattle.expression_runs.specs.Values.{Setting}
use Rattle.text_runs.specs.Laws.{TextDoes}
use Rattle.text_runs.specs.Texts.{ErrorComes}
use Rattle.edit_runs.specs.Edits.{AreItems, IsFixed, IsSkipped, Item, ItemsDo, KnowsFormats, Pair, has_data}
use Rattle.edit_runs.specs.Edits.{put_items, texts_only, within}

-- a list of A items, one at least, and of control items
pub record IsTextual (fs : T.Formats) : Type 0 where
  pub fixed : has_fixed fs ≡ false
  pub text : has_text fs ≡ true
  pub are : AreItems texts_only (format_items fs)
  pub some : has_data (format_items fs) ≡ true

-- ---- the statement

-- one of its data lists: numbers by F, numbers by A, which shows their texts, or texts by A
pub data DataList : Type 0 where
  NumberList : Pair → DataList
  ShownList : Pair → DataList
  TextList : (first : Y.Text) → (more : List Y.Text) → T.Formats → DataList

abbrev pub text_items : List Y.Text → List Y.PutItem
text_items [] = []
text_items (x ∷ xs) = Y.PutValue (Y.TextValue x) ∷ text_items xs

abbrev pub list_pair : DataList → Y.PutPair
list_pair (NumberList x) = record { items = put_items (x.first ∷ x.more); formats = x.formats }
list_pair (ShownList x) = record { items = put_items (x.first ∷ x.more); formats = x.formats }
list_pair (TextList first more formats) = record { items = text_items (first ∷ more); formats = formats }

abbrev pub list_pairs : List DataList → List Y.PutPair
list_pairs [] = []
list_pairs (x ∷ xs) = list_pair x ∷ list_pairs xs

-- lines may be ended first
pub record DataPut : Type 0 where
  pub skip : Option ℕ
  pub first : DataList
  pub more : List DataList
  pub line : ℕ

abbrev pub data_put : DataPut → Y.Stmt
data_put x = Y.Put x.skip (list_pairs (x.first ∷ x.more)) x.line

-- the language lets numbers have from 1 to 31 bits
abbrev pub HavePrecisions : List Item → Type 0
HavePrecisions [] = ⊤
HavePrecisions (x ∷ xs) = ((0 < x.precision) × (x.precision ≤ 31)) × HavePrecisions xs

-- the block knows the format list, which is one of the kind of its data
abbrev pub IsList : Block → DataList → Type 0
IsList k (NumberList x) = IsFixed x.formats × KnowsFormats k x.formats
IsList k (ShownList x) = IsTextual x.formats × KnowsFormats k x.formats × HavePrecisions (x.first ∷ x.more)
IsList k (TextList first more formats) = IsTextual formats × KnowsFormats k formats

abbrev pub AreLists : Block → List DataList → Type 0
AreLists k [] = ⊤
AreLists k (x ∷ xs) = IsList k x × AreLists k xs

-- where it stands while so many words are set aside, how many registers its expressions need, and that one act pays
-- for each of them
pub record IsDataPut (words : ℕ) (k : Block) (labels : List Label) (x : DataPut) (index need most : ℕ) : Type 0 where
  pub act : HasAct k x.line
  pub skip : IsSkipped x.skip
  pub lists : AreLists k (x.first ∷ x.more)
  pub registers : need ≤ k.registers
  pub one : 1 ≤ k.registers
  pub held : k.registers ≤ held_registers
  pub error : (place : EditPlace) → ErrorComes (List ℕ) (within place (setting_around words k labels x.line most))
  pub statement :
      Linked k.call.surroundings.links k.call.code index (stmt_code k.environment (set_aside words) (data_put x))
  pub paid : size_with words k (data_put x) + most ≤ cost k.call.code

-- wherever the list is, each of its expressions leaves what it means
abbrev pub TextsDo : Setting → (need : ℕ) → List Y.Text → Type 0
TextsDo s need [] = ⊤
TextsDo s need (x ∷ xs) = ((place : EditPlace) → TextDoes [] (within place s) need x) × TextsDo s need xs

abbrev pub ListDoes : Setting → (need : ℕ) → DataList → Type 0
ListDoes s need (NumberList x) = ItemsDo s need (x.first ∷ x.more)
ListDoes s need (ShownList x) = ItemsDo s need (x.first ∷ x.more)
ListDoes s need (TextList first more formats) = TextsDo s need (first ∷ more)

abbrev pub ListsDo : Setting → (need : ℕ) → List DataList → Type 0
ListsDo s need [] = ⊤
ListsDo s need (x ∷ xs) = ListDoes s need x × ListsDo s need xs

abbrev pub DataPutsDo : Type 0
DataPutsDo =
    (words : ℕ) (k : Block) (labels : List Label) (x : DataPut) (index left' need most : ℕ) →
    IsDataPut words k labels x index need most →
    ListsDo (setting_around words k labels x.line most) need (x.first ∷ x.more) →
    DoesWith words k labels (data_put x) index left'
