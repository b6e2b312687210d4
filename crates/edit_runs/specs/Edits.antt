-- PUT EDIT of numbers by F: places in format lists at the points of a block, and where the format lists stand.
use Rattle.std.specs.Prelude.{ℕ, Bool, ◌+◌, ◌^◌, ◌<◌, ◌≤◌, ◌≡◌, List, [], ◌∷◌, Option, None, Some, true, false, ⊤}
use Rattle.pli_language.specs.Tree as T
use Rattle.pli_typing.specs.TypedTree as Y
use Rattle.pli_meaning.specs.Control.{Label}
use Rattle.pli_meaning.specs.Streaming.{ControlFormat, DataFormat, DataItem, FixedItem, FormatItem, TextItem}
use Rattle.pli_meaning.specs.Streaming.{format_items}
use Rattle.pli_serving.specs.FormatLists.{formats_at}
use Rattle.pli_serving.specs.ServiceState.{EditPlace, Putting, Services}
use Rattle.pli_coding.specs.Assembly.{DataPlace}
use Rattle.pli_coding.specs.Linking.{place_of}
use Rattle.pli_coding.specs.Registers.{held_registers}
use Rattle.pli_coding.specs.Statements.{stmt_code}
use Rattle.pli_coding.specs.StaticForms.{formats_datum}
use Rattle.pli_coding.specs.Streams.{has_fixed, has_text}
use Rattle.storage_relation.specs.Served.{Holds}
use Rattle.activation_relation.specs.Layers.{Point, now}
use Rattle.run_steps.specs.Engine.{call_at}
use Rattle.run_steps.specs.Items.{Linked}
use Rattle.run_steps.specs.Reach.{cost}
use Rattle.program_runs.specs.Calls.{Callee}
use Rattle.program_runs.specs.Statements.{Block, DoesWith, HasAct, IsAmong, IsBegun, set_aside, size_with}
use Rattle.expression_runs.specs.Assignments.{setting_around}
use Rattle.expression_runs.specs.Laws as L
use Rattle.expression_runs.specs.Raises.{IsUnraised}
use Rattle.expression_runs.specs.Values.{Setting}
use Rattle.expression_runs.specs.Variables.{IsNumber, Spot}
use Rattle.function_runs.specs.FunctionCalls.{IsFunctionCall}
use Rattle.text_runs.specs.Texts.{ErrorComes, IsErrorless}
use Rattle.edit_runs.specs.Writing.{with_edits}

-- ---- places in format lists

-- in a list of PUT, of which so much is left
abbrev pub putting : (whole rest : List FormatItem) → EditPlace
putting whole rest = record { direction = Putting; whole = whole; rest = rest }

-- the block, at whose points this place stands above those at its first statement
abbrev pub placing : EditPlace → Block → Block
placing place k = record k { first = with_edits (place ∷ k.first.control.edits) k.first }

-- around what is evaluated there, and names no label of the block itself: a jump to one drops the place
abbrev pub within : EditPlace → Setting → Setting
within place s = record s { block = placing place s.block; labels = [] }

-- what is known of a block, and around its expressions, is known there
pub record PlacesWait : Type 0 where
  pub begun : (k : Block) (place : EditPlace) → IsBegun k → IsBegun (placing place k)
  pub number : (k : Block) (place : EditPlace) (x : Spot) → IsNumber k x → IsNumber (placing place k) x
  pub unraised : (s : Setting) (place : EditPlace) → IsUnraised s → IsUnraised (within place s)
  pub errorless : (s : Setting) (place : EditPlace) → IsErrorless s → IsErrorless (within place s)
  pub call :
      (s : Setting) (place : EditPlace) (c : Callee) (more : ℕ) → IsFunctionCall s c more →
      IsFunctionCall (within place s) c more

-- ---- format lists

-- their data items are F items
abbrev pub AreFixed : List FormatItem → Type 0
AreFixed [] = ⊤
AreFixed (DataFormat (FixedItem width) ∷ items) = AreFixed items
AreFixed (ControlFormat item ∷ items) = AreFixed items
AreFixed (x ∷ items) = ⊥

abbrev pub has_data : List FormatItem → Bool
has_data [] = false
has_data (DataFormat item ∷ items) = true
has_data (ControlFormat item ∷ items) = has_data items

-- which data items a list has: F items, A items, or both
pub record Kinds : Type 0 where
  pub fixed : Bool
  pub text : Bool

abbrev pub numbers_only : Kinds
numbers_only = record { fixed = true; text = false }

abbrev pub texts_only : Kinds
texts_only = record { fixed = false; text = true }

abbrev pub kinds_of : T.Formats → Kinds
kinds_of fs = record { fixed = has_fixed fs; text = has_text fs }

abbrev pub IsItem : Kinds → DataItem → Type 0
IsItem kinds (FixedItem width) = kinds.fixed ≡ true
IsItem kinds (TextItem width) = kinds.text ≡ true

-- their data items are of these kinds
abbrev pub AreItems : Kinds → List FormatItem → Type 0
AreItems kinds [] = ⊤
AreItems kinds (DataFormat item ∷ items) = IsItem kinds item × AreItems kinds items
AreItems kinds (ControlFormat item ∷ items) = AreItems kinds items

-- a list of F items, one at least, and of control items
pub record IsFixed (fs : T.Formats) : Type 0 where
  pub fixed : has_fixed fs ≡ true
  pub text : has_text fs ≡ false
  pub are : AreFixed (format_items fs)
  pub some : has_data (format_items fs) ≡ true

-- service 34 finds the list where code looks for it, whatever else the services know
pub record HasFormats (k : Block) (fs : T.Formats) (m : List ℕ) : Type 0 where
  pub near : place_of k.call.surroundings.links (DataPlace (formats_datum fs)) < 2 ^ 32
  pub read :
      (v : Services) →
      formats_at (call_at k.call.code v m) (place_of k.call.surroundings.links (DataPlace (formats_datum fs)))
      ≡ Some (format_items fs)

-- the block knows the list: at each of its points, memory has it where the code of its statements looks for it
abbrev pub KnowsFormats : Block → T.Formats → Type 0
KnowsFormats k fs =
    (p : Point) (numbers : ℕ → ℕ) (m : List ℕ) → IsAmong k numbers p → Holds (now p m) → HasFormats k fs m

-- ---- the statement

-- one of its numbers
pub record Item : Type 0 where
  pub precision : ℕ
  pub source : Y.Number

abbrev pub put_items : List Item → List Y.PutItem
put_items [] = []
put_items (x ∷ xs) = Y.PutValue (Y.NumberValue x.precision x.source) ∷ put_items xs

-- one of its data lists, with the format list that it goes by
pub record Pair : Type 0 where
  pub first : Item
  pub more : List Item
  pub formats : T.Formats

abbrev pub put_pairs : List Pair → List Y.PutPair
put_pairs [] = []
put_pairs (x ∷ xs) = record { items = put_items (x.first ∷ x.more); formats = x.formats } ∷ put_pairs xs

-- lines may be ended first
pub record Put : Type 0 where
  pub skip : Option ℕ
  pub first : Pair
  pub more : List Pair
  pub line : ℕ

abbrev pub put_of : Put → Y.Stmt
put_of x = Y.Put x.skip (put_pairs (x.first ∷ x.more)) x.line

-- the language lets from 1 to 1,000 lines be ended
abbrev pub IsSkipped : Option ℕ → Type 0
IsSkipped None = ⊤
IsSkipped (Some lines) = (1 ≤ lines) × (lines ≤ 1000)

-- the block knows the format lists, which are of F items
abbrev pub AreListed : Block → List Pair → Type 0
AreListed k [] = ⊤
AreListed k (x ∷ xs) = (IsFixed x.formats × KnowsFormats k x.formats) × AreListed k xs

-- where it stands while so many words are set aside, how many registers its expressions need, and that one act pays
-- for each of them
pub record IsPut (words : ℕ) (k : Block) (labels : List Label) (x : Put) (index need most : ℕ) : Type 0 where
  pub act : HasAct k x.line
  pub skip : IsSkipped x.skip
  pub lists : AreListed k (x.first ∷ x.more)
  pub registers : need ≤ k.registers
  pub one : 1 ≤ k.registers
  pub held : k.registers ≤ held_registers
  pub error : (place : EditPlace) → ErrorComes (List ℕ) (within place (setting_around words k labels x.line most))
  pub statement :
      Linked k.call.surroundings.links k.call.code index (stmt_code k.environment (set_aside words) (put_of x))
  pub paid : size_with words k (put_of x) + most ≤ cost k.call.code

-- wherever the list is, each of its expressions leaves what it means
abbrev pub ItemsDo : Setting → (need : ℕ) → List Item → Type 0
ItemsDo s need [] = ⊤
ItemsDo s need (x ∷ xs) = ((place : EditPlace) → L.Does (within place s) need x.source) × ItemsDo s need xs

abbrev pub PairsDo : Setting → (need : ℕ) → List Pair → Type 0
PairsDo s need [] = ⊤
PairsDo s need (x ∷ xs) = ItemsDo s need (x.first ∷ x.more) × PairsDo s need xs

abbrev pub PutsDo : Type 0
PutsDo =
    (words : ℕ) (k : Block) (labels : List Label) (x : Put) (index left' need most : ℕ) →
    IsPut words k labels x index need most →
    PairsDo (setting_around words k labels x.line most) need (x.first ∷ x.more) →
    DoesWith words k labels (put_of x) index left'
