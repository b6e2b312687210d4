-- The state of the services: what a run shows, and what stands for the program's activations, variables, texts and streams.
-- What variables hold stands in the machine's memory, and the generations in an area stand in the area's bytes.
use Rattle.std.specs.Prelude.{ℕ, Bool, false, ◌==◌, List, [], ◌∷◌, length, map, Option, Some, None, if◌then◌else◌}
use Rattle.pli_language.specs.declared.condition.Condition.{Condition}
use Rattle.rv_meaning.specs.Tables.{TableSignature}
use Rattle.pli_typing.specs.Signatures.{LeafKind, Bounds}
use Rattle.pli_meaning.specs.World.{World, first_world}
use Rattle.pli_meaning.specs.InputLines.{Input, first_input}
use Rattle.pli_meaning.specs.Streaming.{FormatItem}
use Rattle.pli_types.specs.Templates.{Template}
use Rattle.pli_serving.specs.Templates.{template_of}

-- ---- what lives

-- a variable's generation or an argument's copy: its serial, the height of the activation with which it ends (0 for a STATIC
-- one), its signature's number and the address of its data
pub record Living : Type 0 where
  pub serial : ℕ
  pub owner : ℕ
  pub signature : ℕ
  pub at : ℕ

-- a generation of a CONTROLLED variable: its offset in the heap, and its signature's number
pub record Controlled : Type 0 where
  pub offset : ℕ
  pub signature : ℕ

-- ---- activations

-- what ON establishes: SYSTEM, or the unit whose code stands at an address
pub data OnUnit : Type 0 where
  SystemUnit : OnUnit
  CodeUnit : (at : ℕ) → OnUnit

-- an on-unit runs for a condition's code, and ends at an address
pub data BlockKind : Type 0 where
  ProcedureBlock BeginBlock : BlockKind
  OnUnitBlock : (code resume : ℕ) → BlockKind

-- an entered block: the address of its frame, how many texts and places in format lists stood below it, the line that is current
-- again when it ends, and its own on-units
pub record Activation : Type 0 where
  pub kind : BlockKind
  pub frame : ℕ
  pub texts : ℕ
  pub edits : ℕ
  pub line : ℕ
  pub units : List (Condition × OnUnit)

-- a raise whose unit is about to be entered: its code, where the program goes on behind the unit, and its line
pub record Waiting : Type 0 where
  pub code : ℕ
  pub resume : ℕ
  pub line : ℕ

-- ---- what waits in expressions and streams

-- one leaf of an aggregate that was taken: its kind, the bounds that were left, and its elements in row-major order, each as its
-- bytes (a text without its length and padding)
pub record TakenLeaf : Type 0 where
  pub kind : LeafKind
  pub bounds : List Bounds
  pub elements : List (List ℕ)

pub data Entry : Type 0 where
  TextEntry : (bytes : List ℕ) → Entry
  AggregateEntry : List TakenLeaf → Entry

pub data Direction : Type 0 where
  Getting Putting : Direction

-- a place in a format list: the whole list, and what is left of it
pub record EditPlace : Type 0 where
  pub direction : Direction
  pub whole : List FormatItem
  pub rest : List FormatItem

-- ---- all of it; lists have the newest first

-- heap_made: the heap's bytes are those of an area, not yet where nothing was placed in it
pub record Services : Type 0 where
  pub world : World
  pub input : Input
  pub line : ℕ
  pub signatures : List Template
  pub serials : ℕ
  pub living : List Living
  pub heap_made : Bool
  pub controlled : ℕ → List Controlled
  pub activations : List Activation
  pub waiting : Option Waiting
  pub entries : List Entry
  pub edits : List EditPlace

abbrev pub first_services : List TableSignature → (input : List ℕ) → Services
first_services table input =
    record {
      world = first_world;
      input = first_input input;
      line = 0;
      signatures = map template_of table;
      serials = 0;
      living = [];
      heap_made = false;
      controlled = λ variable. [];
      activations = [];
      waiting = None;
      entries = [];
      edits = [];
    }

-- the height of the newest activation
abbrev pub height : Services → ℕ
height v = length v.activations

abbrev pub living_of : List Living → ℕ → Option Living
living_of [] serial = None
living_of (l ∷ ls) serial = if l.serial == serial then Some l else living_of ls serial
