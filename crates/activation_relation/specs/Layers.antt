-- What machine and services have of each activation, newest first, and the services' state as a function of it.
use Rattle.std.specs.Prelude.{ℕ, List, map, Option, length}
use Rattle.pli_language.specs.declared.condition.Condition.{Condition}
use Rattle.pli_meaning.specs.Control.{Label}
use Rattle.pli_meaning.specs.StorageState.{State}
use Rattle.area_keeper.specs.Keeper.{Keeper}
use Rattle.pli_serving.specs.Bytes.{Layout}
use Rattle.pli_serving.specs.ServiceState as S
use Rattle.storage_relation.specs.Stored.{Places}
use Rattle.storage_relation.specs.Served.{Now, served_living}

-- ---- layers

-- where a list of statements runs: the first free byte of the upper stack, and how many words of the frame wait with
-- what
pub record Carried : Type 0 where
  pub top : ℕ
  pub words : ℕ
  pub values : ℕ → Option ℕ

-- what there is of one activation beside the storage machine's; of the newest, what its code knows just there
pub record Layer : Type 0 where
  -- its block's number and level
  pub block : ℕ
  pub level : ℕ
  -- as what services have it, and its on-units by their code
  pub kind : S.BlockKind
  pub units : List (Condition × S.OnUnit)
  -- its frame's offset, the words for temporaries below it, and its parameters
  pub at : ℕ
  pub words : ℕ
  pub parameters : ℕ
  -- the index where it goes back, and how many registers it saved, with what they held
  pub back : ℕ
  pub saved : ℕ
  pub held : ℕ → ℕ
  -- what its words for temporaries hold, where that is known
  pub waits : ℕ → Option ℕ
  -- and its words behind its fixed part, by their distance from its address: those of its variables' names
  pub told : ℕ → Option ℕ
  -- where the list of its arguments stands, once its code has kept that
  pub list : Option ℕ
  -- the first free byte of the upper stack, and the top of the lower one
  pub top : ℕ
  pub lower : ℕ
  -- texts and places in format lists that stand below it, and the line that is current again when it ends
  pub entries : List S.Entry
  pub edits : List S.EditPlace
  pub line : ℕ
  -- the labels of the lists that it is carrying out
  pub carried : Label → Option Carried

-- ---- the services

-- all that services have beside storage
pub record Control : Type 0 where
  pub layers : List Layer
  pub controlled : ℕ → List S.Controlled
  pub waiting : Option S.Waiting
  pub entries : List S.Entry
  pub edits : List S.EditPlace
  pub line : ℕ

abbrev pub activation_of : Layer → S.Activation
activation_of φ =
    record {
      kind = φ.kind;
      frame = φ.at;
      texts = length φ.entries;
      edits = length φ.edits;
      line = φ.line;
      units = φ.units;
    }

-- the services' state is no more than the storage machine's and what is told beside it
abbrev pub served : Places → State → Control → S.Services
served π s c =
    record {
      world = s.world;
      input = s.input;
      line = c.line;
      signatures = π.signatures;
      serials = s.serials;
      living = map (served_living π) s.living;
      heap_made = π.heap_made;
      controlled = c.controlled;
      activations = map activation_of c.layers;
      waiting = c.waiting;
      entries = c.entries;
      edits = c.edits;
    }

-- ---- points

-- where a run stands, at every base alike
pub record Point : Type 0 where
  pub keeper : Keeper
  pub layout : Layout
  pub places : Places
  pub state : State
  pub control : Control

abbrev pub services_of : Point → S.Services
services_of p = served p.places p.state p.control

-- with a memory
abbrev pub now : Point → List ℕ → Now
now p m =
    record {
      keeper = p.keeper;
      layout = p.layout;
      places = p.places;
      state = p.state;
      services = services_of p;
      memory = m;
    }
