-- GET EDIT of numbers by F: the places in format lists, where ENDFILE is raised, and what the statement reads into.
use Rattle.std.specs.Prelude.{ℕ, ℤ, ◌+◌, ◌^◌, ◌<◌, ◌≤◌, ◌≡◌, List, [], ◌∷◌, Option, Some, true, false, ⊤}
use Rattle.rv_meaning.specs.Machine.{value}
use Rattle.rv_meaning.specs.Words.{word}
use Rattle.pli_language.specs.declared.condition.Condition.TheVariants as C
use Rattle.pli_language.specs.Tree as T
use Rattle.pli_typing.specs.TypedTree as Y
use Rattle.pli_meaning.specs.BasicValues.{BasicNumber}
use Rattle.pli_meaning.specs.Codes.{endfile_code}
use Rattle.pli_meaning.specs.Control.{Label}
use Rattle.pli_meaning.specs.Executing.{assigned}
use Rattle.pli_meaning.specs.Raising.{raised}
use Rattle.pli_meaning.specs.StorageState.{State, force}
use Rattle.pli_meaning.specs.Streaming.{FormatItem, format_items, target_type}
use Rattle.pli_serving.specs.ServiceState.{EditPlace, Getting, Services}
use Rattle.pli_coding.specs.Arithmetic as A
use Rattle.pli_coding.specs.Assembly.{Code, size_of}
use Rattle.pli_coding.specs.Expressions.{type_in}
use Rattle.pli_coding.specs.Registers.{a0, held_registers}
use Rattle.pli_coding.specs.Statements.{stmt_code}
use Rattle.pli_coding.specs.Storing.{word_stored}
use Rattle.pli_coding.specs.Streams.{has_fixed, has_text}
use Rattle.activation_relation.specs.Layers.{Point, services_of}
use Rattle.activation_relation.specs.ServiceLaws.{IsSystem}
use Rattle.run_steps.specs.Engine.{Base}
use Rattle.run_steps.specs.Items.{Linked}
use Rattle.run_steps.specs.Numbers.{IsWide}
use Rattle.run_steps.specs.Reach.{Aims, Comes, Family, cost}
use Rattle.block_runs.specs.Machines.{AreIn, IsIn, limits_of}
use Rattle.program_runs.specs.Statements.{Block, DoesWith, GoesOn, HasAct, IsAmong, IsBegun, JumpsTo, set_aside}
use Rattle.program_runs.specs.Statements.{size_with}
use Rattle.expression_runs.specs.Assignments.{setting_around}
use Rattle.expression_runs.specs.Raises.{Routines}
use Rattle.expression_runs.specs.Values.{HasRegisters, Setting, in_registers}
use Rattle.expression_runs.specs.Variables.{IsNumber, Spot, whole}
use Rattle.text_runs.specs.Texts.{ErrorComes}
use Rattle.edit_runs.specs.Edits.{IsSkipped, KnowsFormats, has_data, within}

-- in a list of GET, of which so much is left
abbrev pub getting : (whole rest : List FormatItem) → EditPlace
getting whole rest = record { direction = Getting; whole = whole; rest = rest }

-- ---- behind a part of the statement

-- such a point, with the statement's line
pub record GoesBehind (k : Block) (acts current index wanted credits : ℕ) (f : Family) (v : Services) (s : State) :
    Type 0
  where
    pub goes : GoesOn k acts index wanted credits f v s
    pub line : goes.point.control.line ≡ current

abbrev pub behind_aims : Setting → (acts index wanted : ℕ) → Aims (Unit {0})
behind_aims k acts index wanted =
    record {
      limits = limits_of k.block.call.surroundings;
      done = λ c f v r s. GoesBehind k.block acts k.around.line index wanted c f v s;
      jumped = λ c f v height label s. JumpsTo k.block k.labels acts c f v height label s;
      returned = λ c f v r s. ⊥;
    }

-- ---- ENDFILE

abbrev pub endfile_raised : Code
endfile_raised = A.raised C.Endfile endfile_code

-- a raise comes behind its code, or to where its unit jumps, or the run ends: as it means
abbrev pub EndfileComes : Setting → Type 0
EndfileComes k =
    (p : Point) (numbers : ℕ → ℕ) (credits index : ℕ) (f : Family) → IsAmong k.block numbers p →
    p.control.line ≡ k.around.line →
    Linked k.block.call.surroundings.links k.block.call.code index endfile_raised →
    credits + size_of endfile_raised + k.most ≤ cost k.block.call.code →
    AreIn k.block.call.surroundings p numbers index f →
    Comes k.block.call.code credits f (services_of p)
    (behind_aims k p.state.world.acts (index + size_of endfile_raised) (credits + size_of endfile_raised))
    (raised k.around C.Endfile endfile_code k.block.call.surroundings.acts p.state)

-- where the block's first statement begins neither condition has a unit in force
pub record IsUnread (k : Setting) : Type 0 where
  pub routines : Routines k.block.call.surroundings.links k.block.call.code
  pub endfile : IsSystem (force k.block.first.state.activations C.Endfile)
  pub error : IsSystem (force k.block.first.state.activations C.Error)
  pub acts : k.block.call.surroundings.acts + 1 < 2 ^ 64
  pub most : 18 < k.most

-- then the run ends
abbrev pub EndfileEnds : Type 0
EndfileEnds = (k : Setting) → IsUnread k → EndfileComes k

-- ---- what is read into

-- the code that stores the number in a0 does what it means, with so many registers
abbrev pub Stores : Setting → (need : ℕ) → Y.Reference → Type 0
Stores k need r =
    (p : Point) (numbers : ℕ → ℕ) (credits index : ℕ) (f : Family) (z : ℤ) → IsWide z → IsAmong k.block numbers p →
    p.control.line ≡ k.around.line → HasRegisters k 0 need →
    Linked k.block.call.surroundings.links k.block.call.code index
    (word_stored k.block.environment (in_registers k.words 0) r) →
    credits + size_of (word_stored k.block.environment (in_registers k.words 0) r) + k.most ≤ cost k.block.call.code →
    ((b : Base) → IsIn k.block.call.surroundings p numbers index b (f b) × (value (f b).machine a0 ≡ word z)) →
    Comes k.block.call.code credits f (services_of p)
    (behind_aims k p.state.world.acts
    (index + size_of (word_stored k.block.environment (in_registers k.words 0) r))
    (credits + size_of (word_stored k.block.environment (in_registers k.words 0) r)))
    (assigned k.around r (BasicNumber z) k.block.call.surroundings.acts p.state)

-- a FIXED BINARY(31), as the meaning has it and as its code has it
pub record IsTarget (k : Setting) (need : ℕ) (r : Y.Reference) : Type 0 where
  pub meant : target_type k.around r ≡ Some (Y.FixedLeaf 31)
  pub coded : type_in k.block.environment r ≡ Y.FixedLeaf 31
  pub stores : Stores k need r

-- a variable of the block or of one around it is read into with any number of registers
abbrev pub NumbersStored : Type 0
NumbersStored =
    (k : Setting) (x : Spot) (need : ℕ) → IsBegun k.block → IsNumber k.block x →
    k.around.program ≡ k.block.environment.program → IsTarget k need (whole x)

-- ---- the statement

-- one of its data lists, with the format list that it goes by
pub record GetList : Type 0 where
  pub targets : List Y.Reference
  pub formats : T.Formats

abbrev pub get_items : List Y.Reference → List Y.GetItem
get_items [] = []
get_items (r ∷ rs) = Y.GetScalar r ∷ get_items rs

abbrev pub get_pairs : List GetList → List Y.GetPair
get_pairs [] = []
get_pairs (x ∷ xs) = record { items = get_items x.targets; formats = x.formats } ∷ get_pairs xs

-- lines may be passed over first; GET SKIP has no list
pub record Get : Type 0 where
  pub skip : Option ℕ
  pub lists : List GetList
  pub line : ℕ

abbrev pub get_of : Get → Y.Stmt
get_of x = Y.Get x.skip (get_pairs x.lists) x.line

-- a list of F items, one at least, and of control items
pub record IsOfNumbers (fs : T.Formats) : Type 0 where
  pub fixed : has_fixed fs ≡ true
  pub text : has_text fs ≡ false
  pub some : has_data (format_items fs) ≡ true

-- the block knows the format lists
abbrev pub AreListed : Block → List GetList → Type 0
AreListed k [] = ⊤
AreListed k (x ∷ xs) = (IsOfNumbers x.formats × KnowsFormats k x.formats) × AreListed k xs

-- where it stands while so many words are set aside, how many registers its targets need, and that one act pays for
-- each of them; a field that is no number is ERROR, and where no character is left ENDFILE is raised
pub record IsGet (words : ℕ) (k : Block) (labels : List Label) (x : Get) (index need most : ℕ) : Type 0 where
  pub act : HasAct k x.line
  pub skip : IsSkipped x.skip
  pub lists : AreListed k x.lists
  pub registers : need ≤ k.registers
  pub held : k.registers ≤ held_registers
  pub endfile : (place : EditPlace) → EndfileComes (within place (setting_around words k labels x.line most))
  pub error : (place : EditPlace) → ErrorComes ℤ (within place (setting_around words k labels x.line most))
  pub statement :
      Linked k.call.surroundings.links k.call.code index (stmt_code k.environment (set_aside words) (get_of x))
  pub paid : size_with words k (get_of x) + most ≤ cost k.call.code

-- wherever the list is, each of its targets is one
abbrev pub AreTargets : Setting → (need : ℕ) → List Y.Reference → Type 0
AreTargets s need [] = ⊤
AreTargets s need (r ∷ rs) = ((place : EditPlace) → IsTarget (within place s) need r) × AreTargets s need rs

abbrev pub ListsHaveTargets : Setting → (need : ℕ) → List GetList → Type 0
ListsHaveTargets s need [] = ⊤
ListsHaveTargets s need (x ∷ xs) = AreTargets s need x.targets × ListsHaveTargets s need xs

abbrev pub GetsDo : Type 0
GetsDo =
    (words : ℕ) (k : Block) (labels : List Label) (x : Get) (index left' need most : ℕ) →
    IsGet words k labels x index need most →
    ListsHaveTargets (setting_around words k labels x.line most) need x.lists →
    DoesWith words k labels (get_of x) index left'
