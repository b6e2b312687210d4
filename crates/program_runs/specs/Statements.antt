-- Statements of a procedure's body: where they run, what each of them comes to, and lists of them.
use Rattle.std.specs.Prelude.{ℕ, ◌+◌, ◌*◌, ◌^◌, ◌<◌, ◌≤◌, ◌≡◌, ◌⊎◌, ⊤, None, Option, List, [], ◌∷◌, ◌++◌, true, false}
use Rattle.std.specs.Prelude.{length}
use Rattle.rv_meaning.specs.declared.instr.Instr.{Instr}
use Rattle.pli_typing.specs.TypedTree as Y
use Rattle.pli_meaning.specs.BasicValues.{BasicValue}
use Rattle.pli_meaning.specs.Control.{Label, is_among}
use Rattle.pli_meaning.specs.Executing.{labels_in, list, statement}
use Rattle.pli_meaning.specs.Raising.{Around}
use Rattle.pli_meaning.specs.StorageState.{Activation, State}
use Rattle.pli_serving.specs.ServiceState.{Entry, Services}
use Rattle.pli_coding.specs.Assembly.{LabelPlace, ReturnPlace, size_of}
use Rattle.pli_coding.specs.Environments.{BlockOwner, Environment, Taken, block_around, none_taken}
use Rattle.pli_coding.specs.Linking.{Links, place_of}
use Rattle.pli_coding.specs.Statements.{stmt_code, stmts_code, marked}
use Rattle.activation_relation.specs.Entering.{Later}
use Rattle.activation_relation.specs.Landing.{Resumes, closed, either, is_begin}
use Rattle.activation_relation.specs.Layers.{Point, services_of}
use Rattle.activation_relation.specs.Points.{AreFew, Stands, Surroundings}
use Rattle.activation_relation.specs.Remaining.{Remains}
use Rattle.run_steps.specs.Engine.{most_code}
use Rattle.run_steps.specs.Items.{Linked}
use Rattle.run_steps.specs.Reach.{Family, Reach, Aims, Comes, cost}
use Rattle.block_runs.specs.Beginnings.{Beginning}
use Rattle.block_runs.specs.Bodies.{Called, AtEnd, Function}
use Rattle.block_runs.specs.Machines.{IsImage, IsIn, AreIn, limits_of}

-- ---- where they run

-- a block further out in the same run: where and how it was entered, its end, the point of its first statement, what
-- is known around its code, how many registers that may write, and the labels of the lists that it is carrying out
pub record Outer : Type 0 where
  pub point : Point
  pub numbers : ℕ → ℕ
  pub beginning : Beginning
  pub call : ℕ
  pub entry : ℕ
  pub end : ℕ
  pub function : Option Function
  pub first : Point
  pub environment : Environment
  pub around : Around
  pub registers : ℕ
  pub labels : List Label

-- a block whose statements run: the same of it, its first statement being behind the act of its entry; and the blocks
-- further out to which control may leave it, the nearest first
pub record Block : Type 0 where
  pub call : Called
  pub first : Point
  pub environment : Environment
  pub around : Around
  pub registers : ℕ
  pub outers : List Outer

abbrev pub outer_call : Surroundings → List Instr → Outer → Called
outer_call w code o =
    record {
      surroundings = w;
      code = code;
      point = o.point;
      numbers = o.numbers;
      beginning = o.beginning;
      call = o.call;
      entry = o.entry;
      end = o.end;
      function = o.function;
    }

abbrev pub outer_block : Surroundings → List Instr → Outer → List Outer → Block
outer_block w code o os =
    record {
      call = outer_call w code o;
      first = o.first;
      environment = o.environment;
      around = o.around;
      registers = o.registers;
      outers = os;
    }

-- a block in which statements run, with labels that a jump may name
abbrev pub as_outer : Block → List Label → Outer
as_outer k labels =
    record {
      point = k.call.point;
      numbers = k.call.numbers;
      beginning = k.call.beginning;
      call = k.call.call;
      entry = k.call.entry;
      end = k.call.end;
      function = k.call.function;
      first = k.first;
      environment = k.environment;
      around = k.around;
      registers = k.registers;
      labels = labels;
    }

-- a point at which a statement of it begins: the blocks that it entered have been left, and registers that it doesn't
-- write are as they were
pub record IsAmong (k : Block) (numbers : ℕ → ℕ) (p : Point) : Type 0 where
  pub stands : Stands k.call.surroundings p
  pub image : IsImage k.call.surroundings k.call.code p
  pub later : Later k.first p
  pub few : AreFew k.call.surroundings p
  pub entries : p.control.entries ≡ k.first.control.entries
  pub others : (n : ℕ) → k.registers ≤ n → numbers n ≡ k.call.numbers n
  pub words : (n : ℕ) → numbers n < 2 ^ 32

-- ---- where texts wait in an expression

abbrev pub with_texts : List Entry → Point → Point
with_texts entries p = record p { control = record p.control { entries = entries } }

-- the block, at whose points these stand above those that stood on the stack at its first statement
abbrev pub waiting : List Entry → Block → Block
waiting entries k = record k { first = with_texts (entries ++ k.first.control.entries) k.first }

-- ---- blocks further out

-- one was the newest where the next one was entered, among its own points but for texts that waited there
pub record IsOuter (w : Surroundings) (code : List Instr) (o : Outer) (p : Point) : Type 0 where
  pub activation : Activation
  pub resumes :
      Resumes w o.point.state.world.acts activation o.point.state.activations o.beginning.layer o.point.control.layers
      o.first
  pub remains : Remains o.point o.first
  pub numbers : ℕ → ℕ
  pub among : IsAmong (outer_block w code o []) numbers (with_texts o.first.control.entries p)

abbrev pub AreOuter : Surroundings → List Instr → Point → List Outer → Type 0
AreOuter w code p [] = ⊤
AreOuter w code p (o ∷ os) = IsOuter w code o p × AreOuter w code o.point os

-- there it is the newest, over those that were active where it was called
pub record IsBegun (k : Block) : Type 0 where
  pub activation : Activation
  pub resumes :
      Resumes k.call.surroundings k.call.point.state.world.acts activation k.call.point.state.activations
      k.call.beginning.layer k.call.point.control.layers k.first
  pub acts : 0 < k.first.state.world.acts
  -- and what lived there lives on
  pub remains : Remains k.call.point k.first
  pub outer : AreOuter k.call.surroundings k.call.code k.call.point k.outers

-- ---- what is aimed at

-- such a point, at an index, with as many credits as are wanted and no fewer acts
pub record GoesOn (k : Block) (acts index wanted credits : ℕ) (f : Family) (v : Services) (s : State) : Type 0 where
  pub point : Point
  pub numbers : ℕ → ℕ
  pub among : IsAmong k numbers point
  pub since : acts ≤ point.state.world.acts
  pub state : s ≡ point.state
  pub reach :
      Reach k.call.code credits f v wanted (services_of point)
      (λ b y. IsIn k.call.surroundings point numbers index b y)

-- the height of the block's own activation
abbrev pub own_height : Block → ℕ
own_height k = length k.call.point.state.activations + 1

-- such a point where a label stands: one of the lists that the block is carrying out has it. The jump has made an act.
pub record LandsAt (k : Block) (labels : List Label) (acts credits : ℕ) (f : Family) (v : Services) (height : ℕ)
    (label : Label) (s : State) : Type 0
  where
    pub own : height ≡ own_height k
    pub carried : is_among label labels ≡ true
    pub point : Point
    pub numbers : ℕ → ℕ
    pub among : IsAmong k numbers point
    pub more : acts < point.state.world.acts
    pub state : s ≡ point.state
    pub index : ℕ
    pub place : place_of k.call.surroundings.links (LabelPlace k.environment.block label) ≡ 4 * index
    pub reach :
        Reach k.call.code credits f v 0 (services_of point)
        (λ b y. IsIn k.call.surroundings point numbers index b y)

-- at a label of a block further out, once the blocks inside it have ended
abbrev pub JumpsOut :
    Surroundings → List Instr → List Outer → (acts credits : ℕ) → Family → Services → (height : ℕ) → Label → State →
    Type 0
JumpsOut w code [] acts credits f v height label s = ⊥
JumpsOut w code (o ∷ os) acts credits f v height label s =
    LandsAt (outer_block w code o os) o.labels acts credits f v height label s
    ⊎ JumpsOut w code os acts credits f v height label (closed s)

-- at a label by GOTO
pub record JumpsTo (k : Block) (labels : List Label) (acts credits : ℕ) (f : Family) (v : Services) (height : ℕ)
    (label : Label) (s : State) : Type 0
  where
    pub to :
        LandsAt k labels acts credits f v height label s
        ⊎ JumpsOut k.call.surroundings k.call.code k.outers acts credits f v height label (closed s)

-- RETURN goes on at the end of the nearest block that is no begin block
abbrev pub ReturnsOut :
    Surroundings → List Instr → List Outer → (left' credits : ℕ) → Family → Services → Option BasicValue → State →
    Type 0
ReturnsOut w code [] left' credits f v r s = ⊥
ReturnsOut w code (o ∷ os) left' credits f v r s =
    either (is_begin o.beginning.layer.kind) (ReturnsOut w code os left' credits f v r (closed s))
    (AtEnd (outer_call w code o) left' credits f v r s)

pub record ReturnsTo (k : Block) (left' credits : ℕ) (f : Family) (v : Services) (r : Option BasicValue)
    (s : State) : Type 0
  where
    pub to :
        either (is_begin k.call.beginning.layer.kind)
        (ReturnsOut k.call.surroundings k.call.code k.outers left' credits f v r (closed s))
        (AtEnd k.call left' credits f v r s)

-- behind a statement, at a label by GOTO, or at the end of the block by RETURN
abbrev pub statement_aims : Block → List Label → (acts index wanted left' : ℕ) → Aims (Unit {0})
statement_aims k labels acts index wanted left' =
    record {
      limits = limits_of k.call.surroundings;
      done = λ c f v r s. GoesOn k acts index wanted c f v s;
      jumped = λ c f v height label s. JumpsTo k labels acts c f v height label s;
      returned = λ c f v r s. ReturnsTo k left' c f v r s;
    }

-- so many words of the frame are set aside around a statement, for loops that go on
abbrev pub set_aside : (words : ℕ) → Taken
set_aside words = record { registers = 0; words = words }

abbrev pub size_with : (words : ℕ) → Block → Y.Stmt → ℕ
size_with words k stmt = size_of (stmt_code k.environment (set_aside words) stmt)

abbrev pub size_in : Block → Y.Stmt → ℕ
size_in k stmt = size_with 0 k stmt

-- from any such point its code does what it means, while so many words are set aside; a GOTO in it may name these
-- labels
abbrev pub DoesWith : (words : ℕ) → Block → List Label → Y.Stmt → (index left' : ℕ) → Type 0
DoesWith words k labels stmt index left' =
    (p : Point) (numbers : ℕ → ℕ) (credits wanted : ℕ) (f : Family) → IsAmong k numbers p →
    credits + size_with words k stmt ≤ cost k.call.code → AreIn k.call.surroundings p numbers index f →
    Comes k.call.code credits f (services_of p)
    (statement_aims k labels p.state.world.acts (index + size_with words k stmt) wanted left')
    (statement k.around stmt k.call.surroundings.acts p.state)

-- where none are
abbrev pub Does : Block → List Label → Y.Stmt → (index left' : ℕ) → Type 0
Does k labels stmt index left' = DoesWith 0 k labels stmt index left'

-- each statement of a list
abbrev pub EachDoesWith : (words : ℕ) → Block → List Label → Y.Stmts → (index left' : ℕ) → Type 0
EachDoesWith words k labels (Y.EndOfList own) index left' = ⊤
EachDoesWith words k labels (Y.StmtThen own first rest) index left' =
    DoesWith words k labels first (index + size_of (marked k.environment.block own)) left'
    × EachDoesWith words k labels rest (index + size_of (marked k.environment.block own) + size_with words k first)
    left'

abbrev pub EachDoes : Block → List Label → Y.Stmts → (index left' : ℕ) → Type 0
EachDoes k labels body index left' = EachDoesWith 0 k labels body index left'

-- each label of a list stands where its statement does
abbrev pub StandAt : Links → (block : ℕ) → List Label → (index : ℕ) → Type 0
StandAt links block labels index =
    (label : Label) → is_among label labels ≡ true → place_of links (LabelPlace block label) ≡ 4 * index

abbrev pub AreMarkedWith : (words : ℕ) → Links → Environment → Y.Stmts → (index : ℕ) → Type 0
AreMarkedWith words links e (Y.EndOfList own) index = StandAt links e.block own index
AreMarkedWith words links e (Y.StmtThen own first rest) index =
    StandAt links e.block own index
    × AreMarkedWith words links e rest
    (index + size_of (marked e.block own) + size_of (stmt_code e (set_aside words) first))

abbrev pub AreMarked : Links → Environment → Y.Stmts → (index : ℕ) → Type 0
AreMarked links e body index = AreMarkedWith 0 links e body index

-- ---- the laws

-- a line fits a register, and one act more fits 64 bits
pub record HasAct (k : Block) (line : ℕ) : Type 0 where
  pub line_fits : line < 2 ^ 31
  pub acts : k.call.surroundings.acts + 1 < 2 ^ 64

-- the block is the procedure's own, at whose end a RETURN goes on
pub record IsOwn (k : Block) (left' : ℕ) : Type 0 where
  pub owner :
      k.environment.owner
      ≡ BlockOwner (record { number = k.call.beginning.head.number; level = k.environment.level })
  pub end : place_of k.call.surroundings.links (ReturnPlace k.call.beginning.head.number) ≡ 4 * k.call.end
  pub near : k.call.end ≤ most_code
  pub enough : 2 ≤ left'
  pub function : k.call.function ≡ None
  pub begun : IsBegun k
  pub kind : is_begin k.call.beginning.layer.kind ≡ false
  pub registers : k.registers ≤ k.call.beginning.layer.saved

-- a label of a list that it is carrying out stands at an index of the code
pub record IsNear (k : Block) (labels : List Label) (label : Label) : Type 0 where
  pub begun : IsBegun k
  pub carried : is_among label labels ≡ true
  pub level : k.environment.level ≡ k.call.beginning.layer.level
  pub block : block_around k.environment k.environment.level ≡ k.environment.block
  pub at : ℕ
  pub place : place_of k.call.surroundings.links (LabelPlace k.environment.block label) ≡ 4 * at
  pub near : at ≤ most_code

pub record StatementsDo : Type 0 where
  pub null :
      (k : Block) (line index left' : ℕ) → HasAct k line →
      Linked k.call.surroundings.links k.call.code index (stmt_code k.environment none_taken (Y.Null line)) →
      (labels : List Label) → Does k labels (Y.Null line) index left'
  pub return :
      (k : Block) (line index left' : ℕ) → HasAct k line → IsOwn k left' →
      Linked k.call.surroundings.links k.call.code index (stmt_code k.environment none_taken (Y.Return line)) →
      (labels : List Label) → Does k labels (Y.Return line) index left'
  pub stop :
      (k : Block) (line index left' : ℕ) → HasAct k line →
      Linked k.call.surroundings.links k.call.code index (stmt_code k.environment none_taken (Y.Stop line)) →
      (labels : List Label) → Does k labels (Y.Stop line) index left'
  -- GOTO to a label of a list that the block is carrying out
  pub goto :
      (k : Block) (labels : List Label) (label : Label) (line index left' : ℕ) → HasAct k line →
      IsNear k labels label →
      Linked k.call.surroundings.links k.call.code index
      (stmt_code k.environment none_taken (Y.Goto k.environment.level label line)) →
      Does k labels (Y.Goto k.environment.level label line) index left'

-- a list does what it means if each of its statements does; it goes on itself at its own labels. There are turns
-- enough, since each jump makes an act.
abbrev pub ListsDo : Type 0
ListsDo =
    (words : ℕ) (k : Block) (labels : List Label) (body : Y.Stmts) (index left' : ℕ) (p : Point) (numbers : ℕ → ℕ)
    (credits wanted : ℕ) (f : Family) → IsBegun k →
    k.call.surroundings.acts < k.around.turns + p.state.world.acts →
    EachDoesWith words k (labels_in body ++ labels) body index left' →
    AreMarkedWith words k.call.surroundings.links k.environment body index → IsAmong k numbers p →
    Linked k.call.surroundings.links k.call.code index (stmts_code k.environment (set_aside words) body) →
    (credits ≤ wanted) × (credits + size_of (stmts_code k.environment (set_aside words) body) ≤ cost k.call.code) →
    AreIn k.call.surroundings p numbers index f →
    Comes k.call.code credits f (services_of p)
    (statement_aims k labels p.state.world.acts (index + size_of (stmts_code k.environment (set_aside words) body))
    wanted left')
    (list k.around body k.call.surroundings.acts p.state)
