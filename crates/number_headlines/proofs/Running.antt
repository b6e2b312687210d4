-- A block of a program of the class where it runs: what is known at its first statement.
use Rattle.std.proofs.Common.{◌≡◌, ℕ, suc, ◌+◌, ◌*◌, ◌%◌, ◌^◌, ◌<◌, ◌≤◌, List, [], ◌∷◌, ◌++◌, length, Option, None}
use Rattle.std.proofs.Common.{Some, Bool, true, false, refl, sym, ap, ◌∙◌, ◌⊎◌, inl, inr, drop, subst, arith}
use Rattle.pli_language.specs.declared.condition.Condition.{Condition}
use Rattle.pli_typing.specs.Signatures.{Fixed}
use Rattle.pli_typing.specs.TypedTree as Y
use Rattle.pli_meaning.specs.DeclaredShapes.{shape_of, variables_of_block}
use Rattle.pli_meaning.specs.Executing.{begun, entered, labels_in}
use Rattle.pli_meaning.specs.Raising.{Around, Entry, at_line}
use Rattle.pli_meaning.specs.StorageState.{ancestor_at, automatic_in_use, force, height_of, most_activations}
use Rattle.pli_meaning.specs.StorageState.{most_automatic}
use Rattle.pli_serving.specs.ServiceState as S
use Rattle.pli_coding.specs.Environments.{BlockOwner, Environment, Owner, block_around, none_taken, owned_by}
use Rattle.pli_coding.specs.Frames.{result}
use Rattle.pli_coding.specs.Images.{linked_code}
use Rattle.pli_coding.specs.Locating.{table_number}
use Rattle.pli_coding.specs.Registers.{held_registers}
use Rattle.pli_coding.specs.Statements.{stmts_code}
use Rattle.activation_relation.specs.FrameLaws.{with_waits}
use Rattle.activation_relation.specs.Landing.{is_begin}
use Rattle.activation_relation.specs.Layers.{Layer, Point}
use Rattle.activation_relation.specs.Points.{Surroundings}
use Rattle.activation_relation.specs.Remaining.{Remains}
use Rattle.activation_relation.specs.ServiceLaws.{IsSystem}
use Rattle.activation_relation.proofs.Returning.{in_use_later}
use Rattle.activation_relation.proofs.Remaining.{shapes_remain}
use Rattle.block_runs.specs.Bodies.{Function}
use Rattle.block_runs.specs.Machines.{acted}
use Rattle.program_places.specs.Laws.{IsEnd}
use Rattle.program_places.specs.Placed.{Placed}
use Rattle.program_places.specs.Programs.{code_for, environment_for, links_for, procedure_for}
use Rattle.program_runs.specs.Calls.{Callee, begun_at, left_over}
use Rattle.program_runs.specs.Procedures.{Procedure, block_of, layer_for}
use Rattle.program_runs.specs.Statements.{Block, IsAmong, IsBegun, Outer, with_texts}
use Rattle.program_runs.proofs.Waiting.{begun_waits}
use Rattle.expression_runs.specs.Variables.{IsNumber, Spot}
use Rattle.text_runs.proofs.Waiting.{number_waits}
use Rattle.array_runs.specs.Arrays.{IsArray}
use Rattle.scalar_runs.specs.Scalars.{IsScalar}
use Rattle.function_runs.specs.Functions.{function_entry}
use Rattle.parameter_runs.specs.Around.{IsParameterAround}
use Rattle.counter_runs.proofs.Known.{number_told}
use Rattle.counter_runs.proofs.Words.{begun_telling}
use Rattle.begin_runs.specs.ThroughReturns.{AreBegins}
use Rattle.block_headlines.specs.Constants.{IsOf}
use Rattle.nested_calls.specs.Nested.{IsNested}
use Rattle.variable_runs.specs.Known.{IsKnown}
use Rattle.area_runs.specs.Allocations.{HasArea}
use Rattle.area_runs.specs.Based.{pointer_declared}
use Rattle.number_runs.specs.Knowledge.{KnowsGivenCalls}
use Rattle.number_runs.specs.Numbers.{is_area_known, is_pointer_known}
use Rattle.number_runs.specs.Numbers.{grid_known, is_array_known, is_known, is_narrow_known, is_received, type_known}
use Rattle.number_runs.proofs.BeginsSaved.{begins_held}
use Rattle.number_runs.proofs.BlocksTaken.{registers_held}
use Rattle.number_runs.proofs.Arrays.{array_told}
use Rattle.number_runs.proofs.Narrow.{narrow_told}
use Rattle.number_runs.specs.Statements.{are_statements, begins_need, statements_need, statements_set}
use Rattle.number_runs.specs.Variables.{AreTabled}
use Rattle.parameter_runs.proofs.Passing.{around_told}
use Rattle.number_runs.proofs.Waiting.{array_waits, narrow_waits, parameter_waits}
use Rattle.number_headlines.specs.Programs.{most_waiting, scope_of}
use Rattle.list_calls.specs.Passed.{IsTelling}
use Rattle.number_headlines.proofs.Mains.{Main, most_for, surroundings_for}
use Rattle.number_headlines.proofs.Tables.{block_known}
use Rattle.number_headlines.proofs.Telling.{telling_told, telling_waits}

-- ---- the block of a procedure or of a function

abbrev pub entry_by : (valued : Bool) → Procedure → (parent : ℕ) → Entry
entry_by false x parent = begun (block_of x) parent
entry_by true x parent = function_entry x parent

abbrev pub function_by : (valued : Bool) → Option Function
function_by false = None
function_by true = Some (record { place = result; kind = Fixed 31 })

-- the block, with other layers told at its first statement
abbrev pub with_layers : (List Layer → List Layer) → Block → Block
with_layers layers k =
    record k { first = record k.first { control = record k.first.control { layers = layers k.first.control.layers } } }

-- or with other texts that wait there
abbrev pub with_entries : (List S.Entry → List S.Entry) → Block → Block
with_entries texts k = record k { first = with_texts (texts k.first.control.entries) k.first }

-- ---- as it is called

-- how it came to run: the index of its entry, what it returns behind a call, its first point behind its act of entry,
-- of which a begin block has none, where a RETURN in it goes, the registers that its code may write, and the blocks
-- further out to which it may go on
pub record Form : Type 0 where
  pub entry : ℕ
  pub function : Option Function
  pub behind : Point → Point
  pub owner : Owner
  pub registers : ℕ
  pub outers : List Outer

-- a procedure's or a function's own block
abbrev pub called_form : (valued : Bool) → (entry : ℕ) → Procedure → List Outer → Form
called_form valued entry x os =
    record {
      entry = entry;
      function = function_by valued;
      behind = acted x.head.line;
      owner = BlockOwner (record { number = x.head.number; level = x.head.level });
      registers = x.saved;
      outers = os;
    }

-- with what it is entered, the layer with which it begins, the indices of its call, of its first statement and of its
-- end, the point of its call, with what waits in registers, and the point where its variables have been made; and what
-- is known of the layers at its first statement: as they are, or the newest with what waits in words of its frame
pub record Running : Type 0 where
  pub head : Y.BlockHead
  pub body : Y.Stmts
  pub entry : Entry
  pub layer : Layer
  pub call : ℕ
  pub index : ℕ
  pub end : ℕ
  pub point : Point
  pub numbers : ℕ → ℕ
  pub made : Point
  pub layers : List Layer → List Layer
  pub texts : List S.Entry → List S.Entry
  pub form : Form

abbrev pub environment_of_run : Y.Program → Running → Environment
environment_of_run program a = owned_by a.form.owner (environment_for program a.head)

-- blocks may be entered so many deep inside it
abbrev pub around_for : Y.Program → (more : ℕ) → Around
around_for program more = record { program = program; enter = entered program more; turns = suc more; line = 0 }

abbrev pub block_of_run :
    Y.Program → (input : List ℕ) → (acts : ℕ) → (valued : Bool) → (more : ℕ) → Running → Block
block_of_run program input acts valued more a =
    with_entries a.texts
    (with_layers a.layers
    (record {
      call = record {
        surroundings = surroundings_for program input acts;
        code = linked_code (code_for program);
        point = a.point;
        numbers = a.numbers;
        beginning = record { head = a.head; entry = a.entry; layer = a.layer; texts = 0 };
        call = a.call;
        entry = a.form.entry;
        end = a.end;
        function = a.form.function;
      };
      first = a.form.behind a.made;
      environment = environment_of_run program a;
      around = at_line (around_for program more) a.head.line;
      registers = a.form.registers;
      outers = a.form.outers;
    }))

-- one without a parameter
abbrev pub run_of : (valued : Bool) → Surroundings → Callee → (index : ℕ) → Point → (numbers : ℕ → ℕ) → Running
run_of valued w c index p numbers =
    record {
      head = c.procedure.head;
      body = c.procedure.body;
      entry = entry_by valued c.procedure c.calling.parent;
      layer = layer_for w p numbers c.procedure c.calling;
      call = c.calling.call;
      index = index;
      end = c.calling.end;
      point = p;
      numbers = numbers;
      made = c.made (begun_at w c p numbers);
      layers = λ ls. ls;
      texts = λ es. es;
      form = called_form valued c.calling.entry c.procedure [];
    }

-- ---- what is known there

-- what a frame takes at most beside variables
abbrev pub frame_bytes : ℕ
frame_bytes = 1024

-- above it there is room for the frames of so many blocks, and for all that may be AUTOMATIC yet
pub record Free (w : Surroundings) (q : Point) (blocks : ℕ) : Type 0 where
  pub layer : Layer
  pub below : List Layer
  pub newest : q.control.layers ≡ layer ∷ below
  pub even : layer.top % 16 ≡ 0
  pub under : layer.lower % 16 ≡ 0
  pub low : q.places.low ≤ w.parts.stack_start
  pub used : automatic_in_use q.state.living ≤ most_automatic
  pub fits :
      layer.top + frame_bytes * blocks + most_automatic ≤ layer.lower + automatic_in_use q.state.living

-- the table has the signatures of the variables of each block
abbrev pub HasTable : Y.Program → Point → Type 0
HasTable program q =
    (head : Y.BlockHead) →
    AreTabled (environment_for program head) q.places.signatures (variables_of_block program head.number)

-- as many blocks have room as may be active, and one more, which is one too many
pub record HasDepth (q : Point) (blocks : ℕ) : Type 0 where
  pub some : 1 ≤ blocks
  pub all : most_activations + 1 ≤ length q.state.activations + blocks

-- its temporaries, and those of its begin blocks, fit the registers that its code may write
pub record IsHeld (a : Running) : Type 0 where
  pub own : statements_need a.body ≤ a.form.registers
  pub begins : begins_need a.body ≤ a.form.registers
  pub all : a.form.registers ≤ held_registers

-- it is a procedure's or a function's own block
pub record IsCalledForm (program : Y.Program) (valued : Bool) (a : Running) : Type 0 where
  pub function : a.form.function ≡ function_by valued
  pub kind : is_begin a.layer.kind ≡ false
  pub saved : a.form.registers ≤ a.layer.saved
  pub ends : IsEnd (links_for program) a.head.number a.end
  pub owner : a.form.owner ≡ BlockOwner (record { number = a.head.number; level = a.head.level })

-- or a begin block, behind so many others, of the procedure or function of a level
pub record IsBegunForm (program : Y.Program) (valued : Bool) (a : Running) : Type 0 where
  pub kind : a.head.kind ≡ Y.BeginBlock
  pub behind : ℕ
  pub outer : Outer
  pub rest : List Outer
  pub level : ℕ
  pub there : drop behind a.form.outers ≡ outer ∷ rest
  pub begins : (is_begin a.layer.kind ≡ true) × AreBegins behind a.form.outers
  pub procedure : is_begin outer.beginning.layer.kind ≡ false
  pub function : outer.function ≡ function_by valued
  pub inner : level < a.layer.level
  pub found :
      height_of (ancestor_at (a.form.behind a.made).state level) ≡ length outer.point.state.activations + 1
  pub registers : a.form.registers ≤ outer.beginning.layer.saved
  pub numbers : a.numbers ≡ outer.numbers
  pub owner : a.form.owner ≡ BlockOwner (record { number = outer.beginning.head.number; level = level })
  pub ends : IsEnd (links_for program) outer.beginning.head.number outer.end

pub record IsRunning {program : Y.Program} (m : Main program) (input : List ℕ) (acts : ℕ) (valued : Bool) (more : ℕ)
    (a : Running) (blocks : ℕ) : Type 0
  where
    pub own : block_around (environment_for program a.head) a.head.level ≡ a.head.number
    pub shallow : a.head.level < 16
    pub level : a.head.level ≡ a.layer.level
    pub held : IsHeld a
    pub home : IsCalledForm program valued a ⊎ IsBegunForm program valued a
    pub placed :
        Placed (links_for program) (linked_code (code_for program)) a.index
        (stmts_code (environment_of_run program a) none_taken a.body)
    pub statements :
        are_statements (scope_of program m.called a.head a.body) valued (labels_in a.body ++ []) a.body ≡ true
    pub fits : statements_need a.body ≤ held_registers
    pub waiting : statements_set a.body ≤ most_waiting
    pub begun : IsBegun (block_of_run program input acts valued more a)
    pub enough : acts < more + (block_of_run program input acts valued more a).first.state.world.acts
    pub nested : IsNested (block_of_run program input acts valued more a)
    pub variables :
        (x : Spot) → is_known (scope_of program m.called a.head a.body) x ≡ true →
        IsNumber (block_of_run program input acts valued more a) x
    pub arrays :
        (x : Spot) → is_array_known (scope_of program m.called a.head a.body) x ≡ true →
        IsArray (block_of_run program input acts valued more a) x
        (grid_known (scope_of program m.called a.head a.body) x)
    pub narrows :
        (x : Spot) → is_narrow_known (scope_of program m.called a.head a.body) x ≡ true →
        IsScalar (block_of_run program input acts valued more a) x
        (type_known (scope_of program m.called a.head a.body) x)
    pub parameters :
        (x : Spot) → is_received (scope_of program m.called a.head a.body) x ≡ true →
        IsParameterAround (block_of_run program input acts valued more a) x
    -- the frames tell the names of all numbers, whose serial numbers have two words
    pub named :
        (x : Spot) → is_known (scope_of program m.called a.head a.body) x ≡ true →
        IsTelling (block_of_run program input acts valued more a) x
    pub serials : (block_of_run program input acts valued more a).first.state.serials < 2 ^ 64
    pub unraised :
        (c : Condition) → IsSystem (force (block_of_run program input acts valued more a).first.state.activations c)
    pub idle : (block_of_run program input acts valued more a).first.control.waiting ≡ None
    -- what the program tells of its static data is told there
    pub told : IsOf program (block_of_run program input acts valued more a)
    pub free :
        Free (surroundings_for program input acts) (block_of_run program input acts valued more a).first blocks
    pub tabled : HasTable program (block_of_run program input acts valued more a).first
    pub depth : HasDepth (block_of_run program input acts valued more a).first blocks

-- one of its pointers: data begin behind the code
pub record IsPointing (program : Y.Program) (k : Block) (head : Y.BlockHead) (x : Spot) : Type 0 where
  pub known : IsKnown k x pointer_declared
  pub own : x.level ≡ head.level
  pub low : 4 * length (linked_code (code_for program)) ≤ k.first.places.low

-- where it was entered just now: its frame has the words that its loops set aside, and nothing waits in them; and its
-- pointers and areas are known
pub record IsEntered {program : Y.Program} (m : Main program) (input : List ℕ) (acts : ℕ) (valued : Bool) (more : ℕ)
    (a : Running) (blocks : ℕ) : Type 0
  where
    pub running : IsRunning m input acts valued more a blocks
    pub words : running.free.layer.words ≡ statements_set a.body
    pub clear : with_waits (λ n. None) running.free.layer ≡ running.free.layer
    pub pointers :
        (x : Spot) → is_pointer_known (scope_of program m.called a.head a.body) x ≡ true →
        IsPointing program (block_of_run program input acts valued more a) a.head x
    pub areas :
        (x : Spot) → is_area_known (scope_of program m.called a.head a.body) x ≡ true →
        HasArea (block_of_run program input acts valued more a) x

-- the calls with arguments in a block do what they mean
abbrev pub EachGiven : {program : Y.Program} → Main program → (input : List ℕ) → (acts : ℕ) → (valued : Bool) →
    (more : ℕ) → Running → Layer → List Layer → Type 0
EachGiven {program} m input acts valued more a φ φs =
    (scope_of program m.called a.head a.body).gives ≡ true →
    KnowsGivenCalls (scope_of program m.called a.head a.body) (block_of_run program input acts valued more a)
    φ φs (labels_in a.body ++ []) (most_for program) left_over

-- at each of its points there is as much room
pub free_among :
    {k : Block} {numbers : ℕ → ℕ} {p : Point} (blocks : ℕ) → IsBegun k → IsAmong k numbers p →
    Free k.call.surroundings k.first blocks → Free k.call.surroundings p blocks
free_among {k} {p = p} blocks b o f =
    let w = k.call.surroundings in
    let used = f.used in
    let fits = f.fits in
    let same = in_use_later w k.first p b.resumes.stands o.stands o.later in
    record {
      layer = f.layer;
      below = f.below;
      newest = o.later.layers ∙ f.newest;
      even = f.even;
      under = f.under;
      low = subst (λ n. n ≤ w.parts.stack_start) (sym o.later.remains.low) f.low;
      used = omega (arith, used, same);
      fits = omega (arith, fits, same);
    }

-- and the same table
tabled_later :
    {q r : Point} (e : Environment) (ds : List Y.DeclaredVariable) → Remains q r →
    AreTabled e q.places.signatures ds → AreTabled e r.places.signatures ds
tabled_later e [] same h = tt
tabled_later e (d ∷ ds) same h = (
  record { small = h.0.small; shape = shapes_remain same (table_number e d) (shape_of [] d) h.0.shape },
  tabled_later e ds same h.1,
)

pub table_later : {q r : Point} (program : Y.Program) → Remains q r → HasTable program q → HasTable program r
table_later program same h head =
    tabled_later (environment_for program head) (variables_of_block program head.number) same (h head)

-- ---- what a procedure's block has

pub called_held :
    {program : Y.Program} (m : Main program) (valued : Bool) (head : Y.BlockHead) (body : Y.Stmts) →
    are_statements (scope_of program m.called head body) valued (labels_in body ++ []) body ≡ true →
    statements_need body ≤ held_registers → begins_need body ≤ held_registers → (a : Running) → a.body ≡ body →
    a.form.registers ≡ (procedure_for program head body).saved → IsHeld a
called_held {program} m valued head body statements fits begins a same saved =
    let s = scope_of program m.called head body in
    let e = environment_for program head in
    let known' = (block_known program.variables head.number m.known).known in
    let own = registers_held s valued e head.number body known' statements fits in
    let inner = begins_held s valued e head.number body statements begins in
    let needs = ap statements_need same in
    let more = ap begins_need same in
    record {
      own = omega (arith, needs, own, saved);
      begins = omega (arith, more, inner, saved);
      all = omega (arith, saved);
    }

-- ---- with other layers or texts

pub held_alike :
    {a : Running} {layers : List Layer → List Layer} {texts : List S.Entry → List S.Entry} → IsHeld a →
    IsHeld (record a { layers = layers; texts = texts })
held_alike h = record { own = h.own; begins = h.begins; all = h.all }

pub form_alike :
    {program : Y.Program} {valued : Bool} {a : Running} {layers : List Layer → List Layer}
    {texts : List S.Entry → List S.Entry} → IsCalledForm program valued a ⊎ IsBegunForm program valued a →
    IsCalledForm program valued (record a { layers = layers; texts = texts })
    ⊎ IsBegunForm program valued (record a { layers = layers; texts = texts })
form_alike (inl h) =
    inl (record { function = h.function; kind = h.kind; saved = h.saved; ends = h.ends; owner = h.owner })
form_alike (inr h) =
    inr (record {
      kind = h.kind;
      behind = h.behind;
      outer = h.outer;
      rest = h.rest;
      level = h.level;
      there = h.there;
      begins = h.begins;
      procedure = h.procedure;
      function = h.function;
      inner = h.inner;
      found = h.found;
      registers = h.registers;
      numbers = h.numbers;
      owner = h.owner;
      ends = h.ends;
    })

-- ---- while limits of loops wait in words of its frame

abbrev pub told_run : Running → (waits : ℕ → Option ℕ) → Layer → List Layer → Running
told_run a waits φ φs = record a { layers = λ ls. with_waits waits φ ∷ φs }

-- as much is known of it
pub told_running :
    {program : Y.Program} {m : Main program} {input : List ℕ} {acts : ℕ} {valued : Bool} {more : ℕ} {a : Running}
    {blocks : ℕ} (h : IsRunning m input acts valued more a blocks) (waits : ℕ → Option ℕ) →
    IsRunning m input acts valued more (told_run a waits h.free.layer h.free.below) blocks
told_running {program} {m} {input} {acts} {valued} {more} {a} {blocks} h waits =
    let φ = h.free.layer in
    let φs = h.free.below in
    let k = block_of_run program input acts valued more a in
    let free = h.free in
    record {
      own = h.own;
      shallow = h.shallow;
      level = h.level;
      held = held_alike h.held;
      home = form_alike h.home;
      placed = h.placed;
      statements = h.statements;
      fits = h.fits;
      waiting = h.waiting;
      begun = begun_telling k φ φs waits free.newest h.begun;
      enough = h.enough;
      nested = record { own = h.nested.own; few = h.nested.few; some = h.nested.some; same = h.nested.same };
      variables = λ x is. number_told k φ φs waits free.newest x (h.variables x is);
      arrays = λ x is.
          array_told k φ φs waits free.newest x (grid_known (scope_of program m.called a.head a.body) x)
          (h.arrays x is);
      narrows = λ x is.
          narrow_told k φ φs waits free.newest x (type_known (scope_of program m.called a.head a.body) x)
          (h.narrows x is);
      parameters = λ x is. around_told k φ φs waits free.newest x (h.parameters x is);
      named = λ x is. telling_told k φ φs waits free.newest x (h.named x is);
      serials = h.serials;
      unraised = h.unraised;
      idle = h.idle;
      told = record { code = h.told.code; links = h.told.links; constants = h.told.constants };
      free = record {
        layer = with_waits waits φ;
        below = φs;
        newest = refl;
        even = free.even;
        under = free.under;
        low = free.low;
        used = free.used;
        fits = free.fits;
      };
      tabled = h.tabled;
      depth = record { some = h.depth.some; all = h.depth.all };
    }

-- ---- while texts wait on their stack

abbrev pub waited_run : Running → List S.Entry → Running
waited_run a entries = record a { texts = λ es. entries ++ a.texts es }

-- as much is known of it
pub waited_running :
    {program : Y.Program} {m : Main program} {input : List ℕ} {acts : ℕ} {valued : Bool} {more : ℕ} {a : Running}
    {blocks : ℕ} (h : IsRunning m input acts valued more a blocks) (entries : List S.Entry) →
    IsRunning m input acts valued more (waited_run a entries) blocks
waited_running {program} {m} {input} {acts} {valued} {more} {a} {blocks} h entries =
    let k = block_of_run program input acts valued more a in
    let s = scope_of program m.called a.head a.body in
    let free = h.free in
    record {
      own = h.own;
      shallow = h.shallow;
      level = h.level;
      held = held_alike h.held;
      home = form_alike h.home;
      placed = h.placed;
      statements = h.statements;
      fits = h.fits;
      waiting = h.waiting;
      begun = begun_waits k entries h.begun;
      enough = h.enough;
      nested = record { own = h.nested.own; few = h.nested.few; some = h.nested.some; same = h.nested.same };
      variables = λ x is. number_waits k entries x (h.variables x is);
      arrays = λ x is. array_waits k entries x (grid_known s x) (h.arrays x is);
      narrows = λ x is. narrow_waits k entries x (type_known s x) (h.narrows x is);
      parameters = λ x is. parameter_waits k entries x (h.parameters x is);
      named = λ x is. telling_waits k entries x (h.named x is);
      serials = h.serials;
      unraised = h.unraised;
      idle = h.idle;
      told = record { code = h.told.code; links = h.told.links; constants = h.told.constants };
      free = record {
        layer = free.layer;
        below = free.below;
        newest = free.newest;
        even = free.even;
        under = free.under;
        low = free.low;
        used = free.used;
        fits = free.fits;
      };
      tabled = h.tabled;
      depth = record { some = h.depth.some; all = h.depth.all };
    }
