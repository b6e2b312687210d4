-- What stands around a part of a run: a program all of whose procedures and variables are sound, a place in
-- it, the activations of the blocks around, and how blocks are entered.
use Rattle.std.proofs.Common.{◌∙◌, ◌≡◌, ℕ, zero, suc, ◌+◌, ◌<◌, ◌≤◌, pos, List, [], ◌∷◌, Option, Some, None, Bool}
use Rattle.std.proofs.Common.{true, false}
use Rattle.std.proofs.Common.{refl, ap}
use Rattle.std.proofs.Common.{sym, subst, arith}
use Rattle.std.specs.Prelude.{◌==◌, cond, ⊤, drop, length, slice_get, is_some, unwrap_or}
use Rattle.pli_typing.specs.TypedTree as Y
use Rattle.pli_meaning.specs.BasicValues.{Name, NullName, VariableName, BasedName, BasicValue}
use Rattle.pli_meaning.specs.Contents.{Shape, Generation, Placed, changed_at}
use Rattle.pli_meaning.specs.StorageState.{State, Binding, Activation, with_area, with_generation, area_changed}
use Rattle.pli_meaning.specs.StorageState.{living_changed, heap_serial, offsets_of, generation_at}
use Rattle.pli_meaning.specs.Control.{Meaning}
use Rattle.pli_meaning.specs.Raising.{Around, Enter, Entry, Passed, PassedName, PassedValue, unit_entered}
use Rattle.pli_meaning.specs.DeclaredShapes as D
use Rattle.pli_meaning.specs.Making as K
use Rattle.pli_meaning.specs.Placing as A
use Rattle.pli_meaning.specs.Executing.{is_own_return}
use Rattle.well_formed_trees.specs.Every.{Every}
use Rattle.well_formed_trees.specs.WellFormed.{IsHeld}
use Rattle.well_formed_trees.specs.Statements.{IsListed, IsListedUnit}
use Rattle.well_formed_trees.specs.Members.{all_dimensions}
use Rattle.well_formed_trees.specs.Declarations.{IsReferIf, AreMembers, AreasAlone, HaveBounds, leaf_dimensions}
use Rattle.well_formed_trees.specs.Surroundings.{Table, Where, Returning, Returns, NoReturn}
use Rattle.well_formed_trees.specs.Surroundings as W
use Rattle.well_formed_trees.specs.Expressions.{SoundNumber}
use Rattle.meaning_runs.proofs.Calling.{Calls, AnyCall, NoCall, AllowedVariable}
use Rattle.meaning_runs.proofs.Frames.{Frame, skeleton, Stands, Chain, IsOpen}
use Rattle.meaning_runs.proofs.Demands.{Bearing, block_around, placed, SoundBlock, SoundUnit, HasUnits}
use Rattle.meaning_runs.proofs.Demands.{Demand, Kept}
use Rattle.meaning_runs.proofs.Shapes.{IsShapedAs, IsOwnName, StandsAs, shape_declared, kind_number}
use Rattle.meaning_runs.proofs.Values.{IsOfNumber, HasValues, HasInitial, AllHave, HasStored, fresh_values}
use Rattle.meaning_runs.proofs.Values.{area_stored, generation_stored, removed_all}
use Rattle.meaning_runs.proofs.Heaps.{HasHeap, KeepsShape, heap_changed, heap_popped}
use Rattle.meaning_runs.proofs.Bindings.{IsNewBinding, binding_added, Ground}
use Rattle.meaning_runs.proofs.Demands.{There}
use Rattle.meaning_runs.proofs.Demands.{IsThere, Answered}
use Rattle.meaning_runs.proofs.Steps.{Passes, fewer_left}

-- ---- a whole program

-- what is evaluated for a variable's extents is sound, where it is declared; it calls nothing. Each leaf has
-- the bounds of the members that hold it
pub record Declares (p : Y.Program) (table : Table) (block : ℕ) (d : Y.DeclaredVariable) : Type 0 where
  pub blocks : List W.Around
  pub listed : slice_get table block ≡ Some blocks
  pub sound : Every (λ x. SoundNumber (placed p table blocks NoReturn) x.value) d.evaluations
  pub allowed : AllowedVariable NoCall d
  pub members : AreMembers d.members
  pub areas : AreasAlone d
  pub initial : HasInitial d.leaves
  pub refer : IsReferIf d d.refer
  pub dimensions : HaveBounds d.leaves (leaf_dimensions d.members (all_dimensions d.members))

-- what a parameter takes
abbrev pub TakesPassed : Y.DeclaredVariable → Passed → Type 0
TakesPassed d (PassedName n shape) = StandsAs d n shape
TakesPassed d (PassedValue kind v) = IsShapedAs d (K.plain kind) × IsOfNumber (kind_number kind) v

-- as many arguments as variables of a block, each of which takes its argument
abbrev pub ArePassedAs : Y.Program → (block : ℕ) → List ℕ → List Passed → Type 0
ArePassedAs p block [] [] = ⊤
ArePassedAs p block (v ∷ vs) (x ∷ xs) =
    ((d : Y.DeclaredVariable) × (slice_get (D.variables_of_block p block) v ≡ Some d) × TakesPassed d x)
    × ArePassedAs p block vs xs
ArePassedAs p block _ _ = ⊥

pub record FineProcedure (p : Y.Program) (table : Table) (q : Y.Procedure) : Type 0 where
  pub block : SoundBlock p table q.block
  pub own : is_own_return block.head.kind ≡ true
  pub returning : block.returning ≡ Returns q.result
  pub held : IsHeld table block.head.level block.outer
  pub listed :
      slice_get table block.head.number ≡ Some (block_around block.head block.body ∷ block.outer)

pub record Whole (p : Y.Program) (table : Table) : Type 0 where
  pub declares : (block : ℕ) → Every (Declares p table block) (D.variables_of_block p block)
  pub procedures : Every (FineProcedure p table) p.procedures

-- ---- blocks that are entered

-- a function has a value
abbrev pub Expected : (is_function : Bool) → Option BasicValue → Type 0
Expected false v = ⊤
Expected true v = IsThere v

-- the blocks around it stand at its parent, where the lists are carried out that units count on
pub record SoundEntry (p : Y.Program) (table : Table) (outer : Bearing) (e : Entry) : Type 0 where
  pub block : SoundBlock p table e.block
  pub chain : Chain table (block_around block.head block.body ∷ block.outer)
  pub stands : Stands outer.frames e.parent block.outer
  pub opens : Every IsOpen outer.frames
  pub passes :
      Passes (is_own_return block.head.kind) (Expected e.is_function) (Some block.returning) outer.answers
  pub passed : ArePassedAs p block.head.number e.parameters e.arguments
  pub listed : IsListedUnit table block.head (block_around block.head block.body ∷ block.outer) block.head.kind

-- a block with a number of its own
pub listed_unit : (table : Table) (head : Y.BlockHead) (around : List W.Around) (kind : Y.BlockKind)
    → IsListed table head around → IsListedUnit table head around kind
listed_unit table head around Y.ProcedureBlock h = h
listed_unit table head around Y.BeginBlock h = h
listed_unit table head around Y.UnitBlock h = h
listed_unit table head around Y.SimpleUnit h = tt

pub unit_entry : (p : Y.Program) (table : Table) (outer : Bearing) (b : Y.Block) (a : Activation) (code : ℕ)
    → Every IsOpen outer.frames → SoundUnit p table outer.frames a.height b
    → SoundEntry p table outer (unit_entered b a code)
unit_entry p table outer b a code o u =
    record {
      block = u.block;
      chain = u.chain;
      stands = u.stands;
      opens = o;
      passes =
          subst (λ own. Passes own (Expected false) (Some u.block.returning) outer.answers) (sym u.own) (λ v h. tt);
      passed = tt;
      listed = u.listed;
    }

result_expected : (type : Option Y.LeafType) (v : Option BasicValue) → Answered (Returns type) v
    → Expected (is_some type) v
result_expected None v h = tt
result_expected (Some t) v h = h

pub procedure_passes : (p : Y.Program) (table : Table) (answers : Option Returning) (q : Y.Procedure)
    (f : FineProcedure p table q)
    → Passes (is_own_return f.block.head.kind) (Expected (is_some q.result)) (Some f.block.returning) answers
procedure_passes p table answers q f =
    subst (λ own. Passes own (Expected (is_some q.result)) (Some f.block.returning) answers) (sym f.own)
    (λ v h. result_expected q.result v (subst (λ r. Answered r v) f.returning h))

-- ---- what stands around

-- where a procedure may be called, the blocks around are those of the activation and of its static ancestors
pub record Footing (table : Table) (fs : List Frame) (blocks : List W.Around) : Type 0 where
  pub stands : Stands fs (length fs) blocks
  pub chain : Chain table blocks

abbrev pub FootingIf : Calls → Table → List Frame → List W.Around → Type 0
FootingIf AnyCall table fs blocks = Footing table fs blocks
FootingIf NoCall table fs blocks = ⊤

pub record Ways : Type 0 where
  pub program : Y.Program
  pub table : Table
  pub bearing : Bearing
  pub whole : Whole program table
  pub blocks : List W.Around
  pub returning : Returning
  pub calls : Calls
  pub footing : FootingIf calls table bearing.frames blocks
  pub ground : Ground table bearing.frames blocks
  pub opens : Every IsOpen bearing.frames
  pub line : ℕ
  pub enter : Enter
  pub turns : ℕ
  pub left : ℕ
  pub keeps : (outer : Bearing) (e : Entry) → SoundEntry program table outer e
      → There (record { program = program; table = table; bearing = outer }) 0 1 left (Expected e.is_function)
      (enter e)
  pub few : left < turns

abbrev pub demand : Ways → Demand
demand w = record { program = w.program; table = w.table; bearing = w.bearing }

abbrev pub around : Ways → Around
around w = record { program = w.program; enter = w.enter; turns = w.turns; line = w.line }

abbrev pub here : Ways → Where
here w = placed w.program w.table w.blocks w.returning

abbrev pub on_line : ℕ → Ways → Ways
on_line line w =
    record {
      program = w.program;
      table = w.table;
      bearing = w.bearing;
      whole = w.whole;
      blocks = w.blocks;
      returning = w.returning;
      calls = w.calls;
      footing = w.footing;
      ground = w.ground;
      opens = w.opens;
      line = line;
      enter = w.enter;
      turns = w.turns;
      left = w.left;
      keeps = w.keeps;
      few = w.few;
    }

-- at another place of the program, where nothing is called
abbrev pub elsewhere : (blocks : List W.Around) → (w : Ways) → Ground w.table w.bearing.frames blocks → Ways
elsewhere blocks w ground =
    record {
      program = w.program;
      table = w.table;
      bearing = w.bearing;
      whole = w.whole;
      blocks = blocks;
      returning = NoReturn;
      calls = NoCall;
      footing = tt;
      ground = ground;
      opens = w.opens;
      line = w.line;
      enter = w.enter;
      turns = w.turns;
      left = w.left;
      keeps = w.keeps;
      few = w.few;
    }

-- where fewer acts are left
abbrev pub smaller : (w : Ways) (c : ℕ) → c ≤ w.left → Ways
smaller w c r =
    record {
      program = w.program;
      table = w.table;
      bearing = w.bearing;
      whole = w.whole;
      blocks = w.blocks;
      returning = w.returning;
      calls = w.calls;
      footing = w.footing;
      ground = w.ground;
      opens = w.opens;
      line = w.line;
      enter = w.enter;
      turns = w.turns;
      left = c;
      keeps = λ outer e s. fewer_left c w.left r (w.keeps outer e s);
      few = omega (arith, r, w.few);
    }

-- a part is there, whatever stands around it
abbrev pub ThereAround : {R : Type 0} → (after : R → Type 0) → (Around → Meaning R) → Type 0
ThereAround after f = (w : Ways) → There (demand w) 0 1 w.left after (f (around w))

-- ---- declarations and procedures that are there

pub every_at : {X : Type 0} (P : X → Type 0) (xs : List X) (n : ℕ) (x : X) → Every P xs → slice_get xs n ≡ Some x → P x
every_at P [] n x h e = absurd (cc e)
every_at P (y ∷ ys) zero x h e = let same : y ≡ x = cc e in subst P same h.0
every_at P (y ∷ ys) (suc n) x h e = every_at P ys n x h.1 e

pub declared_there : (p : Y.Program) (table : Table) → Whole p table → (v : Y.Variable) (d : Y.DeclaredVariable)
    → D.declared_variable p v ≡ Some d → Declares p table v.block d
declared_there p table whole v d e =
    every_at (Declares p table v.block) (D.variables_of_block p v.block) v.index d (whole.declares v.block) e

pub procedures_same : (n : ℕ) (ps : List Y.Procedure) → D.procedure_numbered n ps ≡ W.procedure_numbered n ps
procedures_same n [] = refl
procedures_same n (p ∷ ps) =
    of_block p.block (D.procedure_numbered n ps) (W.procedure_numbered n ps) (procedures_same n ps)
  where
    of_block : (b : Y.Block) (x y : Option Y.Procedure) → x ≡ y
        → cond ((D.head_of b).number == n) (Some p) x ≡ cond ((W.head_of b).number == n) (Some p) y
    of_block (Y.BlockOf head body) x y e = ap (cond (head.number == n) (Some p)) e

pub procedure_fine : (F : Y.Procedure → Type 0) (n : ℕ) (ps : List Y.Procedure) (q : Y.Procedure) → Every F ps
    → W.procedure_numbered n ps ≡ Some q → F q
procedure_fine F n [] q h e = absurd (cc e)
procedure_fine F n (p ∷ ps) q h e =
    by_test ((W.head_of p.block).number == n) (W.procedure_numbered n ps) (procedure_fine F n ps q h.1) e
  where
    by_test : (t : Bool) (o : Option Y.Procedure) → (o ≡ Some q → F q) → cond t (Some p) o ≡ Some q → F q
    by_test true o further e = let same : p ≡ q = cc e in subst F same h.0
    by_test false o further e = further e

-- ---- changes of a state that keep its on-units

-- the generations of an area are changed; where it is the heap, those of CONTROLLED variables are kept
pub area_kept : (d : Demand) (serial : ℕ) (change : List Placed → List Placed) (s : State)
    → ((serial == heap_serial) ≡ true → HasHeap d.program (change s.heap) s.controlled)
    → ((ps : List Placed) → AllHave ps → AllHave (change ps)) → Kept d s → Kept d (with_area serial change s)
area_kept d serial change s heap values h =
    by_test (serial == heap_serial) heap (area_stored s serial change values h.0.1.1.0.1)
  where
    by_test : (t : Bool) → (t ≡ true → HasHeap d.program (change s.heap) s.controlled)
        → HasStored (cond t (record s { heap = change s.heap })
        (record s { living = living_changed serial (area_changed change) s.living }))
        → Kept d (cond t (record s { heap = change s.heap })
        (record s { living = living_changed serial (area_changed change) s.living }))
    by_test true k stored = ((h.0.0, (h.0.1.0, ((h.0.1.1.0.0, stored), k refl))), h.1)
    by_test false k stored = ((h.0.0, (h.0.1.0, ((h.0.1.1.0.0, stored), h.0.1.1.1))), h.1)

-- a generation is changed that stands there
pub generation_kept : (d : Demand) (n : Name) (change : Generation → Generation) (s : State) (g : Generation)
    → KeepsShape change → generation_at s n ≡ Some g → HasValues (change g) → Kept d s
    → Kept d (with_generation n change s)
generation_kept d NullName change s g c e v h = h
generation_kept d (VariableName serial) change s g c e v h = (
  (
    h.0.0,
    (
      h.0.1.0,
      ((h.0.1.1.0.0, generation_stored s (VariableName serial) change g e v h.0.1.1.0.1), h.0.1.1.1),
    ),
  ),
  h.1,
)
generation_kept d (BasedName area offset) change s g c e v h =
    by_test (area == heap_serial) (generation_stored s (BasedName area offset) change g e v h.0.1.1.0.1)
  where
    changed : List Placed → List Placed
    changed = changed_at offset change

    by_test : (t : Bool)
        → HasStored (cond t (record s { heap = changed s.heap })
        (record s { living = living_changed area (area_changed changed) s.living }))
        → Kept d (cond t (record s { heap = changed s.heap })
        (record s { living = living_changed area (area_changed changed) s.living }))
    by_test true stored = (
      (
        h.0.0,
        (
          h.0.1.0,
          (
            (h.0.1.1.0.0, stored),
            heap_changed d.program offset change s.heap s.controlled c h.0.1.1.1,
          ),
        ),
      ),
      h.1,
    )
    by_test false stored = ((h.0.0, (h.0.1.0, ((h.0.1.1.0.0, stored), h.0.1.1.1))), h.1)

binding_kept : (p : Y.Program) (table : Table) (b : Binding) (fs : List Frame) (as' : List Activation)
    → HasUnits p table fs as' → HasUnits p table fs (K.with_binding b as')
binding_kept p table b [] as' h = tt
binding_kept p table b (f ∷ fs) [] h = tt
binding_kept p table b (f ∷ fs) (a ∷ as') h = h

binding_heights : (b : Binding) (as' : List Activation) → skeleton (K.with_binding b as') ≡ skeleton as'
binding_heights b [] = refl
binding_heights b (a ∷ as') = refl

-- what the newest block's variable may stand for
abbrev pub MayStand : Demand → (variable : ℕ) → Name → Shape → Type 0
MayStand d variable n shape =
    IsNewBinding d.program d.bearing.frames (record { variable = variable; name = n; shape = shape })

pub bound_kept : (d : Demand) (variable : ℕ) (n : Name) (shape : Shape) (s : State) → MayStand d variable n shape
    → Kept d s → Kept d (K.bound variable n shape s)
bound_kept d variable n shape s new h =
    let b : Binding = record { variable = variable; name = n; shape = shape } in (
      (
        binding_kept d.program d.table b d.bearing.frames s.activations h.0.0,
        (binding_added d.program b d.bearing.frames s.activations new h.0.1.0, h.0.1.1),
      ),
      binding_heights b s.activations ∙ h.1,
    )

-- one more generation lives
living_kept : (d : Demand) (g : Generation) (s : State) → HasValues g → Kept d s → Kept d (K.with_living g s)
living_kept d g s v h =
    let stored = h.0.1.1.0.1 in
    ((h.0.0, (h.0.1.0, ((h.0.1.1.0.0, (((v, tt), stored.0), stored.1)), h.0.1.1.1))), h.1)

pub variable_kept : (d : Demand) (variable : ℕ) (g : Generation) (s : State)
    → ((n : Name) → IsOwnName n → MayStand d variable n g.shape) → HasValues g → Kept d s
    → Kept d (K.with_variable variable g s)
variable_kept d variable g s new v h =
    bound_kept d variable (VariableName (s.serials + 1)) g.shape (K.with_living g s)
    (new (VariableName (s.serials + 1)) (omega arith)) (living_kept d g s v h)

pub freed_kept : (d : Demand) (v : Y.Variable) (s : State) → Kept d s → Kept d (A.controlled_freed v s)
freed_kept d v s h = of_stack (offsets_of s.controlled v.block v.index) refl
  where
    of_stack : (os : List ℕ) → offsets_of s.controlled v.block v.index ≡ os → Kept d (A.without_newest_of v os s)
    of_stack [] e = h
    of_stack (o ∷ os) e = (
      (
        h.0.0,
        (
          h.0.1.0,
          (
            (h.0.1.1.0.0, (h.0.1.1.0.1.0, removed_all o s.heap h.0.1.1.0.1.1)),
            heap_popped d.program s.heap v.block v.index o os s.controlled e h.0.1.1.1,
          ),
        ),
      ),
      h.1,
    )

-- where a list goes on
pub next_of : {X : Type 0} (xs : List X) (n : ℕ) (y : X) (ys : List X) → drop n xs ≡ y ∷ ys
    → (slice_get xs n ≡ Some y) × (drop (n + 1) xs ≡ ys)
next_of {X} xs n y ys e =
    let r = by_place xs n e in
    let more : suc n ≡ n + 1 = omega arith in
    (r.0, subst (λ m. drop m xs ≡ ys) more r.1)
  where
    by_place : (xs : List X) (n : ℕ) → drop n xs ≡ y ∷ ys → (slice_get xs n ≡ Some y) × (drop (suc n) xs ≡ ys)
    by_place [] zero e = absurd (cc e)
    by_place [] (suc n) e = absurd (cc e)
    by_place (x ∷ xs) zero e = let same : x ≡ y = cc e in let rest : xs ≡ ys = cc e in (ap Some same, rest)
    by_place (x ∷ xs) (suc n) e = by_place xs n e

static_kept : (d : Demand) (block variable : ℕ) (v : Y.DeclaredVariable) (class : Y.StorageClass) (s : State)
    → HasInitial v.leaves → slice_get (D.variables_of_block d.program block) variable ≡ Some v → Kept d s
    → Kept d (K.static_made block variable v class s)
static_kept d block variable v Y.AutomaticClass s i e h = h
static_kept d block variable v Y.ParameterClass s i e h = h
static_kept d block variable v Y.StaticClass s i e h =
    let stored = h.0.1.1.0.1 in
    let values = fresh_values (D.shape_of [] v) (pos 0) v.leaves (shape_declared [] v) i in (
      (
        h.0.0,
        (
          h.0.1.0,
          (
            ((λ x f. of_declared x f, h.0.1.1.0.0), (((values, tt), stored.0), stored.1)),
            h.0.1.1.1,
          ),
        ),
      ),
      h.1,
    )
  where
    of_declared : (x : Y.DeclaredVariable)
        → slice_get (D.variables_of_block d.program block) variable ≡ Some x
        → StandsAs x (VariableName (s.serials + 1)) (D.shape_of [] v)
    of_declared x f =
        let same : v ≡ x = cc (e, f) in
        (subst (λ y. IsShapedAs y (D.shape_of [] v)) same (shape_declared [] v), λ a. omega arith)
static_kept d block variable v Y.BasedClass s i e h = h
static_kept d block variable v Y.ControlledClass s i e h = h

block_kept : (d : Demand) (block variable : ℕ) (vs : List Y.DeclaredVariable) (s : State)
    → Every (λ v. HasInitial v.leaves) vs → drop variable (D.variables_of_block d.program block) ≡ vs → Kept d s
    → Kept d (K.statics_of_block block variable vs s)
block_kept d block variable [] s i e h = h
block_kept d block variable (v ∷ vs) s i e h =
    let next = next_of (D.variables_of_block d.program block) variable v vs e in
    block_kept d block (variable + 1) vs (K.static_made block variable v v.class s) i.1 next.1
    (static_kept d block variable v v.class s i.0 next.0 h)

-- what INITIAL says of all variables
abbrev pub AllInitial : Y.Program → Type 0
AllInitial p = (block : ℕ) → Every (λ v. HasInitial v.leaves) (D.variables_of_block p block)

statics_on : (d : Demand) (block : ℕ) (vs : List (List Y.DeclaredVariable)) (s : State) → AllInitial d.program
    → drop block d.program.variables ≡ vs → Kept d s → Kept d (K.statics_from block vs s)
statics_on d block [] s i e h = h
statics_on d block (v ∷ vs) s i e h =
    let next = next_of d.program.variables block v vs e in
    let same : D.variables_of_block d.program block ≡ v = ap (λ o. unwrap_or o []) next.0 in
    statics_on d (block + 1) vs (K.statics_of_block block 0 v s) i next.1
    (block_kept d block 0 v s (subst (λ xs. Every (λ x. HasInitial x.leaves) xs) same (i block)) same h)

pub statics_kept : (d : Demand) (s : State) → AllInitial d.program → Kept d s
    → Kept d (K.statics_from 0 d.program.variables s)
statics_kept d s i h = statics_on d 0 d.program.variables s i refl h
