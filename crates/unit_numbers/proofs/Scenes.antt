-- A block that runs above the main procedure's: of a procedure, of a function, or of a unit; and what is known at its
-- first statement.
use Rattle.std.proofs.Common.{◌≡◌, ℕ, suc, ◌+◌, ◌<◌, ◌≤◌, List, [], ◌∷◌, ◌++◌, Option, None, true, false, refl}
use Rattle.std.proofs.Common.{sym, ap, subst}
use Rattle.std.specs.Prelude.{drop, not}
use Rattle.pli_language.specs.declared.condition.Condition.{Condition}
use Rattle.pli_typing.specs.TypedTree as Y
use Rattle.pli_meaning.specs.Control.{Label}
use Rattle.pli_meaning.specs.Executing.{entered, labels_in}
use Rattle.pli_meaning.specs.StorageState.{Activation, force}
use Rattle.pli_coding.specs.Environments.{block_around, none_taken}
use Rattle.pli_coding.specs.Images.{linked_code}
use Rattle.pli_coding.specs.Registers.{held_registers}
use Rattle.pli_coding.specs.Statements.{stmts_code}
use Rattle.pli_coding.specs.Frames.{frame_end}
use Rattle.activation_relation.specs.FrameLaws.{with_waits}
use Rattle.activation_relation.specs.Frames.{frame_under, upper_top}
use Rattle.activation_relation.specs.Layers.{Layer, Point}
use Rattle.activation_relation.specs.ServiceLaws.{IsSystem}
use Rattle.edit_runs.specs.Writing.{with_edits}
use Rattle.pli_serving.specs.ServiceState.{EditPlace, Entry}
use Rattle.program_runs.proofs.Waiting.{begun_waits}
use Rattle.text_runs.proofs.Waiting.{number_waits}
use Rattle.number_runs.proofs.Waiting.{array_waits, narrow_waits}
use Rattle.edit_runs.proofs.Places.{begun_placed, number_placed}
use Rattle.number_runs.proofs.Puts.{narrow_placed}
use Rattle.program_places.specs.Placed.{Placed}
use Rattle.program_places.specs.Programs.{code_for, links_for}
use Rattle.program_runs.specs.Calls.{left_over}
use Rattle.program_runs.specs.Starts.{image_parts}
use Rattle.program_runs.specs.Statements.{Block, EachDoes, IsBegun, Outer, outer_block, own_height, with_texts}
use Rattle.expression_runs.specs.Variables.{IsNumber, Spot}
use Rattle.array_runs.specs.Arrays.{IsArray}
use Rattle.scalar_runs.specs.Scalars.{IsScalar}
use Rattle.condition_codes.specs.Codes.{HasCode}
use Rattle.jump_runs.specs.Functions.{FunctionDoes, IsFunctionList}
use Rattle.phase_runs.specs.Units.{IsListed}
use Rattle.unit_runs.specs.Establishing.{OnUnit}
use Rattle.unit_runs.specs.InnerLists.{ListDoes}
use Rattle.counter_runs.proofs.Known.{number_told}
use Rattle.counter_runs.proofs.Words.{begun_telling}
use Rattle.argument_runs.specs.Lists.{with_list}
use Rattle.block_headlines.specs.Constants.{IsOf}
use Rattle.nested_calls.specs.Nested.{IsNested, parent_at}
use Rattle.number_runs.specs.Knowledge.{Includes, IsHome}
use Rattle.number_runs.specs.Numbers.{Scope, grid_known, is_array_known, is_known, is_narrow_known, type_known}
use Rattle.number_runs.proofs.Arrays.{array_told}
use Rattle.number_runs.proofs.Narrow.{narrow_told}
use Rattle.number_runs.specs.Statements.{are_statements, statements_need, statements_set}
use Rattle.number_headlines.specs.Programs.{most_waiting}
use Rattle.number_headlines.proofs.Running.{Free, HasDepth, HasTable}
use Rattle.unit_numbers.specs.Calls.{has_jumps, has_unit, is_jumped_to, scope_in}
use Rattle.unit_numbers.specs.Steps.{are_steps}
use Rattle.unit_numbers.proofs.Established.{IsOnOf}
use Rattle.unit_numbers.proofs.Homes.{Home, IsHome', world_of}
use Rattle.unit_numbers.proofs.Hosts.{HasNames, InForce, InForceBelow, IsCarrying, MayHost, MayLand, Part}
use Rattle.unit_numbers.proofs.Hosts.{force_with, with_control}
use Rattle.unit_numbers.proofs.Mains.{Main}
use Rattle.unit_numbers.proofs.Places.{all_placed_in}
use Rattle.unit_numbers.proofs.Puts.{array_placed}

-- ---- what runs

abbrev pub scope_of : {program : Y.Program} → Main program → Part → Scope
scope_of {program} m c = scope_in program m.called c.all c.caller c.unit c.writes

abbrev pub block_of : {program : Y.Program} → Main program → Home → Outer → List Outer → Block
block_of {program} m h o os = outer_block (world_of m h) (linked_code (code_for program)) o os

-- where blocks may be entered so many deep inside it, and so many frames have room above it
pub record IsAt {program : Y.Program} (m : Main program) (h : Home) (more blocks : ℕ) (c : Part) (o : Outer)
    (os : List Outer) : Type 0
  where
    pub begun : IsBegun (block_of m h o os)
    pub source : o.environment.program ≡ program
    pub parts : o.environment.parts ≡ image_parts
    pub around : o.around.program ≡ program
    pub enter : o.around.enter ≡ entered program more
    pub turns : h.acts < o.around.turns + o.first.state.world.acts
    pub enough : h.acts < more + o.first.state.world.acts
    pub held : o.registers ≤ held_registers
    pub nested : IsNested (block_of m h o os)
    pub inside : c.caller.level ≤ o.environment.level
    pub variables : (x : Spot) → is_known (scope_of m c) x ≡ true → IsNumber (block_of m h o os) x
    pub arrays :
        (x : Spot) → is_array_known (scope_of m c) x ≡ true →
        IsArray (block_of m h o os) x (grid_known (scope_of m c) x)
    pub narrows :
        (x : Spot) → is_narrow_known (scope_of m c) x ≡ true →
        IsScalar (block_of m h o os) x (type_known (scope_of m c) x)
    -- the unit in force for a condition is known: its own, or one of a block below
    pub forced : (condition : Condition) → InForce m (block_of m h o os) c.unit c.caller c.all condition
    -- in the main procedure's own list, to whose labels units jump, that is one of the list
    pub settled :
        is_jumped_to c.unit c.all ≡ true → c.caller.level ≡ 0 → (condition : Condition) →
        not (has_unit condition c.all) ≡ true → IsSystem (force o.first.state.activations condition)
    -- the oldest block is the main procedure's
    pub oldest : parent_at (block_of m h o os) 0 ≡ 1
    pub idle : o.first.control.waiting ≡ None
    -- ONCODE is a condition's code, or 0
    pub code : HasCode (block_of m h o os)
    -- what the program tells of its static data is told there
    pub told : IsOf program (block_of m h o os)
    pub free : Free (world_of m h) o.first blocks
    pub tabled : HasTable program o.first
    pub depth : HasDepth o.first blocks

-- its list is of the class and stands in the code
pub record IsPart {program : Y.Program} (m : Main program) (c : Part) (o : Outer) : Type 0 where
  pub statements :
      c.unit ≡ true → are_statements (scope_of m c) c.valued (labels_in c.body ++ []) c.body ≡ true
  pub needs : statements_need c.body ≤ o.registers
  pub waiting : statements_set c.body ≤ most_waiting
  pub placed :
      Placed (links_for program) (linked_code (code_for program)) c.index
      (stmts_code o.environment none_taken c.body)

-- a unit's own block: further out is that which established the unit, its static parent
pub record IsInside {program : Y.Program} (m : Main program) (h : Home) (c : Part) (o : Outer) (os : List Outer)
    : Type 0
  where
    pub block : Block
    pub lands : MayLand program block c.caller c.all
    pub carried : IsCarrying os block c.all
    pub found : parent_at (block_of m h o os) c.caller.level ≡ own_height block
    pub level : o.beginning.layer.level ≡ suc c.caller.level
    pub around : block_around o.environment c.caller.level ≡ c.caller.number

-- no unit is its own there
pub record IsBare (p : Point) : Type 0 where
  pub activation : Activation
  pub others : List Activation
  pub none : activation.units ≡ []
  pub is : p.state.activations ≡ activation ∷ others

-- the ONs of its list, where they stand
abbrev pub ons_in : Part → Outer → List (OnUnit × ℕ)
ons_in c o = all_placed_in o.environment c.body c.index

-- what is called, in whose list ON may stand
pub record IsVisited {program : Y.Program} (m : Main program) (h : Home) (c : Part) (o : Outer) (os : List Outer)
    : Type 0
  where
    pub steps :
        are_steps program m.called c.caller c.all c.valued (labels_in c.body ++ []) c.body ≡ true
    pub ons : (e : OnUnit × ℕ) → IsListed e (ons_in c o) → IsOnOf m c.caller c.all e
    pub bare : IsBare o.first
    pub level : o.environment.level ≡ c.caller.level
    pub inner : 0 < c.caller.level
    pub below : (condition : Condition) → InForceBelow m (block_of m h o os) condition
    pub home : IsHome (scope_of m c) c.valued (block_of m h o os) left_over
    -- units jump to labels of its list
    pub own : c.all ≡ c.body
    pub lands : has_jumps c.all ≡ true → MayLand program (block_of m h o os) c.caller c.all

-- where it was entered just now: its frame has the words that its loops set aside, and nothing waits in them
pub record IsEntered {program : Y.Program} (m : Main program) (h : Home) (more blocks : ℕ) (c : Part) (o : Outer)
    (os : List Outer) : Type 0
  where
    pub at : IsAt m h more blocks c o os
    pub part : IsPart m c o
    pub words : at.free.layer.words ≡ statements_set c.body
    pub clear : (n : ℕ) → at.free.layer.waits n ≡ None
    pub inner : c.unit ≡ true → has_jumps c.all ≡ true → IsInside m h c o os
    pub visited : c.unit ≡ false → IsVisited m h c o os

-- ---- the labels that jumps may name

-- among them are those to which units of its list jump
abbrev pub Carries : Part → (labels : List Label) → Type 0
Carries c labels = c.unit ≡ false → has_jumps c.all ≡ true → Includes (labels_in c.all) labels

pub carries_more :
    (c : Part) (own labels : List Label) → Carries c own → Includes own labels → Carries c labels
carries_more c own labels carries includes unit jumps label e = includes label (carries unit jumps label e)

-- none does
abbrev pub IsStill : Part → Type 0
IsStill c = c.unit ≡ false → has_jumps c.all ≡ true → ⊥

-- ---- while limits of loops wait in words of its frame

abbrev pub told_outer : Outer → (waits : ℕ → Option ℕ) → Layer → List Layer → Outer
told_outer o waits φ φs = record o { first = with_list waits φ φs o.first }

-- a jump lands there as it did
lands_told :
    {program : Y.Program} (k : Block) (head : Y.BlockHead) (all : Y.Stmts) (waits : ℕ → Option ℕ) (φ : Layer)
    (φs : List Layer) → k.first.control.layers ≡ φ ∷ φs → MayLand program k head all →
    MayLand program (with_control k (record k.first.control { layers = with_waits waits φ ∷ φs })) head all
lands_told {program} k head all waits φ φs newest l =
    record {
      registers = l.registers;
      entries = l.entries;
      edits = l.edits;
      top =
          subst (λ ls. upper_top image_parts ls
          ≡ frame_under image_parts ls + frame_end image_parts program head.number head.level) newest l.top;
      number = l.number;
      placed = l.placed;
    }

pub at_told :
    {program : Y.Program} {m : Main program} {h : Home} {more blocks : ℕ} {c : Part} {o : Outer} {os : List Outer}
    (a : IsAt m h more blocks c o os) (waits : ℕ → Option ℕ) →
    IsAt m h more blocks c (told_outer o waits a.free.layer a.free.below) os
at_told {program} {m} {h} {more} {blocks} {c} {o} {os} a waits =
    let φ = a.free.layer in
    let φs = a.free.below in
    let k = block_of m h o os in
    let free = a.free in
    record {
      begun = begun_telling k φ φs waits free.newest a.begun;
      source = a.source;
      parts = a.parts;
      around = a.around;
      enter = a.enter;
      turns = a.turns;
      enough = a.enough;
      held = a.held;
      nested = record { own = a.nested.own; few = a.nested.few; some = a.nested.some; same = a.nested.same };
      inside = a.inside;
      variables = λ x is. number_told k φ φs waits free.newest x (a.variables x is);
      arrays = λ x is. array_told k φ φs waits free.newest x (grid_known (scope_of m c) x) (a.arrays x is);
      narrows = λ x is. narrow_told k φ φs waits free.newest x (type_known (scope_of m c) x) (a.narrows x is);
      forced = λ d.
          force_with k (record o.first.control { layers = with_waits waits φ ∷ φs })
          (λ n. sym (ap (λ ls. drop (suc n) ls) free.newest))
          (λ unit jumps lands. lands_told k c.caller c.all waits φ φs free.newest lands) (a.forced d);
      settled = a.settled;
      oldest = a.oldest;
      idle = a.idle;
      code = a.code;
      told = record { code = a.told.code; links = a.told.links; constants = a.told.constants };
      free = record {
        layer = with_waits waits φ;
        below = φs;
        newest = refl;
        even = free.even;
        under = free.under;
        low = free.low;
        used = free.used;
        fits = free.fits;
      };
      tabled = a.tabled;
      depth = record { some = a.depth.some; all = a.depth.all };
    }

-- ---- while a place in a format list is in use

abbrev pub placed_outer : EditPlace → Outer → Outer
placed_outer place o = record o { first = with_edits (place ∷ o.first.control.edits) o.first }

pub at_placed :
    {program : Y.Program} {m : Main program} {h : Home} {more blocks : ℕ} {c : Part} {o : Outer} {os : List Outer}
    (a : IsAt m h more blocks c o os) → IsStill c → (place : EditPlace) →
    IsAt m h more blocks c (placed_outer place o) os
at_placed {program} {m} {h} {more} {blocks} {c} {o} {os} a still place =
    let k = block_of m h o os in
    let free = a.free in
    record {
      begun = begun_placed k place a.begun;
      source = a.source;
      parts = a.parts;
      around = a.around;
      enter = a.enter;
      turns = a.turns;
      enough = a.enough;
      held = a.held;
      nested = record { own = a.nested.own; few = a.nested.few; some = a.nested.some; same = a.nested.same };
      inside = a.inside;
      variables = λ x is. number_placed k place x (a.variables x is);
      arrays = λ x is. array_placed k place x (grid_known (scope_of m c) x) (a.arrays x is);
      narrows = λ x is. narrow_placed k place x (type_known (scope_of m c) x) (a.narrows x is);
      forced = λ d.
          force_with k (record o.first.control { edits = place ∷ o.first.control.edits }) (λ n. refl)
          (λ unit jumps lands. absurd (still unit jumps)) (a.forced d);
      settled = a.settled;
      oldest = a.oldest;
      idle = a.idle;
      code = a.code;
      told = record { code = a.told.code; links = a.told.links; constants = a.told.constants };
      free = record {
        layer = free.layer;
        below = free.below;
        newest = free.newest;
        even = free.even;
        under = free.under;
        low = free.low;
        used = free.used;
        fits = free.fits;
      };
      tabled = a.tabled;
      depth = record { some = a.depth.some; all = a.depth.all };
    }

-- ---- while texts wait

abbrev pub waited_outer : List Entry → Outer → Outer
waited_outer entries o = record o { first = with_texts (entries ++ o.first.control.entries) o.first }

pub at_waited :
    {program : Y.Program} {m : Main program} {h : Home} {more blocks : ℕ} {c : Part} {o : Outer} {os : List Outer}
    (a : IsAt m h more blocks c o os) → IsStill c → (entries : List Entry) →
    IsAt m h more blocks c (waited_outer entries o) os
at_waited {program} {m} {h} {more} {blocks} {c} {o} {os} a still entries =
    let k = block_of m h o os in
    let free = a.free in
    record {
      begun = begun_waits k entries a.begun;
      source = a.source;
      parts = a.parts;
      around = a.around;
      enter = a.enter;
      turns = a.turns;
      enough = a.enough;
      held = a.held;
      nested = record { own = a.nested.own; few = a.nested.few; some = a.nested.some; same = a.nested.same };
      inside = a.inside;
      variables = λ x is. number_waits k entries x (a.variables x is);
      arrays = λ x is. array_waits k entries x (grid_known (scope_of m c) x) (a.arrays x is);
      narrows = λ x is. narrow_waits k entries x (type_known (scope_of m c) x) (a.narrows x is);
      forced = λ d.
          force_with k (record o.first.control { entries = entries ++ o.first.control.entries }) (λ n. refl)
          (λ unit jumps lands. absurd (still unit jumps)) (a.forced d);
      settled = a.settled;
      oldest = a.oldest;
      idle = a.idle;
      code = a.code;
      told = record { code = a.told.code; links = a.told.links; constants = a.told.constants };
      free = record {
        layer = free.layer;
        below = free.below;
        newest = free.newest;
        even = free.even;
        under = free.under;
        low = free.low;
        used = free.used;
        fits = free.fits;
      };
      tabled = a.tabled;
      depth = record { some = a.depth.some; all = a.depth.all };
    }

-- ---- what is proved of each block that may be entered so many deep

-- a unit's statements do what they mean, and the list of what is called comes to its end, or is left
pub record BodyGoes {program : Y.Program} (m : Main program) (h : Home) (c : Part) (o : Outer) (os : List Outer)
    : Type 0
  where
    pub each : c.unit ≡ true → EachDoes (block_of m h o os) (labels_in c.body ++ []) c.body c.index left_over
    pub list : c.unit ≡ false → ListDoes (block_of m h o os) c.body c.index left_over
    pub function :
        c.unit ≡ false → IsFunctionList (block_of m h o os) c.body c.index →
        FunctionDoes (block_of m h o os) c.body c.index

abbrev pub EachBody : {program : Y.Program} → Main program → (more : ℕ) → Type 0
EachBody {program} m more =
    (h : Home) (blocks : ℕ) (c : Part) (o : Outer) (os : List Outer) → IsHome' m h → IsEntered m h more blocks c o os →
    BodyGoes m h c o os

-- ---- what its units may name

pub names_of :
    {program : Y.Program} {m : Main program} {h : Home} {more blocks : ℕ} {c : Part} {o : Outer} {os : List Outer} →
    IsAt m h more blocks c o os → HasNames m c.caller (block_of m h o os)
names_of a =
    record {
      nested = a.nested;
      oldest = a.oldest;
      variables = a.variables;
      arrays = a.arrays;
      narrows = a.narrows;
    }

pub may_host :
    {program : Y.Program} {m : Main program} {h : Home} {more blocks : ℕ} {c : Part} {o : Outer} {os : List Outer} →
    IsAt m h more blocks c o os → MayHost m c.caller (block_of m h o os)
may_host a = record { begun = a.begun; source = a.source; parts = a.parts; names = names_of a }
