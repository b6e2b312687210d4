-- The unit in force for a condition in a block: one that the block has established, or that of a block below it, its
-- host, which was entered before.
use Rattle.std.proofs.Common.{◌≡◌, ◌⊎◌, inl, inr, ℕ, suc, List, ◌∷◌, Some, true, false, sym, ap, Bool}
use Rattle.std.proofs.Common.{◌+◌, ◌≤◌, ◌∙◌, subst}
use Rattle.std.specs.Prelude.{drop}
use Rattle.pli_language.specs.declared.condition.Condition.{Condition}
use Rattle.pli_typing.specs.TypedTree as Y
use Rattle.pli_meaning.specs.Control.{Label, is_among}
use Rattle.pli_meaning.specs.Executing.{labels_in}
use Rattle.pli_meaning.specs.StorageState.{Activation, BlockUnit, force}
use Rattle.pli_coding.specs.Frames.{frame_end}
use Rattle.pli_coding.specs.Registers.{held_registers}
use Rattle.activation_relation.specs.Frames.{frame_under, upper_top}
use Rattle.activation_relation.specs.Layers.{Control, Layer, Point}
use Rattle.activation_relation.specs.Remaining.{Remains}
use Rattle.activation_relation.specs.ServiceLaws.{IsSystem}
use Rattle.activation_relation.proofs.Remaining.{remains_then}
use Rattle.program_places.specs.Laws.{IsLabel}
use Rattle.program_places.specs.Programs.{links_for}
use Rattle.program_runs.specs.Starts.{image_parts}
use Rattle.program_runs.specs.Statements.{Block, IsAmong, IsBegun, Outer, as_outer, own_height}
use Rattle.expression_runs.specs.Variables.{IsNumber, Spot}
use Rattle.array_runs.specs.Arrays.{IsArray}
use Rattle.scalar_runs.specs.Scalars.{IsScalar}
use Rattle.nested_calls.specs.Nested.{IsNested, parent_at}
use Rattle.number_runs.specs.Knowledge.{Includes}
use Rattle.number_runs.specs.Numbers.{Scope, grid_known, is_array_known, is_known, is_narrow_known, type_known}
use Rattle.unit_runs.specs.Establishing.{OnUnit, unit_of}
use Rattle.unit_numbers.specs.Calls.{has_jumps, scope_in}
use Rattle.unit_numbers.proofs.Established.{IsOnOf}
use Rattle.unit_numbers.proofs.Mains.{Main, list_of}

-- ---- what runs

-- its statements name what this procedure's may, which has this list; it is a unit or a procedure's own block, writes
-- or not, and returns a number or not; its list, and where that stands
pub record Part : Type 0 where
  pub caller : Y.BlockHead
  pub all : Y.Stmts
  pub unit : Bool
  pub writes : Bool
  pub valued : Bool
  pub body : Y.Stmts
  pub index : ℕ

-- ---- what a block has of a procedure's variables and static ancestors

-- what its units may name
abbrev pub host_scope : {program : Y.Program} → Main program → Y.BlockHead → Scope
host_scope {program} m head = scope_in program m.called (list_of m) head true false

pub record HasNames {program : Y.Program} (m : Main program) (head : Y.BlockHead) (k : Block) : Type 0 where
  pub nested : IsNested k
  -- the oldest block is the main procedure's
  pub oldest : parent_at k 0 ≡ 1
  pub variables : (x : Spot) → is_known (host_scope m head) x ≡ true → IsNumber k x
  pub arrays :
      (x : Spot) → is_array_known (host_scope m head) x ≡ true → IsArray k x (grid_known (host_scope m head) x)
  pub narrows :
      (x : Spot) → is_narrow_known (host_scope m head) x ≡ true → IsScalar k x (type_known (host_scope m head) x)

-- ---- where a jump of a unit lands

-- a label of its list: the block has saved all registers, nothing stands on the stacks of texts and formats but what
-- stood below it, and its frame ends behind its variables
pub record MayLand (program : Y.Program) (k : Block) (head : Y.BlockHead) (all : Y.Stmts) : Type 0 where
  pub registers : (label : Label) → is_among label (labels_in all) ≡ true → held_registers ≤ k.registers
  pub entries : k.first.control.entries ≡ k.call.beginning.layer.entries
  pub edits : k.first.control.edits ≡ k.call.beginning.layer.edits
  pub top :
      upper_top image_parts k.first.control.layers
      ≡ frame_under image_parts k.first.control.layers + frame_end image_parts program head.number head.level
  pub number : k.environment.block ≡ head.number
  pub placed :
      (label : Label) → is_among label (labels_in all) ≡ true →
      IsLabel (links_for program) k.environment.block label

-- it is further out, with the labels of lists that it is carrying out
pub record IsCarrying (os : List Outer) (k : Block) (all : Y.Stmts) : Type 0 where
  pub behind : ℕ
  pub labels : List Label
  pub rest : List Outer
  pub there : drop behind os ≡ as_outer k labels ∷ rest
  pub includes : Includes (labels_in all) labels

-- ---- the unit in force

-- of an ON of the list of a procedure
pub record Newest {program : Y.Program} (m : Main program) (k : Block) (head : Y.BlockHead) (all : Y.Stmts)
    (c : Condition) : Type 0
  where
    pub unit : OnUnit
    pub index : ℕ
    pub on : IsOnOf m head all (unit, index)
    pub condition : unit.condition ≡ c
    pub by : Activation
    pub forced : force k.first.state.activations c ≡ Some (by, BlockUnit (unit_of unit))

-- the block, which is no unit's, established it itself
pub record Own {program : Y.Program} (m : Main program) (k : Block) (inner : Bool) (head : Y.BlockHead) (all : Y.Stmts)
    (c : Condition) : Type 0
  where
    pub newest : Newest m k head all c
    pub itself : inner ≡ false
    pub level : k.environment.level ≡ head.level
    pub own : newest.by.height ≡ own_height k
    pub parent : newest.by.height ≡ parent_at k head.level
    pub lands : has_jumps all ≡ true → MayLand program k head all

-- a block below, with a point of it, from which one was entered; so many have been entered over that since
pub record Host : Type 0 where
  pub head : Y.BlockHead
  pub all : Y.Stmts
  pub block : Block
  pub point : Point
  pub numbers : ℕ → ℕ
  pub count : ℕ

pub record IsHost {program : Y.Program} (m : Main program) (g : Host) : Type 0 where
  pub begun : IsBegun g.block
  pub among : IsAmong g.block g.numbers g.point
  pub source : g.block.environment.program ≡ program
  pub parts : g.block.environment.parts ≡ image_parts
  pub level : g.block.environment.level ≡ g.head.level
  pub names : HasNames m g.head g.block
  pub lands : has_jumps g.all ≡ true → MayLand program g.block g.head g.all

-- the block is over it
pub record IsOver (k : Block) (g : Host) : Type 0 where
  pub activations : drop (suc g.count) k.first.state.activations ≡ g.point.state.activations
  pub layers : drop (suc g.count) k.first.control.layers ≡ g.point.control.layers
  pub remains : Remains g.point k.first
  pub carried : has_jumps g.all ≡ true → IsCarrying k.outers g.block g.all

pub record Lower {program : Y.Program} (m : Main program) (k : Block) (c : Condition) : Type 0 where
  pub host : Host
  pub newest : Newest m k host.head host.all c
  pub own : newest.by.height ≡ own_height host.block
  pub parent : newest.by.height ≡ parent_at host.block host.head.level
  pub is : IsHost m host
  pub over : IsOver k host

-- where a block begins no unit is its own
abbrev pub InForceBelow : {program : Y.Program} → Main program → Block → Condition → Type 0
InForceBelow m k c = IsSystem (force k.first.state.activations c) ⊎ Lower m k c

abbrev pub InForce :
    {program : Y.Program} → Main program → Block → (inner : Bool) → (head : Y.BlockHead) → (all : Y.Stmts) → Condition →
    Type 0
InForce m k inner head all c =
    IsSystem (force k.first.state.activations c) ⊎ (Own m k inner head all c ⊎ Lower m k c)

pub in_force_below :
    {program : Y.Program} {m : Main program} {k : Block} {inner : Bool} {head : Y.BlockHead} {all : Y.Stmts}
    {c : Condition} → InForceBelow m k c → InForce m k inner head all c
in_force_below (inl system) = inl system
in_force_below (inr n) = inr (inr n)

-- ---- while other things are told at its first statement

abbrev pub with_control : Block → Control → Block
with_control k control = record k { first = record k.first { control = control } }

remains_with : (p q : Point) (control : Control) → Remains p q → Remains p (record q { control = control })
remains_with p q control r =
    record {
      living = r.living;
      serials = r.serials;
      at = r.at;
      number = r.number;
      signatures = r.signatures;
      statics = r.statics;
      low = r.low;
      constants = r.constants;
      active = r.active;
      in_use = r.in_use;
    }

newest_with :
    {program : Y.Program} {m : Main program} (k : Block) (control : Control) {head : Y.BlockHead} {all : Y.Stmts}
    {c : Condition} → Newest m k head all c → Newest m (with_control k control) head all c
newest_with k control n =
    record { unit = n.unit; index = n.index; on = n.on; condition = n.condition; by = n.by; forced = n.forced }

pub force_with :
    {program : Y.Program} {m : Main program} (k : Block) (control : Control) {inner : Bool} {head : Y.BlockHead}
    {all : Y.Stmts} {c : Condition} →
    ((n : ℕ) → drop (suc n) control.layers ≡ drop (suc n) k.first.control.layers) →
    (inner ≡ false → has_jumps all ≡ true → MayLand program k head all →
    MayLand program (with_control k control) head all) → InForce m k inner head all c →
    InForce m (with_control k control) inner head all c
unfolding newest_with
force_with k control below lands (inl system) = inl system
force_with k control below lands (inr (inl n)) =
    inr (inl (record {
      newest = newest_with k control n.newest;
      itself = n.itself;
      level = n.level;
      own = n.own;
      parent = n.parent;
      lands = λ jumps. lands n.itself jumps (n.lands jumps);
    }))
force_with k control below lands (inr (inr n)) =
    inr (inr (record {
      host = n.host;
      newest = newest_with k control n.newest;
      own = n.own;
      parent = n.parent;
      is = n.is;
      over = record {
        activations = n.over.activations;
        layers = below n.host.count ∙ n.over.layers;
        remains = remains_with n.host.point k.first control n.over.remains;
        carried = n.over.carried;
      };
    }))

-- ---- in a block that is entered over it

-- from a point of the block, without units of its own; the block is further out, with labels
pub record IsNext (k u : Block) (numbers : ℕ → ℕ) (p : Point) (labels : List Label) : Type 0 where
  pub among : IsAmong k numbers p
  pub activation : Activation
  pub layer : Layer
  pub active : u.first.state.activations ≡ activation ∷ p.state.activations
  pub layers : u.first.control.layers ≡ layer ∷ p.control.layers
  pub forced : (c : Condition) → force u.first.state.activations c ≡ force p.state.activations c
  pub remains : Remains p u.first
  pub outers : u.outers ≡ as_outer k labels ∷ k.outers

-- it may be a host
pub record MayHost {program : Y.Program} (m : Main program) (head : Y.BlockHead) (k : Block) : Type 0 where
  pub begun : IsBegun k
  pub source : k.environment.program ≡ program
  pub parts : k.environment.parts ≡ image_parts
  pub names : HasNames m head k

newest_next :
    {program : Y.Program} {m : Main program} {k u : Block} {numbers : ℕ → ℕ} {p : Point} {labels : List Label}
    (i : IsNext k u numbers p labels) {head : Y.BlockHead} {all : Y.Stmts} {c : Condition} → Newest m k head all c →
    Newest m u head all c
newest_next i {c = c} n =
    record {
      unit = n.unit;
      index = n.index;
      on = n.on;
      condition = n.condition;
      by = n.by;
      forced = i.forced c ∙ ap (λ as'. force as' c) i.among.later.activations ∙ n.forced;
    }

own_next :
    {program : Y.Program} {m : Main program} {k u : Block} {numbers : ℕ → ℕ} {p : Point} {labels : List Label}
    (i : IsNext k u numbers p labels) {inner : Bool} {head : Y.BlockHead} {all : Y.Stmts} → MayHost m head k →
    (inner ≡ false → has_jumps all ≡ true → Includes (labels_in all) labels) → {c : Condition} →
    Own m k inner head all c → Lower m u c
unfolding newest_next
own_next {k = k} {numbers = numbers} {p} {labels} i {head = head} {all} may includes n =
    record {
      host = record { head = head; all = all; block = k; point = p; numbers = numbers; count = 0 };
      newest = newest_next i n.newest;
      own = n.own;
      parent = n.parent;
      is = record {
        begun = may.begun;
        among = i.among;
        source = may.source;
        parts = may.parts;
        level = n.level;
        names = may.names;
        lands = n.lands;
      };
      over = record {
        activations = ap (λ as'. drop 1 as') i.active;
        layers = ap (λ ls. drop 1 ls) i.layers;
        remains = i.remains;
        carried = λ jumps. record {
          behind = 0;
          labels = labels;
          rest = k.outers;
          there = i.outers;
          includes = includes n.itself jumps;
        };
      };
    }

lower_next :
    {program : Y.Program} {m : Main program} {k u : Block} {numbers : ℕ → ℕ} {p : Point} {labels : List Label} →
    IsNext k u numbers p labels → {c : Condition} → Lower m k c → Lower m u c
unfolding newest_next
lower_next {k = k} {u} {p = p} i n =
    let g = n.host in
    let count = suc g.count in
    let remains = remains_then k.first p u.first i.among.later.remains i.remains in
    record {
      host = record {
        head = g.head;
        all = g.all;
        block = g.block;
        point = g.point;
        numbers = g.numbers;
        count = suc g.count;
      };
      newest = newest_next i n.newest;
      own = n.own;
      parent = n.parent;
      is = record {
        begun = n.is.begun;
        among = n.is.among;
        source = n.is.source;
        parts = n.is.parts;
        level = n.is.level;
        names = n.is.names;
        lands = n.is.lands;
      };
      over = record {
        activations = ap (λ as'. drop (suc count) as') i.active
            ∙ ap (λ as'. drop count as') i.among.later.activations ∙ n.over.activations;
        layers = ap (λ ls. drop (suc count) ls) i.layers ∙ ap (λ ls. drop count ls) i.among.later.layers
            ∙ n.over.layers;
        remains = remains_then g.point k.first u.first n.over.remains remains;
        carried = λ jumps.
            let c = n.over.carried jumps in
            record {
              behind = suc c.behind;
              labels = c.labels;
              rest = c.rest;
              there = ap (λ os. drop (suc c.behind) os) i.outers ∙ c.there;
              includes = c.includes;
            };
      };
    }

pub force_next :
    {program : Y.Program} {m : Main program} {k u : Block} {numbers : ℕ → ℕ} {p : Point} {labels : List Label}
    (i : IsNext k u numbers p labels) {inner : Bool} {head : Y.BlockHead} {all : Y.Stmts} → MayHost m head k →
    (inner ≡ false → has_jumps all ≡ true → Includes (labels_in all) labels) → (c : Condition) →
    InForce m k inner head all c → InForceBelow m u c
force_next i may includes c (inl system) =
    inl (subst IsSystem (sym (i.forced c ∙ ap (λ as'. force as' c) i.among.later.activations)) system)
force_next i may includes c (inr (inl n)) = inr (own_next i may includes n)
force_next i may includes c (inr (inr n)) = inr (lower_next i n)
