-- The statements of a well-formed program are there; they enter other blocks only behind an act.
use Rattle.std.proofs.Common.{◌≡◌, ℕ, suc, ◌<◌, ◌≤◌, ℤ, List, [], ◌∷◌, ◌++◌, Option, Some, None, true, false}
use Rattle.std.proofs.Common.{refl, ap, sym, subst, arith, inl, inr}
use Rattle.std.specs.Prelude.{◌⊎◌, length, slice_get}
use Rattle.pli_language.specs.declared.condition.Condition.{Condition}
use Rattle.pli_language.specs.declared.condition.Condition.TheVariants as C
use Rattle.pli_meaning.specs.declared.outcome.End.TheVariants as E
use Rattle.pli_meaning.specs.World.{counted}
use Rattle.pli_typing.specs.TypedTree as Y
use Rattle.pli_meaning.specs.BasicValues.{BasicValue}
use Rattle.pli_meaning.specs.StorageState.{State, Activation, BlockUnit, SystemUnit, established, reverted}
use Rattle.pli_meaning.specs.StorageState.{with_activations, newest_height, ancestor_at, height_of}
use Rattle.pli_meaning.specs.Control.{Label, Meaning}
use Rattle.well_formed_trees.specs.Every.{Every}
use Rattle.pli_meaning.specs.Raising.{Around, Enter, Entry}
use Rattle.pli_meaning.specs.Evaluating as V
use Rattle.pli_meaning.specs.Executing as M
use Rattle.well_formed_trees.specs.Surroundings.{Table, Where, Returning, Returns, NoReturn}
use Rattle.well_formed_trees.specs.Surroundings as W
use Rattle.well_formed_trees.specs.Expressions as X
use Rattle.well_formed_trees.specs.Statements as T
use Rattle.meaning_runs.proofs.Calling as P
use Rattle.meaning_runs.proofs.Frames.{Frame, skeleton, outlines, closed, first_outline, IsOpen, AreAmong, Stands}
use Rattle.meaning_runs.proofs.Frames.{IsOf, holds_of, Covers, covers_own}
use Rattle.meaning_runs.proofs.Bindings.{Ground}
use Rattle.meaning_runs.proofs.Frames.{Enters, Chain, among_first, among_second, among_either, enters_own, target_at}
use Rattle.meaning_runs.proofs.Frames.{reached, newest_ancestor}
use Rattle.meaning_runs.proofs.Demands.{Bearing, Jumps, block_around, placed, SoundUnit, Demand, Kept}
use Rattle.meaning_runs.proofs.Demands.{Anything, There}
use Rattle.meaning_runs.proofs.Demands.{Answered, established_kept}
use Rattle.meaning_runs.proofs.Demands.{reverted_kept}
use Rattle.meaning_runs.proofs.Steps.{loose, slow, give_there, bind_there, then_there, looked_there, stored_there}
use Rattle.meaning_runs.proofs.Steps.{act_there, act_made, act_then, finish_there, returns_there, jumps_there}
use Rattle.meaning_runs.proofs.Steps.{choose_there, while_there, list_there, Passes, labelled}
use Rattle.meaning_runs.proofs.Ways.{Ways, demand, around, here, on_line, smaller, ThereAround, Whole, SoundEntry}
use Rattle.meaning_runs.proofs.Ways.{Expected, listed_unit}
use Rattle.meaning_runs.proofs.Expressions.{error_there, raised_there, value_of_there, or_error_there, number_there}
use Rattle.meaning_runs.proofs.Expressions.{bit_there, designated_there, called_there, stored_value_there}
use Rattle.meaning_runs.proofs.Expressions.{computational_there}
use Rattle.meaning_runs.proofs.Shapes.{type_number}
use Rattle.meaning_runs.proofs.Values.{IsNumber, IsText, IsOfNumber}
use Rattle.meaning_runs.proofs.Expressions.{fits_kind}
use Rattle.meaning_runs.proofs.Designating.{designated_then, element_stored_at, elements_stored_at, found_valued}
use Rattle.meaning_runs.proofs.Designating.{scalar_fits, array_fits}
use Rattle.meaning_runs.proofs.Stored.{aggregate_assigned_there}
use Rattle.well_formed_trees.specs.References.{IsScalar, IsArray}
use Rattle.meaning_runs.proofs.Stored.{area_assigned_there, area_emptied_there, allocations_there, freeings_there}
use Rattle.meaning_runs.proofs.Streams.{get_there, put_there}

-- ---- assignment and DO

-- a value of the target's kind
assigned_there : (r : Y.Reference) (type : Y.LeafType) (v : BasicValue) (w : Ways) → IsScalar (here w) type r
    → IsOfNumber (type_number type) v → X.SoundReference (here w) r → P.AllowedReference w.calls r
    → There (demand w) 0 1 w.left Anything (M.assigned (around w) r v)
unfolding M.assigned
assigned_there r type v w s kind h p =
    designated_then r w _ h p (λ t x f standing. element_stored_at w t x v standing (found_valued w.program r x f)
    (scalar_fits w r type x v s f kind))

elements_assigned_there : (r : Y.Reference) (type : Y.LeafType) (v : BasicValue) (w : Ways)
    → IsArray (here w) type r → IsOfNumber (type_number type) v → X.SoundReference (here w) r
    → P.AllowedReference w.calls r → There (demand w) 0 1 w.left Anything (M.elements_assigned (around w) r v)
unfolding M.elements_assigned
elements_assigned_there r type v w s kind h p =
    designated_then r w _ h p (λ t x f standing. elements_stored_at w t x (λ leaf subscripts. v) standing
    (found_valued w.program r x f) (array_fits w r type x v s f kind))

-- a counter with what is so of it
record SoundCounting (k : P.Calls) (w : Where) (c : Y.Counter) : Type 0 where
  sound : T.SoundCounter w c
  allowed : P.AllowedCounter k c

-- what a counter may be
abbrev IsCounted : Y.Counter → BasicValue → Type 0
IsCounted (Y.NumberCounter precision r) v = IsNumber v
IsCounted (Y.TextCounter r) v = IsText v

counter_assigned : (c : Y.Counter) (v : BasicValue) (w : Ways) → SoundCounting w.calls (here w) c → IsCounted c v
    → There (demand w) 0 1 w.left Anything (M.assigned (around w) (M.reference_of c) v)
counter_assigned (Y.NumberCounter precision r) v w h k =
    assigned_there r (Y.FixedLeaf precision) v w h.sound.0 k h.sound.1 h.allowed
counter_assigned (Y.TextCounter r) v w h k = by_kind h.sound.0.scalar
  where
    by_kind : IsScalar (here w) (Y.CharacterLeaf h.sound.0.size) r ⊎ IsScalar (here w) (Y.VaryingLeaf h.sound.0.size) r
        → There (demand w) 0 1 w.left Anything (M.assigned (around w) r v)
    by_kind (inl s) = assigned_there r (Y.CharacterLeaf h.sound.0.size) v w s k h.sound.1 h.allowed
    by_kind (inr s) = assigned_there r (Y.VaryingLeaf h.sound.0.size) v w s k h.sound.1 h.allowed

counter_number_there : (c : Y.Counter) (w : Ways) → SoundCounting w.calls (here w) c
    → There (demand w) 0 1 w.left Anything (M.counter_number (around w) c)
unfolding M.counter_number
counter_number_there (Y.NumberCounter precision r) w h =
    bind_there (designated_there r w h.sound.1 h.allowed) (λ d k. give_there _ tt)
counter_number_there (Y.TextCounter r) w h =
    bind_there (designated_there r w h.sound.1 h.allowed) (λ d k. or_error_there _ _ w)

counter_value_there : (c : Y.Counter) (z : ℤ) → ThereAround (IsCounted c) (λ a. M.counter_value a c z)
unfolding M.counter_value
counter_value_there (Y.NumberCounter precision r) z w = bind_there (value_of_there _ w) (λ y k. give_there _ tt)
counter_value_there (Y.TextCounter r) z w = give_there _ tt

counter_started_there : (c : Y.Counter) (v : V.Computational)
    → ThereAround (IsCounted c) (λ a. M.counter_started a c v)
unfolding M.counter_started
counter_started_there (Y.NumberCounter precision r) v w =
    bind_there (or_error_there _ _ w) (λ z k. counter_value_there (Y.NumberCounter precision r) z w)
counter_started_there (Y.TextCounter r) v w = give_there _ tt

stepped_there : (c : Y.Counter) (step : ℤ) (w : Ways) → SoundCounting w.calls (here w) c
    → There (demand w) 0 1 w.left Anything (M.stepped (around w) c step)
unfolding M.stepped
stepped_there c step w h =
    bind_there (counter_number_there c w h) (λ z k. bind_there (value_of_there _ w) (λ next j. bind_there
    (counter_value_there c next w) (λ v i. counter_assigned c v w h i)))

limit_of_there : (limit : Option Y.Number) (w : Ways) → T.SoundNumberIf (here w) limit → P.AllowedNumberIf w.calls limit
    → There (demand w) 0 1 w.left Anything (M.limit_of (around w) limit)
unfolding M.limit_of
limit_of_there None w h p = give_there None tt
limit_of_there (Some e) w h p = bind_there (number_there e w h p) (λ z k. give_there _ tt)

within_limit_there : (c : Y.Counter) (limit : Option ℤ) (step : ℤ) (w : Ways) → SoundCounting w.calls (here w) c
    → There (demand w) 0 1 w.left Anything (M.within_limit (around w) c limit step)
unfolding M.within_limit
within_limit_there c None step w h = give_there true tt
within_limit_there c (Some limit) step w h = bind_there (counter_number_there c w h) (λ z k. give_there _ tt)

condition_met_there : (condition : Option Y.Bit) (w : Ways) → T.SoundBitIf (here w) condition
    → P.AllowedBitIf w.calls condition → There (demand w) 0 1 w.left Anything (M.condition_met (around w) condition)
unfolding M.condition_met
condition_met_there None w h p = give_there true tt
condition_met_there (Some e) w h p = bit_there e w h p

turn_due_there : (c : Y.Counter) (limit : Option ℤ) (step : ℤ) (condition : Option Y.Bit) (w : Ways)
    → SoundCounting w.calls (here w) c → T.SoundBitIf (here w) condition → P.AllowedBitIf w.calls condition
    → There (demand w) 1 1 w.left Anything (M.turn_due (around w) c limit step condition)
unfolding M.turn_due
turn_due_there c limit step condition w h i p =
    act_then counted (λ v. refl) (λ n e. loose (let u = smaller w n (omega (arith, e)) in
    bind_there (within_limit_there c limit step u h) (λ within k. choose_there within
    (condition_met_there condition u i p) (give_there false tt))))

met_after_act_there : (x : Y.Bit) (w : Ways) → X.SoundBit (here w) x → P.AllowedBit w.calls x
    → There (demand w) 1 1 w.left Anything (M.met_after_act (around w) x)
unfolding M.met_after_act
met_after_act_there x w h p =
    act_then counted (λ v. refl) (λ n e. loose (bit_there x (smaller w n (omega (arith, e))) h p))

once_there : (condition : Option Y.Bit) {body : Meaning (Unit {0})} (w : Ways) → T.SoundBitIf (here w) condition
    → P.AllowedBitIf w.calls condition → There (demand w) 0 1 w.left Anything body
    → There (demand w) 0 1 w.left Anything (M.once (around w) condition body)
unfolding M.once
once_there None w h p a = a
once_there (Some x) w h p a =
    then_there (act_there counted (λ v. refl)) (bind_there (bit_there x w h p)
    (λ met k. choose_there met a (give_there tt tt)))

-- ---- on-units

established_by_there : {d : Demand} {few : ℕ} (c : Condition) (change : List Activation → List Activation)
    → ((s : State) → Kept d s → Kept d (with_activations (change s.activations) s))
    → There d 1 1 few Anything (M.established_by c change)
unfolding M.established_by
established_by_there c change kept = act_then counted (λ v. refl) (λ n e. stored_there _ kept)

signalled_there : (c : Condition) → ThereAround Anything (λ a. M.signalled a c)
unfolding M.signalled
signalled_there C.Area w = raised_there C.Area _ w
signalled_there C.FixedOverflow w = raised_there C.FixedOverflow _ w
signalled_there C.ZeroDivide w = raised_there C.ZeroDivide _ w
signalled_there C.Endfile w = raised_there C.Endfile _ w
signalled_there C.Error w = error_there _ w

-- ---- what stands around a block's own statements: blocks are there where fewer acts are left

-- the activation of the block, and those further down
pub record Level : Type 0 where
  pub program : Y.Program
  pub table : Table
  pub whole : Whole program table
  pub returning : Returning
  pub frame : Frame
  pub further : List Frame
  pub opens : Every IsOpen (frame ∷ further)
  pub line : ℕ
  pub enter : Enter
  pub turns : ℕ
  pub left : ℕ
  pub later : (c : ℕ) → c < left → (outer : Bearing) (e : Entry) → SoundEntry program table outer e
      → There (record { program = program; table = table; bearing = outer }) 0 1 c (Expected e.is_function)
      (enter e)
  pub few : left < turns

-- the blocks around a place, where lists of the block are carried out: they stand at the activation, in which the
-- labels last that a unit may name
pub record Foot (table : Table) (frame : Frame) (further : List Frame) : Type 0 where
  pub own : W.Around
  pub outer : List W.Around
  pub own_is : IsOf frame own
  pub has : AreAmong (W.labels_of own) frame.labels
  pub lasts : AreAmong own.outermost frame.lasting
  pub below : Stands further frame.parent outer
  pub chain : Chain table (own ∷ outer)

abbrev pub FootAt : Level → Type 0
FootAt l = Foot l.table l.frame l.further

abbrev pub bearing_at : Level → Bearing
bearing_at l = record { answers = Some l.returning; frames = l.frame ∷ l.further }

abbrev pub demand_at : Level → Demand
demand_at l = record { program = l.program; table = l.table; bearing = bearing_at l }

abbrev pub around_at : Level → Around
around_at l = record { program = l.program; enter = l.enter; turns = l.turns; line = l.line }

abbrev pub place_at : (l : Level) → FootAt l → Where
place_at l t = placed l.program l.table (t.own ∷ t.outer) l.returning

-- with fewer acts left, or in a list
abbrev level : (l : Level) (frame : Frame) → IsOpen frame → (c : ℕ) → c ≤ l.left → Level
level l frame o c r =
    record {
      program = l.program;
      table = l.table;
      whole = l.whole;
      returning = l.returning;
      frame = frame;
      further = l.further;
      opens = (o, l.opens.1);
      line = l.line;
      enter = l.enter;
      turns = l.turns;
      left = c;
      later = λ b q. l.later b (omega (arith, q, r));
      few = omega (arith, r, l.few);
    }

abbrev pub lower : (l : Level) (c : ℕ) → c ≤ l.left → Level
lower l c r = level l l.frame l.opens.0 c r

abbrev below : (l : Level) (c : ℕ) → suc c ≡ l.left → Level
below l c e = lower l c (omega (arith, e))

abbrev pub listed_frame : List Label → Frame → Frame
listed_frame labels f =
    record {
      number = f.number;
      level = f.level;
      parent = f.parent;
      lasting = f.lasting;
      labels = labels ++ f.labels;
    }

abbrev pub listed : Y.Stmts → Level → Level
listed body l =
    level l (listed_frame (M.labels_in body) l.frame)
    (λ label h. among_second label (M.labels_in body) l.frame.labels (l.opens.0 label h)) l.left (omega arith)

pub labels_same : (body : Y.Stmts) → T.labels_in body ≡ M.labels_in body
labels_same (Y.EndOfList labels) = refl
labels_same (Y.StmtThen labels first rest) = ap (λ ls. labels ++ ls) (labels_same rest)

-- in a list of a group
group_has : (own : W.Around) (body : Y.Stmts) (labels : List Label) → AreAmong (W.labels_of own) labels
    → AreAmong ((T.labels_in body ++ own.inner) ++ own.outermost) (M.labels_in body ++ labels)
group_has own body labels h label x =
    outside (among_either label (T.labels_in body ++ own.inner) own.outermost x)
  where
    further : W.is_among label (W.labels_of own) ≡ true → W.is_among label (M.labels_in body ++ labels) ≡ true
    further y = among_second label (M.labels_in body) labels (h label y)

    inside : (W.is_among label (T.labels_in body) ≡ true) ⊎ (W.is_among label own.inner ≡ true)
        → W.is_among label (M.labels_in body ++ labels) ≡ true
    inside (inl y) =
        among_first label (M.labels_in body) labels
        (subst (λ ls. W.is_among label ls ≡ true) (labels_same body) y)
    inside (inr y) = further (among_first label own.inner own.outermost y)

    outside : (W.is_among label (T.labels_in body ++ own.inner) ≡ true) ⊎ (W.is_among label own.outermost ≡ true)
        → W.is_among label (M.labels_in body ++ labels) ≡ true
    outside (inl y) = inside (among_either label (T.labels_in body) own.inner y)
    outside (inr y) = further (among_second label own.inner own.outermost y)

abbrev group_around : Y.Stmts → W.Around → W.Around
group_around body a =
    record {
      number = a.number;
      level = a.level;
      outermost = a.outermost;
      inner = T.labels_in body ++ a.inner;
    }

abbrev in_group : (table : Table) (f : Frame) (fs : List Frame) (body : Y.Stmts) → Foot table f fs
    → Foot table (listed_frame (M.labels_in body) f) fs
in_group table f fs body t =
    record {
      own = group_around body t.own;
      outer = t.outer;
      own_is = t.own_is;
      has = group_has t.own body f.labels t.has;
      lasts = t.lasts;
      below = t.below;
      chain = t.chain;
    }

abbrev group : (body : Y.Stmts) (l : Level) → FootAt l → FootAt (listed body l)
group body l t = in_group l.table l.frame l.further body t

-- where the blocks stand
abbrev stands_at : (l : Level) (t : FootAt l)
    → Stands (l.frame ∷ l.further) (suc (length l.further)) (t.own ∷ t.outer)
stands_at l t = inl (refl, (t.own_is, (t.has, t.below)))

-- behind an act
abbrev pub within : (l : Level) → FootAt l → (c : ℕ) → suc c ≡ l.left → Ways
within l t c e =
    record {
      program = l.program;
      table = l.table;
      bearing = bearing_at l;
      whole = l.whole;
      blocks = t.own ∷ t.outer;
      returning = l.returning;
      calls = P.AnyCall;
      footing = record { stands = stands_at l t; chain = t.chain };
      ground = record {
        around = t.own ∷ t.outer;
        holds = holds_of (l.frame ∷ l.further) (suc (length l.further)) (t.own ∷ t.outer) (stands_at l t);
        chain = t.chain;
        inside = λ number level h. h;
      };
      opens = l.opens;
      line = l.line;
      enter = l.enter;
      turns = l.turns;
      left = c;
      keeps = l.later c (omega (arith, e));
      few = omega (arith, e, l.few);
    }

-- before the block's own list and at its end, where nothing is called
abbrev pub apart : (l : Level) → (blocks : List W.Around) → Ground l.table (l.frame ∷ l.further) blocks → (c : ℕ)
    → suc c ≡ l.left → Ways
apart l blocks ground c e =
    record {
      program = l.program;
      table = l.table;
      bearing = bearing_at l;
      whole = l.whole;
      blocks = blocks;
      returning = NoReturn;
      calls = P.NoCall;
      footing = tt;
      ground = ground;
      opens = l.opens;
      line = l.line;
      enter = l.enter;
      turns = l.turns;
      left = c;
      keeps = l.later c (omega (arith, e));
      few = omega (arith, e, l.few);
    }

pub newest_there : (as' : List Activation) (f : Frame) (fs : List Frame) → skeleton as' ≡ outlines (f ∷ fs)
    → newest_height as' ≡ suc (length fs)
newest_there [] f fs e = absurd (cc e)
newest_there (a ∷ as') f fs e = ap (λ os. (first_outline os).height) e

pub list_with_there : (labels : List Label) {part : Option Label → Meaning (Unit {0})} (l : Level)
    → ((x : Option Label) (c : ℕ) → c ≤ l.left → There (labelled labels (demand_at l)) 0 1 c Anything (part x))
    → There (demand_at l) 0 1 l.left Anything (M.list_with (around_at l) labels part)
unfolding M.list_with
list_with_there labels l a =
    bind_there looked_there (λ s k. list_there l.turns l.left _ labels None l.few
    (newest_there s.activations l.frame l.further k.1) a)

-- ---- blocks that statements enter or establish

begun_sound : (l : Level) (t : FootAt l) (head : Y.BlockHead) (body : Y.Stmts) (s : State)
    → skeleton s.activations ≡ outlines (l.frame ∷ l.further)
    → T.SoundStmt (place_at l t) (Y.Begin (Y.BlockOf head body))
    → SoundEntry l.program l.table (bearing_at l) (M.begun (Y.BlockOf head body) (newest_height s.activations))
begun_sound l t head body s e h =
    record {
      block = record {
        head = head;
        body = body;
        is = refl;
        outer = t.own ∷ t.outer;
        returning = l.returning;
        statements = h.1;
      };
      chain = (
        (
          enters_own l.table (block_around head body) (block_around head body) (t.own ∷ t.outer) h.0.1.1 refl refl
              (λ label x. x),
          covers_own l.table (block_around head body) (block_around head body) (t.own ∷ t.outer) h.0.1.1 refl refl,
        ),
        (omega (arith, h.0.1.0.level), t.chain),
      );
      stands =
          subst (λ z. Stands (l.frame ∷ l.further) z (t.own ∷ t.outer))
          (sym (newest_there s.activations l.frame l.further e)) (stands_at l t);
      opens = l.opens;
      passes =
          subst (λ kind. Passes (M.is_own_return kind) (Expected false) (Some l.returning) (Some l.returning))
          (sym h.0.0) (λ v a. a);
      passed = tt;
      listed = listed_unit l.table head (block_around head body ∷ t.own ∷ t.outer) head.kind h.0.1.1;
    }

unit_own : (w : Where) (head : Y.BlockHead) (kind : Y.BlockKind) → T.IsUnitHead w head kind
    → M.is_own_return kind ≡ true
unit_own w head Y.UnitBlock h = refl
unit_own w head Y.SimpleUnit h = refl
unit_own w head Y.ProcedureBlock h = absurd h
unit_own w head Y.BeginBlock h = absurd h

abbrev unit_around : W.Around → W.Around
unit_around a = record { number = a.number; level = a.level; outermost = a.outermost; inner = [] }

-- a single statement's block has the number of the block around, and no entry of its own
unit_enters : (l : Level) (t : FootAt l) (head : Y.BlockHead) (body : Y.Stmts) (kind : Y.BlockKind)
    → T.IsUnitHead (place_at l t) head kind → head.level ≡ suc t.own.level
    → T.IsListedUnit l.table head (block_around head body ∷ unit_around t.own ∷ t.outer) kind
    → Enters l.table (block_around head body) (unit_around t.own ∷ t.outer)
unit_enters l t head body Y.UnitBlock h deep i =
    enters_own l.table (block_around head body) (block_around head body) (unit_around t.own ∷ t.outer) i refl
    refl (λ label x. x)
unit_enters l t head body Y.SimpleUnit h deep i =
    λ o outer e.
    let low : o.level ≤ t.own.level =
    (t.chain.0.0 o outer (subst (λ n. slice_get l.table n ≡ Some (o ∷ outer)) h e)).0 in
    (omega (arith, low, deep), λ q. absurd (omega (arith, q, low, deep)))
unit_enters l t head body Y.ProcedureBlock h deep i = absurd h
unit_enters l t head body Y.BeginBlock h deep i = absurd h

unit_covers : (l : Level) (t : FootAt l) (head : Y.BlockHead) (body : Y.Stmts) (kind : Y.BlockKind)
    → T.IsUnitHead (place_at l t) head kind
    → T.IsListedUnit l.table head (block_around head body ∷ unit_around t.own ∷ t.outer) kind
    → Covers l.table (block_around head body) (unit_around t.own ∷ t.outer)
unit_covers l t head body Y.UnitBlock h i =
    covers_own l.table (block_around head body) (block_around head body) (unit_around t.own ∷ t.outer) i refl refl
unit_covers l t head body Y.SimpleUnit h i =
    λ entry e number level j.
    inr (t.chain.0.1 entry (subst (λ n. slice_get l.table n ≡ Some entry) h e) number level j)
unit_covers l t head body Y.ProcedureBlock h i = absurd h
unit_covers l t head body Y.BeginBlock h i = absurd h

unit_sound : (l : Level) (t : FootAt l) (c : Condition) (head : Y.BlockHead) (body : Y.Stmts) (line : ℕ)
    → T.SoundStmt (place_at l t) (Y.OnUnit c (Y.BlockOf head body) line)
    → SoundUnit l.program l.table (closed l.frame ∷ l.further) (suc (length l.further)) (Y.BlockOf head body)
unit_sound l t c head body line h =
    record {
      block = record {
        head = head;
        body = body;
        is = refl;
        outer = unit_around t.own ∷ t.outer;
        returning = NoReturn;
        statements = h.1.0;
      };
      own = unit_own (place_at l t) head head.kind h.0.0;
      chain = (
        (
          unit_enters l t head body head.kind h.0.0 h.0.1.0.level h.0.1.1,
          unit_covers l t head body head.kind h.0.0 h.0.1.1,
        ),
        (omega (arith, h.0.1.0.level), t.chain),
      );
      listed = h.0.1.1;
      stands = inl (refl, (t.own_is, (t.lasts, t.below)));
    }

answered_some : (r : Returning) (v : BasicValue) → Answered r (Some v)
answered_some (Returns None) v = tt
answered_some (Returns (Some t)) v = tt
answered_some NoReturn v = tt

-- ---- GOTO

-- where a block stands its lists are carried out
jumps_at : (fs : List Frame) (height : ℕ) (label : Label) (a : W.Around) (more : List W.Around)
    → Stands fs height (a ∷ more) → W.is_among label (W.labels_of a) ≡ true → Jumps fs height label
jumps_at [] height label a more s h = absurd s
jumps_at (f ∷ fs) height label a more (inl s) h = inl (s.0, s.1.1.0 label h)
jumps_at (f ∷ fs) height label a more (inr s) h = inr (jumps_at fs height label a more s.1 h)

-- a label of a block's own lists, or of a list of a block around
goto_there : (l : Level) (t : FootAt l) (s : State) (level : ℕ) (label : Label)
    → skeleton s.activations ≡ outlines (l.frame ∷ l.further) → W.IsTarget level label (t.own ∷ t.outer)
    → Jumps (l.frame ∷ l.further) (height_of (ancestor_at s level)) label
goto_there l t s level label e h =
    let fs : List Frame = l.frame ∷ l.further in
    let r = reached l.table level (λ a. W.is_among label (W.labels_of a) ≡ true) fs s.activations
    (length fs) (t.own ∷ t.outer) e (stands_at l t) t.chain (target_at level label (t.own ∷ t.outer) h) in
    subst (λ o. Jumps fs (height_of o) label) (sym (newest_ancestor fs s.activations level e))
    (jumps_at fs _ label r.own r.outer r.stands r.so)

-- ---- statements

mutual
  unfolding M.statement M.statements

  statement_there : (x : Y.Stmt) (l : Level) (t : FootAt l) → T.SoundStmt (place_at l t) x
      → There (demand_at l) 1 1 l.left Anything (M.statement (around_at l) x)
  statement_there (Y.Null line) l t h = act_made counted (λ v. refl)
  statement_there (Y.Assign target source line) l t h =
      act_then counted (λ v. refl) (λ c e. loose (let w = on_line line (within l t c e) in
      bind_there (stored_value_there source w h.1.1.0 (P.any_stored source))
      (λ v k. assigned_there target h.0.type v w h.0.scalar
      (fits_kind h.0.type source v h.0.fits k) h.1.0 (P.any_reference target))))
  statement_there (Y.AssignElements target source line) l t h =
      act_then counted (λ v. refl) (λ c e. loose (let w = on_line line (within l t c e) in
      bind_there (stored_value_there source w h.1.1.0 (P.any_stored source))
      (λ v k. elements_assigned_there target h.0.type v w
      h.0.array (fits_kind h.0.type source v h.0.fits k) h.1.0 (P.any_reference target))))
  statement_there (Y.AssignAggregate target source line) l t h =
      act_then counted (λ v. refl) (λ c e. loose (aggregate_assigned_there target source
      (on_line line (within l t c e)) h.0 h.1.0 h.1.1.0
      (P.any_reference target) (P.any_reference source)))
  statement_there (Y.AssignArea target source line) l t h =
      act_then counted (λ v. refl) (λ c e. loose
      (area_assigned_there target source (on_line line (within l t c e)) h.0))
  statement_there (Y.EmptyArea target line) l t h =
      act_then counted (λ v. refl) (λ c e. loose (area_emptied_there target (on_line line (within l t c e)) h.0))
  statement_there (Y.If condition unit line) l t h =
      act_then counted (λ v. refl) (λ c e. loose (bind_there
      (bit_there condition (on_line line (within l t c e)) h.0 (P.any_bit condition))
      (λ met k. choose_there met (slow (statement_there unit (below l c e) t h.1.0)) (give_there tt tt))))
  statement_there (Y.IfElse condition unit otherwise line) l t h =
      act_then counted (λ v. refl) (λ c e. loose (bind_there
      (bit_there condition (on_line line (within l t c e)) h.0 (P.any_bit condition))
      (λ met k. choose_there met (slow (statement_there unit (below l c e) t h.1.0))
      (slow (statement_there otherwise (below l c e) t h.1.1.0)))))
  statement_there (Y.Do body line) l t h =
      act_then counted (λ v. refl) (λ c e. loose (let u = below l c e in
      list_with_there _ u (λ x d r. statements_there body x (listed body (lower u d r))
      (group body (lower u d r) t) h.0)))
  statement_there (Y.DoWhile condition body line) l t h =
      act_then counted (λ v. refl) (λ c e. loose (let u = below l c e in
      while_there u.turns c u.few
      (λ d r. met_after_act_there condition (on_line line (smaller (within l t c e) d r)) h.0
      (P.any_bit condition))
      (λ d r. list_with_there _ (lower u d r)
      (λ x f q. statements_there body x (listed body (lower (lower u d r) f q))
      (group body (lower (lower u d r) f q) t) h.1.0))))
  statement_there (Y.DoOnce variable start condition body line) l t h =
      act_then counted (λ v. refl) (λ c e. loose (let u = below l c e in let w = on_line line (within l t c e) in
      bind_there (stored_value_there start w h.0.1.1 (P.any_stored start))
      (λ v k. then_there (assigned_there variable h.0.0.type v w h.0.0.scalar
      (fits_kind h.0.0.type start v h.0.0.fits k) h.0.1.0 (P.any_reference variable))
      (once_there condition w h.1.0 (P.any_bit_if condition)
      (list_with_there _ u (λ x d r. statements_there body x (listed body (lower u d r))
      (group body (lower u d r) t) h.1.1.0))))))
  statement_there (Y.DoCount counter start limit step condition body line) l t h =
      act_then counted (λ v. refl) (λ c e. loose (let u = below l c e in let w = on_line line (within l t c e) in
      let counting : SoundCounting P.AnyCall (place_at l t) counter = record {
        sound = h.0.0;
        allowed = P.any_counter counter;
      } in
      bind_there (computational_there start w h.0.1.0 (P.any_value start)) (λ v k.
      bind_there (limit_of_there limit w h.0.1.1.0 (P.any_number_if limit)) (λ most j.
      bind_there (number_there step w h.0.1.1.1 (P.any_number step)) (λ by i.
      bind_there (counter_started_there counter v w) (λ first m.
      then_there (counter_assigned counter first w counting m) (while_there u.turns c u.few
      (λ d r. turn_due_there counter most by condition (smaller w d r) counting h.1.0
      (P.any_bit_if condition))
      (λ d r. then_there (list_with_there _ (lower u d r)
      (λ x f q. statements_there body x (listed body (lower (lower u d r) f q))
      (group body (lower (lower u d r) f q) t) h.1.1.0))
      (stepped_there counter by (smaller w d r) counting)))))))))
  statement_there (Y.Begin (Y.BlockOf head body)) l t h =
      act_then counted (λ v. refl) (λ c e. loose (bind_there looked_there
      (λ s k. then_there ((within l t c e).keeps (bearing_at l) _ (begun_sound l t head body s k.1 h))
      (give_there tt tt))))
  statement_there (Y.OnSystem c line) l t h =
      established_by_there c (established c SystemUnit)
      (λ s k. established_kept (demand_at l) c SystemUnit s tt k)
  statement_there (Y.OnUnit c (Y.BlockOf head body) line) l t h =
      established_by_there c (established c (BlockUnit (Y.BlockOf head body)))
      (λ s k. established_kept (demand_at l) c (BlockUnit (Y.BlockOf head body)) s
      (unit_sound l t c head body line h) k)
  statement_there (Y.CallProcedure call line) l t h =
      act_then counted (λ v. refl) (λ c e. loose (then_there (called_there call (on_line line (within l t c e)) h.1.0
      (P.any_call call))
      (give_there tt tt)))
  statement_there (Y.Return line) l t h =
      act_then counted (λ v. refl) (λ c e. returns_there None (subst (λ r. Answered r None) (sym h.0) tt))
  statement_there (Y.ReturnValue type source line) l t h =
      act_then counted (λ v. refl) (λ c e. loose (bind_there
      (stored_value_there source (on_line line (within l t c e)) h.1.1.0 (P.any_stored source))
      (λ v k. returns_there _ (answered_some l.returning _))))
  statement_there (Y.Goto level label line) l t h =
      act_then counted (λ v. refl) (λ c e. bind_there looked_there (λ s k. jumps_there _ label
      (goto_there l t s level label k.1 h.0)))
  statement_there (Y.Stop line) l t h = act_then counted (λ v. refl) (λ c e. finish_there E.Stopped tt)
  statement_there (Y.Signal condition line) l t h =
      act_then counted (λ v. refl) (λ c e. loose (signalled_there condition (on_line line (within l t c e))))
  statement_there (Y.Revert c line) l t h =
      established_by_there c (reverted c) (λ s k. reverted_kept (demand_at l) c s k)
  statement_there (Y.Allocate all line) l t h =
      act_then counted (λ v. refl) (λ c e. loose (allocations_there all (on_line line (within l t c e)) h.0
      (P.any_allocations all)))
  statement_there (Y.Free all line) l t h =
      act_then counted (λ v. refl) (λ c e. loose (freeings_there all (on_line line (within l t c e)) h.0
      (P.any_freeings all)))
  statement_there (Y.Get skip pairs line) l t h =
      act_then counted (λ v. refl) (λ c e. loose (get_there skip pairs (on_line line (within l t c e)) h.1.0
      (P.any_get pairs)))
  statement_there (Y.Put skip pairs line) l t h =
      act_then counted (λ v. refl) (λ c e. loose (put_there skip pairs (on_line line (within l t c e)) h.1.0
      (P.any_put pairs)))

  pub statements_there : (xs : Y.Stmts) (from : Option Label) (l : Level) (t : FootAt l)
      → T.SoundStmts (place_at l t) xs
      → There (demand_at l) 0 1 l.left Anything (M.statements (around_at l) xs from)
  statements_there (Y.EndOfList labels) from l t h = give_there tt tt
  statements_there (Y.StmtThen labels first rest) from l t h =
      choose_there _ (then_there (slow (statement_there first l t h.0)) (statements_there rest None l t h.1))
      (statements_there rest from l t h.1)
