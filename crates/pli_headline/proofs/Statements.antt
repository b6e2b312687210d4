-- Statements of a block whose variables are scalars, one behind the other.
use Rattle.std.proofs.Common.{◌≡◌, ℕ, zero, suc, ◌+◌, ◌*◌, ◌%◌, ◌^◌, ◌<◌, ◌≤◌, ◌⊎◌, inl, inr, List, [], ◌∷◌, ◌++◌, length, Option, Some, None, true, false, refl, sym, ap, ◌∙◌, subst, arith, Bool}
use Rattle.std.specs.Prelude.{ℤ, pos, cond, max, slice_get, ◌==◌}
use Rattle.std.proofs.Math.Nat.{le-max_left}
use Rattle.rv_meaning.specs.declared.instr.Instr.{Instr}
use Rattle.rv_meaning.specs.Words.{word}
use Rattle.rv_meaning.specs.Memory.{load, store}
use Rattle.rv_meaning.specs.Machine.{memory_size, load_width, extended, store_width}
use Rattle.pli_typing.specs.TypedTree as Y
use Rattle.pli_meaning.specs.declared.outcome.End.TheVariants as E
use Rattle.pli_meaning.specs.World.{World, counted}
use Rattle.pli_meaning.specs.BasicValues.{BasicValue}
use Rattle.pli_meaning.specs.StorageState.{State, with_world, newest_ended}
use Rattle.pli_meaning.specs.Control.{Label, Flow, Meaning, act, give, choose, is_among, ◌>>=◌, ◌>>◌}
use Rattle.pli_meaning.specs.Raising.{Around, at_line}
use Rattle.pli_meaning.specs.Evaluating as V
use Rattle.pli_meaning.specs.Executing as M
use Rattle.pli_meaning.specs.Placing as P
use Rattle.pli_serving.specs.ServiceState.{Services, Activation}
use Rattle.pli_serving.specs.Bytes.{with_bytes}
use Rattle.pli_coding.specs.Assembly.{LabelPlace, ReturnPlace, Code, size_of}
use Rattle.pli_coding.specs.Frames.{frame_end, parameters_of_block}
use Rattle.pli_coding.specs.Allocating.{act_code}
use Rattle.pli_coding.specs.Environments.{Owner, BlockOwner, UnitOwner, Environment, Taken, in_frame, owned_by}
use Rattle.pli_coding.specs.Expressions.{stored_code}
use Rattle.pli_coding.specs.Storing.{word_stored, stored_into, assigned_code}
use Rattle.pli_coding.specs.Statements.{stmt_code, stmts_code, marked}
use Rattle.pli_coding.specs.Linking.{Links, place_of}
use Rattle.pli_coding.specs.SignatureTable.{table_of}
use Rattle.temporary_bounds.specs.WordBounds.{number_words, bit_words}
use Rattle.temporary_bounds.specs.Spare.{spare}
use Rattle.pli_meaning.specs.DeclaredShapes.{variables_of_block}
use Rattle.pli_headline.specs.Headline.{parts}
use Rattle.pli_headline.proofs.PlainNumbers.{Numbered}
use Rattle.pli_headline.specs.ProvedSoFar.{Names, Kind, Types, OuterBlock, IsOwn, IsProvedNumber, IsProvedBit, alone, types_of, text_leaf, AllPlain}
use Rattle.image_runs.specs.Runs.{Whole}
use Rattle.pli_headline.proofs.Storages.{storage, Storage, Serials, Stored, stored_changed}
use Rattle.run_steps.specs.Engine.{Base, address, most_code}
use Rattle.run_steps.specs.Linking.{times_marked}
use Rattle.run_steps.proofs.Linking.{size_append}
use Rattle.run_steps.specs.Items.{Linked, At, Items}
use Rattle.run_steps.proofs.Items.{straight}
use Rattle.pli_headline.proofs.Scalars.{Typed, Fits, load_kind, store_kind, IsNumeric, Values, fits_numeric, value_as}
use Rattle.run_steps.specs.Bodies.{Ground, Known, PlaceFrom, Regs, reserved_are}
use Rattle.run_steps.proofs.Jumps.{front_of, back_of}
use Rattle.run_steps.specs.Temporaries.{Temporaries, Stays, nothing}
use Rattle.run_steps.proofs.Temporaries.{stays_same, stays_then}
use Rattle.run_steps.specs.Reaching.{Reaches}
use Rattle.pli_headline.proofs.Activations.{frames_of, RestOn, levels_of}
use Rattle.pli_headline.proofs.OuterBlocks.{Rises}
use Rattle.pli_headline.proofs.Asides.{StandAside, asides_changed}
use Rattle.pli_headline.proofs.Entered.{Frames, frames_left, kinds_of, UnitsKnown}
use Rattle.pli_headline.proofs.Serving.{Serving}
use Rattle.pli_headline.proofs.Raising.{Routines}
use Rattle.pli_headline.proofs.StandingBytes.{ConstantsStand}
use Rattle.pli_headline.proofs.Acts.{acted, act_piece}
use Rattle.pli_headline.proofs.Variables.{IsDeclared, whole, own, level_of, data_place, designated_scalar}
use Rattle.pli_headline.proofs.Expressions.{Scope}
use Rattle.pli_headline.proofs.Assignments.{assigned_state, Stores, number_stores, bit_stores, stored_piece}
use Rattle.pli_headline.proofs.States.{Holds, holds_scalar, holds_assigned, with_number_at}
use Rattle.pli_headline.proofs.TextScopes.{IsTextAt}
use Rattle.pli_headline.proofs.TextStates.{KeepsText, holds_text, keeps_beside, text_apart}
use Rattle.pli_headline.proofs.TextGrounds.{TextsStand}
use Rattle.pli_headline.proofs.Since.{since_closed, comes_since}
use Rattle.run_steps.specs.Reach.{Family, Aims, Comes, Closed}
use Rattle.run_steps.proofs.Reach.{before_closed, comes_on, onward}
use Rattle.pli_typing.specs.Signatures.{Bounds}
use Rattle.pli_headline.proofs.ArrayMeant.{HoldsArray}
use Rattle.pli_headline.proofs.ArrayScopes.{IsArrayAt, ArraysOn, array_scope}
use Rattle.pli_headline.proofs.ArrayNames.{ArraysNamed}
use Rattle.pli_headline.proofs.ArrayStates.{array_apart, arrays_beside}
use Rattle.pli_headline.proofs.TextArrayMeant.{HoldsTexts, texts_aside}
use Rattle.pli_headline.proofs.TextArrayScopes.{IsTextArrayAt, TextArraysOn, text_array_scope}

-- ---- a block

abbrev pub owner_level : Owner → ℕ
owner_level (BlockOwner b) = b.level
owner_level UnitOwner = 0

-- that of a procedure, or of an on-unit that is a block, whose frame has a known end
abbrev pub IsOwned : Owner → Type 0
IsOwned (BlockOwner b) = Unit {0}
IsOwned UnitOwner = ⊥

-- and so is that of the main procedure's, whatever owns the block that runs
abbrev pub IsSized : Owner → (level : ℕ) → Type 0
IsSized owner level = (level ≡ 0) ⊎ IsOwned owner

pub owned_of : (owner : Owner) (level : ℕ) → level ≡ 1 → IsSized owner level → IsOwned owner
owned_of owner level next (inl lowest) = absurd (omega (arith, next, lowest))
owned_of owner level next (inr owned) = owned

-- these variables hold the same
abbrev pub SameValues : Types → Values → Values → Type 0
SameValues types n n' =
    (j : ℕ) (kind : Kind) → slice_get types j ≡ Some kind → (n.numbers j ≡ n'.numbers j) × ((n.texts j ≡ n'.texts j) × ((n.arrays j ≡ n'.arrays j) × (n.text_arrays j ≡ n'.text_arrays j)))

-- the stack above a block's frame, where blocks inside it have theirs
pub record Stack (e : Environment) (block : Names) (types : Types) (base : ℕ) (bases : ℕ → ℕ) (ground : Values → Ground) : Type 0 where
  pub frame : ℕ
  pub free : ℕ
  pub frame_is : (n : Values) → (ground n).frame ≡ frame
  pub free_is : (n : Values) → (ground n).free ≡ free
  pub aligned : free % 4 ≡ 0
  pub high : 7 * 2 ^ 20 ≤ free
  pub above : frame + 144 ≤ free
  pub over : base < free
  pub keeps : (n : Values) (t : ℕ → ℕ) (b : Base) (m : List ℕ) (w p x : ℕ) → free ≤ p → (ground n).memory t b m → (ground n).memory t b (store w m p x)
  pub keeps_bytes : (n : Values) (t : ℕ → ℕ) (b : Base) (m bytes : List ℕ) (p : ℕ) → free ≤ p → p + length bytes ≤ length m → (ground n).memory t b m → (ground n).memory t b (with_bytes bytes p m)
  pub under : (j : ℕ) {type : Y.LeafType} → slice_get types j ≡ Some (alone type) → bases j + data_place e block j + 4 ≤ free

-- the frame of the main procedure, below all others, with what stands in it whatever a block does
pub record Lowest (base : ℕ) (frames : List ℕ) (ground : Values → Ground) : Type 1 where
  pub holds : Base → List ℕ → Type 0
  pub aligned : base % 4 ≡ 0
  pub room : base + 164 ≤ 15 * 2 ^ 20
  pub own : (b : Base) (m : List ℕ) → holds b m → load 4 m (base + 36) ≡ base
  pub kept : (n : Values) (t : ℕ → ℕ) (b : Base) (m : List ℕ) → (ground n).memory t b m → holds b m
  pub rest : RestOn base frames

-- the stack's register is another one
abbrev pub lower_ground : Ground → (free : ℕ) → Ground
lower_ground g free =
    record {
      frame = g.frame;
      free = free;
      words = g.words;
      memory = g.memory;
      whole = g.whole;
      above_code = g.above_code;
      inside = g.inside;
    }

-- blocks of these levels are entered, which have these frames and units, variables hold these numbers and texts and arrays theirs, those
-- that are put aside stay as they were, and what lives in the meaning lives among the services
pub record AllHold (frames : Frames) (serials : Serials) (xs : Storage) (levels : List ℕ) (s : State) (block : Names) (types : Types) (n : Values) : Type 0 where
  pub numbers : (j : ℕ) (b : Typed types j) → IsNumeric b.0 → Holds s block j (serials.of j) b.0 (n.numbers j)
  pub texts : (j : ℕ) (varying : Bool) (most : ℕ) → IsTextAt types j varying most → KeepsText s block j (serials.of j) varying most (n.texts j)
  pub arrays : (j : ℕ) (type : Y.LeafType) (b : Bounds) (bs : List Bounds) → IsArrayAt types j type b bs → HoldsArray s block j (serials.of j) type (b ∷ bs) (n.arrays j)
  pub text_arrays : (j : ℕ) (varying : Bool) (most : ℕ) (b : Bounds) (bs : List Bounds) → IsTextArrayAt types j varying most b bs → HoldsTexts s block j (serials.of j) varying most (b ∷ bs) (n.text_arrays j)
  pub entered : levels_of s.activations ≡ levels
  pub framed : frames_of xs.activations ≡ frames.list
  pub kinds : kinds_of xs.activations ≡ frames.kinds
  pub units : UnitsKnown frames.known s.activations xs.activations
  pub aside : StandAside frames.asides serials types s.activations s.living s.serials
  pub stored : Stored serials xs.signatures xs.living xs.serials (length levels) s.living s.serials block types

-- some variables are the first of others
pub record Restricts (serials : Serials) (block : Names) (types : Types) (serials' : Serials) (block' : Names) (types' : Types) : Type 0 where
  pub program : block'.program ≡ block.program
  pub among : (j : ℕ) {kind : Kind} → slice_get types' j ≡ Some kind → slice_get types j ≡ Some kind
  pub spots : (j : ℕ) {kind : Kind} → slice_get types' j ≡ Some kind → block'.at j ≡ block.at j
  pub of : (j : ℕ) {kind : Kind} → slice_get types' j ≡ Some kind → serials'.of j ≡ serials.of j
  pub owner : (j : ℕ) {kind : Kind} → slice_get types' j ≡ Some kind → serials'.owner j ≡ serials.owner j
  pub first : serials'.first ≡ serials.first

pub restricts_self : (serials : Serials) (block : Names) (types : Types) → Restricts serials block types serials block types
restricts_self serials block types =
    record { program = refl; among = λ j at. at; spots = λ j at. refl; of = λ j at. refl; owner = λ j at. refl; first = refl }

-- variables of blocks of these levels at most, whose activations are no higher
abbrev pub Beneath : (level height : ℕ) → Serials → Names → Types → Type 0
Beneath level height serials block types =
    (j : ℕ) (kind : Kind) → slice_get types j ≡ Some kind → (level_of block j ≤ level) × (serials.owner j ≤ height)

-- the ground of a block around another, with the words that wait there, the frame's own place, how many blocks stand above it, and the
-- variables that it names
pub record Enclosing (e : Environment) (o : OuterBlock) (ground : Values → Ground) (shows : ℕ → ℕ) (frames levels : List ℕ) : Type 1 where
  pub its : Values → Ground
  pub waits : ℕ → ℕ
  pub frame : ℕ
  pub free : ℕ
  pub frame_is : (n : Values) → (its n).frame ≡ frame
  pub free_is : (n : Values) → (its n).free ≡ free
  pub above : frame + 144 ≤ free
  pub ends : free ≤ 14 * 2 ^ 20
  pub sized : IsSized e.owner o.level → frame + frame_end e.parts e.program o.number o.level ≡ free
  pub kept : (n : Values) (t : ℕ → ℕ) (b : Base) (m : List ℕ) → (ground n).memory t b m → (its n).memory waits b m
  pub own : (n : Values) (t : ℕ → ℕ) (b : Base) (m : List ℕ) → (its n).memory t b m → load 4 m (frame + 36) ≡ frame
  pub deeper : o.level < e.level
  pub shown : shows o.level ≡ frame
  pub count : ℕ
  pub behind : List ℕ
  pub depths : List ℕ
  pub lowest : o.level ≡ 0 → depths ≡ []
  pub rises : Rises (suc count) frame o.level frames levels behind depths
  pub serials : Serials
  pub names : Names
  pub types : Types
  pub beneath : Beneath o.level (suc (length depths)) serials names types

abbrev pub Enclosures : Environment → (ground : Values → Ground) → (shows : ℕ → ℕ) → (frames levels : List ℕ) → List OuterBlock → Type 1
Enclosures e ground shows frames levels [] = Unit {1}
Enclosures e ground shows frames levels (o ∷ os) =
    Enclosing e o ground shows frames levels × Enclosures e ground shows frames levels os

-- the variables of the blocks around are the first of a block's
abbrev pub AllSeen : (e : Environment) (ground : Values → Ground) (shows : ℕ → ℕ) (frames levels : List ℕ) (os : List OuterBlock) → Enclosures e ground shows frames levels os → Serials → Names → Types → Type 0
AllSeen e ground shows frames levels [] cs serials block types = Unit {0}
AllSeen e ground shows frames levels (o ∷ os) cs serials block types =
    Restricts serials block types cs.0.serials cs.0.names cs.0.types × AllSeen e ground shows frames levels os cs.1 serials block types

-- the ground of a block by what variables hold, which stand in the main procedure's frame, the temporaries that are taken
-- while its statements run, the labels that a GOTO there may name: those of the lists that are carried out around, the frames of the
-- blocks that are entered, the levels of those before it, the frames of the levels around, which stand in its display, and the blocks
-- around to whose labels a GOTO may go
pub record Block (e : Environment) (block : Names) (types : Types) : Type 1 where
  pub ground : Values → Ground
  pub words : ℕ
  pub taken : Taken
  pub labels : List Label
  pub base : ℕ
  pub within : base < memory_size
  pub words_are : (n : Values) → (ground n).words ≡ words
  pub same : (n n' : Values) (b : Base) (h : ℕ → ℕ) → reserved_are b (ground n) h ≡ reserved_are b (ground n') h
  pub temps : (n : Values) → Temporaries (ground n)
  pub alike : (n n' : Values) → SameValues types n n' → (t : ℕ → ℕ) (b : Base) (m : List ℕ) → (ground n).memory t b m → (ground n').memory t b m
  pub declared : (j : ℕ) {type : Y.LeafType} → slice_get types j ≡ Some (alone type) → IsDeclared e block j type
  pub reach : (n : Values) → Reaches (0 == e.level) 0 (ground n) base
  pub named : block.program ≡ e.program
  pub lower : (j : ℕ) {kind : Kind} → slice_get types j ≡ Some kind → level_of block j ≤ e.level
  pub bases : ℕ → ℕ
  pub reaches : (n : Values) (j : ℕ) {kind : Kind} → slice_get types j ≡ Some kind → Reaches (level_of block j == e.level) (level_of block j) (ground n) (bases j)
  pub inside : (j : ℕ) {kind : Kind} → slice_get types j ≡ Some kind → bases j < memory_size
  pub places : (j : ℕ) {type : Y.LeafType} → slice_get types j ≡ Some (alone type) → PlaceFrom (bases j) (pos (data_place e block j)) (bases j + data_place e block j)
  pub reads : (n : Values) (j : ℕ) {type : Y.LeafType} → slice_get types j ≡ Some (alone type) → Fits type (n.numbers j) → (t : ℕ → ℕ) (b : Base) (m : List ℕ) → (ground n).memory t b m → extended (load_kind type) (load (load_width (load_kind type)) m (bases j + data_place e block j)) ≡ word (n.numbers j)
  pub writes : (n : Values) (j : ℕ) (z : ℤ) {type : Y.LeafType} → slice_get types j ≡ Some (alone type) → Fits type (n.numbers j) → Fits type z → (t : ℕ → ℕ) (b : Base) (m : List ℕ) → length m ≡ memory_size → (ground n).memory t b m → (ground (with_number_at n j z)).memory t b (store (store_width (store_kind type)) m (bases j + data_place e block j) (word z))
  pub held : taken.registers ≡ 0
  pub frames : Frames
  pub serials : Serials
  pub bottom : Lowest base frames.list ground
  pub depths : List ℕ
  pub shallow : (0 == e.level) ≡ true → depths ≡ []
  pub owners : (j : ℕ) {kind : Kind} → slice_get types j ≡ Some kind → serials.owner j ≤ suc (length depths)
  pub first_owner : (j : ℕ) {kind : Kind} → slice_get types j ≡ Some kind → level_of block j ≡ 0 → serials.owner j ≤ 1
  pub stack : Stack e block types base bases ground
  pub alone : (0 == e.level) ≡ true → stack.frame ≡ base
  pub lead : List ℕ
  pub leads : frames.list ≡ stack.frame ∷ lead
  pub ends : stack.free ≤ 14 * 2 ^ 20
  pub sized : e.level ≡ 0 → stack.frame + frame_end e.parts e.program e.block e.level ≡ stack.free
  pub own : (n : Values) (t : ℕ → ℕ) (b : Base) (m : List ℕ) → (ground n).memory t b m → load 4 m (stack.frame + 36) ≡ stack.frame
  pub levels : ℕ → ℕ
  pub level_room : (j : ℕ) → j < e.level → levels j < memory_size
  pub outermost_level : (0 == e.level) ≡ false → levels 0 ≡ base
  pub displays : (n : Values) (t : ℕ → ℕ) (b : Base) (m : List ℕ) (j : ℕ) → j < e.level → (ground n).memory t b m → load 4 m (stack.frame + (144 + 4 * j)) ≡ b.at + levels j
  pub leveled : (j : ℕ) {kind : Kind} → slice_get types j ≡ Some kind → cond (level_of block j == e.level) stack.frame (levels (level_of block j)) ≡ bases j
  pub texts : TextsStand e block types bases stack.free ground
  pub arrays : ArraysOn e block types bases stack.free ground
  pub text_arrays : TextArraysOn e block types bases stack.free ground
  pub array_names : ArraysNamed e block types bases ground serials
  pub outer : List OuterBlock
  pub enclosing : Enclosures e ground levels frames.list (e.level ∷ depths) outer
  pub seen : AllSeen e ground levels frames.list (e.level ∷ depths) outer enclosing serials block types

-- all variables of the program are plain and have numbers in its table, and no block has parameters
pub record IsKnown (e : Environment) : Type 0 where
  pub table : e.table ≡ table_of e.program
  pub parts_are : e.parts ≡ parts
  pub numbered : (number j : ℕ) {kind : Kind} → slice_get (types_of (variables_of_block e.program number)) j ≡ Some kind → Numbered (table_of e.program) kind
  pub none : (number : ℕ) → parameters_of_block e.program number ≡ []
  pub plain : AllPlain e.program.variables

-- of any block of the program
pub known_in : {e : Environment} (owner : Owner) (number level : ℕ) → IsKnown e → IsKnown (owned_by owner (in_frame number level e))
known_in owner number level known =
    record { table = known.table; parts_are = known.parts_are; numbered = known.numbered; none = known.none; plain = known.plain }

-- all variables of its own stand in its frame
abbrev pub IsFilled : {e : Environment} {block : Names} {types : Types} → Block e block types → Type 0
IsFilled {e} bl = IsSized e.owner e.level → bl.stack.frame + frame_end e.parts e.program e.block e.level ≡ bl.stack.free

-- what stands beside it: the routines of raises, and constant bytes; its frame has its end, and its program is known
pub record Standing {e : Environment} {block : Names} {types : Types} (bl : Block e block types) (links : Links) (code : List Instr) : Type 0 where
  pub raises : Routines links code
  pub constants : (n : Values) → ConstantsStand links code (bl.ground n)
  pub filled : IsFilled bl
  pub known : IsKnown e

abbrev pub scope_of : {e : Environment} {block : Names} {types : Types} (b : Block e block types) {s : State} {xs : Storage} (n : Values) → AllHold b.frames b.serials xs (e.level ∷ b.depths) s block types n → Scope (b.ground n) e block types s n
scope_of b n all =
    record {
      declared = λ j below. b.declared j below;
      holds = λ j {type} below numeric. holds_scalar (all.numbers j (type, below) numeric);
      base = b.bases;
      within = λ j below. b.inside j below;
      reach = λ j below. b.reaches n j below;
      places = λ j below. b.places j below;
      reads = λ j {type} below numeric. b.reads n j below (all.numbers j (type, below) numeric).fits;
      texts = record {
        room = b.texts.room;
        holds = λ j varying most at. holds_text (all.texts j varying most at);
        reads = λ j varying most at. b.texts.reads n j varying most at;
      };
      arrays = λ j type c cs at. array_scope (b.arrays j type c cs at) n (all.arrays j type c cs at) (b.reaches n j at.0);
      text_arrays = λ j varying most c cs at. text_array_scope (b.text_arrays j varying most c cs at) n (all.text_arrays j varying most c cs at) (b.reaches n j at);
    }

-- ---- what a statement's code does

-- behind a statement: other services, a state and numbers that stand together, and what waited before it
abbrev pub Behind : {e : Environment} {block : Names} {types : Types} → Block e block types → (k : ℕ) → (h t : ℕ → ℕ) → (i : ℕ) → Aims (Unit {0}) → Type 0
Behind {e = e} {block = block} {types = types} bl k h0 t0 i aims =
    (s : State) (v : Services) (line : ℕ) (n : Values) (h t : ℕ → ℕ) (f : Family) → Serving k s v line → AllHold bl.frames bl.serials (storage v) (e.level ∷ bl.depths) s block types n → Stays bl.taken h0 t0 h t → ((b : Base) → At b i (Known (bl.ground n) v h t nothing b) (f b)) → aims.done i f v tt s

-- a label is marked once
abbrev pub IsMarkedOnce : Links → (block : ℕ) → Label → Type 0
IsMarkedOnce links block label = times_marked (LabelPlace block label) links.marks ≡ 1

-- where a jump goes on: at the mark of the label, with what waited before, and with more acts than before
pub record Landing {e : Environment} {block : Names} {types : Types} (bl : Block e block types) (links : Links) (k : ℕ) (h0 t0 : ℕ → ℕ) (acts : ℕ) (jumped : ℕ → Family → Services → ℕ → Label → State → Type 0) (label : Label) : Type 0 where
  pub at : ℕ
  pub place : place_of links (LabelPlace e.block label) ≡ 4 * at
  pub near : at ≤ most_code
  pub later : 10 ≤ at
  pub lands : (s : State) (v : Services) (line : ℕ) (n : Values) (h t : ℕ → ℕ) (f : Family) → Serving k s v line → AllHold bl.frames bl.serials (storage v) (e.level ∷ bl.depths) s block types n → Stays bl.taken h0 t0 h t → acts < v.world.acts → ((b : Base) → At b at (Known (bl.ground n) v h t nothing b) (f b)) → jumped at f v (suc (length bl.depths)) label s

-- the end of a block is marked once
abbrev pub IsEndMarkedOnce : Links → (block : ℕ) → Type 0
IsEndMarkedOnce links block = times_marked (ReturnPlace block) links.marks ≡ 1

-- once so many blocks have ended
abbrev pub ended_times : ℕ → State → State
ended_times zero s = s
ended_times (suc m) s = ended_times m (with_world s.world (newest_ended s))

-- where a jump out of a block goes on: at a label of a block around, in its frame, once the blocks in it have ended
pub record Outlet (o : OuterBlock) (count frame : ℕ) (left : Frames) (depths : List ℕ) (serials : Serials) (block : Names) (types : Types) (its : Values → Ground) (waits : ℕ → ℕ) (links : Links) (k acts : ℕ) (jumped : ℕ → Family → Services → ℕ → Label → State → Type 0) (label : Label) : Type 0 where
  pub at : ℕ
  pub place : place_of links (LabelPlace o.number label) ≡ 4 * at
  pub near : at ≤ most_code
  pub later : 10 ≤ at
  pub lands : (s : State) (v : Services) (line : ℕ) (n : Values) (h : ℕ → ℕ) (f : Family) → Serving k (ended_times count s) v line → AllHold left serials (storage v) (o.level ∷ depths) (ended_times count s) block types n → acts < v.world.acts → ((b : Base) → At b at (Known (its n) v h waits nothing b) (f b)) → jumped at f v (suc (length depths)) label s

abbrev pub OutletOf : {e : Environment} {o : OuterBlock} {ground : Values → Ground} {shows : ℕ → ℕ} (frames : Frames) {levels : List ℕ} → Enclosing e o ground shows frames.list levels → Links → (k acts : ℕ) → (ℕ → Family → Services → ℕ → Label → State → Type 0) → Label → Type 0
OutletOf {o = o} frames c links k acts jumped label =
    Outlet o (suc c.count) c.frame (frames_left (suc c.count) c.frame c.behind frames) c.depths c.serials c.names c.types c.its c.waits links k acts jumped label

abbrev pub Outlets : (e : Environment) (ground : Values → Ground) (shows : ℕ → ℕ) (frames : Frames) (levels : List ℕ) (os : List OuterBlock) → Enclosures e ground shows frames.list levels os → Links → (k acts : ℕ) → (ℕ → Family → Services → ℕ → Label → State → Type 0) → Type 0
Outlets e ground shows frames levels [] cs links k acts jumped = Unit {0}
Outlets e ground shows frames levels (o ∷ os) cs links k acts jumped =
    ((label : Label) → is_among label o.labels ≡ true → IsMarkedOnce links o.number label → OutletOf frames cs.0 links k acts jumped label)
    × Outlets e ground shows frames levels os cs.1 links k acts jumped

-- others
pub outlets_by : (e : Environment) (ground : Values → Ground) (shows : ℕ → ℕ) (frames : Frames) (levels : List ℕ) (os : List OuterBlock) (cs : Enclosures e ground shows frames.list levels os) (links : Links) (k acts acts' : ℕ) (jumped jumped' : ℕ → Family → Services → ℕ → Label → State → Type 0) → ((o : OuterBlock) (c : Enclosing e o ground shows frames.list levels) (label : Label) → OutletOf frames c links k acts jumped label → OutletOf frames c links k acts' jumped' label) → Outlets e ground shows frames levels os cs links k acts jumped → Outlets e ground shows frames levels os cs links k acts' jumped'
outlets_by e ground shows frames levels [] cs links k acts acts' jumped jumped' change outs = tt
outlets_by e ground shows frames levels (o ∷ os) cs links k acts acts' jumped jumped' change outs =
    (λ label among once. change o cs.0 label (outs.0 label among once), outlets_by e ground shows frames levels os cs.1 links k acts acts' jumped jumped' change outs.1)

-- a machine in the frame of the main procedure, of which the stack isn't asked
pub record Unwound (base : ℕ) (holds : Base → List ℕ → Type 0) (v : Services) (b : Base) (w : Whole) : Type 0 where
  pub services : w.services ≡ v
  pub regs : Regs ((8, b.at + base) ∷ (0, 0) ∷ []) w.machine.registers
  pub memory : holds b w.machine.memory

-- where a return goes on: at the end of the procedure, in its frame, once the blocks in it have ended among the services
pub record Exit (number base : ℕ) (holds : Base → List ℕ → Type 0) (links : Links) (k : ℕ) (returned : ℕ → Family → Services → Option BasicValue → State → Type 0) : Type 0 where
  pub at : ℕ
  pub place : place_of links (ReturnPlace number) ≡ 4 * at
  pub near : at ≤ most_code
  pub later : 7 ≤ at
  pub leaves : (s : State) (v : Services) (f : Family) (a : Activation) → v.world ≡ s.world → v.world.end ≡ E.Running → v.world.acts ≤ k → k + 1 < 2 ^ 64 → v.activations ≡ a ∷ [] → ((b : Base) → At b at (Unwound base holds v b) (f b)) → returned at f v None s

-- where a return in a procedure's own block goes on: at the end of the procedure, in that block
pub record OwnExit (e : Environment) (block : Names) (types : Types) (ground : Values → Ground) (frames : Frames) (serials : Serials) (depths : List ℕ) (links : Links) (k : ℕ) (returned : ℕ → Family → Services → Option BasicValue → State → Type 0) : Type 0 where
  pub at : ℕ
  pub place : place_of links (ReturnPlace e.block) ≡ 4 * at
  pub near : at ≤ most_code
  pub later : 10 ≤ at
  pub leaves : (s : State) (v : Services) (line : ℕ) (n : Values) (h t : ℕ → ℕ) (f : Family) (free : ℕ) → Serving k s v line → AllHold frames serials (storage v) (e.level ∷ depths) s block types n → ((b : Base) → At b at (Known (lower_ground (ground n) free) v h t nothing b) (f b)) → returned at f v None s

-- where a return in a block inside a procedure's goes on: at the end of the procedure, in its block, once the blocks in it have ended; the
-- stack's register is any
pub record HomeExit (o : OuterBlock) (count frame : ℕ) (left : Frames) (depths : List ℕ) (serials : Serials) (block : Names) (types : Types) (its : Values → Ground) (waits : ℕ → ℕ) (links : Links) (k : ℕ) (returned : ℕ → Family → Services → Option BasicValue → State → Type 0) : Type 0 where
  pub at : ℕ
  pub place : place_of links (ReturnPlace o.number) ≡ 4 * at
  pub near : at ≤ most_code
  pub later : 10 ≤ at
  pub leaves : (s : State) (v : Services) (line : ℕ) (n : Values) (h : ℕ → ℕ) (f : Family) (free : ℕ) → Serving k (ended_times count s) v line → AllHold left serials (storage v) (o.level ∷ depths) (ended_times count s) block types n → ((b : Base) → At b at (Known (lower_ground (its n) free) v h waits nothing b) (f b)) → returned at f v None s

abbrev pub HomeOf : {e : Environment} {o : OuterBlock} {ground : Values → Ground} {shows : ℕ → ℕ} (frames : Frames) {levels : List ℕ} → Enclosing e o ground shows frames.list levels → Links → (k : ℕ) → (ℕ → Family → Services → Option BasicValue → State → Type 0) → Type 0
HomeOf {o = o} frames c links k returned =
    HomeExit o (suc c.count) c.frame (frames_left (suc c.count) c.frame c.behind frames) c.depths c.serials c.names c.types c.its c.waits links k returned

-- of the block around that owns this one, where it isn't the main procedure
abbrev pub Homes : (e : Environment) (ground : Values → Ground) (shows : ℕ → ℕ) (frames : Frames) (levels : List ℕ) (os : List OuterBlock) → Enclosures e ground shows frames.list levels os → Links → (k : ℕ) → (ℕ → Family → Services → Option BasicValue → State → Type 0) → Type 0
Homes e ground shows frames levels [] cs links k returned = Unit {0}
Homes e ground shows frames levels (o ∷ os) cs links k returned =
    ((0 == o.level) ≡ false → e.owner ≡ BlockOwner (record { number = o.number; level = o.level }) → IsEndMarkedOnce links o.number → HomeOf frames cs.0 links k returned)
    × Homes e ground shows frames levels os cs.1 links k returned

-- what a part may count on where it begins: loops and jumps may make more turns than acts are allowed, the code stands behind the
-- start, and jumps to the block's labels and to those of blocks around go on, and so does a return
pub record Enough {e : Environment} {block : Names} {types : Types} (bl : Block e block types) (links : Links) (k turns i : ℕ) (h t : ℕ → ℕ) (acts : ℕ) (jumped : ℕ → Family → Services → ℕ → Label → State → Type 0) (returned : ℕ → Family → Services → Option BasicValue → State → Type 0) : Type 0 where
  pub enough : k < turns + acts
  pub later : 10 ≤ i
  pub jumps : (label : Label) → is_among label bl.labels ≡ true → IsMarkedOnce links e.block label → Landing bl links k h t acts jumped label
  pub outs : Outlets e bl.ground bl.levels bl.frames (e.level ∷ bl.depths) bl.outer bl.enclosing links k acts jumped
  pub returns : (number : ℕ) → e.owner ≡ BlockOwner (record { number = number; level = 0 }) → IsEndMarkedOnce links number → Exit number bl.base bl.bottom.holds links k returned
  pub own : (0 == e.level) ≡ false → e.owner ≡ BlockOwner (record { number = e.block; level = e.level }) → IsEndMarkedOnce links e.block → OwnExit e block types bl.ground bl.frames bl.serials bl.depths links k returned
  pub homes : Homes e bl.ground bl.levels bl.frames (e.level ∷ bl.depths) bl.outer bl.enclosing links k returned

-- the same further on
pub further : {e : Environment} {block : Names} {types : Types} {bl : Block e block types} {links : Links} {k turns i : ℕ} {h t : ℕ → ℕ} {acts : ℕ} {jumped : ℕ → Family → Services → ℕ → Label → State → Type 0} {returned : ℕ → Family → Services → Option BasicValue → State → Type 0} {i' : ℕ} {h' t' : ℕ → ℕ} {acts' : ℕ} → Enough bl links k turns i h t acts jumped returned → i ≤ i' → acts ≤ acts' → Stays bl.taken h t h' t' → Enough bl links k turns i' h' t' acts' jumped returned
further {e = e} {bl = bl} {links = links} {k = k} {acts = acts} {jumped = jumped} {acts' = acts'} more behind grown stays =
    record {
      enough = let u = more.enough in omega (arith, u, grown);
      later = let l = more.later in omega (arith, l, behind);
      jumps = λ label among once.
          let o = more.jumps label among once in
          record {
            at = o.at;
            place = o.place;
            near = o.near;
            later = o.later;
            lands = λ s v line n h'' t'' f serving all stays' acted' at'. o.lands s v line n h'' t'' f serving all (stays_then stays stays') (omega (arith, grown, acted')) at';
          };
      outs = outlets_by e bl.ground bl.levels bl.frames (e.level ∷ bl.depths) bl.outer bl.enclosing links k acts acts' jumped jumped
          (λ o c label out. record {
            at = out.at;
            place = out.place;
            near = out.near;
            later = out.later;
            lands = λ s v line n h'' f serving all acted' at'. out.lands s v line n h'' f serving all (omega (arith, grown, acted')) at';
          })
          more.outs;
      returns = more.returns;
      own = more.own;
      homes = more.homes;
    }

-- from wherever a block's variables stand, a part's code does what the part means
pub record Does {e : Environment} {block : Names} {types : Types} (bl : Block e block types) (links : Links) (code : List Instr) (turns : ℕ) (part : Code) (meaning : Meaning (Unit {0})) : Type 1 where
  pub does : {i : ℕ} {s : State} {v : Services} {h t : ℕ → ℕ} {aims : Aims (Unit {0})} (closed : Closed code aims) (line : ℕ) (n : Values) (f : Family) (k : ℕ) → Linked links code i part → Serving k s v line → AllHold bl.frames bl.serials (storage v) (e.level ∷ bl.depths) s block types n → ((b : Base) → At b i (Known (bl.ground n) v h t nothing b) (f b)) → Behind bl k h t (i + size_of part) aims → Enough bl links k turns i h t v.world.acts aims.jumped aims.returned → Comes code i f v aims (meaning k s)

counted_holds : {s : State} {block : Names} {j serial : ℕ} {type : Y.LeafType} {z : ℤ} (w : World) → Holds s block j serial type z → Holds (with_world w s) block j serial type z
counted_holds w h = record { values = h.values; stands = h.stands; lives = h.lives; value = h.value; fits = h.fits }

counted_keeps : {s : State} {block : Names} {j serial : ℕ} {varying : Bool} {most : ℕ} {text : List ℕ} (w : World) → KeepsText s block j serial varying most text → KeepsText (with_world w s) block j serial varying most text
counted_keeps w h = record { values = h.values; stands = h.stands; lives = h.lives; value = h.value; short = h.short }

counted_array : {s : State} {block : Names} {j serial : ℕ} {type : Y.LeafType} {bs : List Bounds} {n : ℕ → ℤ} (w : World) → HoldsArray s block j serial type bs n → HoldsArray (with_world w s) block j serial type bs n
counted_array w h = record { values = h.values; numeric = h.numeric; stands = h.stands; lives = h.lives; value = h.value; fits = h.fits }

counted_texts : {s : State} {block : Names} {j serial : ℕ} {varying : Bool} {most : ℕ} {bs : List Bounds} {texts : ℕ → List ℕ} (w : World) → HoldsTexts s block j serial varying most bs texts → HoldsTexts (with_world w s) block j serial varying most bs texts
counted_texts w h = record { values = h.values; stands = h.stands; lives = h.lives; value = h.value; short = h.short }

pub counted_all : {frames : Frames} {serials : Serials} {xs : Storage} {levels : List ℕ} {s : State} {block : Names} {types : Types} {n : Values} (w : World) → AllHold frames serials xs levels s block types n → AllHold frames serials xs levels (with_world w s) block types n
counted_all w all =
    record {
      numbers = λ j b numeric. counted_holds w (all.numbers j b numeric);
      texts = λ j varying most at. counted_keeps w (all.texts j varying most at);
      arrays = λ j type b bs at. counted_array w (all.arrays j type b bs at);
      text_arrays = λ j varying most b bs at. counted_texts w (all.text_arrays j varying most b bs at);
      entered = all.entered;
      framed = all.framed;
      kinds = all.kinds;
      units = all.units;
      aside = all.aside;
      stored = all.stored;
    }

-- of frames that have another list, which is the same
pub listed_as : (frames : Frames) (list : List ℕ) {serials : Serials} {xs : Storage} {levels : List ℕ} {s : State} {block : Names} {types : Types} {n : Values} → frames.list ≡ list → AllHold frames serials xs levels s block types n → AllHold (record { list = list; kinds = frames.kinds; asides = frames.asides; known = frames.known }) serials xs levels s block types n
listed_as frames list same all =
    record {
      numbers = all.numbers;
      texts = all.texts;
      arrays = all.arrays;
      text_arrays = all.text_arrays;
      entered = all.entered;
      framed = all.framed ∙ same;
      kinds = all.kinds;
      units = all.units;
      aside = all.aside;
      stored = all.stored;
    }

pub listed_of : (frames : Frames) (list : List ℕ) {serials : Serials} {xs : Storage} {levels : List ℕ} {s : State} {block : Names} {types : Types} {n : Values} → frames.list ≡ list → AllHold (record { list = list; kinds = frames.kinds; asides = frames.asides; known = frames.known }) serials xs levels s block types n → AllHold frames serials xs levels s block types n
listed_of frames list same all =
    record {
      numbers = all.numbers;
      texts = all.texts;
      arrays = all.arrays;
      text_arrays = all.text_arrays;
      entered = all.entered;
      framed = all.framed ∙ sym same;
      kinds = all.kinds;
      units = all.units;
      aside = all.aside;
      stored = all.stored;
    }

-- the numbers after one is assigned
pub assigned_all : {frames : Frames} {serials : Serials} {xs : Storage} {levels : List ℕ} {s : State} {block : Names} {types : Types} {n : Values} (j : ℕ) {type : Y.LeafType} (z : ℤ) (below : slice_get types j ≡ Some (alone type)) (fits : Fits type z) (all : AllHold frames serials xs levels s block types n) → AllHold frames serials xs levels (assigned_state s type (serials.of j) (all.numbers j (type, below) (fits_numeric type z fits)).values z) block types (with_number_at n j z)
assigned_all {frames = frames} {serials = serials} {s = s} {types = types} {n = n} j {type} z below fits all =
    let numeric' = fits_numeric type z fits in
    let mine = all.numbers j (type, below) numeric' in
    record {
      numbers = λ i b numeric. holds_assigned serials.of types n z below fits mine (λ i' b' e. all.stored.apart i' j b'.1 below e) all.numbers i b numeric;
      texts = λ i varying most at. keeps_beside z (all.stored.apart i j at below (text_apart types i j type varying most below numeric' at)) mine (all.texts i varying most at);
      arrays = λ i other b bs at. arrays_beside type (serials.of j) mine.values z (all.stored.apart i j at.0 below (array_apart types i j type other b bs below at.0)) (all.arrays i other b bs at);
      text_arrays = λ i varying most b bs at. texts_aside (serials.of j) (P.with_element (designated_scalar type (serials.of j) mine.values) (value_as type z)) (all.stored.apart i j at below (array_apart types i j type (text_leaf varying most) b bs below at)) (all.text_arrays i varying most b bs at);
      entered = all.entered;
      framed = all.framed;
      kinds = all.kinds;
      units = all.units;
      aside = asides_changed j (P.with_element (designated_scalar type (serials.of j) mine.values) (value_as type z)) below all.aside;
      stored = stored_changed (serials.of j) (P.with_element (designated_scalar type (serials.of j) mine.values) (value_as type z)) (λ g. refl) all.stored;
    }

pub null_does : {e : Environment} {block : Names} {types : Types} (bl : Block e block types) (links : Links) (code : List Instr) (around : Around) (line : ℕ) → line < 2 ^ 31 → Does bl links code around.turns (act_code line) (M.statement around (Y.Null line))
unfolding M.statement
null_does bl links code around line fits =
    record {
      does = λ {i} {s} {v} {h} {t} {aims} closed old n f k l serving all at goal more.
          act_piece closed f line old k fits l serving at (λ f' serving' at'. goal _ _ line n h t f' serving' (counted_all _ all) (stays_same bl.taken h t) at');
    }

-- an assignment of a value that fits its target, a variable of the block
pub assign_does : {e : Environment} {block : Names} {types : Types} (bl : Block e block types) (links : Links)
    (code : List Instr) (routines : Standing bl links code) (around : Around) (j : ℕ) {type : Y.LeafType}
    (source : Y.Stored) (line words : ℕ) (below : slice_get types j ≡ Some (alone type))
    → ((v : Services) (s : State) (k : ℕ) (n : Values)
    → AllHold bl.frames bl.serials (storage v) (e.level ∷ bl.depths) s block types n → Serving k s v line
    → Stores links code (bl.ground n) v s k words type (λ taken. stored_code e taken source)
    (V.stored_value (at_line around line) source))
    → stored_into e bl.taken (whole (own block j)) source ≡ word_stored e bl.taken (whole (own block j))
    → bl.taken.words + 1 ≤ bl.words + spare bl.taken → bl.taken.words + words ≤ bl.words + spare bl.taken
    → line < 2 ^ 31 → Does bl links code around.turns
    (act_code line ++ assigned_code e bl.taken (whole (own block j)) source)
    (M.statement around (Y.Assign (whole (own block j)) source line))
unfolding M.statement ◌>>=◌ ◌>>◌
assign_does {e} {block} {types} bl links code routines around j {type} source line words below stores into some room fits =
    record {
      does = λ {i} {s} {v} {h} {t} {aims} closed old n f k l serving all at goal more.
          let front = act_code line in
          let target = whole (own block j) in
          let valued' = stored_code e bl.taken source in
          let last = word_stored e bl.taken target in
          let rest = assigned_code e bl.taken target source in
          let here = at_line around line in
          let store : BasicValue → Meaning (Unit {0}) = λ y. M.assigned here target y in
          let next' : Unit {0} → Meaning (Unit {0}) = λ u. (V.stored_value here source) >>= store in
          let size = size_append front rest in
          let size1 = size_append valued' (stored_into e bl.taken target source) in
          let size2 = ap size_of into in
          let place : i + size_of front + size_of valued' + size_of last ≡ i + size_of (front ++ rest) = omega (arith, size, size1, size2) in
          let l1 = back_of front rest l in
          let ll = subst (Linked links code (i + size_of front + size_of valued')) into (back_of valued' (stored_into e bl.taken target source) l1) in
          let w = bl.words_are n in
          comes_on k (act counted k s) next'
          (act_piece (before_closed k next' closed) f line old k fits (front_of front rest l) serving at
          (λ f1 serving1 at1.
          let s1 = with_world (counted s.world) s in
          let all1 : AllHold bl.frames bl.serials (storage v) (e.level ∷ bl.depths) s1 block types n = counted_all _ all in
          comes_on k (V.stored_value here source k s1) store
          ((stores _ s1 k n all1 serving1).does (before_closed k store closed) f1 bl.taken (omega (arith, room, w)) (front_of valued' (stored_into e bl.taken target source) l1) at1
          (λ z f2 h2 t2 fits2 stays2 at2.
          stored_piece (bl.ground (with_number_at n j z)) closed (i + size_of front + size_of valued') e block types n
          f2 here bl.taken j z k below fits2 (scope_of bl n all1)
          (λ b h'. bl.same n (with_number_at n j z) b h') (λ t' b m len o. bl.writes n j z below (all1.numbers j (type, below) (fits_numeric type z fits2)).fits fits2 t' b m len o) ll at2
          (λ f3 h3 t3 stays3 at3.
          let s2 = assigned_state s1 type (bl.serials.of j) (all1.numbers j (type, below) (fits_numeric type z fits2)).values z in
          subst (λ u. aims.done u f3 (acted line v) tt s2) (sym place)
          (goal s2 (acted line v) line (with_number_at n j z) h3 t3 f3
          (record { world = serving1.world; running = serving1.running; line_is = serving1.line_is; input = serving1.input; allowed = serving1.allowed; fits = serving1.fits; nested = serving1.nested; waiting = serving1.waiting; places = serving1.places })
          (assigned_all j z below fits2 all1)
          (stays_then stays2 stays3)
          (λ b. record { pc = (at3 b).pc ∙ ap (address b) place; holds = (at3 b).holds })))))));
    }

pub assign_number_does : {e : Environment} {block : Names} {types : Types} (bl : Block e block types) (links : Links)
    (code : List Instr) (routines : Standing bl links code) (around : Around) (r : Y.Reference) (p : ℕ) (x : Y.Number)
    (line : ℕ) → IsOwn block types (Y.FixedLeaf p) r → IsProvedNumber block types x
    → bl.taken.words + max 1 (number_words x) ≤ bl.words + spare bl.taken → line < 2 ^ 31
    → Does bl links code around.turns (act_code line ++ assigned_code e bl.taken r (Y.StoredNumber p x))
    (M.statement around (Y.Assign r (Y.StoredNumber p x) line))
assign_number_does {e} {block} {types} bl links code routines around r p x line own' is room fits =
    let least = le-max_left 1 (number_words x) in
    subst (λ q. Does bl links code around.turns (act_code line ++ assigned_code e bl.taken q (Y.StoredNumber p x)) (M.statement around (Y.Assign q (Y.StoredNumber p x) line))) (sym own'.is)
    (assign_does bl links code routines around own'.index (Y.StoredNumber p x) line (max 1 (number_words x)) own'.declared
    (λ v s k n all serving. number_stores {e = e} {block = block} {types = types} {held = n} {around = at_line around line} p x (all.numbers own'.index (Y.FixedLeaf p, own'.declared) tt).fits.0 (record { routines = routines.raises; constants = routines.constants n; temps = bl.temps n; scope = scope_of bl n all; serving = serving }) is)
    refl (omega (arith, room, least)) room fits)

pub assign_bit_does : {e : Environment} {block : Names} {types : Types} (bl : Block e block types) (links : Links)
    (code : List Instr) (routines : Standing bl links code) (around : Around) (r : Y.Reference) (x : Y.Bit) (line : ℕ)
    → IsOwn block types Y.BitLeaf r → IsProvedBit block types x → bl.taken.words + 1 ≤ bl.words + spare bl.taken
    → bl.taken.words + bit_words x ≤ bl.words + spare bl.taken → line < 2 ^ 31
    → Does bl links code around.turns (act_code line ++ assigned_code e bl.taken r (Y.StoredBit x))
    (M.statement around (Y.Assign r (Y.StoredBit x) line))
assign_bit_does {e} {block} {types} bl links code routines around r x line own' is some room fits =
    subst (λ q. Does bl links code around.turns (act_code line ++ assigned_code e bl.taken q (Y.StoredBit x)) (M.statement around (Y.Assign q (Y.StoredBit x) line))) (sym own'.is)
    (assign_does bl links code routines around own'.index (Y.StoredBit x) line (bit_words x) own'.declared
    (λ v s k n all serving. bit_stores {e = e} {block = block} {types = types} {held = n} {around = at_line around line} x (record { routines = routines.raises; constants = routines.constants n; temps = bl.temps n; scope = scope_of bl n all; serving = serving }) is)
    refl some room fits)

-- ---- labels stand in the code without a word

marked_runs : (links : Links) (code : List Instr) (b : Base) (i block : ℕ) (labels : List (List ℕ)) (w : Whole) (Q : Whole → Type 0) → Q w → Items links code b i (marked block labels) w Q
marked_runs links code b i block [] w Q h = h
marked_runs links code b i block (l ∷ ls) w Q h = marked_runs links code b (i + 0) block ls w Q h

pub marked_piece : {links : Links} {code : List Instr} {i : ℕ} {g : Ground} {v : Services} {h t : ℕ → ℕ} {X : Type 0} {aims : Aims X} {flow : Flow X} (closed : Closed code aims) (block : ℕ) (labels : List (List ℕ)) (f : Family) → Linked links code i (marked block labels) → ((b : Base) → At b i (Known g v h t nothing b) (f b)) → ((f' : Family) → ((b : Base) → At b (i + size_of (marked block labels)) (Known g v h t nothing b) (f' b)) → Comes code (i + size_of (marked block labels)) f' v aims flow) → Comes code i f v aims flow
marked_piece {links = links} {code = code} {i = i} {g = g} {v = v} {h = h} {t = t} closed block labels f l at next' =
    onward closed (straight i f v v (λ b. Known g v h t nothing b) l (omega arith) (λ b. (at b).pc) (λ b. marked_runs links code b i block labels (f b) (Known g v h t nothing b) (at b).holds)) next'

-- ---- lists

abbrev pub EachDoes : {e : Environment} {block : Names} {types : Types} → Block e block types → Links → List Instr → Around → Y.Stmts → Type 1
EachDoes {e} bl links code around (Y.EndOfList labels) = Unit {1}
EachDoes {e} bl links code around (Y.StmtThen labels first rest) =
    Does bl links code around.turns (stmt_code e bl.taken first) (M.statement around first) × EachDoes bl links code around rest

-- a list of statements, of which each does what it means
pub list_does : {e : Environment} {block : Names} {types : Types} (bl : Block e block types) (links : Links) (code : List Instr) (around : Around) (body : Y.Stmts) → EachDoes bl links code around body → Does bl links code around.turns (stmts_code e bl.taken body) (M.statements around body None)
unfolding M.statements give choose ◌>>◌
list_does {e} bl links code around (Y.EndOfList labels) each =
    record {
      does = λ {i} {s} {v} {h} {t} {aims} closed line n f k l serving all at goal more.
          marked_piece closed e.block labels f l at
          (λ f' at'. record { to = λ early. goal s v line n h t f' serving all (stays_same bl.taken h t) at' });
    }
list_does {e} bl links code around (Y.StmtThen labels first rest) each =
    record {
      does = λ {i} {s} {v} {h} {t} {aims} closed line n f k l serving all at goal more.
          let a = marked e.block labels in
          let c = stmt_code e bl.taken first in
          let d = stmts_code e bl.taken rest in
          let l2 = back_of a (c ++ d) l in
          let e1 = size_append a (c ++ d) in
          let e2 = size_append c d in
          let place : i + size_of a + size_of c + size_of d ≡ i + size_of (a ++ (c ++ d)) = omega (arith, e1, e2) in
          let next' : Unit {0} → Meaning (Unit {0}) = λ u. M.statements around rest None in
          marked_piece closed e.block labels f (front_of a (c ++ d) l) at (λ f1 at1.
          comes_on k (M.statement around first k s) next'
          (comes_since (M.statement around first k s)
          (each.0.does (since_closed v.world.acts (before_closed k next' closed)) line n f1 k (front_of c d l2) serving all at1
          (λ s2 v2 line2 n2 h2 t2 f2 serving2 all2 stays2 at2 grown.
          (list_does bl links code around rest each.1).does closed line2 n2 f2 k (back_of c d l2) serving2 all2 at2
          (λ s3 v3 line3 n3 h3 t3 f3 serving3 all3 stays3 at3.
          subst (λ u. aims.done u f3 v3 tt s3) (sym place)
          (goal s3 v3 line3 n3 h3 t3 f3 serving3 all3 (stays_then stays2 stays3) (λ b. record { pc = (at3 b).pc ∙ ap (address b) place; holds = (at3 b).holds })))
          (further more (omega arith) grown stays2)) (further more (omega arith) (omega arith) (stays_same bl.taken h t)))));
    }
