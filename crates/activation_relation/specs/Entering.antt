-- How a block is entered from a point and comes back to one that is later: what its code promises, and what it does
-- at its end.
use Rattle.std.specs.Prelude.{ℕ, ◌+◌, ◌*◌, ◌<◌, ◌≤◌, ◌≡◌, List, ◌∷◌, ◌++◌, Option, None, Some, nat_lt, if◌then◌else◌}
use Rattle.rv_meaning.specs.Machine as V
use Rattle.rv_meaning.specs.Memory.{load}
use Rattle.rv_meaning.specs.Words.{word, flag}
use Rattle.pli_meaning.specs.BasicValues.{BasicValue, BasicNumber, BasicText, BasicBit, BasicPointer, BasicOffset}
use Rattle.pli_meaning.specs.Control.{Flow, Meaning}
use Rattle.pli_meaning.specs.StorageState.{State, Activation, automatic_in_use}
use Rattle.pli_serving.specs.Bytes.{offset_word}
use Rattle.pli_serving.specs.ServiceState as S
use Rattle.pli_coding.specs.Frames.{return_address, frame_below, saved_register}
use Rattle.pli_coding.specs.Registers.{return_register, frame_register, stack_register, held, held_registers, a0, a2}
use Rattle.pli_meaning.specs.Raising.{Entry}
use Rattle.activation_relation.specs.Layers.{Layer, Point, services_of}
use Rattle.activation_relation.specs.Changes.{popped}
use Rattle.activation_relation.specs.Frames.{place_from, frame_start}
use Rattle.activation_relation.specs.Landing.{Jumps, Returns, Lands, Resumes}
use Rattle.activation_relation.specs.Chains.{frame_at}
use Rattle.activation_relation.specs.Points.{Surroundings, Stands, Machines, IsAt, AreAt}
use Rattle.activation_relation.specs.Remaining.{Remains}

-- ---- later points

-- blocks that were entered in between have been left, and places in format lists are as they were; what lived lives on
-- in its place, whatever came of its values, and each activation has as much of AUTOMATIC storage
pub record Later (p q : Point) : Type 0 where
  pub activations : q.state.activations ≡ p.state.activations
  pub layers : q.control.layers ≡ p.control.layers
  pub edits : q.control.edits ≡ p.control.edits
  pub waiting : q.control.waiting ≡ p.control.waiting
  pub acts : p.state.world.acts ≤ q.state.world.acts
  pub remains : Remains p q

-- ---- the end of a block

-- what the code of a block's end does to the machine: the stack and the frame are those of the block below, and the
-- registers that it saved are loaded
pub record GoesBelow (φ : Layer) (base : ℕ) (s t : V.State) : Type 0 where
  pub frame : V.value t frame_register ≡ load 4 s.memory (place_from φ.at frame_below)
  pub top : V.value t stack_register ≡ base + frame_start φ
  pub registers :
      (n : ℕ) → n < held_registers →
      V.value t (held n)
      ≡ (if nat_lt n φ.saved then load 4 s.memory (place_from φ.at (saved_register n)) else V.value s (held n))
  pub memory : t.memory ≡ s.memory

-- what its code left of the registers: those that it didn't save are as they were where it was entered
pub record HoldsBefore (φ : Layer) (before after : ℕ → ℕ) : Type 0 where
  pub saved : (n : ℕ) → n < φ.saved → φ.held n ≡ before n
  pub others : (n : ℕ) → φ.saved ≤ n → after n ≡ before n

-- the end of the newest block, above the others: what is kept of its texts, the numbers in registers before and after
-- it, and the instructions where it ends and where the block below goes on
pub record BlockEnd : Type 0 where
  pub layer : Layer
  pub others : List Layer
  pub kept : List S.Entry
  pub before : ℕ → ℕ
  pub after : ℕ → ℕ
  pub index : ℕ
  pub back : ℕ

-- ---- what is promised where a block is entered

-- credits, machines and services for a result, a jump and a return, with the state there
pub record Aims : Type 1 where
  pub done : ℕ → Machines → S.Services → Option BasicValue → State → Type 0
  pub jumped : Jumps
  pub returned : Returns

-- what it means that a run with these credits, machines and services comes to what a flow says
abbrev pub Comes : Type 1
Comes = ℕ → Machines → S.Services → Aims → Flow (Option BasicValue) → Type 0

-- a result on the way into an expression: a text on the stack, another value in a0
abbrev pub IsGiven : Option BasicValue → (p q : Point) → V.State → Type 0
IsGiven None p q s = q.control.entries ≡ p.control.entries
IsGiven (Some (BasicNumber z)) p q s = (q.control.entries ≡ p.control.entries) × (V.value s a0 ≡ word z)
IsGiven (Some (BasicBit b)) p q s = (q.control.entries ≡ p.control.entries) × (V.value s a0 ≡ flag b)
IsGiven (Some (BasicOffset o)) p q s = (q.control.entries ≡ p.control.entries) × (V.value s a0 ≡ offset_word o)
IsGiven (Some (BasicPointer n)) p q s = q.control.entries ≡ p.control.entries
IsGiven (Some (BasicText t)) p q s = q.control.entries ≡ S.TextEntry t ∷ p.control.entries

-- back at an instruction, at any later point with the same numbers in registers
abbrev pub Behind : Surroundings → Point → (numbers : ℕ → ℕ) → (credits index : ℕ) → Aims → Type 0
Behind w p numbers credits index aims =
    (v : Option BasicValue) (q : Point) (f : Machines) → Stands w q → Later p q → AreAt w q numbers index f →
    ((base : ℕ) (valid : V.IsValidBase base) → IsGiven v p q (f base valid)) →
    aims.done credits f (services_of q) v q.state

-- where a block begins: the frame of its static parent is in a0, and the number of its arguments' texts in a2; a
-- procedure is told where it goes back
pub record IsCalled (w : Surroundings) (p : Point) (entry : Entry) (texts back base : ℕ) (s : V.State) : Type 0 where
  pub parent : V.value s a0 ≡ base + frame_at p.control.layers entry.parent
  pub texts_given : V.value s a2 ≡ texts
  pub return : V.value s return_register ≡ base + 4 * back

-- a procedure that is entered at an instruction, with arguments as its code finds them: its run comes to what it
-- means; it comes back with any credits that are wanted, since those of the call are paid back where it ends
pub record Enters (w : Surroundings) (comes : Comes) (given : Entry → Point → (base : ℕ) → V.State → Type 0)
    (index debt : ℕ) (meaning : Entry → Meaning (Option BasicValue)) : Type 1 where
  pub does :
      (entry : Entry) (aims : Aims) (p : Point) (numbers : ℕ → ℕ) (credits wanted texts back : ℕ) (f : Machines) →
      Stands w p → AreAt w p numbers index f →
      ((base : ℕ) (valid : V.IsValidBase base) →
      IsCalled w p entry texts back base (f base valid) × given entry p base (f base valid)) →
      Lands w aims.jumped p → 1 ≤ wanted → Behind w p numbers wanted back aims →
      comes (credits + debt) f (services_of p) aims (meaning entry w.acts p.state)

-- ---- the laws

pub record BlocksReturn : Type 0 where
  pub same : (p : Point) → Later p p
  pub then' : (p q r : Point) → Later p q → Later q r → Later p r
  -- a block that was entered at a point and ends has left all but values as it was
  pub later :
      (w : Surroundings) (p q : Point) (acts : ℕ) (a : Activation) (φ : Layer) (kept : List S.Entry) → Stands w p →
      p.state.world.acts ≤ acts → φ.edits ≡ p.control.edits → p.control.waiting ≡ None → Remains p q →
      Resumes w acts a p.state.activations φ p.control.layers q → Later p (popped kept q)
  -- what is AUTOMATIC takes as much as before
  pub in_use :
      (w : Surroundings) (p q : Point) → Stands w p → Stands w q → Later p q →
      automatic_in_use q.state.living ≡ automatic_in_use p.state.living
  pub entries :
      (w : Surroundings) (q : Point) (acts : ℕ) (a : Activation) (as' : List Activation) (φ : Layer)
      (φs : List Layer) (kept : List S.Entry) → Resumes w acts a as' φ φs q →
      (popped kept q).control.entries ≡ kept ++ φ.entries
  -- and its code leaves the machine that the block below had, with all numbers in registers and words as they were
  pub machine :
      (w : Surroundings) (q : Point) (e : BlockEnd) (base : ℕ) (s t : V.State) → Stands w q →
      q.control.layers ≡ e.layer ∷ e.others → IsAt w q e.after e.index base s → HoldsBefore e.layer e.before e.after →
      GoesBelow e.layer base s t → t.pc ≡ base + 4 * e.back → IsAt w (popped e.kept q) e.before e.back base t
  -- a procedure goes back to the instruction that its call said
  pub procedure :
      (w : Surroundings) (q : Point) (φ : Layer) (φs : List Layer) (after : ℕ → ℕ) (index base : ℕ) (s : V.State) →
      q.control.layers ≡ φ ∷ φs → φ.kind ≡ S.ProcedureBlock → IsAt w q after index base s →
      load 4 s.memory (place_from φ.at return_address) ≡ base + 4 * φ.back
