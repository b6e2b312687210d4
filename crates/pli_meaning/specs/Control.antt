-- A part of a program as a function from the acts allowed and a state to what it comes to. One step makes acts, so that
-- two runs with different numbers of acts allowed have the same states until one of them pauses.
use Rattle.std.specs.Prelude.{ℕ, zero, suc, ◌&&◌, ◌==◌, List, Option, Some, None, Bool, true, false, nat_lt, if◌then◌else◌, cond}
use Rattle.std.specs.List.{list_any}
use Rattle.pli_meaning.specs.declared.outcome.End.{End}
use Rattle.pli_language.specs.Keywords.{same_bytes}
use Rattle.pli_meaning.specs.World.{World, ending}
use Rattle.pli_meaning.specs.BasicValues.{BasicValue}
use Rattle.pli_meaning.specs.StorageState.{State, with_world}

-- the letters of a label
abbrev pub Label : Type 0
Label = List ℕ

-- what a part comes to: a result, a jump to a label in a list of the activation at a height, a return from a procedure, the end
-- of the run, a pause where one more act than is allowed would come, or nothing that a typed program comes to
pub data Flow (R : Type 0) : Type 0 where
  Normal : R → State → Flow R
  Jump : (height : ℕ) → (label : Label) → State → Flow R
  Return : Option BasicValue → State → Flow R
  Ended : State → Flow R
  Paused : State → Flow R
  Stuck : Flow R

abbrev pub Meaning : Type 0 → Type 0
Meaning R = ℕ → State → Flow R

-- ---- the steps

unfoldable pub give : {R : Type 0} → R → Meaning R
give r k s = Normal r s

unfoldable pub stuck : {R : Type 0} → Meaning R
stuck k s = Stuck

-- goes on with the result of a part
abbrev pub flow_on : {Q R : Type 0} → ℕ → Flow Q → (Q → Meaning R) → Flow R
flow_on k (Normal q s) next = next q k s
flow_on k (Jump height label s) next = Jump height label s
flow_on k (Return v s) next = Return v s
flow_on k (Ended s) next = Ended s
flow_on k (Paused s) next = Paused s
flow_on k Stuck next = Stuck

unfoldable pub ◌>>=◌ : {Q R : Type 0} → Meaning Q → (Q → Meaning R) → Meaning R
◌>>=◌ part next k s = flow_on k (part k s) next

infixl 20 ◌>>=◌
unfoldable pub ◌>>◌ : {Q R : Type 0} → Meaning Q → Meaning R → Meaning R
◌>>◌ part next k s = flow_on k (part k s) (λ q. next)

infixl 20 ◌>>◌
-- the state
unfoldable pub looked : Meaning State
looked k s = Normal s s

-- a change of storage, which shows nothing
unfoldable pub stored : (State → State) → Meaning (Unit {0})
stored change k s = Normal tt (with_world s.world (change s))

-- one act, with what it shows
unfoldable pub act : (World → World) → Meaning (Unit {0})
act change k s = if nat_lt s.world.acts k then Normal tt (with_world (change s.world) s) else Paused s

-- the act that ends the run
unfoldable pub finish : {R : Type 0} → End → Meaning R
finish end k s = if nat_lt s.world.acts k then Ended (with_world (ending end s.world) s) else Paused s

unfoldable pub returns : {R : Type 0} → Option BasicValue → Meaning R
returns v k s = Return v s

unfoldable pub jumps : {R : Type 0} → (height : ℕ) → Label → Meaning R
jumps height label k s = Jump height label s

-- one of two parts
unfoldable pub choose : {R : Type 0} → Bool → Meaning R → Meaning R → Meaning R
choose b yes' no' k s = cond b (yes' k s) (no' k s)

-- what is there, or else another part
unfoldable pub given : {X R : Type 0} → Option X → (X → Meaning R) → Meaning R → Meaning R
given None next otherwise = otherwise
given (Some x) next otherwise = next x

-- ---- lists and their labels (chapter 6, GOTO)

abbrev pub is_among : Label → List Label → Bool
is_among label labels = list_any (same_bytes label) labels

-- a list runs from its start, or from a label in it: a jump to one of its own labels in its own activation goes on there
abbrev pub caught : ℕ → (height : ℕ) → List Label → Flow (Unit {0}) → (Label → Meaning (Unit {0})) → Flow (Unit {0})
caught k height labels (Normal r s) next = Normal r s
caught k height labels (Jump h label s) next = if (h == height) && is_among label labels then next label k s else Jump h label s
caught k height labels (Return v s) next = Return v s
caught k height labels (Ended s) next = Ended s
caught k height labels (Paused s) next = Paused s
caught k height labels Stuck next = Stuck

unfoldable pub list_from : (turns : ℕ) → (height : ℕ) → List Label → (Option Label → Meaning (Unit {0})) → Option Label → Meaning (Unit {0})
list_from zero height labels part from k s = Stuck
list_from (suc turns) height labels part from k s =
    caught k height labels (part from k s) (λ label. list_from turns height labels part (Some label))

-- ---- turns (chapter 6, DO)

-- a part as long as the test is met
unfoldable pub repeated_while : (turns : ℕ) → Meaning Bool → Meaning (Unit {0}) → Meaning (Unit {0})
repeated_while zero test part = stuck
repeated_while (suc turns) test part = do
  met ← test
  choose met
      (do part; repeated_while turns test part)
      (give tt)

-- ---- blocks

-- a RETURN ends its own block, a procedure or an on-unit; from a begin block it goes on to the procedure around it
abbrev pub left_by_return : (is_own_return : Bool) → Option BasicValue → State → Flow (Option BasicValue)
left_by_return true v s = Normal v s
left_by_return false v s = Return v s

-- the end of a block: what it comes to, after its activation ended
abbrev pub left : (is_own_return : Bool) → (State → State) → Flow (Unit {0}) → Flow (Option BasicValue)
left own close (Normal r s) = Normal None (with_world s.world (close s))
left own close (Jump height label s) = Jump height label (with_world s.world (close s))
left own close (Return v s) = left_by_return own v (with_world s.world (close s))
left own close (Ended s) = Ended s
left own close (Paused s) = Paused s
left own close Stuck = Stuck

unfoldable pub leaving : (is_own_return : Bool) → (State → State) → Meaning (Unit {0}) → Meaning (Option BasicValue)
leaving own close part k s = left own close (part k s)
