-- A parameter of a block is one while words of its frame tell something, and while a place in a format list is in use.
use Rattle.std.proofs.Common.{◌≡◌, inl, inr, ℕ, List, [], ◌∷◌, Option, subst}
use Rattle.pli_serving.specs.ServiceState.{EditPlace}
use Rattle.pli_coding.specs.Frames.{automatic_place}
use Rattle.activation_relation.specs.FrameLaws.{with_waits}
use Rattle.activation_relation.specs.Layers.{Layer, Point}
use Rattle.program_runs.specs.Statements.{Block}
use Rattle.expression_runs.specs.Variables.{Spot}
use Rattle.argument_runs.specs.Lists.{with_list}
use Rattle.parameter_runs.specs.Around.{IsParameterAround}
use Rattle.list_calls.specs.Arguments.{ByName, ByValue, Way}
use Rattle.list_calls.specs.ListKnown.{AreStored, IsStored}
use Rattle.list_calls.specs.Passed.{HasTold, IsNamed}
use Rattle.reference_runs.specs.References.{Reference}
use Rattle.word_runs.proofs.Words.{number_told}
use Rattle.number_runs.specs.Knowledge.{IsPassable}
use Rattle.word_runs.specs.Words.{telling}
use Rattle.edit_runs.specs.Edits.{placing}
use Rattle.edit_runs.proofs.Places.{begun_placed}

pub parameter_placed :
    (k : Block) (place : EditPlace) (x : Spot) → IsParameterAround k x → IsParameterAround (placing place k) x
parameter_placed k place x is =
    record {
      begun = begun_placed k place is.begun;
      declared = is.declared;
      entry = is.entry;
      numbered_so = is.numbered_so;
      near = is.near;
      binding = is.binding;
      living = is.living;
      lives = is.lives;
      shape = is.shape;
      base = is.base;
      frame = is.frame;
      listed = is.listed;
      few = is.few;
      small = is.small;
      number = is.number;
      numbered = is.numbered;
      low = is.low;
      inside = is.inside;
    }

-- ---- what has a name that is passed is stored whatever words tell

pub one_told :
    (waits : ℕ → Option ℕ) (φ : Layer) (φs : List Layer) (p : Point) (serial signature : ℕ) →
    IsStored p serial signature → IsStored (with_list waits φ φs p) serial signature
one_told waits φ φs p serial signature is =
    record {
      old = is.old;
      living = is.living;
      lives = is.lives;
      shape = is.shape;
      numbered = is.numbered;
      small = is.small;
      number = is.number;
      low = is.low;
      inside = is.inside;
    }

pub stored_told :
    (waits : ℕ → Option ℕ) (φ : Layer) (φs : List Layer) (p : Point) (us : List Way) → AreStored p us →
    AreStored (with_list waits φ φs p) us
stored_told waits φ φs p [] h = tt
stored_told waits φ φs p (ByValue source ∷ us) h = stored_told waits φ φs p us h
stored_told waits φ φs p (ByName v serial signature ∷ us) h =
    (one_told waits φ φs p serial signature h.0, stored_told waits φ φs p us h.1)

pub one_untold :
    (waits : ℕ → Option ℕ) (φ : Layer) (φs : List Layer) (p : Point) (serial signature : ℕ) →
    IsStored (with_list waits φ φs p) serial signature → IsStored p serial signature
one_untold waits φ φs p serial signature is =
    record {
      old = is.old;
      living = is.living;
      lives = is.lives;
      shape = is.shape;
      numbered = is.numbered;
      small = is.small;
      number = is.number;
      low = is.low;
      inside = is.inside;
    }

pub stored_untold :
    (waits : ℕ → Option ℕ) (φ : Layer) (φs : List Layer) (p : Point) (us : List Way) →
    AreStored (with_list waits φ φs p) us → AreStored p us
stored_untold waits φ φs p [] h = tt
stored_untold waits φ φs p (ByValue source ∷ us) h = stored_untold waits φ φs p us h
stored_untold waits φ φs p (ByName v serial signature ∷ us) h =
    (one_untold waits φ φs p serial signature h.0, stored_untold waits φ φs p us h.1)

-- ---- a variable that may be passed by reference may be so whatever words tell

-- a name is told whatever words tell
pub named_told :
    (k : Block) (φ : Layer) (φs : List Layer) (waits : ℕ → Option ℕ) → k.first.control.layers ≡ φ ∷ φs → (x : Spot)
    (serial signature : ℕ) → IsNamed k x serial signature → IsNamed (telling waits φ φs k) x serial signature
unfolding number_told
named_told k φ φs waits newest x serial signature is =
    record {
      number = number_told k φ φs waits newest x is.number;
      serial_is = is.serial_is;
      told = told_waiting φ φs waits is.number.base
          (record {
            serial = serial;
            signature = signature;
            place = automatic_place k.environment.parts k.environment.program x.block x.level x.index;
          })
          (subst (λ ls. HasTold ls is.number.base (record {
            serial = serial;
            signature = signature;
            place = automatic_place k.environment.parts k.environment.program x.block x.level x.index;
          })) newest is.told);
      table = is.table;
      numbered = is.numbered;
      small = is.small;
      few = is.few;
    }
  where
    told_waiting :
        (φ : Layer) (φs : List Layer) (waits : ℕ → Option ℕ) (frame : ℕ) (r : Reference) → HasTold (φ ∷ φs) frame r →
        HasTold (with_waits waits φ ∷ φs) frame r
    told_waiting φ φs waits frame r (inl t) = inl t
    told_waiting φ φs waits frame r (inr t) = inr t

pub passable_told :
    (k : Block) (φ : Layer) (φs : List Layer) (waits : ℕ → Option ℕ) → k.first.control.layers ≡ φ ∷ φs → (x : Spot) →
    IsPassable k x → IsPassable (telling waits φ φs k) x
passable_told k φ φs waits newest x is =
    record {
      serial = is.serial;
      signature = is.signature;
      named = named_told k φ φs waits newest x is.serial is.signature is.named;
      stored = one_told waits φ φs k.first is.serial is.signature is.stored;
    }
