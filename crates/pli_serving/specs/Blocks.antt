-- Services 4 to 6 and 31: blocks are entered, are left, and end together where the program goes on further out.
use Rattle.std.specs.Prelude.{ℕ, zero, suc, ◌-◌, Bool, true, false, ◌==◌, nat_le, nat_lt, List, [], ◌∷◌, length, drop, filter, Option, Some, None, if◌then◌else◌}
use Rattle.pli_meaning.specs.declared.outcome.End.TheVariants as E
use Rattle.pli_meaning.specs.declared.outcome.Limit.TheVariants as L
use Rattle.pli_meaning.specs.StorageState.{most_activations}
use Rattle.pli_serving.specs.ServiceState.{Services, BlockKind, ProcedureBlock, BeginBlock, OnUnitBlock, Activation, Waiting, Entry, TextEntry, height}
use Rattle.pli_serving.specs.Answers.{Answer, Done, Bad}
use Rattle.pli_serving.specs.Finding.{Call}
use Rattle.pli_serving.specs.Outcomes.{or_bad, bad_unless}
use Rattle.pli_serving.specs.ActsAndEnds.{run_ended}

-- ---- 4: enter

-- the kind of a block, and the line that is current again when it ends
pub record Entered : Type 0 where
  pub kind : BlockKind
  pub line : ℕ

abbrev pub unit_entered : Option Waiting → Option Entered
unit_entered None = None
unit_entered (Some w) = Some (record { kind = OnUnitBlock w.code w.resume; line = w.line })

abbrev pub block_entered : BlockKind → (line : ℕ) → Option Waiting → Option Entered
block_entered kind line None = Some (record { kind = kind; line = line })
block_entered kind line (Some w) = None

-- an on-unit only while a raise waits for it, the others only while none does
abbrev pub entered_of : (kind line : ℕ) → Option Waiting → Option Entered
entered_of kind line waiting =
    if kind == 0 then block_entered ProcedureBlock line waiting
    else (if kind == 1 then block_entered BeginBlock line waiting
    else (if kind == 2 then unit_entered waiting else None))

-- whether so many entries on top are texts
abbrev pub are_texts : ℕ → List Entry → Bool
are_texts zero es = true
are_texts (suc n) (TextEntry t ∷ es) = are_texts n es
are_texts (suc n) _ = false

abbrev pub activation_of : Services → Entered → (frame texts : ℕ) → Activation
activation_of v entered frame texts =
    record {
      kind = entered.kind;
      frame = frame;
      texts = length v.entries - texts;
      edits = length v.edits;
      line = entered.line;
      units = [];
    }

-- a new activation, above which the argument texts stand; one too many ends the run
abbrev pub enter_served : Call → (kind frame line texts : ℕ) → Answer
enter_served c kind frame line texts =
    or_bad (entered_of kind c.services.line c.services.waiting) (λ entered.
    bad_unless (are_texts texts c.services.entries)
    (if nat_lt (height c.services) most_activations
    then Done
    (record c.services {
      activations = activation_of c.services entered frame texts ∷ c.services.activations;
      waiting = None;
      line = line;
    })
    c.memory
    kind
    frame
    else run_ended (E.Limit L.Depth) c.services))

-- ---- what ends with activations

-- the oldest so many
abbrev pub oldest : {A : Type 0} → ℕ → List A → List A
oldest n as' = drop (length as' - n) as'

abbrev pub top_kept : (texts : ℕ) → List Entry → Option (List Entry)
top_kept texts (TextEntry t ∷ es) = if nat_le texts (length es) then Some (TextEntry t ∷ oldest texts es) else None
top_kept texts _ = None

-- the texts back to a height, with 1 with the top text kept above it
abbrev pub entries_left : (texts keep : ℕ) → List Entry → Option (List Entry)
entries_left texts keep es =
    if keep == 0 then Some (oldest texts es) else (if keep == 1 then top_kept texts es else None)

abbrev pub ended_with : Services → List Activation → (edits : ℕ) → Option (List Entry) → Option Services
ended_with v left edits None = None
ended_with v left edits (Some es) =
    Some (record v {
      activations = left;
      living = filter (λ l. nat_le l.owner (length left)) v.living;
      entries = es;
      edits = oldest edits v.edits;
    })

-- only these activations are left, with what lives with them; the texts and the places in format lists are back to heights
abbrev pub ended_to : Services → List Activation → (texts edits keep : ℕ) → Option Services
ended_to v left texts edits keep = ended_with v left edits (entries_left texts keep v.entries)

-- without the newest activation; the line that was current before it is current again
abbrev pub newest_ended : Services → (keep : ℕ) → Activation → (left : List Activation) → Option Services
newest_ended v keep a left = ended_to (record v { line = a.line }) left a.texts a.edits keep

-- ---- 5: leave

abbrev pub left_by : Call → (keep a1 : ℕ) → List Activation → Answer
left_by c keep a1 [] = Bad
left_by c keep a1 (a ∷ as') = or_bad (newest_ended c.services keep a as') (λ v. Done v c.memory keep a1)

-- the newest activation ends, with its storage and on-units
abbrev pub leave_served : Call → (keep a1 : ℕ) → Answer
leave_served c keep a1 = left_by c keep a1 c.services.activations

-- ---- 6: unwind

-- from the newest activation with this frame on
abbrev pub from_frame : (frame : ℕ) → List Activation → List Activation
from_frame frame [] = []
from_frame frame (a ∷ as') = if a.frame == frame then a ∷ as' else from_frame frame as'

abbrev pub unwound : Call → (frame keep : ℕ) → List Activation → Answer
unwound c frame keep [] = Bad
unwound c frame keep (a ∷ as') = or_bad (ended_to c.services (a ∷ as') a.texts a.edits keep) (λ v. Done v c.memory frame keep)

-- the activations above the one of a frame end, with their storage and on-units; the line stays
abbrev pub unwind_served : Call → (frame keep : ℕ) → Answer
unwind_served c frame keep = unwound c frame keep (from_frame frame c.services.activations)

-- ---- 31: return from an on-unit

abbrev pub unit_left : Call → BlockKind → Option Services → Answer
unit_left c (OnUnitBlock code resume) ended = or_bad ended (λ v. Done v c.memory resume code)
unit_left c _ ended = Bad

abbrev pub returned_by : Call → List Activation → Answer
returned_by c [] = Bad
returned_by c (a ∷ as') = unit_left c a.kind (newest_ended c.services 0 a as')

-- the newest activation, an on-unit, ends, and the line of the raise is current again
abbrev pub return_served : Call → Answer
return_served c = returned_by c c.services.activations
