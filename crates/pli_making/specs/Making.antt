-- Variables that are made: service 7 from the place on where an argument is known, and what is made of their data.
use Rattle.std.specs.Prelude.{◌≡◌, ◌≢◌, ℕ, ◌+◌, ◌<◌, ◌≤◌, ◌^◌, ◌%◌, ◌&&◌, nat_lt, pos, true, false, List, [], ◌∷◌, ◌++◌, length, Option, None, Result, Ok, Err, unwrap_or, ⊤}
use Rattle.area_keeper.specs.Keeper.{Keeper}
use Rattle.area_keeper.specs.KeeperLaws.{greatest_capacity}
use Rattle.pli_meaning.specs.BasicValues.{VariableName}
use Rattle.pli_meaning.specs.Contents.{Generation, Shape, fresh}
use Rattle.pli_meaning.specs.StorageState.{most_automatic}
use Rattle.pli_meaning.specs.declared.outcome.End.TheVariants as E
use Rattle.pli_meaning.specs.declared.outcome.Limit.TheVariants as L
use Rattle.pli_serving.specs.ActsAndEnds.{run_ended}
use Rattle.pli_serving.specs.Answers.{Answer, Bad, Done}
use Rattle.pli_serving.specs.Arguments.{bytes_taken, shape_of_number}
use Rattle.pli_serving.specs.Bytes.{bytes_at, is_data, name_bytes, name_size, with_bytes}
use Rattle.pli_serving.specs.Finding.{Call}
use Rattle.pli_serving.specs.InitialValues.{Initial, initial_values}
use Rattle.pli_serving.specs.Making.{bytes_made, footprint_of_shape, limited, with_living}
use Rattle.pli_serving.specs.Outcomes.{bad_unless, or_bad}
use Rattle.pli_serving.specs.Templates.{shape_at}
use Rattle.controlled_gens.specs.Rooted.{Rooted, root_with}
use Rattle.controlled_gens.specs.declared.fault.GenFault.{GenFault}
use Rattle.controlled_gens.specs.declared.fault.GenFault.TheVariants as G
use Rattle.controlled_gens.specs.declared.roots.Place.{Place}
use Rattle.pli_values.specs.Beginnings.{lists_of, shape_of}
use Rattle.pli_values.specs.declared.begun.Begun.{Begun}
use Rattle.pli_answering.specs.declared.reply.Refusal.{Refusal}
use Rattle.pli_answering.specs.declared.reply.Refusal.TheVariants as F
use Rattle.pli_storage.specs.declared.held.Held.{Held}
use Rattle.pli_storage.specs.Held.{with_held}
use Rattle.pli_services.specs.Flowing.{FlowSeen, with_flow}
use Rattle.pli_making.specs.InUse.{newest_total}
use Rattle.pli_making.specs.declared.wanted.Making.{Making}
use Rattle.pli_making.specs.declared.content.Content.{Content}
use Rattle.pli_making.specs.declared.content.Content.TheVariants as D
use Rattle.pli_making.specs.declared.content.Fresh.{Fresh}
use Rattle.pli_making.specs.declared.starting.Started.{Started}
use Rattle.pli_making.specs.declared.starting.Started.TheVariants as S

-- a call whose services hold what a run's flow and its variables do
abbrev pub with_both : Keeper → FlowSeen → Held → (memory : List ℕ) → Call → Call
with_both k f h m c = with_flow f (with_held k h m c)

-- ---- the service

abbrev pub values_made : Call → Making → (owner : ℕ) → Shape → Option Initial → Answer
values_made c w owner s o = or_bad o (λ values. limited c w.name w.signature w.place owner (fresh s (pos 0) values))

abbrev pub shape_made : Call → Making → (owner : ℕ) → Option Shape → Answer
shape_made c w owner o = or_bad o (λ s. values_made c w owner s (initial_values c s.signature.leaves w.initial))

abbrev pub owner_made : Call → Making → (owner : ℕ) → Answer
owner_made c w owner = shape_made c w owner (shape_of_number c w.signature)

-- a variable lives by the next serial, with these data
abbrev pub made_with : Call → Making → (owner : ℕ) → (content : List ℕ) → Answer
made_with c w owner content =
    Done
    (with_living (record { serial = c.services.serials + 1; owner = owner; signature = w.signature; at = w.place }) c.services)
    (with_bytes (name_bytes (VariableName (c.services.serials + 1))) w.name (with_bytes content w.place c.memory))
    w.name
    w.signature

-- where its places are right
abbrev pub entered_with : Call → Making → (owner : ℕ) → (content : List ℕ) → Answer
entered_with c w owner content = bad_unless (nat_lt (c.services.serials + 1) (2 ^ 64)) (made_with c w owner content)

-- where the limit isn't passed, by how many bytes the data take
abbrev pub placed_with : Call → Making → (owner size : ℕ) → (content : List ℕ) → Answer
placed_with c w owner size content =
    bad_unless
    (nat_lt (c.services.serials + 1) (2 ^ 64) && (is_data c.layout w.place size && is_data c.layout w.name name_size))
    (made_with c w owner content)

-- the same, by the capacity of what may be an area
abbrev pub prepared_with : Call → Making → (owner : ℕ) → Generation → Option ℕ → Answer
prepared_with c w owner g o = placed_with c w owner (bytes_taken c.keeper g.shape o) (bytes_made c w.place g o)

-- ---- data

-- an area is made empty of the bytes that are there, other data are written
abbrev pub content_made : Keeper → Content → (at : ℕ) → (memory : List ℕ) → List ℕ
content_made k (D.Area capacity) at m = k.made capacity (bytes_at (k.bytes_for capacity) at m)
content_made k (D.Values bytes) at m = bytes.items

-- data can be made in so many bytes, from an address on
abbrev pub IsFitting : Keeper → Content → (at count : ℕ) → Type 0
IsFitting k (D.Area capacity) at count = (capacity % 16 ≡ 0) × (capacity ≤ greatest_capacity) × (at + k.bytes_for capacity ≤ count)
IsFitting k (D.Values bytes) at count = at + length bytes.items ≤ count

-- so can the name
pub record IsReady (k : Keeper) (w : Making) (f : Fresh) (count : ℕ) : Type 0 where
  pub content : IsFitting k f.content w.place count
  pub name : w.name + 16 ≤ count

-- the answer is to be that of these data; or it is a bad call, or there is no memory
abbrev pub Prepares : Answer → Call → Making → (owner : ℕ) → Result Fresh Refusal → Type 0
Prepares answer c w owner (Ok f) = answer ≡ entered_with c w owner (content_made c.keeper f.content w.place c.memory)
Prepares answer c w owner (Err F.Bad) = answer ≡ Bad
Prepares answer c w owner (Err F.Memory) = ⊤

-- what a generation that begins so holds: no REFER extent is told, and no member keeps one
abbrev pub fresh_of : Begun → Generation
fresh_of b = fresh (shape_of b) (pos 0) (unwrap_or (lists_of b) [])

pub record IsFirst (b : Begun) : Type 0 where
  pub extent : b.extent ≡ pos 0
  pub member : b.member ≡ None

-- ---- the limit

-- what a variable counts for is within the limit, with all that is counted already
pub record IsWeighed (h : Held) (totals : List ℕ) (w : Making) (owner counts : ℕ) : Type 0 where
  pub known : w.signature < length h.signatures
  pub weight : owner ≢ 0 → footprint_of_shape (shape_at h.signatures w.signature) ≡ counts
  pub few : owner ≢ 0 → newest_total totals + counts ≤ most_automatic

-- the answer is to be the end of the run by the limit, or that of these data; or it is a bad call, or there is no memory
abbrev pub Starts : Answer → Call → Making → (owner : ℕ) → Result Started Refusal → Type 0
Starts answer c w owner (Ok S.Limited) = answer ≡ run_ended (E.Limit L.Automatic) c.services
Starts answer c w owner (Ok (S.Ready f counts)) = answer ≡ entered_with c w owner (content_made c.keeper f.content w.place c.memory)
Starts answer c w owner (Err F.Bad) = answer ≡ Bad
Starts answer c w owner (Err F.Memory) = ⊤

-- where something is to be made, it fits and is counted
abbrev pub IsStarted : Keeper → Held → (totals : List ℕ) → Making → (owner : ℕ) → Started → Type 0
IsStarted k h totals w owner S.Limited = ⊤
IsStarted k h totals w owner (S.Ready f counts) = IsReady k w f h.layout.end × IsWeighed h totals w owner counts

-- ---- what lives

-- variables with one more
abbrev pub rooted_with : (serial : ℕ) → Place → Making → (owner : ℕ) → Rooted → Rooted
rooted_with serial place w owner r =
    record { serials = serial; roots = r.roots ++ (serial, root_with place w.signature owner) ∷ [] }

-- why a variable gets no serial
abbrev pub refusal_of : GenFault → Refusal
refusal_of G.NoSerial = F.Bad
refusal_of _ = F.Memory

-- one more lives by the next serial; or there is none, or no memory, and all is as it was
abbrev pub Enters : Making → (owner len : ℕ) → (old : Held) → Result ℕ Refusal → (new : Held) → Type 0
Enters w owner len old (Ok serial) new =
    (nat_lt (old.variables.serials + 1) (2 ^ 64) ≡ true) × (serial ≡ old.variables.serials + 1)
    × (new ≡ record old { variables = rooted_with serial (record { at = w.place; len = len }) w owner old.variables })
Enters w owner len old (Err F.Bad) new = (nat_lt (old.variables.serials + 1) (2 ^ 64) ≡ false) × (new ≡ old)
Enters w owner len old (Err F.Memory) new = new ≡ old
