-- Service 7: AUTOMATIC and STATIC variables and copies of arguments are made.
use Rattle.std.specs.Prelude.{ℕ, ◌+◌, ◌^◌, pos, Bool, false, ◌&&◌, ◌||◌, ◌==◌, nat_lt, List, [], ◌∷◌, Option, Some, None, if◌then◌else◌}
use Rattle.pli_meaning.specs.declared.outcome.End.TheVariants as E
use Rattle.pli_meaning.specs.declared.outcome.Limit.TheVariants as L
use Rattle.pli_meaning.specs.BasicValues.{VariableName}
use Rattle.pli_meaning.specs.Contents.{Shape, Generation, footprint_of, fresh}
use Rattle.pli_meaning.specs.StorageState.{most_automatic}
use Rattle.pli_serving.specs.Bytes.{is_data, bytes_at, with_bytes, name_size, name_bytes}
use Rattle.pli_types.specs.Templates.{Template}
use Rattle.pli_serving.specs.Templates.{shape_at}
use Rattle.pli_serving.specs.Values.{generation_bytes}
use Rattle.pli_serving.specs.ServiceState.{Services, Living, height}
use Rattle.pli_serving.specs.Answers.{Answer, Done}
use Rattle.pli_serving.specs.Finding.{Call}
use Rattle.pli_serving.specs.Arguments.{capacity_of, data_bytes, shape_of_number}
use Rattle.pli_serving.specs.Outcomes.{or_bad, bad_unless}
use Rattle.pli_serving.specs.InitialValues.{initial_values}
use Rattle.pli_serving.specs.ActsAndEnds.{run_ended}

-- the height of the activation with which it ends, for class 0 AUTOMATIC and 2 copy the newest; 0 for class 1 STATIC
abbrev pub owner_of : (class height : ℕ) → Option ℕ
owner_of class height =
    if class == 1 then Some 0
    else (if (class == 0 || class == 2) && nat_lt 0 height then Some height else None)

-- ---- the limit

abbrev pub footprint_of_shape : Option Shape → ℕ
footprint_of_shape None = 0
footprint_of_shape (Some s) = footprint_of (fresh s (pos 0) [])

-- what lives with an owner counts for as much as it would take in an area
abbrev pub automatic_in_use : List Template → List Living → ℕ
automatic_in_use templates [] = 0
automatic_in_use templates (l ∷ ls) =
    if l.owner == 0 then automatic_in_use templates ls
    else footprint_of_shape (shape_at templates l.signature) + automatic_in_use templates ls

abbrev pub passes_limit : Services → (owner : ℕ) → Generation → Bool
passes_limit v owner g =
    if owner == 0 then false
    else nat_lt most_automatic (automatic_in_use v.signatures v.living + footprint_of g)

-- ---- the service

-- an area is made empty, other data is the generation's
abbrev pub bytes_made : Call → (place : ℕ) → Generation → (capacity : Option ℕ) → List ℕ
bytes_made c place g None = generation_bytes g
bytes_made c place g (Some capacity) = c.keeper.made capacity (bytes_at (c.keeper.bytes_for capacity) place c.memory)

abbrev pub with_living : Living → Services → Services
with_living l v = record v { serials = l.serial; living = l ∷ v.living }

-- the data is written, then the name
abbrev pub variable_made : Call → (name signature place owner serial : ℕ) → Generation → Answer
variable_made c name signature place owner serial g =
    bad_unless
    (nat_lt serial (2 ^ 64) && (is_data c.layout place (data_bytes c.keeper g.shape) && is_data c.layout name name_size))
    (Done
    (with_living (record { serial = serial; owner = owner; signature = signature; at = place }) c.services)
    (with_bytes (name_bytes (VariableName serial)) name (with_bytes (bytes_made c place g (capacity_of g.shape)) place c.memory))
    name
    signature)

-- one that passes the limit ends the run, whatever the places
abbrev pub limited : Call → (name signature place owner : ℕ) → Generation → Answer
limited c name signature place owner g =
    if passes_limit c.services owner g then run_ended (E.Limit L.Automatic) c.services
    else variable_made c name signature place owner (c.services.serials + 1) g

-- a new serial and generation, with defaults and INITIAL values
abbrev pub make_served : Call → (name signature initial place class : ℕ) → Answer
make_served c name signature initial place class =
    or_bad (owner_of class (height c.services)) (λ owner.
    or_bad (shape_of_number c signature) (λ s.
    or_bad (initial_values c s.signature.leaves initial) (λ values.
    limited c name signature place owner (fresh s (pos 0) values))))
