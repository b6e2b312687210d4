-- What lives by its serial: the serials given so far, and the roots that live, from the oldest on.
use Rattle.std.specs.Prelude.{◌≡◌, ℕ, ◌+◌, ◌-◌, ◌^◌, ◌<◌, ◌≤◌, ◌==◌, nat_le, Bool, not, List, [], ◌∷◌, ◌++◌, filter, map, reverse, Option, Some, None, option_map, Result, Ok, Err, if◌then◌else◌}
use Rattle.std.specs.Map.{lookup}
use Rattle.pli_serving.specs.ServiceState.{Living}
use Rattle.controlled_gens.specs.declared.fault.GenFault.{GenFault}
use Rattle.controlled_gens.specs.declared.fault.GenFault.TheVariants.{Dead, NoSerial, Memory}
use Rattle.controlled_gens.specs.declared.roots.Place.{Place}
use Rattle.controlled_gens.specs.declared.roots.Root.{Root}

pub record Rooted : Type 0 where
  pub serials : ℕ
  pub roots : List (ℕ × Root)

abbrev pub none_rooted : Rooted
none_rooted = record { serials = 0; roots = [] }

abbrev pub root_with : Place → (signature owner : ℕ) → Root
root_with place signature owner = record { owner = owner; signature = signature; place = place }

-- the root of a serial
abbrev pub root_of : List (ℕ × Root) → (serial : ℕ) → Option Root
root_of roots serial = lookup (λ other. serial == other) roots

-- ---- what calls do

-- a root lives by the next serial; where it doesn't, all were given, or memory ran out
abbrev pub IsEntered : (old new : Rooted) → Root → Result ℕ GenFault → Type 0
IsEntered old new root (Ok serial) =
    (serial < 2 ^ 64) × (serial ≡ old.serials + 1)
    × (new ≡ record { serials = serial; roots = old.roots ++ (serial, root) ∷ [] })
IsEntered old new root (Err fault) =
    (fault ≡ (if old.serials == 2 ^ 64 - 1 then NoSerial else Memory)) × (new ≡ old)

abbrev pub without_serial : (serial : ℕ) → Rooted → Rooted
without_serial serial r = record r { roots = filter (λ e. not (serial == e.0)) r.roots }

-- only what ends with an owner up to this one
abbrev pub up_to_owner : (owner : ℕ) → Rooted → Rooted
up_to_owner owner r = record r { roots = filter (λ e. nat_le e.1.owner owner) r.roots }

abbrev pub place_of_signature : (signature : ℕ) → Option Root → Result Place GenFault
place_of_signature signature None = Err Dead
place_of_signature signature (Some r) = if r.signature == signature then Ok r.place else Err Dead

-- ---- as the services see it

abbrev pub living : ℕ × Root → Living
living e = record { serial = e.0; owner = e.1.owner; signature = e.1.signature; at = e.1.place.at }

-- the newest first
abbrev pub livings : List (ℕ × Root) → List Living
livings roots = map living (reverse roots)

-- ---- what holds of all roots

-- serials rise, from one behind a least one up to those that were given
abbrev pub Rise : (least : ℕ) → List (ℕ × Root) → (serials : ℕ) → Type 0
Rise least [] serials = least ≤ serials
Rise least (e ∷ es) serials = (least < e.0) × Rise e.0 es serials
