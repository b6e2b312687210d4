-- The newest generation of a CONTROLLED variable, as it ends.
use Rattle.std.specs.Prelude.{ℕ, ◌-◌, List, length, take, Option, Some, None, Result, Ok, Err}
use Rattle.area_keeper.specs.Keeper.{Keeper}
use Rattle.controlled_gens.specs.declared.controlled.Generation.{Generation}
use Rattle.controlled_gens.specs.declared.fault.GenFault.{GenFault}
use Rattle.controlled_gens.specs.declared.fault.GenFault.TheVariants.{NoGeneration}
use Rattle.controlled_gens.specs.Stacks.{freed_newest, generations_of, newest, with_generations}
use Rattle.pli_storage.specs.Areas.{bytes_of}
use Rattle.pli_storage.specs.declared.held.AreaPlace.{AreaPlace}

-- an area's bytes without the newest generation of a variable, none where there is none or the area lacks it
abbrev pub freed_of : Keeper → AreaPlace → (variable : ℕ) → List (List Generation) → (memory : List ℕ) → Option (List ℕ)
freed_of k place variable stacks m = freed_newest k (bytes_of k place m) (newest (generations_of stacks variable))

-- those below the newest
abbrev pub below_newest : List Generation → List Generation
below_newest gens = take (length gens - 1) gens

-- the stacks afterwards, the old ones where nothing was freed
abbrev pub stacks_popped : (variable : ℕ) → List (List Generation) → Option (List ℕ) → List (List Generation)
stacks_popped variable stacks None = stacks
stacks_popped variable stacks (Some freed) = with_generations variable (below_newest (generations_of stacks variable)) stacks

abbrev pub popped_or : Option (List ℕ) → Result (Unit {0}) GenFault
popped_or None = Err NoGeneration
popped_or (Some freed) = Ok tt
