-- Services whose arguments are names, by what the names are.
use Rattle.std.proofs.Common.{◌≡◌, ℕ, ap, ◌∙◌, Option, Some, None, false}
use Rattle.std.specs.Prelude.{◌==◌, option_map, if◌then◌else◌}
use Rattle.pli_meaning.specs.BasicValues.{Name}
use Rattle.pli_serving.specs.Arguments.{AreaArgument, area_if, area_named, area_of_name, name_in}
use Rattle.pli_serving.specs.Finding.{Call}

pub area_unnamed : (c : Call) (at : ℕ) → name_in c at ≡ None → area_named c at ≡ None
area_unnamed c at e = ap (area_of_name c) e

pub area_so : (c : Call) (at : ℕ) (n : Name) → name_in c at ≡ Some n → area_named c at ≡ area_of_name c (Some n)
area_so c at n e = ap (area_of_name c) e

area_if_is : (c : Call) (at : ℕ) (o : Option AreaArgument) → (at == 0) ≡ false → area_named c at ≡ o → area_if c at ≡ option_map (λ a. Some a.serial) o
area_if_is c at o t e = ap (λ t. if t then Some None else option_map (λ a. Some a.serial) (area_named c at)) t ∙ ap (option_map (λ (a : AreaArgument). Some a.serial)) e

pub area_if_none : (c : Call) (at : ℕ) → (at == 0) ≡ false → area_named c at ≡ None → area_if c at ≡ None
area_if_none c at t e = area_if_is c at None t e

pub area_if_so : (c : Call) (at : ℕ) (a : AreaArgument) → (at == 0) ≡ false → area_named c at ≡ Some a → area_if c at ≡ Some (Some a.serial)
area_if_so c at a t e = area_if_is c at (Some a) t e
