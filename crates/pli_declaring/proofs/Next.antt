-- What is said of the variable declared next.
use Rattle.std.proofs.Common.{◌≡◌, Bool, false, List, [], ◌∷◌, refl}
use Rattle.std.specs.Option.{option_map_or}
use Rattle.std.specs.Prelude.{not}
use Rattle.pli_language.specs.Declarations.{Held, What, Variable', Label, ProcedureName, Declaration}
use Rattle.pli_language.specs.Declaring.{held_is, has_members, goes_on, is_deeper, stands_alone, next_is}
use Rattle.pli_declaring.specs.Next.{variable_in, next_in}

pub held_by : (test : Held → Bool) (w : What) → held_is test w ≡ option_map_or test (variable_in w) false
held_by test (Variable' h) = refl
held_by test Label = refl
held_by test (ProcedureName head) = refl

next_by : (test : Held → Bool) (ds : List Declaration) → next_is test ds ≡ option_map_or test (next_in ds) false
next_by test [] = refl
next_by test (d ∷ ds) = held_by test d.what

pub members_by : (h : Held) (ds : List Declaration) → has_members h ds ≡ option_map_or (is_deeper h) (next_in ds) false
members_by h ds = next_by (is_deeper h) ds

pub goes_on_by : (ds : List Declaration) → goes_on ds ≡ option_map_or (λ b. not (stands_alone b)) (next_in ds) false
goes_on_by ds = next_by (λ b. not (stands_alone b)) ds
