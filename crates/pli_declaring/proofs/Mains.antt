-- The rule of the main procedure, procedure by procedure.
use Rattle.std.proofs.Common.{◌≡◌, true, false, List, [], ◌∷◌, ◌++◌, Option, Some, None, refl, ap}
use Rattle.std.specs.List.{flat_map}
use Rattle.pli_language.specs.declared.fault.SourceKind.TheVariants.{NoMain}
use Rattle.pli_language.specs.declared.stmt.Items as J
use Rattle.pli_language.specs.Tree.{Item, Procedure, Declare, Statement, EndLabels, Items, ItemThen, ProcedureHead}
use Rattle.pli_language.specs.View.{item_of, items_of}
use Rattle.pli_language.specs.Refusals.{fault}
use Rattle.pli_language.specs.Declaring.{at_first, outer_procedures, main_faults}
use Rattle.pli_language.proofs.Least.{soonest-append}
use Rattle.pli_declaring.specs.Mains.{procedure_in, of_procedure, main_left}
use Rattle.pli_declaring.proofs.Faults.{soonest_none}

abbrev pub behind : Option ProcedureHead → List ProcedureHead → List ProcedureHead
behind None heads = heads
behind (Some head) heads = head ∷ heads

outer_on : (i : Item) (is : Items) → outer_procedures (ItemThen i is) ≡ behind (procedure_in i) (outer_procedures is)
outer_on (Procedure head body) is = refl
outer_on (Declare items place) is = refl
outer_on (Statement labels s) is = refl
outer_on (EndLabels labels place) is = refl

pub outer-End : outer_procedures (items_of J.End) ≡ []
unfolding items_of
outer-End = refl

pub outer-More : (a : _) (i : _) (b : _) (r : _) → outer_procedures (items_of (J.More' a i b r)) ≡ behind (procedure_in (item_of i)) (outer_procedures (items_of r))
unfolding items_of
outer-More a i b r = outer_on (item_of i) (items_of r)

all_seen : (heads : List ProcedureHead) → flat_map (λ h. at_first h.labels (λ p. fault p NoMain ∷ [])) heads ≡ main_left true heads
all_seen [] = refl
all_seen (h ∷ hs) = ap (λ u. of_procedure true h ++ u) (all_seen hs)

pub main_left_is : (heads : List ProcedureHead) → main_faults heads ≡ main_left false heads
main_left_is [] = refl
main_left_is (h ∷ hs) = ap (λ u. of_procedure false h ++ u) (all_seen hs)

pub ruleset mains = (outer-End, outer-More, main_left_is, soonest-append, soonest_none)
