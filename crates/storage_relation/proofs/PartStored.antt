-- Services 40 and 41: all stores of a part, as the storage machine has its elements then.
use Rattle.std.proofs.Common.{◌≡◌, ℕ, ℤ, List, Some, sym, ap, subst, arith, refl}
use Rattle.pli_meaning.specs.BasicValues.{Name, BasicValue}
use Rattle.pli_meaning.specs.Contents.{Generation}
use Rattle.pli_meaning.specs.Placing.{with_elements}
use Rattle.pli_meaning.specs.StorageState.{State, generation_at, with_generation}
use Rattle.area_keeper.specs.Keeper.{Keeper}
use Rattle.area_keeper.specs.KeeperLaws.{Keeps}
use Rattle.area_keeper.specs.KeptAreas.{part}
use Rattle.pli_serving.specs.AggregateServices.{stored_in}
use Rattle.pli_serving.specs.Aggregates.{PartFound}
use Rattle.storage_relation.specs.Parts.{found_with, values_after, AreStores, stores_of_part, IsPartOf}
use Rattle.storage_relation.specs.Standing.{size_of, Reads, IsPlain}
use Rattle.storage_relation.specs.Stored.{Places, StoredAs, AreFalling, IsBeside}
use Rattle.storage_relation.proofs.Aggregates.{elements_after}
use Rattle.storage_relation.proofs.Confined.{stored_within, reads_alike, stores_read}
use Rattle.storage_relation.proofs.Named.{named_at}

pub part_stored :
    (k : Keeper) → Keeps k → (π : Places) (s : State) (m : List ℕ) (above : ℕ) (n : Name) (g : Generation)
    (p : PartFound) (w : ℕ → List ℤ → BasicValue) →
    StoredAs k π s m → AreFalling above s.living → generation_at s n ≡ Some g → IsPlain g → IsPartOf k π s m n g p →
    AreStores p (stores_of_part p w) →
    StoredAs k π (with_generation n (with_elements p.part w) s) (stored_in p (stores_of_part p w) m)
part_stored k keeps π s m above n g p w is falling e plain of are =
    let own = named_at k keeps π s m above n g is falling e plain in
    let i = own.inside in
    let sizes : size_of (found_with p g.values) ≡ size_of g = ap size_of of.is in
    let at = of.at in
    let reads : Reads (found_with p g.values) (part p.found.at (size_of (found_with p g.values)) m) =
    subst (λ x. Reads x (part p.found.at (size_of x) m)) (sym of.is)
    (subst (λ a. Reads g (part a (size_of g) m)) (sym at) own.reads)
    in
    let r = stores_read p (stores_of_part p w) g.values m are (omega (arith, i, at, sizes)) reads in
    let new = stored_in p (stores_of_part p w) m in
    let alike : Reads (with_elements p.part w (found_with p g.values))
    (part p.found.at (size_of (found_with p g.values)) new) =
    reads_alike (found_with p (values_after p (stores_of_part p w) g.values))
    (with_elements p.part w (found_with p g.values)).values (part p.found.at (size_of (found_with p g.values)) new) r.0
    (λ leaf js h. sym (elements_after p w (found_with p g.values) leaf js of.given are))
    in
    stored_within k keeps π s m new above n g (with_elements p.part w) is falling e plain (λ y. refl) refl
    (subst (λ a. IsBeside a (size_of g) m new) at (subst (λ z. IsBeside p.found.at z m new) sizes r.1))
    (subst (λ a. Reads (with_elements p.part w g) (part a (size_of g) new)) at
    (subst (λ x. Reads (with_elements p.part w x) (part p.found.at (size_of x) new)) of.is alike))
