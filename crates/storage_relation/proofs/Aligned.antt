-- Elements stand where the machine can load and store words, and behind the code.
use Rattle.std.proofs.Common.{◌≡◌, ℕ, zero, suc, ◌+◌, ◌*◌, ◌/◌, ◌%◌, ◌≤◌, ℤ, List, [], ◌∷◌, Some, refl, sym, ap, subst}
use Rattle.std.proofs.Common.{arith}
use Rattle.pli_typing.specs.Signatures.{Leaf, element_count, leaf_bytes, leaf_size}
use Rattle.pli_meaning.specs.BasicValues.{Name, NullName, VariableName, BasedName}
use Rattle.pli_meaning.specs.Contents.{Generation, element_place}
use Rattle.pli_meaning.specs.StorageState.{State, area_at, generation_at}
use Rattle.area_keeper.specs.Keeper.{Keeper}
use Rattle.area_keeper.specs.KeeperLaws.{Keeps}
use Rattle.pli_serving.specs.Values.{leaf_place}
use Rattle.storage_relation.proofs.Named.{area_holder, alone_holder, based_in, data_within}
use Rattle.storage_relation.specs.Standing.{place_in, leaves_of, leaf_in, IsPlain, Alone, AreaOf}
use Rattle.storage_relation.specs.Stored.{Places, StoredAs, place_held, place_of, AreFalling}

abbrev pub IsPlace : Places → ℕ → Type 0
IsPlace π at = (π.low ≤ at) × (at % 4 ≡ 0)

pub named_placed :
    (k : Keeper) → Keeps k → (π : Places) (s : State) (m : List ℕ) (above : ℕ) (n : Name) (g : Generation) →
    StoredAs k π s m → AreFalling above s.living →
    generation_at s n ≡ Some g → IsPlain g → IsPlace π (place_of k π s m n)
named_placed k keeps π s m above NullName g is falling e plain = absurd (cc e)
named_placed k keeps π s m above (VariableName n) g is falling e plain =
    is.placed n (Alone g) (alone_holder s above n g falling e plain)
named_placed k keeps π s m above (BasedName n o) g is falling e plain =
    let b = based_in (area_at s n) o g e in
    let h = area_holder s n b.0 b.1 in
    let d = (data_within k keeps π s m n o b.0 g is h b.2).1 in
    let a = is.placed n (AreaOf b.0) h in
    let low = a.0 in
    let four = a.1 in
    subst (IsPlace π) (sym (ap (place_held k π m n o) h)) (omega (arith, low), omega (arith, four, d))

size_aligned : (n x : ℕ) → n / 4 * 4 * x % 4 ≡ 0
size_aligned n x = let e : n / 4 * 4 * x ≡ 4 * (n / 4 * x) = grind arith in omega (arith, e)

leaf_aligned : (l : Leaf) → leaf_size l % 4 ≡ 0
leaf_aligned l = size_aligned (leaf_bytes l.kind + 3) (element_count l.bounds)

place_aligned : (ls : List Leaf) (leaf : ℕ) → leaf_place ls leaf % 4 ≡ 0
place_aligned ls zero = refl
place_aligned [] (suc leaf) = refl
place_aligned (l ∷ ls) (suc leaf) = let a = leaf_aligned l in let b = place_aligned ls leaf in omega (arith, a, b)

pub element_aligned : (g : Generation) (leaf : ℕ) (is : List ℤ) → place_in g leaf is % 4 ≡ 0
element_aligned g leaf is =
    let a = place_aligned (leaves_of g) leaf in
    let b = size_aligned (leaf_bytes (leaf_in g leaf).kind + 3) (element_place (leaf_in g leaf).bounds is) in
    omega (arith, a, b)
