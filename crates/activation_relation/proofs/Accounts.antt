-- The account of the two stacks: its sum, and what becomes of it.
use Rattle.std.proofs.Common.{◌≡◌, ◌≢◌, ℕ, zero, suc, ◌+◌, ◌*◌, ◌<◌, ◌≤◌, List, [], ◌∷◌, length, Bool, true, false}
use Rattle.std.proofs.Common.{refl}
use Rattle.std.proofs.Common.{sym, ap, ◌∙◌, arith}
use Rattle.std.proofs.lemmas.Bool.{eqb-true}
use Rattle.std.proofs.lemmas.Bool.Decides.{nat_tests}
use Rattle.std.specs.Prelude.{cond, ◌==◌, nat_le}
use Rattle.pli_meaning.specs.StorageState.{Living, most_activations, without_owner}
use Rattle.area_keeper.specs.Keeper.{Keeper}
use Rattle.pli_coding.specs.Frames.{MemoryParts}
use Rattle.pli_coding.specs.Images.{first_frame_bytes}
use Rattle.storage_relation.proofs.Holders.{eqb-refl, eqb-other}
use Rattle.activation_relation.specs.Account.{bytes_taken, owned_bytes, automatic_bytes, ArePaid, HasRoom}
use Rattle.activation_relation.specs.Frames.{upper_top, lower_end}
use Rattle.activation_relation.specs.Layers.{Layer}

-- ---- data by their owners

-- what the activations up to a height own
owned_up_to : Keeper → (height : ℕ) → List Living → ℕ
owned_up_to k zero ls = 0
owned_up_to k (suc n) ls = owned_bytes k (suc n) ls + owned_up_to k n ls

-- one variable counts once at most, by its owner
one_owner :
    (k : Keeper) (l : Living) (ls : List Living) (n : ℕ) →
    owned_up_to k n (l ∷ ls)
    ≤ (cond (nat_le l.owner n) (cond (l.owner == 0) 0 (bytes_taken k l)) 0) + owned_up_to k n ls
unfolding owned_up_to
one_owner k l ls zero = omega arith
one_owner k l ls (suc n) =
    by (l.owner == suc n) (nat_le l.owner n) (nat_le l.owner (suc n)) (l.owner == 0) (own l.owner) (one_owner k l ls n)
  where
    -- how its owner stands to the heights
    own :
        (o : ℕ) → ((o == suc n) ≡ true → (nat_le o n ≡ false) × ((nat_le o (suc n) ≡ true) × ((o == 0) ≡ false)))
        × ((o == suc n) ≡ false → nat_le o (suc n) ≡ nat_le o n)
    own o = (λ e. grind (arith, nat_tests, e), λ e. grind (arith, nat_tests, e))

    by :
        (q r u z : Bool) → ((q ≡ true → (r ≡ false) × ((u ≡ true) × (z ≡ false))) × (q ≡ false → u ≡ r)) →
        owned_up_to k n (l ∷ ls) ≤ (cond r (cond z 0 (bytes_taken k l)) 0) + owned_up_to k n ls →
        cond q (bytes_taken k l + owned_bytes k (suc n) ls) (owned_bytes k (suc n) ls) + owned_up_to k n (l ∷ ls)
        ≤ (cond u (cond z 0 (bytes_taken k l)) 0) + (owned_bytes k (suc n) ls + owned_up_to k n ls)
    by true true u z is rest = absurd (cc ((is.0 refl).0))
    by true false false z is rest = absurd (cc ((is.0 refl).1.0))
    by true false true true is rest = absurd (cc ((is.0 refl).1.1))
    by true false true false is rest = omega (arith, rest)
    by false true true true is rest = omega (arith, rest)
    by false true true false is rest = omega (arith, rest)
    by false false false z is rest = omega (arith, rest)
    by false true false z is rest = absurd (cc (is.1 refl))
    by false false true z is rest = absurd (cc (is.1 refl))

none_owned : (k : Keeper) (n : ℕ) → owned_up_to k n [] ≤ 0
unfolding owned_up_to
none_owned k zero = omega arith
none_owned k (suc n) = let r = none_owned k n in omega (arith, r)

owned_few : (k : Keeper) (n : ℕ) (ls : List Living) → owned_up_to k n ls ≤ automatic_bytes k ls
owned_few k n [] = none_owned k n
owned_few k n (l ∷ ls) = by (nat_le l.owner n) (l.owner == 0) (one_owner k l ls n) (owned_few k n ls)
  where
    by :
        (r z : Bool) → owned_up_to k n (l ∷ ls) ≤ (cond r (cond z 0 (bytes_taken k l)) 0) + owned_up_to k n ls →
        owned_up_to k n ls ≤ automatic_bytes k ls →
        owned_up_to k n (l ∷ ls) ≤ cond z (automatic_bytes k ls) (bytes_taken k l + automatic_bytes k ls)
    by true true one rest = omega (arith, one, rest)
    by true false one rest = omega (arith, one, rest)
    by false true one rest = omega (arith, one, rest)
    by false false one rest = omega (arith, one, rest)

-- ---- the sum

sum_paid :
    (k : Keeper) (parts : MemoryParts) (most : ℕ) (living : List Living) (φs : List Layer) →
    ArePaid k parts most living φs →
    upper_top parts φs + parts.stack_end
    ≤ parts.stack_start + first_frame_bytes
    + (lower_end parts φs + (length φs * most + owned_up_to k (length φs) living))
unfolding owned_up_to
sum_paid k parts most living [] paid = omega arith
sum_paid k parts most living (φ ∷ φs) paid =
    let one = paid.0 in
    let rest = sum_paid k parts most living φs paid.1 in
    let many : suc (length φs) * most ≡ most + length φs * most = grind arith in
    omega (arith, one, rest, many)

pub paid_taken :
    (k : Keeper) (parts : MemoryParts) (most : ℕ) (living : List Living) (φs : List Layer) →
    ArePaid k parts most living φs →
    upper_top parts φs + parts.stack_end
    ≤ parts.stack_start + first_frame_bytes
    + (lower_end parts φs + (length φs * most + automatic_bytes k living))
paid_taken k parts most living φs paid =
    let sum = sum_paid k parts most living φs paid in
    let few = owned_few k (length φs) living in
    omega (arith, sum, few)

pub paid_fits :
    (k : Keeper) (parts : MemoryParts) (most data_bytes more : ℕ) (living : List Living) (φs : List Layer) →
    ArePaid k parts most living φs → HasRoom parts most data_bytes → length φs < most_activations →
    automatic_bytes k living + more ≤ data_bytes →
    upper_top parts φs + (most + more) ≤ lower_end parts φs
paid_fits k parts most data_bytes more living φs paid room few allowed =
    let all = paid_taken k parts most living φs paid in
    let n = length φs in
    let less : suc n * most ≤ most_activations * most = mul-le-right n few in
    let one : suc n * most ≡ most + n * most = grind arith in
    omega (arith, all, room, allowed, less, one)
  where
    mul-le-right : (n : ℕ) → n < most_activations → suc n * most ≤ most_activations * most
    mul-le-right n h = grind (arith, h)

-- ---- changes

pub paid_made :
    (k : Keeper) (parts : MemoryParts) (most : ℕ) (living : List Living) (l : Living) (φ : Layer)
    (φs : List Layer) (upper lower : ℕ) → ArePaid k parts most living (φ ∷ φs) → l.owner ≡ suc (length φs) →
    upper + φ.lower ≤ φ.top + (lower + bytes_taken k l) →
    ArePaid k parts most (l ∷ living) (record φ { top = upper; lower = lower } ∷ φs)
paid_made k parts most living l φ φs upper lower paid owner grows = (
  let one = paid.0 in
      let own : owned_bytes k (suc (length φs)) (l ∷ living)
      ≡ bytes_taken k l + owned_bytes k (suc (length φs)) living =
      ap (λ o. cond (o == suc (length φs)) (bytes_taken k l + owned_bytes k (suc (length φs)) living)
      (owned_bytes k (suc (length φs)) living)) owner
      ∙ ap (λ q. cond q (bytes_taken k l + owned_bytes k (suc (length φs)) living)
      (owned_bytes k (suc (length φs)) living)) (eqb-refl (suc (length φs))) in
      omega (arith, one, own, grows),
  others φs (omega arith) paid.1,
)
  where
    others :
        (ψs : List Layer) → length ψs ≤ length φs → ArePaid k parts most living ψs →
        ArePaid k parts most (l ∷ living) ψs
    others [] few h = tt
    others (ψ ∷ ψs) few h = (
      let one = h.0 in
          let other : (l.owner == suc (length ψs)) ≡ false =
          eqb-other l.owner (suc (length ψs)) (omega (arith, owner, few)) in
          let same : owned_bytes k (suc (length ψs)) (l ∷ living) ≡ owned_bytes k (suc (length ψs)) living =
          ap (λ q. cond q (bytes_taken k l + owned_bytes k (suc (length ψs)) living)
          (owned_bytes k (suc (length ψs)) living)) other in
          omega (arith, one, same),
      others ψs (omega (arith, few)) h.1,
    )

-- what others own stays
owned_still :
    (k : Keeper) (height owner : ℕ) (ls : List Living) → owner ≢ height →
    owned_bytes k owner (without_owner height ls) ≡ owned_bytes k owner ls
owned_still k height owner [] ne = refl
owned_still k height owner (l ∷ ls) ne =
    by (l.owner == height) (apart l.owner) (owned_still k height owner ls ne)
  where
    apart : (o : ℕ) → (o == height) ≡ true → (o == owner) ≡ false
    apart o e = let same = eqb-true o height e in eqb-other o owner (λ f. ne (sym f ∙ same))

    by :
        (q : Bool) → (q ≡ true → (l.owner == owner) ≡ false) →
        owned_bytes k owner (without_owner height ls) ≡ owned_bytes k owner ls →
        owned_bytes k owner (cond q (without_owner height ls) (l ∷ without_owner height ls))
        ≡ cond (l.owner == owner) (bytes_taken k l + owned_bytes k owner ls) (owned_bytes k owner ls)
    by true is rest =
        rest
        ∙ sym (ap (λ q. cond q (bytes_taken k l + owned_bytes k owner ls) (owned_bytes k owner ls)) (is refl))
    by false is rest = ap (λ n. cond (l.owner == owner) (bytes_taken k l + n) n) rest

pub paid_ended :
    (k : Keeper) (parts : MemoryParts) (most : ℕ) (living : List Living) (φ : Layer) (φs : List Layer) →
    ArePaid k parts most living (φ ∷ φs) →
    ArePaid k parts most (without_owner (suc (length φs)) living) φs
paid_ended k parts most living φ φs paid = others φs (omega arith) paid.1
  where
    others :
        (ψs : List Layer) → length ψs ≤ length φs → ArePaid k parts most living ψs →
        ArePaid k parts most (without_owner (suc (length φs)) living) ψs
    others [] few h = tt
    others (ψ ∷ ψs) few h = (
      let one = h.0 in
          let same = owned_still k (suc (length φs)) (suc (length ψs)) living (omega (arith, few)) in
          omega (arith, one, same),
      others ψs (omega (arith, few)) h.1,
    )
