-- What activations up to a height have of AUTOMATIC storage: what one more holder, an assignment and the end of a block
-- do to it.
use Rattle.std.proofs.Common.{◌≡◌, ℕ, ◌+◌, ◌<◌, List, [], ◌∷◌, Bool, true, false, refl, sym, ap, ◌∙◌, subst, arith}
use Rattle.std.proofs.lemmas.Bool.{eqb-true, lt-ltb, ltb-true}
use Rattle.std.specs.Prelude.{cond, nat_lt, ◌==◌}
use Rattle.pli_meaning.specs.BasicValues.{BasicValue}
use Rattle.pli_meaning.specs.Contents.{Generation, footprint_of}
use Rattle.pli_meaning.specs.Evaluating.{Designated}
use Rattle.pli_meaning.specs.Placing.{with_element}
use Rattle.pli_meaning.specs.StorageState.{Living, automatic_in_use, generation_changed, living_changed, without_owner}
use Rattle.storage_relation.specs.Stored.{AreLow}
use Rattle.activation_relation.specs.Remaining.{in_use_up_to}

-- what one holder adds to the rest
abbrev counted : (height owner size rest : ℕ) → ℕ
counted height owner size rest = cond (owner == 0) rest (cond (nat_lt height owner) rest (size + rest))

uncounted : (height owner size rest : ℕ) → height < owner → counted height owner size rest ≡ rest
uncounted height owner size rest less = by (owner == 0)
  where
    by : (q : Bool) → cond q rest (cond (nat_lt height owner) rest (size + rest)) ≡ rest
    by true = refl
    by false = ap (λ q. cond q rest (size + rest)) (lt-ltb height owner less)

pub in_use_made :
    (height : ℕ) (ls : List Living) (l : Living) → height < l.owner →
    in_use_up_to height (l ∷ ls) ≡ in_use_up_to height ls
in_use_made height ls l less = uncounted height l.owner (footprint_of l.generation) (in_use_up_to height ls) less

pub in_use_without :
    (height newest : ℕ) (ls : List Living) → height < newest →
    in_use_up_to height (without_owner newest ls) ≡ in_use_up_to height ls
in_use_without height newest [] less = refl
in_use_without height newest (l ∷ ls) less =
    by (l.owner == newest) refl (in_use_without height newest ls less)
  where
    by :
        (q : Bool) → (l.owner == newest) ≡ q →
        in_use_up_to height (without_owner newest ls) ≡ in_use_up_to height ls →
        in_use_up_to height (cond q (without_owner newest ls) (l ∷ without_owner newest ls))
        ≡ in_use_up_to height (l ∷ ls)
    by true e rest =
        rest
        ∙ sym (in_use_made height ls l (subst (λ n. height < n) (sym (eqb-true l.owner newest e)) less))
    by false e rest = ap (λ n. counted height l.owner (footprint_of l.generation) n) rest

-- a change that leaves what a generation takes
in_use_changed :
    (height serial : ℕ) (change : Generation → Generation) (ls : List Living) →
    ((g : Generation) → footprint_of (change g) ≡ footprint_of g) →
    in_use_up_to height (living_changed serial (generation_changed change) ls) ≡ in_use_up_to height ls
in_use_changed height serial change [] same = refl
in_use_changed height serial change (l ∷ ls) same =
    by (l.serial == serial) (in_use_changed height serial change ls same)
  where
    rest' : List Living
    rest' = living_changed serial (generation_changed change) ls

    by :
        (q : Bool) → in_use_up_to height rest' ≡ in_use_up_to height ls →
        in_use_up_to height (cond q (generation_changed change l ∷ ls) (l ∷ rest')) ≡ in_use_up_to height (l ∷ ls)
    by true rest = ap (λ n. counted height l.owner n (in_use_up_to height ls)) (same l.generation)
    by false rest = ap (λ n. counted height l.owner (footprint_of l.generation) n) rest

pub in_use_assigned :
    (height serial : ℕ) (d : Designated) (v : BasicValue) (ls : List Living) →
    in_use_up_to height (living_changed serial (generation_changed (with_element d v)) ls) ≡ in_use_up_to height ls
in_use_assigned height serial d v ls = in_use_changed height serial (with_element d v) ls (λ g. refl)

-- where none has an owner above a height, that is all
pub in_use_all : (most : ℕ) (ls : List Living) → AreLow most ls → automatic_in_use ls ≡ in_use_up_to most ls
in_use_all most [] low = refl
in_use_all most (l ∷ ls) low = by (nat_lt most l.owner) refl (in_use_all most ls low.1)
  where
    size : ℕ
    size = footprint_of l.generation

    by :
        (q : Bool) → nat_lt most l.owner ≡ q → automatic_in_use ls ≡ in_use_up_to most ls →
        cond (l.owner == 0) (automatic_in_use ls) (size + automatic_in_use ls)
        ≡ cond (l.owner == 0) (in_use_up_to most ls) (cond q (in_use_up_to most ls) (size + in_use_up_to most ls))
    by true e rest =
        let few = low.0 in
        let more = ltb-true most l.owner e in
        absurd (omega (arith, few, more))
    by false e rest = ap (λ n. cond (l.owner == 0) n (size + n)) rest
