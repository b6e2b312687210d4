-- Refusals, the least first.
use Rattle.std.proofs.Common.{◌≡◌, ℕ, suc, ◌<◌, ◌==◌, List, ◌⊎◌, inl, inr, refl, ap, sym, subst, ◌∙◌, arith}
use Rattle.std.specs.Prelude.{if◌then◌else◌}
use Rattle.rv_meaning.specs.declared.image.ImageFault.{ImageFault}
use Rattle.rv_meaning.specs.declared.image.ImageFault.TheVariants as F
use Rattle.rv_meaning.specs.Images.{Keeps, fault_number}

-- the rules of lesser numbers are kept
abbrev pub KeptBelow : ℕ → List ℕ → Type 0
KeptBelow n b = (other : ImageFault) → fault_number other < n → Keeps other b

abbrev fault_of : ℕ → ImageFault
fault_of n =
    if n == 1 then F.Magic
    else if n == 2 then F.Version
    else if n == 3 then F.Length
    else if n == 4 then F.Word
    else if n == 5 then F.Table
    else if n == 6 then F.Entry
    else if n == 7 then F.Trailing
    else F.Memory

fault_back : (f : ImageFault) → fault_of (fault_number f) ≡ f
fault_back F.Magic = refl
fault_back F.Version = refl
fault_back F.Length = refl
fault_back F.Word = refl
fault_back F.Table = refl
fault_back F.Entry = refl
fault_back F.Trailing = refl
fault_back F.Memory = refl

same_fault : (f g : ImageFault) → fault_number f ≡ fault_number g → f ≡ g
same_fault f g e = sym (fault_back f) ∙ ap fault_of e ∙ fault_back g

pub kept_first : (b : List ℕ) → KeptBelow 1 b
kept_first b F.Magic h = absurd (omega arith)
kept_first b F.Version h = absurd (omega arith)
kept_first b F.Length h = absurd (omega arith)
kept_first b F.Word h = absurd (omega arith)
kept_first b F.Table h = absurd (omega arith)
kept_first b F.Entry h = absurd (omega arith)
kept_first b F.Trailing h = absurd (omega arith)
kept_first b F.Memory h = absurd (omega arith)

below_or_at : (m n : ℕ) → m < suc n → (m < n) ⊎ (m ≡ n)
below_or_at m n h = grind arith

-- one rule more
pub kept_more : (b : List ℕ) (f : ImageFault) → KeptBelow (fault_number f) b → Keeps f b → KeptBelow (suc (fault_number f)) b
kept_more b f below here other h =
    elim (below_or_at (fault_number other) (fault_number f) h) [
      | inl lt ↦ below other lt
      | inr e ↦ subst (λ (g : ImageFault). Keeps g b) (sym (same_fault other f e)) here
    ]
