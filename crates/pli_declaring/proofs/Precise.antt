-- Precisions, attribute by attribute.
use Rattle.std.proofs.Common.{◌≡◌, ℕ, suc, arith, Bool, true, false, List, [], ◌∷◌, length, Option, Some, None, refl, sym, ap, ◌∙◌}
use Rattle.std.specs.Prelude.{◌||◌, ◌==◌, nat_lt}
use Rattle.std.specs.List.{list_any}
use Rattle.std.proofs.lemmas.Bool.Decides.{nat_tests}
use Rattle.pli_language.specs.Tree.{Attribute, Fixed, Binary, Character, Varying, BitOne, Pointer, Offset, Area, Automatic, Static, Controlled, Based, Initial, Builtin, Aligned, Unaligned, Internal}
use Rattle.pli_language.specs.Declaring.{precisions_in, most_digits}
use Rattle.pli_declaring.specs.Precisions.{written_in, precisions_clash}

abbrev pub before : Option ℕ → List ℕ → List ℕ
before None ps = ps
before (Some p) ps = p ∷ ps

-- the precisions of an attribute and of those behind it
pub precisions_on : (a : Attribute) (all : List Attribute) → precisions_in (a ∷ all) ≡ before (written_in a) (precisions_in all)
precisions_on (Fixed None) all = refl
precisions_on (Fixed (Some p)) all = refl
precisions_on (Binary None) all = refl
precisions_on (Binary (Some p)) all = refl
precisions_on (Character s) all = refl
precisions_on Varying all = refl
precisions_on BitOne all = refl
precisions_on Pointer all = refl
precisions_on (Offset o) all = refl
precisions_on (Area s) all = refl
precisions_on Automatic all = refl
precisions_on Static all = refl
precisions_on Controlled all = refl
precisions_on (Based l) all = refl
precisions_on (Initial is) all = refl
precisions_on Builtin all = refl
precisions_on Aligned all = refl
precisions_on Unaligned all = refl
precisions_on Internal all = refl

abbrev bad : ℕ → Bool
bad p = (p == 0) || nat_lt most_digits p

or_true : (b : Bool) → (b || true) ≡ true
or_true true = refl
or_true false = refl

many : (n : ℕ) → nat_lt 1 (suc (suc n)) ≡ true
many n = grind (arith, nat_tests)

-- the test of the definition, in one walk
pub precisions_clash_is : (ps : List ℕ) → (nat_lt 1 (length ps) || list_any bad ps) ≡ precisions_clash false ps
precisions_clash_is [] = refl
precisions_clash_is (p ∷ []) = refl
precisions_clash_is (p ∷ q ∷ ps) = ap (λ t. t || list_any bad (p ∷ q ∷ ps)) (many (length ps)) ∙ sym (or_true ((p == 0) || nat_lt most_digits p))
