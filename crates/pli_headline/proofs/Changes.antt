-- What lives after a generation is changed.
use Rattle.std.proofs.Common.{◌≡◌, ℕ, List, [], ◌∷◌, Some, Bool, true, false, refl, sym, ap, ◌∙◌}
use Rattle.std.specs.Prelude.{cond, ◌==◌}
use Rattle.std.proofs.lemmas.Bool.{eqb-true}
use Rattle.pli_meaning.specs.Contents.{Generation}
use Rattle.pli_meaning.specs.StorageState.{Living, generation_of, living_of, living_changed, generation_changed}

changed_same_by : (q : Bool) (l : Living) (ls : List Living) (n : ℕ) (change : Generation → Generation) (g : Generation) → (l.serial == n) ≡ q → generation_of (cond q (Some l) (living_of ls n)) ≡ Some g → (generation_of (living_of ls n) ≡ Some g → generation_of (living_of (living_changed n (generation_changed change) ls) n) ≡ Some (change g)) → generation_of (living_of (cond q (generation_changed change l ∷ ls) (l ∷ living_changed n (generation_changed change) ls)) n) ≡ Some (change g)
changed_same_by true l ls n change g e h ih =
    let f : l.generation ≡ g = cc h in
    ap (λ u. generation_of (cond u (Some (generation_changed change l)) (living_of ls n))) e ∙ ap (λ u. Some (change u)) f
changed_same_by false l ls n change g e h ih =
    ap (λ u. generation_of (cond u (Some l) (living_of (living_changed n (generation_changed change) ls) n))) e ∙ ih h

pub changed_same : (ls : List Living) (n : ℕ) (change : Generation → Generation) (g : Generation) → generation_of (living_of ls n) ≡ Some g → generation_of (living_of (living_changed n (generation_changed change) ls) n) ≡ Some (change g)
changed_same [] n change g h = absurd (cc h)
changed_same (l ∷ ls) n change g h = changed_same_by (l.serial == n) l ls n change g refl h (λ u. changed_same ls n change g u)

changed_other_by : (q : Bool) (l : Living) (ls : List Living) (n m : ℕ) (change : Generation → Generation) → (n == m) ≡ false → (l.serial == n) ≡ q → generation_of (living_of (living_changed n (generation_changed change) ls) m) ≡ generation_of (living_of ls m) → generation_of (living_of (cond q (generation_changed change l ∷ ls) (l ∷ living_changed n (generation_changed change) ls)) m) ≡ generation_of (cond (l.serial == m) (Some l) (living_of ls m))
changed_other_by true l ls n m change other e ih =
    let same : l.serial ≡ n = eqb-true l.serial n e in
    let f : (l.serial == m) ≡ false = ap (λ u. u == m) same ∙ other in
    ap (λ u. generation_of (cond u (Some (generation_changed change l)) (living_of ls m))) f ∙ sym (ap (λ u. generation_of (cond u (Some l) (living_of ls m))) f)
changed_other_by false l ls n m change other e ih = by_serial (l.serial == m)
  where
    by_serial : (p : Bool) → generation_of (cond p (Some l) (living_of (living_changed n (generation_changed change) ls) m)) ≡ generation_of (cond p (Some l) (living_of ls m))
    by_serial true = refl
    by_serial false = ih

pub changed_other : (ls : List Living) (n m : ℕ) (change : Generation → Generation) → (n == m) ≡ false → generation_of (living_of (living_changed n (generation_changed change) ls) m) ≡ generation_of (living_of ls m)
changed_other [] n m change other = refl
changed_other (l ∷ ls) n m change other = changed_other_by (l.serial == n) l ls n m change other refl (changed_other ls n m change other)
