-- The name behind END, label by label.
use Rattle.std.proofs.Common.{◌≡◌, List, [], ◌∷◌, true, false, refl, ap}
use Rattle.std.specs.Prelude.{◌||◌, if◌then◌else◌}
use Rattle.std.specs.List.{list_any}
use Rattle.pli_language.specs.declared.fault.SourceKind.TheVariants.{EndName}
use Rattle.pli_language.specs.Keywords.{same_bytes}
use Rattle.pli_language.specs.Marks.{fault_at}
use Rattle.pli_language.specs.Tree.{Name}
use Rattle.pli_nest.specs.Steps.{end_fault, is_among}

pub among_none : (n : Name) → is_among n [] ≡ false
unfolding is_among
among_none n = refl

pub among_here : (n l : Name) (ls : List Name) → same_bytes l.letters n.letters ≡ true → is_among n (l ∷ ls) ≡ true
unfolding is_among
among_here n l ls e = ap (λ b. b || is_among n ls) e

pub among_behind : (n l : Name) (ls : List Name) → same_bytes l.letters n.letters ≡ false → is_among n (l ∷ ls) ≡ is_among n ls
unfolding is_among
among_behind n l ls e = ap (λ b. b || is_among n ls) e

among_any : (n : Name) (ls : List Name) → list_any (λ l. same_bytes l.letters n.letters) ls ≡ is_among n ls
unfolding is_among
among_any n [] = refl
among_any n (l ∷ ls) = ap (λ b. same_bytes l.letters n.letters || b) (among_any n ls)

pub end_fault_among : (n : Name) (ls : List Name) → end_fault n ls ≡ (if is_among n ls then [] else fault_at n.place EndName ∷ [])
end_fault_among n ls = ap (λ b. if b then [] else fault_at n.place EndName ∷ []) (among_any n ls)
