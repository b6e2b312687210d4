-- Where the list of arguments is, with parameters and without.
use Rattle.std.proofs.Common.{◌≡◌, ℕ, List, [], ◌∷◌, ◌++◌, length, refl, sym, ap, ◌∙◌, append_assoc, append-nil, arith}
use Rattle.pli_coding.specs.Assembly.{Code}
use Rattle.pli_coding.specs.Entries.{list_kept}
use Rattle.rv_entry.specs.Pieces.{list_measured, list_placed}

both : (level : ℕ) (ps : List ℕ) → (length ps ≡ 0 → ⊥) → list_placed level ++ list_measured ≡ list_kept level ps
unfolding list_placed list_measured
both level [] h = absurd (h refl)
both level (p ∷ ps) h = refl

pub kept : (level : ℕ) (ps : List ℕ) (code placed after : Code) → (length ps ≡ 0 → ⊥)
    → placed ≡ code ++ list_placed level → after ≡ placed ++ list_measured → after ≡ code ++ list_kept level ps
kept level ps code placed after h a b =
    b
    ∙ ap (λ c. c ++ list_measured) a
    ∙ append_assoc code (list_placed level) list_measured
    ∙ ap (λ c. code ++ c) (both level ps h)

none_of : (level : ℕ) (ps : List ℕ) → length ps ≡ 0 → list_kept level ps ≡ []
none_of level [] h = refl
none_of level (p ∷ ps) h = absurd (omega arith)

pub none_kept : (level : ℕ) (ps : List ℕ) (code : Code) → length ps ≡ 0 → code ≡ code ++ list_kept level ps
none_kept level ps code h = sym (append-nil code) ∙ ap (λ c. code ++ c) (sym (none_of level ps h))
