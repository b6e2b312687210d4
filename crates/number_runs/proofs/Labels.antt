-- Labels of a block's lists: those of a list and of the lists around it stand in the code.
use Rattle.std.proofs.Common.{◌≡◌, ◌⊎◌, ℕ, List, ◌++◌, true, inl, inr, sym, ◌∙◌}
use Rattle.std.proofs.lemmas.Bool.{or_cases, or_right}
use Rattle.std.proofs.lemmas.List.Folds.{list_any-append}
use Rattle.pli_language.specs.Keywords.{same_bytes}
use Rattle.pli_typing.specs.TypedTree as Y
use Rattle.pli_meaning.specs.Control.{Label, is_among}
use Rattle.pli_meaning.specs.Executing.{labels_in}
use Rattle.program_places.specs.Laws.{IsLabel}
use Rattle.program_places.proofs.Labels.{label_of}
use Rattle.program_runs.specs.Statements.{Block, set_aside}
use Rattle.number_runs.specs.Knowledge.{AreAround, ArePlaced, AreStanding, AreStandingWith}

pub labels_placed :
    (words : ℕ) (k : Block) (body : Y.Stmts) (index : ℕ) (labels : List Label) → AreStandingWith words k body index →
    ArePlaced k.call.surroundings.links k.environment.block labels →
    ArePlaced k.call.surroundings.links k.environment.block (labels_in body ++ labels)
labels_placed words k body index labels at placed label among =
    by (or_cases (is_among label (labels_in body)) (is_among label labels)
    (sym (list_any-append (same_bytes label) (labels_in body) labels) ∙ among))
  where
    by :
        (is_among label (labels_in body) ≡ true) ⊎ (is_among label labels ≡ true) →
        IsLabel k.call.surroundings.links k.environment.block label
    by (inl h) = label_of k.call.surroundings.links k.call.code index k.environment (set_aside words) body at label h
    by (inr h) = placed label h

-- where no words are set aside
pub placed_with :
    (k : Block) (body : Y.Stmts) (index : ℕ) (labels : List Label) → AreStanding k body index →
    ArePlaced k.call.surroundings.links k.environment.block labels →
    ArePlaced k.call.surroundings.links k.environment.block (labels_in body ++ labels)
placed_with k body index labels at placed = labels_placed 0 k body index labels at placed

pub among_behind :
    (own labels : List Label) (label : Label) → is_among label labels ≡ true → is_among label (own ++ labels) ≡ true
among_behind own labels label e =
    list_any-append (same_bytes label) own labels ∙ or_right (is_among label own) (is_among label labels) e

pub placed_in :
    (words : ℕ) (k : Block) (own : List Label) (body : Y.Stmts) (index : ℕ) (labels : List Label) →
    AreStandingWith words k body index → AreAround k own labels → AreAround k own (labels_in body ++ labels)
placed_in words k own body index labels at c =
    record {
      at = labels_placed words k body index labels at c.at;
      includes = λ label e. among_behind (labels_in body) labels label (c.includes label e);
    }
