-- The labels of a list that is placed stand where its statements do.
use Rattle.std.proofs.Common.{◌≡◌, ℕ, ◌+◌, ◌*◌, ◌⊎◌, List, [], ◌∷◌, ◌++◌, true, inl, inr}
use Rattle.std.proofs.Common.{sym, ◌∙◌, subst, arith}
use Rattle.std.proofs.lemmas.Bool.{or_cases}
use Rattle.std.proofs.lemmas.List.Folds.{list_any-append}
use Rattle.rv_meaning.specs.declared.instr.Instr.{Instr}
use Rattle.pli_language.specs.Keywords.{same_bytes}
use Rattle.pli_typing.specs.TypedTree as Y
use Rattle.pli_meaning.specs.Control.{Label, is_among}
use Rattle.pli_meaning.specs.Executing.{labels_in}
use Rattle.pli_coding.specs.Assembly.{LabelPlace, size_of}
use Rattle.pli_coding.specs.Environments.{Environment, Taken, none_taken}
use Rattle.pli_coding.specs.Linking.{Links, marked_place}
use Rattle.pli_coding.specs.Statements.{marked, stmt_code, stmts_code}
use Rattle.code_marks.proofs.DataOnce.{same_bytes-equal}
use Rattle.program_runs.specs.Statements.{AreMarked, AreMarkedWith, StandAt, set_aside}
use Rattle.program_places.specs.Laws.{IsLabel}
use Rattle.program_places.specs.Placed.{MarksStand, Placed}
use Rattle.program_places.proofs.Marks.{placed_back, placed_front}

label_by :
    (links : Links) (block i : ℕ) (label l : Label) (ls : List Label) →
    marked_place (LabelPlace block l) links.marks ≡ 4 * i → StandAt links block ls i →
    (same_bytes label l ≡ true) ⊎ (is_among label ls ≡ true) → marked_place (LabelPlace block label) links.marks ≡ 4 * i
label_by links block i label l ls here rest (inl same) =
    subst (λ u. marked_place (LabelPlace block u) links.marks ≡ 4 * i) (sym (same_bytes-equal label l same)) here
label_by links block i label l ls here rest (inr among) = rest label among

labels_stand :
    (links : Links) (block i : ℕ) (labels : List Label) → MarksStand links i (marked block labels) →
    StandAt links block labels i
labels_stand links block i [] m label among = absurd (cc among)
labels_stand links block i (l ∷ ls) m label among =
    let same : i + 0 ≡ i = omega arith in
    label_by links block i label l ls m.0
    (labels_stand links block i ls (subst (λ n. MarksStand links n (marked block ls)) same m.1))
    (or_cases (same_bytes label l) (is_among label ls) among)

pub marked_with :
    (words : ℕ) (links : Links) (code : List Instr) (i : ℕ) (e : Environment) (body : Y.Stmts) →
    Placed links code i (stmts_code e (set_aside words) body) → AreMarkedWith words links e body i
marked_with words links code i e (Y.EndOfList own) p = labels_stand links e.block i own p.marks
marked_with words links code i e (Y.StmtThen own first rest) p =
    let labels = marked e.block own in
    let one = stmt_code e (set_aside words) first in
    let more = stmts_code e (set_aside words) rest in (
      labels_stand links e.block i own (placed_front labels (one ++ more) p).marks,
      marked_with words links code (i + size_of labels + size_of one) e rest
          (placed_back one more (placed_back labels (one ++ more) p)),
    )

-- where no words are set aside
pub are_marked :
    (links : Links) (code : List Instr) (i : ℕ) (e : Environment) (body : Y.Stmts) →
    Placed links code i (stmts_code e none_taken body) → AreMarked links e body i
are_marked links code i e body p = marked_with 0 links code i e body p

-- ---- one label

own_label :
    {links : Links} {code : List Instr} {i : ℕ} (block : ℕ) (own : List Label) (label : Label) →
    Placed links code i (marked block own) → is_among label own ≡ true → IsLabel links block label
own_label {links} {code} {i} block own label p among =
    let inside = p.linked.inside in
    let small' = p.linked.small' in
    record {
      at = i;
      place = labels_stand links block i own p.marks label among;
      near = omega (arith, inside, small');
    }

either_label :
    {P : Type 0} (own rest : List Label) (label : Label) → (is_among label own ≡ true → P) →
    (is_among label rest ≡ true → P) → is_among label (own ++ rest) ≡ true → P
either_label {P} own rest label here behind among =
    by (or_cases (is_among label own) (is_among label rest)
    (sym (list_any-append (same_bytes label) own rest) ∙ among))
  where
    by : (is_among label own ≡ true) ⊎ (is_among label rest ≡ true) → P
    by (inl h) = here h
    by (inr h) = behind h

pub label_of :
    (links : Links) (code : List Instr) (i : ℕ) (e : Environment) (t : Taken) (body : Y.Stmts) →
    Placed links code i (stmts_code e t body) → (label : Label) → is_among label (labels_in body) ≡ true →
    IsLabel links e.block label
label_of links code i e t (Y.EndOfList own) p label among = own_label e.block own label p among
label_of links code i e t (Y.StmtThen own first rest) p label among =
    let labels = marked e.block own in
    let one = stmt_code e t first in
    let more = stmts_code e t rest in
    either_label own (labels_in rest) label
    (λ h. own_label e.block own label (placed_front labels (one ++ more) p) h)
    (λ h.
    label_of links code (i + size_of labels + size_of one) e t rest
    (placed_back one more (placed_back labels (one ++ more) p)) label h)
    among
