-- Labels are read as they are spelled.
use Rattle.std.proofs.Common.{◌≡◌, ℕ, ◌<◌, ◌≤◌, List, [], ◌∷◌, ◌++◌, length, Option, Some, None, refl, sym, ap, ◌∙◌, arith, append_assoc, append-nil}
use Rattle.pli_language.specs.declared.token.Word.{Word}
use Rattle.pli_language.specs.declared.token.Token.{Token}
use Rattle.pli_language.specs.Parsing.{label_of, SpellsLabels, no_label, label}
use Rattle.pli_language.specs.Spells.{name_at}
use Rattle.pli_language.specs.Tree.{Name}
use Rattle.pli_parse.specs.Reading.{labelled, labels_from, label_with, label_front}

-- what was read is labels, and the tokens behind them are no more
pub record LabelsRead (s : List ℕ) (ts : List Token) (x : List Name × List Token) : Type 0 where
  pub spelled : SpellsLabels s ts x.0 x.1
  pub no_longer : length x.1 ≤ length ts

label_read : (s : List ℕ) (t u : Token) (ts : List Token) (o : Option Word) → label_of t.kind u.kind ≡ o → (others : List Name × List Token) → LabelsRead s ts others → LabelsRead s (t ∷ u ∷ ts) (labelled s o t others (t ∷ u ∷ ts))
label_read s t u ts None e others h = record { spelled = no_label (t ∷ u ∷ ts) e; no_longer = omega arith }
label_read s t u ts (Some word) e others h =
    let more = h.no_longer in
    record { spelled = label (t ∷ u ∷ ts) ts others.1 t u word others.0 refl e h.spelled; no_longer = omega (arith, more) }

pub labels_sound : (s : List ℕ) (ts : List Token) → LabelsRead s ts (labels_from s ts)
unfolding labels_from
labels_sound s [] = record { spelled = no_label [] refl; no_longer = omega arith }
labels_sound s (t ∷ []) = record { spelled = no_label (t ∷ []) refl; no_longer = omega arith }
labels_sound s (t ∷ u ∷ ts) = label_read s t u ts (label_of t.kind u.kind) refl (labels_from s ts) (labels_sound s ts)

-- ---- the loop over labels

-- labels before those that are read
abbrev pub after_labels : List Name → List Name × List Token → List Name × List Token
after_labels front x = (front ++ x.0, x.1)

abbrev front_read : List ℕ → Option (Token × Word × List Token) → List Token → List Name × List Token
front_read s None ts = ([], ts)
front_read s (Some x) ts = (name_at s x.0 x.1 ∷ (labels_from s x.2).0, (labels_from s x.2).1)

with_front : (s : List ℕ) (o : Option Word) (t u : Token) (ts : List Token) → labelled s o t (labels_from s ts) (t ∷ u ∷ ts) ≡ front_read s (label_with o t ts) (t ∷ u ∷ ts)
with_front s None t u ts = refl
with_front s (Some word) t u ts = refl

at_front : (s : List ℕ) (ts : List Token) → labels_from s ts ≡ front_read s (label_front ts) ts
unfolding labels_from
at_front s [] = refl
at_front s (t ∷ []) = refl
at_front s (t ∷ u ∷ ts) = with_front s (label_of t.kind u.kind) t u ts

pub labels_on : (s : List ℕ) (front : List Name) (ts us : List Token) (t : Token) (word : Word) → label_front ts ≡ Some (t, word, us) → after_labels (front ++ name_at s t word ∷ []) (labels_from s us) ≡ after_labels front (labels_from s ts)
labels_on s front ts us t word e =
    let at : labels_from s ts ≡ (name_at s t word ∷ (labels_from s us).0, (labels_from s us).1) = at_front s ts ∙ ap (λ o. front_read s o ts) e in
    let joined : (front ++ name_at s t word ∷ []) ++ (labels_from s us).0 ≡ front ++ name_at s t word ∷ (labels_from s us).0 = append_assoc front (name_at s t word ∷ []) (labels_from s us).0 in
    ap (λ ls. (ls, (labels_from s us).1)) joined ∙ ap (after_labels front) (sym at)

pub labels_end : (s : List ℕ) (front : List Name) (ts : List Token) → label_front ts ≡ None → after_labels front (labels_from s ts) ≡ (front, ts)
labels_end s front ts e =
    let at : labels_from s ts ≡ ([], ts) = at_front s ts ∙ ap (λ o. front_read s o ts) e in
    ap (after_labels front) at ∙ ap (λ ls. (ls, ts)) (append-nil front)

label_shorter : (o : Option Word) (t u : Token) (ts : List Token) (x : Token × Word × List Token) → label_with o t ts ≡ Some x → length x.2 < length (t ∷ u ∷ ts)
label_shorter None t u ts x e = absurd (cc e)
label_shorter (Some w) t u ts x e =
    let same : (t, w, ts) ≡ x = cc e in
    omega (arith, ap (λ y. length y.2) same)

pub front_shorter : (ts us : List Token) (t : Token) (word : Word) → label_front ts ≡ Some (t, word, us) → length us < length ts
front_shorter [] us t word e = absurd (cc e)
front_shorter (u ∷ []) us t word e = absurd (cc e)
front_shorter (u ∷ v ∷ ts) us t word e = label_shorter (label_of u.kind v.kind) u v ts (t, word, us) e
