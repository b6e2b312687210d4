-- Options of GET and PUT: what is read is spelled so, and what is spelled is read.
use Rattle.std.proofs.Common.{◌≡◌, ◌≢◌, ℕ, List, Option, Some, None, Bool, true, false, refl, ap, ◌∙◌, arith, Ok}
use Rattle.std.specs.Prelude.{◌||◌}
use Rattle.pli_language.specs.declared.token.Word.TheVariants as W
use Rattle.pli_language.specs.declared.token.Symbol.TheVariants as S
use Rattle.pli_language.specs.declared.token.Kind.TheVariants as K
use Rattle.pli_language.specs.declared.token.Token.{Token}
use Rattle.pli_language.specs.Marks.{Marks}
use Rattle.pli_language.specs.Spells.{Takes, next_kind, place_of}
use Rattle.pli_language.specs.Formats.{SpellsNumberOrOne, Direction, times_marks, skip_marks}
use Rattle.pli_language.specs.Heads as H
use Rattle.pli_language.specs.Heads.{SpellsStreamOptions, file_word}
use Rattle.pli_language.specs.Tree as T
use Rattle.pli_phrase.specs.Cursor.{Cursor}
use Rattle.pli_phrase.specs.Tokens.{taken}
use Rattle.pli_attributes.proofs.Posts.{Post, Never, post_ok, post_stuck, post_bind, post_if, post_weaken}
use Rattle.pli_attributes.proofs.Tokens.{TakenBy, taken_post, not_word, not_begins, begins_word, word_read, takes_next}
use Rattle.pli_attributes.proofs.Lists.{Reads}
use Rattle.pli_attributes.proofs.Enclosed.{EnclosedBy, enclosed, enclosed_post, enclosed_read}
use Rattle.pli_attributes.proofs.Words.{unmarked}
use Rattle.pli_stream.specs.Reading.{file_from, skip_from, late_file_from, options_from}
use Rattle.pli_stream.proofs.Items.{number_or_one_post, number_or_one_complete}

abbrev one_skip : Token → ℕ → T.Skip
one_skip t n = record { number = n; place = place_of t }

-- FILE, where it stands, and SKIP
pub data SpellsFile (d : Direction) : List Token → Bool → List Token → Type 0 where
  no_file : (ts : List Token) → next_kind ts ≢ Some (K.Name W.File) → SpellsFile d ts false ts
  file : (ts after mid behind rest : List Token) (t u v w : Token) → Takes ts (K.Name W.File) t after → Takes after (K.Symbol S.OpenParenthesis) u mid → Takes mid (K.Name (file_word d)) v behind → Takes behind (K.Symbol S.CloseParenthesis) w rest → SpellsFile d ts true rest

pub data SpellsSkip : List Token → Option T.Skip → List Token → Type 0 where
  no_skip : (ts : List Token) → next_kind ts ≢ Some (K.Name W.Skip) → SpellsSkip ts None ts
  skip : (ts after rest : List Token) (t : Token) (n : ℕ) → Takes ts (K.Name W.Skip) t after → SpellsNumberOrOne after n rest → SpellsSkip ts (Some (one_skip t n)) rest

-- FILE behind SKIP, which may stand only where none stood before
pub data SpellsLate (d : Direction) : Bool → List Token → List Token → Type 0 where
  filed : (ts : List Token) → SpellsLate d true ts ts
  late : (ts rest : List Token) (b : Bool) → SpellsFile d ts b rest → SpellsLate d false ts rest

-- ---- what is read is spelled so

file_spelled : (d : Direction) (c : Cursor) (t : Token × Cursor) (x : Token × Cursor) → TakenBy (K.Name W.File) c t → EnclosedBy (λ e. TakenBy (K.Name (file_word d)) e) t.1 x → Reads (SpellsFile d) unmarked c (true, x.1)
file_spelled d c t x k (enclosed u v w o i z) = record {
  spelled = file c.tokens t.1.tokens u.1.tokens v.1.tokens w.1.tokens t.0 u.0 v.0 w.0 k.take o.take i.take z.take;
  marked = z.marked ∙ i.marked ∙ o.marked ∙ k.marked;
  shorter = omega (arith, k.shorter, o.shorter, i.shorter, z.shorter);
}

file_post : (d : Direction) (c : Cursor) → Post (Reads (SpellsFile d) unmarked c) Never (file_from d c)
unfolding file_from
file_post d c =
    post_if _ _ _
    (λ b. post_bind _ _ (taken_post (K.Name W.File) c) (λ t k. post_bind _ _ (enclosed_post (taken (K.Name (file_word d))) t.1 (λ e. taken_post (K.Name (file_word d)) e)) (λ x g. post_ok (file_spelled d c t x k g))))
    (λ b. post_ok (record { spelled = no_file c.tokens (not_word W.File c.tokens b); marked = refl; shorter = omega arith }))

skip_post : (c : Cursor) → Post (Reads (λ ts k rest. SpellsSkip ts k rest) skip_marks c) Never (skip_from c)
unfolding skip_from
skip_post c =
    post_if _ _ _
    (λ b. post_bind _ _ (taken_post (K.Name W.Skip) c) (λ t k. post_bind _ _ (number_or_one_post t.1) (λ n i. post_ok (record { spelled = skip c.tokens t.1.tokens n.1.tokens t.0 n.0 k.take i.spelled; marked = ap (λ m. times_marks n.0 (place_of t.0) m) (i.marked ∙ k.marked); shorter = omega (arith, k.shorter, i.shorter) }))))
    (λ b. post_ok (record { spelled = no_skip c.tokens (not_word W.Skip c.tokens b); marked = refl; shorter = omega arith }))

abbrev LateBy : Direction → Bool → Cursor → Bool × Cursor → Type 0
LateBy d b c x = Reads (λ ts y rest. SpellsLate d b ts rest) unmarked c x

late_post : (d : Direction) (b : Bool) (c : Cursor) → Post (LateBy d b c) Never (late_file_from d b c)
unfolding late_file_from
late_post d true c = post_ok (record { spelled = filed c.tokens; marked = refl; shorter = omega arith })
late_post d false c =
    post_weaken _ (file_post d c) (λ x r. record { spelled = late c.tokens x.1.tokens x.0 r.spelled; marked = r.marked; shorter = r.shorter }) (λ at l. l)

in_order : {s : List ℕ} {d : Direction} {ts mid behind rest : List Token} {b : Bool} {k : Option T.Skip} → SpellsFile d ts b mid → SpellsSkip mid k behind → SpellsLate d b behind rest → next_kind rest ≢ Some (K.Name W.File) → next_kind rest ≢ Some (K.Name W.Skip) → SpellsStreamOptions s d false None ts k rest
in_order (no_file ts n) (no_skip _ i) (late _ _ _ (no_file _ j)) e h = H.options_end false None ts e h
in_order (no_file ts n) (no_skip _ i) (late _ rest _ (file _ after mid behind _ t u v w a o x z)) e h =
    H.file None None ts after mid behind rest rest t u v w a o x z (H.options_end true None rest e h)
in_order (no_file ts n) (skip _ after mid t y a i) (late _ _ _ (no_file _ j)) e h =
    H.skip false (Some (one_skip t y)) ts after mid mid t y a i (H.options_end false (Some (one_skip t y)) mid e h)
in_order (no_file ts n) (skip _ after' mid' t' y a' i) (late _ rest _ (file _ after mid behind _ t u v w a o x z)) e h =
    H.skip false (Some (one_skip t' y)) ts after' mid' rest t' y a' i (H.file (Some (one_skip t' y)) (Some (one_skip t' y)) mid' after mid behind rest rest t u v w a o x z (H.options_end true (Some (one_skip t' y)) rest e h))
in_order (file ts after mid behind at t u v w a o x z) (no_skip _ i) (filed _) e h =
    H.file None None ts after mid behind at at t u v w a o x z (H.options_end true None at e h)
in_order (file ts after mid behind at t u v w a o x z) (skip _ after' rest t' y a' i) (filed _) e h =
    H.file None (Some (one_skip t' y)) ts after mid behind at rest t u v w a o x z (H.skip true (Some (one_skip t' y)) at after' rest rest t' y a' i (H.options_end true (Some (one_skip t' y)) rest e h))

left_false : (a b : Bool) → a || b ≡ false → a ≡ false
left_false false b e = refl
left_false true b e = absurd (cc e)

right_false : (a b : Bool) → a || b ≡ false → b ≡ false
right_false false b e = e
right_false true b e = absurd (cc e)

pub options_post : (s : List ℕ) (d : Direction) (c : Cursor) → Post (Reads (λ ts k rest. SpellsStreamOptions s d false None ts k rest) skip_marks c) Never (options_from d c)
unfolding options_from
options_post s d c =
    post_bind _ _ (file_post d c) (λ f g. post_bind _ _ (skip_post f.1) (λ k i. post_bind _ _ (late_post d f.0 k.1) (λ x r. post_if _ _ _
    (λ b. post_stuck)
    (λ b. post_ok (record {
      spelled = in_order g.spelled i.spelled r.spelled (not_word W.File x.1.tokens (left_false _ _ b)) (not_word W.Skip x.1.tokens (right_false _ _ b));
      marked = r.marked ∙ i.marked ∙ ap (skip_marks k.0) g.marked;
      shorter = omega (arith, g.shorter, i.shorter, r.shorter);
    })))))

-- ---- what is spelled is read

file_read : (d : Direction) {ts rest : List Token} {b : Bool} (m : Marks) → SpellsFile d ts b rest → file_from d (record { tokens = ts; marks = m }) ≡ Ok (b, record { tokens = rest; marks = m })
unfolding file_from
file_read d m (no_file ts n) = rw (not_begins (K.Name W.File) ts n) refl
file_read d m (file ts after mid behind rest t u v w a o x z) =
    let b = begins_word W.File a in
    let g = word_read W.File m a in
    let i = enclosed_read (taken (K.Name (file_word d))) v m m o (word_read (file_word d) m x) z in
    rw (b, g, i) refl

skip_read : {ts rest : List Token} {k : Option T.Skip} (m : Marks) → SpellsSkip ts k rest → skip_from (record { tokens = ts; marks = m }) ≡ Ok (k, record { tokens = rest; marks = skip_marks k m })
unfolding skip_from
skip_read m (no_skip ts n) = rw (not_begins (K.Name W.Skip) ts n) refl
skip_read m (skip ts after rest t n a h) = rw (begins_word W.Skip a, word_read W.Skip m a, number_or_one_complete m h) refl

late_read : (d : Direction) (b : Bool) {ts rest : List Token} (m : Marks) → SpellsLate d b ts rest → (x : Bool) × late_file_from d b (record { tokens = ts; marks = m }) ≡ Ok (x, record { tokens = rest; marks = m })
unfolding late_file_from
late_read d true m (filed ts) = (true, refl)
late_read d false m (late ts rest b h) = (b, file_read d m h)

all_read : (d : Direction) {ts mid behind rest : List Token} {b : Bool} {k : Option T.Skip} (m : Marks) → SpellsFile d ts b mid → SpellsSkip mid k behind → SpellsLate d b behind rest → next_kind rest ≢ Some (K.Name W.File) → next_kind rest ≢ Some (K.Name W.Skip) → options_from d (record { tokens = ts; marks = m }) ≡ Ok (k, record { tokens = rest; marks = skip_marks k m })
unfolding options_from
all_read d {rest = rest} {b = b} {k = k} m f s l e h =
    let x = file_read d m f in
    let y = skip_read m s in
    let z = late_read d b (skip_marks k m) l in
    rw (x, y, z.1, not_begins (K.Name W.File) rest e, not_begins (K.Name W.Skip) rest h) refl

other_word : {ts rest : List Token} {t : Token} {word wanted : _} → Takes ts (K.Name word) t rest → (word ≡ wanted → ⊥) → next_kind ts ≢ Some (K.Name wanted)
other_word a n e = let same = takes_next a in n (cc (same, e))

pub options_complete : {s : List ℕ} (d : Direction) {ts rest : List Token} {k : Option T.Skip} (m : Marks) → SpellsStreamOptions s d false None ts k rest → options_from d (record { tokens = ts; marks = m }) ≡ Ok (k, record { tokens = rest; marks = skip_marks k m })
options_complete d m (H.options_end _ _ ts e h) =
    all_read d m (no_file ts e) (no_skip ts h) (late ts ts false (no_file ts e)) e h
options_complete d m (H.file _ _ ts after mid behind at _ t u v w a o x z (H.options_end _ _ _ e h)) =
    all_read d m (file ts after mid behind at t u v w a o x z) (no_skip at h) (filed at) e h
options_complete d m (H.file _ _ ts after mid behind at _ t u v w a o x z (H.skip _ _ _ after' rest _ t' n a' i (H.options_end _ _ _ e h))) =
    all_read d m (file ts after mid behind at t u v w a o x z) (skip at after' rest t' n a' i) (filed rest) e h
options_complete d m (H.skip _ _ ts after mid _ t n a i (H.options_end _ _ _ e h)) =
    all_read d m (no_file ts (other_word a (λ y. cc y))) (skip ts after mid t n a i) (late mid mid false (no_file mid e)) e h
options_complete d m (H.skip _ _ ts after' mid' _ t' n a' i (H.file _ _ _ after mid behind at _ t u v w a o x z (H.options_end _ _ _ e h))) =
    all_read d m (no_file ts (other_word a' (λ y. cc y))) (skip ts after' mid' t' n a' i) (late mid' at true (file mid' after mid behind at t u v w a o x z)) e h
