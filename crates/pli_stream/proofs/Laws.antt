-- The laws of what stands behind GET and PUT: what is read is spelled so and marked so, what is spelled is read, and LIST
-- and DATA alone are left out.
use Rattle.std.proofs.Common.{◌≡◌, ℕ, ◌≤◌, List, [], ◌∷◌, length, Option, Some, None, true, false, refl, ap, ◌∙◌, arith, Ok, Err}
use Rattle.pli_language.specs.declared.token.Word.{Word}
use Rattle.pli_language.specs.declared.token.Word.TheVariants as W
use Rattle.pli_language.specs.declared.token.Kind.{Kind}
use Rattle.pli_language.specs.declared.token.Kind.TheVariants as K
use Rattle.pli_language.specs.declared.token.Token.{Token}
use Rattle.pli_language.specs.Marks.{Marks}
use Rattle.pli_language.specs.Spells.{Takes, next_kind}
use Rattle.pli_language.specs.Formats.{Direction, pairs_marks, skip_marks}
use Rattle.pli_language.specs.Heads as H
use Rattle.pli_language.specs.Heads.{SpellsStreamOptions, SpellsEdit, Moves, is_left_out_stream}
use Rattle.pli_language.specs.Tree as T
use Rattle.pli_phrase.specs.Cursor.{Cursor, LeavesOut}
use Rattle.pli_attributes.proofs.Posts.{Post, Never, never, post_ok, post_stuck, post_ended, post_left, post_bind, post_if, post_weaken, post_is, post_leaves}
use Rattle.pli_attributes.proofs.Tokens.{taken_post, not_word, not_begins, begins_word, word_read, takes_next}
use Rattle.pli_attributes.proofs.Lists.{Reads}
use Rattle.pli_stream.specs.Reading.{Transfer, edit_from, missing, moved, is_left_out_kind, transfer_from}
use Rattle.pli_stream.proofs.Pairs.{pairs_post, pairs_complete}
use Rattle.pli_stream.proofs.Options.{options_post, options_complete}

-- ---- EDIT

edit_post : (s : List ℕ) (d : Direction) (c : Cursor) → Post (Reads (SpellsEdit s) (pairs_marks d) c) Never (edit_from s d c)
unfolding edit_from
edit_post s d c =
    post_if _ _ _
    (λ b. post_bind _ _ (taken_post (K.Name W.Edit) c) (λ t k. post_weaken _ (pairs_post s d t.1) (λ ps r. record { spelled = H.edit c.tokens t.1.tokens ps.1.tokens t.0 ps.0 k.take r.spelled; marked = r.marked ∙ ap (pairs_marks d ps.0) k.marked; shorter = omega (arith, k.shorter, r.shorter) }) (λ at l. l)))
    (λ b. post_ok (record { spelled = H.no_edit c.tokens (not_word W.Edit c.tokens b); marked = refl; shorter = omega arith }))

edit_complete : {s : List ℕ} (d : Direction) {ts rest : List Token} {ps : List T.EditPair} (m : Marks) → SpellsEdit s ts ps rest → edit_from s d (record { tokens = ts; marks = m }) ≡ Ok (ps, record { tokens = rest; marks = pairs_marks d ps m })
unfolding edit_from
edit_complete d m (H.no_edit ts n) = rw (not_begins (K.Name W.Edit) ts n) refl
edit_complete d m (H.edit ts after rest t ps a h) =
    let b = begins_word W.Edit a in
    let g = word_read W.Edit m a in
    let i = pairs_complete d m h in
    rw (b, g, i) refl

-- ---- the whole

-- what was read is spelled so and marked so
pub record Transferred (s : List ℕ) (d : Direction) (c : Cursor) (x : Transfer × Cursor) : Type 0 where
  pub mid : List Token
  pub options : SpellsStreamOptions s d false None c.tokens x.0.skip mid
  pub edit : SpellsEdit s mid x.0.pairs x.1.tokens
  pub moves : Moves x.0.skip x.0.pairs
  pub marked : x.1.marks ≡ pairs_marks d x.0.pairs (skip_marks x.0.skip c.marks)
  pub shorter : length x.1.tokens ≤ length c.tokens

-- a word that is left out comes first
pub record Leaves (c e : Cursor) : Type 0 where
  pub is : e ≡ c
  pub token : Token
  pub word : Word
  pub rest : List Token
  pub take : Takes c.tokens (K.Name word) token rest
  pub so : is_left_out_stream word ≡ true

module _ (s : List ℕ) (d : Direction) (c : Cursor) where
  both_spelled : (k : Option T.Skip × Cursor) (ps : List T.EditPair × Cursor) → Reads (λ ts k rest. SpellsStreamOptions s d false None ts k rest) skip_marks c k → Reads (SpellsEdit s) (pairs_marks d) k.1 ps → Moves k.0 ps.0 → Transferred s d c (record { skip = k.0; pairs = ps.0 }, ps.1)
  both_spelled k ps g h moves = record {
    mid = k.1.tokens;
    options = g.spelled;
    edit = h.spelled;
    moves = moves;
    marked = h.marked ∙ ap (pairs_marks d ps.0) g.marked;
    shorter = omega (arith, g.shorter, h.shorter);
  }

  missing_post : (ts : List Token) → Post (Transferred s d c) (Leaves c) (Err (missing ts))
  missing_post [] = post_ended
  missing_post (t ∷ ts) = post_stuck

  moved_post : (k : Option T.Skip) (b : Cursor) (ps : List T.EditPair) (e : Cursor) → Reads (λ ts k rest. SpellsStreamOptions s d false None ts k rest) skip_marks c (k, b) → Reads (SpellsEdit s) (pairs_marks d) b (ps, e) → Post (Transferred s d c) (Leaves c) (moved k ps e)
  moved_post (Some k) b ps e g h = post_ok (both_spelled (Some k, b) (ps, e) g h (H.skips k ps))
  moved_post None b (p ∷ ps) e g h = post_ok (both_spelled (None, b) (p ∷ ps, e) g h (H.edits None p ps))
  moved_post None b [] e g h = missing_post e.tokens

  left_kind : (t : Token) (ts : List Token) (k : Kind) → c.tokens ≡ t ∷ ts → t.kind ≡ k → is_left_out_kind (Some k) ≡ true → Leaves c c
  left_kind t ts (K.Name w) e h b = record { is = refl; token = t; word = w; rest = ts; take = record { is = e; of_kind = h }; so = b }
  left_kind t ts _ e h b = absurd (cc b)

  left_front : (ts : List Token) → c.tokens ≡ ts → is_left_out_kind (next_kind ts) ≡ true → Leaves c c
  left_front [] e b = absurd (cc b)
  left_front (t ∷ ts) e b = left_kind t ts t.kind e refl b

  pub transfer_post : Post (Transferred s d c) (Leaves c) (transfer_from s d c)
  unfolding transfer_from
  transfer_post =
      post_if _ _ _
      (λ b. post_left (left_front c.tokens refl b))
      (λ b. post_bind _ _ (never _ _ (options_post s d c)) (λ k g. post_bind _ _ (never _ _ (edit_post s d k.1)) (λ ps h. moved_post k.0 k.1 ps.0 ps.1 g h)))

pub transfer_sound : (s : List ℕ) (d : Direction) (c : Cursor) (x : Transfer × Cursor) → transfer_from s d c ≡ Ok x → Transferred s d c x
transfer_sound s d c x e = post_is (transfer_post s d c) e

pub transfer_leaves : (s : List ℕ) (d : Direction) (c e : Cursor) → transfer_from s d c ≡ Err (LeavesOut e) → Leaves c e
transfer_leaves s d c e h = post_leaves (transfer_post s d c) h

pub transfer_left_out : (s : List ℕ) (d : Direction) {ts rest : List Token} {t : Token} {word : Word} (m : Marks) → Takes ts (K.Name word) t rest → is_left_out_stream word ≡ true → transfer_from s d (record { tokens = ts; marks = m }) ≡ Err (LeavesOut (record { tokens = ts; marks = m }))
unfolding transfer_from
transfer_left_out s d {ts} m a e =
    let b : is_left_out_kind (next_kind ts) ≡ true = ap is_left_out_kind (takes_next a) ∙ e in
    rw b refl

no_moves : {k : Option T.Skip} {ps : List T.EditPair} → Moves k ps → k ≡ None → ps ≡ [] → ⊥
no_moves (H.skips k ps) e h = absurd (cc e)
no_moves (H.edits k p ps) e h = absurd (cc h)

-- LIST or DATA begins neither an option nor EDIT
not_left_out : {s : List ℕ} {d : Direction} {ts mid rest : List Token} {k : Option T.Skip} {ps : List T.EditPair} → SpellsStreamOptions s d false None ts k mid → SpellsEdit s mid ps rest → Moves k ps → is_left_out_kind (next_kind ts) ≡ false
not_left_out (H.options_end _ _ ts e h) (H.edit _ after rest t ps a others) moves = ap is_left_out_kind (takes_next a)
not_left_out (H.options_end _ _ ts e h) (H.no_edit _ n) moves = absurd (no_moves moves refl refl)
not_left_out (H.file _ _ ts after mid behind at _ t u v w a o x z others) pairs moves = ap is_left_out_kind (takes_next a)
not_left_out (H.skip _ _ ts after mid _ t n a h others) pairs moves = ap is_left_out_kind (takes_next a)

moved_moves : {k : Option T.Skip} {ps : List T.EditPair} (c : Cursor) → Moves k ps → moved k ps c ≡ Ok (record { skip = k; pairs = ps }, c)
moved_moves c (H.skips k ps) = refl
moved_moves c (H.edits (Some k) p ps) = refl
moved_moves c (H.edits None p ps) = refl

pub transfer_complete : {s : List ℕ} {d : Direction} {ts mid rest : List Token} {k : Option T.Skip} {ps : List T.EditPair} (m : Marks) → SpellsStreamOptions s d false None ts k mid → SpellsEdit s mid ps rest → Moves k ps → transfer_from s d (record { tokens = ts; marks = m }) ≡ Ok (record { skip = k; pairs = ps }, record { tokens = rest; marks = pairs_marks d ps (skip_marks k m) })
unfolding transfer_from
transfer_complete {s} {d} {rest = rest} {k = k} {ps = ps} m options pairs moves =
    let b = not_left_out options pairs moves in
    let g = options_complete d m options in
    let h = edit_complete d (skip_marks k m) pairs in
    let i = moved_moves (record { tokens = rest; marks = pairs_marks d ps (skip_marks k m) }) moves in
    rw (b, g, h, i) refl
