-- Data lists with their format lists: what is read is spelled so, and what is spelled is read.
use Rattle.std.proofs.Common.{◌≡◌, ◌≢◌, ℕ, zero, suc, ◌<◌, List, [], ◌∷◌, length, Some, true, refl, ap, ◌∙◌, arith, Ok}
use Rattle.pli_language.specs.declared.token.Symbol.TheVariants as S
use Rattle.pli_language.specs.declared.token.Kind.TheVariants as K
use Rattle.pli_language.specs.declared.token.Token.{Token}
use Rattle.pli_language.specs.Marks.{Marks, no_marks, exprs_marks}
use Rattle.pli_language.specs.Spells.{Takes, next_kind, place_of, SpellsExprs}
use Rattle.pli_language.specs.Formats as D
use Rattle.pli_language.specs.Formats.{SpellsFormats, SpellsPair, SpellsPairs, Direction, formats_marks, formats_move_data, pair_marks, pairs_marks}
use Rattle.pli_language.specs.Tree as T
use Rattle.pli_phrase.specs.Cursor.{Cursor}
use Rattle.pli_phrase.specs.Reading.{exprs_from}
use Rattle.pli_phrase.specs.Tokens.{starts}
use Rattle.pli_phrase.proofs.Arguments.{exprs_complete}
use Rattle.pli_attributes.proofs.Posts.{Post, Never, post_ok, post_ended, post_bind, post_if, post_is}
use Rattle.pli_attributes.proofs.Tokens.{TakenBy, taken_post, not_symbol, not_begins, begins_symbol, symbol_read, takes_next}
use Rattle.pli_attributes.proofs.Lists.{Reads}
use Rattle.pli_attributes.proofs.Enclosed.{EnclosedBy, enclosed, enclosed_post, enclosed_read}
use Rattle.pli_stream.specs.Reading.{checked, pair_from, further_pairs, pairs_from}
use Rattle.pli_stream.proofs.Exprs.{exprs_post}
use Rattle.pli_stream.proofs.Complete.{FormatsBy, formats_post, formats_complete}

-- ---- one pair

pub record PairBy (s : List ℕ) (d : Direction) (c : Cursor) (x : T.EditPair × Cursor) : Type 0 where
  pub spelled : SpellsPair s c.tokens x.0 x.1.tokens
  pub marked : x.1.marks ≡ pair_marks d x.0 c.marks
  pub shorter : length x.1.tokens < length c.tokens

module _ (s : List ℕ) (d : Direction) (c : Cursor) where
  pair_by : (es : T.Exprs × Cursor) (t : Token × Cursor) (fs : (T.Formats × _) × Cursor) → EnclosedBy (λ e. Reads (SpellsExprs s) exprs_marks e) c es → TakenBy (K.Symbol S.OpenParenthesis) es.1 t → FormatsBy d t.1 fs → PairBy s d c (record { items = es.0; formats = fs.0.0; place = place_of t.0 }, checked fs.0.1 (place_of t.0) fs.1)
  pair_by es t fs (enclosed v y w o g z) k f =
      let m : fs.1.marks ≡ formats_marks d fs.0.0 (exprs_marks y.0 c.marks) = f.marked ∙ ap (formats_marks d fs.0.0) (k.marked ∙ z.marked ∙ g.marked ∙ ap (exprs_marks y.0) o.marked) in
      record {
        spelled = D.pair c.tokens v.1.tokens y.1.tokens w.1.tokens t.1.tokens fs.1.tokens v.0 w.0 t.0 y.0 fs.0.0 o.take g.spelled z.take k.take.is (D.formats w.1.tokens t.1.tokens fs.1.tokens t.0 fs.0.0 k.take f.spelled);
        marked = ap (λ b. (checked b (place_of t.0) fs.1).marks) f.moves ∙ ap (λ u. (checked (formats_move_data fs.0.0) (place_of t.0) (record { tokens = fs.1.tokens; marks = u })).marks) m;
        shorter = omega (arith, o.shorter, g.shorter, z.shorter, k.shorter, f.shorter);
      }

  pub pair_post : Post (PairBy s d c) Never (pair_from s d c)
  unfolding pair_from
  pair_post =
      post_bind _ _ (enclosed_post (exprs_from s) c (exprs_post s)) (λ es g. post_bind _ _ (taken_post (K.Symbol S.OpenParenthesis) es.1) (λ t k. post_bind _ _ (formats_post d t.1) (λ fs f. post_ok (pair_by es t fs g k f))))

opened_by : {ts after inside : List Token} {t v : Token} → Takes ts (K.Symbol S.OpenParenthesis) t after → ts ≡ v ∷ inside → t ≡ v
opened_by a e = cc (a.is, e)

pub pair_complete : {s : List ℕ} (d : Direction) {ts rest : List Token} {p : T.EditPair} (m : Marks) → SpellsPair s ts p rest → pair_from s d (record { tokens = ts; marks = m }) ≡ Ok (p, record { tokens = rest; marks = pair_marks d p m })
unfolding pair_from
pair_complete {s} d m (D.pair ts after mid behind inside rest t u v es fs o h z e (D.formats _ within _ w _ k f)) =
    let a = enclosed_read (exprs_from s) es m (exprs_marks es m) o (exprs_complete h m) z in
    let b = symbol_read S.OpenParenthesis (exprs_marks es m) k in
    let g = formats_complete d (exprs_marks es m) f in
    let r : pair_from s d (record { tokens = ts; marks = m }) ≡ Ok (record { items = es; formats = fs; place = place_of w }, record { tokens = rest; marks = pair_marks d (record { items = es; formats = fs; place = place_of w }) m }) = rw (a, b, g) refl in
    r ∙ ap (λ x. Ok (record { items = es; formats = fs; place = place_of x }, record { tokens = rest; marks = pair_marks d (record { items = es; formats = fs; place = place_of x }) m })) (opened_by k e)

pair_begins : {s : List ℕ} {ts rest : List Token} {p : T.EditPair} → SpellsPair s ts p rest → starts (K.Symbol S.OpenParenthesis) ts ≡ true
pair_begins (D.pair ts after mid behind inside rest t u v es fs o h z e f) = begins_symbol S.OpenParenthesis o

pair_next : {s : List ℕ} {ts rest : List Token} {p : T.EditPair} → SpellsPair s ts p rest → next_kind ts ≡ Some (K.Symbol S.OpenParenthesis)
pair_next (D.pair ts after mid behind inside rest t u v es fs o h z e f) = takes_next o

pair_shorter : {s : List ℕ} {ts rest : List Token} {p : T.EditPair} → Direction → SpellsPair s ts p rest → length rest < length ts
pair_shorter {s} {ts} d h = (post_is (pair_post s d (record { tokens = ts; marks = no_marks })) (pair_complete d no_marks h)).shorter

-- ---- further pairs

-- what stands behind a pair
pub data Further (s : List ℕ) : List Token → List T.EditPair → List Token → Type 0 where
  none : (ts : List Token) → next_kind ts ≢ Some (K.Symbol S.OpenParenthesis) → Further s ts [] ts
  some : (ts rest : List Token) (ps : List T.EditPair) → SpellsPairs s ts ps rest → next_kind ts ≡ Some (K.Symbol S.OpenParenthesis) → Further s ts ps rest

joined : {s : List ℕ} {ts mid rest : List Token} {p : T.EditPair} {ps : List T.EditPair} → SpellsPair s ts p mid → Further s mid ps rest → SpellsPairs s ts (p ∷ ps) rest
joined {ts = ts} {p = p} h (none mid n) = D.one_pair ts mid p h n
joined {ts = ts} {p = p} h (some mid rest ps others n) = D.further_pairs ts mid rest p ps h n others

further_post : (n : ℕ) (s : List ℕ) (d : Direction) (c : Cursor) → Post (Reads (Further s) (pairs_marks d) c) Never (further_pairs n s d c)
unfolding further_pairs
further_post zero s d c = post_ended
further_post (suc n) s d c =
    post_if _ _ _
    (λ b. post_bind _ _ (pair_post s d c) (λ p g. post_bind _ _ (further_post n s d p.1) (λ ps r. post_ok (record { spelled = some c.tokens ps.1.tokens (p.0 ∷ ps.0) (joined g.spelled r.spelled) (pair_next g.spelled); marked = r.marked ∙ ap (pairs_marks d ps.0) g.marked; shorter = omega (arith, g.shorter, r.shorter) }))))
    (λ b. post_ok (record { spelled = none c.tokens (not_symbol S.OpenParenthesis c.tokens b); marked = refl; shorter = omega arith }))

pub pairs_post : (s : List ℕ) (d : Direction) (c : Cursor) → Post (Reads (SpellsPairs s) (pairs_marks d) c) Never (pairs_from s d c)
unfolding pairs_from
pairs_post s d c =
    post_bind _ _ (pair_post s d c) (λ p g. post_bind _ _ (further_post (suc (length c.tokens)) s d p.1) (λ ps r. post_ok (record { spelled = joined g.spelled r.spelled; marked = r.marked ∙ ap (pairs_marks d ps.0) g.marked; shorter = omega (arith, g.shorter, r.shorter) })))

further_complete : {s : List ℕ} (d : Direction) {ts rest : List Token} {ps : List T.EditPair} (n : ℕ) (m : Marks) → Further s ts ps rest → length ts < n → further_pairs n s d (record { tokens = ts; marks = m }) ≡ Ok (ps, record { tokens = rest; marks = pairs_marks d ps m })
unfolding further_pairs
further_complete {s} d zero m h l = absurd (omega (arith, l))
further_complete {s} d (suc n) m (none ts stop) l = rw (not_begins (K.Symbol S.OpenParenthesis) ts stop) refl
further_complete {s} d (suc n) m (some ts rest _ (D.one_pair _ _ p h stop) next) l =
    let b = pair_begins h in
    let a = pair_complete d m h in
    let e = further_complete {s = s} d n (pair_marks d p m) (none rest stop) (omega (arith, l, pair_shorter d h)) in
    rw (b, a, e) refl
further_complete {s} d (suc n) m (some ts rest _ (D.further_pairs _ mid _ p ps h more others) next) l =
    let b = pair_begins h in
    let a = pair_complete d m h in
    let e = further_complete {s = s} d n (pair_marks d p m) (some mid rest ps others more) (omega (arith, l, pair_shorter d h)) in
    rw (b, a, e) refl

pub pairs_complete : {s : List ℕ} (d : Direction) {ts rest : List Token} {ps : List T.EditPair} (m : Marks) → SpellsPairs s ts ps rest → pairs_from s d (record { tokens = ts; marks = m }) ≡ Ok (ps, record { tokens = rest; marks = pairs_marks d ps m })
unfolding pairs_from
pairs_complete {s} d m (D.one_pair ts rest p h stop) =
    let a = pair_complete d m h in
    let e = further_complete {s = s} d (suc (length ts)) (pair_marks d p m) (none rest stop) (omega (arith, pair_shorter d h)) in
    rw (a, e) refl
pairs_complete {s} d m (D.further_pairs ts mid rest p ps h more others) =
    let a = pair_complete d m h in
    let e = further_complete {s = s} d (suc (length ts)) (pair_marks d p m) (some mid rest ps others more) (omega (arith, pair_shorter d h)) in
    rw (a, e) refl
