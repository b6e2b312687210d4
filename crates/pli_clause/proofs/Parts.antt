-- Laws of the readers of words, and of what may stand behind words.
use Rattle.std.proofs.Common.{◌≡◌, ◌≢◌, ◌<◌, ◌≤◌, List, [], ◌∷◌, length, Option, Some, None, true, refl, sym, ap, ◌∙◌, subst, arith, Ok}
use Rattle.pli_language.specs.declared.token.Word.{Word}
use Rattle.pli_language.specs.declared.token.Symbol.{Symbol}
use Rattle.pli_language.specs.declared.token.Kind.{Kind}
use Rattle.pli_language.specs.declared.token.Kind.TheVariants as K
use Rattle.pli_language.specs.declared.token.Token.{Token}
use Rattle.pli_language.specs.Marks.{Marks}
use Rattle.pli_language.specs.Heads.{marks_if}
use Rattle.pli_language.specs.Spells.{Takes, next_kind}
use Rattle.pli_phrase.specs.Cursor.{Cursor, Read, ◌>>=◌, onto}
use Rattle.pli_phrase.specs.Tokens.{is_terminal, starts}
use Rattle.pli_attributes.proofs.Posts.{Post, Never, post_ok, post_stuck, post_ended, post_bind, post_if}
use Rattle.pli_attributes.proofs.Tokens.{terminal_is, is_word, is_symbol, not_word, not_begins, begins_word, word_read, taken_post, takes_next}
use Rattle.pli_attributes.proofs.Lists.{Reads}
use Rattle.pli_clause.specs.Parts.{word_of_kind, word_at, word_from, behind_word, ended_by, both_from}

-- ---- words

-- a name's token was taken
pub record WordBy (c : Cursor) (x : (Token × Word) × Cursor) : Type 0 where
  pub take : Takes c.tokens (K.Name x.0.1) x.0.0 x.1.tokens
  pub marked : x.1.marks ≡ c.marks
  pub shorter : length x.1.tokens < length c.tokens

word_kind_post : (c : Cursor) (t : Token) (ts : List Token) (k : Kind) → c.tokens ≡ t ∷ ts → t.kind ≡ k → Post (WordBy c) Never (word_of_kind t k (onto ts c))
word_kind_post c t ts (K.Name w) e h = post_ok (record { take = record { is = e; of_kind = h }; marked = refl; shorter = omega (arith, ap length e) })
word_kind_post c t ts (K.Number n) e h = post_stuck
word_kind_post c t ts K.Text e h = post_stuck
word_kind_post c t ts (K.Bit b) e h = post_stuck
word_kind_post c t ts (K.Symbol y) e h = post_stuck

word_at_post : (c : Cursor) (ts : List Token) → c.tokens ≡ ts → Post (WordBy c) Never (word_at ts c)
word_at_post c [] e = post_ended
word_at_post c (t ∷ ts) e = word_kind_post c t ts t.kind e refl

pub word_post : (c : Cursor) → Post (WordBy c) Never (word_from c)
unfolding word_from
word_post c = word_at_post c c.tokens refl

pub word_taken : {ts rest : List Token} {t : Token} {w : Word} (m : Marks) → Takes ts (K.Name w) t rest → word_from (record { tokens = ts; marks = m }) ≡ Ok ((t, w), record { tokens = rest; marks = m })
unfolding word_from
word_taken {ts} {rest} {t} {w} m a =
    let front : word_from (record { tokens = t ∷ rest; marks = m }) ≡ Ok ((t, w), record { tokens = rest; marks = m }) = ap (λ k. word_of_kind t k (record { tokens = rest; marks = m })) a.of_kind in
    ap (λ u. word_from (record { tokens = u; marks = m })) a.is ∙ front

-- the first token is this word
pub starts_next : (w : Word) (ts : List Token) → starts (K.Name w) ts ≡ true → next_kind ts ≡ Some (K.Name w)
starts_next w [] e = absurd (cc e)
starts_next w (t ∷ ts) e = ap Some (terminal_is (K.Name w) t.kind e)

pub next_starts : (w : Word) (ts : List Token) → next_kind ts ≡ Some (K.Name w) → starts (K.Name w) ts ≡ true
next_starts w [] e = absurd (cc e)
next_starts w (t ∷ ts) e =
    let k : t.kind ≡ K.Name w = cc e in
    ap (is_terminal (K.Name w)) k ∙ is_word w

-- the first token is this symbol
pub next_symbol : (y : Symbol) (ts : List Token) → starts (K.Symbol y) ts ≡ true → next_kind ts ≡ Some (K.Symbol y)
next_symbol y [] e = absurd (cc e)
next_symbol y (t ∷ ts) e = ap Some (terminal_is (K.Symbol y) t.kind e)

pub symbol_next : (y : Symbol) (ts : List Token) → next_kind ts ≡ Some (K.Symbol y) → starts (K.Symbol y) ts ≡ true
symbol_next y [] e = absurd (cc e)
symbol_next y (t ∷ ts) e =
    let k : t.kind ≡ K.Symbol y = cc e in
    ap (is_terminal (K.Symbol y)) k ∙ is_symbol y

-- ---- behind a word that may stand

-- what the tokens spell behind a word, where that word stands
pub data Behind {X : Type 0} (R : List Token → X → List Token → Type 0) (w : Word) : List Token → Option X → List Token → Type 0 where
  no_word : (ts : List Token) → next_kind ts ≢ Some (K.Name w) → Behind R w ts None ts
  behind : (ts after rest : List Token) (t : Token) (x : X) → Takes ts (K.Name w) t after → R after x rest → Behind R w ts (Some x) rest

-- neither of two words stands here
pub record Stops (v w : Word) (ts : List Token) : Type 0 where
  pub no_first : next_kind ts ≢ Some (K.Name v)
  pub no_second : next_kind ts ≢ Some (K.Name w)

-- what the tokens spell behind two words, each at most once, in either order, with the marks of what is read first
pub data EitherOrder {X : Type 0} (R : List Token → X → List Token → Type 0) (mark : X → Marks → Marks) (v w : Word) : List Token → Marks → Option X × Option X → List Token → Marks → Type 0 where
  in_order : (ts mid rest : List Token) (m : Marks) (x y : Option X) → next_kind ts ≡ Some (K.Name v) → Behind R v ts x mid → Behind R w mid y rest → Stops v w rest → EitherOrder R mark v w ts m (x, y) rest (marks_if mark y (marks_if mark x m))
  in_reverse : (ts mid rest : List Token) (m : Marks) (x y : Option X) → next_kind ts ≢ Some (K.Name v) → Behind R w ts y mid → Behind R v mid x rest → Stops v w rest → EitherOrder R mark v w ts m (x, y) rest (marks_if mark x (marks_if mark y m))

-- what is read is spelled so, with its marks, and the tokens behind are no more than those before
pub record ReadsMarked {X : Type 0} (R : List Token → Marks → X → List Token → Marks → Type 0) (c : Cursor) (x : X × Cursor) : Type 0 where
  pub spelled : R c.tokens c.marks x.0 x.1.tokens x.1.marks
  pub shorter : length x.1.tokens ≤ length c.tokens

ended_post : {X : Type 0} {P : X × Cursor → Type 0} (v w : Word) (x : X) (c : Cursor) → (Stops v w c.tokens → P (x, c)) → Post P Never (ended_by v w x c)
ended_post v w x c h =
    post_if _ _ _ (λ b. post_stuck) (λ b. post_if _ _ _ (λ d. post_stuck) (λ d. post_ok (h (record { no_first = not_word v c.tokens b; no_second = not_word w c.tokens d }))))

module _ {X : Type 0} (R : List Token → X → List Token → Type 0) (mark : X → Marks → Marks) (inner : Cursor → Read X)
    (good : (c : Cursor) → Post (Reads R mark c) Never (inner c))
  where
    pub behind_post : (w : Word) (c : Cursor) → Post (Reads (Behind R w) (marks_if mark) c) Never (behind_word w inner c)
    unfolding behind_word
    behind_post w c =
        post_if _ _ _
        (λ b. post_bind _ _ (taken_post (K.Name w) c) (λ t k. post_bind _ _ (good t.1) (λ x g. post_ok (record { spelled = behind c.tokens t.1.tokens x.1.tokens t.0 x.0 k.take g.spelled; marked = g.marked ∙ ap (mark x.0) k.marked; shorter = omega (arith, k.shorter, g.shorter) }))))
        (λ b. post_ok (record { spelled = no_word c.tokens (not_word w c.tokens b); marked = refl; shorter = omega arith }))

    pub both_post : (v w : Word) (c : Cursor) → Post (ReadsMarked (EitherOrder R mark v w) c) Never (both_from v w inner c)
    unfolding both_from
    both_post v w c =
        post_if _ _ _
        (λ b. post_bind _ _ (behind_post v c) (λ x g. post_bind _ _ (behind_post w x.1) (λ y h. ended_post v w (x.0, y.0) y.1 (λ stop. record {
          spelled = subst (λ m. EitherOrder R mark v w c.tokens c.marks (x.0, y.0) y.1.tokens m) (sym (h.marked ∙ ap (marks_if mark y.0) g.marked)) (in_order c.tokens x.1.tokens y.1.tokens c.marks x.0 y.0 (starts_next v c.tokens b) g.spelled h.spelled stop);
          shorter = omega (arith, g.shorter, h.shorter);
        }))))
        (λ b. post_bind _ _ (behind_post w c) (λ y g. post_bind _ _ (behind_post v y.1) (λ x h. ended_post v w (x.0, y.0) x.1 (λ stop. record {
          spelled = subst (λ m. EitherOrder R mark v w c.tokens c.marks (x.0, y.0) x.1.tokens m) (sym (h.marked ∙ ap (marks_if mark x.0) g.marked)) (in_reverse c.tokens y.1.tokens x.1.tokens c.marks x.0 y.0 (not_word v c.tokens b) g.spelled h.spelled stop);
          shorter = omega (arith, g.shorter, h.shorter);
        }))))

-- what is still to be read where these were read already
unfoldable pub still_read : {X : Type 0} → (Cursor → Read X) → Word → Word → Option X → Option X → Cursor → Read (Option X × Option X)
still_read inner v w None None c = both_from v w inner c
still_read inner v w (Some x) None c = behind_word w inner c >>= λ y. ended_by v w (Some x, y.0) y.1
still_read inner v w None (Some y) c = behind_word v inner c >>= λ x. ended_by v w (x.0, Some y) x.1
still_read inner v w (Some x) (Some y) c = ended_by v w (Some x, Some y) c

module _ {X : Type 0} (R : List Token → X → List Token → Type 0) (mark : X → Marks → Marks) (inner : Cursor → Read X)
    (complete : (ts rest : List Token) (x : X) (m : Marks) → R ts x rest → inner (record { tokens = ts; marks = m }) ≡ Ok (x, record { tokens = rest; marks = mark x m }))
  where
    pub behind_read : (w : Word) {ts rest : List Token} {x : Option X} (m : Marks) → Behind R w ts x rest → behind_word w inner (record { tokens = ts; marks = m }) ≡ Ok (x, record { tokens = rest; marks = marks_if mark x m })
    unfolding behind_word
    behind_read w m (no_word ts n) = rw (not_begins (K.Name w) ts n) refl
    behind_read w m (behind ts after rest t x k r) =
        let a = begins_word w k in
        let b = word_read w m k in
        let d = complete after rest x m r in
        rw (a, b, d) refl

    stops_ended : (v w : Word) (p : Option X × Option X) (ts : List Token) (m : Marks) → Stops v w ts → ended_by v w p (record { tokens = ts; marks = m }) ≡ Ok (p, record { tokens = ts; marks = m })
    stops_ended v w p ts m stop =
        let a = not_begins (K.Name v) ts stop.no_first in
        let b = not_begins (K.Name w) ts stop.no_second in
        rw (a, b) refl

    pub still_ends : (v w : Word) (x y : Option X) (ts : List Token) (m : Marks) → Stops v w ts → still_read inner v w x y (record { tokens = ts; marks = m }) ≡ Ok ((x, y), record { tokens = ts; marks = m })
    unfolding still_read both_from
    still_ends v w None None ts m stop =
        let a = not_begins (K.Name v) ts stop.no_first in
        let b = behind_read w m (no_word ts stop.no_second) in
        let d = behind_read v m (no_word ts stop.no_first) in
        rw (a, b, d) (stops_ended v w (None, None) ts m stop)
    still_ends v w (Some x) None ts m stop =
        let b = behind_read w m (no_word ts stop.no_second) in
        rw b (stops_ended v w (Some x, None) ts m stop)
    still_ends v w None (Some y) ts m stop =
        let d = behind_read v m (no_word ts stop.no_first) in
        rw d (stops_ended v w (None, Some y) ts m stop)
    still_ends v w (Some x) (Some y) ts m stop = stops_ended v w (Some x, Some y) ts m stop

    pub still_first : (v w : Word) (y : Option X) {ts after mid : List Token} {t : Token} {e : X} (m : Marks) → Takes ts (K.Name v) t after → R after e mid → still_read inner v w None y (record { tokens = ts; marks = m }) ≡ still_read inner v w (Some e) y (record { tokens = mid; marks = mark e m })
    unfolding still_read both_from
    still_first v w None {ts} {after} {mid} {t} {e} m k r =
        let a = begins_word v k in
        let b = behind_read v m (behind ts after mid t e k r) in
        rw (a, b) refl
    still_first v w (Some y) {ts} {after} {mid} {t} {e} m k r =
        let b = behind_read v m (behind ts after mid t e k r) in
        rw b refl

    pub still_second : (v w : Word) (x : Option X) {ts after mid : List Token} {t : Token} {e : X} (m : Marks) → K.Name w ≢ K.Name v → Takes ts (K.Name w) t after → R after e mid → still_read inner v w x None (record { tokens = ts; marks = m }) ≡ still_read inner v w x (Some e) (record { tokens = mid; marks = mark e m })
    unfolding still_read both_from
    still_second v w None {ts} {after} {mid} {t} {e} m other k r =
        let a = not_begins (K.Name v) ts (λ z. other (let h : Some (K.Name w) ≡ Some (K.Name v) = sym (takes_next k) ∙ z in cc h)) in
        let b = behind_read w m (behind ts after mid t e k r) in
        rw (a, b) refl
    still_second v w (Some x) {ts} {after} {mid} {t} {e} m other k r =
        let b = behind_read w m (behind ts after mid t e k r) in
        rw b refl

    pub still_all : (v w : Word) (c : Cursor) → still_read inner v w None None c ≡ both_from v w inner c
    unfolding still_read
    still_all v w c = refl

-- a relation that holds where neither word stands, and that each word with what stands behind it extends
module _ {X : Type 0} (R : List Token → X → List Token → Type 0) (mark : X → Marks → Marks) (v w : Word)
    (S : Option X → Option X → List Token → Marks → Option X × Option X → List Token → Marks → Type 0)
    (ends : (x y : Option X) (ts : List Token) (m : Marks) → Stops v w ts → S x y ts m (x, y) ts m)
    (first : (y : Option X) (p : Option X × Option X) (ts after mid rest : List Token) (m m' : Marks) (t : Token) (e : X) → Takes ts (K.Name v) t after → R after e mid → S (Some e) y mid (mark e m) p rest m' → S None y ts m p rest m')
    (second : (x : Option X) (p : Option X × Option X) (ts after mid rest : List Token) (m m' : Marks) (t : Token) (e : X) → Takes ts (K.Name w) t after → R after e mid → S x (Some e) mid (mark e m) p rest m' → S x None ts m p rest m')
  where
    pub order_spelled : {ts rest : List Token} {m m' : Marks} {p : Option X × Option X} → EitherOrder R mark v w ts m p rest m' → S None None ts m p rest m'
    order_spelled (in_order ts mid rest m x y z (no_word _ n) h stop) = absurd (n z)
    order_spelled (in_order ts mid rest m x y z (behind _ after _ t e k r) (no_word _ n) stop) =
        first None (Some e, None) ts after mid mid m (mark e m) t e k r (ends (Some e) None mid (mark e m) stop)
    order_spelled (in_order ts mid rest m x y z (behind _ after _ t e k r) (behind _ after' _ u f i q) stop) =
        first None (Some e, Some f) ts after mid rest m (mark f (mark e m)) t e k r (second (Some e) (Some e, Some f) mid after' rest rest (mark e m) (mark f (mark e m)) u f i q (ends (Some e) (Some f) rest (mark f (mark e m)) stop))
    order_spelled (in_reverse ts mid rest m x y z (no_word _ n) (no_word _ n') stop) = ends None None ts m stop
    order_spelled (in_reverse ts mid rest m x y z (no_word _ n) (behind _ after _ t e k r) stop) = absurd (z (takes_next k))
    order_spelled (in_reverse ts mid rest m x y z (behind _ after _ t e k r) (no_word _ n) stop) =
        second None (None, Some e) ts after mid mid m (mark e m) t e k r (ends None (Some e) mid (mark e m) stop)
    order_spelled (in_reverse ts mid rest m x y z (behind _ after _ t e k r) (behind _ after' _ u f i q) stop) =
        second None (Some f, Some e) ts after mid rest m (mark f (mark e m)) t e k r (first (Some e) (Some f, Some e) mid after' rest rest (mark e m) (mark f (mark e m)) u f i q (ends (Some f) (Some e) rest (mark f (mark e m)) stop))
