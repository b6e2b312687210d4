-- Laws of lists whose elements have commas between them.
use Rattle.std.proofs.Common.{◌≡◌, ◌≢◌, ℕ, zero, suc, ◌<◌, ◌≤◌, List, [], ◌∷◌, length, Some, refl, ap, ◌∙◌, arith, Ok, Err}
use Rattle.pli_language.specs.declared.token.Symbol.TheVariants as S
use Rattle.pli_language.specs.declared.token.Kind.TheVariants as K
use Rattle.pli_language.specs.declared.token.Token.{Token}
use Rattle.pli_language.specs.Marks.{Marks}
use Rattle.pli_language.specs.Spells.{Takes, next_kind}
use Rattle.pli_phrase.specs.Cursor.{Cursor, Missed}
use Rattle.pli_attributes.specs.Lists.{One, list_at, list_from}
use Rattle.pli_attributes.proofs.Posts.{Post, never, post_ok, post_ended, post_bind, post_if, post_weaken}
use Rattle.pli_attributes.proofs.Tokens.{TakenBy, taken_post, not_symbol, not_begins, begins_symbol, symbol_read}

-- what is read is spelled so, and marked so, and the tokens behind are no more than those before
pub record Reads {X : Type 0} (R : List Token → X → List Token → Type 0) (mark : X → Marks → Marks) (c : Cursor) (x : X × Cursor) : Type 0 where
  pub spelled : R c.tokens x.0 x.1.tokens
  pub marked : x.1.marks ≡ mark x.0 c.marks
  pub shorter : length x.1.tokens ≤ length c.tokens

-- elements with commas between them
pub data Listed {X : Type 0} (R : List Token → X → List Token → Type 0) : List Token → List X → List Token → Type 0 where
  one : (ts rest : List Token) (x : X) → R ts x rest → next_kind rest ≢ Some (K.Symbol S.Comma) → Listed R ts (x ∷ []) rest
  further : (ts mid after rest : List Token) (t : Token) (x : X) (xs : List X) → R ts x mid → Takes mid (K.Symbol S.Comma) t after → Listed R after xs rest → Listed R ts (x ∷ xs) rest

-- marks of elements, before which so many stand
abbrev pub list_marks : {X : Type 0} → (ℕ → X → Marks → Marks) → ℕ → List X → Marks → Marks
list_marks mark before [] m = m
list_marks mark before (x ∷ xs) m = list_marks mark (suc before) xs (mark before x m)

module _ {X : Type 0} (one_of : One X) (R : List Token → X → List Token → Type 0) (mark : ℕ → X → Marks → Marks) (L : Cursor → Cursor → Type 0)
    (good : (i : ℕ) (c : Cursor) → Post (Reads R (mark i) c) (L c) (one_of i c))
    (behind : (i : ℕ) (c : Cursor) (x : X × Cursor) (comma : Token × Cursor) (at : Cursor) → Reads R (mark i) c x → TakenBy (K.Symbol S.Comma) x.1 comma → L comma.1 at → L c at)
  where
    data Further (i : ℕ) (c : Cursor) : List X × Cursor → Type 0 where
      none : next_kind c.tokens ≢ Some (K.Symbol S.Comma) → Further i c ([], c)
      some : (xs : List X × Cursor) (comma : Token × Cursor) → TakenBy (K.Symbol S.Comma) c comma → Reads (Listed R) (list_marks mark i) comma.1 xs → Further i c xs

    joined : (i : ℕ) (c : Cursor) (x : X × Cursor) (xs : List X × Cursor) → Reads R (mark i) c x → Further (suc i) x.1 xs → Reads (Listed R) (list_marks mark i) c (x.0 ∷ xs.0, xs.1)
    joined i c x xs g (none n) = record { spelled = one c.tokens x.1.tokens x.0 g.spelled n; marked = g.marked; shorter = g.shorter }
    joined i c x xs g (some ys comma k r) = record {
      spelled = further c.tokens x.1.tokens comma.1.tokens xs.1.tokens comma.0 x.0 xs.0 g.spelled k.take r.spelled;
      marked = r.marked ∙ ap (list_marks mark (suc i) xs.0) (k.marked ∙ g.marked);
      shorter = omega (arith, g.shorter, k.shorter, r.shorter);
    }

    pub list_at_post : (n i : ℕ) (c : Cursor) → Post (Reads (Listed R) (list_marks mark i) c) (L c) (list_at one_of n i c)
    unfolding list_at
    list_at_post zero i c = post_ended
    list_at_post (suc n) i c =
        post_bind _ _ (good i c) (λ x g.
        post_bind {P = Further (suc i) x.1} _ _
        (post_if _ _ _
        (λ b. post_bind _ _ (never (L c) _ (taken_post (K.Symbol S.Comma) x.1)) (λ comma k. post_weaken _ (list_at_post n (suc i) comma.1) (λ xs r. some xs comma k r) (λ at l. behind i c x comma at g k l)))
        (λ b. post_ok (none (not_symbol S.Comma x.1.tokens b))))
        (λ xs f. post_ok (joined i c x xs g f)))

    pub list_post : (c : Cursor) → Post (Reads (Listed R) (list_marks mark 0) c) (L c) (list_from one_of c)
    unfolding list_from
    list_post c = list_at_post (suc (length c.tokens)) 0 c

module _ {X : Type 0} (one_of : One X) (R : List Token → X → List Token → Type 0) (mark : ℕ → X → Marks → Marks)
    (complete : (i : ℕ) (ts rest : List Token) (x : X) (m : Marks) → R ts x rest → one_of i (record { tokens = ts; marks = m }) ≡ Ok (x, record { tokens = rest; marks = mark i x m }))
    (shorter : (ts rest : List Token) (x : X) → R ts x rest → length rest ≤ length ts)
  where
    pub list_at_complete : (n i : ℕ) (ts rest : List Token) (xs : List X) (m : Marks) → Listed R ts xs rest → length ts < n → list_at one_of n i (record { tokens = ts; marks = m }) ≡ Ok (xs, record { tokens = rest; marks = list_marks mark i xs m })
    unfolding list_at
    list_at_complete zero i ts rest xs m r l = absurd (omega arith)
    list_at_complete (suc n) i ts rest xs m (one _ _ x r ends) l =
        let a = complete i ts rest x m r in
        let b = not_begins (K.Symbol S.Comma) rest ends in
        rw (a, b) refl
    list_at_complete (suc n) i ts rest xs m (further _ mid after _ t x others r k others_so) l =
        let a = complete i ts mid x m r in
        let b = begins_symbol S.Comma k in
        let d = symbol_read S.Comma (mark i x m) k in
        let h = shorter ts mid x r in
        let e = list_at_complete n (suc i) after rest others (mark i x m) others_so (omega (arith, ap length k.is)) in
        rw (a, b, d, e) refl

    pub list_complete : (ts rest : List Token) (xs : List X) (m : Marks) → Listed R ts xs rest → list_from one_of (record { tokens = ts; marks = m }) ≡ Ok (xs, record { tokens = rest; marks = list_marks mark 0 xs m })
    unfolding list_from
    list_complete ts rest xs m r = list_at_complete (suc (length ts)) 0 ts rest xs m r (omega arith)

    -- an element that isn't read, at the front and behind others
    pub list_fails : (n i : ℕ) (c : Cursor) (e : Missed) → one_of i c ≡ Err e → list_at one_of (suc n) i c ≡ Err e
    unfolding list_at
    list_fails n i c e h = rw h refl

    pub list_fails_behind : (n i : ℕ) (ts mid after : List Token) (t : Token) (x : X) (m : Marks) (e : Missed) → R ts x mid → Takes mid (K.Symbol S.Comma) t after → list_at one_of n (suc i) (record { tokens = after; marks = mark i x m }) ≡ Err e → list_at one_of (suc n) i (record { tokens = ts; marks = m }) ≡ Err e
    unfolding list_at
    list_fails_behind n i ts mid after t x m e r k h =
        let a = complete i ts mid x m r in
        let b = begins_symbol S.Comma k in
        let d = symbol_read S.Comma (mark i x m) k in
        rw (a, b, d, h) refl
