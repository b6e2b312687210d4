-- What reading tells of the beginnings of elements that go on as long as the first token is of some kinds, from what it tells of one element.
use Rattle.std.specs.Prelude.{if◌then◌else◌}
use Rattle.std.proofs.Common.{◌≡◌, ◌⊎◌, inl, inr, ℕ, zero, suc, ◌<◌, List, [], ◌∷◌, ◌++◌, length, Option, Some, None, Bool, true, false, Ok, Err, refl, sym, ap, ◌∙◌, subst, arith}
use Rattle.pli_language.specs.declared.token.Kind.{Kind}
use Rattle.pli_language.specs.declared.token.Token.{Token}
use Rattle.pli_language.specs.Marks.{Marks}
use Rattle.pli_language.specs.Spells.{next_kind}
use Rattle.pli_phrase.specs.Cursor.{Cursor, Stuck, Ended, LeavesOut, Read, ◌>>=◌}
use Rattle.pli_phrase.proofs.Prefixes.{not_done_bind, longer, Stays, Open, Closing, Prefixes, Steady, Any, open_stays, stays_bind}
use Rattle.pli_phrase.proofs.RepeatPrefixes.{open_then, open_first, done_longer}

abbrev pub with_front : {X : Type 0} → X → List X × Cursor → Read (List X)
with_front x xs = Ok (x ∷ xs.0, xs.1)

module _ {X : Type 0} {Fe F : List Token → Type 0} (test : Option Kind → Bool) (none : test None ≡ false) (one : Cursor → Read X) (list : ℕ → Cursor → Read (List X)) (is : (n : ℕ) (c : Cursor) → list (suc n) c ≡ (if test (next_kind c.tokens) then (one c >>= λ x. list n x.1 >>= with_front x.0) else Ok ([], c))) (shorter : (c : Cursor) (x : X × Cursor) → one c ≡ Ok x → length x.1.tokens < length c.tokens) (p : Steady Fe one) (ends : (w : List Token) → F w → Fe w × (test (next_kind w) ≡ false)) where
  abbrev behind : ℕ → X × Cursor → Read (List X)
  behind n x = list n x.1 >>= with_front x.0

  list_goes : (n : ℕ) (c : Cursor) → test (next_kind c.tokens) ≡ true → list (suc n) c ≡ (one c >>= behind n)
  list_goes n c e = is n c ∙ ap (λ b. if b then (one c >>= behind n) else Ok ([], c)) e

  list_stops : (n : ℕ) (c : Cursor) → test (next_kind c.tokens) ≡ false → list (suc n) c ≡ Ok ([], c)
  list_stops n c e = is n c ∙ ap (λ b. if b then (one c >>= behind n) else Ok ([], c)) e

  list_open : (n : ℕ) (c : Cursor) → length c.tokens < n → c.tokens ≡ [] → Open (list n c)
  list_open zero c h e = absurd (omega (arith, h))
  list_open (suc n) c h e = subst Open (sym (list_stops n c (ap (λ u. test (next_kind u)) e ∙ none))) e

  behind_open : (n : ℕ) (x : X × Cursor) → length x.1.tokens < n → x.1.tokens ≡ [] → Open (behind n x)
  behind_open n x h e = open_then (list n x.1) (with_front x.0) (list_open n x.1 h e) (λ ys i o. o)

  stays_behind : (n n' : ℕ) (c : Cursor) (more : List Token) (x : X × Cursor) → length x.1.tokens < n → length (c.tokens ++ more) < suc n' → ((d : Cursor) → length d.tokens < n → length (d.tokens ++ more) < n' → Stays more (list n d) (list n' (longer d more))) → ((x.1.tokens ≡ []) ⊎ (one (longer c more) ≡ Ok (x.0, longer x.1 more))) → Stays more (behind n x) (one (longer c more) >>= behind n')
  stays_behind n n' c more x l h on (inl i) = open_stays more _ _ (behind_open n x l i)
  stays_behind n n' c more x l h on (inr e) =
      let low = shorter (longer c more) (x.0, longer x.1 more) e in
      let there = on x.1 l (omega (arith, h, low)) in
      let both = stays_bind more (list n x.1) (list n' (longer x.1 more)) (with_front x.0) there (λ ys. inr refl) (λ ys o. o) in
      subst (λ u. Stays more (behind n x) (u >>= behind n')) (sym e) both

  stays_element : (n n' : ℕ) (c : Cursor) (more : List Token) (a : Read X) → one c ≡ a → length c.tokens < suc n → length (c.tokens ++ more) < suc n' → ((d : Cursor) → length d.tokens < n → length (d.tokens ++ more) < n' → Stays more (list n d) (list n' (longer d more))) → Stays more (a >>= behind n) (one (longer c more) >>= behind n')
  stays_element n n' c more (Ok x) e h h' on =
      stays_behind n n' c more x (omega (arith, h, shorter c x e)) h' on (subst (λ u. Stays more u (one (longer c more))) e (p.stays c more))
  stays_element n n' c more (Err Stuck) e h h' on =
      not_done_bind (one (longer c more)) (behind n') (subst (λ u. Stays more u (one (longer c more))) e (p.stays c more))
  stays_element n n' c more (Err Ended) e h h' on = tt
  stays_element n n' c more (Err (LeavesOut d)) e h h' on = tt

  stays_token : (n n' : ℕ) (t : Token) (ts more : List Token) (m : Marks) → length (t ∷ ts) < suc n → length (t ∷ (ts ++ more)) < suc n' → ((d : Cursor) → length d.tokens < n → length (d.tokens ++ more) < n' → Stays more (list n d) (list n' (longer d more))) → (b : Bool) → test (Some t.kind) ≡ b → Stays more (list (suc n) (record { tokens = t ∷ ts; marks = m })) (list (suc n') (record { tokens = t ∷ (ts ++ more); marks = m }))
  stays_token n n' t ts more m h h' on true e =
      let c : Cursor = record { tokens = t ∷ ts; marks = m } in
      let a = stays_element n n' c more (one c) refl h h' on in
      subst (λ u. Stays more u (list (suc n') (longer c more))) (sym (list_goes n c e)) (subst (λ u. Stays more (one c >>= behind n) u) (sym (list_goes n' (longer c more) e)) a)
  stays_token n n' t ts more m h h' on false e =
      let c : Cursor = record { tokens = t ∷ ts; marks = m } in
      subst (λ u. Stays more u (list (suc n') (longer c more))) (sym (list_stops n c e)) (inr (list_stops n' (longer c more) e))

  stays_list : (n n' : ℕ) (ts more : List Token) (m : Marks) → length ts < n → length (ts ++ more) < n' → Stays more (list n (record { tokens = ts; marks = m })) (list n' (record { tokens = ts ++ more; marks = m }))
  stays_list zero n' ts more m h h' = absurd (omega (arith, h))
  stays_list (suc n) zero ts more m h h' = absurd (omega (arith, h'))
  stays_list (suc n) (suc n') [] more m h h' = open_stays more _ _ (list_open (suc n) (record { tokens = []; marks = m }) h refl)
  stays_list (suc n) (suc n') (t ∷ ts) more m h h' =
      stays_token n n' t ts more m h h' (λ d l l'. stays_list n n' d.tokens more d.marks l l') (test (Some t.kind)) refl

  -- tokens that make the list done, with any fuel that is enough
  record Closes (c : Cursor) : Type 0 where
    more : List Token
    given : List X
    marks : Marks
    reads : (n : ℕ) (w : List Token) → F w → length (c.tokens ++ (more ++ w)) < n → list n (longer c (more ++ w)) ≡ Ok (given, record { tokens = w; marks = marks })
    leads : c.tokens ≡ [] → (w : List Token) → F w → F (more ++ w)

  closes_none : (m : Marks) → Closes (record { tokens = []; marks = m })
  closes_none m = record { more = []; given = []; marks = m; reads = reads_none; leads = λ e w f. f }
    where
      reads_none : (n : ℕ) (w : List Token) → F w → length w < n → list n (record { tokens = w; marks = m }) ≡ Ok ([], record { tokens = w; marks = m })
      reads_none zero w f h = absurd (omega (arith, h))
      reads_none (suc n) w f h = list_stops n (record { tokens = w; marks = m }) (ends w f).1

  closes_last : (t : Token) (ts : List Token) (m : Marks) → test (Some t.kind) ≡ true → Open (one (record { tokens = t ∷ ts; marks = m })) → Closes (record { tokens = t ∷ ts; marks = m })
  closes_last t ts m e o =
      record { more = k.more; given = k.given ∷ []; marks = k.marks; reads = reads_last; leads = λ n. absurd (cc n) }
    where
      c : Cursor
      c = record { tokens = t ∷ ts; marks = m }

      k : Closing Any Fe one (record { tokens = t ∷ ts; marks = m })
      k = p.closes (record { tokens = t ∷ ts; marks = m }) o

      reads_last : (n : ℕ) (w : List Token) → F w → length (t ∷ (ts ++ (k.more ++ w))) < n → list n (record { tokens = t ∷ (ts ++ (k.more ++ w)); marks = m }) ≡ Ok (k.given ∷ [], record { tokens = w; marks = k.marks })
      reads_last zero w f h = absurd (omega (arith, h))
      reads_last (suc zero) w f h = absurd (omega (arith, h))
      reads_last (suc (suc n)) w f h =
          list_goes (suc n) (record { tokens = t ∷ (ts ++ (k.more ++ w)); marks = m }) e ∙ ap (λ u. u >>= behind (suc n)) (k.reads w (ends w f).0) ∙ ap (λ u. u >>= with_front k.given) (list_stops n (record { tokens = w; marks = k.marks }) (ends w f).1)

  closes_further : (t : Token) (ts : List Token) (m : Marks) (x : X × Cursor) (u : Token) (us : List Token) → test (Some t.kind) ≡ true → one (record { tokens = t ∷ ts; marks = m }) ≡ Ok x → x.1.tokens ≡ u ∷ us → Closes x.1 → Closes (record { tokens = t ∷ ts; marks = m })
  closes_further t ts m x u us e i there k =
      record { more = k.more; given = x.0 ∷ k.given; marks = k.marks; reads = reads_further; leads = λ n. absurd (cc n) }
    where
      reads_further : (n : ℕ) (w : List Token) → F w → length (t ∷ (ts ++ (k.more ++ w))) < n → list n (record { tokens = t ∷ (ts ++ (k.more ++ w)); marks = m }) ≡ Ok (x.0 ∷ k.given, record { tokens = w; marks = k.marks })
      reads_further zero w f h = absurd (omega (arith, h))
      reads_further (suc n) w f h =
          let c : Cursor = record { tokens = t ∷ ts; marks = m } in
          let all = k.more ++ w in
          let e' = done_longer (one c) (one (longer c all)) all x u us (p.stays c all) i there in
          let low = shorter (longer c all) (x.0, longer x.1 all) e' in
          list_goes n (longer c all) e ∙ ap (λ v. v >>= behind n) e' ∙ ap (λ v. v >>= with_front x.0) (k.reads n w f (omega (arith, h, low)))

  closes_behind : (n : ℕ) (t : Token) (ts : List Token) (m : Marks) (x : X × Cursor) → test (Some t.kind) ≡ true → one (record { tokens = t ∷ ts; marks = m }) ≡ Ok x → (Open (list n x.1) → Closes x.1) → Open (behind n x) → (us : List Token) → x.1.tokens ≡ us → Closes (record { tokens = t ∷ ts; marks = m })
  closes_behind n t ts m x e i on o [] there = closes_last t ts m e (subst Open (sym i) there)
  closes_behind n t ts m x e i on o (u ∷ us) there =
      closes_further t ts m x u us e i there (on (open_first (list n x.1) (λ xs. x.0 ∷ xs) o))

  closes_element : (n : ℕ) (t : Token) (ts : List Token) (m : Marks) (a : Read X) → test (Some t.kind) ≡ true → one (record { tokens = t ∷ ts; marks = m }) ≡ a → length (t ∷ ts) < suc n → ((d : Cursor) → length d.tokens < n → Open (list n d) → Closes d) → Open (a >>= behind n) → Closes (record { tokens = t ∷ ts; marks = m })
  closes_element n t ts m (Ok x) e i h on o =
      closes_behind n t ts m x e i (on x.1 (omega (arith, h, shorter (record { tokens = t ∷ ts; marks = m }) x i))) o x.1.tokens refl
  closes_element n t ts m (Err Ended) e i h on o = closes_last t ts m e (subst Open (sym i) tt)
  closes_element n t ts m (Err Stuck) e i h on o = absurd o
  closes_element n t ts m (Err (LeavesOut d)) e i h on o = absurd o

  closes_token : (n : ℕ) (t : Token) (ts : List Token) (m : Marks) → length (t ∷ ts) < suc n → ((d : Cursor) → length d.tokens < n → Open (list n d) → Closes d) → Open (list (suc n) (record { tokens = t ∷ ts; marks = m })) → (b : Bool) → test (Some t.kind) ≡ b → Closes (record { tokens = t ∷ ts; marks = m })
  closes_token n t ts m h on o true e =
      let c : Cursor = record { tokens = t ∷ ts; marks = m } in
      closes_element n t ts m (one c) e refl h on (subst Open (list_goes n c e) o)
  closes_token n t ts m h on o false e =
      let some : t ∷ ts ≡ [] = subst Open (list_stops n (record { tokens = t ∷ ts; marks = m }) e) o in
      absurd (cc some)

  closes_list : (n : ℕ) (ts : List Token) (m : Marks) → length ts < n → Open (list n (record { tokens = ts; marks = m })) → Closes (record { tokens = ts; marks = m })
  closes_list zero ts m h o = absurd (omega (arith, h))
  closes_list (suc n) [] m h o = closes_none m
  closes_list (suc n) (t ∷ ts) m h o =
      closes_token n t ts m h (λ d l q. closes_list n d.tokens d.marks l q) o (test (Some t.kind)) refl

  -- elements with fuel for all their tokens
  pub prefix_while : Prefixes F F (λ c. list (suc (length c.tokens)) c)
  prefix_while =
      record {
        stays = λ c more. stays_list (suc (length c.tokens)) (suc (length (c.tokens ++ more))) c.tokens more c.marks (omega arith) (omega arith);
        opens = λ c e. list_open (suc (length c.tokens)) c (omega arith) e;
        closes = λ c o. let k = closes_list (suc (length c.tokens)) c.tokens c.marks (omega arith) o in record {
          more = k.more;
          given = k.given;
          marks = k.marks;
          reads = λ w f. k.reads (suc (length (c.tokens ++ (k.more ++ w)))) w f (omega arith);
          leads = k.leads;
        };
      }
