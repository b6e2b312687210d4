-- What reading tells of the beginnings of elements with commas between them, from what it tells of one element.
use Rattle.std.specs.Prelude.{if◌then◌else◌}
use Rattle.std.proofs.Common.{◌≡◌, ◌⊎◌, inl, inr, ℕ, zero, suc, ◌<◌, ◌≤◌, List, [], ◌∷◌, ◌++◌, length, Bool, true, false, Ok, Err, refl, sym, ap, ◌∙◌, subst, arith}
use Rattle.pli_language.specs.declared.token.Symbol.TheVariants as S
use Rattle.pli_language.specs.declared.token.Kind.TheVariants as K
use Rattle.pli_language.specs.declared.token.Token.{Token}
use Rattle.pli_language.specs.Marks.{Marks}
use Rattle.pli_phrase.specs.Cursor.{Cursor, Stuck, Ended, LeavesOut, Read, ◌>>=◌}
use Rattle.pli_phrase.specs.Tokens.{is_terminal, starts, begins, taken}
use Rattle.pli_phrase.proofs.Prefixes.{not_done_bind, longer, Stays, Open, Closing, Prefixes, StartsNot, open_stays, stays_bind}

-- ---- readers in a row, at a place

pub open_then : {X Y : Type 0} (r : Read X) (g : X × Cursor → Read Y) → Open r → ((x : X × Cursor) → r ≡ Ok x → x.1.tokens ≡ [] → Open (g x)) → Open (r >>= g)
open_then (Ok x) g e o = o x refl e
open_then (Err Ended) g e o = tt
open_then (Err Stuck) g e o = absurd e
open_then (Err (LeavesOut d)) g e o = absurd e

pub open_first : {X Y : Type 0} (r : Read X) (f : X → Y) → Open (r >>= λ x. Ok (f x.0, x.1)) → Open r
open_first (Ok x) f o = o
open_first (Err Ended) f o = tt
open_first (Err Stuck) f o = absurd o
open_first (Err (LeavesOut d)) f o = absurd o

pub bind_same : {X Y : Type 0} (r : Read X) (f g : X × Cursor → Read Y) → ((x : X × Cursor) → f x ≡ g x) → (r >>= f) ≡ (r >>= g)
bind_same (Ok x) f g h = h x
bind_same (Err e) f g h = refl

-- what was done before the tokens end is done with further ones
pub done_longer : {X : Type 0} (r r' : Read X) (more : List Token) (x : X × Cursor) (t : Token) (ts : List Token) → Stays more r r' → r ≡ Ok x → x.1.tokens ≡ t ∷ ts → r' ≡ Ok (x.0, longer x.1 more)
done_longer {X} r r' more x t ts s e i = done_by (subst (λ u. Stays more u r') e s)
  where
    done_by : ((x.1.tokens ≡ []) ⊎ (r' ≡ Ok (x.0, longer x.1 more))) → r' ≡ Ok (x.0, longer x.1 more)
    done_by (inl n) = absurd (cc (n, i))
    done_by (inr y) = y

-- ---- lists

-- what a list goes on with behind an element: with the rest behind a comma, or it ends
abbrev pub goes_on : {Y : Type 0} → (Cursor → Read Y) → Y → (Y → Y) → Cursor → Read Y
goes_on rest last joins c =
    if begins (K.Symbol S.Comma) c then (taken (K.Symbol S.Comma) c >>= λ comma. rest comma.1 >>= λ ys. Ok (joins ys.0, ys.1)) else Ok (last, c)

goes_true : {Y : Type 0} (rest : Cursor → Read Y) (last : Y) (joins : Y → Y) (t : Token) (ts : List Token) (m : Marks) → is_terminal (K.Symbol S.Comma) t.kind ≡ true → goes_on rest last joins (record { tokens = t ∷ ts; marks = m }) ≡ (rest (record { tokens = ts; marks = m }) >>= λ ys. Ok (joins ys.0, ys.1))
unfolding taken
goes_true {Y} rest last joins t ts m e =
    let behind : Token × Cursor → Read Y = λ comma. rest comma.1 >>= λ ys. Ok (joins ys.0, ys.1) in
    ap (λ b. if b then ((if b then Ok (t, record { tokens = ts; marks = m }) else Err Stuck) >>= λ comma. behind comma) else Ok (last, record { tokens = t ∷ ts; marks = m })) e

goes_false : {Y : Type 0} (rest : Cursor → Read Y) (last : Y) (joins : Y → Y) (c : Cursor) → starts (K.Symbol S.Comma) c.tokens ≡ false → goes_on rest last joins c ≡ Ok (last, c)
goes_false rest last joins c e =
    ap (λ b. if b then (taken (K.Symbol S.Comma) c >>= λ comma. rest comma.1 >>= λ ys. Ok (joins ys.0, ys.1)) else Ok (last, c)) e

-- a reader of a list with fuel, of what it reads one element with
pub record Repeats {St X Y : Type 0} (one : St → Cursor → Read X) (list : ℕ → St → Cursor → Read Y) : Type 0 where
  pub next : St → X → St
  pub last : St → X → Y
  pub joins : St → X → Y → Y
  pub is : (n : ℕ) (st : St) (c : Cursor) → list (suc n) st c ≡ (one st c >>= λ x. goes_on (list n (next st x.0)) (last st x.0) (joins st x.0) x.1)
  pub no_longer : (st : St) (c : Cursor) (x : X × Cursor) → one st c ≡ Ok x → length x.1.tokens ≤ length c.tokens

module _ {St X Y : Type 0} {P Fe F : List Token → Type 0} (one : St → Cursor → Read X) (list : ℕ → St → Cursor → Read Y) (r : Repeats one list) (p : (st : St) → Prefixes P Fe (one st)) (ends : (w : List Token) → F w → Fe w × StartsNot (K.Symbol S.Comma) w) where
  abbrev behind : ℕ → St → X × Cursor → Read Y
  behind n st x = goes_on (list n (r.next st x.0)) (r.last st x.0) (r.joins st x.0) x.1

  open_behind : (n : ℕ) (st : St) (x : X × Cursor) → x.1.tokens ≡ [] → Open (behind n st x)
  open_behind n st x e =
      subst Open (sym (goes_false (list n (r.next st x.0)) (r.last st x.0) (r.joins st x.0) x.1 (ap (starts (K.Symbol S.Comma)) e))) e

  stays_comma : (n n' : ℕ) (st : St) (x : X) (t : Token) (ts more : List Token) (m : Marks) (b : Bool) → is_terminal (K.Symbol S.Comma) t.kind ≡ b → Stays more (list n (r.next st x) (record { tokens = ts; marks = m })) (list n' (r.next st x) (record { tokens = ts ++ more; marks = m })) → Stays more (behind n st (x, record { tokens = t ∷ ts; marks = m })) (behind n' st (x, record { tokens = t ∷ (ts ++ more); marks = m }))
  stays_comma n n' st x t ts more m true e h =
      let a = goes_true (list n (r.next st x)) (r.last st x) (r.joins st x) t ts m e in
      let a' = goes_true (list n' (r.next st x)) (r.last st x) (r.joins st x) t (ts ++ more) m e in
      let bound = stays_bind more _ _ (λ ys. Ok (r.joins st x ys.0, ys.1)) h (λ ys. inr refl) (λ ys o. o) in
      subst (λ u. Stays more u (behind n' st (x, record { tokens = t ∷ (ts ++ more); marks = m }))) (sym a) (subst (λ u. Stays more (list n (r.next st x) (record { tokens = ts; marks = m }) >>= λ ys. Ok (r.joins st x ys.0, ys.1)) u) (sym a') bound)
  stays_comma n n' st x t ts more m false e h =
      let c : Cursor = record { tokens = t ∷ ts; marks = m } in
      let a = goes_false (list n (r.next st x)) (r.last st x) (r.joins st x) c e in
      let a' = goes_false (list n' (r.next st x)) (r.last st x) (r.joins st x) (longer c more) e in
      subst (λ u. Stays more u (behind n' st (x, longer c more))) (sym a) (inr a')

  stays_behind : (n n' : ℕ) (st : St) (c : Cursor) (more : List Token) (x : X × Cursor) → one st c ≡ Ok x → length c.tokens < suc n → length (c.tokens ++ more) < suc n' → ((st : St) (d : Cursor) → length d.tokens < n → length (d.tokens ++ more) < n' → Stays more (list n st d) (list n' st (longer d more))) → (us : List Token) → x.1.tokens ≡ us → Stays more (behind n st x) (one st (longer c more) >>= behind n' st)
  stays_behind n n' st c more x e h h' on [] i = open_stays more _ _ (open_behind n st x i)
  stays_behind n n' st c more x e h h' on (t ∷ ts) i =
      let e' = done_longer (one st c) (one st (longer c more)) more x t ts ((p st).stays c more) e i in
      let low = r.no_longer st c x e in
      let low' = r.no_longer st (longer c more) (x.0, longer x.1 more) e' in
      let d : Cursor = record { tokens = ts; marks = x.1.marks } in
      let there = on (r.next st x.0) d (omega (arith, h, low, ap length i)) (omega (arith, h', low', ap (λ u. length (u ++ more)) i)) in
      let both = stays_comma n n' st x.0 t ts more x.1.marks (is_terminal (K.Symbol S.Comma) t.kind) refl there in
      let said = subst (λ u. Stays more (behind n st (x.0, record { tokens = u; marks = x.1.marks })) (behind n' st (x.0, record { tokens = u ++ more; marks = x.1.marks }))) (sym i) both in
      subst (λ u. Stays more (behind n st x) (u >>= behind n' st)) (sym e') said

  stays_element : (n n' : ℕ) (st : St) (c : Cursor) (more : List Token) (a : Read X) → one st c ≡ a → length c.tokens < suc n → length (c.tokens ++ more) < suc n' → ((st : St) (d : Cursor) → length d.tokens < n → length (d.tokens ++ more) < n' → Stays more (list n st d) (list n' st (longer d more))) → Stays more (a >>= behind n st) (one st (longer c more) >>= behind n' st)
  stays_element n n' st c more (Ok x) e h h' on = stays_behind n n' st c more x e h h' on x.1.tokens refl
  stays_element n n' st c more (Err Stuck) e h h' on =
      not_done_bind (one st (longer c more)) (behind n' st) (subst (λ u. Stays more u (one st (longer c more))) e ((p st).stays c more))
  stays_element n n' st c more (Err Ended) e h h' on = tt
  stays_element n n' st c more (Err (LeavesOut d)) e h h' on = tt

  stays_list : (n n' : ℕ) (st : St) (c : Cursor) (more : List Token) → length c.tokens < n → length (c.tokens ++ more) < n' → Stays more (list n st c) (list n' st (longer c more))
  stays_list zero n' st c more h h' = absurd (omega (arith, h))
  stays_list (suc n) zero st c more h h' = absurd (omega (arith, h'))
  stays_list (suc n) (suc n') st c more h h' =
      let a = stays_element n n' st c more (one st c) refl h h' (λ st' d l l'. stays_list n n' st' d more l l') in
      subst (λ u. Stays more u (list (suc n') st (longer c more))) (sym (r.is n st c)) (subst (λ u. Stays more (one st c >>= behind n st) u) (sym (r.is n' st (longer c more))) a)

  -- tokens that make the list done, with any fuel that is enough
  record Closes (st : St) (c : Cursor) : Type 0 where
    more : List Token
    given : Y
    marks : Marks
    reads : (n : ℕ) (w : List Token) → F w → length (c.tokens ++ (more ++ w)) < n → list n st (longer c (more ++ w)) ≡ Ok (given, record { tokens = w; marks = marks })
    leads : c.tokens ≡ [] → (w : List Token) → F w → P (more ++ w)

  closes_last : (st : St) (c : Cursor) → Open (one st c) → Closes st c
  closes_last st c o =
      record { more = k.more; given = r.last st k.given; marks = k.marks; reads = reads_last; leads = λ e w f. k.leads e w (ends w f).0 }
    where
      k : Closing P Fe (one st) c
      k = (p st).closes c o

      reads_last : (n : ℕ) (w : List Token) → F w → length (c.tokens ++ (k.more ++ w)) < n → list n st (longer c (k.more ++ w)) ≡ Ok (r.last st k.given, record { tokens = w; marks = k.marks })
      reads_last zero w f h = absurd (omega (arith, h))
      reads_last (suc n) w f h =
          r.is n st (longer c (k.more ++ w)) ∙ ap (λ u. u >>= behind n st) (k.reads w (ends w f).0) ∙ goes_false (list n (r.next st k.given)) (r.last st k.given) (r.joins st k.given) (record { tokens = w; marks = k.marks }) (ends w f).1

  closes_further : (st : St) (c : Cursor) (x : X × Cursor) (t : Token) (ts : List Token) → one st c ≡ Ok x → x.1.tokens ≡ t ∷ ts → is_terminal (K.Symbol S.Comma) t.kind ≡ true → Closes (r.next st x.0) (record { tokens = ts; marks = x.1.marks }) → Closes st c
  closes_further st c x t ts e i comma k =
      record { more = k.more; given = r.joins st x.0 k.given; marks = k.marks; reads = reads_further; leads = λ n. absurd (cc (subst Open e ((p st).opens c n), i)) }
    where
      reads_further : (n : ℕ) (w : List Token) → F w → length (c.tokens ++ (k.more ++ w)) < n → list n st (longer c (k.more ++ w)) ≡ Ok (r.joins st x.0 k.given, record { tokens = w; marks = k.marks })
      reads_further zero w f h = absurd (omega (arith, h))
      reads_further (suc n) w f h =
          let all = k.more ++ w in
          let e' = done_longer (one st c) (one st (longer c all)) all x t ts ((p st).stays c all) e i in
          let low = r.no_longer st (longer c all) (x.0, longer x.1 all) e' in
          let l : length (ts ++ all) < n = omega (arith, h, low, ap (λ u. length (u ++ all)) i) in
          let there = k.reads n w f l in
          let on = goes_true (list n (r.next st x.0)) (r.last st x.0) (r.joins st x.0) t (ts ++ all) x.1.marks comma in
          r.is n st (longer c all) ∙ ap (λ u. u >>= behind n st) e' ∙ ap (λ u. behind n st (x.0, record { tokens = u ++ all; marks = x.1.marks })) i ∙ on ∙ ap (λ u. u >>= λ ys. Ok (r.joins st x.0 ys.0, ys.1)) there

  closes_comma : (n : ℕ) (st : St) (c : Cursor) (x : X × Cursor) (t : Token) (ts : List Token) → one st c ≡ Ok x → x.1.tokens ≡ t ∷ ts → (Open (list n (r.next st x.0) (record { tokens = ts; marks = x.1.marks })) → Closes (r.next st x.0) (record { tokens = ts; marks = x.1.marks })) → (b : Bool) → is_terminal (K.Symbol S.Comma) t.kind ≡ b → Open (behind n st (x.0, record { tokens = t ∷ ts; marks = x.1.marks })) → Closes st c
  closes_comma n st c x t ts e i on true b o =
      let a = goes_true (list n (r.next st x.0)) (r.last st x.0) (r.joins st x.0) t ts x.1.marks b in
      closes_further st c x t ts e i b (on (open_first _ (r.joins st x.0) (subst Open a o)))
  closes_comma n st c x t ts e i on false b o =
      let d : Cursor = record { tokens = t ∷ ts; marks = x.1.marks } in
      let none : t ∷ ts ≡ [] = subst Open (goes_false (list n (r.next st x.0)) (r.last st x.0) (r.joins st x.0) d b) o in
      absurd (cc none)

  closes_behind : (n : ℕ) (st : St) (c : Cursor) (x : X × Cursor) → one st c ≡ Ok x → length c.tokens < suc n → ((st : St) (d : Cursor) → length d.tokens < n → Open (list n st d) → Closes st d) → Open (behind n st x) → (us : List Token) → x.1.tokens ≡ us → Closes st c
  closes_behind n st c x e h on o [] i = closes_last st c (subst Open (sym e) i)
  closes_behind n st c x e h on o (t ∷ ts) i =
      let d : Cursor = record { tokens = ts; marks = x.1.marks } in
      let low = r.no_longer st c x e in
      let l : length ts < n = omega (arith, h, low, ap length i) in
      closes_comma n st c x t ts e i (λ q. on (r.next st x.0) d l q) (is_terminal (K.Symbol S.Comma) t.kind) refl (subst (λ u. Open (behind n st (x.0, record { tokens = u; marks = x.1.marks }))) i o)

  closes_element : (n : ℕ) (st : St) (c : Cursor) (a : Read X) → one st c ≡ a → length c.tokens < suc n → ((st : St) (d : Cursor) → length d.tokens < n → Open (list n st d) → Closes st d) → Open (a >>= behind n st) → Closes st c
  closes_element n st c (Ok x) e h on o = closes_behind n st c x e h on o x.1.tokens refl
  closes_element n st c (Err Ended) e h on o = closes_last st c (subst Open (sym e) tt)
  closes_element n st c (Err Stuck) e h on o = absurd o
  closes_element n st c (Err (LeavesOut d)) e h on o = absurd o

  closes_list : (n : ℕ) (st : St) (c : Cursor) → length c.tokens < n → Open (list n st c) → Closes st c
  closes_list zero st c h o = absurd (omega (arith, h))
  closes_list (suc n) st c h o =
      closes_element n st c (one st c) refl h (λ st' d l q. closes_list n st' d l q) (subst Open (r.is n st c) o)

  opens_list : (n : ℕ) (st : St) (c : Cursor) → c.tokens ≡ [] → Open (list (suc n) st c)
  opens_list n st c e =
      subst Open (sym (r.is n st c)) (open_then (one st c) (behind n st) ((p st).opens c e) (λ x h i. open_behind n st x i))

  -- a list with fuel for all its tokens
  pub prefix_repeats : (st : St) → Prefixes P F (λ c. list (suc (length c.tokens)) st c)
  prefix_repeats st =
      record {
        stays = λ c more. stays_list (suc (length c.tokens)) (suc (length (c.tokens ++ more))) st c more (omega arith) (omega arith);
        opens = λ c e. opens_list (length c.tokens) st c e;
        closes = λ c o. let k = closes_list (suc (length c.tokens)) st c (omega arith) o in record {
          more = k.more;
          given = k.given;
          marks = k.marks;
          reads = λ w f. k.reads (suc (length (c.tokens ++ (k.more ++ w)))) w f (omega arith);
          leads = k.leads;
        };
      }
