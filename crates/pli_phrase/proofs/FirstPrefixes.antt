-- What reading tells of the beginnings of what is read by its first token.
use Rattle.std.specs.Prelude.{if◌then◌else◌}
use Rattle.std.proofs.Common.{◌≡◌, ◌⊎◌, inl, inr, ℕ, List, [], ◌∷◌, ◌++◌, Option, Some, None, Bool, true, false, Ok, Err, refl, sym, ap, ◌∙◌, subst}
use Rattle.pli_language.specs.declared.token.Kind.{Kind}
use Rattle.pli_language.specs.declared.token.Kind.TheVariants as K
use Rattle.pli_language.specs.declared.token.Token.{Token}
use Rattle.pli_language.specs.Marks.{Marks}
use Rattle.pli_language.specs.Spells.{next_kind}
use Rattle.pli_phrase.specs.Cursor.{Cursor, Stuck, Ended, LeavesOut, Read}
use Rattle.pli_phrase.specs.Tokens.{is_terminal}
use Rattle.pli_phrase.specs.Reading.{OperandDue, expr_from}
use Rattle.pli_phrase.proofs.Prefixes.{is_done, longer, Stays, Open, Closing, Prefixes, Steady, StartsNot, Next, Allows, made, open_stays, next_not}
use Rattle.pli_phrase.proofs.RunPrefixes.{stops_expr, closes_run}
use Rattle.pli_phrase.proofs.PhrasePrefixes.{prefix_expr}

-- ---- the first token itself

abbrev pub first_token : List Token → Option Token
first_token [] = None
first_token (t ∷ ts) = Some t

-- a token of this kind, which stands at no place, is the first
abbrev pub First : Kind → List Token → Type 0
First k w = first_token w ≡ Some (made k)

pub first_next : (k : Kind) (w : List Token) → First k w → Next k w
first_next k [] h = absurd (cc h)
first_next k (t ∷ ts) h = let same : t ≡ made k = cc h in ap (λ u. Some u.kind) same

pub first_not : (terminal k : Kind) (w : List Token) → is_terminal terminal k ≡ false → First k w → StartsNot terminal w
first_not terminal k w e h = next_not terminal k w e (first_next k w h)

pub first_expr : (s : List ℕ) → Prefixes (First (K.Number 1)) (Allows stops_expr) (expr_from s)
unfolding expr_from
first_expr s =
    record {
      stays = (prefix_expr s).stays;
      opens = (prefix_expr s).opens;
      closes = λ c o. let k = closes_run s false c.tokens OperandDue [] c.marks refl o in record {
        more = k.more;
        given = k.given;
        marks = k.marks;
        reads = k.reads;
        leads = λ e w f. subst (λ u. First (K.Number 1) (u ++ w)) (sym (k.leads e)) refl;
      };
    }

-- ---- a mark that is made by the first token

module _ {X : Type 0} {F : List Token → Type 0} (k : Kind) (f : Cursor → Read X) (due : List Token → Marks → Marks) (same : (t : Token) (ts us : List Token) (m : Marks) → due (t ∷ ts) m ≡ due (t ∷ us) m) (p : Prefixes (First k) F f) where
  abbrev marked : Cursor → Read X
  marked c = f (record { tokens = c.tokens; marks = due c.tokens c.marks })

  stays_marked : (ts more : List Token) (m : Marks) → Stays more (marked (record { tokens = ts; marks = m })) (marked (record { tokens = ts ++ more; marks = m }))
  stays_marked [] more m = open_stays more _ _ (p.opens (record { tokens = []; marks = due [] m }) refl)
  stays_marked (t ∷ ts) more m =
      subst (λ u. Stays more (f (record { tokens = t ∷ ts; marks = due (t ∷ ts) m })) (f (record { tokens = t ∷ (ts ++ more); marks = u }))) (same t ts (ts ++ more) m) (p.stays (record { tokens = t ∷ ts; marks = due (t ∷ ts) m }) more)

  due_first : (w : List Token) (m : Marks) → First k w → due w m ≡ due (made k ∷ []) m
  due_first [] m h = absurd (cc h)
  due_first (t ∷ ts) m h =
      let one : t ≡ made k = cc h in
      ap (λ u. due (u ∷ ts) m) one ∙ same (made k) ts [] m

  closes_marked : (ts : List Token) (m : Marks) → Open (marked (record { tokens = ts; marks = m })) → Closing (First k) F marked (record { tokens = ts; marks = m })
  closes_marked [] m o =
      let at : Cursor = record { tokens = []; marks = due (made k ∷ []) m } in
      let x = p.closes at (p.opens at refl) in
      record {
        more = x.more;
        given = x.given;
        marks = x.marks;
        reads = λ w h. ap (λ u. f (record { tokens = x.more ++ w; marks = u })) (due_first (x.more ++ w) m (x.leads refl w h)) ∙ x.reads w h;
        leads = λ e w h. x.leads refl w h;
      }
  closes_marked (t ∷ ts) m o =
      let x = p.closes (record { tokens = t ∷ ts; marks = due (t ∷ ts) m }) o in
      record {
        more = x.more;
        given = x.given;
        marks = x.marks;
        reads = λ w h. ap (λ u. f (record { tokens = t ∷ (ts ++ (x.more ++ w)); marks = u })) (same t (ts ++ (x.more ++ w)) ts m) ∙ x.reads w h;
        leads = λ n. absurd (cc n);
      }

  pub prefix_marked : Prefixes (First k) F marked
  prefix_marked =
      record {
        stays = λ c more. stays_marked c.tokens more c.marks;
        opens = λ c e. p.opens (record { tokens = c.tokens; marks = due c.tokens c.marks }) e;
        closes = λ c o. closes_marked c.tokens c.marks o;
      }

-- ---- one reader for some kinds of the first token, another for the others

module _ {X : Type 0} {Q F : List Token → Type 0} (test : Option Kind → Bool) (none : test None ≡ false) (a b : Cursor → Read X) (p : Steady F a) (q : Prefixes Q F b) (other : (w : List Token) → Q w → test (next_kind w) ≡ false) where
  abbrev by_kind : Cursor → Read X
  by_kind c = if test (next_kind c.tokens) then a c else b c

  by_kind_is : (x : Bool) (c : Cursor) → test (next_kind c.tokens) ≡ x → by_kind c ≡ (if x then a c else b c)
  by_kind_is x c e = ap (λ u. if u then a c else b c) e

  open_none : (m : Marks) → Open (by_kind (record { tokens = []; marks = m }))
  open_none m =
      subst (λ u. Open (if u then a (record { tokens = []; marks = m }) else b (record { tokens = []; marks = m }))) (sym none) (q.opens (record { tokens = []; marks = m }) refl)

  stays_kind : (ts more : List Token) (m : Marks) → Stays more (by_kind (record { tokens = ts; marks = m })) (by_kind (record { tokens = ts ++ more; marks = m }))
  stays_kind [] more m = open_stays more _ _ (open_none m)
  stays_kind (t ∷ ts) more m = stays_at (test (Some t.kind))
    where
      stays_at : (x : Bool) → Stays more (if x then a (record { tokens = t ∷ ts; marks = m }) else b (record { tokens = t ∷ ts; marks = m })) (if x then a (record { tokens = t ∷ (ts ++ more); marks = m }) else b (record { tokens = t ∷ (ts ++ more); marks = m }))
      stays_at true = p.stays (record { tokens = t ∷ ts; marks = m }) more
      stays_at false = q.stays (record { tokens = t ∷ ts; marks = m }) more

  closes_kind : (ts : List Token) (m : Marks) → Open (by_kind (record { tokens = ts; marks = m })) → Closing Q F by_kind (record { tokens = ts; marks = m })
  closes_kind [] m o =
      let h = q.closes (record { tokens = []; marks = m }) (q.opens (record { tokens = []; marks = m }) refl) in
      record {
        more = h.more;
        given = h.given;
        marks = h.marks;
        reads = λ w i. by_kind_is false (record { tokens = h.more ++ w; marks = m }) (other (h.more ++ w) (h.leads refl w i)) ∙ h.reads w i;
        leads = λ e w i. h.leads refl w i;
      }
  closes_kind (t ∷ ts) m o = closes_by (test (Some t.kind)) refl o
    where
      closes_by : (x : Bool) → test (Some t.kind) ≡ x → Open (if x then a (record { tokens = t ∷ ts; marks = m }) else b (record { tokens = t ∷ ts; marks = m })) → Closing Q F by_kind (record { tokens = t ∷ ts; marks = m })
      closes_by true e o =
          let h = p.closes (record { tokens = t ∷ ts; marks = m }) o in
          record {
            more = h.more;
            given = h.given;
            marks = h.marks;
            reads = λ w i. by_kind_is true (record { tokens = t ∷ (ts ++ (h.more ++ w)); marks = m }) e ∙ h.reads w i;
            leads = λ n. absurd (cc n);
          }
      closes_by false e o =
          let h = q.closes (record { tokens = t ∷ ts; marks = m }) o in
          record {
            more = h.more;
            given = h.given;
            marks = h.marks;
            reads = λ w i. by_kind_is false (record { tokens = t ∷ (ts ++ (h.more ++ w)); marks = m }) e ∙ h.reads w i;
            leads = λ n. absurd (cc n);
          }

  -- where there is no token, the second is asked for a completion
  pub prefix_test : Prefixes Q F by_kind
  prefix_test =
      record {
        stays = λ c more. stays_kind c.tokens more c.marks;
        opens = λ c e. subst (λ u. Open (by_kind (record { tokens = u; marks = c.marks }))) (sym e) (open_none c.marks);
        closes = λ c o. closes_kind c.tokens c.marks o;
      }

-- ---- what goes on by the first token

-- the same was read, or else both fail alike; where something is left out, the places may differ
abbrev pub Alike : {X : Type 0} → Read X → Read X → Type 0
Alike (Ok x) r = r ≡ Ok x
Alike (Err Stuck) r = r ≡ Err Stuck
Alike (Err Ended) r = r ≡ Err Ended
Alike (Err (LeavesOut d)) r = (e : Cursor) × (r ≡ Err (LeavesOut e))

pub alike_same : {X : Type 0} (r : Read X) → Alike r r
alike_same (Ok x) = refl
alike_same (Err Stuck) = refl
alike_same (Err Ended) = refl
alike_same (Err (LeavesOut d)) = (d, refl)

alike_is : {X : Type 0} (a b a' : Read X) → Alike a b → a ≡ a' → Alike a' b
alike_is a b a' l e = subst (λ u. Alike u b) e l

alike_not_done : {X : Type 0} (a b : Read X) → Alike a b → is_done a ≡ false → is_done b ≡ false
alike_not_done (Ok x) b l e = absurd (cc e)
alike_not_done (Err Stuck) b l e = ap is_done l
alike_not_done (Err Ended) b l e = ap is_done l
alike_not_done (Err (LeavesOut d)) b l e = ap is_done l.1

pub alike_stays : {X : Type 0} (more : List Token) (a a' b b' : Read X) → Stays more a a' → Alike a b → Alike a' b' → Stays more b b'
alike_stays more (Ok x) a' b b' h l l' = subst (λ u. Stays more u b') (sym l) (ok_stays h)
  where
    ok_stays : ((x.1.tokens ≡ []) ⊎ (a' ≡ Ok (x.0, longer x.1 more))) → (x.1.tokens ≡ []) ⊎ (b' ≡ Ok (x.0, longer x.1 more))
    ok_stays (inl n) = inl n
    ok_stays (inr e) = inr (alike_is a' b' (Ok (x.0, longer x.1 more)) l' e)
alike_stays more (Err Stuck) a' b b' h l l' = subst (λ u. Stays more u b') (sym l) (alike_not_done a' b' l' h)
alike_stays more (Err Ended) a' b b' h l l' = subst (λ u. Stays more u b') (sym l) tt
alike_stays more (Err (LeavesOut d)) a' b b' h l l' = subst (λ u. Stays more u b') (sym l.1) tt

pub alike_open : {X : Type 0} (a b : Read X) → Alike a b → Open b → Open a
alike_open (Ok x) b l o = subst Open l o
alike_open (Err Ended) b l o = tt
alike_open (Err Stuck) b l o = subst Open l o
alike_open (Err (LeavesOut d)) b l o = subst Open l.1 o

module _ {X : Type 0} {F : List Token → Type 0} (at : List Token → Cursor → Read X) (g : Token → Kind → Cursor → Read X) (k : Kind) (ended : (c : Cursor) → at [] c ≡ Err Ended) (alike : (t : Token) (ts : List Token) (m : Marks) → Alike (g t t.kind (record { tokens = ts; marks = m })) (at (t ∷ ts) (record { tokens = t ∷ ts; marks = m }))) (q : (t : Token) (kind : Kind) → Steady F (g t kind)) (least : (c : Cursor) → c.tokens ≡ [] → Open (g (made k) k c)) where
  open_at : (m : Marks) → Open (at [] (record { tokens = []; marks = m }))
  open_at m = subst Open (sym (ended (record { tokens = []; marks = m }))) tt

  stays_token : (ts more : List Token) (m : Marks) → Stays more (at ts (record { tokens = ts; marks = m })) (at (ts ++ more) (record { tokens = ts ++ more; marks = m }))
  stays_token [] more m = open_stays more _ _ (open_at m)
  stays_token (t ∷ ts) more m =
      alike_stays more (g t t.kind (record { tokens = ts; marks = m })) (g t t.kind (record { tokens = ts ++ more; marks = m })) _ _ ((q t t.kind).stays (record { tokens = ts; marks = m }) more) (alike t ts m) (alike t (ts ++ more) m)

  closes_token : (ts : List Token) (m : Marks) → Open (at ts (record { tokens = ts; marks = m })) → Closing (First k) F (λ c. at c.tokens c) (record { tokens = ts; marks = m })
  closes_token [] m o =
      let x = (q (made k) k).closes (record { tokens = []; marks = m }) (least (record { tokens = []; marks = m }) refl) in
      record {
        more = made k ∷ x.more;
        given = x.given;
        marks = x.marks;
        reads = λ w h. alike_is (g (made k) k (record { tokens = x.more ++ w; marks = m })) (at (made k ∷ (x.more ++ w)) (record { tokens = made k ∷ (x.more ++ w); marks = m })) (Ok (x.given, record { tokens = w; marks = x.marks })) (alike (made k) (x.more ++ w) m) (x.reads w h);
        leads = λ e w h. refl;
      }
  closes_token (t ∷ ts) m o =
      let d : Cursor = record { tokens = ts; marks = m } in
      let x = (q t t.kind).closes d (alike_open (g t t.kind d) (at (t ∷ ts) (record { tokens = t ∷ ts; marks = m })) (alike t ts m) o) in
      record {
        more = x.more;
        given = x.given;
        marks = x.marks;
        reads = λ w h. let all = ts ++ (x.more ++ w) in alike_is (g t t.kind (record { tokens = all; marks = m })) (at (t ∷ all) (record { tokens = t ∷ all; marks = m })) (Ok (x.given, record { tokens = w; marks = x.marks })) (alike t all m) (x.reads w h);
        leads = λ n. absurd (cc n);
      }

  -- a token of this kind is the least that may stand first
  pub prefix_token : Prefixes (First k) F (λ c. at c.tokens c)
  prefix_token =
      record {
        stays = λ c more. stays_token c.tokens more c.marks;
        opens = λ c e. subst (λ u. Open (at u (record { tokens = u; marks = c.marks }))) (sym e) (open_at c.marks);
        closes = λ c o. closes_token c.tokens c.marks o;
      }
