-- What reading tells of more tokens than there are: a reader that is stuck isn't done whatever comes behind, one that is done before the tokens
-- end is done likewise, and one that comes to the end of the tokens is done with some tokens behind.
use Rattle.std.proofs.Common.{◌≡◌, ◌≢◌, ◌⊎◌, inl, inr, Option, Some, List, [], ◌∷◌, ◌++◌, Bool, true, false, Ok, Err, refl, sym, ap, ◌∙◌, subst, append_assoc}
use Rattle.std.specs.Prelude.{⊤, if◌then◌else◌}
use Rattle.pli_language.specs.declared.token.Kind.{Kind}
use Rattle.pli_language.specs.declared.token.Token.{Token}
use Rattle.pli_language.specs.Marks.{Marks}
use Rattle.pli_language.specs.Spells.{next_kind}
use Rattle.pli_phrase.specs.Cursor.{Cursor, Missed, Stuck, Ended, LeavesOut, Read, ◌>>=◌}
use Rattle.pli_phrase.specs.Tokens.{is_terminal, starts, begins, taken_at, taken}

-- further tokens behind those that are left
abbrev pub longer : Cursor → List Token → Cursor
longer c more = record { tokens = c.tokens ++ more; marks = c.marks }

abbrev pub is_done : {X : Type 0} → Read X → Bool
is_done (Ok x) = true
is_done (Err at) = false

-- what was read with further tokens behind, against what was read without: what is stuck isn't done, and what was done before the tokens end is done
abbrev pub Stays : {X : Type 0} → List Token → Read X → Read X → Type 0
Stays more (Ok x) r = (x.1.tokens ≡ []) ⊎ (r ≡ Ok (x.0, longer x.1 more))
Stays more (Err Stuck) r = is_done r ≡ false
Stays more (Err _) r = ⊤

-- reading came to the end of the tokens, done or not
abbrev pub Open : {X : Type 0} → Read X → Type 0
Open (Ok x) = x.1.tokens ≡ []
Open (Err Ended) = ⊤
Open (Err _) = ⊥

-- tokens that make a reader done with what it began, whatever F allows behind them; where it had no token, it begins as P says
pub record Closing {X : Type 0} (P F : List Token → Type 0) (f : Cursor → Read X) (c : Cursor) : Type 0 where
  pub more : List Token
  pub given : X
  pub marks : Marks
  pub reads : (w : List Token) → F w → f (longer c (more ++ w)) ≡ Ok (given, record { tokens = w; marks = marks })
  pub leads : c.tokens ≡ [] → (w : List Token) → F w → P (more ++ w)

-- how a reader does with beginnings of what it reads: P holds of what it begins with where it had no token, F of what may stand behind
pub record Prefixes {X : Type 0} (P F : List Token → Type 0) (f : Cursor → Read X) : Type 0 where
  pub stays : (c : Cursor) (more : List Token) → Stays more (f c) (f (longer c more))
  pub opens : (c : Cursor) → c.tokens ≡ [] → Open (f c)
  pub closes : (c : Cursor) → Open (f c) → Closing P F f c

-- ---- readers of nothing, and in a row

pub open_stays : {X : Type 0} (more : List Token) (r r' : Read X) → Open r → Stays more r r'
open_stays more (Ok x) r' o = inl o
open_stays more (Err Ended) r' o = tt
open_stays more (Err Stuck) r' o = absurd o
open_stays more (Err (LeavesOut d)) r' o = absurd o

nothing_more : (c : Cursor) (w : List Token) → c.tokens ≡ [] → longer c w ≡ record { tokens = w; marks = c.marks }
nothing_more c w e = ap (λ ts. record { tokens = ts ++ w; marks = c.marks }) e

-- nothing is read
pub prefix_ok : {X : Type 0} {F : List Token → Type 0} (x : X) → Prefixes F F (λ c. Ok (x, c))
prefix_ok {X} {F} x =
    record {
      stays = λ c more. inr refl;
      opens = λ c e. e;
      closes = λ c e. record {
        more = [];
        given = x;
        marks = c.marks;
        reads = λ w h. ap (λ d. Ok (x, d)) (nothing_more c w e);
        leads = λ i w h. h;
      };
    }

-- what may stand behind, and what it begins with, said otherwise
pub prefix_as : {X : Type 0} {P F P' F' : List Token → Type 0} {f : Cursor → Read X} → ((w : List Token) → F' w → F w) → ((w : List Token) → P w → P' w) → Prefixes P F f → Prefixes P' F' f
prefix_as {X} {P} {F} {P'} {F'} {f} narrow wide p =
    record {
      stays = p.stays;
      opens = p.opens;
      closes = λ c o. let k = p.closes c o in record {
        more = k.more;
        given = k.given;
        marks = k.marks;
        reads = λ w h. k.reads w (narrow w h);
        leads = λ e w h. wide (k.more ++ w) (k.leads e w (narrow w h));
      };
    }

pub not_done_bind : {X Y : Type 0} (r : Read X) (g : X × Cursor → Read Y) → is_done r ≡ false → is_done (r >>= g) ≡ false
not_done_bind (Ok x) g e = absurd (cc e)
not_done_bind (Err at) g e = refl

pub stays_bind : {X Y : Type 0} (more : List Token) (r r' : Read X) (g : X × Cursor → Read Y) → Stays more r r' → ((x : X × Cursor) → Stays more (g x) (g (x.0, longer x.1 more))) → ((x : X × Cursor) → x.1.tokens ≡ [] → Open (g x)) → Stays more (r >>= g) (r' >>= g)
stays_bind more (Ok x) r' g (inl e) h o = open_stays more (g x) (r' >>= g) (o x e)
stays_bind more (Ok x) r' g (inr e) h o = subst (λ u. Stays more (g x) (u >>= g)) (sym e) (h x)
stays_bind more (Err Stuck) r' g e h o = not_done_bind r' g e
stays_bind more (Err Ended) r' g e h o = tt
stays_bind more (Err (LeavesOut d)) r' g e h o = tt

open_bind : {X Y : Type 0} (r : Read X) (g : X × Cursor → Read Y) → Open r → ((x : X × Cursor) → x.1.tokens ≡ [] → Open (g x)) → Open (r >>= g)
open_bind (Ok x) g e o = o x e
open_bind (Err Ended) g e o = tt
open_bind (Err Stuck) g e o = absurd e
open_bind (Err (LeavesOut d)) g e o = absurd e

module _ {X Y : Type 0} {P Ff Q F : List Token → Type 0} (f : Cursor → Read X) (g : X × Cursor → Read Y) (p : Prefixes P Ff f) (q : (x : X) → Prefixes Q F (λ c. g (x, c))) (into : (w : List Token) → Q w → Ff w) (c : Cursor) where
  -- the first reader comes to the end of the tokens, and the second has none
  joined : Closing P Ff f c → Closing P F (λ d. f d >>= g) c
  joined k =
      let at : Cursor = record { tokens = []; marks = k.marks } in
      let j = (q k.given).closes at ((q k.given).opens at refl) in
      record {
        more = k.more ++ j.more;
        given = j.given;
        marks = j.marks;
        reads = λ w h. ap (λ u. f (longer c u) >>= g) (append_assoc k.more j.more w) ∙ ap (λ r. r >>= g) (k.reads (j.more ++ w) (into (j.more ++ w) (j.leads refl w h))) ∙ j.reads w h;
        leads = λ e w h. subst P (sym (append_assoc k.more j.more w)) (k.leads e (j.more ++ w) (into (j.more ++ w) (j.leads refl w h)));
      }

  done_before : (x : X × Cursor) (t : Token) (ts more : List Token) → x.1.tokens ≡ t ∷ ts → f c ≡ Ok x → f (longer c more) ≡ Ok (x.0, longer x.1 more)
  done_before x t ts more e i = done_as (subst (λ r. Stays more r (f (longer c more))) i (p.stays c more))
    where
      done_as : ((x.1.tokens ≡ []) ⊎ (f (longer c more) ≡ Ok (x.0, longer x.1 more))) → f (longer c more) ≡ Ok (x.0, longer x.1 more)
      done_as (inl n) = absurd (cc (n, e))
      done_as (inr y) = y

  found : (r : Read X) → f c ≡ r → Open (r >>= g) → Closing P F (λ d. f d >>= g) c
  found (Ok x) e o = behind x e x.1.tokens refl o
    where
      behind : (x : X × Cursor) → f c ≡ Ok x → (ts : List Token) → x.1.tokens ≡ ts → Open (g x) → Closing P F (λ d. f d >>= g) c
      behind x e [] i o = joined (p.closes c (subst Open (sym e) i))
      behind x e (t ∷ ts) i o =
          let k = (q x.0).closes x.1 o in
          record {
            more = k.more;
            given = k.given;
            marks = k.marks;
            reads = λ w h. ap (λ r. r >>= g) (done_before x t ts (k.more ++ w) i e) ∙ k.reads w h;
            leads = λ n. absurd (cc (subst Open e (p.opens c n), i));
          }
  found (Err Ended) e o = joined (p.closes c (subst Open (sym e) tt))
  found (Err Stuck) e o = absurd o
  found (Err (LeavesOut d)) e o = absurd o

-- one reader behind another
pub prefix_bind : {X Y : Type 0} {P Ff Q F : List Token → Type 0} (f : Cursor → Read X) (g : X × Cursor → Read Y) → Prefixes P Ff f → ((x : X) → Prefixes Q F (λ c. g (x, c))) → ((w : List Token) → Q w → Ff w) → Prefixes P F (λ c. f c >>= g)
prefix_bind {X} {Y} {P} {Ff} {Q} {F} f g p q into =
    record {
      stays = λ c more. stays_bind more (f c) (f (longer c more)) g (p.stays c more) (λ x. (q x.0).stays x.1 more) (λ x. (q x.0).opens x.1);
      opens = λ c e. open_bind (f c) g (p.opens c e) (λ x. (q x.0).opens x.1);
      closes = λ c o. found f g p q into c (f c) refl o;
    }

-- ---- what the first token decides

abbrev pub StartsNot : Kind → List Token → Type 0
StartsNot k w = starts k w ≡ false

if_is : {A : Type 0} (b b' : Bool) (x y : A) → b ≡ b' → (if b then x else y) ≡ (if b' then x else y)
if_is b b' x y e = ap (λ u. if u then x else y) e

module _ {X : Type 0} {P Q F : List Token → Type 0} (k : Kind) (a b : Cursor → Read X) (p : Prefixes P F a) (q : Prefixes Q F b) (other : (w : List Token) → Q w → P w × StartsNot k w) where
  abbrev chosen : Cursor → Read X
  chosen c = if begins k c then a c else b c

  stays_if : (ts more : List Token) (m : Marks) → Stays more (chosen (record { tokens = ts; marks = m })) (chosen (record { tokens = ts ++ more; marks = m }))
  stays_if [] more m = open_stays more (b (record { tokens = []; marks = m })) _ (q.opens (record { tokens = []; marks = m }) refl)
  stays_if (t ∷ ts) more m = stays_at (starts k (t ∷ ts))
    where
      stays_at : (x : Bool) → Stays more (if x then a (record { tokens = t ∷ ts; marks = m }) else b (record { tokens = t ∷ ts; marks = m })) (if x then a (record { tokens = t ∷ (ts ++ more); marks = m }) else b (record { tokens = t ∷ (ts ++ more); marks = m }))
      stays_at true = p.stays (record { tokens = t ∷ ts; marks = m }) more
      stays_at false = q.stays (record { tokens = t ∷ ts; marks = m }) more

  opens_if : (c : Cursor) → c.tokens ≡ [] → Open (chosen c)
  opens_if c e = subst (λ u. Open (if starts k u then a c else b c)) (sym e) (q.opens c e)

  closes_at : (ts : List Token) (m : Marks) → Open (chosen (record { tokens = ts; marks = m })) → Closing P F chosen (record { tokens = ts; marks = m })
  closes_at [] m o =
      let h = q.closes (record { tokens = []; marks = m }) o in
      record {
        more = h.more;
        given = h.given;
        marks = h.marks;
        reads = λ w i. if_is (starts k (h.more ++ w)) false (a (record { tokens = h.more ++ w; marks = m })) (b (record { tokens = h.more ++ w; marks = m })) (other (h.more ++ w) (h.leads refl w i)).1 ∙ h.reads w i;
        leads = λ e w i. (other (h.more ++ w) (h.leads refl w i)).0;
      }
  closes_at (t ∷ ts) m o = closes_by (starts k (t ∷ ts)) refl (subst Open refl o)
    where
      closes_by : (x : Bool) → starts k (t ∷ ts) ≡ x → Open (if x then a (record { tokens = t ∷ ts; marks = m }) else b (record { tokens = t ∷ ts; marks = m })) → Closing P F chosen (record { tokens = t ∷ ts; marks = m })
      closes_by true e o =
          let h = p.closes (record { tokens = t ∷ ts; marks = m }) o in
          record {
            more = h.more;
            given = h.given;
            marks = h.marks;
            reads = λ w i. if_is (starts k (t ∷ ts)) true _ _ e ∙ h.reads w i;
            leads = λ n. absurd (cc n);
          }
      closes_by false e o =
          let h = q.closes (record { tokens = t ∷ ts; marks = m }) o in
          record {
            more = h.more;
            given = h.given;
            marks = h.marks;
            reads = λ w i. if_is (starts k (t ∷ ts)) false _ _ e ∙ h.reads w i;
            leads = λ n. absurd (cc n);
          }

-- a reader for where this word or symbol stands first, and another for where it doesn't
pub prefix_if : {X : Type 0} {P Q F : List Token → Type 0} (k : Kind) (a b : Cursor → Read X) → Prefixes P F a → Prefixes Q F b → ((w : List Token) → Q w → P w × StartsNot k w) → Prefixes P F (λ c. if begins k c then a c else b c)
prefix_if {X} {P} {Q} {F} k a b p q other =
    record {
      stays = λ c more. stays_if k a b p q other c.tokens more c.marks;
      opens = λ c e. opens_if k a b p q other c e;
      closes = λ c o. closes_at k a b p q other c.tokens c.marks o;
    }

-- ---- single tokens

-- a token of this kind, which stands at no place
abbrev pub made : Kind → Token
made k = record { kind = k; start = 0; end = 0; line = 0; column = 0 }

-- this is the kind of the first token
abbrev pub Next : Kind → List Token → Type 0
Next k w = next_kind w ≡ Some k

-- the kind of the first token, if any, is one of these
abbrev pub Allows : (Option Kind → Bool) → List Token → Type 0
Allows f w = f (next_kind w) ≡ true

abbrev pub Any : List Token → Type 0
Any w = ⊤

pub next_not : (terminal k : Kind) (w : List Token) → is_terminal terminal k ≡ false → Next k w → StartsNot terminal w
next_not terminal k [] e n = refl
next_not terminal k (t ∷ ts) e n = let same : t.kind ≡ k = cc n in ap (is_terminal terminal) same ∙ e

pub next_allows : (f : Option Kind → Bool) (k : Kind) (w : List Token) → f (Some k) ≡ true → Next k w → Allows f w
next_allows f k w e n = ap f n ∙ e

stays_taken : (k : Kind) (ts more : List Token) (m : Marks) → Stays more (taken k (record { tokens = ts; marks = m })) (taken k (record { tokens = ts ++ more; marks = m }))
unfolding taken
stays_taken k [] more m = tt
stays_taken k (t ∷ ts) more m = stays_of (is_terminal k t.kind)
  where
    stays_of : (x : Bool) → Stays more (if x then Ok (t, record { tokens = ts; marks = m }) else Err Stuck) (if x then Ok (t, record { tokens = ts ++ more; marks = m }) else Err Stuck)
    stays_of true = inr refl
    stays_of false = refl

closes_taken : (k : Kind) (ts : List Token) (m : Marks) → is_terminal k k ≡ true → Open (taken k (record { tokens = ts; marks = m })) → Closing (Next k) Any (taken k) (record { tokens = ts; marks = m })
unfolding taken
closes_taken k [] m self o =
    record {
      more = made k ∷ [];
      given = made k;
      marks = m;
      reads = λ w h. ap (λ b. if b then Ok (made k, record { tokens = w; marks = m }) else Err Stuck) self;
      leads = λ e w h. refl;
    }
closes_taken k (t ∷ ts) m self o = closes_of (is_terminal k t.kind) refl o
  where
    closes_of : (x : Bool) → is_terminal k t.kind ≡ x → Open (if x then Ok (t, record { tokens = ts; marks = m }) else Err Stuck) → Closing (Next k) Any (taken k) (record { tokens = t ∷ ts; marks = m })
    closes_of true e o =
        record {
          more = [];
          given = t;
          marks = m;
          reads = λ w h. ap (λ b. if b then Ok (t, record { tokens = ts ++ w; marks = m }) else Err Stuck) e ∙ ap (λ u. Ok (t, record { tokens = u ++ w; marks = m })) o;
          leads = λ n. absurd (cc n);
        }
    closes_of false e o = absurd o

opens_taken : (k : Kind) (c : Cursor) → c.tokens ≡ [] → Open (taken k c)
unfolding taken
opens_taken k c e = subst (λ u. Open (taken_at k u c)) (sym e) tt

pub prefix_taken : (k : Kind) → is_terminal k k ≡ true → Prefixes (Next k) Any (taken k)
prefix_taken k self =
    record {
      stays = λ c more. stays_taken k c.tokens more c.marks;
      opens = opens_taken k;
      closes = λ c o. closes_taken k c.tokens c.marks self o;
    }

-- ---- what a word decides

-- how a reader does with beginnings that hold a token: it may be stuck without one
pub record Steady {X : Type 0} (F : List Token → Type 0) (f : Cursor → Read X) : Type 0 where
  pub stays : (c : Cursor) (more : List Token) → Stays more (f c) (f (longer c more))
  pub closes : (c : Cursor) → Open (f c) → Closing Any F f c

pub steady : {X : Type 0} {P F : List Token → Type 0} {f : Cursor → Read X} → Prefixes P F f → Steady F f
steady {X} {P} {F} {f} p =
    record {
      stays = p.stays;
      closes = λ c o. let k = p.closes c o in record { more = k.more; given = k.given; marks = k.marks; reads = k.reads; leads = λ e w h. tt };
    }

pub steady_err : {X : Type 0} {F : List Token → Type 0} (at : Cursor → Missed) → ((c : Cursor) (more : List Token) → Stays {X = X} more (Err (at c)) (Err (at (longer c more)))) → ((c : Cursor) → Open {X = X} (Err (at c)) → ⊥) → Steady {X = X} F (λ c. Err (at c))
steady_err at same never = record { stays = same; closes = λ c o. absurd (never c o) }

-- the reader of one token, which gives what that token alone decides, and is done with a token of this kind
pub record Firm {X : Type 0} (f : Cursor → Read X) (k : Kind) (given : X) : Type 0 where
  pub missed : (c : Cursor) (more : List Token) (at : Missed) → f c ≡ Err at → Stays more (f c) (f (longer c more))
  pub firm : (c : Cursor) (more : List Token) (x : X × Cursor) → f c ≡ Ok x → f (longer c more) ≡ Ok (x.0, longer x.1 more)
  pub none : (c : Cursor) → c.tokens ≡ [] → f c ≡ Err Ended
  pub ended : (c : Cursor) → f c ≡ Err Ended → c.tokens ≡ []
  pub takes : (w : List Token) (m : Marks) → f (record { tokens = made k ∷ w; marks = m }) ≡ Ok (given, record { tokens = w; marks = m })

module _ {X Y : Type 0} {F : List Token → Type 0} (f : Cursor → Read X) (k : Kind) (given : X) (g : X × Cursor → Read Y) (a : Firm f k given) (q : (x : X) → Steady F (λ c. g (x, c))) (o : (c : Cursor) → c.tokens ≡ [] → Open (g (given, c))) where
  firm_stays : (c : Cursor) (more : List Token) (r : Read X) → f c ≡ r → Stays more (r >>= g) (f (longer c more) >>= g)
  firm_stays c more (Ok x) e = subst (λ u. Stays more (g x) (u >>= g)) (sym (a.firm c more x e)) ((q x.0).stays x.1 more)
  firm_stays c more (Err Stuck) e =
      not_done_bind (f (longer c more)) g (subst (λ r. Stays more r (f (longer c more))) e (a.missed c more Stuck e))
  firm_stays c more (Err Ended) e = tt
  firm_stays c more (Err (LeavesOut d)) e = tt

  firm_closes : (c : Cursor) (r : Read X) → f c ≡ r → Open (r >>= g) → Closing (Next k) F (λ d. f d >>= g) c
  firm_closes c (Ok x) e h =
      let j = (q x.0).closes x.1 h in
      record {
        more = j.more;
        given = j.given;
        marks = j.marks;
        reads = λ w i. ap (λ r. r >>= g) (a.firm c (j.more ++ w) x e) ∙ j.reads w i;
        leads = λ n. absurd (cc (a.none c n, e));
      }
  firm_closes c (Err Ended) e h =
      let at : Cursor = record { tokens = []; marks = c.marks } in
      let j = (q given).closes at (o at refl) in
      record {
        more = made k ∷ j.more;
        given = j.given;
        marks = j.marks;
        reads = λ w i. ap (λ u. f u >>= g) (nothing_more c (made k ∷ (j.more ++ w)) (a.ended c e)) ∙ ap (λ r. r >>= g) (a.takes (j.more ++ w) c.marks) ∙ j.reads w i;
        leads = λ n w i. refl;
      }
  firm_closes c (Err Stuck) e h = absurd h
  firm_closes c (Err (LeavesOut d)) e h = absurd h

-- a reader that goes on by what its first token says
pub firm_bind : {X Y : Type 0} {F : List Token → Type 0} (f : Cursor → Read X) (k : Kind) (given : X) (g : X × Cursor → Read Y) → Firm f k given → ((x : X) → Steady F (λ c. g (x, c))) → ((c : Cursor) → c.tokens ≡ [] → Open (g (given, c))) → Prefixes (Next k) F (λ c. f c >>= g)
firm_bind {X} {Y} {F} f k given g a q o =
    record {
      stays = λ c more. firm_stays f k given g a q o c more (f c) refl;
      opens = λ c e. subst (λ r. Open (r >>= g)) (sym (a.none c e)) tt;
      closes = λ c h. firm_closes f k given g a q o c (f c) refl h;
    }

-- a reader of one token alone
pub firm_prefix : {X : Type 0} (f : Cursor → Read X) (k : Kind) (given : X) → Firm f k given → Prefixes (Next k) Any f
firm_prefix f k given a =
    record {
      stays = λ c more. alone_stays c more (f c) refl;
      opens = λ c e. subst Open (sym (a.none c e)) tt;
      closes = λ c h. alone_closes c (f c) refl h;
    }
  where
    alone_stays : (c : Cursor) (more : List Token) (r : Read _) → f c ≡ r → Stays more r (f (longer c more))
    alone_stays c more (Ok x) e = inr (a.firm c more x e)
    alone_stays c more (Err at) e = subst (λ r. Stays more r (f (longer c more))) e (a.missed c more at e)

    alone_closes : (c : Cursor) (r : Read _) → f c ≡ r → Open r → Closing (Next k) Any f c
    alone_closes c (Ok x) e h =
        record {
          more = [];
          given = x.0;
          marks = x.1.marks;
          reads = λ w i. a.firm c w x e ∙ ap (λ d. Ok (x.0, d)) (nothing_more x.1 w h);
          leads = λ n. absurd (cc (a.none c n, e));
        }
    alone_closes c (Err Ended) e h =
        record {
          more = made k ∷ [];
          given = given;
          marks = c.marks;
          reads = λ w i. ap f (nothing_more c (made k ∷ w) (a.ended c e)) ∙ a.takes w c.marks;
          leads = λ n w i. refl;
        }
    alone_closes c (Err Stuck) e h = absurd h
    alone_closes c (Err (LeavesOut d)) e h = absurd h
