-- How a reader does with beginnings at one cursor: for readers that go on in loops, look ahead, or differ by what stands first.
use Rattle.std.proofs.Common.{◌≡◌, ◌⊎◌, inl, inr, ℕ, zero, suc, ◌≤◌, List, [], ◌∷◌, ◌++◌, length, Bool, true, false, Ok, Err, refl, sym, ap, ◌∙◌, subst, append_assoc, arith}
use Rattle.std.specs.Prelude.{if◌then◌else◌, ◌&&◌, IsTrue}
use Rattle.std.specs.List.{list_all}
use Rattle.std.proofs.lemmas.List.Folds.{list_all-append}
use Rattle.pli_language.specs.declared.token.Kind.{Kind}
use Rattle.pli_language.specs.declared.token.Token.{Token}
use Rattle.pli_language.specs.Marks.{Marks}
use Rattle.pli_phrase.specs.Cursor.{Cursor, Stuck, Ended, LeavesOut, Read, ◌>>=◌}
use Rattle.pli_phrase.specs.Tokens.{is_terminal, taken}
use Rattle.pli_phrase.proofs.Prefixes.{not_done_bind, longer, Stays, Open, Closing, Prefixes, open_stays, Any, Next, made, Steady}

-- tokens that make a reader done, all of which pass a test
pub record Ending {X : Type 0} (T : Token → Bool) (P F : List Token → Type 0) (f : Cursor → Read X) (c : Cursor) : Type 0 where
  pub closing : Closing P F f c
  pub passes : IsTrue (list_all T closing.more)

-- how a reader does with the beginning at this cursor
pub record At {X : Type 0} (T : Token → Bool) (P F : List Token → Type 0) (f : Cursor → Read X) (c : Cursor) : Type 0 where
  pub stays : (more : List Token) → Stays more (f c) (f (longer c more))
  pub opens : c.tokens ≡ [] → Open (f c)
  pub closes : Open (f c) → Ending T P F f c

abbrev pub at : List Token → Marks → Cursor
at ts m = record { tokens = ts; marks = m }

-- any token passes
abbrev pub anything : Token → Bool
anything t = true

all_pass : (ts : List Token) → IsTrue (list_all anything ts)
all_pass [] = refl
all_pass (t ∷ ts) = all_pass ts

-- ---- between all cursors and one

pub at_one : {X : Type 0} {P F : List Token → Type 0} {f : Cursor → Read X} → Prefixes P F f → (c : Cursor) → At anything P F f c
at_one p c =
    record {
      stays = p.stays c;
      opens = p.opens c;
      closes = λ o. record { closing = p.closes c o; passes = all_pass (p.closes c o).more };
    }

-- with a token a reader is no less than steady
pub at_steady : {X : Type 0} {P F : List Token → Type 0} {f : Cursor → Read X} → Steady F f → (t : Token) (ts : List Token) (m : Marks) → At anything P F f (at (t ∷ ts) m)
at_steady p t ts m =
    record {
      stays = p.stays (at (t ∷ ts) m);
      opens = λ n. absurd (cc n);
      closes = λ o. let k = p.closes (at (t ∷ ts) m) o in record { closing = record { more = k.more; given = k.given; marks = k.marks; reads = k.reads; leads = λ n. absurd (cc n) }; passes = all_pass k.more };
    }

abbrev pub at_all : {X : Type 0} {T : Token → Bool} {P F : List Token → Type 0} {f : Cursor → Read X} → ((c : Cursor) → At T P F f c) → Prefixes P F f
at_all a = record { stays = λ c. (a c).stays; opens = λ c. (a c).opens; closes = λ c o. ((a c).closes o).closing }

-- the same reader, said otherwise
pub at_as : {X : Type 0} {T : Token → Bool} {P F : List Token → Type 0} (f f' : Cursor → Read X) (c : Cursor) → f' c ≡ f c → ((more : List Token) → f' (longer c more) ≡ f (longer c more)) → At T P F f c → At T P F f' c
at_as f f' c e i a =
    record {
      stays = λ more. subst (λ r. Stays more r (f' (longer c more))) (sym e) (subst (λ r. Stays more (f c) r) (sym (i more)) (a.stays more));
      opens = λ n. subst Open (sym e) (a.opens n);
      closes = λ o. let k = a.closes (subst Open e o) in record {
        closing = record { more = k.closing.more; given = k.closing.given; marks = k.closing.marks; reads = λ w h. i (k.closing.more ++ w) ∙ k.closing.reads w h; leads = k.closing.leads };
        passes = k.passes;
      };
    }

-- what may stand behind, and what it begins with, said otherwise
pub at_weaken : {X : Type 0} {T : Token → Bool} {P F P' F' : List Token → Type 0} (f : Cursor → Read X) (c : Cursor) → ((w : List Token) → F' w → F w) → ((w : List Token) → P w → P' w) → At T P F f c → At T P' F' f c
at_weaken f c narrow wide a =
    record {
      stays = a.stays;
      opens = a.opens;
      closes = λ o. let k = a.closes o in record {
        closing = record { more = k.closing.more; given = k.closing.given; marks = k.closing.marks; reads = λ w h. k.closing.reads w (narrow w h); leads = λ n w h. wide (k.closing.more ++ w) (k.closing.leads n w (narrow w h)) };
        passes = k.passes;
      };
    }

-- with a token nothing has to be said of what it begins with
pub at_some : {X : Type 0} {T : Token → Bool} {P Q F : List Token → Type 0} (f : Cursor → Read X) (t : Token) (ts : List Token) (m : Marks) → At T P F f (at (t ∷ ts) m) → At T Q F f (at (t ∷ ts) m)
at_some f t ts m a =
    record {
      stays = a.stays;
      opens = a.opens;
      closes = λ o. let k = a.closes o in record {
        closing = record { more = k.closing.more; given = k.closing.given; marks = k.closing.marks; reads = k.closing.reads; leads = λ n. absurd (cc n) };
        passes = k.passes;
      };
    }

-- ---- without a token, and with one that decides

-- where the tokens end
pub at_end : {X : Type 0} {T : Token → Bool} {P F : List Token → Type 0} (f : Cursor → Read X) (m : Marks) → Open (f (at [] m)) → Ending T P F f (at [] m) → At T P F f (at [] m)
at_end f m o k = record { stays = λ more. open_stays more (f (at [] m)) (f (at more m)) o; opens = λ n. o; closes = λ h. k }

-- no token is needed
pub at_end_ok : {X : Type 0} {T : Token → Bool} {F : List Token → Type 0} (f : Cursor → Read X) (x : X) (m : Marks) → f (at [] m) ≡ Ok (x, at [] m) → ((w : List Token) → F w → f (at w m) ≡ Ok (x, at w m)) → At T F F f (at [] m)
at_end_ok f x m e h =
    at_end f m (subst Open (sym e) refl) (record { closing = record { more = []; given = x; marks = m; reads = h; leads = λ n w i. i }; passes = refl })

-- done before the next token
pub at_done : {X : Type 0} {T : Token → Bool} {P F : List Token → Type 0} (x : X) (t : Token) (ts : List Token) (m : Marks) → At T P F (λ c. Ok (x, c)) (at (t ∷ ts) m)
at_done x t ts m = record { stays = λ more. inr refl; opens = λ n. absurd (cc n); closes = λ o. absurd (cc o) }

pub at_stuck : {X : Type 0} {T : Token → Bool} {P F : List Token → Type 0} (t : Token) (ts : List Token) (m : Marks) → At {X = X} T P F (λ c. Err Stuck) (at (t ∷ ts) m)
at_stuck t ts m = record { stays = λ more. refl; opens = λ n. absurd (cc n); closes = λ o. absurd o }

-- nothing is read
pub at_ok : {X : Type 0} {T : Token → Bool} {F : List Token → Type 0} (x : X) (c : Cursor) → At T F F (λ d. Ok (x, d)) c
at_ok {X} {T} {F} x c = by_tokens c.tokens c.marks
  where
    by_tokens : (ts : List Token) (m : Marks) → At T F F (λ d. Ok (x, d)) (at ts m)
    by_tokens [] m = at_end_ok (λ d. Ok (x, d)) x m refl (λ w h. refl)
    by_tokens (t ∷ ts) m = at_done x t ts m

if_so : {A : Type 0} (b b' : Bool) (x y : A) → b ≡ b' → (if b then x else y) ≡ (if b' then x else y)
if_so b b' x y e = ap (λ u. if u then x else y) e

-- a test that no further token changes
pub at_test : {X : Type 0} {T : Token → Bool} {P F : List Token → Type 0} (test : Cursor → Bool) (a b : Cursor → Read X) (c : Cursor) → ((more : List Token) → test (longer c more) ≡ test c) → (test c ≡ true → At T P F a c) → (test c ≡ false → At T P F b c) → At T P F (λ d. if test d then a d else b d) c
at_test {X} {T} {P} {F} test a b c same so not_so = by_test (test c) refl
  where
    by_test : (x : Bool) → test c ≡ x → At T P F (λ d. if test d then a d else b d) c
    by_test true e =
        at_as a (λ d. if test d then a d else b d) c (if_so (test c) true (a c) (b c) e) (λ more. if_so (test (longer c more)) true (a (longer c more)) (b (longer c more)) (same more ∙ e)) (so e)
    by_test false e =
        at_as b (λ d. if test d then a d else b d) c (if_so (test c) false (a c) (b c) e) (λ more. if_so (test (longer c more)) false (a (longer c more)) (b (longer c more)) (same more ∙ e)) (not_so e)

-- where the tokens end, and what the reader's tokens begin with decides
pub at_end_test : {X : Type 0} {T : Token → Bool} {P F : List Token → Type 0} (test : List Token → Bool) (a b : Cursor → Read X) (m : Marks) → test [] ≡ false → ((w : List Token) → P w → test w ≡ false) → At T P F b (at [] m) → At T P F (λ c. if test c.tokens then a c else b c) (at [] m)
at_end_test test a b m none other p =
    let e = if_so (test []) false (a (at [] m)) (b (at [] m)) none in
    let o = p.opens refl in
    let k = p.closes o in
    at_end (λ c. if test c.tokens then a c else b c) m (subst Open (sym e) o) (record {
      closing = record {
        more = k.closing.more;
        given = k.closing.given;
        marks = k.closing.marks;
        reads = λ w h. if_so (test (k.closing.more ++ w)) false (a (at (k.closing.more ++ w) m)) (b (at (k.closing.more ++ w) m)) (other (k.closing.more ++ w) (k.closing.leads refl w h)) ∙ k.closing.reads w h;
        leads = k.closing.leads;
      };
      passes = k.passes;
    })

-- a reader for where the first token passes a test, and one for where it doesn't or isn't there
pub prefix_test : {X : Type 0} {Q F : List Token → Type 0} (test : List Token → Bool) (a b : Cursor → Read X) → test [] ≡ false → ((t : Token) (ts more : List Token) → test (t ∷ (ts ++ more)) ≡ test (t ∷ ts)) → Steady F a → Prefixes Q F b → ((w : List Token) → Q w → test w ≡ false) → Prefixes Q F (λ c. if test c.tokens then a c else b c)
prefix_test {X} {Q} {F} test a b none first p q other = at_all (λ c. by_tokens c.tokens c.marks)
  where
    by_tokens : (ts : List Token) (m : Marks) → At anything Q F (λ c. if test c.tokens then a c else b c) (at ts m)
    by_tokens [] m = at_end_test test a b m none other (at_one q (at [] m))
    by_tokens (t ∷ ts) m =
        at_test (λ d. test d.tokens) a b (at (t ∷ ts) m) (first t ts) (λ e. at_steady p t ts m) (λ e. at_one q (at (t ∷ ts) m))

-- ---- what the first token leads to

-- a reader that goes on behind its first token
pub at_behind : {X : Type 0} {P F : List Token → Type 0} (f g : Cursor → Read X) (t : Token) (ts : List Token) (m : Marks) → ((us : List Token) → f (at (t ∷ us) m) ≡ g (at us m)) → Steady F g → At anything P F f (at (t ∷ ts) m)
at_behind f g t ts m is p =
    record {
      stays = λ more. subst (λ r. Stays more r (f (at (t ∷ (ts ++ more)) m))) (sym (is ts)) (subst (λ r. Stays more (g (at ts m)) r) (sym (is (ts ++ more))) (p.stays (at ts m) more));
      opens = λ n. absurd (cc n);
      closes = λ o. let k = p.closes (at ts m) (subst Open (is ts) o) in record {
        closing = record { more = k.more; given = k.given; marks = k.marks; reads = λ w h. is (ts ++ (k.more ++ w)) ∙ k.reads w h; leads = λ n. absurd (cc n) };
        passes = all_pass k.more;
      };
    }

-- where the tokens end, it goes on behind a token of this kind
pub at_end_behind : {X : Type 0} {Q F : List Token → Type 0} (f g : Cursor → Read X) (k : Kind) (m : Marks) → f (at [] m) ≡ Err Ended → ((us : List Token) → f (at (made k ∷ us) m) ≡ g (at us m)) → Prefixes Q F g → At anything (Next k) F f (at [] m)
at_end_behind f g k m none is q =
    let o = q.opens (at [] m) refl in
    let j = q.closes (at [] m) o in
    at_end f m (subst Open (sym none) tt) (record {
      closing = record { more = made k ∷ j.more; given = j.given; marks = j.marks; reads = λ w h. is (j.more ++ w) ∙ j.reads w h; leads = λ n w h. refl };
      passes = all_pass j.more;
    })

-- ---- marks

-- what is read is marked
pub prefix_marked : {X : Type 0} {F : List Token → Type 0} (x : X) (mark : Marks → Marks) → Prefixes F F (λ c. Ok (x, at c.tokens (mark c.marks)))
prefix_marked x mark =
    record {
      stays = λ c more. inr refl;
      opens = λ c e. e;
      closes = λ c e. record {
        more = [];
        given = x;
        marks = mark c.marks;
        reads = λ w h. ap (λ ts. Ok (x, at (ts ++ w) (mark c.marks))) e;
        leads = λ i w h. h;
      };
    }

-- marks before a reader
pub prefix_behind_marks : {X : Type 0} {P F : List Token → Type 0} (f : Cursor → Read X) (mark : Marks → Marks) → Prefixes P F f → Prefixes P F (λ c. f (at c.tokens (mark c.marks)))
prefix_behind_marks f mark p =
    record {
      stays = λ c more. p.stays (at c.tokens (mark c.marks)) more;
      opens = λ c e. p.opens (at c.tokens (mark c.marks)) e;
      closes = λ c o. let k = p.closes (at c.tokens (mark c.marks)) o in record { more = k.more; given = k.given; marks = k.marks; reads = k.reads; leads = k.leads };
    }

-- ---- in a row

both_pass : (T : Token → Bool) (xs ys : List Token) → IsTrue (list_all T xs) → IsTrue (list_all T ys) → IsTrue (list_all T (xs ++ ys))
both_pass T xs ys a b = list_all-append T xs ys ∙ ap (λ u. u && list_all T ys) a ∙ b

module _ {X Y : Type 0} {T : Token → Bool} {P Ff Q F : List Token → Type 0} (f : Cursor → Read X) (g : X × Cursor → Read Y) (c : Cursor) (a : At T P Ff f c) (q : (x : X × Cursor) → f c ≡ Ok x → At T Q F (λ d. g (x.0, d)) x.1) (n : (x : X) (m : Marks) → At T Q F (λ d. g (x, d)) (at [] m)) (into : (w : List Token) → Q w → Ff w) where
  stays_row : (more : List Token) (r : Read X) → f c ≡ r → Stays more (r >>= g) (f (longer c more) >>= g)
  stays_row more (Ok x) e = as_done (subst (λ r. Stays more r (f (longer c more))) e (a.stays more))
    where
      as_done : ((x.1.tokens ≡ []) ⊎ (f (longer c more) ≡ Ok (x.0, longer x.1 more))) → Stays more (g x) (f (longer c more) >>= g)
      as_done (inl i) = open_stays more (g x) (f (longer c more) >>= g) ((q x e).opens i)
      as_done (inr h) = subst (λ u. Stays more (g x) (u >>= g)) (sym h) ((q x e).stays more)
  stays_row more (Err Stuck) e =
      not_done_bind (f (longer c more)) g (subst (λ r. Stays more r (f (longer c more))) e (a.stays more))
  stays_row more (Err Ended) e = tt
  stays_row more (Err (LeavesOut d)) e = tt

  opens_row : c.tokens ≡ [] → (r : Read X) → f c ≡ r → Open (r >>= g)
  opens_row i (Ok x) e = (q x e).opens (subst Open e (a.opens i))
  opens_row i (Err Ended) e = tt
  opens_row i (Err Stuck) e = absurd (subst Open e (a.opens i))
  opens_row i (Err (LeavesOut d)) e = absurd (subst Open e (a.opens i))

  joined_row : Ending T P Ff f c → Ending T P F (λ d. f d >>= g) c
  joined_row k =
      let k' = k.closing in
      let p = n k'.given k'.marks in
      let j = p.closes (p.opens refl) in
      let j' = j.closing in
      record {
        closing = record {
          more = k'.more ++ j'.more;
          given = j'.given;
          marks = j'.marks;
          reads = λ w h. ap (λ u. f (longer c u) >>= g) (append_assoc k'.more j'.more w) ∙ ap (λ r. r >>= g) (k'.reads (j'.more ++ w) (into (j'.more ++ w) (j'.leads refl w h))) ∙ j'.reads w h;
          leads = λ e w h. subst P (sym (append_assoc k'.more j'.more w)) (k'.leads e (j'.more ++ w) (into (j'.more ++ w) (j'.leads refl w h)));
        };
        passes = both_pass T k'.more j'.more k.passes j.passes;
      }

  is_done : (x : X × Cursor) (t : Token) (ts more : List Token) → x.1.tokens ≡ t ∷ ts → f c ≡ Ok x → f (longer c more) ≡ Ok (x.0, longer x.1 more)
  is_done x t ts more e i = done_as (subst (λ r. Stays more r (f (longer c more))) i (a.stays more))
    where
      done_as : ((x.1.tokens ≡ []) ⊎ (f (longer c more) ≡ Ok (x.0, longer x.1 more))) → f (longer c more) ≡ Ok (x.0, longer x.1 more)
      done_as (inl i) = absurd (cc (i, e))
      done_as (inr y) = y

  closes_row : (r : Read X) → f c ≡ r → Open (r >>= g) → Ending T P F (λ d. f d >>= g) c
  closes_row (Ok x) e o = behind x e x.1.tokens refl o
    where
      behind : (x : X × Cursor) → f c ≡ Ok x → (ts : List Token) → x.1.tokens ≡ ts → Open (g x) → Ending T P F (λ d. f d >>= g) c
      behind x e [] i o = joined_row (a.closes (subst Open (sym e) i))
      behind x e (t ∷ ts) i o =
          let k = (q x e).closes o in
          record {
            closing = record {
              more = k.closing.more;
              given = k.closing.given;
              marks = k.closing.marks;
              reads = λ w h. ap (λ r. r >>= g) (is_done x t ts (k.closing.more ++ w) i e) ∙ k.closing.reads w h;
              leads = λ n. absurd (cc (subst Open e (a.opens n), i));
            };
            passes = k.passes;
          }
  closes_row (Err Ended) e o = joined_row (a.closes (subst Open (sym e) tt))
  closes_row (Err Stuck) e o = absurd o
  closes_row (Err (LeavesOut d)) e o = absurd o

-- one reader behind another, which has to be known where the first one stops, and where the tokens end
pub at_bind : {X Y : Type 0} {T : Token → Bool} {P Ff Q F : List Token → Type 0} (f : Cursor → Read X) (g : X × Cursor → Read Y) (c : Cursor) → At T P Ff f c → ((x : X × Cursor) → f c ≡ Ok x → At T Q F (λ d. g (x.0, d)) x.1) → ((x : X) (m : Marks) → At T Q F (λ d. g (x, d)) (at [] m)) → ((w : List Token) → Q w → Ff w) → At T P F (λ d. f d >>= g) c
at_bind f g c a q n into =
    record {
      stays = λ more. stays_row f g c a q n into more (f c) refl;
      opens = λ i. opens_row f g c a q n into i (f c) refl;
      closes = λ o. closes_row f g c a q n into (f c) refl o;
    }

-- what was read, made into something else
pub at_map : {X Y : Type 0} {T : Token → Bool} {P F : List Token → Type 0} (f : Cursor → Read X) (to : X → Y) (c : Cursor) → At T P F f c → At T P F (λ d. f d >>= λ x. Ok (to x.0, x.1)) c
at_map f to c a = at_bind f (λ x. Ok (to x.0, x.1)) c a (λ x e. at_ok (to x.0) x.1) (λ x m. at_ok (to x) (at [] m)) (λ w h. h)

-- ---- single tokens

pub taken_first : (k : Kind) (t : Token) (ts : List Token) (m : Marks) → is_terminal k t.kind ≡ true → taken k (at (t ∷ ts) m) ≡ Ok (t, at ts m)
unfolding taken
taken_first k t ts m e = if_so (is_terminal k t.kind) true (Ok (t, at ts m)) (Err Stuck) e

pub taken_other : (k : Kind) (t : Token) (ts : List Token) (m : Marks) → is_terminal k t.kind ≡ false → taken k (at (t ∷ ts) m) ≡ Err Stuck
unfolding taken
taken_other k t ts m e = if_so (is_terminal k t.kind) false (Ok (t, at ts m)) (Err Stuck) e

pub taken_none : (k : Kind) (m : Marks) → taken k (at [] m) ≡ Err Ended
unfolding taken
taken_none k m = refl

-- a reader of the first token alone
pub at_first : {X : Type 0} {T : Token → Bool} {P F : List Token → Type 0} (f : Cursor → Read X) (x : X) (t : Token) (ts : List Token) (m k : Marks) → ((us : List Token) → f (at (t ∷ us) m) ≡ Ok (x, at us k)) → At T P F f (at (t ∷ ts) m)
at_first {X} {T} {P} {F} f x t ts m k e =
    record {
      stays = λ more. subst (λ r. Stays more r (f (at (t ∷ (ts ++ more)) m))) (sym (e ts)) (inr (e (ts ++ more)));
      opens = λ n. absurd (cc n);
      closes = λ o. ends (subst Open (e ts) o);
    }
  where
    ends : ts ≡ [] → Ending T P F f (at (t ∷ ts) m)
    ends n =
        record {
          closing = record { more = []; given = x; marks = k; reads = λ w h. e (ts ++ w) ∙ ap (λ u. Ok (x, at (u ++ w) k)) n; leads = λ i. absurd (cc i) };
          passes = refl;
        }

-- where the tokens end, it reads a token of this kind
pub at_end_first : {X : Type 0} {T : Token → Bool} (f : Cursor → Read X) (x : X) (j : Kind) (m k : Marks) → f (at [] m) ≡ Err Ended → ((us : List Token) → f (at (made j ∷ us) m) ≡ Ok (x, at us k)) → T (made j) ≡ true → At T (Next j) Any f (at [] m)
at_end_first f x j m k none e passes =
    at_end f m (subst Open (sym none) tt) (record {
      closing = record { more = made j ∷ []; given = x; marks = k; reads = λ w h. e w; leads = λ n w h. refl };
      passes = ap (λ u. u && true) passes;
    })

-- a token that stands first
pub at_taken_first : {T : Token → Bool} {P F : List Token → Type 0} (k : Kind) (t : Token) (ts : List Token) (m : Marks) → is_terminal k t.kind ≡ true → At T P F (taken k) (at (t ∷ ts) m)
at_taken_first k t ts m e = at_first (taken k) t t ts m m (λ us. taken_first k t us m e)

pub at_taken : {T : Token → Bool} (k : Kind) → is_terminal k k ≡ true → T (made k) ≡ true → (c : Cursor) → At T (Next k) Any (taken k) c
at_taken {T} k self passes c = by_tokens c.tokens c.marks
  where
    by_tokens : (ts : List Token) (m : Marks) → At T (Next k) Any (taken k) (at ts m)
    by_tokens [] m = at_end_first (taken k) (made k) k m m (taken_none k m) (λ us. taken_first k (made k) us m self) passes
    by_tokens (t ∷ ts) m = by_kind (is_terminal k t.kind) refl
      where
        by_kind : (b : Bool) → is_terminal k t.kind ≡ b → At T (Next k) Any (taken k) (at (t ∷ ts) m)
        by_kind true e = at_taken_first k t ts m e
        by_kind false e =
            at_as (λ c. Err Stuck) (taken k) (at (t ∷ ts) m) (taken_other k t ts m e) (λ more. taken_other k t (ts ++ more) m e) (at_stuck t ts m)

-- ---- loops

module _ {I X : Type 0} {T : Token → Bool} {P F : List Token → Type 0} (f : I → Cursor → Read X) (none : (i : I) (m : Marks) → At T P F (f i) (at [] m)) (step : (i : I) (t : Token) (ts : List Token) (m : Marks) → ((j : I) (c : Cursor) → length c.tokens ≤ length ts → At T P F (f j) c) → At T P F (f i) (at (t ∷ ts) m)) where
  loop_within : (n : ℕ) (i : I) (ts : List Token) (m : Marks) → length ts ≤ n → At T P F (f i) (at ts m)
  loop_within n i [] m l = none i m
  loop_within zero i (t ∷ ts) m l = absurd (omega (arith, l))
  loop_within (suc n) i (t ∷ ts) m l = step i t ts m (λ j c k. loop_within n j c.tokens c.marks (omega (arith, k, l)))

  -- a reader that goes on with fewer tokens
  pub loop_at : (i : I) (c : Cursor) → At T P F (f i) c
  loop_at i c = loop_within (length c.tokens) i c.tokens c.marks (omega arith)

-- two readers that do the same with what was read
pub bind_same : {X Y : Type 0} (r : Read X) (g h : X × Cursor → Read Y) → ((x : X × Cursor) → r ≡ Ok x → g x ≡ h x) → (r >>= g) ≡ (r >>= h)
bind_same (Ok x) g h e = e x refl
bind_same (Err at) g h e = refl
