-- What reading tells of the beginnings of phrases: names and numbers, expressions and references, lists and assignments.
use Rattle.std.specs.Prelude.{if◌then◌else◌, IsTrue}
use Rattle.std.specs.List.{list_all}
use Rattle.std.proofs.Common.{◌≡◌, ◌≢◌, ◌⊎◌, inl, inr, ℕ, suc, ◌≤◌, List, [], ◌∷◌, ◌++◌, length, Option, Some, Bool, true, false, Ok, Err, refl, sym, ap, ◌∙◌, subst, arith}
use Rattle.pli_language.specs.declared.token.Word.TheVariants as W
use Rattle.pli_language.specs.declared.token.Symbol.TheVariants as S
use Rattle.pli_language.specs.declared.token.Kind.{Kind}
use Rattle.pli_language.specs.declared.token.Kind.TheVariants as K
use Rattle.pli_language.specs.declared.token.Token.{Token}
use Rattle.pli_language.specs.Marks.{Marks, argument}
use Rattle.pli_language.specs.Spells.{name_at, next_kind, place_of}
use Rattle.pli_language.specs.Tree as T
use Rattle.pli_phrase.specs.Cursor.{Cursor, Stuck, Ended, LeavesOut, Read, ◌>>=◌}
use Rattle.pli_phrase.specs.Tokens.{starts, begins, taken, named, name_from, numbered, number_from, count_from}
use Rattle.pli_phrase.specs.declared.expression.Beginning.TheVariants.{Unknown}
use Rattle.pli_phrase.specs.Reading.{Alone, OperandDue, NameDue, no_path, run, expr_from, as_reference, reference_from, item_due, items_from, exprs_with, exprs_from, listed_from, arguments_from, begun, begun_by, assignment_begins}
use Rattle.pli_phrase.proofs.Tokens.{symbol_is, starts_not}
use Rattle.pli_phrase.proofs.Runs.{run_empty}
use Rattle.pli_phrase.proofs.Expressions.{expr_sound, reference_stays}
use Rattle.pli_phrase.proofs.OpenRests.{stuck_run}
use Rattle.pli_phrase.proofs.Prefixes.{not_done_bind, longer, Stays, Open, Closing, Prefixes, Steady, Firm, StartsNot, Next, Allows, Any, made, open_stays, prefix_ok, prefix_as, prefix_bind, prefix_taken, firm_prefix, next_not, next_allows, steady}
use Rattle.pli_phrase.proofs.RepeatPrefixes.{goes_on, Repeats, prefix_repeats, bind_same}
use Rattle.pli_phrase.proofs.RunPrefixes as R
pub use Rattle.pli_phrase.proofs.RunPrefixes.{stops_reference, stops_expr, Rest, is_plain}

-- what was read of one token, with further tokens behind
read_longer : {X : Type 0} (f : Cursor → Read X) (x : X) (c : Cursor) (more : List Token) (y : X × Cursor) → (x, c) ≡ y → f (longer c more) ≡ Ok (x, longer c more) → f (longer c more) ≡ Ok (y.0, longer y.1 more)
read_longer f x c more y e h = h ∙ ap (λ u. Ok (u.0, longer u.1 more)) e

-- ---- names

name_missed : (s : List ℕ) (ts more : List Token) (m : Marks) → Stays more (name_from s (record { tokens = ts; marks = m })) (name_from s (record { tokens = ts ++ more; marks = m }))
unfolding name_from
name_missed s [] more m = tt
name_missed s (t ∷ ts) more m = at_kind t.kind
  where
    at_kind : (k : Kind) → Stays more (named s t k (record { tokens = ts; marks = m })) (named s t k (record { tokens = ts ++ more; marks = m }))
    at_kind (K.Name word) = inr refl
    at_kind _ = refl

named_firm : (s : List ℕ) (t : Token) (k : Kind) (c : Cursor) (more : List Token) (x : T.Name × Cursor) → named s t k c ≡ Ok x → named s t k (longer c more) ≡ Ok (x.0, longer x.1 more)
named_firm s t (K.Name word) c more x e = read_longer (named s t (K.Name word)) (name_at s t word) c more x (cc e) refl
named_firm s t _ c more x e = absurd (cc e)

name_firm : (s : List ℕ) (ts more : List Token) (m : Marks) (x : T.Name × Cursor) → name_from s (record { tokens = ts; marks = m }) ≡ Ok x → name_from s (record { tokens = ts ++ more; marks = m }) ≡ Ok (x.0, longer x.1 more)
unfolding name_from
name_firm s [] more m x e = absurd (cc e)
name_firm s (t ∷ ts) more m x e = named_firm s t t.kind (record { tokens = ts; marks = m }) more x e

name_none : (s : List ℕ) (c : Cursor) → c.tokens ≡ [] → name_from s c ≡ Err Ended
unfolding name_from
name_none s c e = ap (λ ts. name_from s (record { tokens = ts; marks = c.marks })) e

named_goes_on : (s : List ℕ) (t : Token) (k : Kind) (c : Cursor) → named s t k c ≡ Err Ended → ⊥
named_goes_on s t (K.Name word) c e = cc e
named_goes_on s t _ c e = cc e

name_ended : (s : List ℕ) (ts : List Token) (m : Marks) → name_from s (record { tokens = ts; marks = m }) ≡ Err Ended → ts ≡ []
unfolding name_from
name_ended s [] m e = refl
name_ended s (t ∷ ts) m e = absurd (named_goes_on s t t.kind (record { tokens = ts; marks = m }) e)

name_takes : (s : List ℕ) (w : List Token) (m : Marks) → name_from s (record { tokens = made (K.Name W.Other) ∷ w; marks = m }) ≡ Ok (name_at s (made (K.Name W.Other)) W.Other, record { tokens = w; marks = m })
unfolding name_from
name_takes s w m = refl

pub firm_name : (s : List ℕ) → Firm (name_from s) (K.Name W.Other) (name_at s (made (K.Name W.Other)) W.Other)
firm_name s =
    record {
      missed = λ c more at e. name_missed s c.tokens more c.marks;
      firm = λ c more x e. name_firm s c.tokens more c.marks x e;
      none = name_none s;
      ended = λ c e. name_ended s c.tokens c.marks e;
      takes = name_takes s;
    }

pub prefix_name : (s : List ℕ) → Prefixes (Next (K.Name W.Other)) Any (name_from s)
prefix_name s = firm_prefix (name_from s) (K.Name W.Other) (name_at s (made (K.Name W.Other)) W.Other) (firm_name s)

-- ---- numbers

number_missed : (ts more : List Token) (m : Marks) → Stays more (number_from (record { tokens = ts; marks = m })) (number_from (record { tokens = ts ++ more; marks = m }))
unfolding number_from
number_missed [] more m = tt
number_missed (t ∷ ts) more m = at_kind t.kind
  where
    at_kind : (k : Kind) → Stays more (numbered t k (record { tokens = ts; marks = m })) (numbered t k (record { tokens = ts ++ more; marks = m }))
    at_kind (K.Number n) = inr refl
    at_kind _ = refl

numbered_firm : (t : Token) (k : Kind) (c : Cursor) (more : List Token) (x : ℕ × Cursor) → numbered t k c ≡ Ok x → numbered t k (longer c more) ≡ Ok (x.0, longer x.1 more)
numbered_firm t (K.Number n) c more x e = read_longer (numbered t (K.Number n)) n c more x (cc e) refl
numbered_firm t _ c more x e = absurd (cc e)

number_firm : (ts more : List Token) (m : Marks) (x : ℕ × Cursor) → number_from (record { tokens = ts; marks = m }) ≡ Ok x → number_from (record { tokens = ts ++ more; marks = m }) ≡ Ok (x.0, longer x.1 more)
unfolding number_from
number_firm [] more m x e = absurd (cc e)
number_firm (t ∷ ts) more m x e = numbered_firm t t.kind (record { tokens = ts; marks = m }) more x e

number_none : (c : Cursor) → c.tokens ≡ [] → number_from c ≡ Err Ended
unfolding number_from
number_none c e = ap (λ ts. number_from (record { tokens = ts; marks = c.marks })) e

numbered_goes_on : (t : Token) (k : Kind) (c : Cursor) → numbered t k c ≡ Err Ended → ⊥
numbered_goes_on t (K.Number n) c e = cc e
numbered_goes_on t _ c e = cc e

number_ended : (ts : List Token) (m : Marks) → number_from (record { tokens = ts; marks = m }) ≡ Err Ended → ts ≡ []
unfolding number_from
number_ended [] m e = refl
number_ended (t ∷ ts) m e = absurd (numbered_goes_on t t.kind (record { tokens = ts; marks = m }) e)

number_takes : (n : ℕ) (w : List Token) (m : Marks) → number_from (record { tokens = made (K.Number n) ∷ w; marks = m }) ≡ Ok (n, record { tokens = w; marks = m })
unfolding number_from
number_takes n w m = refl

pub firm_number_as : (n : ℕ) → Firm number_from (K.Number n) n
firm_number_as n =
    record {
      missed = λ c more at e. number_missed c.tokens more c.marks;
      firm = λ c more x e. number_firm c.tokens more c.marks x e;
      none = number_none;
      ended = λ c e. number_ended c.tokens c.marks e;
      takes = number_takes n;
    }

pub prefix_number : Prefixes (Next (K.Number 1)) Any number_from
prefix_number = firm_prefix number_from (K.Number 1) 1 (firm_number_as 1)

-- ---- symbols

pub prefix_symbol : (y : _) → Prefixes (Next (K.Symbol y)) Any (taken (K.Symbol y))
prefix_symbol y = prefix_taken (K.Symbol y) (symbol_is y)

pub prefix_count : Prefixes (Next (K.Symbol S.OpenParenthesis)) Any count_from
unfolding count_from
prefix_count =
    prefix_bind (taken (K.Symbol S.OpenParenthesis)) (λ t. number_from t.1 >>= λ n. taken (K.Symbol S.CloseParenthesis) n.1 >>= λ u. Ok (n.0, u.1)) (prefix_symbol S.OpenParenthesis)
    (λ t. prefix_bind number_from (λ n. taken (K.Symbol S.CloseParenthesis) n.1 >>= λ u. Ok (n.0, u.1)) prefix_number
    (λ n. prefix_bind (taken (K.Symbol S.CloseParenthesis)) (λ u. Ok (n, u.1)) (prefix_symbol S.CloseParenthesis) (λ u. prefix_ok n) (λ w h. tt))
    (λ w h. tt))
    (λ w h. tt)

-- ---- one reader for where a word or symbol stands, another for where it doesn't

module _ {X : Type 0} {Q F : List Token → Type 0} (k : Kind) (a b : Cursor → Read X) (p : Steady F a) (q : Prefixes Q F b) (other : (w : List Token) → Q w → StartsNot k w) where
  abbrev either : Cursor → Read X
  either c = if begins k c then a c else b c

  either_is : (x : Bool) (c : Cursor) → starts k c.tokens ≡ x → either c ≡ (if x then a c else b c)
  either_is x c e = ap (λ u. if u then a c else b c) e

  stays_either : (ts more : List Token) (m : Marks) → Stays more (either (record { tokens = ts; marks = m })) (either (record { tokens = ts ++ more; marks = m }))
  stays_either [] more m = open_stays more (b (record { tokens = []; marks = m })) _ (q.opens (record { tokens = []; marks = m }) refl)
  stays_either (t ∷ ts) more m = stays_at (starts k (t ∷ ts))
    where
      stays_at : (x : Bool) → Stays more (if x then a (record { tokens = t ∷ ts; marks = m }) else b (record { tokens = t ∷ ts; marks = m })) (if x then a (record { tokens = t ∷ (ts ++ more); marks = m }) else b (record { tokens = t ∷ (ts ++ more); marks = m }))
      stays_at true = p.stays (record { tokens = t ∷ ts; marks = m }) more
      stays_at false = q.stays (record { tokens = t ∷ ts; marks = m }) more

  closes_either : (ts : List Token) (m : Marks) → Open (either (record { tokens = ts; marks = m })) → Closing Q F either (record { tokens = ts; marks = m })
  closes_either [] m o =
      let h = q.closes (record { tokens = []; marks = m }) o in
      record {
        more = h.more;
        given = h.given;
        marks = h.marks;
        reads = λ w i. either_is false (record { tokens = h.more ++ w; marks = m }) (other (h.more ++ w) (h.leads refl w i)) ∙ h.reads w i;
        leads = λ e w i. h.leads refl w i;
      }
  closes_either (t ∷ ts) m o = closes_by (starts k (t ∷ ts)) refl o
    where
      closes_by : (x : Bool) → starts k (t ∷ ts) ≡ x → Open (if x then a (record { tokens = t ∷ ts; marks = m }) else b (record { tokens = t ∷ ts; marks = m })) → Closing Q F either (record { tokens = t ∷ ts; marks = m })
      closes_by true e o =
          let h = p.closes (record { tokens = t ∷ ts; marks = m }) o in
          record {
            more = h.more;
            given = h.given;
            marks = h.marks;
            reads = λ w i. either_is true (record { tokens = t ∷ (ts ++ (h.more ++ w)); marks = m }) e ∙ h.reads w i;
            leads = λ n. absurd (cc n);
          }
      closes_by false e o =
          let h = q.closes (record { tokens = t ∷ ts; marks = m }) o in
          record {
            more = h.more;
            given = h.given;
            marks = h.marks;
            reads = λ w i. either_is false (record { tokens = t ∷ (ts ++ (h.more ++ w)); marks = m }) e ∙ h.reads w i;
            leads = λ n. absurd (cc n);
          }

-- the first may be stuck where there is no token: the second is asked for a completion there
pub prefix_when : {X : Type 0} {Q F : List Token → Type 0} (k : Kind) (a b : Cursor → Read X) → Steady F a → Prefixes Q F b → ((w : List Token) → Q w → StartsNot k w) → Prefixes Q F (λ c. if begins k c then a c else b c)
prefix_when k a b p q other =
    record {
      stays = λ c more. stays_either k a b p q other c.tokens more c.marks;
      opens = λ c e. subst (λ u. Open (if starts k u then a c else b c)) (sym e) (q.opens c e);
      closes = λ c o. closes_either k a b p q other c.tokens c.marks o;
    }

-- no token of this kind stands where none may
pub allows_not : (f : Option Kind → Bool) (k : Kind) (w : List Token) → f (Some k) ≡ false → Allows f w → StartsNot k w
allows_not f k w e h = starts_not k w (λ i. let c : true ≡ false = sym h ∙ ap f i ∙ e in cc c)

-- ---- expressions

opens_expr : (s : List ℕ) (c : Cursor) → c.tokens ≡ [] → Open (expr_from s c)
unfolding expr_from
opens_expr s c e =
    subst (λ u. Open (run s OperandDue [] c.marks u)) (sym e) (subst Open (sym (run_empty s OperandDue [] c.marks)) tt)

pub prefix_expr : (s : List ℕ) → Prefixes (Next (K.Number 1)) (Allows stops_expr) (expr_from s)
unfolding expr_from
prefix_expr s =
    record {
      stays = λ c more. R.stays_run s false c.tokens more OperandDue [] c.marks;
      opens = opens_expr s;
      closes = λ c o. let k = R.closes_run s false c.tokens OperandDue [] c.marks refl o in record {
        more = k.more;
        given = k.given;
        marks = k.marks;
        reads = k.reads;
        leads = λ e w f. subst (λ u. Next (K.Number 1) (u ++ w)) (sym (k.leads e)) refl;
      };
    }

-- the tokens that complete an expression hold no THEN and no `=`
pub expr_more : (s : List ℕ) (c : Cursor) (o : Open (expr_from s c)) → IsTrue (list_all is_plain ((prefix_expr s).closes c o).more)
unfolding prefix_expr expr_from
expr_more s c o = (R.closes_run s false c.tokens OperandDue [] c.marks refl o).plain

-- what is left behind an expression are the last of its tokens
pub expr_rest : (s : List ℕ) (c : Cursor) (x : T.Expr × Cursor) → expr_from s c ≡ Ok x → Rest c.tokens x.1.tokens
unfolding expr_from
expr_rest s c x h = R.rest_run s false c.tokens OperandDue [] c.marks x h

-- ---- references

reference_given : (x : T.Expr × Cursor) (c : Cursor) (g : R.Given true x.0) → as_reference (x.0, c) ≡ Ok (g.0, c)
reference_given x c g = ap (λ e. as_reference (e, c)) g.1

stays_reference : (more : List Token) (r r' : Read T.Expr) → Stays more r r' → ((x : T.Expr × Cursor) → r ≡ Ok x → R.Given true x.0) → Stays more (r >>= λ x. as_reference x) (r' >>= λ x. as_reference x)
stays_reference more (Ok x) r' h given = stays_given (given x refl) h
  where
    stays_given : (g : R.Given true x.0) → ((x.1.tokens ≡ []) ⊎ (r' ≡ Ok (x.0, longer x.1 more))) → Stays more (as_reference x) (r' >>= λ x. as_reference x)
    stays_given g (inl n) = subst (λ u. Stays more u (r' >>= λ x. as_reference x)) (sym (reference_given x x.1 g)) (inl n)
    stays_given g (inr y) =
        subst (λ u. Stays more u (r' >>= λ x. as_reference x)) (sym (reference_given x x.1 g)) (inr (ap (λ u. u >>= λ x. as_reference x) y ∙ reference_given x (longer x.1 more) g))
stays_reference more (Err Stuck) r' h given = not_done_bind r' (λ x. as_reference x) h
stays_reference more (Err Ended) r' h given = tt
stays_reference more (Err (LeavesOut d)) r' h given = tt

open_as : (x : T.Expr × Cursor) → Open (as_reference x) → x.1.tokens ≡ []
open_as (T.Refers r, c) o = o
open_as (T.Number n p, c) o = absurd o
open_as (T.Text v p, c) o = absurd o
open_as (T.Bit v p, c) o = absurd o
open_as (T.Parenthesized e p, c) o = absurd o
open_as (T.Prefix op e p, c) o = absurd o
open_as (T.Infix op l r, c) o = absurd o

open_reference : (r : Read T.Expr) → Open (r >>= λ x. as_reference x) → Open r
open_reference (Ok x) o = open_as x o
open_reference (Err Ended) o = tt
open_reference (Err Stuck) o = absurd o
open_reference (Err (LeavesOut d)) o = absurd o

opens_reference : (s : List ℕ) (c : Cursor) → c.tokens ≡ [] → Open (reference_from s c)
unfolding reference_from
opens_reference s c e =
    subst (λ u. Open (run s (NameDue no_path) (Alone ∷ []) c.marks u >>= λ x. as_reference x)) (sym e) (subst (λ r. Open (r >>= λ x. as_reference x)) (sym (run_empty s (NameDue no_path) (Alone ∷ []) c.marks)) tt)

pub prefix_reference : (s : List ℕ) → Prefixes (Next (K.Name W.Other)) (Allows stops_reference) (reference_from s)
unfolding reference_from
prefix_reference s =
    record {
      stays = λ c more. stays_reference more (run s (NameDue no_path) (Alone ∷ []) c.marks c.tokens) (run s (NameDue no_path) (Alone ∷ []) c.marks (c.tokens ++ more)) (R.stays_run s true c.tokens more (NameDue no_path) (Alone ∷ []) c.marks) (λ x h. R.given_run s true c.tokens (NameDue no_path) (Alone ∷ []) c.marks x (inl (refl, refl)) h);
      opens = opens_reference s;
      closes = λ c o. let k = R.closes_run s true c.tokens (NameDue no_path) (Alone ∷ []) c.marks (inl (refl, refl)) (open_reference (run s (NameDue no_path) (Alone ∷ []) c.marks c.tokens) o) in record {
        more = k.more;
        given = k.is_given.0;
        marks = k.marks;
        reads = λ w f. ap (λ r. r >>= λ x. as_reference x) (k.reads w f) ∙ ap (λ e. as_reference (e, record { tokens = w; marks = k.marks })) k.is_given.1;
        leads = λ e w f. subst (λ u. Next (K.Name W.Other) (u ++ w)) (sym (k.leads e)) refl;
      };
    }

-- the tokens that complete a reference hold no THEN and no `=`
pub reference_more : (s : List ℕ) (c : Cursor) (o : Open (reference_from s c)) → IsTrue (list_all is_plain ((prefix_reference s).closes c o).more)
unfolding prefix_reference reference_from
reference_more s c o =
    (R.closes_run s true c.tokens (NameDue no_path) (Alone ∷ []) c.marks (inl (refl, refl)) (open_reference (run s (NameDue no_path) (Alone ∷ []) c.marks c.tokens) o)).plain

-- ---- lists of expressions

-- the least expression, read as an argument
least_item : (s : List ℕ) (m : Marks) → Closing (Next (K.Number 1)) (Allows stops_expr) (λ c. expr_from s (item_due true c)) (record { tokens = []; marks = m })
unfolding expr_from
least_item s m =
    let least = made (K.Number 1) in
    let m' = argument (place_of least) m in
    let k = R.closes_run s false [] OperandDue [] m' refl (opens_expr s (record { tokens = []; marks = m' }) refl) in
    record {
      more = least ∷ [];
      given = k.given;
      marks = k.marks;
      reads = λ w f. subst (λ u. run s OperandDue [] m' (u ++ w) ≡ Ok (k.given, record { tokens = w; marks = k.marks })) (k.leads refl) (k.reads w f);
      leads = λ e w f. refl;
    }

-- an argument
item_due_expr : (s : List ℕ) → Prefixes (Next (K.Number 1)) (Allows stops_expr) (λ c. expr_from s (item_due true c))
item_due_expr s =
    record {
      stays = λ c more. stays_item c.tokens more c.marks;
      opens = λ c e. opens_expr s (item_due true c) e;
      closes = λ c o. closes_item c.tokens c.marks o;
    }
  where
    stays_item : (ts more : List Token) (m : Marks) → Stays more (expr_from s (item_due true (record { tokens = ts; marks = m }))) (expr_from s (item_due true (record { tokens = ts ++ more; marks = m })))
    stays_item [] more m = open_stays more _ _ (opens_expr s (record { tokens = []; marks = m }) refl)
    stays_item (t ∷ ts) more m = (prefix_expr s).stays (record { tokens = t ∷ ts; marks = argument (place_of t) m }) more

    closes_item : (ts : List Token) (m : Marks) → Open (expr_from s (item_due true (record { tokens = ts; marks = m }))) → Closing (Next (K.Number 1)) (Allows stops_expr) (λ c. expr_from s (item_due true c)) (record { tokens = ts; marks = m })
    closes_item [] m o = least_item s m
    closes_item (t ∷ ts) m o =
        let k = (prefix_expr s).closes (record { tokens = t ∷ ts; marks = argument (place_of t) m }) o in
        record { more = k.more; given = k.given; marks = k.marks; reads = k.reads; leads = λ n. absurd (cc n) }

item_prefix : (are_arguments : Bool) (s : List ℕ) → Prefixes (Next (K.Number 1)) (Allows stops_expr) (λ c. expr_from s (item_due are_arguments c))
item_prefix true s = item_due_expr s
item_prefix false s = prefix_expr s

items_same : (b : Bool) (a : Read Token) (more : Cursor → Read T.Exprs) (z : Read T.Exprs) → (if b then (a >>= λ comma. more comma.1) else z) ≡ (if b then (a >>= λ comma. more comma.1 >>= λ ys. Ok (ys.0, ys.1)) else z)
items_same true (Ok comma) more z = ok_same (more comma.1)
  where
    ok_same : (r : Read T.Exprs) → r ≡ (r >>= λ ys. Ok (ys.0, ys.1))
    ok_same (Ok x) = refl
    ok_same (Err e) = refl
items_same true (Err e) more z = refl
items_same false a more z = refl

items_next : (are : Bool) (s : List ℕ) (n : ℕ) (before : List T.Expr) (c : Cursor) → items_from (suc n) are s before c ≡ (expr_from s (item_due are c) >>= λ e. goes_on (items_from n are s (e.0 ∷ before)) (exprs_with (e.0 ∷ before) T.NoExpr) (λ es. es) e.1)
unfolding items_from
items_next are s n before c =
    bind_same (expr_from s (item_due are c)) _ _ (λ e. items_same (starts (K.Symbol S.Comma) e.1.tokens) (taken (K.Symbol S.Comma) e.1) (items_from n are s (e.0 ∷ before)) (Ok (exprs_with (e.0 ∷ before) T.NoExpr, e.1)))

item_shorter : (are : Bool) (s : List ℕ) (c : Cursor) (x : T.Expr × Cursor) → expr_from s (item_due are c) ≡ Ok x → length x.1.tokens ≤ length c.tokens
item_shorter true s c x h = omega (arith, (expr_sound s (item_due true c) x h).shorter)
item_shorter false s c x h = omega (arith, (expr_sound s c x h).shorter)

items_repeat : (are : Bool) (s : List ℕ) → Repeats (λ (before : List T.Expr) c. expr_from s (item_due are c)) (λ n before c. items_from n are s before c)
items_repeat are s =
    record {
      next = λ before e. e ∷ before;
      last = λ before e. exprs_with (e ∷ before) T.NoExpr;
      joins = λ before e es. es;
      is = λ n before c. items_next are s n before c;
      no_longer = λ before c x h. item_shorter are s c x h;
    }

abbrev pub stops_exprs : Option Kind → Bool
stops_exprs (Some (K.Symbol S.Comma)) = false
stops_exprs o = stops_expr o

exprs_expr : (o : Option Kind) → stops_exprs o ≡ true → stops_expr o ≡ true
exprs_expr (Some (K.Symbol S.Comma)) e = absurd (cc e)
exprs_expr _ e = e

items_prefix : (are : Bool) (s : List ℕ) → Prefixes (Next (K.Number 1)) (Allows stops_exprs) (λ c. items_from (suc (length c.tokens)) are s [] c)
items_prefix are s =
    prefix_repeats (λ (before : List T.Expr) c. expr_from s (item_due are c)) (λ n before c. items_from n are s before c) (items_repeat are s) (λ before. item_prefix are s) (λ w f. (exprs_expr (next_kind w) f, allows_not stops_exprs (K.Symbol S.Comma) w refl f)) []

pub prefix_exprs : (s : List ℕ) → Prefixes (Next (K.Number 1)) (Allows stops_exprs) (exprs_from s)
unfolding exprs_from
prefix_exprs s = items_prefix false s

-- behind the open parenthesis of arguments
listed_prefix : (s : List ℕ) → Prefixes (Next (K.Number 1)) Any (listed_from s)
listed_prefix s =
    prefix_when (K.Symbol S.CloseParenthesis) (λ c. taken (K.Symbol S.CloseParenthesis) c >>= λ u. Ok (T.Listed T.NoExpr, u.1)) (λ c. items_from (suc (length c.tokens)) true s [] c >>= λ es. taken (K.Symbol S.CloseParenthesis) es.1 >>= λ u. Ok (T.Listed es.0, u.1))
    (steady (prefix_bind (taken (K.Symbol S.CloseParenthesis)) (λ u. Ok (T.Listed T.NoExpr, u.1)) (prefix_symbol S.CloseParenthesis) (λ u. prefix_ok (T.Listed T.NoExpr)) (λ w h. tt)))
    (prefix_bind (λ c. items_from (suc (length c.tokens)) true s [] c) (λ es. taken (K.Symbol S.CloseParenthesis) es.1 >>= λ u. Ok (T.Listed es.0, u.1)) (items_prefix true s)
    (λ es. prefix_bind (taken (K.Symbol S.CloseParenthesis)) (λ u. Ok (T.Listed es, u.1)) (prefix_symbol S.CloseParenthesis) (λ u. prefix_ok (T.Listed es)) (λ w h. tt))
    (λ w h. next_allows stops_exprs (K.Symbol S.CloseParenthesis) w refl h))
    (λ w h. next_not (K.Symbol S.CloseParenthesis) (K.Number 1) w refl h)

-- behind them no open parenthesis may stand
pub prefix_arguments_as : {F : List Token → Type 0} (s : List ℕ) → ((w : List Token) → F w → StartsNot (K.Symbol S.OpenParenthesis) w) → Prefixes F F (arguments_from s)
unfolding arguments_from
prefix_arguments_as {F} s stop =
    prefix_when (K.Symbol S.OpenParenthesis) (λ c. taken (K.Symbol S.OpenParenthesis) c >>= λ t. listed_from s t.1) (λ c. Ok (T.Absent, c))
    (steady (prefix_as {F' = F} (λ w h. tt) (λ w h. h) (prefix_bind (taken (K.Symbol S.OpenParenthesis)) (λ t. listed_from s t.1) (prefix_symbol S.OpenParenthesis) (λ t. listed_prefix s) (λ w h. tt))))
    (prefix_ok T.Absent) stop

abbrev pub stops_arguments : Option Kind → Bool
stops_arguments (Some (K.Symbol S.OpenParenthesis)) = false
stops_arguments _ = true

pub prefix_arguments : (s : List ℕ) → Prefixes Any (Allows stops_arguments) (arguments_from s)
prefix_arguments s =
    prefix_as (λ w h. h) (λ w h. tt) (prefix_arguments_as s (λ w h. allows_not stops_arguments (K.Symbol S.OpenParenthesis) w refl h))

-- ---- assignments

begun_longer : (ts more : List Token) → begun_by (next_kind ts) ≢ Unknown → begun_by (next_kind (ts ++ more)) ≡ begun_by (next_kind ts)
begun_longer [] more n = absurd (n refl)
begun_longer (t ∷ ts) more n = refl

begun_stays : (more : List Token) (r r' : Read T.Reference) → Stays more r r' → ((at : Cursor) → r ≡ Err (LeavesOut at) → ⊥) → (r ≡ Err Stuck → r' ≡ Err Stuck) → begun r ≢ Unknown → begun r' ≡ begun r
begun_stays more (Ok x) r' h never stuck n = begun_of h
  where
    begun_of : ((x.1.tokens ≡ []) ⊎ (r' ≡ Ok (x.0, longer x.1 more))) → begun r' ≡ begun_by (next_kind x.1.tokens)
    begun_of (inl e) = absurd (n (ap (λ ts. begun_by (next_kind ts)) e))
    begun_of (inr e) = ap begun e ∙ begun_longer x.1.tokens more n
begun_stays more (Err Stuck) r' h never stuck n = ap begun (stuck refl)
begun_stays more (Err Ended) r' h never stuck n = absurd (n refl)
begun_stays more (Err (LeavesOut at)) r' h never stuck n = absurd (never at refl)

-- a reference that is stuck stays so
reference_stuck : (s : List ℕ) (c : Cursor) (more : List Token) → reference_from s c ≡ Err Stuck → reference_from s (longer c more) ≡ Err Stuck
unfolding reference_from
reference_stuck s c more e = by_run (run s (NameDue no_path) (Alone ∷ []) c.marks c.tokens) refl e
  where
    by_run : (r : Read T.Expr) → run s (NameDue no_path) (Alone ∷ []) c.marks c.tokens ≡ r → (r >>= λ x. as_reference x) ≡ Err Stuck → (run s (NameDue no_path) (Alone ∷ []) c.marks (c.tokens ++ more) >>= λ x. as_reference x) ≡ Err Stuck
    by_run (Ok x) i k =
        let g = R.given_run s true c.tokens (NameDue no_path) (Alone ∷ []) c.marks x (inl (refl, refl)) i in
        absurd (cc (reference_given x x.1 g, k))
    by_run (Err Stuck) i k = ap (λ r. r >>= λ x. as_reference x) (stuck_run s (NameDue no_path) (Alone ∷ []) c.marks c.tokens more i)
    by_run (Err Ended) i k = absurd (cc k)
    by_run (Err (LeavesOut d)) i k = absurd (cc k)

pub begins_stays : (s : List ℕ) (c : Cursor) (more : List Token) → assignment_begins s c ≢ Unknown → assignment_begins s (longer c more) ≡ assignment_begins s c
unfolding assignment_begins
begins_stays s c more n =
    begun_stays more (reference_from s c) (reference_from s (longer c more)) ((prefix_reference s).stays c more) (reference_stays s c) (reference_stuck s c more) n

unknown_kind : (k : Kind) → begun_by (Some k) ≡ Unknown → ⊥
unknown_kind (K.Symbol S.Equal) e = cc e
unknown_kind _ e = cc e

unknown_none : (ts : List Token) → begun_by (next_kind ts) ≡ Unknown → ts ≡ []
unknown_none [] e = refl
unknown_none (t ∷ ts) e = absurd (unknown_kind t.kind e)

unknown_open : (r : Read T.Reference) → begun r ≡ Unknown → Open r
unknown_open (Ok x) e = unknown_none x.1.tokens e
unknown_open (Err Ended) e = tt
unknown_open (Err Stuck) e = cc e
unknown_open (Err (LeavesOut at)) e = cc e

pub unknown_opens : (s : List ℕ) (c : Cursor) → assignment_begins s c ≡ Unknown → Open (reference_from s c)
unfolding assignment_begins
unknown_opens s c e = unknown_open (reference_from s c) e
