-- What reading tells of the beginnings of the parts of heads.
use Rattle.std.proofs.Common.{◌≡◌, ℕ, ◌≤◌, List, [], ◌∷◌, ◌++◌, length, Option, Some, None, Ok, Err, inr, refl, ap}
use Rattle.std.specs.Prelude.{if◌then◌else◌, IsTrue}
use Rattle.std.specs.List.{list_all}
use Rattle.pli_language.specs.declared.condition.Condition.{Condition}
use Rattle.pli_language.specs.declared.condition.Condition.TheVariants as C
use Rattle.pli_language.specs.declared.token.Word.{Word}
use Rattle.pli_language.specs.declared.token.Word.TheVariants as W
use Rattle.pli_language.specs.declared.token.Symbol.TheVariants as S
use Rattle.pli_language.specs.declared.token.Kind.{Kind}
use Rattle.pli_language.specs.declared.token.Kind.TheVariants as K
use Rattle.pli_language.specs.declared.token.Token.{Token}
use Rattle.pli_language.specs.Marks.{Marks}
use Rattle.pli_language.specs.Spells.{name_at}
use Rattle.pli_language.specs.Heads.{plain_condition}
use Rattle.pli_language.specs.Tree as T
use Rattle.pli_phrase.specs.Cursor.{Cursor, Stuck, Ended, Read, ◌>>=◌}
use Rattle.pli_phrase.specs.Tokens.{begins, taken, named, name_from}
use Rattle.pli_phrase.specs.Reading.{expr_from, reference_from}
use Rattle.pli_phrase.proofs.Prefixes.{longer, Stays, Open, Prefixes, Any, Next, Allows, StartsNot, Steady, Firm, made, prefix_ok, prefix_bind, prefix_taken, next_not, next_allows, steady, steady_err, firm_bind}
use Rattle.pli_phrase.proofs.PhrasePrefixes.{stops_reference, stops_expr, stops_arguments, is_plain, prefix_name, prefix_symbol, prefix_when, prefix_expr, prefix_reference, allows_not}
use Rattle.pli_phrase.proofs.PrefixesAt.{At, at, at_all, at_as, at_weaken, at_stuck, at_first, at_end_first}
use Rattle.pli_attributes.specs.Lists.{enclosed_from}
use Rattle.pli_attributes.proofs.Posts.{post_is}
use Rattle.pli_attributes.proofs.Tokens.{is_word}
use Rattle.pli_attributes.proofs.ListPrefixes.{prefix_enclosed, prefix_optional, prefix_list}
use Rattle.pli_attributes.proofs.ListsAt.{at_list, at_optional}
use Rattle.pli_clause.specs.Parts.{word_of_kind, word_at, word_from, behind_word, ended_by, in_order, in_reverse, both_from}
use Rattle.pli_clause.specs.Reading.{plain_from, condition_behind, condition_from, one_parameter, parameter_at, names_from, parameters_from, in_parentheses_from, range_from, while_from, counted, counting_from, into_from, placing_from, placed, allocation_from, allocations_from, freed, freeing_from, freeings_from, some_expr_from, value_from}
use Rattle.pli_clause.proofs.ParameterLaws.{one_parameter_post}
use Rattle.pli_clause.proofs.Placings.{allocation_post, freeing_post}

-- ---- words

word_stays : (ts more : List Token) (m : Marks) → Stays more (word_from (at ts m)) (word_from (at (ts ++ more) m))
unfolding word_from
word_stays [] more m = tt
word_stays (t ∷ ts) more m = by_kind t.kind
  where
    by_kind : (k : Kind) → Stays more (word_of_kind t k (at ts m)) (word_of_kind t k (at (ts ++ more) m))
    by_kind (K.Name word) = inr refl
    by_kind _ = refl

word_firm : (ts more : List Token) (m : Marks) (x : (Token × Word) × Cursor) → word_from (at ts m) ≡ Ok x → word_from (at (ts ++ more) m) ≡ Ok (x.0, longer x.1 more)
unfolding word_from
word_firm [] more m x e = absurd (cc e)
word_firm (t ∷ ts) more m x e = by_kind t.kind e
  where
    by_kind : (k : Kind) → word_of_kind t k (at ts m) ≡ Ok x → word_of_kind t k (at (ts ++ more) m) ≡ Ok (x.0, longer x.1 more)
    by_kind (K.Name word) e =
        let same : ((t, word), at ts m) ≡ x = cc e in
        ap (λ y. Ok (y.0, longer y.1 more)) same
    by_kind _ e = absurd (cc e)

word_none : (c : Cursor) → c.tokens ≡ [] → word_from c ≡ Err Ended
unfolding word_from
word_none c e = ap (λ ts. word_at ts (at ts c.marks)) e

word_ended : (ts : List Token) (m : Marks) → word_from (at ts m) ≡ Err Ended → ts ≡ []
unfolding word_from
word_ended [] m e = refl
word_ended (t ∷ ts) m e = absurd (by_kind t.kind e)
  where
    by_kind : (k : Kind) → word_of_kind t k (at ts m) ≡ Err Ended → ⊥
    by_kind (K.Name word) e = cc e
    by_kind _ e = cc e

word_takes : (w : Word) (us : List Token) (m : Marks) → word_from (at (made (K.Name w) ∷ us) m) ≡ Ok ((made (K.Name w), w), at us m)
unfolding word_from
word_takes w us m = refl

pub firm_word_as : (w : Word) → Firm word_from (K.Name w) (made (K.Name w), w)
firm_word_as w =
    record {
      missed = λ c more missed e. word_stays c.tokens more c.marks;
      firm = λ c more x e. word_firm c.tokens more c.marks x e;
      none = word_none;
      ended = λ c e. word_ended c.tokens c.marks e;
      takes = word_takes w;
    }

pub firm_word : Firm word_from (K.Name W.Other) (made (K.Name W.Other), W.Other)
firm_word = firm_word_as W.Other

-- ---- conditions

plain_steady : (o : Option Condition) → Steady Any (λ c. plain_from o c)
plain_steady None = steady_err (λ c. Stuck) (λ c more. refl) (λ c o. o)
plain_steady (Some x) = steady (prefix_ok x)

condition_steady : (word : Word) → Steady Any (λ c. condition_behind word c)
condition_steady W.Endfile =
    steady (prefix_bind (enclosed_from (taken (K.Name W.Sysin))) (λ x. Ok (C.Endfile, x.1)) (prefix_enclosed (taken (K.Name W.Sysin)) (prefix_taken (K.Name W.Sysin) refl) (λ w h. tt)) (λ x. prefix_ok C.Endfile) (λ w h. tt))
condition_steady word = plain_steady (plain_condition word)

pub prefix_condition : Prefixes (Next (K.Name W.Error)) Any condition_from
unfolding condition_from
prefix_condition =
    firm_bind word_from (K.Name W.Error) (made (K.Name W.Error), W.Error) (λ w. condition_behind w.0.1 w.1) (firm_word_as W.Error) (λ x. condition_steady x.1) (λ c e. e)

-- ---- parameters

named_at : (s : List ℕ) (i : ℕ) (t : Token) (ts : List Token) (m : Marks) → At is_plain (Next (K.Name W.Other)) Any (one_parameter s i) (at (t ∷ ts) m)
unfolding name_from
named_at s i t ts m = by_kind t.kind refl
  where
    by_kind : (k : Kind) → t.kind ≡ k → At is_plain (Next (K.Name W.Other)) Any (one_parameter s i) (at (t ∷ ts) m)
    by_kind (K.Name word) e =
        at_first (one_parameter s i) (name_at s t word) t ts m (parameter_at i (t ∷ []) m) (λ us. ap (λ k. named s t k (at us (parameter_at i (t ∷ []) m))) e)
    by_kind k e =
        at_as (λ c. Err Stuck) (one_parameter s i) (at (t ∷ ts) m) (ap (λ k. named s t k (at ts (parameter_at i (t ∷ []) m))) e) (λ more. ap (λ k. named s t k (at (ts ++ more) (parameter_at i (t ∷ []) m))) e) (at_stuck t ts m)

parameter_none : (s : List ℕ) (i : ℕ) (m : Marks) → one_parameter s i (at [] m) ≡ Err Ended
unfolding name_from
parameter_none s i m = refl

parameter_made : (s : List ℕ) (i : ℕ) (us : List Token) (m : Marks) → one_parameter s i (at (made (K.Name W.Other) ∷ us) m) ≡ Ok (name_at s (made (K.Name W.Other)) W.Other, at us (parameter_at i (made (K.Name W.Other) ∷ []) m))
unfolding name_from
parameter_made s i us m = refl

one_parameter_at : (s : List ℕ) (i : ℕ) (c : Cursor) → At is_plain (Next (K.Name W.Other)) Any (one_parameter s i) c
one_parameter_at s i c = by_tokens c.tokens c.marks
  where
    by_tokens : (ts : List Token) (m : Marks) → At is_plain (Next (K.Name W.Other)) Any (one_parameter s i) (at ts m)
    by_tokens [] m =
        at_end_first (one_parameter s i) (name_at s (made (K.Name W.Other)) W.Other) (K.Name W.Other) m (parameter_at i (made (K.Name W.Other) ∷ []) m) (parameter_none s i m) (λ us. parameter_made s i us m) refl
    by_tokens (t ∷ ts) m = named_at s i t ts m

parameter_shorter : (s : List ℕ) (i : ℕ) (c : Cursor) (x : T.Name × Cursor) → one_parameter s i c ≡ Ok x → length x.1.tokens ≤ length c.tokens
parameter_shorter s i c x e = (post_is (one_parameter_post s i c) e).shorter

names_at : (s : List ℕ) (c : Cursor) → At is_plain (Next (K.Name W.Other)) (StartsNot (K.Symbol S.Comma)) (names_from s) c
unfolding names_from
names_at s c = at_list (one_parameter s) (parameter_shorter s) (one_parameter_at s) (λ w h. (tt, h)) c

pub parameters_at : (s : List ℕ) (c : Cursor) → At is_plain Any (Allows stops_arguments) (parameters_from s) c
unfolding parameters_from
parameters_at s c =
    at_weaken (parameters_from s) c (λ w h. h) (λ w h. tt) (at_optional (names_from s) (names_at s) (λ w h. next_not (K.Symbol S.Comma) (K.Symbol S.CloseParenthesis) w refl h) refl refl [] (λ w h. allows_not stops_arguments (K.Symbol S.OpenParenthesis) w refl h) c)

-- behind them no open parenthesis may stand
abbrev pub prefix_parameters : (s : List ℕ) → Prefixes Any (Allows stops_arguments) (parameters_from s)
prefix_parameters s = at_all (parameters_at s)

pub parameters_more : (s : List ℕ) (c : Cursor) (o : Open (parameters_from s c)) → IsTrue (list_all is_plain ((prefix_parameters s).closes c o).more)
parameters_more s c o = ((parameters_at s c).closes o).passes

-- ---- what stands behind words

module _ {X : Type 0} {P Fi F : List Token → Type 0} (inner : Cursor → Read X) (p : Prefixes P Fi inner) (narrow : (ts : List Token) → F ts → Fi ts) where
  prefix_behind_word : (w : Word) → ((ts : List Token) → F ts → StartsNot (K.Name w) ts) → Prefixes F F (behind_word w inner)
  unfolding behind_word
  prefix_behind_word w stop =
      prefix_when (K.Name w) (λ c. taken (K.Name w) c >>= λ t. inner t.1 >>= λ x. Ok (Some x.0, x.1)) (λ c. Ok (None, c)) (steady (prefix_bind {F = F} (taken (K.Name w)) (λ t. inner t.1 >>= λ x. Ok (Some x.0, x.1)) (prefix_taken (K.Name w) (is_word w)) (λ t. prefix_bind inner (λ x. Ok (Some x.0, x.1)) p (λ x. prefix_ok (Some x)) narrow) (λ ts h. tt))) (prefix_ok None) stop

  module _ (v w : Word) (stop : (ts : List Token) → F ts → StartsNot (K.Name v) ts × StartsNot (K.Name w) ts) where
    prefix_ended : (x : Option X × Option X) → Prefixes F F (λ c. ended_by v w x c)
    prefix_ended x =
        prefix_when (K.Name v) (λ c. Err Stuck) (λ c. if begins (K.Name w) c then Err Stuck else Ok (x, c)) (steady_err (λ c. Stuck) (λ c more. refl) (λ c o. o)) (prefix_when (K.Name w) (λ c. Err Stuck) (λ c. Ok (x, c)) (steady_err (λ c. Stuck) (λ c more. refl) (λ c o. o)) (prefix_ok x) (λ ts h. (stop ts h).1)) (λ ts h. (stop ts h).0)

    prefix_in_order : Prefixes F F (λ c. in_order v w inner c)
    prefix_in_order =
        prefix_bind (behind_word v inner) (λ x. behind_word w inner x.1 >>= λ y. ended_by v w (x.0, y.0) y.1) (prefix_behind_word v (λ ts h. (stop ts h).0)) (λ x. prefix_bind (behind_word w inner) (λ y. ended_by v w (x, y.0) y.1) (prefix_behind_word w (λ ts h. (stop ts h).1)) (λ y. prefix_ended (x, y)) (λ ts h. h)) (λ ts h. h)

    prefix_in_reverse : Prefixes F F (λ c. in_reverse v w inner c)
    prefix_in_reverse =
        prefix_bind (behind_word w inner) (λ y. behind_word v inner y.1 >>= λ x. ended_by v w (x.0, y.0) x.1) (prefix_behind_word w (λ ts h. (stop ts h).1)) (λ y. prefix_bind (behind_word v inner) (λ x. ended_by v w (x.0, y) x.1) (prefix_behind_word v (λ ts h. (stop ts h).0)) (λ x. prefix_ended (x, y)) (λ ts h. h)) (λ ts h. h)

    prefix_both : Prefixes F F (both_from v w inner)
    unfolding both_from
    prefix_both =
        prefix_when (K.Name v) (λ c. in_order v w inner c) (λ c. in_reverse v w inner c) (steady prefix_in_order) prefix_in_reverse (λ ts h. (stop ts h).0)

-- ---- counting

pub prefix_in_parentheses : (s : List ℕ) → Prefixes (Next (K.Symbol S.OpenParenthesis)) Any (in_parentheses_from s)
unfolding in_parentheses_from
prefix_in_parentheses s =
    prefix_enclosed (expr_from s) (prefix_expr s) (λ w h. next_allows stops_expr (K.Symbol S.CloseParenthesis) w refl h)

-- what may stand behind the expressions of DO
abbrev pub EndsCounting : List Token → Type 0
EndsCounting w = Allows stops_expr w × (StartsNot (K.Name W.To) w × (StartsNot (K.Name W.By) w × StartsNot (K.Name W.While) w))

prefix_range : (s : List ℕ) → Prefixes EndsCounting EndsCounting (range_from s)
unfolding range_from
prefix_range s = prefix_both (expr_from s) (prefix_expr s) (λ w h. h.0) W.To W.By (λ w h. (h.1.0, h.1.1.0))

prefix_while : (s : List ℕ) → Prefixes EndsCounting EndsCounting (while_from s)
unfolding while_from
prefix_while s =
    prefix_behind_word (in_parentheses_from s) (prefix_in_parentheses s) (λ w h. tt) W.While (λ w h. h.1.1.1)

pub prefix_counting : (s : List ℕ) → Prefixes (Next (K.Name W.Other)) EndsCounting (counting_from s)
unfolding counting_from
prefix_counting s =
    prefix_bind (reference_from s) (λ v. taken (K.Symbol S.Equal) v.1 >>= λ equal. expr_from s equal.1 >>= λ e. range_from s e.1 >>= λ r. while_from s r.1 >>= λ w. Ok (counted v.0 e.0 r.0 w.0, w.1)) (prefix_reference s)
    (λ v. prefix_bind (taken (K.Symbol S.Equal)) (λ equal. expr_from s equal.1 >>= λ e. range_from s e.1 >>= λ r. while_from s r.1 >>= λ w. Ok (counted v e.0 r.0 w.0, w.1)) (prefix_symbol S.Equal)
    (λ equal. prefix_bind (expr_from s) (λ e. range_from s e.1 >>= λ r. while_from s r.1 >>= λ w. Ok (counted v e.0 r.0 w.0, w.1)) (prefix_expr s)
    (λ e. prefix_bind (range_from s) (λ r. while_from s r.1 >>= λ w. Ok (counted v e r.0 w.0, w.1)) (prefix_range s)
    (λ r. prefix_bind (while_from s) (λ w. Ok (counted v e r w.0, w.1)) (prefix_while s) (λ w. prefix_ok (counted v e r w)) (λ w h. h))
    (λ w h. h))
    (λ w h. h.0))
    (λ w h. tt))
    (λ w h. next_allows stops_reference (K.Symbol S.Equal) w refl h)

-- ---- allocations and freeings

prefix_into : (s : List ℕ) → Prefixes (Next (K.Symbol S.OpenParenthesis)) Any (into_from s)
prefix_into s =
    prefix_enclosed (reference_from s) (prefix_reference s) (λ w h. next_allows stops_reference (K.Symbol S.CloseParenthesis) w refl h)

-- what may stand behind an allocation
abbrev pub EndsAllocation : List Token → Type 0
EndsAllocation w = StartsNot (K.Name W.In) w × StartsNot (K.Name W.Set) w

prefix_placing : (s : List ℕ) → Prefixes EndsAllocation EndsAllocation (placing_from s)
unfolding placing_from
prefix_placing s = prefix_both (into_from s) (prefix_into s) (λ w h. tt) W.In W.Set (λ w h. h)

prefix_allocation : (s : List ℕ) → Prefixes (Next (K.Name W.Other)) EndsAllocation (allocation_from s)
unfolding allocation_from
prefix_allocation s =
    prefix_bind (name_from s) (λ n. placing_from s n.1 >>= λ p. Ok (placed n.0 p.0, p.1)) (prefix_name s) (λ n. prefix_bind (placing_from s) (λ p. Ok (placed n p.0, p.1)) (prefix_placing s) (λ p. prefix_ok (placed n p)) (λ w h. h)) (λ w h. tt)

pub prefix_allocations : (s : List ℕ) → Prefixes (Next (K.Name W.Other)) (λ w. EndsAllocation w × StartsNot (K.Symbol S.Comma) w) (allocations_from s)
unfolding allocations_from
prefix_allocations s =
    prefix_list (λ before. allocation_from s) (λ before c x e. (post_is (allocation_post s c) e).shorter) (λ before. prefix_allocation s) (λ w h. h)

-- what may stand behind a freeing
abbrev pub EndsFreeing : List Token → Type 0
EndsFreeing w = Allows stops_reference w × StartsNot (K.Name W.In) w

prefix_freeing : (s : List ℕ) → Prefixes (Next (K.Name W.Other)) EndsFreeing (freeing_from s)
unfolding freeing_from
prefix_freeing s =
    prefix_bind (reference_from s) (λ r. behind_word W.In (into_from s) r.1 >>= λ a. Ok (freed r.0 a.0, a.1)) (prefix_reference s) (λ r. prefix_bind (behind_word W.In (into_from s)) (λ a. Ok (freed r a.0, a.1)) (prefix_behind_word (into_from s) (prefix_into s) (λ w h. tt) W.In (λ w h. h.1)) (λ a. prefix_ok (freed r a)) (λ w h. h)) (λ w h. h.0)

pub prefix_freeings : (s : List ℕ) → Prefixes (Next (K.Name W.Other)) (λ w. EndsFreeing w × StartsNot (K.Symbol S.Comma) w) (freeings_from s)
unfolding freeings_from
prefix_freeings s =
    prefix_list (λ before. freeing_from s) (λ before c x e. (post_is (freeing_post s c) e).shorter) (λ before. prefix_freeing s) (λ w h. h)

-- ---- values that are returned

prefix_some_expr : (s : List ℕ) → Prefixes (Next (K.Number 1)) (Allows stops_expr) (λ c. some_expr_from s c)
prefix_some_expr s = prefix_bind (expr_from s) (λ e. Ok (Some e.0, e.1)) (prefix_expr s) (λ e. prefix_ok (Some e)) (λ w h. h)

-- behind one no open parenthesis may stand
pub prefix_value : (s : List ℕ) → Prefixes (StartsNot (K.Symbol S.OpenParenthesis)) (StartsNot (K.Symbol S.OpenParenthesis)) (value_from s)
unfolding value_from
prefix_value s =
    prefix_optional None (some_expr_from s) (prefix_some_expr s) (λ w h. next_allows stops_expr (K.Symbol S.CloseParenthesis) w refl h) (λ w h. h)

-- ---- a semicolon may stand behind

pub semicolon_counting : (w : List Token) → Next (K.Symbol S.Semicolon) w → EndsCounting w
semicolon_counting w n =
    let k = K.Symbol S.Semicolon in
    (next_allows stops_expr k w refl n, (next_not (K.Name W.To) k w refl n, (next_not (K.Name W.By) k w refl n, next_not (K.Name W.While) k w refl n)))

pub semicolon_allocation : (w : List Token) → Next (K.Symbol S.Semicolon) w → EndsAllocation w × StartsNot (K.Symbol S.Comma) w
semicolon_allocation w n =
    let k = K.Symbol S.Semicolon in
    ((next_not (K.Name W.In) k w refl n, next_not (K.Name W.Set) k w refl n), next_not (K.Symbol S.Comma) k w refl n)

pub semicolon_freeing : (w : List Token) → Next (K.Symbol S.Semicolon) w → EndsFreeing w × StartsNot (K.Symbol S.Comma) w
semicolon_freeing w n =
    let k = K.Symbol S.Semicolon in
    ((next_allows stops_reference k w refl n, next_not (K.Name W.In) k w refl n), next_not (K.Symbol S.Comma) k w refl n)
