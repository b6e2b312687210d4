-- What reading tells of the beginnings of heads, behind their words.
use Rattle.std.proofs.Common.{◌≡◌, ◌≢◌, inr, ℕ, List, [], ◌∷◌, ◌++◌, Option, Some, None, Bool, true, false, Ok, Err, refl, sym, ap, ◌∙◌, subst}
use Rattle.std.specs.Prelude.{if◌then◌else◌}
use Rattle.pli_language.specs.declared.expr.Place.{Place}
use Rattle.pli_language.specs.declared.token.Word.{Word}
use Rattle.pli_language.specs.declared.token.Word.TheVariants as W
use Rattle.pli_language.specs.declared.token.Symbol.TheVariants as S
use Rattle.pli_language.specs.declared.token.Kind.{Kind}
use Rattle.pli_language.specs.declared.token.Kind.TheVariants as K
use Rattle.pli_language.specs.declared.token.Token.{Token}
use Rattle.pli_language.specs.Formats.{Direction, Getting, Putting}
use Rattle.pli_language.specs.Heads.{is_left_out_head, Head, ProcedureFront, Declaring, Simple, IfThen, Else, DoGroup, DoWhileGroup, DoCountGroup, BeginBlock, On, System, EndOf, moving}
use Rattle.pli_language.specs.Marks.{Marks}
use Rattle.pli_language.specs.Spells.{next_kind}
use Rattle.pli_language.specs.Tree as T
use Rattle.pli_phrase.specs.Cursor.{Cursor, Stuck, Ended, LeavesOut, Read, ◌>>=◌, onto}
use Rattle.pli_phrase.specs.Tokens.{is_terminal, begins, taken_at, taken, name_from}
use Rattle.pli_phrase.specs.declared.expression.Beginning.{Beginning}
use Rattle.pli_phrase.specs.declared.expression.Beginning.TheVariants.{Begins, Differs, Unknown}
use Rattle.pli_phrase.specs.Reading.{expr_from, reference_from, arguments_from, begun_by, begun, assignment_begins}
use Rattle.pli_phrase.proofs.Prefixes.{longer, Stays, Open, Closing, Prefixes, Steady, StartsNot, Next, Allows, Any, next_not, next_allows, prefix_ok, prefix_as, prefix_bind, prefix_taken, steady}
use Rattle.pli_phrase.proofs.PhrasePrefixes.{stops_expr, stops_reference, stops_arguments, prefix_symbol, prefix_when, prefix_name, prefix_expr, prefix_reference, prefix_arguments, begins_stays, unknown_opens}
use Rattle.pli_phrase.proofs.Tokens.{terminal_kind, word_is}
use Rattle.pli_attributes.specs.Reading.{declare_items_from}
use Rattle.pli_attributes.proofs.AttributePrefixes.{stops_items, prefix_declare_items}
use Rattle.pli_stream.specs.Reading.{transfer_from}
use Rattle.pli_stream.proofs.StreamPrefixes.{semicolon_ends, prefix_transfer}
use Rattle.pli_clause.specs.Reading.{condition_from, parameters_from, options_from, in_parentheses_from, range_from, while_from, counted, counting_from, allocations_from, freeings_from, value_from}
use Rattle.pli_clause.proofs.ClausePrefixes.{EndsCounting, EndsAllocation, EndsFreeing, prefix_condition, prefix_parameters, prefix_in_parentheses, prefix_counting, prefix_allocations, prefix_freeings, prefix_value}
use Rattle.pli_clause.proofs.OptionPrefixes.{prefix_procedure_options}
use Rattle.pli_head.specs.Reading.{closed, assignment_from, call_from, return_from, label_from, go_from, signal_from, revert_from, allocate_from, free_from, moved_from, procedure_from, declaring_from, if_from, do_while_from, do_count_from, do_worded, do_from, on_from, end_from, simple_from, simple_behind, other_from, head_behind}

prefix_word : (w : Word) → Prefixes (Next (K.Name w)) Any (taken (K.Name w))
prefix_word w = prefix_taken (K.Name w) (word_is w)

-- ---- up to a semicolon

pub prefix_closed : (h : Head) → Prefixes (Next (K.Symbol S.Semicolon)) Any (closed h)
prefix_closed h = prefix_bind (taken (K.Symbol S.Semicolon)) (λ u. Ok (h, u.1)) (prefix_symbol S.Semicolon) (λ u. prefix_ok h) (λ w q. tt)

-- a simple statement behind which a semicolon may stand
pub prefix_simple : {P F : List Token → Type 0} (f : Cursor → Read T.Stmt) → Prefixes P F f → ((w : List Token) → Next (K.Symbol S.Semicolon) w → F w) → Prefixes P Any (λ c. simple_from (f c))
prefix_simple f p into = prefix_bind f (λ x. closed (Simple x.0) x.1) p (λ x. prefix_closed (Simple x)) into

semicolon_not : (k : Kind) (w : List Token) → is_terminal k (K.Symbol S.Semicolon) ≡ false → Next (K.Symbol S.Semicolon) w → StartsNot k w
semicolon_not k w e q = next_not k (K.Symbol S.Semicolon) w e q

allocations_stop : (w : List Token) → Next (K.Symbol S.Semicolon) w → EndsAllocation w × StartsNot (K.Symbol S.Comma) w
allocations_stop w q =
    ((semicolon_not (K.Name W.In) w refl q, semicolon_not (K.Name W.Set) w refl q), semicolon_not (K.Symbol S.Comma) w refl q)

freeings_stop : (w : List Token) → Next (K.Symbol S.Semicolon) w → EndsFreeing w × StartsNot (K.Symbol S.Comma) w
freeings_stop w q =
    ((next_allows stops_reference (K.Symbol S.Semicolon) w refl q, semicolon_not (K.Name W.In) w refl q), semicolon_not (K.Symbol S.Comma) w refl q)

counting_stops : (w : List Token) → Next (K.Symbol S.Semicolon) w → EndsCounting w
counting_stops w q =
    (next_allows stops_expr (K.Symbol S.Semicolon) w refl q, (semicolon_not (K.Name W.To) w refl q, (semicolon_not (K.Name W.By) w refl q, semicolon_not (K.Name W.While) w refl q)))

arguments_stop : (w : List Token) → Next (K.Symbol S.Semicolon) w → Allows stops_arguments w
arguments_stop w q = next_allows stops_arguments (K.Symbol S.Semicolon) w refl q

semicolon_expr : (w : List Token) → Next (K.Symbol S.Semicolon) w → Allows stops_expr w
semicolon_expr w q = next_allows stops_expr (K.Symbol S.Semicolon) w refl q

-- ---- simple statements

-- behind the reference and `=`
prefix_source : (s : List ℕ) (p : Place) (r : T.Reference) → Prefixes (Next (K.Symbol S.Equal)) (Allows stops_expr) (λ c. taken (K.Symbol S.Equal) c >>= λ t. expr_from s t.1 >>= λ e. Ok (T.Assign r e.0 p, e.1))
prefix_source s p r =
    prefix_bind (taken (K.Symbol S.Equal)) (λ t. expr_from s t.1 >>= λ e. Ok (T.Assign r e.0 p, e.1)) (prefix_symbol S.Equal)
    (λ t. prefix_bind (expr_from s) (λ e. Ok (T.Assign r e.0 p, e.1)) (prefix_expr s) (λ e. prefix_ok (T.Assign r e p)) (λ w h. h))
    (λ w h. tt)

pub prefix_assignment : (s : List ℕ) (p : Place) → Prefixes (Next (K.Name W.Other)) (Allows stops_expr) (assignment_from s p)
unfolding assignment_from
prefix_assignment s p =
    prefix_bind (reference_from s) (λ r. taken (K.Symbol S.Equal) r.1 >>= λ t. expr_from s t.1 >>= λ e. Ok (T.Assign r.0 e.0 p, e.1)) (prefix_reference s) (λ r. prefix_source s p r) (λ w q. next_allows stops_reference (K.Symbol S.Equal) w refl q)

pub prefix_assigning : (s : List ℕ) (p : Place) → Prefixes (Next (K.Name W.Other)) Any (λ c. simple_from (assignment_from s p c))
prefix_assigning s p = prefix_simple (assignment_from s p) (prefix_assignment s p) semicolon_expr

call_prefix : (s : List ℕ) (p : Place) → Prefixes (Next (K.Name W.Other)) (Allows stops_arguments) (call_from s p)
call_prefix s p =
    prefix_bind (name_from s) (λ n. arguments_from s n.1 >>= λ a. Ok (T.Call n.0 a.0 p, a.1)) (prefix_name s)
    (λ n. prefix_bind (arguments_from s) (λ a. Ok (T.Call n a.0 p, a.1)) (prefix_arguments s) (λ a. prefix_ok (T.Call n a p)) (λ w h. h))
    (λ w h. tt)

return_prefix : (s : List ℕ) (p : Place) → Prefixes Any (Next (K.Symbol S.Semicolon)) (return_from s p)
return_prefix s p =
    prefix_bind (value_from s) (λ v. Ok (T.Return v.0 p, v.1)) (prefix_as (λ w q. next_not (K.Symbol S.OpenParenthesis) (K.Symbol S.Semicolon) w refl q) (λ w h. tt) (prefix_value s)) (λ v. prefix_ok (T.Return v p)) (λ w h. h)

label_prefix : (s : List ℕ) (p : Place) → Prefixes (Next (K.Name W.Other)) Any (label_from s p)
label_prefix s p = prefix_bind (name_from s) (λ n. Ok (T.Goto n.0 p, n.1)) (prefix_name s) (λ n. prefix_ok (T.Goto n p)) (λ w h. h)

go_prefix : (s : List ℕ) (p : Place) → Prefixes (Next (K.Name W.To)) Any (go_from s p)
go_prefix s p = prefix_bind (taken (K.Name W.To)) (λ u. label_from s p u.1) (prefix_word W.To) (λ u. label_prefix s p) (λ w h. tt)

signal_prefix : (p : Place) → Prefixes (Next (K.Name W.Error)) Any (signal_from p)
signal_prefix p = prefix_bind condition_from (λ x. Ok (T.Signal x.0 p, x.1)) prefix_condition (λ x. prefix_ok (T.Signal x p)) (λ w h. h)

revert_prefix : (p : Place) → Prefixes (Next (K.Name W.Error)) Any (revert_from p)
revert_prefix p = prefix_bind condition_from (λ x. Ok (T.Revert x.0 p, x.1)) prefix_condition (λ x. prefix_ok (T.Revert x p)) (λ w h. h)

allocate_prefix : (s : List ℕ) (p : Place) → Prefixes Any (Next (K.Symbol S.Semicolon)) (allocate_from s p)
allocate_prefix s p =
    prefix_bind (allocations_from s) (λ a. Ok (T.Allocate a.0 p, a.1)) (prefix_as allocations_stop (λ w h. tt) (prefix_allocations s)) (λ a. prefix_ok (T.Allocate a p)) (λ w h. h)

free_prefix : (s : List ℕ) (p : Place) → Prefixes Any (Next (K.Symbol S.Semicolon)) (free_from s p)
free_prefix s p =
    prefix_bind (freeings_from s) (λ f. Ok (T.Free f.0 p, f.1)) (prefix_as freeings_stop (λ w h. tt) (prefix_freeings s)) (λ f. prefix_ok (T.Free f p)) (λ w h. h)

moved_prefix : (s : List ℕ) (d : Direction) (p : Place) → Prefixes Any (Next (K.Symbol S.Semicolon)) (moved_from s d p)
moved_prefix s d p =
    prefix_bind (transfer_from s d) (λ x. Ok (moving d x.0.skip x.0.pairs p, x.1)) (prefix_as semicolon_ends (λ w h. tt) (prefix_transfer s d)) (λ x. prefix_ok (moving d x.skip x.pairs p)) (λ w h. h)

-- ---- the other heads

prefix_procedure : (s : List ℕ) (p : Place) → Prefixes Any Any (procedure_from s p)
unfolding procedure_from
prefix_procedure s p =
    prefix_bind (parameters_from s) (λ ns. options_from s ns.1 >>= λ options. closed (ProcedureFront p ns.0 options.0) options.1) (prefix_as (λ w h. h) (λ w h. tt) (prefix_parameters s))
    (λ ns. prefix_bind (options_from s) (λ options. closed (ProcedureFront p ns options.0) options.1) (prefix_procedure_options s) (λ options. prefix_closed (ProcedureFront p ns options)) (λ w q. q))
    (λ w q. next_allows stops_arguments (K.Symbol S.Semicolon) w refl q)

prefix_declaring : (s : List ℕ) (p : Place) → Prefixes Any Any (declaring_from s p)
prefix_declaring s p =
    prefix_bind (declare_items_from s) (λ ds. closed (Declaring ds.0 p) ds.1) (prefix_as (λ w q. next_allows stops_items (K.Symbol S.Semicolon) w refl q) (λ w h. tt) (prefix_declare_items s)) (λ ds. prefix_closed (Declaring ds p)) (λ w q. q)

pub prefix_if_then : (s : List ℕ) (p : Place) → Prefixes (Next (K.Number 1)) Any (if_from s p)
prefix_if_then s p =
    prefix_bind (expr_from s) (λ e. taken (K.Name W.Then) e.1 >>= λ u. Ok (IfThen e.0 p, u.1)) (prefix_expr s)
    (λ e. prefix_bind (taken (K.Name W.Then)) (λ u. Ok (IfThen e p, u.1)) (prefix_word W.Then) (λ u. prefix_ok (IfThen e p)) (λ w h. h))
    (λ w q. next_allows stops_expr (K.Name W.Then) w refl q)

prefix_on : (p : Place) → Prefixes (Next (K.Name W.Error)) Any (on_from p)
prefix_on p = prefix_bind condition_from (λ x. Ok (On x.0 p, x.1)) prefix_condition (λ x. prefix_ok (On x p)) (λ w h. h)

prefix_end : (s : List ℕ) (p : Place) → Prefixes (Next (K.Name W.Other)) Any (end_from s p)
unfolding end_from
prefix_end s p =
    prefix_when (K.Symbol S.Semicolon) (closed (EndOf None p)) (λ c. name_from s c >>= λ n. closed (EndOf (Some n.0) p) n.1) (steady (prefix_closed (EndOf None p)))
    (prefix_bind (name_from s) (λ n. closed (EndOf (Some n.0) p) n.1) (prefix_name s) (λ n. prefix_closed (EndOf (Some n) p)) (λ w q. tt))
    (λ w q. next_not (K.Symbol S.Semicolon) (K.Name W.Other) w refl q)

-- ---- DO

prefix_do_while : (s : List ℕ) (p : Place) → Prefixes (Next (K.Name W.While)) Any (do_while_from s p)
prefix_do_while s p =
    prefix_bind (taken (K.Name W.While)) (λ t. in_parentheses_from s t.1 >>= λ e. closed (DoWhileGroup e.0 p) e.1) (prefix_word W.While)
    (λ t. prefix_bind (in_parentheses_from s) (λ e. closed (DoWhileGroup e.0 p) e.1) (prefix_in_parentheses s) (λ e. prefix_closed (DoWhileGroup e p)) (λ w q. tt))
    (λ w q. tt)

prefix_do_count : (s : List ℕ) (p : Place) → Prefixes (Next (K.Name W.Other)) Any (do_count_from s p)
prefix_do_count s p =
    prefix_bind (counting_from s) (λ x. closed (DoCountGroup x.0 p) x.1) (prefix_counting s) (λ x. prefix_closed (DoCountGroup x p)) counting_stops

-- what stands behind the reference and `=` of a variable that counts
abbrev behind_equal : List ℕ → T.Reference → Read Token → Read T.Counting
behind_equal s r q =
    q >>= λ t. expr_from s t.1 >>= λ v. range_from s v.1 >>= λ g. while_from s g.1 >>= λ w. Ok (counted r v.0 g.0 w.0, w.1)

abbrev count_closed : Place → Read T.Counting → Read Head
count_closed p q = q >>= λ y. closed (DoCountGroup y.0 p) y.1

abbrev behind_reference : List ℕ → T.Reference × Cursor → Read T.Counting
behind_reference s r = behind_equal s r.0 (taken_at (K.Symbol S.Equal) r.1.tokens r.1)

-- a variable that counts is read where an assignment begins
counted_begins : (s : List ℕ) (p : Place) (c : Cursor) (x : Head × Cursor) → do_count_from s p c ≡ Ok x → assignment_begins s c ≡ Begins
unfolding counting_from assignment_begins taken
counted_begins s p c x e = with_reference (reference_from s c) e
  where
    by_kind : (r : T.Reference) (d : Cursor) (t : Token) (b : Bool) → is_terminal (K.Symbol S.Equal) t.kind ≡ b → count_closed p (behind_equal s r (if b then Ok (t, d) else Err Stuck)) ≡ Ok x → begun_by (Some t.kind) ≡ Begins
    by_kind r d t true h k = ap (λ u. begun_by (Some u)) (terminal_kind (K.Symbol S.Equal) t.kind h)
    by_kind r d t false h k = absurd (cc k)

    with_equal : (r : T.Reference × Cursor) (ts : List Token) → count_closed p (behind_equal s r.0 (taken_at (K.Symbol S.Equal) ts r.1)) ≡ Ok x → begun_by (next_kind ts) ≡ Begins
    with_equal r [] k = absurd (cc k)
    with_equal r (t ∷ ts) k = by_kind r.0 (onto ts r.1) t (is_terminal (K.Symbol S.Equal) t.kind) refl k

    with_reference : (u : Read T.Reference) → count_closed p (u >>= behind_reference s) ≡ Ok x → begun u ≡ Begins
    with_reference (Ok r) k = with_equal r r.1.tokens k
    with_reference (Err at) k = absurd (cc k)

open_counting : (s : List ℕ) (p : Place) (c : Cursor) → Open (reference_from s c) → Open (do_count_from s p c)
unfolding counting_from taken
open_counting s p c o = with_reference (reference_from s c) o
  where
    with_empty : (r : T.Reference × Cursor) (ts : List Token) → ts ≡ [] → Open (count_closed p (behind_equal s r.0 (taken_at (K.Symbol S.Equal) ts r.1)))
    with_empty r [] i = tt
    with_empty r (t ∷ ts) i = absurd (cc i)

    with_reference : (u : Read T.Reference) → Open u → Open (count_closed p (u >>= behind_reference s))
    with_reference (Ok r) o = with_empty r r.1.tokens o
    with_reference (Err Ended) o = tt
    with_reference (Err Stuck) o = absurd o
    with_reference (Err (LeavesOut d)) o = absurd o

-- at WHILE
module _ (s : List ℕ) (p : Place) where
  abbrev at_while : Cursor → Read Head
  at_while c = do_worded s p (assignment_begins s c) c

  while_stays : (c : Cursor) (more : List Token) (b : Beginning) → assignment_begins s c ≡ b → Stays more (do_worded s p b c) (at_while (longer c more))
  while_stays c more Begins e =
      let i : assignment_begins s (longer c more) ≡ Begins = begins_stays s c more (λ u. cc (e, u)) ∙ e in
      subst (λ b. Stays more (do_count_from s p c) (do_worded s p b (longer c more))) (sym i) ((prefix_do_count s p).stays c more)
  while_stays c more Differs e =
      let i : assignment_begins s (longer c more) ≡ Differs = begins_stays s c more (λ u. cc (e, u)) ∙ e in
      subst (λ b. Stays more (do_while_from s p c) (do_worded s p b (longer c more))) (sym i) ((prefix_do_while s p).stays c more)
  while_stays c more Unknown e = tt

  counted_closes : (c : Cursor) → Open (do_count_from s p c) → Closing Any Any at_while c
  counted_closes c o =
      let k = (prefix_do_count s p).closes c o in
      record {
        more = k.more;
        given = k.given;
        marks = k.marks;
        reads = λ w h. ap (λ b. do_worded s p b (longer c (k.more ++ w))) (counted_begins s p (longer c (k.more ++ w)) _ (k.reads w h)) ∙ k.reads w h;
        leads = λ e w h. tt;
      }

  while_closes : (c : Cursor) (b : Beginning) → assignment_begins s c ≡ b → Open (do_worded s p b c) → Closing Any Any at_while c
  while_closes c Begins e o = counted_closes c o
  while_closes c Differs e o =
      let k = (prefix_do_while s p).closes c o in
      record {
        more = k.more;
        given = k.given;
        marks = k.marks;
        reads = λ w h. ap (λ b. do_worded s p b (longer c (k.more ++ w))) (begins_stays s c (k.more ++ w) (λ u. cc (e, u)) ∙ e) ∙ k.reads w h;
        leads = λ i w h. tt;
      }
  while_closes c Unknown e o = counted_closes c (open_counting s p c (unknown_opens s c e))

  steady_while : Steady Any at_while
  steady_while = record { stays = λ c more. while_stays c more (assignment_begins s c) refl; closes = λ c o. while_closes c (assignment_begins s c) refl o }

prefix_do : (s : List ℕ) (p : Place) → Prefixes (Next (K.Name W.Other)) Any (do_from s p)
unfolding do_from
prefix_do s p =
    prefix_when (K.Symbol S.Semicolon) (closed (DoGroup p)) (λ c. if begins (K.Name W.While) c then do_worded s p (assignment_begins s c) c else do_count_from s p c) (steady (prefix_closed (DoGroup p)))
    (prefix_when (K.Name W.While) (λ c. do_worded s p (assignment_begins s c) c) (do_count_from s p) (steady_while s p) (prefix_do_count s p) (λ w q. next_not (K.Name W.While) (K.Name W.Other) w refl q))
    (λ w q. next_not (K.Symbol S.Semicolon) (K.Name W.Other) w refl q)

-- ---- behind each word

other_stays : (p : Place) (front front' : List Token) (c : Cursor) (more : List Token) (b : Bool) → Stays more (simple_from (if b then Err (LeavesOut (onto front c)) else Err Stuck)) (simple_from (if b then Err (LeavesOut (onto front' (longer c more))) else Err Stuck))
other_stays p front front' c more true = tt
other_stays p front front' c more false = refl

pub word_stays : (s : List ℕ) (front front' : List Token) (p : Place) (w : Word) (c : Cursor) (more : List Token) → Stays more (head_behind s front p w c) (head_behind s front' p w (longer c more))
unfolding head_behind simple_behind
word_stays s front front' p W.Procedure c more = (prefix_procedure s p).stays c more
word_stays s front front' p W.Declare c more = (prefix_declaring s p).stays c more
word_stays s front front' p W.If c more = (prefix_if_then s p).stays c more
word_stays s front front' p W.Else c more = inr refl
word_stays s front front' p W.Do c more = (prefix_do s p).stays c more
word_stays s front front' p W.Begin c more = (prefix_closed (BeginBlock p)).stays c more
word_stays s front front' p W.On c more = (prefix_on p).stays c more
word_stays s front front' p W.System c more = (prefix_closed (System p)).stays c more
word_stays s front front' p W.End c more = (prefix_end s p).stays c more
word_stays s front front' p W.Call c more = (prefix_simple (call_from s p) (call_prefix s p) arguments_stop).stays c more
word_stays s front front' p W.Return c more = (prefix_simple (return_from s p) (return_prefix s p) (λ w q. q)).stays c more
word_stays s front front' p W.Goto c more = (prefix_simple (label_from s p) (label_prefix s p) (λ w q. tt)).stays c more
word_stays s front front' p W.Go c more = (prefix_simple (go_from s p) (go_prefix s p) (λ w q. tt)).stays c more
word_stays s front front' p W.Stop c more = (prefix_closed (Simple (T.Stop p))).stays c more
word_stays s front front' p W.Signal c more = (prefix_simple (signal_from p) (signal_prefix p) (λ w q. tt)).stays c more
word_stays s front front' p W.Revert c more = (prefix_simple (revert_from p) (revert_prefix p) (λ w q. tt)).stays c more
word_stays s front front' p W.Allocate c more = (prefix_simple (allocate_from s p) (allocate_prefix s p) (λ w q. q)).stays c more
word_stays s front front' p W.Free c more = (prefix_simple (free_from s p) (free_prefix s p) (λ w q. q)).stays c more
word_stays s front front' p W.Get c more = (prefix_simple (moved_from s Getting p) (moved_prefix s Getting p) (λ w q. q)).stays c more
word_stays s front front' p W.Put c more = (prefix_simple (moved_from s Putting p) (moved_prefix s Putting p) (λ w q. q)).stays c more
word_stays s front front' p w c more = other_stays p front front' c more (is_left_out_head w)

-- tokens that make a whole head of what a word began
pub record Whole (s : List ℕ) (p : Place) (w : Word) (c : Cursor) : Type 0 where
  pub more : List Token
  pub head : Head
  pub rest : Cursor
  pub reads : (front : List Token) → head_behind s front p w (longer c more) ≡ Ok (head, rest)

whole_of : {P : List Token → Type 0} {g : Cursor → Read Head} (s : List ℕ) (p : Place) (w : Word) (c : Cursor) → ((front : List Token) (d : Cursor) → head_behind s front p w d ≡ g d) → Closing P Any g c → Whole s p w c
whole_of s p w c is k =
    record { more = k.more ++ []; head = k.given; rest = record { tokens = []; marks = k.marks }; reads = λ front. is front (longer c (k.more ++ [])) ∙ k.reads [] tt }

other_closed : (front : List Token) (c : Cursor) (b : Bool) → Open (simple_from (if b then Err (LeavesOut (onto front c)) else Err Stuck)) → ⊥
other_closed front c true o = o
other_closed front c false o = o

pub word_closes : (s : List ℕ) (front : List Token) (p : Place) (w : Word) (c : Cursor) → Open (head_behind s front p w c) → Whole s p w c
unfolding head_behind simple_behind
word_closes s front p W.Procedure c o = whole_of s p W.Procedure c (λ at d. refl) ((prefix_procedure s p).closes c o)
word_closes s front p W.Declare c o = whole_of s p W.Declare c (λ at d. refl) ((prefix_declaring s p).closes c o)
word_closes s front p W.If c o = whole_of s p W.If c (λ at d. refl) ((prefix_if_then s p).closes c o)
word_closes s front p W.Else c o = record { more = []; head = Else p; rest = longer c []; reads = λ at. refl }
word_closes s front p W.Do c o = whole_of s p W.Do c (λ at d. refl) ((prefix_do s p).closes c o)
word_closes s front p W.Begin c o = whole_of s p W.Begin c (λ at d. refl) ((prefix_closed (BeginBlock p)).closes c o)
word_closes s front p W.On c o = whole_of s p W.On c (λ at d. refl) ((prefix_on p).closes c o)
word_closes s front p W.System c o = whole_of s p W.System c (λ at d. refl) ((prefix_closed (System p)).closes c o)
word_closes s front p W.End c o = whole_of s p W.End c (λ at d. refl) ((prefix_end s p).closes c o)
word_closes s front p W.Call c o = whole_of s p W.Call c (λ at d. refl) ((prefix_simple (call_from s p) (call_prefix s p) arguments_stop).closes c o)
word_closes s front p W.Return c o = whole_of s p W.Return c (λ at d. refl) ((prefix_simple (return_from s p) (return_prefix s p) (λ w q. q)).closes c o)
word_closes s front p W.Goto c o = whole_of s p W.Goto c (λ at d. refl) ((prefix_simple (label_from s p) (label_prefix s p) (λ w q. tt)).closes c o)
word_closes s front p W.Go c o = whole_of s p W.Go c (λ at d. refl) ((prefix_simple (go_from s p) (go_prefix s p) (λ w q. tt)).closes c o)
word_closes s front p W.Stop c o = whole_of s p W.Stop c (λ at d. refl) ((prefix_closed (Simple (T.Stop p))).closes c o)
word_closes s front p W.Signal c o = whole_of s p W.Signal c (λ at d. refl) ((prefix_simple (signal_from p) (signal_prefix p) (λ w q. tt)).closes c o)
word_closes s front p W.Revert c o = whole_of s p W.Revert c (λ at d. refl) ((prefix_simple (revert_from p) (revert_prefix p) (λ w q. tt)).closes c o)
word_closes s front p W.Allocate c o = whole_of s p W.Allocate c (λ at d. refl) ((prefix_simple (allocate_from s p) (allocate_prefix s p) (λ w q. q)).closes c o)
word_closes s front p W.Free c o = whole_of s p W.Free c (λ at d. refl) ((prefix_simple (free_from s p) (free_prefix s p) (λ w q. q)).closes c o)
word_closes s front p W.Get c o = whole_of s p W.Get c (λ at d. refl) ((prefix_simple (moved_from s Getting p) (moved_prefix s Getting p) (λ w q. q)).closes c o)
word_closes s front p W.Put c o = whole_of s p W.Put c (λ at d. refl) ((prefix_simple (moved_from s Putting p) (moved_prefix s Putting p) (λ w q. q)).closes c o)
word_closes s front p w c o = absurd (other_closed front c (is_left_out_head w) o)
