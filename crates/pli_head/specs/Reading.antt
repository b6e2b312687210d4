-- How a head is read: by its first word, unless an assignment begins there.
use Rattle.std.specs.Prelude.{ℕ, List, [], ◌∷◌, Bool, true, false, if◌then◌else◌, Some, None, Ok, Err}
use Rattle.pli_language.specs.declared.expr.Place.{Place}
use Rattle.pli_language.specs.declared.token.Word.{Word}
use Rattle.pli_language.specs.declared.token.Word.TheVariants as W
use Rattle.pli_language.specs.declared.token.Symbol.TheVariants as S
use Rattle.pli_language.specs.declared.token.Kind.TheVariants as K
use Rattle.pli_language.specs.declared.token.Token.{Token}
use Rattle.pli_language.specs.Spells.{place_of}
use Rattle.pli_language.specs.Heads.{Head, ProcedureFront, Declaring, Simple, IfThen, Else, DoGroup, DoWhileGroup, DoCountGroup, BeginBlock, On, System, EndOf, is_left_out_head, moving}
use Rattle.pli_language.specs.Formats.{Direction, Getting, Putting}
use Rattle.pli_language.specs.Tree as T
use Rattle.pli_phrase.specs.Cursor.{Cursor, Stuck, Ended, LeavesOut, Read, ◌>>=◌, onto}
use Rattle.pli_phrase.specs.Tokens.{is_terminal, begins, taken, name_from}
use Rattle.pli_phrase.specs.declared.expression.Beginning.{Beginning}
use Rattle.pli_phrase.specs.declared.expression.Beginning.TheVariants.{Begins, Differs, Unknown}
use Rattle.pli_phrase.specs.Reading.{expr_from, reference_from, arguments_from, assignment_begins}
use Rattle.pli_attributes.specs.Reading.{declare_items_from}
use Rattle.pli_stream.specs.Reading.{transfer_from}
use Rattle.pli_clause.specs.Parts.{word_from}
use Rattle.pli_clause.specs.Reading.{condition_from, parameters_from, options_from, in_parentheses_from, counting_from, allocations_from, freeings_from, value_from}

-- ---- what decides between assignments and words

abbrev pub then_behind : Read T.Expr → Bool
then_behind (Ok x) = begins (K.Name W.Then) x.1
then_behind (Err e) = false

-- behind IF: an open parenthesis, and THEN behind the longest expression that begins there
abbrev pub condition_then : List ℕ → Cursor → Bool
condition_then s c = if begins (K.Symbol S.OpenParenthesis) c then then_behind (expr_from s c) else false

abbrev pub if_at : List ℕ → List Token → Cursor → Bool
if_at s [] c = false
if_at s (t ∷ ts) c = if is_terminal (K.Name W.If) t.kind then condition_then s (onto ts c) else false

unfoldable pub begins_if : List ℕ → Cursor → Bool
begins_if s c = if_at s c.tokens c

-- whether an assignment begins here, and no IF
unfoldable pub assigns : List ℕ → Cursor → Beginning
assigns s c = if begins_if s c then Differs else assignment_begins s c

-- ---- simple statements, behind their words

-- up to its semicolon
abbrev pub closed : Head → Cursor → Read Head
closed h c = taken (K.Symbol S.Semicolon) c >>= λ u. Ok (h, u.1)

unfoldable pub assignment_from : List ℕ → Place → Cursor → Read T.Stmt
assignment_from s p c =
    reference_from s c >>= λ r. taken (K.Symbol S.Equal) r.1 >>= λ t. expr_from s t.1 >>= λ e. Ok (T.Assign r.0 e.0 p, e.1)

abbrev pub call_from : List ℕ → Place → Cursor → Read T.Stmt
call_from s p c = name_from s c >>= λ n. arguments_from s n.1 >>= λ a. Ok (T.Call n.0 a.0 p, a.1)

abbrev pub return_from : List ℕ → Place → Cursor → Read T.Stmt
return_from s p c = value_from s c >>= λ v. Ok (T.Return v.0 p, v.1)

-- a label to go to
abbrev pub label_from : List ℕ → Place → Cursor → Read T.Stmt
label_from s p c = name_from s c >>= λ n. Ok (T.Goto n.0 p, n.1)

-- behind GO
abbrev pub go_from : List ℕ → Place → Cursor → Read T.Stmt
go_from s p c = taken (K.Name W.To) c >>= λ u. label_from s p u.1

abbrev pub signal_from : Place → Cursor → Read T.Stmt
signal_from p c = condition_from c >>= λ x. Ok (T.Signal x.0 p, x.1)

abbrev pub revert_from : Place → Cursor → Read T.Stmt
revert_from p c = condition_from c >>= λ x. Ok (T.Revert x.0 p, x.1)

abbrev pub allocate_from : List ℕ → Place → Cursor → Read T.Stmt
allocate_from s p c = allocations_from s c >>= λ a. Ok (T.Allocate a.0 p, a.1)

abbrev pub free_from : List ℕ → Place → Cursor → Read T.Stmt
free_from s p c = freeings_from s c >>= λ f. Ok (T.Free f.0 p, f.1)

abbrev pub moved_from : List ℕ → Direction → Place → Cursor → Read T.Stmt
moved_from s d p c = transfer_from s d c >>= λ x. Ok (moving d x.0.skip x.0.pairs p, x.1)

-- a word with which no head begins, or one that is left out; it is the first of the tokens `at`
abbrev pub other_from : List Token → Word → Cursor → Read T.Stmt
other_from at word c = if is_left_out_head word then Err (LeavesOut (onto at c)) else Err Stuck

unfoldable pub simple_behind : List ℕ → List Token → Place → Word → Cursor → Read T.Stmt
simple_behind s at p W.Call c = call_from s p c
simple_behind s at p W.Return c = return_from s p c
simple_behind s at p W.Goto c = label_from s p c
simple_behind s at p W.Go c = go_from s p c
simple_behind s at p W.Stop c = Ok (T.Stop p, c)
simple_behind s at p W.Signal c = signal_from p c
simple_behind s at p W.Revert c = revert_from p c
simple_behind s at p W.Allocate c = allocate_from s p c
simple_behind s at p W.Free c = free_from s p c
simple_behind s at p W.Get c = moved_from s Getting p c
simple_behind s at p W.Put c = moved_from s Putting p c
simple_behind s at p word c = other_from at word c

-- ---- the other heads, behind their words

unfoldable pub procedure_from : List ℕ → Place → Cursor → Read Head
procedure_from s p c =
    parameters_from s c >>= λ ns. options_from s ns.1 >>= λ options. closed (ProcedureFront p ns.0 options.0) options.1

abbrev pub declaring_from : List ℕ → Place → Cursor → Read Head
declaring_from s p c = declare_items_from s c >>= λ ds. closed (Declaring ds.0 p) ds.1

abbrev pub if_from : List ℕ → Place → Cursor → Read Head
if_from s p c = expr_from s c >>= λ e. taken (K.Name W.Then) e.1 >>= λ u. Ok (IfThen e.0 p, u.1)

abbrev pub do_while_from : List ℕ → Place → Cursor → Read Head
do_while_from s p c =
    taken (K.Name W.While) c >>= λ t. in_parentheses_from s t.1 >>= λ e. closed (DoWhileGroup e.0 p) e.1

abbrev pub do_count_from : List ℕ → Place → Cursor → Read Head
do_count_from s p c = counting_from s c >>= λ x. closed (DoCountGroup x.0 p) x.1

-- at WHILE: the variable that counts, or a condition; where the tokens end in it, it may be either
abbrev pub do_worded : List ℕ → Place → Beginning → Cursor → Read Head
do_worded s p Begins c = do_count_from s p c
do_worded s p Differs c = do_while_from s p c
do_worded s p Unknown c = Err Ended

unfoldable pub do_from : List ℕ → Place → Cursor → Read Head
do_from s p c =
    if begins (K.Symbol S.Semicolon) c then closed (DoGroup p) c else if begins (K.Name W.While) c then do_worded s p (assignment_begins s c) c else do_count_from s p c

abbrev pub on_from : Place → Cursor → Read Head
on_from p c = condition_from c >>= λ x. Ok (On x.0 p, x.1)

unfoldable pub end_from : List ℕ → Place → Cursor → Read Head
end_from s p c =
    if begins (K.Symbol S.Semicolon) c then closed (EndOf None p) c else (name_from s c >>= λ n. closed (EndOf (Some n.0) p) n.1)

abbrev pub simple_from : Read T.Stmt → Read Head
simple_from r = r >>= λ x. closed (Simple x.0) x.1

unfoldable pub head_behind : List ℕ → List Token → Place → Word → Cursor → Read Head
head_behind s at p W.Procedure c = procedure_from s p c
head_behind s at p W.Declare c = declaring_from s p c
head_behind s at p W.If c = if_from s p c
head_behind s at p W.Else c = Ok (Else p, c)
head_behind s at p W.Do c = do_from s p c
head_behind s at p W.Begin c = closed (BeginBlock p) c
head_behind s at p W.On c = on_from p c
head_behind s at p W.System c = closed (System p) c
head_behind s at p W.End c = end_from s p c
head_behind s at p word c = simple_from (simple_behind s at p word c)

-- ---- heads

abbrev pub null_from : Cursor → Read Head
null_from c = taken (K.Symbol S.Semicolon) c >>= λ u. Ok (Simple (T.Null (place_of u.0)), u.1)

-- a head that begins with this word, which is the first of the tokens `at`
abbrev pub worded : List ℕ → Beginning → List Token → (Token × Word) × Cursor → Read Head
worded s Begins at w = simple_from (assignment_from s (place_of w.0.0) (onto at w.1))
worded s b at w = head_behind s at (place_of w.0.0) w.0.1 w.1

-- the head that begins at the first token
unfoldable pub head_from : List ℕ → Cursor → Read Head
head_from s c =
    if begins (K.Symbol S.Semicolon) c then null_from c else (word_from c >>= λ w. worded s (assigns s c) c.tokens w)
