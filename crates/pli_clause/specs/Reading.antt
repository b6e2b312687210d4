-- How the parts of heads are read, rule by rule.
use Rattle.std.specs.Prelude.{ℕ, zero, suc, List, [], ◌∷◌, length, nat_le, if◌then◌else◌, Option, Some, None, Ok, Err}
use Rattle.pli_language.specs.declared.condition.Condition.{Condition}
use Rattle.pli_language.specs.declared.condition.Condition.TheVariants as C
use Rattle.pli_language.specs.declared.token.Word.{Word}
use Rattle.pli_language.specs.declared.token.Word.TheVariants as W
use Rattle.pli_language.specs.declared.token.Symbol.TheVariants as S
use Rattle.pli_language.specs.declared.token.Kind.TheVariants as K
use Rattle.pli_language.specs.declared.token.Token.{Token}
use Rattle.pli_language.specs.declared.fault.SourceKind.TheVariants.{TooLarge}
use Rattle.pli_language.specs.Spells.{place_of}
use Rattle.pli_language.specs.Marks.{Marks, note_if}
use Rattle.pli_language.specs.Heads.{most_parameters, plain_condition}
use Rattle.pli_language.specs.Tree as T
use Rattle.pli_phrase.specs.Cursor.{Cursor, Stuck, Ended, Read, ◌>>=◌}
use Rattle.pli_phrase.specs.Tokens.{begins, taken, name_from}
use Rattle.pli_phrase.specs.Reading.{expr_from, reference_from}
use Rattle.pli_attributes.specs.Lists.{One, enclosed_from, optional_from, list_from}
use Rattle.pli_attributes.specs.Reading.{attributes_from}
use Rattle.pli_clause.specs.Parts.{word_from, behind_word, ended_by, in_order, in_reverse, both_from}

-- ---- conditions

-- behind ENDFILE
abbrev pub endfile_from : Cursor → Read Condition
endfile_from c = enclosed_from (taken (K.Name W.Sysin)) c >>= λ x. Ok (C.Endfile, x.1)

abbrev pub plain_from : Option Condition → Cursor → Read Condition
plain_from None c = Err Stuck
plain_from (Some x) c = Ok (x, c)

abbrev pub condition_behind : Word → Cursor → Read Condition
condition_behind W.Endfile c = endfile_from c
condition_behind word c = plain_from (plain_condition word) c

unfoldable pub condition_from : Cursor → Read Condition
condition_from c = word_from c >>= λ w. condition_behind w.0.1 w.1

-- ---- parameters

-- a parameter at the first token, before which so many stand
abbrev pub parameter_at : ℕ → List Token → Marks → Marks
parameter_at before [] m = m
parameter_at before (t ∷ ts) m = note_if (nat_le most_parameters before) (place_of t) TooLarge m

abbrev pub parameter_due : ℕ → Cursor → Cursor
parameter_due before c = record { tokens = c.tokens; marks = parameter_at before c.tokens c.marks }

abbrev pub one_parameter : List ℕ → One T.Name
one_parameter s before c = name_from s (parameter_due before c)

unfoldable pub names_from : List ℕ → Cursor → Read (List T.Name)
names_from s c = list_from (one_parameter s) c

unfoldable pub parameters_from : List ℕ → Cursor → Read (List T.Name)
parameters_from s c = optional_from [] (names_from s) c

-- ---- options of procedures

-- behind OPTIONS
abbrev pub main_from : Cursor → Read T.ProcedureOption
main_from c = enclosed_from (taken (K.Name W.Main)) c >>= λ x. Ok (T.Main, x.1)

abbrev pub returning : List T.Attribute → Cursor → Read T.ProcedureOption
returning [] c = Err Stuck
returning (a ∷ others) c = Ok (T.Returns (a ∷ others), c)

-- behind RETURNS
unfoldable pub returns_from : List ℕ → Cursor → Read T.ProcedureOption
returns_from s c =
    taken (K.Symbol S.OpenParenthesis) c >>= λ t. attributes_from s t.1 >>= λ others. taken (K.Symbol S.CloseParenthesis) others.1 >>= λ u. returning others.0 u.1

abbrev pub option_behind : List ℕ → Word → Cursor → Read T.ProcedureOption
option_behind s W.Options c = main_from c
option_behind s W.Recursive c = Ok (T.Recursive, c)
option_behind s W.Returns c = returns_from s c
option_behind s _ c = Err Stuck

unfoldable pub option_from : List ℕ → Cursor → Read T.ProcedureOption
option_from s c = word_from c >>= λ w. option_behind s w.0.1 w.1

unfoldable pub options_at : ℕ → List ℕ → Cursor → Read (List T.ProcedureOption)
options_at zero s c = Err Ended
options_at (suc n) s c =
    if begins (K.Symbol S.Semicolon) c then Ok ([], c) else (option_from s c >>= λ o. options_at n s o.1 >>= λ others. Ok (o.0 ∷ others.0, others.1))

-- options, up to a semicolon
unfoldable pub options_from : List ℕ → Cursor → Read (List T.ProcedureOption)
options_from s c = options_at (suc (length c.tokens)) s c

-- ---- counting

abbrev pub in_parentheses_from : List ℕ → Cursor → Read T.Expr
in_parentheses_from s c = enclosed_from (expr_from s) c

-- TO and BY
abbrev pub range_ended : Option T.Expr × Option T.Expr → Cursor → Read (Option T.Expr × Option T.Expr)
range_ended p c = ended_by W.To W.By p c

abbrev pub limit_first : List ℕ → Cursor → Read (Option T.Expr × Option T.Expr)
limit_first s c = in_order W.To W.By (expr_from s) c

abbrev pub step_first : List ℕ → Cursor → Read (Option T.Expr × Option T.Expr)
step_first s c = in_reverse W.To W.By (expr_from s) c

unfoldable pub range_from : List ℕ → Cursor → Read (Option T.Expr × Option T.Expr)
range_from s c = both_from W.To W.By (expr_from s) c

unfoldable pub while_from : List ℕ → Cursor → Read (Option T.Expr)
while_from s c = behind_word W.While (in_parentheses_from s) c

abbrev pub counted : T.Reference → T.Expr → Option T.Expr × Option T.Expr → Option T.Expr → T.Counting
counted v e r w = record { variable = v; start = e; limit = r.0; step = r.1; condition = w }

unfoldable pub counting_from : List ℕ → Cursor → Read T.Counting
counting_from s c = do
  v ← reference_from s c
  equal ← taken (K.Symbol S.Equal) v.1
  e ← expr_from s equal.1
  r ← range_from s e.1
  w ← while_from s r.1
  Ok (counted v.0 e.0 r.0 w.0, w.1)

-- ---- allocations and freeings

abbrev pub into_from : List ℕ → Cursor → Read T.Reference
into_from s c = enclosed_from (reference_from s) c

-- IN and SET
abbrev pub placing_ended : Option T.Reference × Option T.Reference → Cursor → Read (Option T.Reference × Option T.Reference)
placing_ended p c = ended_by W.In W.Set p c

abbrev pub area_first : List ℕ → Cursor → Read (Option T.Reference × Option T.Reference)
area_first s c = in_order W.In W.Set (into_from s) c

abbrev pub locator_first : List ℕ → Cursor → Read (Option T.Reference × Option T.Reference)
locator_first s c = in_reverse W.In W.Set (into_from s) c

unfoldable pub placing_from : List ℕ → Cursor → Read (Option T.Reference × Option T.Reference)
placing_from s c = both_from W.In W.Set (into_from s) c

abbrev pub placed : T.Name → Option T.Reference × Option T.Reference → T.Allocation
placed n p = record { variable = n; area = p.0; locator = p.1 }

unfoldable pub allocation_from : List ℕ → Cursor → Read T.Allocation
allocation_from s c =
    name_from s c >>= λ n. placing_from s n.1 >>= λ p. Ok (placed n.0 p.0, p.1)

unfoldable pub allocations_from : List ℕ → Cursor → Read (List T.Allocation)
allocations_from s c = list_from (λ before. allocation_from s) c

abbrev pub freed : T.Reference → Option T.Reference → T.Freeing
freed r a = record { generation = r; area = a }

unfoldable pub freeing_from : List ℕ → Cursor → Read T.Freeing
freeing_from s c =
    reference_from s c >>= λ r. behind_word W.In (into_from s) r.1 >>= λ a. Ok (freed r.0 a.0, a.1)

unfoldable pub freeings_from : List ℕ → Cursor → Read (List T.Freeing)
freeings_from s c = list_from (λ before. freeing_from s) c

-- ---- values that are returned

abbrev pub some_expr_from : List ℕ → Cursor → Read (Option T.Expr)
some_expr_from s c = expr_from s c >>= λ e. Ok (Some e.0, e.1)

unfoldable pub value_from : List ℕ → Cursor → Read (Option T.Expr)
value_from s c = optional_from None (some_expr_from s) c
