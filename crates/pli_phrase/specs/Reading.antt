-- How expressions and references are read: one token a step, with what is open around it as a stack of frames. What is
-- collected in a list here has its newest first.
use Rattle.std.specs.Prelude.{ℕ, zero, suc, List, [], ◌∷◌, length, Bool, true, false, nat_le, if◌then◌else◌, Option, Some, None, Ok, Err, slice_range}
use Rattle.pli_language.specs.declared.token.Symbol.TheVariants as S
use Rattle.pli_language.specs.declared.token.Kind.{Kind}
use Rattle.pli_language.specs.declared.token.Kind.TheVariants as K
use Rattle.pli_language.specs.declared.token.Token.{Token}
use Rattle.pli_language.specs.declared.expr.Place.{Place}
use Rattle.pli_language.specs.declared.expr.PrefixOp.{PrefixOp}
use Rattle.pli_language.specs.declared.expr.PrefixOp.TheVariants as P
use Rattle.pli_language.specs.declared.expr.InfixOp.{InfixOp}
use Rattle.pli_language.specs.declared.expr.InfixOp.TheVariants as I
use Rattle.pli_language.specs.Spells.{place_of, name_at, next_kind}
use Rattle.pli_language.specs.Marks.{Marks, argument}
use Rattle.pli_language.specs.Tree as T
use Rattle.pli_phrase.specs.Cursor.{Cursor, Stuck, Ended, Read, ◌>>=◌}
use Rattle.pli_phrase.specs.declared.expression.Beginning.{Beginning}
use Rattle.pli_phrase.specs.declared.expression.Beginning.TheVariants.{Begins, Differs, Unknown}
use Rattle.pli_phrase.specs.Tokens.{starts, taken, text_of}

-- ---- operators

abbrev pub prefix_of : Kind → Option PrefixOp
prefix_of (K.Symbol S.Plus) = Some P.Plus
prefix_of (K.Symbol S.Minus) = Some P.Minus
prefix_of (K.Symbol S.Not) = Some P.Not
prefix_of _ = None

abbrev pub infix_of : Kind → Option InfixOp
infix_of (K.Symbol S.Times) = Some I.Multiply
infix_of (K.Symbol S.Divide) = Some I.Divide
infix_of (K.Symbol S.Plus) = Some I.Add
infix_of (K.Symbol S.Minus) = Some I.Subtract
infix_of (K.Symbol S.Join) = Some I.Join
infix_of (K.Symbol S.Equal) = Some I.Equal
infix_of (K.Symbol S.NotEqual) = Some I.NotEqual
infix_of (K.Symbol S.Less) = Some I.Less
infix_of (K.Symbol S.Greater) = Some I.Greater
infix_of (K.Symbol S.LessOrEqual) = Some I.LessOrEqual
infix_of (K.Symbol S.GreaterOrEqual) = Some I.GreaterOrEqual
infix_of (K.Symbol S.And) = Some I.And
infix_of (K.Symbol S.Or) = Some I.Or
infix_of _ = None

-- the number of an operator's level, from those that bind closest on
abbrev pub level_of : InfixOp → ℕ
level_of I.Multiply = 0
level_of I.Divide = 0
level_of I.Add = 1
level_of I.Subtract = 1
level_of I.Join = 2
level_of I.Equal = 3
level_of I.NotEqual = 3
level_of I.Less = 3
level_of I.Greater = 3
level_of I.LessOrEqual = 3
level_of I.GreaterOrEqual = 3
level_of I.And = 4
level_of I.Or = 5

-- ---- what is open

-- what stands before a name of a reference: the locator, where an arrow stands, and the qualifiers behind it
pub record Path : Type 0 where
  pub locator : Option T.Reference
  pub qualifiers : List (T.Name × T.Arguments)

-- an operator whose operand isn't complete, an open parenthesis, an open argument list, or a reference that is read alone
pub data Frame : Type 0 where
  Before : PrefixOp → Place → Frame
  Between : InfixOp → T.Expr → Frame
  Group : Place → Frame
  Listing : Path → T.Name → List T.Expr → Frame
  Alone : Frame

-- what is due, or what was just read
pub data State : Type 0 where
  OperandDue ArgumentDue : State
  FirstDue : Path → T.Name → State
  NameDue : Path → State
  NameRead : Path → T.Name → State
  ArgumentsRead : Path → T.Name → T.Arguments → State
  OperandRead : T.Expr → State

abbrev pub no_path : Path
no_path = record { locator = None; qualifiers = [] }

-- the qualifiers before a name
abbrev pub qualified : List (T.Name × T.Arguments) → T.Qualified → T.Qualified
qualified [] q = q
qualified (x ∷ xs) q = qualified xs (T.Of x.0 x.1 q)

abbrev pub located : Option T.Reference → T.Qualified → T.Reference
located None q = T.Plain q
located (Some r) q = T.Located r q

-- the reference that ends with this name
abbrev pub referred : Path → T.Name → T.Arguments → T.Reference
referred path name a = located path.locator (qualified path.qualifiers (T.Last name a))

-- behind a point, and behind an arrow
abbrev pub with_qualifier : Path → T.Name → T.Arguments → Path
with_qualifier path name a = record { locator = path.locator; qualifiers = (name, a) ∷ path.qualifiers }

abbrev pub with_locator : Path → T.Name → T.Arguments → Path
with_locator path name a = record { locator = Some (referred path name a); qualifiers = [] }

-- expressions before others
abbrev pub exprs_with : List T.Expr → T.Exprs → T.Exprs
exprs_with [] es = es
exprs_with (e ∷ before) es = exprs_with before (T.ExprThen e es)

-- ---- one token

-- what a token leads to: on with the next one, the end of the expression before this one, or nothing
pub data Step : Type 0 where
  On : State → List Frame → Marks → Step
  Ends : T.Expr → Marks → Step
  Fails : Step

-- the operand of a level so far, and the frames around it: operators of frames that bind at least as close as the next
-- one have their operands
abbrev pub climbs : Option InfixOp → InfixOp → Bool
climbs None inner = true
climbs (Some op) inner = nat_le (level_of inner) (level_of op)

abbrev pub climbed : Option InfixOp → List Frame → T.Expr → List Frame × T.Expr
climbed next (Before op p ∷ k) e = climbed next k (T.Prefix op e p)
climbed next (Between op left ∷ k) e = if climbs next op then climbed next k (T.Infix op left e) else (Between op left ∷ k, e)
climbed next k e = (k, e)

-- what closes an operand
abbrev pub closed : List Frame → T.Expr → Kind → Marks → Step
closed [] e kind m = Ends e m
closed (Group p ∷ k) e (K.Symbol S.CloseParenthesis) m = On (OperandRead (T.Parenthesized e p)) k m
closed (Listing path name es ∷ k) e (K.Symbol S.Comma) m = On ArgumentDue (Listing path name (e ∷ es) ∷ k) m
closed (Listing path name es ∷ k) e (K.Symbol S.CloseParenthesis) m =
    On (ArgumentsRead path name (T.Listed (exprs_with (e ∷ es) T.NoExpr))) k m
closed (Alone ∷ k) e kind m = Ends e m
closed _ e kind m = Fails

abbrev pub behind_operand : Option InfixOp → List Frame → T.Expr → Kind → Marks → Step
behind_operand None k e kind m = closed k e kind m
behind_operand (Some op) (Alone ∷ k) e kind m = Ends e m
behind_operand (Some op) k e kind m = On OperandDue (Between op e ∷ k) m

-- behind a complete operand
abbrev pub operand_read : T.Expr → List Frame → Marks → Kind → Step
operand_read e k m kind =
    let c = climbed (infix_of kind) k e in
    behind_operand (infix_of kind) c.0 c.1 kind m

-- behind a name with its arguments
abbrev pub arguments_read : Path → T.Name → T.Arguments → List Frame → Marks → Kind → Step
arguments_read path name a k m (K.Symbol S.Point) = On (NameDue (with_qualifier path name a)) k m
arguments_read path name a k m (K.Symbol S.Arrow) = On (NameDue (with_locator path name a)) k m
arguments_read path name a k m kind = operand_read (T.Refers (referred path name a)) k m kind

-- behind a name
abbrev pub name_read : Path → T.Name → List Frame → Marks → Kind → Step
name_read path name k m (K.Symbol S.OpenParenthesis) = On (FirstDue path name) k m
name_read path name k m kind = arguments_read path name T.Absent k m kind

abbrev pub text_due : Option (List ℕ) → Place → List Frame → Marks → Step
text_due None p k m = Fails
text_due (Some v) p k m = On (OperandRead (T.Text v p)) k m

abbrev pub prefix_due : Option PrefixOp → Place → List Frame → Marks → Step
prefix_due None p k m = Fails
prefix_due (Some op) p k m = On OperandDue (Before op p ∷ k) m

-- where an operand is due
abbrev pub operand_due : List ℕ → List Frame → Marks → Token → Kind → Step
operand_due s k m t (K.Number n) = On (OperandRead (T.Number n (place_of t))) k m
operand_due s k m t K.Text = text_due (text_of (slice_range s t.start t.end)) (place_of t) k m
operand_due s k m t (K.Bit b) = On (OperandRead (T.Bit b (place_of t))) k m
operand_due s k m t (K.Name word) = On (NameRead no_path (name_at s t word)) k m
operand_due s k m t (K.Symbol S.OpenParenthesis) = On OperandDue (Group (place_of t) ∷ k) m
operand_due s k m t (K.Symbol y) = prefix_due (prefix_of (K.Symbol y)) (place_of t) k m

abbrev pub argument_due : List ℕ → List Frame → Marks → Token → Kind → Step
argument_due s k m t kind = operand_due s k (argument (place_of t) m) t kind

-- where the first argument is due, or the parenthesis that closes the list
abbrev pub first_due : List ℕ → Path → T.Name → List Frame → Marks → Token → Kind → Step
first_due s path name k m t (K.Symbol S.CloseParenthesis) = On (ArgumentsRead path name (T.Listed T.NoExpr)) k m
first_due s path name k m t kind = argument_due s (Listing path name [] ∷ k) m t kind

abbrev pub name_due : List ℕ → Path → List Frame → Marks → Token → Kind → Step
name_due s path k m t (K.Name word) = On (NameRead path (name_at s t word)) k m
name_due s path k m t kind = Fails

abbrev pub step : List ℕ → State → List Frame → Marks → Token → Kind → Step
step s OperandDue k m t kind = operand_due s k m t kind
step s ArgumentDue k m t kind = argument_due s k m t kind
step s (FirstDue path name) k m t kind = first_due s path name k m t kind
step s (NameDue path) k m t kind = name_due s path k m t kind
step s (NameRead path name) k m t kind = name_read path name k m kind
step s (ArgumentsRead path name a) k m t kind = arguments_read path name a k m kind
step s (OperandRead e) k m t kind = operand_read e k m kind

-- ---- all tokens

abbrev pub whole : List Frame × T.Expr → Marks → Read T.Expr
whole ([], e) m = Ok (e, record { tokens = []; marks = m })
whole (Alone ∷ k, e) m = Ok (e, record { tokens = []; marks = m })
whole _ m = Err Ended

-- where the tokens end
abbrev pub ended : State → List Frame → Marks → Read T.Expr
ended (NameRead path name) k m = whole (climbed None k (T.Refers (referred path name T.Absent))) m
ended (ArgumentsRead path name a) k m = whole (climbed None k (T.Refers (referred path name a))) m
ended (OperandRead e) k m = whole (climbed None k e) m
ended _ k m = Err Ended

-- what a step leads to, with what reads on
abbrev pub follow : (State → List Frame → Marks → Read T.Expr) → Step → Token → List Token → Read T.Expr
follow on (On state k m) t ts = on state k m
follow on (Ends e m) t ts = Ok (e, record { tokens = t ∷ ts; marks = m })
follow on Fails t ts = Err Stuck

unfoldable pub run : List ℕ → State → List Frame → Marks → List Token → Read T.Expr
run s state k m [] = ended state k m
run s state k m (t ∷ ts) = follow (λ next frames marks. run s next frames marks ts) (step s state k m t t.kind) t ts

-- an expression, as long as one goes on
unfoldable pub expr_from : List ℕ → Cursor → Read T.Expr
expr_from s c = run s OperandDue [] c.marks c.tokens

abbrev pub as_reference : T.Expr × Cursor → Read T.Reference
as_reference (T.Refers r, c) = Ok (r, c)
as_reference (e, c) = Err Stuck

-- a reference, as long as one goes on
unfoldable pub reference_from : List ℕ → Cursor → Read T.Reference
reference_from s c = run s (NameDue no_path) (Alone ∷ []) c.marks c.tokens >>= λ x. as_reference x

-- ---- lists

-- an argument or a subscript at the first token
abbrev pub argument_at : List Token → Marks → Marks
argument_at [] m = m
argument_at (t ∷ ts) m = argument (place_of t) m

-- an argument is due at the first token, or an expression that is none
abbrev pub item_due : Bool → Cursor → Cursor
item_due false c = c
item_due true c = record { tokens = c.tokens; marks = argument_at c.tokens c.marks }

-- expressions behind others, with commas between them
unfoldable pub items_from : ℕ → Bool → List ℕ → List T.Expr → Cursor → Read T.Exprs
items_from zero are_arguments s before c = Err Ended
items_from (suc n) are_arguments s before c =
    expr_from s (item_due are_arguments c) >>= λ e. (if starts (K.Symbol S.Comma) e.1.tokens then (taken (K.Symbol S.Comma) e.1 >>= λ comma. items_from n are_arguments s (e.0 ∷ before) comma.1) else Ok (exprs_with (e.0 ∷ before) T.NoExpr, e.1))

-- one expression or more, which are no arguments
unfoldable pub exprs_from : List ℕ → Cursor → Read T.Exprs
exprs_from s c = items_from (suc (length c.tokens)) false s [] c

-- what stands behind the open parenthesis of arguments
abbrev pub listed_from : List ℕ → Cursor → Read T.Arguments
listed_from s c =
    if starts (K.Symbol S.CloseParenthesis) c.tokens then (taken (K.Symbol S.CloseParenthesis) c >>= λ u. Ok (T.Listed T.NoExpr, u.1)) else (items_from (suc (length c.tokens)) true s [] c >>= λ es. taken (K.Symbol S.CloseParenthesis) es.1 >>= λ u. Ok (T.Listed es.0, u.1))

-- arguments, where they stand
unfoldable pub arguments_from : List ℕ → Cursor → Read T.Arguments
arguments_from s c =
    if starts (K.Symbol S.OpenParenthesis) c.tokens then (taken (K.Symbol S.OpenParenthesis) c >>= λ t. listed_from s t.1) else Ok (T.Absent, c)

-- ---- assignments

abbrev pub begun_by : Option Kind → Beginning
begun_by None = Unknown
begun_by (Some (K.Symbol S.Equal)) = Begins
begun_by _ = Differs

abbrev pub begun : Read T.Reference → Beginning
begun (Ok x) = begun_by (next_kind x.1.tokens)
begun (Err Ended) = Unknown
begun (Err _) = Differs

-- whether an assignment begins here: it does, it doesn't, or the tokens end in its reference or right behind it
unfoldable pub assignment_begins : List ℕ → Cursor → Beginning
assignment_begins s c = begun (reference_from s c)
