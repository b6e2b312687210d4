-- Which tokens spell which expression: one relation for each rule of the grammar, between the tokens from a place on, what
-- the first of them spell, and the tokens behind. What stands in braces goes on as long as a further part begins.
use Rattle.std.specs.Prelude.{◌≡◌, ◌≢◌, ℕ, List, [], ◌∷◌, Option, Some, None, slice_range}
use Rattle.pli_language.specs.declared.token.Word.{Word}
use Rattle.pli_language.specs.declared.token.Symbol.TheVariants as S
use Rattle.pli_language.specs.declared.token.Kind.{Kind}
use Rattle.pli_language.specs.declared.token.Kind.TheVariants as K
use Rattle.pli_language.specs.declared.token.Token.{Token}
use Rattle.pli_language.specs.declared.expr.Place.{Place}
use Rattle.pli_language.specs.declared.expr.PrefixOp.{PrefixOp}
use Rattle.pli_language.specs.declared.expr.PrefixOp.TheVariants as P
use Rattle.pli_language.specs.declared.expr.InfixOp.{InfixOp}
use Rattle.pli_language.specs.declared.expr.InfixOp.TheVariants as I
use Rattle.pli_language.specs.Keywords.{in_upper_case}
use Rattle.pli_language.specs.Tokens.{IsTextOf}
use Rattle.pli_language.specs.Tree.{Name, Expr, Number, Text, Bit, Parenthesized, Prefix, Infix, Refers, Reference, Plain, Located, Qualified, Last, Of, Arguments, Absent, Listed, Exprs, NoExpr, ExprThen}

-- ---- tokens

abbrev pub place_of : Token → Place
place_of t = record { line = t.line; column = t.column }

-- the name that a token of the source spells
abbrev pub name_at : List ℕ → Token → Word → Name
name_at s t word = record { letters = in_upper_case (slice_range s t.start t.end); word = word; place = place_of t }

-- the first of the tokens is t, of this kind
pub record Takes (ts : List Token) (kind : Kind) (t : Token) (rest : List Token) : Type 0 where
  pub is : ts ≡ t ∷ rest
  pub of_kind : t.kind ≡ kind

-- the kind of the first token, none where there is no token
abbrev pub next_kind : List Token → Option Kind
next_kind [] = None
next_kind (t ∷ ts) = Some t.kind

-- ---- operators

abbrev pub prefix_op : Option Kind → Option PrefixOp
prefix_op (Some (K.Symbol S.Plus)) = Some P.Plus
prefix_op (Some (K.Symbol S.Minus)) = Some P.Minus
prefix_op (Some (K.Symbol S.Not)) = Some P.Not
prefix_op _ = None

-- the operators of each level, from those that bind closest on
pub data Level : Type 0 where
  Multiplying Adding Joining Comparing Conjoining Disjoining : Level

abbrev pub infix_op : Level → Option Kind → Option InfixOp
infix_op Multiplying (Some (K.Symbol S.Times)) = Some I.Multiply
infix_op Multiplying (Some (K.Symbol S.Divide)) = Some I.Divide
infix_op Adding (Some (K.Symbol S.Plus)) = Some I.Add
infix_op Adding (Some (K.Symbol S.Minus)) = Some I.Subtract
infix_op Joining (Some (K.Symbol S.Join)) = Some I.Join
infix_op Comparing (Some (K.Symbol S.Equal)) = Some I.Equal
infix_op Comparing (Some (K.Symbol S.NotEqual)) = Some I.NotEqual
infix_op Comparing (Some (K.Symbol S.Less)) = Some I.Less
infix_op Comparing (Some (K.Symbol S.Greater)) = Some I.Greater
infix_op Comparing (Some (K.Symbol S.LessOrEqual)) = Some I.LessOrEqual
infix_op Comparing (Some (K.Symbol S.GreaterOrEqual)) = Some I.GreaterOrEqual
infix_op Conjoining (Some (K.Symbol S.And)) = Some I.And
infix_op Disjoining (Some (K.Symbol S.Or)) = Some I.Or
infix_op _ _ = None

-- the level of an operator's operands; below the closest stand prefixes and primaries
abbrev pub below : Level → Option Level
below Multiplying = None
below Adding = Some Multiplying
below Joining = Some Adding
below Comparing = Some Joining
below Conjoining = Some Comparing
below Disjoining = Some Conjoining

-- ---- expressions

mutual
  -- an operand of a level and further ones behind its operators, or a prefix before an operand, or a primary
  pub data SpellsAt (s : List ℕ) : Option Level → List Token → Expr → List Token → Type 0 where
    chain : (level : Level) (ts mid rest : List Token) (first e : Expr) → SpellsAt s (below level) ts first mid → SpellsChain s level first mid e rest → SpellsAt s (Some level) ts e rest
    prefixed : (ts after rest : List Token) (t : Token) (op : PrefixOp) (e : Expr) → ts ≡ t ∷ after → prefix_op (Some t.kind) ≡ Some op → SpellsAt s None after e rest → SpellsAt s None ts (Prefix op e (place_of t)) rest
    primary : (ts rest : List Token) (e : Expr) → SpellsPrimary s ts e rest → SpellsAt s None ts e rest

  -- operators of a level with their operands, from left to right, behind a left operand
  pub data SpellsChain (s : List ℕ) : Level → Expr → List Token → Expr → List Token → Type 0 where
    stops : (level : Level) (e : Expr) (ts : List Token) → infix_op level (next_kind ts) ≡ None → SpellsChain s level e ts e ts
    goes_on : (level : Level) (left right e : Expr) (ts after mid rest : List Token) (t : Token) (op : InfixOp) → ts ≡ t ∷ after → infix_op level (Some t.kind) ≡ Some op → SpellsAt s (below level) after right mid → SpellsChain s level (Infix op left right) mid e rest → SpellsChain s level left ts e rest

  pub data SpellsPrimary (s : List ℕ) : List Token → Expr → List Token → Type 0 where
    number : (ts rest : List Token) (t : Token) (n : ℕ) → Takes ts (K.Number n) t rest → SpellsPrimary s ts (Number n (place_of t)) rest
    text : (ts rest : List Token) (t : Token) (v : List ℕ) → Takes ts K.Text t rest → IsTextOf v (slice_range s t.start t.end) → SpellsPrimary s ts (Text v (place_of t)) rest
    bit : (ts rest : List Token) (t : Token) (b : _) → Takes ts (K.Bit b) t rest → SpellsPrimary s ts (Bit b (place_of t)) rest
    parenthesized : (ts after mid rest : List Token) (t u : Token) (e : Expr) → Takes ts (K.Symbol S.OpenParenthesis) t after → SpellsAt s (Some Disjoining) after e mid → Takes mid (K.Symbol S.CloseParenthesis) u rest → SpellsPrimary s ts (Parenthesized e (place_of t)) rest
    reference : (ts rest : List Token) (r : Reference) → SpellsReference s ts r rest → SpellsPrimary s ts (Refers r) rest

  pub data SpellsReference (s : List ℕ) : List Token → Reference → List Token → Type 0 where
    basic : (ts mid rest : List Token) (q : Qualified) (r : Reference) → SpellsQualified s ts q mid → SpellsArrows s (Plain q) mid r rest → SpellsReference s ts r rest

  -- arrows with what they locate, behind a locator
  pub data SpellsArrows (s : List ℕ) : Reference → List Token → Reference → List Token → Type 0 where
    no_arrow : (r : Reference) (ts : List Token) → next_kind ts ≢ Some (K.Symbol S.Arrow) → SpellsArrows s r ts r ts
    arrow : (locator r : Reference) (ts after mid rest : List Token) (t : Token) (q : Qualified) → Takes ts (K.Symbol S.Arrow) t after → SpellsQualified s after q mid → SpellsArrows s (Located locator q) mid r rest → SpellsArrows s locator ts r rest

  pub data SpellsQualified (s : List ℕ) : List Token → Qualified → List Token → Type 0 where
    last : (ts after rest : List Token) (t : Token) (word : Word) (a : Arguments) → Takes ts (K.Name word) t after → SpellsArguments s after a rest → next_kind rest ≢ Some (K.Symbol S.Point) → SpellsQualified s ts (Last (name_at s t word) a) rest
    of : (ts after mid point rest : List Token) (t u : Token) (word : Word) (a : Arguments) (q : Qualified) → Takes ts (K.Name word) t after → SpellsArguments s after a mid → Takes mid (K.Symbol S.Point) u point → SpellsQualified s point q rest → SpellsQualified s ts (Of (name_at s t word) a q) rest

  pub data SpellsArguments (s : List ℕ) : List Token → Arguments → List Token → Type 0 where
    absent : (ts : List Token) → next_kind ts ≢ Some (K.Symbol S.OpenParenthesis) → SpellsArguments s ts Absent ts
    empty : (ts mid rest : List Token) (t u : Token) → Takes ts (K.Symbol S.OpenParenthesis) t mid → Takes mid (K.Symbol S.CloseParenthesis) u rest → SpellsArguments s ts (Listed NoExpr) rest
    listed : (ts after mid rest : List Token) (t u : Token) (es : Exprs) → Takes ts (K.Symbol S.OpenParenthesis) t after → next_kind after ≢ Some (K.Symbol S.CloseParenthesis) → SpellsExprs s after es mid → Takes mid (K.Symbol S.CloseParenthesis) u rest → SpellsArguments s ts (Listed es) rest

  -- one expression or more, with commas between them
  pub data SpellsExprs (s : List ℕ) : List Token → Exprs → List Token → Type 0 where
    one : (ts rest : List Token) (e : Expr) → SpellsAt s (Some Disjoining) ts e rest → next_kind rest ≢ Some (K.Symbol S.Comma) → SpellsExprs s ts (ExprThen e NoExpr) rest
    more : (ts mid after rest : List Token) (t : Token) (e : Expr) (es : Exprs) → SpellsAt s (Some Disjoining) ts e mid → Takes mid (K.Symbol S.Comma) t after → SpellsExprs s after es rest → SpellsExprs s ts (ExprThen e es) rest

abbrev pub SpellsExpr : List ℕ → List Token → Expr → List Token → Type 0
SpellsExpr s ts e rest = SpellsAt s (Some Disjoining) ts e rest

-- a reference with `=` behind it begins here
pub record BeginsAssignment (s : List ℕ) (ts : List Token) : Type 0 where
  pub reference : Reference
  pub behind : List Token
  pub spelled : SpellsReference s ts reference behind
  pub equal : next_kind behind ≡ Some (K.Symbol S.Equal)

-- ---- numbers in parentheses

-- a number in parentheses
pub record SpellsCount (ts : List Token) (n : ℕ) (rest : List Token) : Type 0 where
  pub after : List Token
  pub mid : List Token
  pub open_token : Token
  pub number_token : Token
  pub close_token : Token
  pub opened : Takes ts (K.Symbol S.OpenParenthesis) open_token after
  pub counted : Takes after (K.Number n) number_token mid
  pub closed : Takes mid (K.Symbol S.CloseParenthesis) close_token rest
