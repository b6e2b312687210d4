-- What the limits say of a head, and the ranges of its format numbers: all refusals that its parts break, in the order
-- in which they are met from left to right.
use Rattle.std.specs.Prelude.{ℕ, zero, suc, ◌-◌, List, [], ◌∷◌, ◌++◌, Bool, nat_le, if◌then◌else◌}
use Rattle.pli_language.specs.declared.expr.Place.{Place}
use Rattle.pli_language.specs.declared.fault.SourceFault.{SourceFault}
use Rattle.pli_language.specs.declared.fault.SourceKind.{SourceKind}
use Rattle.pli_language.specs.declared.fault.SourceKind.TheVariants.{TooLarge}
use Rattle.pli_language.specs.declared.token.Kind.{Kind}
use Rattle.pli_language.specs.declared.token.Kind.TheVariants as K
use Rattle.pli_language.specs.declared.token.Symbol.TheVariants as S
use Rattle.pli_language.specs.declared.token.Token.{Token}
use Rattle.pli_language.specs.Tree.{Expr, Number, Text, Bit, Parenthesized, Prefix, Infix, Refers, Reference, Plain, Located, Qualified, Last, Of, Arguments, Absent, Listed, Exprs, NoExpr, ExprThen}

-- how many more arguments and subscripts a head may have, and the refusals met so far
pub record Marks : Type 0 where
  pub room : ℕ
  pub faults : List SourceFault

abbrev pub most_arguments : ℕ
most_arguments = 100

abbrev pub no_marks : Marks
no_marks = record { room = most_arguments; faults = [] }

abbrev pub fault_at : Place → SourceKind → SourceFault
fault_at p kind = record { line = p.line; column = p.column; kind = kind }

abbrev pub note : Place → SourceKind → Marks → Marks
note p kind m = record { room = m.room; faults = m.faults ++ fault_at p kind ∷ [] }

abbrev pub note_if : Bool → Place → SourceKind → Marks → Marks
note_if broken p kind m = if broken then note p kind m else m

-- ---- parentheses

abbrev pub most_parentheses : ℕ
most_parentheses = 32

abbrev pub parenthesis_marks : Token → Kind → ℕ → Marks → ℕ × Marks
parenthesis_marks t (K.Symbol S.OpenParenthesis) opened m =
    (suc opened, note_if (nat_le most_parentheses opened) (record { line = t.line; column = t.column }) TooLarge m)
parenthesis_marks t (K.Symbol S.CloseParenthesis) opened m = (opened - 1, m)
parenthesis_marks t _ opened m = (opened, m)

-- parentheses that are opened where as many are open as may be; so many are open before the tokens of a head
unfoldable pub parentheses_marks : ℕ → List Token → Marks → Marks
parentheses_marks opened [] m = m
parentheses_marks opened (t ∷ ts) m =
    let next = parenthesis_marks t t.kind opened m in
    parentheses_marks next.0 ts next.1

-- ---- arguments and subscripts

abbrev pub argument_noted : ℕ → Place → Marks → Marks
argument_noted zero p m = note p TooLarge m
argument_noted (suc n) p m = record { room = n; faults = m.faults }

-- an argument or a subscript, of which no more may stand than there is room for
abbrev pub argument : Place → Marks → Marks
argument p m = argument_noted m.room p m

abbrev pub qualified_place : Qualified → Place
qualified_place (Last n a) = n.place
qualified_place (Of n a q) = n.place

-- the place of the first token
abbrev pub reference_place : Reference → Place
reference_place (Plain q) = qualified_place q
reference_place (Located r q) = reference_place r

abbrev pub first_place : Expr → Place
first_place (Number v p) = p
first_place (Text v p) = p
first_place (Bit v p) = p
first_place (Parenthesized e p) = p
first_place (Prefix op e p) = p
first_place (Infix op l r) = first_place l
first_place (Refers r) = reference_place r

unfoldable mutual
  pub expr_marks : Expr → Marks → Marks
  expr_marks (Number v p) m = m
  expr_marks (Text v p) m = m
  expr_marks (Bit v p) m = m
  expr_marks (Parenthesized e p) m = expr_marks e m
  expr_marks (Prefix op e p) m = expr_marks e m
  expr_marks (Infix op l r) m = expr_marks r (expr_marks l m)
  expr_marks (Refers r) m = reference_marks r m

  pub reference_marks : Reference → Marks → Marks
  reference_marks (Plain q) m = qualified_marks q m
  reference_marks (Located r q) m = qualified_marks q (reference_marks r m)

  pub qualified_marks : Qualified → Marks → Marks
  qualified_marks (Last n a) m = arguments_marks a m
  qualified_marks (Of n a q) m = qualified_marks q (arguments_marks a m)

  pub arguments_marks : Arguments → Marks → Marks
  arguments_marks Absent m = m
  arguments_marks (Listed es) m = argument_list_marks es m

  pub argument_list_marks : Exprs → Marks → Marks
  argument_list_marks NoExpr m = m
  argument_list_marks (ExprThen e es) m = argument_list_marks es (expr_marks e (argument (first_place e) m))

-- expressions that are no arguments
unfoldable pub exprs_marks : Exprs → Marks → Marks
exprs_marks NoExpr m = m
exprs_marks (ExprThen e es) m = exprs_marks es (expr_marks e m)
