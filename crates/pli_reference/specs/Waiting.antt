-- Operators that wait for the operand before them: a chain of operators is judged from its innermost operand out.
use Rattle.std.specs.Prelude.{List, [], ◌∷◌, None}
use Rattle.pli_language.specs.declared.expr.InfixOp.{InfixOp}
use Rattle.pli_language.specs.declared.expr.PrefixOp.{PrefixOp}
use Rattle.pli_language.specs.Tree.{Expr, Qualified, Reference}
use Rattle.pli_typing.specs.Judging.{Judged, Scope, fine, ◌>>=◌}
use Rattle.pli_typing.specs.Converting.{Operand}
use Rattle.pli_typing.specs.Operators.{infixed, prefixed}
use Rattle.pli_typing.specs.References.{names_referent, operand, operand_from, qualified, referred, written_locator}

-- a prefix operator, with the whole expression that it begins, or an infix operator, with its right operand
pub data Waiting : Type 0 where
  WaitingPrefix : PrefixOp → Expr → Waiting
  WaitingInfix : InfixOp → Expr → Waiting

-- what an operator makes of its operand, or of its left one
abbrev pub taken : Scope → Waiting → Operand → Judged Operand
taken scope (WaitingPrefix op whole) o = operand_from whole (prefixed op o)
taken scope (WaitingInfix op right) o = do
  b ← operand scope right
  r ← infixed op o b
  fine (record { place = o.place; constant = None; referent = r })

-- operators, the outermost first, that wait for an operand
abbrev pub resumed : Scope → List Waiting → Operand → Judged Operand
resumed scope [] o = fine o
resumed scope (w ∷ ws) o = do
  i ← resumed scope ws o
  taken scope w i

-- what names come to behind their locator
abbrev pub located : Scope → Qualified → Operand → Judged Operand
located scope names o = do
  locator ← written_locator o
  ns ← qualified scope names
  r ← names_referent scope locator ns
  fine (record { place = o.place; constant = None; referent = r })

-- names behind locators, the outermost first, that wait for the first locator
abbrev pub followed : Scope → List Qualified → Operand → Judged Operand
followed scope [] o = fine o
followed scope (q ∷ qs) o = do
  i ← followed scope qs o
  located scope q i

-- an expression, and the operators that wait for it
unfoldable pub chain : Scope → List Waiting → Expr → Judged Operand
chain scope ws e = operand scope e >>= resumed scope ws

-- a reference, and the names that wait for it
unfoldable pub chain_of_locators : Scope → List Qualified → Reference → Judged Operand
chain_of_locators scope qs r = referred scope r >>= followed scope qs
