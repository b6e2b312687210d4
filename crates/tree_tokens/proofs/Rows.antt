-- Trees, and the tokens that they are spelled with.
use Rattle.std.proofs.Common.{◌≡◌, ℕ, List, [], ◌∷◌, Some, None, refl}
use Rattle.std.specs.Prelude.{pos}
use Rattle.pli_language.specs.declared.condition.Condition.TheVariants as C
use Rattle.pli_language.specs.declared.expr.Place.{Place}
use Rattle.pli_language.specs.declared.expr.InfixOp.TheVariants as I
use Rattle.pli_language.specs.declared.token.Word.TheVariants as W
use Rattle.pli_language.specs.Tree as T
use Rattle.tree_tokens.specs.TreeTokens.{expr_tokens, declare_tokens, stmt_tokens, tree_tokens}

abbrev at : Place
at = record { line = 1; column = 1 }

abbrev name : T.Name
name = record { letters = 65 ∷ []; word = W.A; place = at }

abbrev variable : T.Reference
variable = T.Plain (T.Last name T.Absent)

-- A + 1
abbrev sum : T.Expr
sum = T.Infix I.Add (T.Refers variable) (T.Number 1 at)

sum_has_three : expr_tokens sum ≡ 3
sum_has_three = refl

-- P -> A.A(A + 1, 1)
located_has_twelve :
    expr_tokens (T.Refers (T.Located variable (T.Of name T.Absent (T.Last name (T.Listed (T.ExprThen sum (T.ExprThen
    (T.Number 1 at) T.NoExpr)))))))
    ≡ 12
located_has_twelve = refl

-- A(1:A) FIXED(15) INITIAL((2) 1, *)
declaration_has_nineteen :
    declare_tokens (record {
      level = None;
      names = record {
        name = name;
        dimensions = T.Both (record { value = T.Number 1 at; refer = None })
            (record { value = T.Refers variable; refer = None }) ∷ [];
      } ∷ [];
      dimensions = [];
      attributes = T.Fixed (Some 15) ∷ T.Initial (record {
        repetition = 2;
        value = T.InitialNumber
            (pos 1);
      } ∷ record { repetition = 1; value = T.InitialSkip } ∷ []) ∷ [];
    })
    ≡ 19
declaration_has_nineteen = refl

-- ON ZERODIVIDE A = A + 1;
unit_has_eight : stmt_tokens (T.OnUnit C.ZeroDivide (T.Assign variable sum at) at) ≡ 8
unit_has_eight = refl

-- A: PROCEDURE OPTIONS(MAIN); DO A = 1 TO A; A = A + 1; END; END;
abbrev main : T.ProcedureHead
main = record { labels = name ∷ []; place = at; parameters = []; options = T.Main ∷ [] }

abbrev group : T.Counting
group =
    record {
      variable = variable;
      start = T.Number 1 at;
      limit = Some (T.Refers variable);
      step = None;
      condition = None;
    }

abbrev body : T.Items
body = T.ItemThen (T.Statement [] (T.Assign variable sum at)) T.NoItem

abbrev procedure : T.Item
procedure = T.Procedure main (T.ItemThen (T.Statement [] (T.DoCount group body at)) T.NoItem)

program_has_twenty_five : tree_tokens (record { procedures = T.ItemThen procedure T.NoItem }) ≡ 25
program_has_twenty_five = refl
