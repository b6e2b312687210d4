-- A worked row with begin blocks: one in the turns of a loop that counts, with a procedure and another begin block in
-- it, and one in a procedure, from where that calls itself and returns.
use Rattle.std.specs.Prelude.{ℕ, ◌≡◌, List, [], ◌∷◌, Some, None}
use Rattle.pli_language.specs.Tree as T
use Rattle.pli_typing.specs.TypedTree as Y
use Rattle.pli_meaning.specs.declared.outcome.End.TheVariants as E
use Rattle.pli_meaning.specs.Executing.{meaning}
use Rattle.pli_coding.specs.Images.{picture_of}
use Rattle.pli_coding.specs.SignatureTable.{table_of}
use Rattle.expression_runs.specs.Assignments.{assignment}
use Rattle.expression_runs.specs.Variables.{Spot, number_declared, whole}
use Rattle.pli_headline.specs.Headline.{Headline, parts}
use Rattle.number_headlines.specs.CallRows.{head_at}
use Rattle.number_headlines.specs.InitialRows.{number_items, value_of}
use Rattle.number_headlines.specs.NestRows.{nest_call, one_less}
use Rattle.number_headlines.specs.PutRows.{of_width, shown}

-- DECLARE X FIXED BINARY(31);
-- DO X = 1 TO 2;
--   BEGIN; DECLARE Y FIXED BINARY(31) INITIAL(10);
--     P: PROCEDURE; Y = Y - 1; END P;
--     Y = Y + X;
--     BEGIN; DECLARE Z FIXED BINARY(31);
--       Z = Y + Y; CALL P; IF X < 2 THEN GOTO L; Z = Z + Y;
--       L: PUT EDIT (Z) (F(3));
--     END;
--   END;
-- END;
-- CALL Q;
-- Q: PROCEDURE; BEGIN; DECLARE K FIXED BINARY(31);
--   K = X; IF X < 1 THEN RETURN; X = X - 1; CALL Q; PUT EDIT (K) (F(2));
-- END; END Q;

abbrev pub turn_spot : Spot
turn_spot = record { block = 1; level = 0; index = 0 }

abbrev pub anew_spot : Spot
anew_spot = record { block = 2; level = 1; index = 0 }

abbrev pub twice_spot : Spot
twice_spot = record { block = 4; level = 2; index = 0 }

abbrev pub deep_spot : Spot
deep_spot = record { block = 6; level = 2; index = 0 }

abbrev pub begin_at : (number level line : ℕ) → Y.BlockHead
begin_at number level line = record { kind = Y.BeginBlock; number = number; level = level; line = line }

abbrev pub sum_of : Y.Number → Y.Number → Y.Number
sum_of x y = Y.Calculated Y.Sum x y

abbrev pub put_number : Spot → (line width : ℕ) → Y.Stmt
put_number x line width =
    Y.Put None (record { items = shown (value_of x) ∷ []; formats = of_width line width T.NoFormat } ∷ []) line

abbrev pub last_label : List ℕ
last_label = 76 ∷ []

abbrev pub twice_body : Y.Stmts
twice_body =
    Y.StmtThen [] (assignment twice_spot (sum_of (value_of anew_spot) (value_of anew_spot)) 7)
    (Y.StmtThen [] (nest_call 3 1 7)
    (Y.StmtThen []
    (Y.If (Y.NumbersCompared Y.IsLess (value_of turn_spot) (Y.NumberConstant 2)) (Y.Goto 2 last_label 7) 7)
    (Y.StmtThen [] (assignment twice_spot (sum_of (value_of twice_spot) (value_of anew_spot)) 7)
    (Y.StmtThen (last_label ∷ []) (put_number twice_spot 8 3) (Y.EndOfList [])))))

abbrev pub anew_body : Y.Stmts
anew_body =
    Y.StmtThen [] (assignment anew_spot (sum_of (value_of anew_spot) (value_of turn_spot)) 5)
    (Y.StmtThen [] (Y.Begin (Y.BlockOf (begin_at 4 2 6) twice_body)) (Y.EndOfList []))

abbrev pub turn_body : Y.Stmts
turn_body = Y.StmtThen [] (Y.Begin (Y.BlockOf (begin_at 2 1 3) anew_body)) (Y.EndOfList [])

abbrev pub turns : Y.Stmt
turns =
    Y.DoCount (Y.NumberCounter 31 (whole turn_spot)) (Y.NumberValue 31 (Y.NumberConstant 1))
    (Some (Y.NumberConstant 2)) (Y.NumberConstant 1) None turn_body 2

abbrev pub begins_body : Y.Stmts
begins_body = Y.StmtThen [] turns (Y.StmtThen [] (nest_call 5 0 12) (Y.EndOfList []))

abbrev pub less_body : Y.Stmts
less_body = Y.StmtThen [] (assignment anew_spot (one_less (value_of anew_spot)) 4) (Y.EndOfList [])

abbrev pub deep_body : Y.Stmts
deep_body =
    Y.StmtThen [] (assignment deep_spot (value_of turn_spot) 14)
    (Y.StmtThen []
    (Y.If (Y.NumbersCompared Y.IsLess (value_of turn_spot) (Y.NumberConstant 1)) (Y.Return 14) 14)
    (Y.StmtThen [] (assignment turn_spot (one_less (value_of turn_spot)) 14)
    (Y.StmtThen [] (nest_call 5 0 14) (Y.StmtThen [] (put_number deep_spot 14 2) (Y.EndOfList [])))))

abbrev pub recursion_body : Y.Stmts
recursion_body = Y.StmtThen [] (Y.Begin (Y.BlockOf (begin_at 6 2 13) deep_body)) (Y.EndOfList [])

abbrev pub begins_main : Y.Procedure
begins_main = record { block = Y.BlockOf (head_at 1 0 1) begins_body; parameters = []; result = None }

abbrev pub less_procedure : Y.Procedure
less_procedure = record { block = Y.BlockOf (head_at 3 2 4) less_body; parameters = []; result = None }

abbrev pub recursion_procedure : Y.Procedure
recursion_procedure = record { block = Y.BlockOf (head_at 5 1 13) recursion_body; parameters = []; result = None }

abbrev pub begins_program : Y.Program
begins_program =
    record {
      variables =
          [] ∷ (number_declared [] ∷ []) ∷ (number_declared (number_items 10) ∷ []) ∷ []
          ∷ (number_declared [] ∷ []) ∷ [] ∷ (number_declared [] ∷ []) ∷ [];
      procedures = begins_main ∷ less_procedure ∷ recursion_procedure ∷ [];
    }

pub record BeginsKept : Type 0 where
  pub headline : Headline begins_program (picture_of parts begins_program) (table_of begins_program)
  -- Y begins anew in each turn, and K in each call: 22 and 24 + 11, and 1 2 3
  pub ends :
      (input : List ℕ) →
      meaning begins_program input 58
      ≡ Some (record {
        acts = 58;
        output = 32 ∷ 50 ∷ 50 ∷ 32 ∷ 51 ∷ 53 ∷ 32 ∷ 49 ∷ 32 ∷ 50 ∷ 32 ∷ 51 ∷ 10 ∷ [];
        raised = [];
        end = E.Finished;
      })
