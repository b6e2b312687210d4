-- A worked row: a program of the class with an array of flags, in which a function returns each place that is struck.
use Rattle.std.specs.Prelude.{ℕ, ◌≡◌, List, [], ◌∷◌, None, pos, Some}
use Rattle.pli_language.specs.declared.condition.Condition.TheVariants as C
use Rattle.pli_typing.specs.Signatures.{Bounds}
use Rattle.pli_typing.specs.TypedTree as Y
use Rattle.pli_meaning.specs.declared.outcome.End.TheVariants as E
use Rattle.pli_meaning.specs.Executing.{meaning}
use Rattle.pli_coding.specs.Images.{picture_of}
use Rattle.pli_coding.specs.SignatureTable.{table_of}
use Rattle.expression_runs.specs.Assignments.{assignment}
use Rattle.expression_runs.specs.Variables.{Spot, number_declared, whole}
use Rattle.function_runs.specs.Returns.{return_of}
use Rattle.element_runs.specs.Arrays.{array_declared, element}
use Rattle.element_runs.specs.Laws.{element_assigned}
use Rattle.pli_headline.specs.Headline.{Headline, parts}
use Rattle.number_headlines.specs.CallRows.{head_at}

-- DECLARE S(2:10) FIXED BINARY(31), (I, J) FIXED BINARY(31);
-- F: PROCEDURE RETURNS(FIXED BINARY(31)); J = J + I; RETURN (J); END F;
-- I = 2; DO WHILE (I < 4); J = I; DO WHILE (J < 11 - I); S(F()) = 1; END; I = I + 1; END;
-- I = 2; DO WHILE (S(I) = 0); I = I + 1; END; S(F()) = 1;

abbrev pub flag_bounds : Bounds
flag_bounds = record { lower = pos 2; upper = pos 10 }

abbrev pub flags_spot : Spot
flags_spot = record { block = 1; level = 0; index = 0 }

abbrev pub prime_spot : Spot
prime_spot = record { block = 1; level = 0; index = 1 }

abbrev pub struck_spot : Spot
struck_spot = record { block = 1; level = 0; index = 2 }

abbrev pub prime : Y.Number
prime = Y.NumberIn (whole prime_spot)

abbrev pub struck : Y.Number
struck = Y.NumberIn (whole struck_spot)

abbrev pub next_struck : Y.Number
next_struck = Y.NumberFrom (Y.Calling 2 0 Y.NoArgument)

abbrev pub strike : (line : ℕ) → Y.Stmt
strike line = element_assigned flags_spot next_struck (Y.NumberConstant 1) line

abbrev pub next_prime : (line : ℕ) → Y.Stmt
next_prime line = assignment prime_spot (Y.Calculated Y.Sum prime (Y.NumberConstant 1)) line

abbrev pub strikes : Y.Stmts
strikes = Y.StmtThen [] (strike 10) (Y.EndOfList [])

abbrev pub strike_loop : Y.Stmt
strike_loop =
    Y.DoWhile (Y.NumbersCompared Y.IsLess struck (Y.Calculated Y.Difference (Y.NumberConstant 11) prime)) strikes 9

abbrev pub sieve_turns : Y.Stmts
sieve_turns =
    Y.StmtThen [] (assignment struck_spot prime 8)
    (Y.StmtThen [] strike_loop (Y.StmtThen [] (next_prime 12) (Y.EndOfList [])))

abbrev pub sieve_loop : Y.Stmt
sieve_loop = Y.DoWhile (Y.NumbersCompared Y.IsLess prime (Y.NumberConstant 4)) sieve_turns 7

abbrev pub flag : Y.Number
flag = Y.NumberIn (element flags_spot prime)

abbrev pub search_turns : Y.Stmts
search_turns = Y.StmtThen [] (next_prime 15) (Y.EndOfList [])

abbrev pub search_loop : Y.Stmt
search_loop = Y.DoWhile (Y.NumbersCompared Y.IsEqual flag (Y.NumberConstant 0)) search_turns 15

abbrev pub sieve_body : Y.Stmts
sieve_body =
    Y.StmtThen [] (assignment prime_spot (Y.NumberConstant 2) 6)
    (Y.StmtThen [] sieve_loop
    (Y.StmtThen [] (assignment prime_spot (Y.NumberConstant 2) 14)
    (Y.StmtThen [] search_loop (Y.StmtThen [] (strike 16) (Y.EndOfList [])))))

abbrev pub step_sum : Y.Number
step_sum = Y.Calculated Y.Sum struck prime

abbrev pub place_body : Y.Stmts
place_body =
    Y.StmtThen [] (assignment struck_spot step_sum 4) (Y.StmtThen [] (return_of struck 4) (Y.EndOfList []))

abbrev pub sieve_main : Y.Procedure
sieve_main = record { block = Y.BlockOf (head_at 1 0 1) sieve_body; parameters = []; result = None }

abbrev pub place_function : Y.Procedure
place_function =
    record { block = Y.BlockOf (head_at 2 1 3) place_body; parameters = []; result = Some (Y.FixedLeaf 31) }

abbrev pub sieve_program : Y.Program
sieve_program =
    record {
      variables =
          [] ∷ (array_declared flag_bounds [] ∷ number_declared [] ∷ number_declared [] ∷ []) ∷ [] ∷ [];
      procedures = sieve_main ∷ place_function ∷ [];
    }

pub record SieveKept : Type 0 where
  pub headline : Headline sieve_program (picture_of parts sieve_program) (table_of sieve_program)
  -- 4 is the first that is struck, and 13 has no flag
  pub ends :
      (input : List ℕ) →
      meaning sieve_program input 57
      ≡ Some (record { acts = 57; output = []; raised = (C.Error, 102) ∷ []; end = E.Error 102 16 })
