-- A program that assigns one value to all elements of arrays, also in a BEGIN block, is one of those that are proved.
use Rattle.std.proofs.Common.{List, [], ◌∷◌, None, refl, arith, lit<, inl, inr, ℕ}
use Rattle.std.specs.Prelude.{pos, negsuc}
use Rattle.pli_typing.specs.Signatures.{Bounds}
use Rattle.pli_typing.specs.TypedTree as Y
use Rattle.pli_headline.specs.ProvedSoFar.{Names, Types, IsOwn, IsElement, IsWhole, IsProvedNumber, IsPlain, IsProvedSoFar, main_names, alone, plain_variable, array_variable}

-- P: PROC OPTIONS(MAIN); DECLARE A(3) FIXED BINARY(31), B(-1:1, 2) BIT(1), I FIXED BINARY(31); A = I + 1;
-- BEGIN; B = A(I) > 2; END; END;
abbrev three : Bounds
three = record { lower = pos 1; upper = pos 3 }

abbrev two : Bounds
two = record { lower = pos 1; upper = pos 2 }

abbrev around_zero : Bounds
around_zero = record { lower = negsuc 0; upper = pos 1 }

abbrev variables : List Y.DeclaredVariable
variables =
    array_variable (Y.FixedLeaf 31) (three ∷ []) []
    ∷ array_variable Y.BitLeaf (around_zero ∷ two ∷ []) []
    ∷ plain_variable (Y.FixedLeaf 31) []
    ∷ []

abbrev variable : (index : ℕ) → Y.Numbers → Y.Reference
variable index subscripts =
    Y.Referring (record { class = Y.AutomaticClass; block = 1; level = 0; index = index }) Y.NotLocated (record { first = 0; count = 1 }) subscripts

abbrev counter : Y.Number
counter = Y.NumberIn (variable 2 Y.NoNumber)

abbrev a_at : Y.Number → Y.Reference
a_at i = variable 0 (Y.NumberThen i Y.NoNumber)

abbrev inner_body : Y.Stmts
inner_body =
    Y.StmtThen [] (Y.AssignElements (variable 1 Y.NoNumber) (Y.StoredBit (Y.NumbersCompared Y.IsGreater (Y.NumberIn (a_at counter)) (Y.NumberConstant 2))) 2) (Y.EndOfList [])

abbrev inner_head : Y.BlockHead
inner_head = record { kind = Y.BeginBlock; number = 2; level = 1; line = 2 }

abbrev body : Y.Stmts
body =
    Y.StmtThen [] (Y.AssignElements (variable 0 Y.NoNumber) (Y.StoredNumber 31 (Y.Calculated Y.Sum counter (Y.NumberConstant 1))) 1)
    (Y.StmtThen [] (Y.Begin (Y.BlockOf inner_head inner_body)) (Y.EndOfList []))

abbrev head : Y.BlockHead
head = record { kind = Y.ProcedureBlock; number = 1; level = 0; line = 1 }

abbrev with_elements : Y.Program
with_elements =
    record {
      variables = [] ∷ variables ∷ [] ∷ [];
      procedures = record { block = Y.BlockOf head body; parameters = []; result = None } ∷ [];
    }

abbrev names : Names
names = main_names with_elements 1

abbrev types : Types
types =
    record { type = Y.FixedLeaf 31; bounds = three ∷ [] }
    ∷ record { type = Y.BitLeaf; bounds = around_zero ∷ two ∷ [] }
    ∷ alone (Y.FixedLeaf 31)
    ∷ []

counter_proved : IsProvedNumber names types counter
counter_proved =
    let own : IsOwn names types (Y.FixedLeaf 31) (variable 2 Y.NoNumber) = record { index = 2; declared = refl; is = refl } in
    (record { precision = 31; part = inl own }, tt)

element_proved : IsProvedNumber names types (Y.NumberIn (a_at counter))
element_proved =
    let element : IsElement names types (Y.FixedLeaf 31) (a_at counter) = record { index = 0; bound = three; bounds = []; first = counter; rest = Y.NoNumber; declared = refl; many = refl; is = refl } in
    (record { precision = 31; part = inr element }, (counter_proved, tt))

numbers : IsWhole names types (Y.FixedLeaf 31) (variable 0 Y.NoNumber)
numbers = record { index = 0; outermost = refl; bound = three; bounds = []; declared = refl; is = refl }

bits : IsWhole names types Y.BitLeaf (variable 1 Y.NoNumber)
bits = record { index = 1; outermost = refl; bound = around_zero; bounds = two ∷ []; declared = refl; is = refl }

elements_program : IsProvedSoFar with_elements
elements_program =
    let a : IsPlain (array_variable (Y.FixedLeaf 31) (three ∷ []) []) = record { type = Y.FixedLeaf 31; bounds = three ∷ []; initial = []; held = ((omega arith, omega arith), (((refl, (refl, refl)), tt), omega arith)); begins = tt; is = refl } in
    let b : IsPlain (array_variable Y.BitLeaf (around_zero ∷ two ∷ []) []) = record { type = Y.BitLeaf; bounds = around_zero ∷ two ∷ []; initial = []; held = (tt, (((refl, (refl, refl)), ((refl, (refl, refl)), tt)), omega arith)); begins = tt; is = refl } in
    let i : IsPlain (plain_variable (Y.FixedLeaf 31) []) = record { type = Y.FixedLeaf 31; bounds = []; initial = []; held = (omega arith, omega arith); begins = tt; is = refl } in
    record {
      head = head;
      body = body;
      others = [];
      called = [];
      procedures = refl;
      plain = (tt, ((a, (b, (i, tt))), (tt, tt)));
      few = lit< tt;
      block = record {
        kind = refl;
        level = refl;
        line = lit< tt;
        statements = (
          (numbers, ((counter_proved, lit< tt), lit< tt)),
          ((refl, (lit< tt, ((bits, ((element_proved, lit< tt), lit< tt)), tt))), tt),
        );
        jumps = (tt, (((refl, omega arith), (tt, tt)), tt));
        calls = (tt, ((tt, tt), tt));
        few = omega arith;
      };
      inner = tt;
      once = tt;
    }
