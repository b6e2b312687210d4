-- A program that declares arrays in an on-unit, in a BEGIN block and in a procedure inside is one of those that are proved.
use Rattle.std.proofs.Common.{ℕ, List, [], ◌∷◌, None, true, refl, arith, lit<, inl, inr}
use Rattle.std.specs.Prelude.{pos, negsuc}
use Rattle.pli_language.specs.Tree as T
use Rattle.pli_language.specs.declared.condition.Condition.TheVariants as C
use Rattle.pli_typing.specs.Signatures.{Bounds}
use Rattle.pli_typing.specs.TypedTree as Y
use Rattle.pli_headline.specs.ProvedSoFar.{Names, Types, IsOwn, IsElement, IsPartText, IsProvedNumber, IsPlain, IsProvedSoFar, main_names, names_in, alone, plain_variable, array_variable, text_leaf}

-- T: PROC OPTIONS(MAIN); DECLARE I FIXED BINARY(31);
-- ON AREA BEGIN; DECLARE D(2) BIT(1); D(I) = '1'B; IF D(1) THEN I = 2; END;
-- BEGIN; DECLARE A(-1:1, 2) FIXED BINARY(15) INITIAL((2) -7, *); A(0, I) = I; I = A(1, I); CALL P; SIGNAL AREA; END;
-- P: PROC; DECLARE S(3) CHARACTER(5) VARYING INITIAL('AB'); S(I) = S(1) || 'C'; I = HBOUND(S, 1); END; END;
abbrev three : Bounds
three = record { lower = pos 1; upper = pos 3 }

abbrev two : Bounds
two = record { lower = pos 1; upper = pos 2 }

abbrev around_zero : Bounds
around_zero = record { lower = negsuc 0; upper = pos 1 }

abbrev part_at : (block level index : ℕ) → Y.Numbers → Y.Reference
part_at block level index subscripts =
    Y.Referring (record { class = Y.AutomaticClass; block = block; level = level; index = index }) Y.NotLocated (record { first = 0; count = 1 }) subscripts

abbrev i_at : Y.Reference
i_at = part_at 1 0 0 Y.NoNumber

abbrev counter : Y.Number
counter = Y.NumberIn i_at

abbrev one : Y.Number
one = Y.NumberConstant 1

abbrev d_at : Y.Number → Y.Reference
d_at i = part_at 2 1 0 (Y.NumberThen i Y.NoNumber)

abbrev a_at : (i j : Y.Number) → Y.Reference
a_at i j = part_at 3 1 0 (Y.NumberThen i (Y.NumberThen j Y.NoNumber))

abbrev s_at : Y.Number → Y.Reference
s_at i = part_at 4 1 0 (Y.NumberThen i Y.NoNumber)

abbrev last : Y.Number
last = Y.UpperBound (part_at 4 1 0 Y.NoNumber) 1

abbrev sevens : List T.InitialItem
sevens =
    record { repetition = 2; value = T.InitialNumber (negsuc 6) } ∷ record { repetition = 1; value = T.InitialSkip } ∷ []

abbrev letters : List T.InitialItem
letters = record { repetition = 1; value = T.InitialText (65 ∷ 66 ∷ []) } ∷ []

abbrev i_declared : Y.DeclaredVariable
i_declared = plain_variable (Y.FixedLeaf 31) []

abbrev d_declared : Y.DeclaredVariable
d_declared = array_variable Y.BitLeaf (two ∷ []) []

abbrev a_declared : Y.DeclaredVariable
a_declared = array_variable (Y.FixedLeaf 15) (around_zero ∷ two ∷ []) sevens

abbrev s_declared : Y.DeclaredVariable
s_declared = array_variable (text_leaf true 5) (three ∷ []) letters

abbrev head : Y.BlockHead
head = record { kind = Y.ProcedureBlock; number = 1; level = 0; line = 1 }

abbrev unit_head : Y.BlockHead
unit_head = record { kind = Y.UnitBlock; number = 2; level = 1; line = 2 }

abbrev inner_head : Y.BlockHead
inner_head = record { kind = Y.BeginBlock; number = 3; level = 1; line = 3 }

abbrev called_head : Y.BlockHead
called_head = record { kind = Y.ProcedureBlock; number = 4; level = 1; line = 4 }

abbrev unit_body : Y.Stmts
unit_body =
    Y.StmtThen [] (Y.Assign (d_at counter) (Y.StoredBit (Y.BitConstant true)) 2)
    (Y.StmtThen [] (Y.If (Y.BitIn (d_at one)) (Y.Assign i_at (Y.StoredNumber 31 (Y.NumberConstant 2)) 2) 2) (Y.EndOfList []))

abbrev inner_body : Y.Stmts
inner_body =
    Y.StmtThen [] (Y.Assign (a_at (Y.NumberConstant 0) counter) (Y.StoredNumber 15 counter) 3)
    (Y.StmtThen [] (Y.Assign i_at (Y.StoredNumber 31 (Y.NumberIn (a_at one counter))) 3)
    (Y.StmtThen [] (Y.CallProcedure (Y.Calling 4 0 Y.NoArgument) 3)
    (Y.StmtThen [] (Y.Signal C.Area 3) (Y.EndOfList []))))

abbrev called_body : Y.Stmts
called_body =
    Y.StmtThen [] (Y.Assign (s_at counter) (Y.StoredText (Y.Joined (Y.TextIn (s_at one)) (Y.TextConstant (67 ∷ [])))) 4)
    (Y.StmtThen [] (Y.Assign i_at (Y.StoredNumber 31 last) 4) (Y.EndOfList []))

abbrev body : Y.Stmts
body =
    Y.StmtThen [] (Y.OnUnit C.Area (Y.BlockOf unit_head unit_body) 2)
    (Y.StmtThen [] (Y.Begin (Y.BlockOf inner_head inner_body)) (Y.EndOfList []))

abbrev with_block_arrays : Y.Program
with_block_arrays =
    record {
      variables = [] ∷ (i_declared ∷ []) ∷ (d_declared ∷ []) ∷ (a_declared ∷ []) ∷ (s_declared ∷ []) ∷ [];
      procedures =
          record { block = Y.BlockOf head body; parameters = []; result = None }
          ∷ record { block = Y.BlockOf called_head called_body; parameters = []; result = None }
          ∷ [];
    }

abbrev types : Types
types = alone (Y.FixedLeaf 31) ∷ []

abbrev unit_types : Types
unit_types = alone (Y.FixedLeaf 31) ∷ record { type = Y.BitLeaf; bounds = two ∷ [] } ∷ []

abbrev inner_types : Types
inner_types = alone (Y.FixedLeaf 31) ∷ record { type = Y.FixedLeaf 15; bounds = around_zero ∷ two ∷ [] } ∷ []

abbrev called_types : Types
called_types = alone (Y.FixedLeaf 31) ∷ record { type = text_leaf true 5; bounds = three ∷ [] } ∷ []

abbrev unit_names : Names
unit_names = names_in (main_names with_block_arrays 1) types unit_head (d_declared ∷ [])

abbrev inner_names : Names
inner_names = names_in (main_names with_block_arrays 1) types inner_head (a_declared ∷ [])

abbrev called_names : Names
called_names = names_in (main_names with_block_arrays 1) types called_head (s_declared ∷ [])

d_element : (i : Y.Number) → IsElement unit_names unit_types Y.BitLeaf (d_at i)
d_element i =
    record { index = 1; bound = two; bounds = []; first = i; rest = Y.NoNumber; declared = refl; many = refl; is = refl }

a_element : (i j : Y.Number) → IsElement inner_names inner_types (Y.FixedLeaf 15) (a_at i j)
a_element i j =
    record { index = 1; bound = around_zero; bounds = two ∷ []; first = i; rest = Y.NumberThen j Y.NoNumber; declared = refl; many = refl; is = refl }

s_text : (i : Y.Number) → IsPartText called_names called_types (s_at i)
s_text i =
    let element : IsElement called_names called_types (text_leaf true 5) (s_at i) = record { index = 1; bound = three; bounds = []; first = i; rest = Y.NoNumber; declared = refl; many = refl; is = refl } in
    record { varying = true; most = 5; part = inr element }

last_proved : IsProvedNumber called_names called_types last
last_proved =
    record { index = 1; type = text_leaf true 5; held = (omega arith, omega arith); bound = three; bounds = []; declared = refl; place = 0; asked = three; dimension_is = refl; among = refl; is = refl }

block_arrays_program : IsProvedSoFar with_block_arrays
block_arrays_program =
    let in_unit : IsOwn unit_names unit_types (Y.FixedLeaf 31) i_at = record { index = 0; declared = refl; is = refl } in
    let in_block : IsOwn inner_names inner_types (Y.FixedLeaf 31) i_at = record { index = 0; declared = refl; is = refl } in
    let in_called : IsOwn called_names called_types (Y.FixedLeaf 31) i_at = record { index = 0; declared = refl; is = refl } in
    let unit_counter : IsProvedNumber unit_names unit_types counter = (record { precision = 31; part = inl in_unit }, tt) in
    let block_counter : IsProvedNumber inner_names inner_types counter = (record { precision = 31; part = inl in_block }, tt) in
    let called_counter : IsProvedNumber called_names called_types counter = (record { precision = 31; part = inl in_called }, tt) in
    let a_number : IsProvedNumber inner_names inner_types (Y.NumberIn (a_at one counter)) = (record { precision = 15; part = inr (a_element one counter) }, (lit< tt, (block_counter, tt))) in
    let plain_i : IsPlain i_declared = record { type = Y.FixedLeaf 31; bounds = []; initial = []; held = (omega arith, omega arith); begins = tt; is = refl } in
    let plain_d : IsPlain d_declared = record { type = Y.BitLeaf; bounds = two ∷ []; initial = []; held = (tt, (((refl, (refl, refl)), tt), omega arith)); begins = tt; is = refl } in
    let plain_a : IsPlain a_declared = record { type = Y.FixedLeaf 15; bounds = around_zero ∷ two ∷ []; initial = sevens; held = ((omega arith, omega arith), (((refl, (refl, refl)), ((refl, (refl, refl)), tt)), omega arith)); begins = (lit< tt, (refl, (lit< tt, (tt, tt)))); is = refl } in
    let plain_s : IsPlain s_declared = record { type = text_leaf true 5; bounds = three ∷ []; initial = letters; held = ((omega arith, omega arith), (((refl, (refl, refl)), tt), omega arith)); begins = (lit< tt, (omega arith, tt)); is = refl } in
    record {
      head = head;
      body = body;
      others = record { block = Y.BlockOf called_head called_body; parameters = []; result = None } ∷ [];
      called = 4 ∷ [];
      procedures = refl;
      plain = (tt, ((plain_i, tt), ((plain_d, tt), ((plain_a, tt), ((plain_s, tt), tt)))));
      few = lit< tt;
      block = record {
        kind = refl;
        level = refl;
        line = lit< tt;
        statements = (
          (tt, (tt, (lit< tt, (lit< tt, (((inr (d_element counter), (unit_counter, tt)), (tt, lit< tt)), (((inr (d_element one), (lit< tt, tt)), (((inl in_unit, tt), (lit< tt, lit< tt)), lit< tt)), tt)))))),
          ((refl, (lit< tt, (((inr (a_element (Y.NumberConstant 0) counter), (lit< tt, (block_counter, tt))), (block_counter, lit< tt)), (((inl in_block, tt), (a_number, lit< tt)), ((refl, lit< tt), (lit< tt, tt)))))), tt),
        );
        jumps = ((refl, (refl, (refl, (tt, (tt, tt))))), (((refl, omega arith), (tt, (tt, (tt, (tt, tt))))), tt));
        calls = (((tt, (tt, tt)), (omega arith, refl)), ((tt, (tt, ((omega arith, refl), (omega arith, tt)))), tt));
        few = omega arith;
      };
      inner = (
        record {
          head = called_head;
          body = called_body;
          is = refl;
          apart = refl;
          level = refl;
          statements = (((s_text counter, (called_counter, tt)), (((s_text one, (lit< tt, tt)), omega arith), lit< tt)), (((inl in_called, tt), (last_proved, lit< tt)), tt));
          jumps = (tt, (tt, tt));
          callable = λ h. record { kind = refl; line = lit< tt; calls = (tt, (tt, tt)); few = omega arith };
        },
        tt,
      );
      once = (refl, tt);
    }
