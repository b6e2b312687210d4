-- A program with an on-unit that declares scalars, and one that assigns one value to all elements of an array, is one of those that are proved.
use Rattle.std.proofs.Common.{ℕ, List, [], ◌∷◌, None, refl, arith, lit<, inl, inr}
use Rattle.std.specs.Prelude.{pos, negsuc}
use Rattle.pli_language.specs.Tree as T
use Rattle.pli_language.specs.declared.condition.Condition.TheVariants as C
use Rattle.pli_typing.specs.Signatures.{Bounds}
use Rattle.pli_typing.specs.TypedTree as Y
use Rattle.pli_headline.specs.ProvedSoFar.{Names, Types, IsOwn, IsWhole, AreConstants, IsProvedNumber, IsPlain, IsProvedSoFar, main_names, names_in, alone, plain_variable, array_variable}

-- T: PROC OPTIONS(MAIN); DECLARE I FIXED BINARY(31), A(3) FIXED BINARY(31);
-- ON AREA BEGIN; DECLARE J FIXED BINARY(15) INITIAL(-7), B BIT(1); J = I; I = J; IF B THEN GOTO L; END; SIGNAL AREA;
-- ON AREA A = ONCODE(); SIGNAL AREA; L: END;
abbrev whole_at : (block level index : ℕ) → Y.Reference
whole_at block level index =
    Y.Referring (record { class = Y.AutomaticClass; block = block; level = level; index = index }) Y.NotLocated (record { first = 0; count = 1 }) Y.NoNumber

abbrev head : Y.BlockHead
head = record { kind = Y.ProcedureBlock; number = 1; level = 0; line = 1 }

abbrev unit_head : Y.BlockHead
unit_head = record { kind = Y.UnitBlock; number = 2; level = 1; line = 2 }

abbrev single_head : Y.BlockHead
single_head = record { kind = Y.SimpleUnit; number = 1; level = 1; line = 6 }

abbrev unit_body : Y.Stmts
unit_body =
    Y.StmtThen [] (Y.Assign (whole_at 2 1 0) (Y.StoredNumber 15 (Y.NumberIn (whole_at 1 0 0))) 2)
    (Y.StmtThen [] (Y.Assign (whole_at 1 0 0) (Y.StoredNumber 31 (Y.NumberIn (whole_at 2 1 0))) 3)
    (Y.StmtThen [] (Y.If (Y.BitIn (whole_at 2 1 1)) (Y.Goto 0 (76 ∷ []) 4) 4) (Y.EndOfList [])))

abbrev single : Y.Stmts
single = Y.StmtThen [] (Y.AssignElements (whole_at 1 0 1) (Y.StoredNumber 31 Y.OnCode) 6) (Y.EndOfList [])

abbrev outer_body : Y.Stmts
outer_body =
    Y.StmtThen [] (Y.OnUnit C.Area (Y.BlockOf unit_head unit_body) 2)
    (Y.StmtThen [] (Y.Signal C.Area 5)
    (Y.StmtThen [] (Y.OnUnit C.Area (Y.BlockOf single_head single) 6)
    (Y.StmtThen [] (Y.Signal C.Area 7)
    (Y.EndOfList ((76 ∷ []) ∷ [])))))

abbrev seven : List T.InitialItem
seven = record { repetition = 1; value = T.InitialNumber (negsuc 6) } ∷ []

abbrev three : Bounds
three = record { lower = pos 1; upper = pos 3 }

abbrev number : Y.DeclaredVariable
number = plain_variable (Y.FixedLeaf 31) []

abbrev numbers : Y.DeclaredVariable
numbers = array_variable (Y.FixedLeaf 31) (three ∷ []) []

abbrev short : Y.DeclaredVariable
short = plain_variable (Y.FixedLeaf 15) seven

abbrev bit : Y.DeclaredVariable
bit = plain_variable Y.BitLeaf []

abbrev with_unit : Y.Program
with_unit =
    record {
      variables = [] ∷ (number ∷ numbers ∷ []) ∷ (short ∷ bit ∷ []) ∷ [];
      procedures = record { block = Y.BlockOf head outer_body; parameters = []; result = None } ∷ [];
    }

abbrev outer_types : Types
outer_types = alone (Y.FixedLeaf 31) ∷ record { type = Y.FixedLeaf 31; bounds = three ∷ [] } ∷ []

abbrev unit_types : Types
unit_types = alone (Y.FixedLeaf 31) ∷ record { type = Y.FixedLeaf 31; bounds = three ∷ [] } ∷ alone (Y.FixedLeaf 15) ∷ alone Y.BitLeaf ∷ []

abbrev unit_names : Names
unit_names = names_in (main_names with_unit 1) outer_types unit_head (short ∷ bit ∷ [])

unit_program : IsProvedSoFar with_unit
unit_program =
    let i : IsOwn unit_names unit_types (Y.FixedLeaf 31) (whole_at 1 0 0) = record { index = 0; declared = refl; is = refl } in
    let j : IsOwn unit_names unit_types (Y.FixedLeaf 15) (whole_at 2 1 0) = record { index = 2; declared = refl; is = refl } in
    let b : IsOwn unit_names unit_types Y.BitLeaf (whole_at 2 1 1) = record { index = 3; declared = refl; is = refl } in
    let a : IsWhole (main_names with_unit 1) outer_types (Y.FixedLeaf 31) (whole_at 1 0 1) = record { index = 1; outermost = refl; bound = three; bounds = []; declared = refl; is = refl } in
    let ni : IsProvedNumber unit_names unit_types (Y.NumberIn (whole_at 1 0 0)) = (record { precision = 31; part = inl i }, tt) in
    let nj : IsProvedNumber unit_names unit_types (Y.NumberIn (whole_at 2 1 0)) = (record { precision = 15; part = inl j }, tt) in
    let minus : AreConstants (Y.FixedLeaf 15) seven = (lit< tt, (refl, tt)) in
    let plain_i : IsPlain number = record { type = Y.FixedLeaf 31; bounds = []; initial = []; held = (omega arith, omega arith); begins = tt; is = refl } in
    let plain_a : IsPlain numbers = record { type = Y.FixedLeaf 31; bounds = three ∷ []; initial = []; held = ((omega arith, omega arith), (((refl, (refl, refl)), tt), omega arith)); begins = tt; is = refl } in
    let plain_j : IsPlain short = record { type = Y.FixedLeaf 15; bounds = []; initial = seven; held = (omega arith, omega arith); begins = minus; is = refl } in
    let plain_b : IsPlain bit = record { type = Y.BitLeaf; bounds = []; initial = []; held = tt; begins = tt; is = refl } in
    record {
      head = head;
      body = outer_body;
      others = [];
      called = [];
      procedures = refl;
      plain = (tt, ((plain_i, (plain_a, tt)), ((plain_j, (plain_b, tt)), tt)));
      few = lit< tt;
      block = record {
        kind = refl;
        level = refl;
        line = lit< tt;
        statements = (
          (tt, (tt, (lit< tt, (lit< tt, (((inl j, tt), (ni, lit< tt)), (((inl i, tt), (nj, lit< tt)), (((inl b, tt), (lit< tt, lit< tt)), tt))))))),
          (lit< tt, ((tt, (tt, (lit< tt, (lit< tt, ((a, (tt, lit< tt)), tt))))), (lit< tt, tt))),
        );
        jumps = (
          (refl, (refl, (refl, (tt, (tt, (inr (inl (refl, (refl, (refl, refl)))), tt)))))),
          (tt, ((refl, (refl, (tt, (tt, tt)))), (tt, tt))),
        );
        calls = (((tt, (tt, (tt, tt))), (omega arith, refl)), (omega arith, (((tt, tt), (omega arith, tt)), (omega arith, tt))));
        few = omega arith;
      };
      inner = tt;
      once = tt;
    }
