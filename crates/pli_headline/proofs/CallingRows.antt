-- A program with a block that declares a scalar, calls a procedure, which declares one too, and raises AREA is one of those that are proved.
use Rattle.std.proofs.Common.{ℕ, [], ◌∷◌, None, refl, arith, lit<, inl}
use Rattle.pli_language.specs.declared.condition.Condition.TheVariants as C
use Rattle.pli_typing.specs.TypedTree as Y
use Rattle.pli_headline.specs.ProvedSoFar.{Names, Types, IsOwn, IsProvedNumber, IsPlain, IsProvedSoFar, main_names, names_in, alone, plain_variable}

-- T: PROC OPTIONS(MAIN); DECLARE I FIXED BINARY(31); BEGIN; DECLARE J FIXED BINARY(31); J = I; CALL P; SIGNAL AREA; I = J; END;
-- P: PROC; DECLARE K FIXED BINARY(31); K = I; I = K; END; END;
abbrev whole_at : (block level index : ℕ) → Y.Reference
whole_at block level index =
    Y.Referring (record { class = Y.AutomaticClass; block = block; level = level; index = index }) Y.NotLocated (record { first = 0; count = 1 }) Y.NoNumber

abbrev head : Y.BlockHead
head = record { kind = Y.ProcedureBlock; number = 1; level = 0; line = 1 }

abbrev inner_head : Y.BlockHead
inner_head = record { kind = Y.BeginBlock; number = 2; level = 1; line = 2 }

abbrev called_head : Y.BlockHead
called_head = record { kind = Y.ProcedureBlock; number = 3; level = 1; line = 7 }

abbrev inner_body : Y.Stmts
inner_body =
    Y.StmtThen [] (Y.Assign (whole_at 2 1 0) (Y.StoredNumber 31 (Y.NumberIn (whole_at 1 0 0))) 3)
    (Y.StmtThen [] (Y.CallProcedure (Y.Calling 3 0 Y.NoArgument) 4)
    (Y.StmtThen [] (Y.Signal C.Area 5)
    (Y.StmtThen [] (Y.Assign (whole_at 1 0 0) (Y.StoredNumber 31 (Y.NumberIn (whole_at 2 1 0))) 6) (Y.EndOfList []))))

abbrev outer_body : Y.Stmts
outer_body = Y.StmtThen [] (Y.Begin (Y.BlockOf inner_head inner_body)) (Y.EndOfList [])

abbrev called_body : Y.Stmts
called_body =
    Y.StmtThen [] (Y.Assign (whole_at 3 1 0) (Y.StoredNumber 31 (Y.NumberIn (whole_at 1 0 0))) 8)
    (Y.StmtThen [] (Y.Assign (whole_at 1 0 0) (Y.StoredNumber 31 (Y.NumberIn (whole_at 3 1 0))) 9) (Y.EndOfList []))

abbrev number : Y.DeclaredVariable
number = plain_variable (Y.FixedLeaf 31) []

abbrev with_calls : Y.Program
with_calls =
    record {
      variables = [] ∷ (number ∷ []) ∷ (number ∷ []) ∷ (number ∷ []) ∷ [];
      procedures =
          record { block = Y.BlockOf head outer_body; parameters = []; result = None }
          ∷ record { block = Y.BlockOf called_head called_body; parameters = []; result = None }
          ∷ [];
    }

abbrev outer_types : Types
outer_types = alone (Y.FixedLeaf 31) ∷ []

abbrev inner_types : Types
inner_types = alone (Y.FixedLeaf 31) ∷ alone (Y.FixedLeaf 31) ∷ []

abbrev inner_names : Names
inner_names = names_in (main_names with_calls 1) outer_types inner_head (number ∷ [])

abbrev called_names : Names
called_names = names_in (main_names with_calls 1) outer_types called_head (number ∷ [])

calling_program : IsProvedSoFar with_calls
calling_program =
    let i : IsOwn inner_names inner_types (Y.FixedLeaf 31) (whole_at 1 0 0) = record { index = 0; declared = refl; is = refl } in
    let j : IsOwn inner_names inner_types (Y.FixedLeaf 31) (whole_at 2 1 0) = record { index = 1; declared = refl; is = refl } in
    let ni : IsProvedNumber inner_names inner_types (Y.NumberIn (whole_at 1 0 0)) = (record { precision = 31; part = inl i }, tt) in
    let nj : IsProvedNumber inner_names inner_types (Y.NumberIn (whole_at 2 1 0)) = (record { precision = 31; part = inl j }, tt) in
    let i' : IsOwn called_names inner_types (Y.FixedLeaf 31) (whole_at 1 0 0) = record { index = 0; declared = refl; is = refl } in
    let k : IsOwn called_names inner_types (Y.FixedLeaf 31) (whole_at 3 1 0) = record { index = 1; declared = refl; is = refl } in
    let ni' : IsProvedNumber called_names inner_types (Y.NumberIn (whole_at 1 0 0)) = (record { precision = 31; part = inl i' }, tt) in
    let nk : IsProvedNumber called_names inner_types (Y.NumberIn (whole_at 3 1 0)) = (record { precision = 31; part = inl k }, tt) in
    let plain : IsPlain number = record { type = Y.FixedLeaf 31; bounds = []; initial = []; held = (omega arith, omega arith); begins = tt; is = refl } in
    record {
      head = head;
      body = outer_body;
      others = record { block = Y.BlockOf called_head called_body; parameters = []; result = None } ∷ [];
      called = 3 ∷ [];
      procedures = refl;
      plain = (tt, ((plain, tt), ((plain, tt), ((plain, tt), tt))));
      few = lit< tt;
      block = record {
        kind = refl;
        level = refl;
        line = lit< tt;
        statements = ((refl, (lit< tt, (((inl j, tt), (ni, lit< tt)), ((refl, lit< tt), (lit< tt, (((inl i, tt), (nj, lit< tt)), tt)))))), tt);
        jumps = (((refl, omega arith), (tt, (tt, (tt, (tt, tt))))), tt);
        calls = ((tt, ((omega arith, refl), (omega arith, (tt, tt)))), tt);
        few = omega arith;
      };
      inner = (
        record {
          head = called_head;
          body = called_body;
          is = refl;
          apart = refl;
          level = refl;
          statements = (((inl k, tt), (ni', lit< tt)), (((inl i', tt), (nk, lit< tt)), tt));
          jumps = (tt, (tt, tt));
          callable = λ h. record { kind = refl; line = lit< tt; calls = (tt, (tt, tt)); few = omega arith };
        },
        tt,
      );
      once = (refl, tt);
    }
