-- A program that assigns arrays of numbers and bits to others with equal bounds, also in a BEGIN block, is one of those that are proved.
use Rattle.std.proofs.Common.{ℕ, List, [], ◌∷◌, None, refl, arith, lit<, inl}
use Rattle.std.specs.Prelude.{pos, negsuc}
use Rattle.pli_typing.specs.Signatures.{Bounds}
use Rattle.pli_typing.specs.TypedTree as Y
use Rattle.pli_headline.specs.ProvedSoFar.{Names, Types, Kind, IsWhole, AreAlike, IsPlain, IsProvedSoFar, main_names, array_variable}

-- P: PROC OPTIONS(MAIN); DECLARE (A(3), C(3)) FIXED BINARY(31), (B(-1:1, 2), D(-1:1, 2)) BIT(1); A = C; BEGIN; D = B; END; A = A; END;
abbrev three : Bounds
three = record { lower = pos 1; upper = pos 3 }

abbrev two : Bounds
two = record { lower = pos 1; upper = pos 2 }

abbrev around_zero : Bounds
around_zero = record { lower = negsuc 0; upper = pos 1 }

abbrev numbers : Y.DeclaredVariable
numbers = array_variable (Y.FixedLeaf 31) (three ∷ []) []

abbrev bits : Y.DeclaredVariable
bits = array_variable Y.BitLeaf (around_zero ∷ two ∷ []) []

abbrev variables : List Y.DeclaredVariable
variables = numbers ∷ numbers ∷ bits ∷ bits ∷ []

abbrev variable : (index : ℕ) → Y.Reference
variable index =
    Y.Referring (record { class = Y.AutomaticClass; block = 1; level = 0; index = index }) Y.NotLocated (record { first = 0; count = 1 }) Y.NoNumber

abbrev inner_body : Y.Stmts
inner_body = Y.StmtThen [] (Y.AssignAggregate (variable 3) (variable 2) 2) (Y.EndOfList [])

abbrev inner_head : Y.BlockHead
inner_head = record { kind = Y.BeginBlock; number = 2; level = 1; line = 2 }

abbrev body : Y.Stmts
body =
    Y.StmtThen [] (Y.AssignAggregate (variable 0) (variable 1) 1)
    (Y.StmtThen [] (Y.Begin (Y.BlockOf inner_head inner_body))
    (Y.StmtThen [] (Y.AssignAggregate (variable 0) (variable 0) 3) (Y.EndOfList [])))

abbrev head : Y.BlockHead
head = record { kind = Y.ProcedureBlock; number = 1; level = 0; line = 1 }

abbrev with_copies : Y.Program
with_copies =
    record {
      variables = [] ∷ variables ∷ [] ∷ [];
      procedures = record { block = Y.BlockOf head body; parameters = []; result = None } ∷ [];
    }

abbrev names : Names
names = main_names with_copies 1

abbrev number_kind : Kind
number_kind = record { type = Y.FixedLeaf 31; bounds = three ∷ [] }

abbrev bit_kind : Kind
bit_kind = record { type = Y.BitLeaf; bounds = around_zero ∷ two ∷ [] }

abbrev types : Types
types = number_kind ∷ number_kind ∷ bit_kind ∷ bit_kind ∷ []

abbrev first : IsWhole names types (Y.FixedLeaf 31) (variable 0)
first = record { index = 0; outermost = refl; bound = three; bounds = []; declared = refl; is = refl }

abbrev second : IsWhole names types (Y.FixedLeaf 31) (variable 1)
second = record { index = 1; outermost = refl; bound = three; bounds = []; declared = refl; is = refl }

abbrev third : IsWhole names types Y.BitLeaf (variable 2)
third = record { index = 2; outermost = refl; bound = around_zero; bounds = two ∷ []; declared = refl; is = refl }

abbrev fourth : IsWhole names types Y.BitLeaf (variable 3)
fourth = record { index = 3; outermost = refl; bound = around_zero; bounds = two ∷ []; declared = refl; is = refl }

copies_program : IsProvedSoFar with_copies
copies_program =
    let a : IsPlain numbers = record { type = Y.FixedLeaf 31; bounds = three ∷ []; initial = []; held = ((omega arith, omega arith), (((refl, (refl, refl)), tt), omega arith)); begins = tt; is = refl } in
    let b : IsPlain bits = record { type = Y.BitLeaf; bounds = around_zero ∷ two ∷ []; initial = []; held = (tt, (((refl, (refl, refl)), ((refl, (refl, refl)), tt)), omega arith)); begins = tt; is = refl } in
    let one : AreAlike names types (variable 0) (variable 1) = record { type = Y.FixedLeaf 31; element = (omega arith, omega arith); target_is = first; source_is = second; same = refl } in
    let other : AreAlike names types (variable 3) (variable 2) = record { type = Y.BitLeaf; element = tt; target_is = fourth; source_is = third; same = refl } in
    let itself : AreAlike names types (variable 0) (variable 0) = record { type = Y.FixedLeaf 31; element = (omega arith, omega arith); target_is = first; source_is = first; same = refl } in
    record {
      head = head;
      body = body;
      others = [];
      called = [];
      procedures = refl;
      plain = (tt, ((a, (a, (b, (b, tt)))), (tt, tt)));
      few = lit< tt;
      block = record {
        kind = refl;
        level = refl;
        line = lit< tt;
        statements = ((inl one, lit< tt), ((refl, (lit< tt, ((inl other, lit< tt), tt))), ((inl itself, lit< tt), tt)));
        jumps = (tt, (((refl, omega arith), (tt, tt)), (tt, tt)));
        calls = (tt, ((tt, tt), (tt, tt)));
        few = omega arith;
      };
      inner = tt;
      once = tt;
    }
