-- A program that assigns one text to all elements of arrays, also in a BEGIN block, is one of those that are proved.
use Rattle.std.proofs.Common.{ℕ, List, [], ◌∷◌, None, true, false, refl, arith, lit<, inl, inr}
use Rattle.std.specs.Prelude.{pos, negsuc}
use Rattle.pli_typing.specs.Signatures.{Bounds}
use Rattle.pli_typing.specs.TypedTree as Y
use Rattle.pli_headline.specs.ProvedSoFar.{Names, Types, IsOwn, IsElement, IsPartText, IsWholeText, IsProvedNumber, IsPlain, IsProvedSoFar, main_names, alone, plain_variable, array_variable, text_leaf}

-- P: PROC OPTIONS(MAIN); DECLARE C(3) CHARACTER(5), V(-1:1, 2) CHARACTER(8) VARYING, I FIXED BINARY(31);
-- C = 'AB' || V(0, 1); BEGIN; V = C(I); END; END;
abbrev three : Bounds
three = record { lower = pos 1; upper = pos 3 }

abbrev two : Bounds
two = record { lower = pos 1; upper = pos 2 }

abbrev around_zero : Bounds
around_zero = record { lower = negsuc 0; upper = pos 1 }

abbrev variables : List Y.DeclaredVariable
variables =
    array_variable (text_leaf false 5) (three ∷ []) []
    ∷ array_variable (text_leaf true 8) (around_zero ∷ two ∷ []) []
    ∷ plain_variable (Y.FixedLeaf 31) []
    ∷ []

abbrev variable : (index : ℕ) → Y.Numbers → Y.Reference
variable index subscripts =
    Y.Referring (record { class = Y.AutomaticClass; block = 1; level = 0; index = index }) Y.NotLocated (record { first = 0; count = 1 }) subscripts

abbrev counter : Y.Number
counter = Y.NumberIn (variable 2 Y.NoNumber)

abbrev c_at : Y.Number → Y.Reference
c_at i = variable 0 (Y.NumberThen i Y.NoNumber)

abbrev v_at : (i j : Y.Number) → Y.Reference
v_at i j = variable 1 (Y.NumberThen i (Y.NumberThen j Y.NoNumber))

abbrev inner_body : Y.Stmts
inner_body =
    Y.StmtThen [] (Y.AssignElements (variable 1 Y.NoNumber) (Y.StoredText (Y.TextIn (c_at counter))) 2) (Y.EndOfList [])

abbrev inner_head : Y.BlockHead
inner_head = record { kind = Y.BeginBlock; number = 2; level = 1; line = 2 }

abbrev body : Y.Stmts
body =
    Y.StmtThen []
    (Y.AssignElements (variable 0 Y.NoNumber) (Y.StoredText (Y.Joined (Y.TextConstant (65 ∷ 66 ∷ [])) (Y.TextIn (v_at (Y.NumberConstant 0) (Y.NumberConstant 1))))) 1)
    (Y.StmtThen [] (Y.Begin (Y.BlockOf inner_head inner_body)) (Y.EndOfList []))

abbrev head : Y.BlockHead
head = record { kind = Y.ProcedureBlock; number = 1; level = 0; line = 1 }

abbrev with_texts : Y.Program
with_texts =
    record {
      variables = [] ∷ variables ∷ [] ∷ [];
      procedures = record { block = Y.BlockOf head body; parameters = []; result = None } ∷ [];
    }

abbrev names : Names
names = main_names with_texts 1

abbrev types : Types
types =
    record { type = text_leaf false 5; bounds = three ∷ [] }
    ∷ record { type = text_leaf true 8; bounds = around_zero ∷ two ∷ [] }
    ∷ alone (Y.FixedLeaf 31)
    ∷ []

counter_proved : IsProvedNumber names types counter
counter_proved =
    let own : IsOwn names types (Y.FixedLeaf 31) (variable 2 Y.NoNumber) = record { index = 2; declared = refl; is = refl } in
    (record { precision = 31; part = inl own }, tt)

c_text : IsPartText names types (c_at counter)
c_text =
    let element : IsElement names types (text_leaf false 5) (c_at counter) = record { index = 0; bound = three; bounds = []; first = counter; rest = Y.NoNumber; declared = refl; many = refl; is = refl } in
    record { varying = false; most = 5; part = inr element }

v_text : (i j : Y.Number) → IsPartText names types (v_at i j)
v_text i j =
    let element : IsElement names types (text_leaf true 8) (v_at i j) = record { index = 1; bound = around_zero; bounds = two ∷ []; first = i; rest = Y.NumberThen j Y.NoNumber; declared = refl; many = refl; is = refl } in
    record { varying = true; most = 8; part = inr element }

padded : IsWholeText names types (variable 0 Y.NoNumber)
padded =
    record { varying = false; most = 5; whole = record { index = 0; outermost = refl; bound = three; bounds = []; declared = refl; is = refl } }

cut : IsWholeText names types (variable 1 Y.NoNumber)
cut =
    record { varying = true; most = 8; whole = record { index = 1; outermost = refl; bound = around_zero; bounds = two ∷ []; declared = refl; is = refl } }

texts_program : IsProvedSoFar with_texts
texts_program =
    let c : IsPlain (array_variable (text_leaf false 5) (three ∷ []) []) = record { type = text_leaf false 5; bounds = three ∷ []; initial = []; held = ((omega arith, omega arith), (((refl, (refl, refl)), tt), omega arith)); begins = tt; is = refl } in
    let v : IsPlain (array_variable (text_leaf true 8) (around_zero ∷ two ∷ []) []) = record { type = text_leaf true 8; bounds = around_zero ∷ two ∷ []; initial = []; held = ((omega arith, omega arith), (((refl, (refl, refl)), ((refl, (refl, refl)), tt)), omega arith)); begins = tt; is = refl } in
    let i : IsPlain (plain_variable (Y.FixedLeaf 31) []) = record { type = Y.FixedLeaf 31; bounds = []; initial = []; held = (omega arith, omega arith); begins = tt; is = refl } in
    record {
      head = head;
      body = body;
      others = [];
      called = [];
      procedures = refl;
      plain = (tt, ((c, (v, (i, tt))), (tt, tt)));
      few = lit< tt;
      block = record {
        kind = refl;
        level = refl;
        line = lit< tt;
        statements = (
          (padded, ((omega arith, (v_text (Y.NumberConstant 0) (Y.NumberConstant 1), (lit< tt, (lit< tt, tt)))), lit< tt)),
          ((refl, (lit< tt, ((cut, ((c_text, (counter_proved, tt)), lit< tt)), tt))), tt),
        );
        jumps = (tt, (((refl, omega arith), (tt, tt)), tt));
        calls = (tt, ((tt, tt), tt));
        few = omega arith;
      };
      inner = tt;
      once = tt;
    }
