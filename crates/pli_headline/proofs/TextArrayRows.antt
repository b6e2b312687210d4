-- A program with arrays of CHARACTER and of CHARACTER VARYING, with INITIAL, is one of those that are proved.
use Rattle.std.proofs.Common.{List, [], ◌∷◌, None, refl, arith, lit<, inl, inr, true, false, ℕ, Some}
use Rattle.std.specs.Prelude.{pos, negsuc}
use Rattle.pli_language.specs.Tree as T
use Rattle.pli_language.specs.Formats.{format_moves_data, formats_move_data}
use Rattle.pli_typing.specs.Signatures.{Bounds}
use Rattle.pli_typing.specs.TypedTree as Y
use Rattle.pli_headline.specs.ProvedSoFar.{Names, Types, IsOwn, IsElement, IsPartText, IsProvedNumber, IsPlain, IsProvedSoFar, main_names, alone, plain_variable, array_variable, text_leaf, IsTimes, IsTarget}

-- P: PROC OPTIONS(MAIN); DECLARE C(3) CHARACTER(5) INITIAL((2) 'AB', *), V(-1:1, 2) CHARACTER(8) VARYING, I FIXED BINARY(31);
-- C(I) = V(0, 1) || 'AB'; IF C(1) = V(I, I) THEN V(1, 2) = SUBSTR(C(HBOUND(C, 1)), LENGTH(V(1, 1)));
-- GET EDIT (C(I), V(1, I)) (F(5), A(3)); END;
abbrev three : Bounds
three = record { lower = pos 1; upper = pos 3 }

abbrev two : Bounds
two = record { lower = pos 1; upper = pos 2 }

abbrev around_zero : Bounds
around_zero = record { lower = negsuc 0; upper = pos 1 }

abbrev given : List T.InitialItem
given =
    record { repetition = 2; value = T.InitialText (65 ∷ 66 ∷ []) } ∷ record { repetition = 1; value = T.InitialSkip } ∷ []

abbrev variables : List Y.DeclaredVariable
variables =
    array_variable (text_leaf false 5) (three ∷ []) given
    ∷ array_variable (text_leaf true 8) (around_zero ∷ two ∷ []) []
    ∷ plain_variable (Y.FixedLeaf 31) []
    ∷ []

abbrev variable : (index : ℕ) → Y.Numbers → Y.Reference
variable index subscripts =
    Y.Referring (record { class = Y.AutomaticClass; block = 1; level = 0; index = index }) Y.NotLocated (record { first = 0; count = 1 }) subscripts

abbrev counter : Y.Number
counter = Y.NumberIn (variable 2 Y.NoNumber)

abbrev c_at : Y.Number → Y.Reference
c_at i = variable 0 (Y.NumberThen i Y.NoNumber)

abbrev v_at : (i j : Y.Number) → Y.Reference
v_at i j = variable 1 (Y.NumberThen i (Y.NumberThen j Y.NoNumber))

abbrev one : Y.Number
one = Y.NumberConstant 1

abbrev last : Y.Number
last = Y.UpperBound (variable 0 Y.NoNumber) 1

abbrev body : Y.Stmts
body =
    Y.StmtThen [] (Y.Assign (c_at counter) (Y.StoredText (Y.Joined (Y.TextIn (v_at (Y.NumberConstant 0) one)) (Y.TextConstant (65 ∷ 66 ∷ [])))) 2)
    (Y.StmtThen []
    (Y.If (Y.TextsCompared Y.IsEqual (Y.TextIn (c_at one)) (Y.TextIn (v_at counter counter)))
    (Y.Assign (v_at one (Y.NumberConstant 2)) (Y.StoredText (Y.SubstringFrom (Y.TextIn (c_at last)) (Y.LengthOf (Y.TextIn (v_at one one))))) 3) 3)
    (Y.StmtThen []
    (Y.Get None
    (record {
      items = Y.GetScalar (c_at counter) ∷ Y.GetScalar (v_at one counter) ∷ [];
      formats = T.FormatThen (record { line = 4; column = 30 }) 1 (T.FixedFormat 5) (T.FormatThen (record { line = 4; column = 36 }) 1 (T.TextFormat (Some 3)) T.NoFormat);
    }
    ∷ [])
    4)
    (Y.EndOfList [])))

abbrev head : Y.BlockHead
head = record { kind = Y.ProcedureBlock; number = 1; level = 0; line = 1 }

abbrev with_text_arrays : Y.Program
with_text_arrays =
    record {
      variables = [] ∷ variables ∷ [];
      procedures = record { block = Y.BlockOf head body; parameters = []; result = None } ∷ [];
    }

abbrev names : Names
names = main_names with_text_arrays 1

abbrev types : Types
types =
    record { type = text_leaf false 5; bounds = three ∷ [] }
    ∷ record { type = text_leaf true 8; bounds = around_zero ∷ two ∷ [] }
    ∷ alone (Y.FixedLeaf 31)
    ∷ []

counter_proved : IsProvedNumber names types counter
counter_proved =
    let own : IsOwn names types (Y.FixedLeaf 31) (variable 2 Y.NoNumber) = record { index = 2; declared = refl; is = refl } in
    (record { precision = 31; part = inl own }, tt)

c_element : (i : Y.Number) → IsElement names types (text_leaf false 5) (c_at i)
c_element i =
    record { index = 0; bound = three; bounds = []; first = i; rest = Y.NoNumber; declared = refl; many = refl; is = refl }

v_element : (i j : Y.Number) → IsElement names types (text_leaf true 8) (v_at i j)
v_element i j =
    record { index = 1; bound = around_zero; bounds = two ∷ []; first = i; rest = Y.NumberThen j Y.NoNumber; declared = refl; many = refl; is = refl }

c_text : (i : Y.Number) → IsPartText names types (c_at i)
c_text i = record { varying = false; most = 5; part = inr (c_element i) }

v_text : (i j : Y.Number) → IsPartText names types (v_at i j)
v_text i j = record { varying = true; most = 8; part = inr (v_element i j) }

last_proved : IsProvedNumber names types last
last_proved =
    record { index = 0; type = text_leaf false 5; held = (omega arith, omega arith); bound = three; bounds = []; declared = refl; place = 0; asked = three; dimension_is = refl; among = refl; is = refl }

text_arrays_program : IsProvedSoFar with_text_arrays
unfolding formats_move_data format_moves_data
text_arrays_program =
    let n = counter_proved in
    let times : IsTimes 1 = (omega arith, omega arith) in
    let c_read : IsTarget names types true (c_at counter) = record { type = text_leaf false 5; part = inr (c_element counter); read = tt; subscripts = (n, tt) } in
    let v_read : IsTarget names types true (v_at one counter) = record { type = text_leaf true 8; part = inr (v_element one counter); read = tt; subscripts = (lit< tt, (n, tt)) } in
    let c : IsPlain (array_variable (text_leaf false 5) (three ∷ []) given) = record { type = text_leaf false 5; bounds = three ∷ []; initial = given; held = ((omega arith, omega arith), (((refl, (refl, refl)), tt), omega arith)); begins = (lit< tt, (omega arith, (lit< tt, (tt, tt)))); is = refl } in
    let v : IsPlain (array_variable (text_leaf true 8) (around_zero ∷ two ∷ []) []) = record { type = text_leaf true 8; bounds = around_zero ∷ two ∷ []; initial = []; held = ((omega arith, omega arith), (((refl, (refl, refl)), ((refl, (refl, refl)), tt)), omega arith)); begins = tt; is = refl } in
    let i : IsPlain (plain_variable (Y.FixedLeaf 31) []) = record { type = Y.FixedLeaf 31; bounds = []; initial = []; held = (omega arith, omega arith); begins = tt; is = refl } in
    record {
      head = head;
      body = body;
      others = [];
      called = [];
      procedures = refl;
      plain = (tt, ((c, (v, (i, tt))), tt));
      few = lit< tt;
      block = record {
        kind = refl;
        level = refl;
        line = lit< tt;
        statements = (
          ((c_text counter, (n, tt)), (((v_text (Y.NumberConstant 0) one, (lit< tt, (lit< tt, tt))), omega arith), lit< tt)),
          (
            (
              ((c_text one, (lit< tt, tt)), (v_text counter counter, (n, (n, tt)))),
              (((v_text one (Y.NumberConstant 2), (lit< tt, (lit< tt, tt))), (((c_text last, (last_proved, tt)), (v_text one one, (lit< tt, (lit< tt, tt)))), lit< tt)), lit< tt),
            ),
            ((((c_read, (v_read, tt)), (((times, ((omega arith, omega arith), (times, ((omega arith, omega arith), tt)))), (refl, (tt, (tt, tt)))), tt)), lit< tt), tt),
          ),
        );
        jumps = (tt, (tt, (tt, tt)));
        calls = (tt, (tt, (inl refl, tt)));
        few = omega arith;
      };
      inner = tt;
      once = tt;
    }
