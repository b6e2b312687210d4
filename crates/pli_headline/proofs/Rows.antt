-- The statement's definitions, computed.
use Rattle.std.proofs.Common.{◌≡◌, ℕ, ◌+◌, ◌≤◌, List, [], ◌∷◌, None, Some, Bool, true, false, refl, arith, lit<, inl, inr}
use Rattle.std.specs.Prelude.{negsuc, pos}
use Rattle.rv_meaning.specs.declared.instr.Fault.TheVariants.{BadService}
use Rattle.rv_meaning.specs.declared.instr.Instr.TheVariants as I
use Rattle.run_keeper.specs.RunKeeper.{run_keeper}
use Rattle.pli_language.specs.declared.condition.Condition.TheVariants as C
use Rattle.pli_language.specs.Tree as T
use Rattle.pli_language.specs.Formats.{format_moves_data, formats_move_data}
use Rattle.pli_typing.specs.TypedTree as Y
use Rattle.image_runs.specs.Runs.{Stopped, layout_of, shown_by}
use Rattle.pli_meaning.specs.Pictures.{step_cost}
use Rattle.pli_headline.specs.Headline.{parts}
use Rattle.pli_meaning.specs.Executing.{labels_in}
use Rattle.pli_headline.specs.ProvedSoFar.{IsProvedSoFar, Names, main_names, ArePlain, Types, AreProvedStatements, AllJumpAround, main_outer, all_labels, AreProvedFormats, AreProvedPairs, IsTimes, HasData, IsOwn, IsAssignedText, IsTarget, plain_variable, text_leaf, alone, array_variable, IsProvedNumber, IsElement, IsDimension}
use Rattle.pli_typing.specs.Signatures.{Bounds}

-- a fault is no world
fault_shown : shown_by (Stopped BadService) ≡ None
fault_shown = refl

-- three words of code
three_words : step_cost (record { code = I.Ecall ∷ I.Ecall ∷ I.Ecall ∷ []; statics = []; entry = 0 }) ≡ 8
three_words = refl

-- the heap ends within memory
heap_inside : (layout_of 0).heap_at + run_keeper.bytes_for (layout_of 0).heap_capacity ≤ (layout_of 0).end
heap_inside = omega arith

-- the heap stands behind the stacks
heap_behind : parts.stack_end ≡ (layout_of 0).heap_at
heap_behind = refl

-- T: PROC OPTIONS(MAIN);
-- DCL I FIXED BIN(31); I = 1 - -I; PUT EDIT (I) (2 F(5));
-- END T;
abbrev whole_i : Y.Reference
whole_i =
    Y.Referring (record { class = Y.AutomaticClass; block = 1; level = 0; index = 0 }) Y.NotLocated (record { first = 0; count = 1 }) Y.NoNumber

abbrev body : Y.Stmts
body =
    Y.StmtThen [] (Y.Assign whole_i (Y.StoredNumber 31 (Y.Calculated Y.Difference (Y.NumberConstant 1) (Y.Signed Y.Negative (Y.NumberIn whole_i)))) 2)
    (Y.StmtThen [] (Y.Put None (record { items = Y.PutValue (Y.NumberValue 31 (Y.NumberIn whole_i)) ∷ []; formats = T.FormatThen (record { line = 2; column = 1 }) 2 (T.FixedFormat 5) T.NoFormat } ∷ []) 2)
    (Y.EndOfList []))

-- DO WHILE (I < 10); IF ^'0'B THEN I = I * 2; END; STOP;
abbrev loop : Y.Stmts
loop =
    Y.StmtThen []
    (Y.DoWhile (Y.NumbersCompared Y.IsLess (Y.NumberIn whole_i) (Y.NumberConstant 10))
    (Y.StmtThen [] (Y.If (Y.Negated (Y.BitConstant false)) (Y.Assign whole_i (Y.StoredNumber 31 (Y.Calculated Y.Product (Y.NumberIn whole_i) (Y.NumberConstant 2))) 3) 3) (Y.EndOfList []))
    2)
    (Y.StmtThen [] (Y.Stop 4) (Y.EndOfList []))

-- a program without variables, whose main procedure's variables these statements name
abbrev no_program : Y.Program
no_program = record { variables = []; procedures = [] }

abbrev names : Names
names = main_names no_program 1

loop_proved : AreProvedStatements names (alone (Y.FixedLeaf 31) ∷ []) loop
loop_proved =
    let o : IsOwn names (alone (Y.FixedLeaf 31) ∷ []) (Y.FixedLeaf 31) whole_i = record { index = 0; declared = refl; is = refl } in
    let i : IsProvedNumber names (alone (Y.FixedLeaf 31) ∷ []) (Y.NumberIn whole_i) = (record { precision = 31; part = inl o }, tt) in (
      ((i, lit< tt), (((tt, (((inl o, tt), ((i, lit< tt), lit< tt)), lit< tt)), tt), lit< tt)),
      (lit< tt, tt),
    )

-- DO I = 1 TO 5; END;
abbrev count : Y.Stmts
count =
    Y.StmtThen []
    (Y.DoCount (Y.NumberCounter 31 whole_i) (Y.NumberValue 31 (Y.NumberConstant 1)) (Some (Y.NumberConstant 5)) (Y.NumberConstant 1) None (Y.EndOfList []) 2)
    (Y.EndOfList [])

count_proved : AreProvedStatements names (alone (Y.FixedLeaf 31) ∷ []) count
count_proved =
    let o : IsOwn names (alone (Y.FixedLeaf 31) ∷ []) (Y.FixedLeaf 31) whole_i = record { index = 0; declared = refl; is = refl } in
    let i : IsProvedNumber names (alone (Y.FixedLeaf 31) ∷ []) (Y.NumberIn whole_i) = (record { precision = 31; part = inl o }, tt) in
    ((((inl o, tt), lit< tt), ((lit< tt, lit< tt), (tt, (tt, lit< tt)))), tt)

-- DCL S FIXED BIN(15) INIT(-7), B BIT(1) INIT('1'B);
abbrev given_once : T.InitialValue → List T.InitialItem
given_once v = record { repetition = 1; value = v } ∷ []

begun_plain : ArePlain (plain_variable (Y.FixedLeaf 15) (given_once (T.InitialNumber (negsuc 6))) ∷ plain_variable Y.BitLeaf (given_once (T.InitialBit true)) ∷ [])
begun_plain = (
  record { type = Y.FixedLeaf 15; bounds = []; initial = given_once (T.InitialNumber (negsuc 6)); held = (omega arith, omega arith); begins = (lit< tt, (refl, tt)); is = refl },
  (record { type = Y.BitLeaf; bounds = []; initial = given_once (T.InitialBit true); held = tt; begins = (lit< tt, (tt, tt)); is = refl }, tt),
)

-- DCL J FIXED BIN(31) INIT((2) *, 5);
abbrev given_later : List T.InitialItem
given_later = record { repetition = 2; value = T.InitialSkip } ∷ record { repetition = 1; value = T.InitialNumber (pos 5) } ∷ []

later_plain : ArePlain (plain_variable (Y.FixedLeaf 31) given_later ∷ [])
later_plain = (
  record { type = Y.FixedLeaf 31; bounds = []; initial = given_later; held = (omega arith, omega arith); begins = (lit< tt, (tt, (lit< tt, (refl, tt)))); is = refl },
  tt,
)

-- DO I = '2' TO 5; END; DO I = '1'B BY 2; END;
abbrev starts : Y.Stmts
starts =
    Y.StmtThen []
    (Y.DoCount (Y.NumberCounter 31 whole_i) (Y.TextValue (Y.TextConstant (50 ∷ []))) (Some (Y.NumberConstant 5)) (Y.NumberConstant 1) None (Y.EndOfList []) 2)
    (Y.StmtThen []
    (Y.DoCount (Y.NumberCounter 31 whole_i) (Y.BitValue (Y.BitConstant true)) None (Y.NumberConstant 2) None (Y.EndOfList []) 3)
    (Y.EndOfList []))

starts_proved : AreProvedStatements names (alone (Y.FixedLeaf 31) ∷ []) starts
starts_proved =
    let o : IsOwn names (alone (Y.FixedLeaf 31) ∷ []) (Y.FixedLeaf 31) whole_i = record { index = 0; declared = refl; is = refl } in (
      (((inl o, tt), omega arith), ((lit< tt, lit< tt), (tt, (tt, lit< tt)))),
      ((((inl o, tt), tt), ((tt, lit< tt), (tt, (tt, lit< tt)))), tt),
    )

-- ON ZERODIVIDE SYSTEM; I = ONCODE(); REVERT ZERODIVIDE;
abbrev units : Y.Stmts
units =
    Y.StmtThen [] (Y.OnSystem C.ZeroDivide 2)
    (Y.StmtThen [] (Y.Assign whole_i (Y.StoredNumber 31 Y.OnCode) 3)
    (Y.StmtThen [] (Y.Revert C.ZeroDivide 4)
    (Y.EndOfList [])))

units_proved : AreProvedStatements names (alone (Y.FixedLeaf 31) ∷ []) units
units_proved =
    let o : IsOwn names (alone (Y.FixedLeaf 31) ∷ []) (Y.FixedLeaf 31) whole_i = record { index = 0; declared = refl; is = refl } in
    (lit< tt, (((inl o, tt), (tt, lit< tt)), (lit< tt, tt)))

-- B = S > 100; IF B THEN S = S * 2;
abbrev whole_of : ℕ → Y.Reference
whole_of index =
    Y.Referring (record { class = Y.AutomaticClass; block = 1; level = 0; index = index }) Y.NotLocated (record { first = 0; count = 1 }) Y.NoNumber

abbrev kinds : Y.Stmts
kinds =
    Y.StmtThen [] (Y.Assign (whole_of 1) (Y.StoredBit (Y.NumbersCompared Y.IsGreater (Y.NumberIn (whole_of 0)) (Y.NumberConstant 100))) 2)
    (Y.StmtThen [] (Y.If (Y.BitIn (whole_of 1)) (Y.Assign (whole_of 0) (Y.StoredNumber 15 (Y.Calculated Y.Product (Y.NumberIn (whole_of 0)) (Y.NumberConstant 2))) 3) 3)
    (Y.EndOfList []))

kinds_proved : AreProvedStatements names (alone (Y.FixedLeaf 15) ∷ alone Y.BitLeaf ∷ []) kinds
kinds_proved =
    let types : Types = alone (Y.FixedLeaf 15) ∷ alone Y.BitLeaf ∷ [] in
    let s : IsOwn names types (Y.FixedLeaf 15) (whole_of 0) = record { index = 0; declared = refl; is = refl } in
    let b : IsOwn names types Y.BitLeaf (whole_of 1) = record { index = 1; declared = refl; is = refl } in
    let n : IsProvedNumber names types (Y.NumberIn (whole_of 0)) = (record { precision = 15; part = inl s }, tt) in
    (((inl b, tt), ((n, lit< tt), lit< tt)), (((inl b, tt), (((inl s, tt), ((n, lit< tt), lit< tt)), lit< tt)), tt))

-- DCL C CHAR(5) INIT((2) *, 'X'), V CHAR(8) VARYING INIT((2) 'AB'), D CHAR(3), W CHAR(4) VARYING INIT('CD');
abbrev given_blank : List T.InitialItem
given_blank = record { repetition = 2; value = T.InitialSkip } ∷ record { repetition = 1; value = T.InitialText (88 ∷ []) } ∷ []

abbrev given_twice : List T.InitialItem
given_twice = record { repetition = 2; value = T.InitialText (65 ∷ 66 ∷ []) } ∷ []

texts_plain : ArePlain (plain_variable (text_leaf false 5) given_blank ∷ plain_variable (text_leaf true 8) given_twice ∷ plain_variable (text_leaf false 3) [] ∷ plain_variable (text_leaf true 4) (given_once (T.InitialText (67 ∷ 68 ∷ []))) ∷ [])
texts_plain = (
  record { type = text_leaf false 5; bounds = []; initial = given_blank; held = (omega arith, omega arith); begins = (lit< tt, (tt, (lit< tt, (omega arith, tt)))); is = refl },
  (
    record { type = text_leaf true 8; bounds = []; initial = given_twice; held = (omega arith, omega arith); begins = (lit< tt, (omega arith, tt)); is = refl },
    (
      record { type = text_leaf false 3; bounds = []; initial = []; held = (omega arith, omega arith); begins = tt; is = refl },
      (record { type = text_leaf true 4; bounds = []; initial = given_once (T.InitialText (67 ∷ 68 ∷ [])); held = (omega arith, omega arith); begins = (lit< tt, (omega arith, tt)); is = refl }, tt),
    ),
  ),
)

-- V = C || 'AB'; IF C = V THEN C = SUBSTR(V, LENGTH(C));
abbrev texts : Y.Stmts
texts =
    Y.StmtThen [] (Y.Assign (whole_of 1) (Y.StoredText (Y.Joined (Y.TextIn (whole_of 0)) (Y.TextConstant (65 ∷ 66 ∷ [])))) 2)
    (Y.StmtThen []
    (Y.If (Y.TextsCompared Y.IsEqual (Y.TextIn (whole_of 0)) (Y.TextIn (whole_of 1))) (Y.Assign (whole_of 0) (Y.StoredText (Y.SubstringFrom (Y.TextIn (whole_of 1)) (Y.LengthOf (Y.TextIn (whole_of 0))))) 3) 3)
    (Y.EndOfList []))

texts_proved : AreProvedStatements names (alone (text_leaf false 5) ∷ alone (text_leaf true 8) ∷ []) texts
texts_proved =
    let types : Types = alone (text_leaf false 5) ∷ alone (text_leaf true 8) ∷ [] in
    let c : IsAssignedText names types (whole_of 0) = (record { varying = false; most = 5; part = inl (record { index = 0; declared = refl; is = refl }) }, tt) in
    let v : IsAssignedText names types (whole_of 1) = (record { varying = true; most = 8; part = inl (record { index = 1; declared = refl; is = refl }) }, tt) in
    ((v, ((c, omega arith), lit< tt)), (((c, v), ((c, ((v, c), lit< tt)), lit< tt)), tt))

-- DCL A(3, -1:1) FIXED BIN(31) INIT((4) 7, *, -7), I FIXED BIN(31);
abbrev three : Bounds
three = record { lower = pos 1; upper = pos 3 }

abbrev around_zero : Bounds
around_zero = record { lower = negsuc 0; upper = pos 1 }

abbrev four_sevens : List T.InitialItem
four_sevens =
    record { repetition = 4; value = T.InitialNumber (pos 7) }
    ∷ record { repetition = 1; value = T.InitialSkip }
    ∷ record { repetition = 1; value = T.InitialNumber (negsuc 6) }
    ∷ []

array_plain : ArePlain (array_variable (Y.FixedLeaf 31) (three ∷ around_zero ∷ []) four_sevens ∷ plain_variable (Y.FixedLeaf 31) [] ∷ [])
array_plain = (
  record { type = Y.FixedLeaf 31; bounds = three ∷ around_zero ∷ []; initial = four_sevens; held = ((omega arith, omega arith), (((refl, (refl, refl)), ((refl, (refl, refl)), tt)), omega arith)); begins = (lit< tt, (refl, (lit< tt, (tt, (lit< tt, (refl, tt)))))); is = refl },
  (record { type = Y.FixedLeaf 31; bounds = []; initial = []; held = (omega arith, omega arith); begins = tt; is = refl }, tt),
)

-- A(A(1, I), LBOUND(A, 2)) = I;
abbrev element_at : Y.Number → Y.Number → Y.Reference
element_at i j =
    Y.Referring (record { class = Y.AutomaticClass; block = 1; level = 0; index = 0 }) Y.NotLocated (record { first = 0; count = 1 }) (Y.NumberThen i (Y.NumberThen j Y.NoNumber))

abbrev elements : Y.Stmts
elements =
    Y.StmtThen []
    (Y.Assign (element_at (Y.NumberIn (element_at (Y.NumberConstant 1) (Y.NumberIn (whole_of 1)))) (Y.LowerBound (whole_of 0) 2)) (Y.StoredNumber 31 (Y.NumberIn (whole_of 1))) 2)
    (Y.EndOfList [])

elements_proved : AreProvedStatements names (record { type = Y.FixedLeaf 31; bounds = three ∷ around_zero ∷ [] } ∷ alone (Y.FixedLeaf 31) ∷ []) elements
elements_proved =
    let types : Types = record { type = Y.FixedLeaf 31; bounds = three ∷ around_zero ∷ [] } ∷ alone (Y.FixedLeaf 31) ∷ [] in
    let o : IsOwn names types (Y.FixedLeaf 31) (whole_of 1) = record { index = 1; declared = refl; is = refl } in
    let n : IsProvedNumber names types (Y.NumberIn (whole_of 1)) = (record { precision = 31; part = inl o }, tt) in
    let at : (i j : Y.Number) → IsElement names types (Y.FixedLeaf 31) (element_at i j) = λ i j.
    record { index = 0; bound = three; bounds = around_zero ∷ []; first = i; rest = Y.NumberThen j Y.NoNumber; declared = refl; many = refl; is = refl } in
    let inner : IsProvedNumber names types (Y.NumberIn (element_at (Y.NumberConstant 1) (Y.NumberIn (whole_of 1)))) = (record { precision = 31; part = inr (at (Y.NumberConstant 1) (Y.NumberIn (whole_of 1))) }, (lit< tt, (n, tt))) in
    let lower : IsDimension names types (whole_of 0) 2 = record { index = 0; type = Y.FixedLeaf 31; held = (omega arith, omega arith); bound = three; bounds = around_zero ∷ []; declared = refl; place = 1; asked = around_zero; dimension_is = refl; among = refl; is = refl } in
    (((inr (at (Y.NumberIn (element_at (Y.NumberConstant 1) (Y.NumberIn (whole_of 1)))) (Y.LowerBound (whole_of 0) 2)), (inner, (lower, tt))), (n, lit< tt)), tt)

-- DO A(2, I) = 1 TO 5; I = 0; END;
abbrev element_counts : Y.Stmts
element_counts =
    Y.StmtThen []
    (Y.DoCount (Y.NumberCounter 31 (element_at (Y.NumberConstant 2) (Y.NumberIn (whole_of 1)))) (Y.NumberValue 31 (Y.NumberConstant 1)) (Some (Y.NumberConstant 5)) (Y.NumberConstant 1) None (Y.StmtThen [] (Y.Assign (whole_of 1) (Y.StoredNumber 31 (Y.NumberConstant 0)) 3) (Y.EndOfList [])) 2)
    (Y.EndOfList [])

element_counts_proved : AreProvedStatements names (record { type = Y.FixedLeaf 31; bounds = three ∷ around_zero ∷ [] } ∷ alone (Y.FixedLeaf 31) ∷ []) element_counts
element_counts_proved =
    let types : Types = record { type = Y.FixedLeaf 31; bounds = three ∷ around_zero ∷ [] } ∷ alone (Y.FixedLeaf 31) ∷ [] in
    let o : IsOwn names types (Y.FixedLeaf 31) (whole_of 1) = record { index = 1; declared = refl; is = refl } in
    let n : IsProvedNumber names types (Y.NumberIn (whole_of 1)) = (record { precision = 31; part = inl o }, tt) in
    let at : IsElement names types (Y.FixedLeaf 31) (element_at (Y.NumberConstant 2) (Y.NumberIn (whole_of 1))) =
    record { index = 0; bound = three; bounds = around_zero ∷ []; first = Y.NumberConstant 2; rest = Y.NumberThen (Y.NumberIn (whole_of 1)) Y.NoNumber; declared = refl; many = refl; is = refl } in
    ((((inr at, (lit< tt, (n, tt))), lit< tt), ((lit< tt, lit< tt), (tt, ((((inl o, tt), (lit< tt, lit< tt)), tt), lit< tt)))), tt)

-- L: DO WHILE ('1'B); IF '0'B THEN GOTO L; M: GOTO M; END;
abbrev jumping : Y.Stmts
jumping =
    Y.StmtThen ((76 ∷ []) ∷ [])
    (Y.DoWhile (Y.BitConstant true)
    (Y.StmtThen [] (Y.If (Y.BitConstant false) (Y.Goto 0 (76 ∷ []) 3) 3) (Y.StmtThen ((77 ∷ []) ∷ []) (Y.Goto 0 (77 ∷ []) 4) (Y.EndOfList [])))
    2)
    (Y.EndOfList [])

jumping_proved : AreProvedStatements names [] jumping
jumping_proved = ((tt, (((tt, (lit< tt, lit< tt)), (lit< tt, tt)), lit< tt)), tt)

jumps_around : AllJumpAround 1 0 (all_labels 1 jumping) (record { number = 1; level = 0 } ∷ []) (main_outer 1 []) [] (labels_in jumping) jumping
jumps_around = ((inl (refl, (refl, refl)), (inl (refl, (refl, refl)), tt)), tt)

-- BEGIN; L: BEGIN; GOTO L; END; END;
abbrev jumping_out : Y.Stmts
jumping_out =
    Y.StmtThen []
    (Y.Begin (Y.BlockOf (record { kind = Y.BeginBlock; number = 2; level = 1; line = 2 })
    (Y.StmtThen ((76 ∷ []) ∷ [])
    (Y.Begin (Y.BlockOf (record { kind = Y.BeginBlock; number = 3; level = 2; line = 3 }) (Y.StmtThen [] (Y.Goto 1 (76 ∷ []) 4) (Y.EndOfList []))))
    (Y.EndOfList []))))
    (Y.EndOfList [])

jumps_outward : AllJumpAround 1 0 (all_labels 1 jumping_out) (record { number = 1; level = 0 } ∷ record { number = 2; level = 1 } ∷ record { number = 3; level = 2 } ∷ []) (main_outer 1 []) [] (labels_in jumping_out) jumping_out
jumps_outward =
    (((refl, omega arith), (((refl, omega arith), (inr (inl (refl, (refl, (refl, refl)))), tt)), tt)), tt)

-- GOTO L in a procedure inside the main one, whose list has the label
abbrev jumping_away : Y.Stmts
jumping_away = Y.StmtThen [] (Y.Goto 0 (76 ∷ []) 3) (Y.EndOfList [])

jumps_away : AllJumpAround 2 1 ((1, 76 ∷ []) ∷ []) (record { number = 1; level = 0 } ∷ record { number = 2; level = 1 } ∷ []) (main_outer 1 []) (record { level = 0; number = 1; labels = (76 ∷ []) ∷ [] } ∷ []) [] jumping_away
jumps_away = (inr (inl (refl, (refl, (refl, refl)))), tt)

-- (X(1), 2 (COLUMN(3), F(5)), A)
abbrev page : T.Formats
page =
    T.FormatThen (record { line = 2; column = 1 }) 1 (T.SpaceFormat 1)
    (T.FormatThen (record { line = 2; column = 7 }) 2
    (T.FormatList (T.FormatThen (record { line = 2; column = 10 }) 1 (T.ColumnFormat 3) (T.FormatThen (record { line = 2; column = 21 }) 1 (T.FixedFormat 5) T.NoFormat)))
    (T.FormatThen (record { line = 2; column = 28 }) 1 (T.TextFormat None) T.NoFormat))

page_proved : AreProvedFormats page × HasData page
unfolding formats_move_data format_moves_data
page_proved =
    let once : IsTimes 1 = (omega arith, omega arith) in
    let own : AreProvedFormats (T.FormatThen (record { line = 2; column = 10 }) 1 (T.ColumnFormat 3) (T.FormatThen (record { line = 2; column = 21 }) 1 (T.FixedFormat 5) T.NoFormat)) =
    (once, ((omega arith, omega arith), (once, ((omega arith, omega arith), tt)))) in
    ((once, (once, ((omega arith, omega arith), ((own, tt), (once, (tt, tt)))))), refl)

-- PUT EDIT (SUBSTR('I IS' || 3, 2), 2, '1'B) by it
abbrev shown : List Y.PutPair
shown =
    record {
      items = Y.PutValue (Y.TextValue (Y.SubstringFrom (Y.Joined (Y.TextConstant (73 ∷ 32 ∷ 73 ∷ 83 ∷ [])) (Y.TextOfNumber 31 (Y.NumberConstant 3))) (Y.NumberConstant 2))) ∷ Y.PutValue (Y.NumberValue 31 (Y.NumberConstant 2)) ∷ Y.PutValue (Y.BitValue (Y.BitConstant true)) ∷ [];
      formats = page;
    }
    ∷ []

shown_proved : AreProvedPairs names [] shown
unfolding formats_move_data format_moves_data
shown_proved =
    let is = page_proved in
    ((((omega arith, ((omega arith, omega arith), lit< tt)), lit< tt), (lit< tt, (tt, tt))), ((is.0, (is.1, λ text. (tt, ((omega arith, omega arith), (tt, tt))))), tt))

-- IF '1'B THEN RETURN; RETURN;
abbrev returning : Y.Stmts
returning =
    Y.StmtThen [] (Y.If (Y.BitConstant true) (Y.Return 2) 2) (Y.StmtThen [] (Y.Return 3) (Y.EndOfList []))

returning_proved : AreProvedStatements names [] returning
returning_proved = ((tt, (lit< tt, lit< tt)), (lit< tt, tt))

-- GET EDIT (C, V) (F(5), A(3));
abbrev texts_read : Y.Stmts
texts_read =
    Y.StmtThen []
    (Y.Get None
    (record {
      items = Y.GetScalar (whole_of 0) ∷ Y.GetScalar (whole_of 1) ∷ [];
      formats = T.FormatThen (record { line = 2; column = 17 }) 1 (T.FixedFormat 5) (T.FormatThen (record { line = 2; column = 23 }) 1 (T.TextFormat (Some 3)) T.NoFormat);
    }
    ∷ [])
    2)
    (Y.EndOfList [])

texts_read_proved : AreProvedStatements names (alone (text_leaf false 5) ∷ alone (text_leaf true 8) ∷ []) texts_read
unfolding formats_move_data format_moves_data
texts_read_proved =
    let types : Types = alone (text_leaf false 5) ∷ alone (text_leaf true 8) ∷ [] in
    let c : IsTarget names types true (whole_of 0) = record { type = text_leaf false 5; part = inl (record { index = 0; declared = refl; is = refl }); read = tt; subscripts = tt } in
    let v : IsTarget names types true (whole_of 1) = record { type = text_leaf true 8; part = inl (record { index = 1; declared = refl; is = refl }); read = tt; subscripts = tt } in
    let once : IsTimes 1 = (omega arith, omega arith) in
    ((((c, (v, tt)), (((once, ((omega arith, omega arith), (once, ((omega arith, omega arith), tt)))), (refl, (tt, (tt, tt)))), tt)), lit< tt), tt)

-- GET SKIP(2) EDIT (B, S) (COLUMN(3), A(4)), (S) (2 (X(1), F(5)));
abbrev inner : T.Formats
inner =
    T.FormatThen (record { line = 2; column = 50 }) 1 (T.SpaceFormat 1) (T.FormatThen (record { line = 2; column = 56 }) 1 (T.FixedFormat 5) T.NoFormat)

abbrev reading : Y.Stmts
reading =
    Y.StmtThen []
    (Y.Get (Some 2)
    (record {
      items = Y.GetScalar (whole_of 1) ∷ Y.GetScalar (whole_of 0) ∷ [];
      formats = T.FormatThen (record { line = 2; column = 26 }) 1 (T.ColumnFormat 3) (T.FormatThen (record { line = 2; column = 37 }) 1 (T.TextFormat (Some 4)) T.NoFormat);
    }
    ∷ record { items = Y.GetScalar (whole_of 0) ∷ []; formats = T.FormatThen (record { line = 2; column = 48 }) 2 (T.FormatList inner) T.NoFormat }
    ∷ [])
    2)
    (Y.EndOfList [])

reading_proved : AreProvedStatements names (alone (Y.FixedLeaf 15) ∷ alone Y.BitLeaf ∷ []) reading
unfolding formats_move_data format_moves_data
reading_proved =
    let types : Types = alone (Y.FixedLeaf 15) ∷ alone Y.BitLeaf ∷ [] in
    let s : IsOwn names types (Y.FixedLeaf 15) (whole_of 0) = record { index = 0; declared = refl; is = refl } in
    let b : IsOwn names types Y.BitLeaf (whole_of 1) = record { index = 1; declared = refl; is = refl } in
    let once : IsTimes 1 = (omega arith, omega arith) in
    let number_read : (fixed : Bool) → IsTarget names types fixed (whole_of 0) = λ fixed. record { type = Y.FixedLeaf 15; part = inl s; read = tt; subscripts = tt } in
    let bit_read : IsTarget names types false (whole_of 1) = record { type = Y.BitLeaf; part = inl b; read = refl; subscripts = tt } in
    let line : AreProvedFormats inner = (once, (once, (once, ((omega arith, omega arith), tt)))) in (
      (
        (omega arith, omega arith),
        (
          (
            (bit_read, (number_read false, tt)),
            (
              ((once, ((omega arith, omega arith), (once, ((omega arith, omega arith), tt)))), (refl, (tt, (tt, tt)))),
              ((number_read true, tt), ((((omega arith, omega arith), ((line, tt), tt)), (refl, ((tt, (tt, tt)), tt))), tt)),
            ),
          ),
          lit< tt,
        ),
      ),
      tt,
    )

abbrev head : Y.BlockHead
head = record { kind = Y.ProcedureBlock; number = 1; level = 0; line = 1 }

abbrev program : Y.Program
program =
    record {
      variables = [] ∷ (plain_variable (Y.FixedLeaf 31) [] ∷ []) ∷ [];
      procedures = record { block = Y.BlockOf head body; parameters = []; result = None } ∷ [];
    }

small_program : IsProvedSoFar program
unfolding formats_move_data format_moves_data
small_program =
    let o : IsOwn (main_names program 1) (alone (Y.FixedLeaf 31) ∷ []) (Y.FixedLeaf 31) whole_i = record { index = 0; declared = refl; is = refl } in
    let i : IsProvedNumber (main_names program 1) (alone (Y.FixedLeaf 31) ∷ []) (Y.NumberIn whole_i) = (record { precision = 31; part = inl o }, tt) in
    record {
      head = head;
      body = body;
      others = [];
      called = [];
      procedures = refl;
      plain = (tt, ((record { type = Y.FixedLeaf 31; bounds = []; initial = []; held = (omega arith, omega arith); begins = tt; is = refl }, tt), tt));
      few = lit< tt;
      block = record {
        kind = refl;
        level = refl;
        line = lit< tt;
        statements = (
          ((inl o, tt), ((lit< tt, i), lit< tt)),
          (((((i, tt), ((((omega arith, omega arith), ((omega arith, omega arith), tt)), (refl, λ text. ((omega arith, omega arith), tt))), tt))), lit< tt), tt),
        );
        jumps = (tt, (tt, tt));
        calls = (tt, (tt, tt));
        few = omega arith;
      };
      inner = tt;
      once = tt;
    }

-- T: PROC OPTIONS(MAIN); DECLARE I FIXED BINARY(31);
-- N: BEGIN; I = 1; L: BEGIN; IF '0'B THEN GOTO M; IF '0'B THEN GOTO N; RETURN; M: END; END; END;
abbrev inner_head : Y.BlockHead
inner_head = record { kind = Y.BeginBlock; number = 2; level = 1; line = 2 }

abbrev innermost_head : Y.BlockHead
innermost_head = record { kind = Y.BeginBlock; number = 3; level = 2; line = 3 }

abbrev innermost_body : Y.Stmts
innermost_body =
    Y.StmtThen [] (Y.If (Y.BitConstant false) (Y.Goto 2 (77 ∷ []) 4) 4)
    (Y.StmtThen [] (Y.If (Y.BitConstant false) (Y.Goto 0 (78 ∷ []) 5) 5) (Y.StmtThen [] (Y.Return 6) (Y.EndOfList ((77 ∷ []) ∷ []))))

abbrev inner_body : Y.Stmts
inner_body =
    Y.StmtThen [] (Y.Assign whole_i (Y.StoredNumber 31 (Y.NumberConstant 1)) 2)
    (Y.StmtThen ((76 ∷ []) ∷ []) (Y.Begin (Y.BlockOf innermost_head innermost_body)) (Y.EndOfList []))

abbrev outer_body : Y.Stmts
outer_body = Y.StmtThen ((78 ∷ []) ∷ []) (Y.Begin (Y.BlockOf inner_head inner_body)) (Y.EndOfList [])

abbrev with_block : Y.Program
with_block =
    record {
      variables = [] ∷ (plain_variable (Y.FixedLeaf 31) [] ∷ []) ∷ [] ∷ [] ∷ [];
      procedures = record { block = Y.BlockOf head outer_body; parameters = []; result = None } ∷ [];
    }

block_program : IsProvedSoFar with_block
block_program =
    let i : IsOwn (main_names with_block 1) (alone (Y.FixedLeaf 31) ∷ []) (Y.FixedLeaf 31) whole_i = record { index = 0; declared = refl; is = refl } in
    record {
      head = head;
      body = outer_body;
      others = [];
      called = [];
      procedures = refl;
      plain = (tt, ((record { type = Y.FixedLeaf 31; bounds = []; initial = []; held = (omega arith, omega arith); begins = tt; is = refl }, tt), (tt, (tt, tt))));
      few = lit< tt;
      block = record {
        kind = refl;
        level = refl;
        line = lit< tt;
        statements = (
          (refl, (lit< tt, (((inl i, tt), (lit< tt, lit< tt)), ((refl, (lit< tt, ((tt, (lit< tt, lit< tt)), ((tt, (lit< tt, lit< tt)), (lit< tt, tt))))), tt)))),
          tt,
        );
        jumps = (((refl, omega arith), (tt, (((refl, omega arith), (inl (refl, (refl, refl)), (inr (inr (inl (refl, (refl, (refl, refl))))), (tt, tt)))), tt))), tt);
        calls = ((tt, ((tt, (tt, (refl, tt))), tt)), tt);
        few = omega arith;
      };
      inner = tt;
      once = tt;
    }

-- T: PROC OPTIONS(MAIN); DECLARE I FIXED BINARY(31); L: GOTO L; P: PROC; M: I = 1; RETURN; END; END;
abbrev resting_body : Y.Stmts
resting_body = Y.StmtThen ((76 ∷ []) ∷ []) (Y.Goto 0 (76 ∷ []) 2) (Y.EndOfList [])

abbrev procedure_head : Y.BlockHead
procedure_head = record { kind = Y.ProcedureBlock; number = 2; level = 1; line = 3 }

abbrev procedure_body : Y.Stmts
procedure_body =
    Y.StmtThen ((77 ∷ []) ∷ []) (Y.Assign whole_i (Y.StoredNumber 31 (Y.NumberConstant 1)) 3) (Y.StmtThen [] (Y.Return 3) (Y.EndOfList []))

abbrev with_procedure : Y.Program
with_procedure =
    record {
      variables = [] ∷ (plain_variable (Y.FixedLeaf 31) [] ∷ []) ∷ [] ∷ [];
      procedures =
          record { block = Y.BlockOf head resting_body; parameters = []; result = None }
          ∷ record { block = Y.BlockOf procedure_head procedure_body; parameters = []; result = None }
          ∷ [];
    }

procedure_program : IsProvedSoFar with_procedure
procedure_program =
    let i : IsOwn (main_names with_procedure 1) (alone (Y.FixedLeaf 31) ∷ []) (Y.FixedLeaf 31) whole_i = record { index = 0; declared = refl; is = refl } in
    record {
      head = head;
      body = resting_body;
      others = record { block = Y.BlockOf procedure_head procedure_body; parameters = []; result = None } ∷ [];
      called = [];
      procedures = refl;
      plain = (tt, ((record { type = Y.FixedLeaf 31; bounds = []; initial = []; held = (omega arith, omega arith); begins = tt; is = refl }, tt), (tt, tt)));
      few = lit< tt;
      block = record {
        kind = refl;
        level = refl;
        line = lit< tt;
        statements = (lit< tt, tt);
        jumps = (inl (refl, (refl, refl)), tt);
        calls = (tt, tt);
        few = omega arith;
      };
      inner = (
        record {
          head = procedure_head;
          body = procedure_body;
          is = refl;
          apart = refl;
          level = refl;
          statements = (((inl i, tt), (lit< tt, lit< tt)), (lit< tt, tt));
          jumps = (tt, (tt, tt));
          callable = λ h. let no : false ≡ true = h in absurd (cc no);
        },
        tt,
      );
      once = tt;
    }

-- T: PROC OPTIONS(MAIN); DECLARE I FIXED BINARY(31); CALL P; P: PROC; BEGIN; CALL P; RETURN; END; RETURN; END; END;
abbrev calling_body : Y.Stmts
calling_body = Y.StmtThen [] (Y.CallProcedure (Y.Calling 2 0 Y.NoArgument) 2) (Y.EndOfList [])

abbrev called_body : Y.Stmts
called_body =
    Y.StmtThen [] (Y.Begin (Y.BlockOf (record { kind = Y.BeginBlock; number = 3; level = 2; line = 3 }) (Y.StmtThen [] (Y.CallProcedure (Y.Calling 2 0 Y.NoArgument) 3) (Y.StmtThen [] (Y.Return 3) (Y.EndOfList [])))))
    (Y.StmtThen [] (Y.Return 3) (Y.EndOfList []))

abbrev with_call : Y.Program
with_call =
    record {
      variables = [] ∷ (plain_variable (Y.FixedLeaf 31) [] ∷ []) ∷ [] ∷ [] ∷ [];
      procedures =
          record { block = Y.BlockOf head calling_body; parameters = []; result = None }
          ∷ record { block = Y.BlockOf procedure_head called_body; parameters = []; result = None }
          ∷ [];
    }

call_program : IsProvedSoFar with_call
call_program =
    record {
      head = head;
      body = calling_body;
      others = record { block = Y.BlockOf procedure_head called_body; parameters = []; result = None } ∷ [];
      called = 2 ∷ [];
      procedures = refl;
      plain = (tt, ((record { type = Y.FixedLeaf 31; bounds = []; initial = []; held = (omega arith, omega arith); begins = tt; is = refl }, tt), (tt, (tt, tt))));
      few = lit< tt;
      block = record {
        kind = refl;
        level = refl;
        line = lit< tt;
        statements = ((refl, lit< tt), tt);
        jumps = (tt, tt);
        calls = ((omega arith, refl), tt);
        few = omega arith;
      };
      inner = (
        record {
          head = procedure_head;
          body = called_body;
          is = refl;
          apart = refl;
          level = refl;
          statements = ((refl, (lit< tt, ((refl, lit< tt), (lit< tt, tt)))), (lit< tt, tt));
          jumps = (((refl, omega arith), (tt, (tt, tt))), (tt, tt));
          callable = λ h. record { kind = refl; line = lit< tt; calls = (((omega arith, refl), (refl, tt)), (refl, tt)); few = omega arith };
        },
        tt,
      );
      once = (refl, tt);
    }

-- T: PROC OPTIONS(MAIN); DECLARE I FIXED BINARY(31);
-- ON AREA I = ONCODE(); SIGNAL AREA; ON AREA BEGIN; I = 1; REVERT AREA; END; SIGNAL AREA; END;
abbrev single_head : Y.BlockHead
single_head = record { kind = Y.SimpleUnit; number = 1; level = 1; line = 2 }

abbrev unit_head : Y.BlockHead
unit_head = record { kind = Y.UnitBlock; number = 2; level = 1; line = 4 }

abbrev unit_body : Y.Stmts
unit_body =
    Y.StmtThen [] (Y.Assign whole_i (Y.StoredNumber 31 (Y.NumberConstant 1)) 4) (Y.StmtThen [] (Y.Revert C.Area 4) (Y.EndOfList []))

abbrev raising_body : Y.Stmts
raising_body =
    Y.StmtThen [] (Y.OnUnit C.Area (Y.BlockOf single_head (Y.StmtThen [] (Y.Assign whole_i (Y.StoredNumber 31 Y.OnCode) 2) (Y.EndOfList []))) 2)
    (Y.StmtThen [] (Y.Signal C.Area 3)
    (Y.StmtThen [] (Y.OnUnit C.Area (Y.BlockOf unit_head unit_body) 4)
    (Y.StmtThen [] (Y.Signal C.Area 5)
    (Y.EndOfList []))))

abbrev with_units : Y.Program
with_units =
    record {
      variables = [] ∷ (plain_variable (Y.FixedLeaf 31) [] ∷ []) ∷ [] ∷ [];
      procedures = record { block = Y.BlockOf head raising_body; parameters = []; result = None } ∷ [];
    }

unit_program : IsProvedSoFar with_units
unit_program =
    let i : IsOwn (main_names with_units 1) (alone (Y.FixedLeaf 31) ∷ []) (Y.FixedLeaf 31) whole_i = record { index = 0; declared = refl; is = refl } in
    record {
      head = head;
      body = raising_body;
      others = [];
      called = [];
      procedures = refl;
      plain = (tt, ((record { type = Y.FixedLeaf 31; bounds = []; initial = []; held = (omega arith, omega arith); begins = tt; is = refl }, tt), (tt, tt)));
      few = lit< tt;
      block = record {
        kind = refl;
        level = refl;
        line = lit< tt;
        statements = (
          (tt, (tt, (lit< tt, (lit< tt, (((inl i, tt), (tt, lit< tt)), tt))))),
          (lit< tt, ((tt, (tt, (lit< tt, (lit< tt, (((inl i, tt), (lit< tt, lit< tt)), (lit< tt, tt)))))), (lit< tt, tt))),
        );
        jumps = ((refl, (refl, (tt, (tt, tt)))), (tt, ((refl, (refl, (refl, (tt, (tt, tt))))), (tt, tt))));
        calls = (((tt, tt), (omega arith, tt)), (omega arith, (((tt, (tt, tt)), (omega arith, refl)), (omega arith, tt))));
        few = omega arith;
      };
      inner = tt;
      once = tt;
    }

-- T: PROC OPTIONS(MAIN); DECLARE I FIXED BINARY(31); ON AREA BEGIN; CALL P; END; SIGNAL AREA; L: ; P: PROC; GOTO L; END; END;
-- the jump ends the procedure and the unit that calls it
abbrev leaving_head : Y.BlockHead
leaving_head = record { kind = Y.ProcedureBlock; number = 3; level = 1; line = 4 }

abbrev left_body : Y.Stmts
left_body =
    Y.StmtThen [] (Y.OnUnit C.Area (Y.BlockOf unit_head (Y.StmtThen [] (Y.CallProcedure (Y.Calling 3 0 Y.NoArgument) 2) (Y.EndOfList []))) 2)
    (Y.StmtThen [] (Y.Signal C.Area 3)
    (Y.StmtThen ((76 ∷ []) ∷ []) (Y.Null 3)
    (Y.EndOfList [])))

abbrev with_leaving : Y.Program
with_leaving =
    record {
      variables = [] ∷ (plain_variable (Y.FixedLeaf 31) [] ∷ []) ∷ [] ∷ [] ∷ [];
      procedures =
          record { block = Y.BlockOf head left_body; parameters = []; result = None }
          ∷ record { block = Y.BlockOf leaving_head jumping_away; parameters = []; result = None }
          ∷ [];
    }

leaving_program : IsProvedSoFar with_leaving
leaving_program =
    record {
      head = head;
      body = left_body;
      others = record { block = Y.BlockOf leaving_head jumping_away; parameters = []; result = None } ∷ [];
      called = 3 ∷ [];
      procedures = refl;
      plain = (tt, ((record { type = Y.FixedLeaf 31; bounds = []; initial = []; held = (omega arith, omega arith); begins = tt; is = refl }, tt), (tt, (tt, tt))));
      few = lit< tt;
      block = record {
        kind = refl;
        level = refl;
        line = lit< tt;
        statements = ((tt, (tt, (lit< tt, (lit< tt, ((refl, lit< tt), tt))))), (lit< tt, (lit< tt, tt)));
        jumps = ((refl, (refl, (refl, (tt, tt)))), (tt, (tt, tt)));
        calls = ((((omega arith, refl), tt), (omega arith, refl)), (omega arith, (tt, tt)));
        few = omega arith;
      };
      inner = (
        record {
          head = leaving_head;
          body = jumping_away;
          is = refl;
          apart = refl;
          level = refl;
          statements = (lit< tt, tt);
          jumps = (inr (inl (refl, (refl, (refl, refl)))), tt);
          callable = λ h. record { kind = refl; line = lit< tt; calls = (tt, tt); few = omega arith };
        },
        tt,
      );
      once = (refl, tt);
    }

-- ON AREA GOTO L; SIGNAL AREA; L: ON AREA BEGIN; GOTO M; END; SIGNAL AREA; M: END;
abbrev away_body : Y.Stmts
away_body =
    Y.StmtThen [] (Y.OnUnit C.Area (Y.BlockOf single_head (Y.StmtThen [] (Y.Goto 0 (76 ∷ []) 2) (Y.EndOfList []))) 2)
    (Y.StmtThen [] (Y.Signal C.Area 3)
    (Y.StmtThen ((76 ∷ []) ∷ []) (Y.OnUnit C.Area (Y.BlockOf unit_head (Y.StmtThen [] (Y.Goto 0 (77 ∷ []) 4) (Y.EndOfList []))) 4)
    (Y.StmtThen [] (Y.Signal C.Area 5)
    (Y.EndOfList ((77 ∷ []) ∷ [])))))

abbrev with_away : Y.Program
with_away =
    record {
      variables = [] ∷ [] ∷ [] ∷ [];
      procedures = record { block = Y.BlockOf head away_body; parameters = []; result = None } ∷ [];
    }

away_program : IsProvedSoFar with_away
away_program =
    record {
      head = head;
      body = away_body;
      others = [];
      called = [];
      procedures = refl;
      plain = (tt, (tt, (tt, tt)));
      few = lit< tt;
      block = record {
        kind = refl;
        level = refl;
        line = lit< tt;
        statements = (
          (tt, (tt, (lit< tt, (lit< tt, (lit< tt, tt))))),
          (lit< tt, ((tt, (tt, (lit< tt, (lit< tt, (lit< tt, tt))))), (lit< tt, tt))),
        );
        jumps = (
          (refl, (refl, (tt, (inr (inl (refl, (refl, (refl, refl)))), tt)))),
          (tt, ((refl, (refl, (refl, (inr (inl (refl, (refl, (refl, refl)))), tt)))), (tt, tt))),
        );
        calls = (((tt, tt), (omega arith, tt)), (omega arith, (((tt, tt), (omega arith, refl)), (omega arith, tt))));
        few = omega arith;
      };
      inner = tt;
      once = tt;
    }
