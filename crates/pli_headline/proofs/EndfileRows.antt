-- A program with units for ENDFILE, which GET raises in its own block and in one inside it, and SIGNAL, is one of those that are proved.
use Rattle.std.proofs.Common.{ℕ, List, [], ◌∷◌, None, Some, true, false, refl, arith, lit<, inl, inr}
use Rattle.pli_language.specs.Tree as T
use Rattle.pli_language.specs.Formats.{formats_move_data, format_moves_data}
use Rattle.pli_language.specs.declared.condition.Condition.TheVariants as C
use Rattle.pli_typing.specs.TypedTree as Y
use Rattle.pli_headline.specs.ProvedSoFar.{Names, Types, IsOwn, IsTarget, IsTimes, IsWidth, IsProvedNumber, IsProvedSoFar, main_names, names_in, alone, plain_variable}

-- T: PROC OPTIONS(MAIN); DECLARE I FIXED BINARY(31), MORE BIT(1) INITIAL('1'B); ON ENDFILE MORE = '0'B; GET EDIT (I) (F(5));
-- DO WHILE (MORE); PUT EDIT (I) (F(8)); GET EDIT (I) (F(5)); END;
-- ON ENDFILE BEGIN; I = ONCODE(); GOTO DONE; END;
-- BEGIN; DECLARE J FIXED BINARY(15); GET SKIP(1) EDIT (J) (F(5)); END; SIGNAL ENDFILE; DONE: END;
abbrev whole_at : (block level index : ℕ) → Y.Reference
whole_at block level index =
    Y.Referring (record { class = Y.AutomaticClass; block = block; level = level; index = index }) Y.NotLocated (record { first = 0; count = 1 }) Y.NoNumber

abbrev fixed_list : (width : ℕ) → T.Formats
fixed_list width = T.FormatThen (record { line = 2; column = 20 }) 1 (T.FixedFormat width) T.NoFormat

abbrev got : Y.Reference → List Y.GetPair
got r = record { items = Y.GetScalar r ∷ []; formats = fixed_list 5 } ∷ []

abbrev shown : List Y.PutPair
shown = record { items = Y.PutValue (Y.NumberValue 31 (Y.NumberIn (whole_at 1 0 0))) ∷ []; formats = fixed_list 8 } ∷ []

abbrev done_label : List ℕ
done_label = 68 ∷ 79 ∷ 78 ∷ 69 ∷ []

abbrev head : Y.BlockHead
head = record { kind = Y.ProcedureBlock; number = 1; level = 0; line = 1 }

abbrev single_head : Y.BlockHead
single_head = record { kind = Y.SimpleUnit; number = 1; level = 1; line = 2 }

abbrev unit_head : Y.BlockHead
unit_head = record { kind = Y.UnitBlock; number = 2; level = 1; line = 7 }

abbrev inner_head : Y.BlockHead
inner_head = record { kind = Y.BeginBlock; number = 3; level = 1; line = 8 }

abbrev single : Y.Stmts
single = Y.StmtThen [] (Y.Assign (whole_at 1 0 1) (Y.StoredBit (Y.BitConstant false)) 2) (Y.EndOfList [])

abbrev loop_body : Y.Stmts
loop_body = Y.StmtThen [] (Y.Put None shown 5) (Y.StmtThen [] (Y.Get None (got (whole_at 1 0 0)) 6) (Y.EndOfList []))

abbrev unit_body : Y.Stmts
unit_body =
    Y.StmtThen [] (Y.Assign (whole_at 1 0 0) (Y.StoredNumber 31 Y.OnCode) 7) (Y.StmtThen [] (Y.Goto 0 done_label 7) (Y.EndOfList []))

abbrev inner_body : Y.Stmts
inner_body = Y.StmtThen [] (Y.Get (Some 1) (got (whole_at 3 1 0)) 8) (Y.EndOfList [])

abbrev body : Y.Stmts
body =
    Y.StmtThen [] (Y.OnUnit C.Endfile (Y.BlockOf single_head single) 2)
    (Y.StmtThen [] (Y.Get None (got (whole_at 1 0 0)) 3)
    (Y.StmtThen [] (Y.DoWhile (Y.BitIn (whole_at 1 0 1)) loop_body 4)
    (Y.StmtThen [] (Y.OnUnit C.Endfile (Y.BlockOf unit_head unit_body) 7)
    (Y.StmtThen [] (Y.Begin (Y.BlockOf inner_head inner_body))
    (Y.StmtThen [] (Y.Signal C.Endfile 9)
    (Y.EndOfList (done_label ∷ [])))))))

abbrev with_end : Y.Program
with_end =
    record {
      variables =
          []
          ∷ (plain_variable (Y.FixedLeaf 31) [] ∷ plain_variable Y.BitLeaf (record { repetition = 1; value = T.InitialBit true } ∷ []) ∷ [])
          ∷ []
          ∷ (plain_variable (Y.FixedLeaf 15) [] ∷ [])
          ∷ [];
      procedures = record { block = Y.BlockOf head body; parameters = []; result = None } ∷ [];
    }

abbrev outers : Types
outers = alone (Y.FixedLeaf 31) ∷ alone Y.BitLeaf ∷ []

end_program : IsProvedSoFar with_end
unfolding formats_move_data format_moves_data
end_program =
    let names = main_names with_end 1 in
    let inner : Names = names_in names outers inner_head (plain_variable (Y.FixedLeaf 15) [] ∷ []) in
    let inners : Types = alone (Y.FixedLeaf 31) ∷ alone Y.BitLeaf ∷ alone (Y.FixedLeaf 15) ∷ [] in
    let once : IsTimes 1 = (omega arith, omega arith) in
    let wide : IsWidth 5 = (omega arith, omega arith) in
    let i : IsOwn names outers (Y.FixedLeaf 31) (whole_at 1 0 0) = record { index = 0; declared = refl; is = refl } in
    let more : IsOwn names outers Y.BitLeaf (whole_at 1 0 1) = record { index = 1; declared = refl; is = refl } in
    let j : IsOwn inner inners (Y.FixedLeaf 15) (whole_at 3 1 0) = record { index = 2; declared = refl; is = refl } in
    let ni : IsProvedNumber names outers (Y.NumberIn (whole_at 1 0 0)) = (record { precision = 31; part = inl i }, tt) in
    let i_read : IsTarget names outers true (whole_at 1 0 0) = record { type = Y.FixedLeaf 31; part = inl i; read = tt; subscripts = tt } in
    let j_read : IsTarget inner inners true (whole_at 3 1 0) = record { type = Y.FixedLeaf 15; part = inl j; read = tt; subscripts = tt } in
    record {
      head = head;
      body = body;
      others = [];
      called = [];
      procedures = refl;
      plain = (
        tt,
        (
          (
            record { type = Y.FixedLeaf 31; bounds = []; initial = []; held = (omega arith, omega arith); begins = tt; is = refl },
            (record { type = Y.BitLeaf; bounds = []; initial = _; held = tt; begins = (lit< tt, (tt, tt)); is = refl }, tt),
          ),
          (tt, ((record { type = Y.FixedLeaf 15; bounds = []; initial = []; held = (omega arith, omega arith); begins = tt; is = refl }, tt), tt)),
        ),
      );
      few = lit< tt;
      block = record {
        kind = refl;
        level = refl;
        line = lit< tt;
        statements = (
          (refl, (tt, (lit< tt, (lit< tt, (((inl more, tt), (tt, lit< tt)), tt))))),
          (
            (((i_read, tt), (((once, (wide, tt)), (refl, (tt, tt))), tt)), lit< tt),
            (
              (
                (inl more, tt),
                (
                  (
                    (((ni, tt), (((once, ((omega arith, omega arith), tt)), (refl, λ text. ((omega arith, omega arith), tt))), tt)), lit< tt),
                    ((((i_read, tt), (((once, (wide, tt)), (refl, (tt, tt))), tt)), lit< tt), tt),
                  ),
                  lit< tt,
                ),
              ),
              (
                (refl, (tt, (lit< tt, (lit< tt, (((inl i, tt), (tt, lit< tt)), (lit< tt, tt)))))),
                (
                  (refl, (lit< tt, ((once, (((j_read, tt), (((once, (wide, tt)), (refl, (tt, tt))), tt)), lit< tt)), tt))),
                  (lit< tt, tt),
                ),
              ),
            ),
          ),
        );
        jumps = (
          (refl, (refl, (tt, (tt, tt)))),
          (tt, ((tt, (tt, tt)), ((refl, (refl, (refl, (tt, (inr (inl (refl, (refl, (refl, refl)))), tt))))), (((refl, omega arith), (tt, tt)), (tt, tt))))),
        );
        calls = (
          ((tt, tt), (omega arith, tt)),
          (inr (omega arith), ((tt, (inr (omega arith), tt)), (((tt, (tt, tt)), (omega arith, refl)), ((inr (omega arith), tt), (inr (omega arith), tt))))),
        );
        few = omega arith;
      };
      inner = tt;
      once = tt;
    }
