-- A program with blocks that declare scalars, one in the other, is one of those that are proved.
use Rattle.std.proofs.Common.{ℕ, List, [], ◌∷◌, None, refl, arith, lit<, inl, inr, true, false}
use Rattle.std.specs.Prelude.{negsuc}
use Rattle.pli_language.specs.Tree as T
use Rattle.pli_typing.specs.TypedTree as Y
use Rattle.pli_headline.specs.ProvedSoFar.{Names, Types, IsOwn, IsPartText, AreConstants, IsProvedNumber, IsPlain, IsProvedSoFar, main_names, names_in, alone, text_leaf, plain_variable}

-- T: PROC OPTIONS(MAIN); DECLARE I FIXED BINARY(31); BEGIN; DECLARE J FIXED BINARY(15) INITIAL(-7), B BIT(1) INITIAL('1'B); J = I;
-- BEGIN; DECLARE K FIXED BINARY(31) INITIAL(*), S CHARACTER(5) VARYING INITIAL('AB'); K = J; S = S || 'C'; I = K;
-- IF '0'B THEN GOTO L; END; END; L: END;
abbrev whole_at : (block level index : ℕ) → Y.Reference
whole_at block level index =
    Y.Referring (record { class = Y.AutomaticClass; block = block; level = level; index = index }) Y.NotLocated (record { first = 0; count = 1 }) Y.NoNumber

abbrev head : Y.BlockHead
head = record { kind = Y.ProcedureBlock; number = 1; level = 0; line = 1 }

abbrev inner_head : Y.BlockHead
inner_head = record { kind = Y.BeginBlock; number = 2; level = 1; line = 2 }

abbrev innermost_head : Y.BlockHead
innermost_head = record { kind = Y.BeginBlock; number = 3; level = 2; line = 3 }

abbrev innermost_body : Y.Stmts
innermost_body =
    Y.StmtThen [] (Y.Assign (whole_at 3 2 0) (Y.StoredNumber 31 (Y.NumberIn (whole_at 2 1 0))) 3)
    (Y.StmtThen [] (Y.Assign (whole_at 3 2 1) (Y.StoredText (Y.Joined (Y.TextIn (whole_at 3 2 1)) (Y.TextConstant (67 ∷ [])))) 3)
    (Y.StmtThen [] (Y.Assign (whole_at 1 0 0) (Y.StoredNumber 31 (Y.NumberIn (whole_at 3 2 0))) 4)
    (Y.StmtThen [] (Y.If (Y.BitConstant false) (Y.Goto 0 (76 ∷ []) 5) 5) (Y.EndOfList []))))

abbrev inner_body : Y.Stmts
inner_body =
    Y.StmtThen [] (Y.Assign (whole_at 2 1 0) (Y.StoredNumber 15 (Y.NumberIn (whole_at 1 0 0))) 2)
    (Y.StmtThen [] (Y.Begin (Y.BlockOf innermost_head innermost_body)) (Y.EndOfList []))

abbrev outer_body : Y.Stmts
outer_body = Y.StmtThen [] (Y.Begin (Y.BlockOf inner_head inner_body)) (Y.EndOfList ((76 ∷ []) ∷ []))

abbrev once : T.InitialValue → List T.InitialItem
once value = record { repetition = 1; value = value } ∷ []

abbrev seven : List T.InitialItem
seven = once (T.InitialNumber (negsuc 6))

abbrev one : List T.InitialItem
one = once (T.InitialBit true)

abbrev skipped : List T.InitialItem
skipped = once T.InitialSkip

abbrev letters : List T.InitialItem
letters = once (T.InitialText (65 ∷ 66 ∷ []))

abbrev inner_variables : List Y.DeclaredVariable
inner_variables = plain_variable (Y.FixedLeaf 15) seven ∷ plain_variable Y.BitLeaf one ∷ []

abbrev innermost_variables : List Y.DeclaredVariable
innermost_variables = plain_variable (Y.FixedLeaf 31) skipped ∷ plain_variable (text_leaf true 5) letters ∷ []

abbrev with_declarations : Y.Program
with_declarations =
    record {
      variables = [] ∷ (plain_variable (Y.FixedLeaf 31) [] ∷ []) ∷ inner_variables ∷ innermost_variables ∷ [];
      procedures = record { block = Y.BlockOf head outer_body; parameters = []; result = None } ∷ [];
    }

abbrev outer_types : Types
outer_types = alone (Y.FixedLeaf 31) ∷ []

abbrev inner_types : Types
inner_types = alone (Y.FixedLeaf 31) ∷ alone (Y.FixedLeaf 15) ∷ alone Y.BitLeaf ∷ []

abbrev innermost_types : Types
innermost_types = alone (Y.FixedLeaf 31) ∷ alone (Y.FixedLeaf 15) ∷ alone Y.BitLeaf ∷ alone (Y.FixedLeaf 31) ∷ alone (text_leaf true 5) ∷ []

abbrev inner_names : Names
inner_names = names_in (main_names with_declarations 1) outer_types inner_head inner_variables

abbrev innermost_names : Names
innermost_names = names_in inner_names inner_types innermost_head innermost_variables

declaring_program : IsProvedSoFar with_declarations
declaring_program =
    let i : IsOwn inner_names inner_types (Y.FixedLeaf 31) (whole_at 1 0 0) = record { index = 0; declared = refl; is = refl } in
    let j : IsOwn inner_names inner_types (Y.FixedLeaf 15) (whole_at 2 1 0) = record { index = 1; declared = refl; is = refl } in
    let i' : IsOwn innermost_names innermost_types (Y.FixedLeaf 31) (whole_at 1 0 0) = record { index = 0; declared = refl; is = refl } in
    let j' : IsOwn innermost_names innermost_types (Y.FixedLeaf 15) (whole_at 2 1 0) = record { index = 1; declared = refl; is = refl } in
    let k' : IsOwn innermost_names innermost_types (Y.FixedLeaf 31) (whole_at 3 2 0) = record { index = 3; declared = refl; is = refl } in
    let s' : IsOwn innermost_names innermost_types (text_leaf true 5) (whole_at 3 2 1) = record { index = 4; declared = refl; is = refl } in
    let text : IsPartText innermost_names innermost_types (whole_at 3 2 1) = record { varying = true; most = 5; part = inl s' } in
    let ni : IsProvedNumber inner_names inner_types (Y.NumberIn (whole_at 1 0 0)) = (record { precision = 31; part = inl i }, tt) in
    let nj : IsProvedNumber innermost_names innermost_types (Y.NumberIn (whole_at 2 1 0)) = (record { precision = 15; part = inl j' }, tt) in
    let nk : IsProvedNumber innermost_names innermost_types (Y.NumberIn (whole_at 3 2 0)) = (record { precision = 31; part = inl k' }, tt) in
    let long : IsPlain (plain_variable (Y.FixedLeaf 31) []) = record { type = Y.FixedLeaf 31; bounds = []; initial = []; held = (omega arith, omega arith); begins = tt; is = refl } in
    let minus : AreConstants (Y.FixedLeaf 15) seven = (lit< tt, (refl, tt)) in
    let set : AreConstants Y.BitLeaf one = (lit< tt, (tt, tt)) in
    let given : AreConstants (text_leaf true 5) letters = (lit< tt, (omega arith, tt)) in
    let none : AreConstants (Y.FixedLeaf 31) skipped = (lit< tt, (tt, tt)) in
    let short : IsPlain (plain_variable (Y.FixedLeaf 15) seven) = record { type = Y.FixedLeaf 15; bounds = []; initial = seven; held = (omega arith, omega arith); begins = minus; is = refl } in
    let bit : IsPlain (plain_variable Y.BitLeaf one) = record { type = Y.BitLeaf; bounds = []; initial = one; held = tt; begins = set; is = refl } in
    let inmost : IsPlain (plain_variable (Y.FixedLeaf 31) skipped) = record { type = Y.FixedLeaf 31; bounds = []; initial = skipped; held = (omega arith, omega arith); begins = none; is = refl } in
    let written : IsPlain (plain_variable (text_leaf true 5) letters) = record { type = text_leaf true 5; bounds = []; initial = letters; held = (omega arith, omega arith); begins = given; is = refl } in
    record {
      head = head;
      body = outer_body;
      others = [];
      called = [];
      procedures = refl;
      plain = (tt, ((long, tt), ((short, (bit, tt)), ((inmost, (written, tt)), tt))));
      few = lit< tt;
      block = record {
        kind = refl;
        level = refl;
        line = lit< tt;
        statements = (
          (refl, (lit< tt, (((inl j, tt), (ni, lit< tt)), ((refl, (lit< tt, (((inl k', tt), (nj, lit< tt)), (((text, tt), (((text, tt), omega arith), lit< tt)), (((inl i', tt), (nk, lit< tt)), ((tt, (lit< tt, lit< tt)), tt)))))), tt)))),
          tt,
        );
        jumps = (((refl, omega arith), (tt, (((refl, omega arith), (tt, (tt, (tt, (inr (inr (inl (refl, (refl, (refl, refl))))), tt))))), tt))), tt);
        calls = ((tt, ((tt, (tt, (tt, (tt, tt)))), tt)), tt);
        few = omega arith;
      };
      inner = tt;
      once = tt;
    }
