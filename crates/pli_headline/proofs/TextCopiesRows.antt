-- A program that assigns arrays of texts to others of other lengths, also in a BEGIN block, is one of those that are proved.
use Rattle.std.proofs.Common.{ℕ, List, [], ◌∷◌, None, refl, arith, lit<, inr, Bool, true, false, ◌≤◌}
use Rattle.std.specs.Prelude.{pos}
use Rattle.pli_typing.specs.Signatures.{Bounds}
use Rattle.pli_typing.specs.TypedTree as Y
use Rattle.pli_headline.specs.ProvedSoFar.{Names, Types, Kind, IsWhole, AreAlikeTexts, IsPlain, IsProvedSoFar, main_names, array_variable, text_leaf}

-- P: PROC OPTIONS(MAIN); DECLARE C(3) CHARACTER(5), D(3) CHARACTER(8), V(3) CHARACTER(8) VARYING, W(3) CHARACTER(2) VARYING;
-- C = D; BEGIN; W = V; END; D = D; END;
abbrev three : Bounds
three = record { lower = pos 1; upper = pos 3 }

abbrev texts : (varying : Bool) → (most : ℕ) → Y.DeclaredVariable
texts varying most = array_variable (text_leaf varying most) (three ∷ []) []

abbrev variables : List Y.DeclaredVariable
variables = texts false 5 ∷ texts false 8 ∷ texts true 8 ∷ texts true 2 ∷ []

abbrev variable : (index : ℕ) → Y.Reference
variable index =
    Y.Referring (record { class = Y.AutomaticClass; block = 1; level = 0; index = index }) Y.NotLocated (record { first = 0; count = 1 }) Y.NoNumber

abbrev inner_body : Y.Stmts
inner_body = Y.StmtThen [] (Y.AssignAggregate (variable 3) (variable 2) 2) (Y.EndOfList [])

abbrev inner_head : Y.BlockHead
inner_head = record { kind = Y.BeginBlock; number = 2; level = 1; line = 2 }

abbrev body : Y.Stmts
body =
    Y.StmtThen [] (Y.AssignAggregate (variable 0) (variable 1) 1)
    (Y.StmtThen [] (Y.Begin (Y.BlockOf inner_head inner_body))
    (Y.StmtThen [] (Y.AssignAggregate (variable 1) (variable 1) 3) (Y.EndOfList [])))

abbrev head : Y.BlockHead
head = record { kind = Y.ProcedureBlock; number = 1; level = 0; line = 1 }

abbrev with_text_copies : Y.Program
with_text_copies =
    record {
      variables = [] ∷ variables ∷ [] ∷ [];
      procedures = record { block = Y.BlockOf head body; parameters = []; result = None } ∷ [];
    }

abbrev names : Names
names = main_names with_text_copies 1

abbrev kind : (varying : Bool) → (most : ℕ) → Kind
kind varying most = record { type = text_leaf varying most; bounds = three ∷ [] }

abbrev types : Types
types = kind false 5 ∷ kind false 8 ∷ kind true 8 ∷ kind true 2 ∷ []

abbrev short : IsWhole names types (text_leaf false 5) (variable 0)
short = record { index = 0; outermost = refl; bound = three; bounds = []; declared = refl; is = refl }

abbrev long : IsWhole names types (text_leaf false 8) (variable 1)
long = record { index = 1; outermost = refl; bound = three; bounds = []; declared = refl; is = refl }

abbrev more : IsWhole names types (text_leaf true 8) (variable 2)
more = record { index = 2; outermost = refl; bound = three; bounds = []; declared = refl; is = refl }

abbrev fewer : IsWhole names types (text_leaf true 2) (variable 3)
fewer = record { index = 3; outermost = refl; bound = three; bounds = []; declared = refl; is = refl }

plain_texts : (varying : Bool) (most : ℕ) → 1 ≤ most → most ≤ 1024 → IsPlain (texts varying most)
plain_texts false most some few =
    record { type = text_leaf false most; bounds = three ∷ []; initial = []; held = ((some, few), (((refl, (refl, refl)), tt), omega arith)); begins = tt; is = refl }
plain_texts true most some few =
    record { type = text_leaf true most; bounds = three ∷ []; initial = []; held = ((some, few), (((refl, (refl, refl)), tt), omega arith)); begins = tt; is = refl }

text_copies_program : IsProvedSoFar with_text_copies
text_copies_program =
    let a = plain_texts false 5 (omega arith) (omega arith) in
    let b = plain_texts false 8 (omega arith) (omega arith) in
    let c = plain_texts true 8 (omega arith) (omega arith) in
    let d = plain_texts true 2 (omega arith) (omega arith) in
    let one : AreAlikeTexts names types (variable 0) (variable 1) = record { varying = false; most = 5; other = 8; target_is = short; source_is = long; alike = refl } in
    let other : AreAlikeTexts names types (variable 3) (variable 2) = record { varying = true; most = 2; other = 8; target_is = fewer; source_is = more; alike = refl } in
    let itself : AreAlikeTexts names types (variable 1) (variable 1) = record { varying = false; most = 8; other = 8; target_is = long; source_is = long; alike = refl } in
    record {
      head = head;
      body = body;
      others = [];
      called = [];
      procedures = refl;
      plain = (tt, ((a, (b, (c, (d, tt)))), (tt, tt)));
      few = lit< tt;
      block = record {
        kind = refl;
        level = refl;
        line = lit< tt;
        statements = ((inr one, lit< tt), ((refl, (lit< tt, ((inr other, lit< tt), tt))), ((inr itself, lit< tt), tt)));
        jumps = (tt, (((refl, omega arith), (tt, tt)), (tt, tt)));
        calls = (tt, ((tt, tt), (tt, tt)));
        few = omega arith;
      };
      inner = tt;
      once = tt;
    }
