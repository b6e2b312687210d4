-- The forms of the first path's programs are among those for which the headline is proved.
use Rattle.std.proofs.Common.{◌≡◌, ℕ, zero, suc, ◌<◌, List, [], ◌∷◌, length, Some, None, true, refl, sym, ap, ◌∙◌, subst, arith, unwrap_or, inl, ◌++◌, ◌≤◌}
use Rattle.std.specs.Prelude.{max, slice_get}
use Rattle.pli_typing.specs.TypedTree as Y
use Rattle.pli_meaning.specs.Control.{Label}
use Rattle.pli_meaning.specs.DeclaredShapes.{variables_of_block}
use Rattle.std.specs.List.{flat_map}
use Rattle.pli_coding.specs.Environments.{BlockPlace}
use Rattle.pli_coding.specs.SignatureTable.{signature_of, with_signature, with_signatures}
use Rattle.pli_coding.specs.Streams.{has_text}
use Rattle.pli_headline.specs.ProvedSoFar.{IsPlain, ArePlain, AllPlain, Types, types_of, IsOwn, HavePrecisions, IsProvedNumber, IsProvedItem, AreProvedItems, AreProvedPairs, IsProvedStatement, AreProvedStatements, OuterBlock, JumpsAround, AllJumpAround, IsProvedSoFar, alone, AreSubscripts, declared_kind, CallsAmong, AllCallAmong, main_names, bytes_in, inner_bytes}
use Rattle.pli_headline.proofs.FormatData.{true_false}
use Rattle.pli_headline.specs.FirstForms.{plain_number, AreNumbers, AllNumbers, IsFirstReference, IsFirstNumber, IsFirstItem, AreFirstItems, AreFirstPairs, IsFirstStatement, AreFirstStatements, IsFirstProgram}

-- ---- declarations

number_plain : (d : Y.DeclaredVariable) → d ≡ plain_number → IsPlain d
number_plain d e = record { type = Y.FixedLeaf 31; bounds = []; initial = []; held = (omega arith, omega arith); begins = tt; is = e }

pub numbers_plain : (ds : List Y.DeclaredVariable) → AreNumbers ds → ArePlain ds
numbers_plain [] are = tt
numbers_plain (d ∷ ds) are = (number_plain d are.0, numbers_plain ds are.1)

pub all_numbers_plain : (rows : List (List Y.DeclaredVariable)) → AllNumbers rows → AllPlain rows
all_numbers_plain [] all = tt
all_numbers_plain (ds ∷ rest) all = (numbers_plain ds all.0, all_numbers_plain rest all.1)

pub number_at : (ds : List Y.DeclaredVariable) (j : ℕ) → AreNumbers ds → j < length ds → slice_get ds j ≡ Some plain_number
number_at [] j are below = absurd (omega (arith, below))
number_at (d ∷ ds) zero are below = ap Some are.0
number_at (d ∷ ds) (suc j) are below = number_at ds j are.1 (omega (arith, below))

pub block_numbers : (rows : List (List Y.DeclaredVariable)) (block : ℕ) → AllNumbers rows → AreNumbers (unwrap_or (slice_get rows block) [])
block_numbers [] block all = tt
block_numbers (ds ∷ rest) zero all = all.0
block_numbers (ds ∷ rest) (suc block) all = block_numbers rest block all.1

-- they have one signature
numbers_append : (ds es : List Y.DeclaredVariable) → AreNumbers ds → AreNumbers es → AreNumbers (ds ++ es)
numbers_append [] es are more = more
numbers_append (d ∷ ds) es are more = (are.0, numbers_append ds es are.1 more)

pub flat_numbers : (rows : List (List Y.DeclaredVariable)) → AllNumbers rows → AreNumbers (flat_map (λ ds. ds) rows)
flat_numbers [] all = tt
flat_numbers (ds ∷ rest) all = numbers_append ds (flat_map (λ es. es) rest) all.0 (flat_numbers rest all.1)

stays_one : (ds : List Y.DeclaredVariable) → AreNumbers ds → length (with_signatures ds (signature_of plain_number ∷ [])) ≤ 1
stays_one [] are = omega arith
stays_one (d ∷ ds) are =
    let T : Y.DeclaredVariable → Type 0 = λ u. length (with_signatures ds (with_signature (signature_of u) (signature_of plain_number ∷ []))) ≤ 1 in
    subst T (sym are.0) (stays_one ds are.1)

pub one_signature : (ds : List Y.DeclaredVariable) → AreNumbers ds → length (with_signatures ds []) ≤ 1
one_signature [] are = omega arith
one_signature (d ∷ ds) are =
    subst (λ u. length (with_signatures ds (signature_of u ∷ [])) ≤ 1) (sym are.0) (stays_one ds are.1)

-- so many variables of FIXED BINARY(31)
abbrev pub Hold : (count : ℕ) → Types → Type 0
Hold count types = (j : ℕ) → j < count → slice_get types j ≡ Some (alone (Y.FixedLeaf 31))

pub numbers_typed : (ds : List Y.DeclaredVariable) → AreNumbers ds → Hold (length ds) (types_of ds)
numbers_typed [] are j below = absurd (omega (arith, below))
numbers_typed (d ∷ ds) are zero below = ap (λ u. Some (declared_kind u)) are.0
numbers_typed (d ∷ ds) are (suc j) below = numbers_typed ds are.1 j (omega (arith, below))

-- ---- forms

own_wider : (program : Y.Program) (block count : ℕ) (types : Types) (r : Y.Reference) → Hold count types → IsFirstReference block count r → IsOwn (main_names program block) types (Y.FixedLeaf 31) r
own_wider program block count types r all h = record { index = h.index; declared = all h.index h.declared; is = h.is }

-- without subscripts
none_given : (program : Y.Program) (block count : ℕ) (types : Types) (r : Y.Reference) → IsFirstReference block count r → AreSubscripts (main_names program block) types r
none_given program block count types r h = subst (AreSubscripts (main_names program block) types) (sym h.is) tt

number_wider : (program : Y.Program) (block count : ℕ) (types : Types) (x : Y.Number) → Hold count types → IsFirstNumber block count x → IsProvedNumber (main_names program block) types x
number_wider program block count types (Y.NumberConstant n) all h = h
number_wider program block count types (Y.NumberIn (Y.Referring v locator part subscripts)) all h =
    let r = Y.Referring v locator part subscripts in
    (record { precision = 31; part = inl (own_wider program block count types r all h) }, none_given program block count types r h)
number_wider program block count types (Y.Signed sign x) all h = number_wider program block count types x all h
number_wider program block count types (Y.Calculated operator left right) all h = (number_wider program block count types left all h.1.0, number_wider program block count types right all h.1.1)
number_wider program block count types _ all h = absurd h

item_wider : (program : Y.Program) (block count : ℕ) (types : Types) (i : Y.PutItem) → Hold count types → IsFirstItem block count i → IsProvedItem (main_names program block) types i
item_wider program block count types (Y.PutValue (Y.NumberValue precision x)) all h = number_wider program block count types x all h
item_wider program block count types _ all h = absurd h

items_wider : (program : Y.Program) (block count : ℕ) (types : Types) (items : List Y.PutItem) → Hold count types → AreFirstItems block count items → AreProvedItems (main_names program block) types items
items_wider program block count types [] all h = tt
items_wider program block count types (i ∷ is) all h = (item_wider program block count types i all h.0, items_wider program block count types is all h.1)

pairs_wider : (program : Y.Program) (block count : ℕ) (types : Types) (pairs : List Y.PutPair) → Hold count types → AreFirstPairs block count pairs → AreProvedPairs (main_names program block) types pairs
pairs_wider program block count types [] all h = tt
pairs_wider program block count types (p ∷ ps) all h =
    let formats = h.1.0 in
    let none : has_text p.formats ≡ true → HavePrecisions p.items = λ some. true_false (has_text p.formats) some formats.1.1 in
    (items_wider program block count types p.items all h.0, ((formats.0, (formats.1.0, none)), pairs_wider program block count types ps all h.1.1))

statement_wider : (program : Y.Program) (block count : ℕ) (types : Types) (x : Y.Stmt) → Hold count types → IsFirstStatement block count x → IsProvedStatement (main_names program block) types x
statement_wider program block count types (Y.Null line) all h = h
statement_wider program block count types (Y.Assign target (Y.StoredNumber precision x) line) all h = ((inl (subst (λ p. IsOwn (main_names program block) types (Y.FixedLeaf p) target) (sym h.0) (own_wider program block count types target all h.1.0)), none_given program block count types target h.1.0), (number_wider program block count types x all h.1.1.0, h.1.1.1))
statement_wider program block count types (Y.Put None pairs line) all h = (pairs_wider program block count types pairs all h.0, h.1)
statement_wider program block count types _ all h = absurd h

pub statements_wider : (program : Y.Program) (block count : ℕ) (types : Types) (body : Y.Stmts) → Hold count types → AreFirstStatements block count body → AreProvedStatements (main_names program block) types body
statements_wider program block count types (Y.EndOfList labels) all h = tt
statements_wider program block count types (Y.StmtThen labels first rest) all h = (statement_wider program block count types first all h.0, statements_wider program block count types rest all h.1)

-- none of them jumps
statement_stays : (block count number level : ℕ) (all : List (ℕ × Label)) (blocks : List BlockPlace) (main : OuterBlock) (outer : List OuterBlock) (around : List Label) (x : Y.Stmt) → IsFirstStatement block count x → JumpsAround number level all blocks main outer around x
statement_stays block count number level all blocks main outer around (Y.Null line) h = tt
statement_stays block count number level all blocks main outer around (Y.Assign target (Y.StoredNumber precision x) line) h = tt
statement_stays block count number level all blocks main outer around (Y.Put None pairs line) h = tt
statement_stays block count number level all blocks main outer around _ h = absurd h

pub statements_stay : (block count number level : ℕ) (all : List (ℕ × Label)) (blocks : List BlockPlace) (main : OuterBlock) (outer : List OuterBlock) (around : List Label) (body : Y.Stmts) → AreFirstStatements block count body → AllJumpAround number level all blocks main outer around body
statements_stay block count number level all blocks main outer around (Y.EndOfList labels) h = tt
statements_stay block count number level all blocks main outer around (Y.StmtThen labels first rest) h =
    (statement_stays block count number level all blocks main outer around first h.0, statements_stay block count number level all blocks main outer around rest h.1)

-- nor calls
statement_calls : (program : Y.Program) (block count : ℕ) (may : List ℕ) (x : Y.Stmt) → IsFirstStatement block count x → CallsAmong program may true 0 x
statement_calls program block count may (Y.Null line) h = tt
statement_calls program block count may (Y.Assign target (Y.StoredNumber precision x) line) h = tt
statement_calls program block count may (Y.Put None pairs line) h = tt
statement_calls program block count may _ h = absurd h

pub statements_call : (program : Y.Program) (block count : ℕ) (may : List ℕ) (body : Y.Stmts) → AreFirstStatements block count body → AllCallAmong program may true 0 body
statements_call program block count may (Y.EndOfList labels) h = tt
statements_call program block count may (Y.StmtThen labels first rest) h =
    (statement_calls program block count may first h.0, statements_call program block count may rest h.1)

-- and none is a block
statement_few : (block count : ℕ) (program : Y.Program) (x : Y.Stmt) → IsFirstStatement block count x → bytes_in program x ≡ 0
statement_few block count program (Y.Null line) h = refl
statement_few block count program (Y.Assign target (Y.StoredNumber precision x) line) h = refl
statement_few block count program (Y.Put None pairs line) h = refl
statement_few block count program _ h = absurd h

pub statements_few : (block count : ℕ) (program : Y.Program) (body : Y.Stmts) → AreFirstStatements block count body → inner_bytes program body ≡ 0
statements_few block count program (Y.EndOfList labels) h = refl
statements_few block count program (Y.StmtThen labels first rest) h =
    ap (λ n. max n (inner_bytes program rest)) (statement_few block count program first h.0)
    ∙ ap (λ n. max 0 n) (statements_few block count program rest h.1)

abbrev pub program_wider : (program : Y.Program) → IsFirstProgram program → IsProvedSoFar program
program_wider program is =
    record {
      head = is.head;
      body = is.body;
      others = [];
      called = [];
      procedures = is.alone;
      plain = all_numbers_plain program.variables is.plain;
      few = let one = one_signature (flat_map (λ ds. ds) program.variables) (flat_numbers program.variables is.plain) in omega (arith, one);
      block = record {
        kind = is.block.kind;
        level = is.block.level;
        line = is.block.line;
        statements = statements_wider program is.head.number (length (variables_of_block program is.head.number)) (types_of (variables_of_block program is.head.number)) is.body (numbers_typed (variables_of_block program is.head.number) (block_numbers program.variables is.head.number is.plain)) is.block.statements;
        jumps = statements_stay _ _ _ _ _ _ _ _ _ is.body is.block.statements;
        calls = statements_call program _ _ [] is.body is.block.statements;
        few = (let none = statements_few _ _ program is.body is.block.statements in omega (arith, none));
      };
      inner = tt;
      once = tt;
    }
