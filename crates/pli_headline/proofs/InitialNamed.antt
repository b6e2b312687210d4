-- The variables of a program that is proved begin with what INITIAL gives: their code names it, and service 7 reads it.
use Rattle.std.proofs.Common.{◌≡◌, ℕ, zero, suc, ◌+◌, ◌<◌, inr, List, [], ◌∷◌, ◌++◌, length, Option, Some, None, refl}
use Rattle.std.proofs.Common.{sym, subst, arith, ◌^◌}
use Rattle.pli_typing.specs.TypedTree as Y
use Rattle.pli_meaning.specs.DeclaredShapes.{variables_of_block}
use Rattle.pli_meaning.specs.Pictures.{first_bytes}
use Rattle.pli_coding.specs.Assembly.{Datum, Code}
use Rattle.pli_coding.specs.Environments.{none_taken}
use Rattle.pli_coding.specs.Frames.{automatic_place}
use Rattle.pli_coding.specs.SignatureTable.{table_of}
use Rattle.pli_coding.specs.Allocating.{act_code}
use Rattle.pli_coding.specs.Entries.{frame_begun, variables_made, variables_code}
use Rattle.pli_coding.specs.Statements.{block_words, stmts_code, block_held}
use Rattle.pli_coding.specs.Procedures.{procedure_ended, procedure_in, procedures_code, routines_code}
use Rattle.pli_coding.specs.Linking.{links_of}
use Rattle.pli_coding.specs.Images.{environment_of, start_code, raise_code, code_of, linked_code, picture_of}
use Rattle.pli_headline.specs.Headline.{parts, FitsMemory}
use Rattle.pli_headline.specs.ProvedSoFar.{AllPlain, types_of, IsHeld, AreConstants, Kind}
use Rattle.run_steps.proofs.DataNamed.{is_named_front, is_named_back}
use Rattle.pli_headline.proofs.Scalars.{Declared, place_taken, kind_is}
use Rattle.pli_headline.proofs.InitialRead.{start_datum, IsNamedIf, kind_reads}
use Rattle.pli_headline.proofs.MainProcedure.{main_head, main_environment, IsAlone, main_plain}
use Rattle.pli_headline.proofs.PlainNumbers.{number_for, Numbered, main_numbered, AreOf, scalars_of, are_of, begins_at, length_types}
use Rattle.pli_headline.proofs.VariablePlaces.{frame_size}
use Rattle.pli_headline.proofs.NamesMade.{made_code, variables_are, made_named}
use Rattle.pli_headline.proofs.Entering.{entry_code}
use Rattle.pli_headline.proofs.VariableServed.{Ready}

-- ---- what is named

named_front : (start : Option Datum) (xs ys : Code) → IsNamedIf start xs → IsNamedIf start (xs ++ ys)
named_front None xs ys h = tt
named_front (Some d) xs ys h = is_named_front d xs ys h

named_back : (start : Option Datum) (xs ys : Code) → IsNamedIf start ys → IsNamedIf start (xs ++ ys)
named_back None xs ys h = tt
named_back (Some d) xs ys h = is_named_back d xs ys h

variables_named : (program : Y.Program) (block line : ℕ) (kind : ℕ → Declared) (j i : ℕ) (ds : List Y.DeclaredVariable) → AreOf kind j ds → ((n : ℕ) → n < length ds → IsHeld (kind (j + n)).kind.type (kind (j + n)).kind.bounds) → i < length ds → IsNamedIf (start_datum (kind (j + i)).initial) (variables_made (main_environment program block) line j ds)
variables_named program block line kind j i [] are numeric below = absurd (omega (arith, below))
variables_named program block line kind j zero (d ∷ ds) are numeric below =
    let here : j + 0 ≡ j = omega arith in
    let rest = variables_made (main_environment program block) line (suc j) ds in
    let place = automatic_place parts program block 0 j in
    let n = number_for (table_of program) (kind j).kind in
    let mine = start_datum (kind j).initial in
    let eq = variables_are program block line j place (kind j) d ds are.0 (subst (λ q. IsHeld (kind q).kind.type (kind q).kind.bounds) here (numeric 0 (omega arith))) refl in
    subst (λ q. IsNamedIf (start_datum (kind q).initial) (variables_made (main_environment program block) line j (d ∷ ds))) (sym here)
    (subst (IsNamedIf mine) (sym eq) (named_front mine (made_code (frame_size (kind j).kind) place n mine) rest (made_named (frame_size (kind j).kind) place n mine)))
variables_named program block line kind j (suc i) (d ∷ ds) are numeric below =
    let here : j + 0 ≡ j = omega arith in
    let next' : suc j + i ≡ j + suc i = omega arith in
    let rest = variables_made (main_environment program block) line (suc j) ds in
    let place = automatic_place parts program block 0 j in
    let n = number_for (table_of program) (kind j).kind in
    let start = start_datum (kind (j + suc i)).initial in
    let eq = variables_are program block line j place (kind j) d ds are.0 (subst (λ q. IsHeld (kind q).kind.type (kind q).kind.bounds) here (numeric 0 (omega arith))) refl in
    let later = variables_named program block line kind (suc j) i ds are.1 (λ m h. subst (λ q. IsHeld (kind q).kind.type (kind q).kind.bounds) (next_place j m) (numeric (suc m) (omega (arith, h)))) (omega (arith, below)) in
    subst (IsNamedIf start) (sym eq)
    (named_back start (made_code (frame_size (kind j).kind) place n (start_datum (kind j).initial)) rest (subst (λ q. IsNamedIf (start_datum (kind q).initial) rest) next' later))
  where
    next_place : (j m : ℕ) → j + suc m ≡ suc j + m
    next_place j m = omega arith

none_before : (i : ℕ) → i ≡ 0 + i
none_before i = omega arith

own_named : (program : Y.Program) (block line : ℕ) (kind : ℕ → Declared) (i : ℕ) (ds : List Y.DeclaredVariable) → AreOf kind 0 ds → ((n : ℕ) → n < length ds → IsHeld (kind n).kind.type (kind n).kind.bounds) → i < length ds → IsNamedIf (start_datum (kind i).initial) (variables_made (main_environment program block) line 0 ds)
own_named program block line kind i ds are numeric below =
    subst (λ q. IsNamedIf (start_datum (kind q).initial) (variables_made (main_environment program block) line 0 ds)) (sym (none_before i))
    (variables_named program block line kind 0 i ds are (λ n h. subst (λ q. IsHeld (kind q).kind.type (kind q).kind.bounds) (none_before n) (numeric n h)) below)

-- in the program
program_named : (program : Y.Program) (block line : ℕ) (body : Y.Stmts) (start : Option Datum) → IsAlone program block line body → IsNamedIf start (variables_code (main_environment program block) line) → IsNamedIf start (code_of parts program)
program_named program block line body None alone named = tt
program_named program block line body (Some d) alone named =
    let e = environment_of parts program in
    let mine = main_environment program block in
    let head = main_head block line in
    let words = block_words mine block body in
    let held = block_held mine block body in
    let fb = frame_begun words 0 0 (Some held) in
    let ec = entry_code line in
    let vars = variables_code mine line in
    let ac = act_code line in
    let behind = stmts_code mine none_taken body ++ procedure_ended mine head words held None in
    let begun = is_named_back d fb (ec ++ (vars ++ ac)) (is_named_back d ec (vars ++ ac) (is_named_front d vars ac named)) in
    let inside = inr (is_named_front d (fb ++ (ec ++ (vars ++ ac))) behind begun) in
    let only = is_named_front d (procedure_in mine head body [] None) (procedures_code e alone.others) inside in
    let procedures = procedures_code e program.procedures in
    let routines = routines_code e e.blocks in
    is_named_back d (start_code e) (raise_code ++ (routines ++ procedures))
    (is_named_back d raise_code (routines ++ procedures)
    (is_named_back d routines procedures (subst (λ ps. IsNamedIf (Some d) (procedures_code e ps)) (sym alone.are) only)))

-- ---- all variables

pub all_ready : (program : Y.Program) (block line : ℕ) (body : Y.Stmts) → AllPlain program.variables → length (table_of program) < 2 ^ 24 → IsAlone program block line body → FitsMemory (picture_of parts program) → 0 < length (linked_code (code_of parts program)) → (j : ℕ) → j < length (variables_of_block program block) → Ready (links_of (code_of parts program)) (linked_code (code_of parts program)) (first_bytes (picture_of parts program)) (table_of program) (scalars_of (variables_of_block program block) j)
all_ready program block line body all few alone fits some j h =
    let ds = variables_of_block program block in
    let kind = scalars_of ds in
    let are = main_plain program block all in
    let long = length_types ds in
    let numbered : (n : ℕ) → n < length ds → IsHeld (kind n).kind.type (kind n).kind.bounds = λ n below.
    let found = place_taken (types_of ds) n (omega (arith, below, long)) in
    subst (λ (k : Kind). IsHeld k.type k.bounds) (sym (kind_is (types_of ds) n found.1)) (main_numbered program block n all few found.1).held in
    let found = place_taken (types_of ds) j (omega (arith, h, long)) in
    let same = kind_is (types_of ds) j found.1 in
    let number = subst (λ t. Numbered (table_of program) t) (sym same) (main_numbered program block j all few found.1) in
    let begins = subst (λ (k : Kind). AreConstants k.type (kind j).initial) (sym same) (begins_at ds j are found.1) in
    let named = program_named program block line body (start_datum (kind j).initial) alone (own_named program block line kind j ds (are_of ds are) numbered h) in
    record {
      numbered = number;
      begins = begins;
      reads = kind_reads (code_of parts program) fits some (kind j).kind.type (kind j).kind.bounds (kind j).initial number.held begins named;
    }
