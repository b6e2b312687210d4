-- A worked program whose typed tree is well formed.
use Rattle.std.proofs.Common.{◌≡◌, ℕ, zero, suc, ◌≤◌, ◌<◌, List, [], ◌∷◌, Some, None, refl, sym, subst, inl, inr}
use Rattle.std.proofs.Common.{arith, length}
use Rattle.pli_language.specs.declared.expr.InfixOp.TheVariants as I
use Rattle.pli_language.specs.Tree as T
use Rattle.pli_language.specs.Declarations.{held, chain_after, declared_in, declared_in_item, declared_in_stmt}
use Rattle.pli_language.specs.Declarations.{blocks_in, blocks_in_item, blocks_in_stmt, blocks_of}
use Rattle.pli_language.specs.Means.{means_from}
use Rattle.pli_typing.specs.TypedTree as Y
use Rattle.pli_typing.specs.References.{expression, reference, qualified, arguments, expressions}
use Rattle.pli_typing.specs.Resolving.{statement, statements, resolved, typed_tree}
use Rattle.pli_typing.proofs.RowTrees.{at, name, declared, procedure, plain, unsubscripted, items, program}
use Rattle.well_formed_trees.specs.Surroundings.{Around, Table, Where, Returns, NoReturn}
use Rattle.well_formed_trees.specs.References.{Designates, IsScalar}
use Rattle.well_formed_trees.specs.WellFormed.{DeclaresSound, AreNumbered, IsEntry, AreNested, SoundProcedure}
use Rattle.well_formed_trees.specs.WellFormed.{IsWellFormed}
use Rattle.well_formed_trees.specs.Blocks.{procedure_numbers}
use Rattle.well_formed_trees.specs.Declarations.{SoundVariable}
use Rattle.well_formed_trees.specs.Written.{IsShaped}
use Rattle.well_formed_trees.specs.Held.{entries_in, entries_in_item, entries_in_stmt, table_of}
use Rattle.well_formed_trees.proofs.ProgramNumbers.{numbers_kept}
use Rattle.well_formed_trees.proofs.TableNests.{nesting_kept}

-- T: PROC OPTIONS(MAIN); DCL N FIXED BINARY(31); L: N = N + 1; BEGIN; GOTO L; END; CALL P; P: PROC; RETURN; END; END;
abbrev worked : T.Tree
worked =
    program
    (T.Declare (declared None (unsubscripted (name (78 ∷ []) (at 2 5)) ∷ []) []
    (T.Fixed None ∷ T.Binary (Some 31) ∷ []) ∷ []) (at 2 1) ∷ [])
    (T.Statement (name (76 ∷ []) (at 3 1) ∷ []) (T.Assign (plain (name (78 ∷ []) (at 3 4)))
    (T.Infix I.Add (T.Refers (plain (name (78 ∷ []) (at 3 8)))) (T.Number 1 (at 3 12))) (at 3 4))
    ∷ T.Statement [] (T.Begin (items (T.Statement [] (T.Goto (name (76 ∷ []) (at 4 13)) (at 4 8)) ∷ [])) (at 4 1))
    ∷ T.Statement [] (T.Call (name (80 ∷ []) (at 5 6)) T.Absent (at 5 1))
    ∷ procedure (name (80 ∷ []) (at 6 1) ∷ []) (at 6 4) [] [] (T.Statement [] (T.Return None (at 6 10)) ∷ [])
    ∷ [])

abbrev number_variable : Y.Variable
number_variable = record { class = Y.AutomaticClass; block = 1; level = 0; index = 0 }

abbrev pub number : Y.Reference
number = Y.Referring number_variable Y.NotLocated (record { first = 0; count = 1 }) Y.NoNumber

abbrev number_declared : Y.DeclaredVariable
number_declared = record {
  class = Y.AutomaticClass;
  members = record { depth = 0; dimensions = 0 } ∷ [];
  leaves = record { type = Y.FixedLeaf 31; bounds = []; initial = [] } ∷ [];
  refer = None;
  evaluations = [];
}

abbrev begin_body : Y.Stmts
begin_body = Y.StmtThen [] (Y.Goto 0 (76 ∷ []) 4) (Y.EndOfList [])

abbrev main_body : Y.Stmts
main_body =
    Y.StmtThen ((76 ∷ []) ∷ []) (Y.Assign number (Y.StoredNumber 31 (Y.Calculated Y.Sum (Y.NumberIn number)
    (Y.NumberConstant 1))) 3)
    (Y.StmtThen [] (Y.Begin (Y.BlockOf (record { kind = Y.BeginBlock; number = 2; level = 1; line = 4 }) begin_body))
    (Y.StmtThen [] (Y.CallProcedure (Y.Calling 3 0 Y.NoArgument) 5) (Y.EndOfList [])))

abbrev inner_body : Y.Stmts
inner_body = Y.StmtThen [] (Y.Return 6) (Y.EndOfList [])

abbrev pub main_head : Y.BlockHead
main_head = record { kind = Y.ProcedureBlock; number = 1; level = 0; line = 1 }

abbrev inner_head : Y.BlockHead
inner_head = record { kind = Y.ProcedureBlock; number = 3; level = 1; line = 6 }

abbrev main : Y.Procedure
main = record { block = Y.BlockOf main_head main_body; parameters = []; result = None }

abbrev pub inner : Y.Procedure
inner = record { block = Y.BlockOf inner_head inner_body; parameters = []; result = None }

abbrev pub typed_program : Y.Program
typed_program = record {
  variables = [] ∷ (number_declared ∷ []) ∷ [] ∷ [] ∷ [];
  procedures = main ∷ inner ∷ [];
}

typed : typed_tree worked ≡ typed_program
unfolding resolved statement statements expression reference qualified arguments expressions means_from blocks_of
    declared_in declared_in_item declared_in_stmt blocks_in blocks_in_item blocks_in_stmt held chain_after
typed = refl

-- ---- the table of its blocks

abbrev pub main_entry : Around
main_entry = record { number = 1; level = 0; outermost = (76 ∷ []) ∷ []; inner = [] }

abbrev pub begin_entry : Around
begin_entry = record { number = 2; level = 1; outermost = []; inner = [] }

abbrev inner_entry : Around
inner_entry = record { number = 3; level = 1; outermost = []; inner = [] }

abbrev pub table : Table
table =
    [] ∷ (main_entry ∷ []) ∷ (begin_entry ∷ main_entry ∷ []) ∷ (inner_entry ∷ main_entry ∷ []) ∷ []

tabled : table_of worked ≡ table
unfolding entries_in entries_in_item entries_in_stmt
tabled = refl

blocks_are : length (blocks_of worked) ≡ 4
unfolding blocks_of blocks_in blocks_in_item blocks_in_stmt declared_in declared_in_item declared_in_stmt
blocks_are = refl

-- ---- it is well formed

abbrev pub in_main : Where
in_main = record { program = typed_program; table = table; around = main_entry ∷ []; returning = Returns None }

abbrev number_is : Designates in_main number
number_is = record {
  d = number_declared;
  declared = record { found = refl; same_class = refl; block_around = inl (refl, refl) };
  dimensions = 0;
  member = record {
    place = 0;
    dimensions_are = refl;
    part_is = refl;
    some = omega arith;
    within = omega arith;
  };
  subscripted = inl refl;
}

abbrev number_scalar : IsScalar in_main (Y.FixedLeaf 31) number
number_scalar = record {
  designates = number_is;
  leaf = record { type = Y.FixedLeaf 31; bounds = []; initial = [] };
  one = record { one = refl; leaf_is = refl };
  type_is = refl;
  many = refl;
}

main_sound : SoundProcedure table typed_program main
main_sound = record {
  head = main_head;
  body = main_body;
  is = refl;
  kind = refl;
  line = omega arith;
  outer = [];
  held = refl;
  listed = refl;
  statements = (
    (
      record { type = Y.FixedLeaf 31; scalar = number_scalar; fits = refl },
      (
        (number_is, (tt, (tt, tt))),
        (
          (
            (omega arith, omega arith),
            ((record { precision = 31; scalar = number_scalar }, (number_is, (tt, (tt, tt)))), omega arith),
          ),
          omega arith,
        ),
      ),
    ),
    (
      ((refl, (record { line = omega arith; level = refl }, refl)), ((inr (inl (refl, refl)), omega arith), tt)),
      (
        (
          (inner, refl, refl),
          (
            (
              record {
                procedure = inner;
                is = record {
                  found = refl;
                  level_is = refl;
                  kind = refl;
                  own = inner_entry;
                  holder = main_entry;
                  outer = [];
                  entry =
                      refl;
                  holder_around = inl (refl, refl);
                };
                passed = tt;
              },
              tt,
            ),
            omega arith,
          ),
        ),
        tt,
      ),
    ),
  );
  labels = ((refl, tt), (tt, ((tt, (tt, tt)), (tt, tt))));
  parameters = tt;
  apart = tt;
  result = tt;
}

inner_sound : SoundProcedure table typed_program inner
inner_sound = record {
  head = inner_head;
  body = inner_body;
  is = refl;
  kind = refl;
  line = omega arith;
  outer = main_entry ∷ [];
  held = (refl, refl);
  listed = refl;
  statements = ((refl, omega arith), tt);
  labels = (tt, (tt, tt));
  parameters = tt;
  apart = tt;
  result = tt;
}

worked_nested : AreNested table
worked_nested = subst AreNested tabled (nesting_kept worked)

worked_shape : IsShaped worked
worked_shape = record { outer = tt; ends = ((tt, ((tt, tt), (tt, ((tt, tt), tt)))), tt) }

worked_entry : (number : ℕ) → 1 ≤ number → number < 4 → IsEntry table number
worked_entry zero low high = absurd (omega (arith, low))
worked_entry (suc zero) low high =
    record { own = main_entry; outer = []; entry = refl; number_is = refl; shallow = omega arith }
worked_entry (suc (suc zero)) low high =
    record { own = begin_entry; outer = main_entry ∷ []; entry = refl; number_is = refl; shallow = omega arith }
worked_entry (suc (suc (suc zero))) low high =
    record { own = inner_entry; outer = main_entry ∷ []; entry = refl; number_is = refl; shallow = omega arith }
worked_entry (suc (suc (suc (suc n)))) low high = absurd (omega (arith, high))

worked_numbers : AreNumbered 4 (1 ∷ 2 ∷ 3 ∷ [])
worked_numbers =
    subst (λ count. AreNumbered count (1 ∷ 2 ∷ 3 ∷ [])) blocks_are
    (subst (λ p. AreNumbered (length (blocks_of worked)) (procedure_numbers p.procedures)) typed
    (numbers_kept worked worked_shape))

abbrev where_around : List Around → Where
where_around around =
    record { program = typed_program; table = table; around = around; returning = NoReturn }

number_sound : (around : List Around) → SoundVariable (where_around around) 0 number_declared
number_sound around = record {
  members = (refl, tt);
  many = refl;
  dimensions = (refl, tt);
  leaves = (record { type_is = (omega arith, omega arith); bounds_are = tt; few = omega arith; initial_is = tt }, tt);
  areas = inl (tt, tt);
  refer = tt;
  kept = ((λ k. k, tt), tt);
  evaluations = tt;
}

worked_declares : (number : ℕ) → DeclaresSound table typed_program number
worked_declares zero around e = tt
worked_declares (suc zero) around e = (number_sound around, tt)
worked_declares (suc (suc zero)) around e = tt
worked_declares (suc (suc (suc zero))) around e = tt
worked_declares (suc (suc (suc (suc n)))) around e = absurd (cc e)

program_sound : IsWellFormed typed_program
program_sound = record {
  table = table;
  main = (refl, (refl, (omega arith, tt)));
  numbers = worked_numbers;
  entries = worked_entry;
  nested = worked_nested;
  procedures = (main_sound, (inner_sound, tt));
  lists = refl;
  outermost = refl;
  variables = worked_declares;
}

pub worked_well_formed : IsWellFormed (typed_tree worked)
worked_well_formed = subst IsWellFormed (sym typed) program_sound
