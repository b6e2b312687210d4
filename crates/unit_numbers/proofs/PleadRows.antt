-- The worked row whose unit is raised while a procedure writes: it is computed from its tree.
use Rattle.std.proofs.Common.{◌≡◌, ℕ, zero, suc, ◌≤◌, ◌<◌, List, [], ◌∷◌, Some, None, refl, subst, inl, inr}
use Rattle.std.proofs.Common.{arith}
use Rattle.std.specs.Prelude.{slice_get}
use Rattle.pli_language.specs.Formats.{Putting, format_moves_data, formats_move_data}
use Rattle.pli_language.specs.declared.condition.Condition.TheVariants as C
use Rattle.pli_typing.specs.TypedTree as Y
use Rattle.pli_meaning.specs.declared.outcome.End.TheVariants as E
use Rattle.pli_meaning.specs.Control as F
use Rattle.pli_meaning.specs.Evaluating as V
use Rattle.pli_meaning.specs.Executing as M
use Rattle.pli_meaning.specs.Making as K
use Rattle.pli_meaning.specs.Placing as P
use Rattle.pli_meaning.specs.Raising as R
use Rattle.pli_meaning.specs.Streaming as S
use Rattle.pli_coding.specs.Images.{code_of, picture_of}
use Rattle.pli_coding.specs.Linking.{links_of}
use Rattle.well_formed_trees.specs.Blocks.{times}
use Rattle.well_formed_trees.specs.Declarations.{SoundVariable}
use Rattle.well_formed_trees.specs.Ranges.{IsFormatList}
use Rattle.well_formed_trees.specs.References.{Designates, IsNumberScalar, IsScalar}
use Rattle.well_formed_trees.specs.Surroundings.{Around, NoReturn, Returns, Table, Where}
use Rattle.well_formed_trees.specs.WellFormed.{AreNested, AreNumbered, DeclaresSound, IsBehind, IsEntry, IsWellFormed}
use Rattle.well_formed_trees.specs.WellFormed.{SoundProcedure}
use Rattle.storage_relation.proofs.Holders.{eqb-other}
use Rattle.run_steps.proofs.Linking.{linked_length}
use Rattle.expression_runs.specs.Variables.{number_declared, whole}
use Rattle.pli_headline.specs.Headline.{FitsMemory, parts}
use Rattle.unit_numbers.specs.Headlines.{IsUnitProgram}
use Rattle.unit_numbers.specs.PleadRows.{head_at, plead_body, plead_formats, plead_label, plead_main, plead_program}
use Rattle.unit_numbers.specs.PleadRows.{plead_spot, write_body, write_procedure}

-- ---- it is well formed

abbrev main_entry : Around
main_entry = record { number = 1; level = 0; outermost = plead_label ∷ []; inner = [] }

abbrev write_entry : Around
write_entry = record { number = 2; level = 1; outermost = []; inner = [] }

abbrev unit_entry : Around
unit_entry = record { number = 3; level = 1; outermost = []; inner = [] }

abbrev table : Table
table = [] ∷ (main_entry ∷ []) ∷ (write_entry ∷ main_entry ∷ []) ∷ (unit_entry ∷ main_entry ∷ []) ∷ []

abbrev in_main : Where
in_main = record { program = plead_program; table = table; around = main_entry ∷ []; returning = Returns None }

abbrev in_write : Where
in_write =
    record { program = plead_program; table = table; around = write_entry ∷ main_entry ∷ []; returning = Returns None }

abbrev in_one : Where
in_one =
    record { program = plead_program; table = table; around = unit_entry ∷ main_entry ∷ []; returning = NoReturn }

abbrev at_main : Designates in_main (whole plead_spot)
at_main = record {
  d = number_declared [];
  declared = record { found = refl; same_class = refl; block_around = inl (refl, refl) };
  dimensions = 0;
  member = record { place = 0; dimensions_are = refl; part_is = refl; some = omega arith; within = omega arith };
  subscripted = inl refl;
}

abbrev at_write : Designates in_write (whole plead_spot)
at_write = record {
  d = number_declared [];
  declared = record { found = refl; same_class = refl; block_around = inr (inl (refl, refl)) };
  dimensions = 0;
  member = record { place = 0; dimensions_are = refl; part_is = refl; some = omega arith; within = omega arith };
  subscripted = inl refl;
}

abbrev at_one : Designates in_one (whole plead_spot)
at_one = record {
  d = number_declared [];
  declared = record { found = refl; same_class = refl; block_around = inr (inl (refl, refl)) };
  dimensions = 0;
  member = record { place = 0; dimensions_are = refl; part_is = refl; some = omega arith; within = omega arith };
  subscripted = inl refl;
}

main_scalar : IsScalar in_main (Y.FixedLeaf 31) (whole plead_spot)
main_scalar = record {
  designates = at_main;
  leaf = record { type = Y.FixedLeaf 31; bounds = []; initial = [] };
  one = record { one = refl; leaf_is = refl };
  type_is = refl;
  many = refl;
}

write_scalar : IsScalar in_write (Y.FixedLeaf 31) (whole plead_spot)
write_scalar = record {
  designates = at_write;
  leaf = record { type = Y.FixedLeaf 31; bounds = []; initial = [] };
  one = record { one = refl; leaf_is = refl };
  type_is = refl;
  many = refl;
}

one_scalar : IsScalar in_one (Y.FixedLeaf 31) (whole plead_spot)
one_scalar = record {
  designates = at_one;
  leaf = record { type = Y.FixedLeaf 31; bounds = []; initial = [] };
  one = record { one = refl; leaf_is = refl };
  type_is = refl;
  many = refl;
}

write_number : IsNumberScalar in_write (whole plead_spot)
write_number = record { precision = 31; scalar = write_scalar }

format_is : (line width : ℕ) → width < 64 → 1 ≤ width → IsFormatList Putting (plead_formats line width)
unfolding formats_move_data format_moves_data
format_is line width high low = record {
  formats_are = ((omega arith, omega arith), ((omega (arith, low), omega (arith, high)), tt));
  moves_data = refl;
}

main_sound : SoundProcedure table plead_program plead_main
main_sound = record {
  head = head_at 1 0 1;
  body = plead_body;
  is = refl;
  kind = refl;
  line = omega arith;
  outer = [];
  held = refl;
  listed = refl;
  statements = (
    (
      record { type = Y.FixedLeaf 31; scalar = main_scalar; fits = refl },
      ((at_main, (tt, (tt, tt))), (((omega arith, omega arith), omega arith), omega arith)),
    ),
    (
      (
        (tt, (record { line = omega arith; level = refl }, refl)),
        (
          (
            (
              tt,
              (
                ((format_is 5 3 (omega arith) (omega arith), (((omega arith, omega arith), tt), tt)), tt),
                omega arith,
              ),
            ),
            (
              (
                record { type = Y.FixedLeaf 31; scalar = one_scalar; fits = refl },
                ((at_one, (tt, (tt, tt))), (((omega arith, omega arith), omega arith), omega arith)),
              ),
              ((inr (inl (refl, refl)), omega arith), tt),
            ),
          ),
          omega arith,
        ),
      ),
      (
        (
          (write_procedure, refl, refl),
          (
            (
              record {
                procedure = write_procedure;
                is = record {
                  found = refl;
                  level_is = refl;
                  kind = refl;
                  own = write_entry;
                  holder = main_entry;
                  outer = [];
                  entry = refl;
                  holder_around = inl (refl, refl);
                };
                passed = tt;
              },
              tt,
            ),
            omega arith,
          ),
        ),
        tt,
      ),
    ),
  );
  labels = ((refl, tt), (tt, ((tt, (tt, (tt, (tt, tt)))), (tt, tt))));
  parameters = tt;
  apart = tt;
  result = tt;
}

write_sound : SoundProcedure table plead_program write_procedure
write_sound = record {
  head = head_at 2 1 3;
  body = write_body;
  is = refl;
  kind = refl;
  line = omega arith;
  outer = main_entry ∷ [];
  held = (refl, refl);
  listed = refl;
  statements = (
    (
      tt,
      (
        (
          (
            format_is 3 4 (omega arith) (omega arith),
            (
              (
                (omega arith, omega arith),
                (omega arith, (write_number, (at_write, (tt, (tt, tt))))),
              ),
              tt,
            ),
          ),
          tt,
        ),
        omega arith,
      ),
    ),
    tt,
  );
  labels = (tt, (tt, tt));
  parameters = tt;
  apart = tt;
  result = tt;
}

plead_entries : (number : ℕ) → 1 ≤ number → number < 4 → IsEntry table number
plead_entries zero low high = absurd (omega (arith, low))
plead_entries (suc zero) low high =
    record { own = main_entry; outer = []; entry = refl; number_is = refl; shallow = omega arith }
plead_entries (suc (suc zero)) low high =
    record { own = write_entry; outer = main_entry ∷ []; entry = refl; number_is = refl; shallow = omega arith }
plead_entries (suc (suc (suc zero))) low high =
    record { own = unit_entry; outer = main_entry ∷ []; entry = refl; number_is = refl; shallow = omega arith }
plead_entries (suc (suc (suc (suc n)))) low high = absurd (omega (arith, high))

-- between the main procedure and a block in it stand those of its level and none further out
none_between :
    (high m : ℕ) (a : Around) (more : List Around) → high < 4 → 1 < m → m ≤ high →
    slice_get table m ≡ Some (a ∷ more) → 0 < a.level
none_between high zero a more few low within e = absurd (omega (arith, low))
none_between high (suc zero) a more few low within e = absurd (omega (arith, low))
none_between high (suc (suc zero)) a more few low within e =
    let is : write_entry ≡ a = cc e in
    subst (λ (x : Around). 0 < x.level) is (omega arith)
none_between high (suc (suc (suc zero))) a more few low within e =
    let is : unit_entry ≡ a = cc e in
    subst (λ (x : Around). 0 < x.level) is (omega arith)
none_between high (suc (suc (suc (suc n)))) a more few low within e = absurd (omega (arith, few, within))

plead_nested : AreNested table
plead_nested zero own outer e = absurd (cc e)
plead_nested (suc zero) own outer e =
    let is : [] ≡ outer = cc e in
    subst (λ os. IsBehind table 1 os) is tt
plead_nested (suc (suc zero)) own outer e =
    let is : main_entry ∷ [] ≡ outer = cc e in
    subst (λ os. IsBehind table 2 os) is
    (omega arith, λ m a more low high at. none_between 2 m a more (omega arith) low high at)
plead_nested (suc (suc (suc zero))) own outer e =
    let is : main_entry ∷ [] ≡ outer = cc e in
    subst (λ os. IsBehind table 3 os) is
    (omega arith, λ m a more low high at. none_between 3 m a more (omega arith) low high at)
plead_nested (suc (suc (suc (suc n)))) own outer e = absurd (cc e)

plead_numbers : AreNumbered 4 (1 ∷ 3 ∷ 2 ∷ [])
plead_numbers = record { once = once; none = none; not_outermost = refl }
  where
    once : (n : ℕ) → 1 ≤ n → n < 4 → times n (1 ∷ 3 ∷ 2 ∷ []) ≡ 1
    once zero low high = absurd (omega (arith, low))
    once (suc zero) low high = refl
    once (suc (suc zero)) low high = refl
    once (suc (suc (suc zero))) low high = refl
    once (suc (suc (suc (suc n)))) low high = absurd (omega (arith, high))

    none : (n : ℕ) → 4 ≤ n → times n (1 ∷ 3 ∷ 2 ∷ []) ≡ 0
    none n low =
        simp (
          eqb-other n 1 (λ e. omega (arith, e, low)),
          eqb-other n 3 (λ e. omega (arith, e, low)),
          eqb-other n 2 (λ e. omega (arith, e, low)),
        ) refl

number_sound : (w : Where) → SoundVariable w 0 (number_declared [])
number_sound w = record {
  members = (refl, tt);
  many = refl;
  dimensions = (refl, tt);
  leaves = (record { type_is = (omega arith, omega arith); bounds_are = tt; few = omega arith; initial_is = tt }, tt);
  areas = inl (tt, tt);
  refer = tt;
  kept = ((λ k. k, tt), tt);
  evaluations = tt;
}

plead_declares : (number : ℕ) → DeclaresSound table plead_program number
plead_declares zero around e = tt
plead_declares (suc zero) around e = (number_sound _, tt)
plead_declares (suc (suc zero)) around e = tt
plead_declares (suc (suc (suc zero))) around e = tt
plead_declares (suc (suc (suc (suc n)))) around e = absurd (cc e)

plead_well : IsWellFormed plead_program
plead_well = record {
  table = table;
  main = (refl, (refl, (omega arith, tt)));
  numbers = plead_numbers;
  entries = plead_entries;
  nested = plead_nested;
  procedures = (main_sound, (write_sound, tt));
  lists = refl;
  outermost = refl;
  variables = plead_declares;
}

-- ---- it is of the class

pub plead_program_is : IsUnitProgram plead_program
plead_program_is = record { well_formed = plead_well; units = refl }

pub plead_fits : FitsMemory (picture_of parts plead_program)
plead_fits =
    let n = linked_length (links_of (code_of parts plead_program)) 0 (code_of parts plead_program) in
    record { code_fits = omega (arith, n); statics_fit = omega arith }

-- ---- what it comes to

unfoldable flows : Unit {0}
unfolding F.give F.◌>>=◌ F.◌>>◌ F.looked F.stored F.act F.finish F.returns F.jumps F.choose F.given F.list_from
    F.leaving F.repeated_while M.met_after_act
flows = tt

unfoldable values : Unit {0}
unfolding V.number V.bit V.designated V.located V.numbers V.variable_designated V.part_designated V.stored_value
    R.or_error R.demanded R.value_of R.raised R.unit_run R.error R.error_unit_run P.element_stored M.assigned
    V.computational
values = tt

unfoldable calls : Unit {0}
unfolding V.called V.all_passed_last V.procedure_entered V.returned
calls = tt

unfoldable writings : Unit {0}
unfolding S.put S.pairs_put S.items_put S.item_put S.next_item S.controls S.control_put S.shown_by
writings = tt

unfoldable makings : Unit {0}
unfolding K.variables_made K.automatic_made K.extents K.variable_made K.parameters_bound
makings = tt

unfoldable statements : Unit {0}
unfolding M.statement M.statements M.list M.list_with M.block_variables_made M.entry_act M.block_list M.block_body
    M.established_by
statements = tt

pub plead_ends :
    (input : List ℕ) →
    M.meaning plead_program input 40
    ≡ Some (record {
      acts = 18;
      output = 32 ∷ 51 ∷ 48 ∷ 32 ∷ 32 ∷ 32 ∷ 49 ∷ 10 ∷ [];
      raised = (C.ZeroDivide, 30) ∷ (C.Error, 30) ∷ [];
      end = E.Finished;
    })
unfolding M.meaning M.run M.entered M.block_run flows values calls writings makings statements
plead_ends input = refl
