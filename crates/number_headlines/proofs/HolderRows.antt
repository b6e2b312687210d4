-- The worked row with parameters of a block around: it is computed from its tree.
use Rattle.std.proofs.Common.{◌≡◌, ℕ, zero, suc, ◌≤◌, ◌<◌, List, [], ◌∷◌, Some, None, refl, subst, inl, inr}
use Rattle.std.proofs.Common.{arith}
use Rattle.std.specs.Prelude.{slice_get}
use Rattle.pli_language.specs.Formats.{Putting, format_moves_data, formats_move_data}
use Rattle.pli_typing.specs.TypedTree as Y
use Rattle.pli_meaning.specs.DeclaredShapes.{declared_variable}
use Rattle.pli_meaning.specs.declared.outcome.End.TheVariants as E
use Rattle.pli_meaning.specs.Control as F
use Rattle.pli_meaning.specs.Evaluating as V
use Rattle.pli_meaning.specs.Executing as M
use Rattle.pli_meaning.specs.Making as K
use Rattle.pli_meaning.specs.Placing as P
use Rattle.pli_meaning.specs.Raising as R
use Rattle.pli_meaning.specs.Streaming as S
use Rattle.pli_coding.specs.Images.{code_of, picture_of}
use Rattle.pli_coding.specs.Linking.{links_of}
use Rattle.well_formed_trees.specs.Blocks.{times}
use Rattle.well_formed_trees.specs.Declarations.{SoundVariable}
use Rattle.well_formed_trees.specs.Expressions.{IsScalarParameter, Passes}
use Rattle.well_formed_trees.specs.Ranges.{IsFormatList}
use Rattle.well_formed_trees.specs.References.{Designates, IsNumberScalar, IsScalar}
use Rattle.well_formed_trees.specs.Surroundings.{Around, Returns, Table, Where}
use Rattle.well_formed_trees.specs.WellFormed.{AreNested, AreNumbered, DeclaresSound, IsBehind, IsEntry, IsWellFormed}
use Rattle.well_formed_trees.specs.WellFormed.{SoundProcedure}
use Rattle.storage_relation.proofs.Holders.{eqb-other}
use Rattle.run_steps.proofs.Linking.{linked_length}
use Rattle.expression_runs.specs.Variables.{number_declared, whole}
use Rattle.argument_runs.specs.Parameters.{parameter, parameter_declared, parameter_of}
use Rattle.pli_headline.specs.Headline.{FitsMemory, parts}
use Rattle.number_headlines.specs.Headlines.{IsNumberProgram}
use Rattle.number_headlines.specs.HolderRows.{head_at, holder_body, holder_procedure, holder_program, holder_spot}
use Rattle.number_headlines.specs.HolderRows.{step_body, step_procedure, total_body, total_formats, total_main}
use Rattle.number_headlines.specs.HolderRows.{total_spot}

-- ---- it is well formed

abbrev main_entry : Around
main_entry = record { number = 1; level = 0; outermost = []; inner = [] }

abbrev holder_entry : Around
holder_entry = record { number = 2; level = 1; outermost = []; inner = [] }

abbrev step_entry : Around
step_entry = record { number = 3; level = 2; outermost = []; inner = [] }

abbrev table : Table
table =
    [] ∷ (main_entry ∷ []) ∷ (holder_entry ∷ main_entry ∷ []) ∷ (step_entry ∷ holder_entry ∷ main_entry ∷ []) ∷ []

abbrev in_main : Where
in_main = record { program = holder_program; table = table; around = main_entry ∷ []; returning = Returns None }

abbrev in_step : Where
in_step =
    record {
      program = holder_program;
      table = table;
      around = step_entry ∷ holder_entry ∷ main_entry ∷ [];
      returning = Returns None;
    }

-- ---- what is named

abbrev total_is : Designates in_main (whole total_spot)
total_is = record {
  d = number_declared [];
  declared = record { found = refl; same_class = refl; block_around = inl (refl, refl) };
  dimensions = 0;
  member = record { place = 0; dimensions_are = refl; part_is = refl; some = omega arith; within = omega arith };
  subscripted = inl refl;
}

total_is_scalar : IsScalar in_main (Y.FixedLeaf 31) (whole total_spot)
total_is_scalar = record {
  designates = total_is;
  leaf = record { type = Y.FixedLeaf 31; bounds = []; initial = [] };
  one = record { one = refl; leaf_is = refl };
  type_is = refl;
  many = refl;
}

total_is_number : IsNumberScalar in_main (whole total_spot)
total_is_number = record { precision = 31; scalar = total_is_scalar }

total_passes : Passes in_main parameter_declared (whole total_spot)
total_passes = record { given = record { designates = total_is; all = refl; none = refl }; taken = refl }

-- the parameters of the block around
abbrev held : (n : ℕ) → declared_variable holder_program (parameter_of (holder_spot n)) ≡ Some parameter_declared →
    Designates in_step (parameter (holder_spot n))
held n found = record {
  d = parameter_declared;
  declared = record { found = found; same_class = refl; block_around = inr (inl (refl, refl)) };
  dimensions = 0;
  member = record { place = 0; dimensions_are = refl; part_is = refl; some = omega arith; within = omega arith };
  subscripted = inl refl;
}

held_scalar : (n : ℕ) → declared_variable holder_program (parameter_of (holder_spot n)) ≡ Some parameter_declared →
    IsScalar in_step (Y.FixedLeaf 31) (parameter (holder_spot n))
held_scalar n found = record {
  designates = held n found;
  leaf = record { type = Y.FixedLeaf 31; bounds = []; initial = [] };
  one = record { one = refl; leaf_is = refl };
  type_is = refl;
  many = refl;
}

held_number : (n : ℕ) → declared_variable holder_program (parameter_of (holder_spot n)) ≡ Some parameter_declared →
    IsNumberScalar in_step (parameter (holder_spot n))
held_number n found = record { precision = 31; scalar = held_scalar n found }

held_passes : Passes in_step parameter_declared (parameter (holder_spot 1))
held_passes = record { given = record { designates = held 1 refl; all = refl; none = refl }; taken = refl }

taken : IsScalarParameter parameter_declared (Y.FixedLeaf 31)
taken = record {
  leaf = record { type = Y.FixedLeaf 31; bounds = []; initial = [] };
  one = refl;
  type_is = refl;
  none = refl;
}

total_format : IsFormatList Putting total_formats
unfolding formats_move_data format_moves_data
total_format = record {
  formats_are = ((omega arith, omega arith), ((omega arith, omega arith), tt));
  moves_data = refl;
}

-- ---- procedures

main_sound : SoundProcedure table holder_program total_main
main_sound = record {
  head = head_at 1 0 1;
  body = total_body;
  is = refl;
  kind = refl;
  line = omega arith;
  outer = [];
  held = refl;
  listed = refl;
  statements = (
    (
      record { type = Y.FixedLeaf 31; scalar = total_is_scalar; fits = refl },
      ((total_is, (tt, (tt, tt))), (((omega arith, omega arith), omega arith), omega arith)),
    ),
    (
      (
        (holder_procedure, refl, refl),
        (
          (
            record {
              procedure = holder_procedure;
              is = record {
                found = refl;
                level_is = refl;
                kind = refl;
                own = holder_entry;
                holder = main_entry;
                outer = [];
                entry = refl;
                holder_around = inl (refl, refl);
              };
              passed = ((parameter_declared, refl, (taken, refl)), ((parameter_declared, refl, total_passes), tt));
            },
            (((omega arith, omega arith), omega arith), ((total_is, (tt, (tt, tt))), tt)),
          ),
          omega arith,
        ),
      ),
      (
        (
          tt,
          (
            (
              (total_format, (((omega arith, omega arith), (total_is_number, (total_is, (tt, (tt, tt))))), tt)),
              tt,
            ),
            omega arith,
          ),
        ),
        tt,
      ),
    ),
  );
  labels = (tt, (tt, (tt, (tt, tt))));
  parameters = tt;
  apart = tt;
  result = tt;
}

holder_sound : SoundProcedure table holder_program holder_procedure
holder_sound = record {
  head = head_at 2 1 2;
  body = holder_body;
  is = refl;
  kind = refl;
  line = omega arith;
  outer = main_entry ∷ [];
  held = (refl, refl);
  listed = refl;
  statements = (
    (
      (step_procedure, refl, refl),
      (
        (
          record {
            procedure = step_procedure;
            is = record {
              found = refl;
              level_is = refl;
              kind = refl;
              own = step_entry;
              holder = holder_entry;
              outer = main_entry ∷ [];
              entry = refl;
              holder_around = inl (refl, refl);
            };
            passed = tt;
          },
          tt,
        ),
        omega arith,
      ),
    ),
    tt,
  );
  labels = (tt, (tt, tt));
  parameters = (
    record { d = parameter_declared; found = refl; class_is = refl },
    (record { d = parameter_declared; found = refl; class_is = refl }, tt),
  );
  apart = (refl, (refl, tt));
  result = tt;
}

step_sound : SoundProcedure table holder_program step_procedure
step_sound = record {
  head = head_at 3 2 4;
  body = step_body;
  is = refl;
  kind = refl;
  line = omega arith;
  outer = holder_entry ∷ main_entry ∷ [];
  held = (refl, refl);
  listed = refl;
  statements = (
    (
      record { type = Y.FixedLeaf 31; scalar = held_scalar 1 refl; fits = refl },
      (
        (held 1 refl, (tt, (tt, tt))),
        (
          (
            (omega arith, omega arith),
            (
              (held_number 1 refl, (held 1 refl, (tt, (tt, tt)))),
              (held_number 0 refl, (held 0 refl, (tt, (tt, tt)))),
            ),
          ),
          omega arith,
        ),
      ),
    ),
    (
      (
        ((held_number 0 refl, (held 0 refl, (tt, (tt, tt)))), omega arith),
        (
          (
            (holder_procedure, refl, refl),
            (
              (
                record {
                  procedure = holder_procedure;
                  is = record {
                    found = refl;
                    level_is = refl;
                    kind = refl;
                    own = holder_entry;
                    holder = main_entry;
                    outer = [];
                    entry = refl;
                    holder_around = inr (inr (inl (refl, refl)));
                  };
                  passed = ((parameter_declared, refl, (taken, refl)), ((parameter_declared, refl, held_passes), tt));
                },
                (
                  (
                    (omega arith, omega arith),
                    ((held_number 0 refl, (held 0 refl, (tt, (tt, tt)))), omega arith),
                  ),
                  ((held 1 refl, (tt, (tt, tt))), tt),
                ),
              ),
              omega arith,
            ),
          ),
          omega arith,
        ),
      ),
      tt,
    ),
  );
  labels = (tt, (tt, (tt, tt)));
  parameters = tt;
  apart = tt;
  result = tt;
}

-- ---- the program

holder_entries : (number : ℕ) → 1 ≤ number → number < 4 → IsEntry table number
holder_entries zero low high = absurd (omega (arith, low))
holder_entries (suc zero) low high =
    record { own = main_entry; outer = []; entry = refl; number_is = refl; shallow = omega arith }
holder_entries (suc (suc zero)) low high =
    record { own = holder_entry; outer = main_entry ∷ []; entry = refl; number_is = refl; shallow = omega arith }
holder_entries (suc (suc (suc zero))) low high =
    record {
      own = step_entry;
      outer = holder_entry ∷ main_entry ∷ [];
      entry = refl;
      number_is = refl;
      shallow = omega arith;
    }
holder_entries (suc (suc (suc (suc n)))) low high = absurd (omega (arith, high))

-- between a procedure and what holds it stand only those that are further in
none_between :
    (first high m : ℕ) (a : Around) (more : List Around) → high < 4 → 1 ≤ first → first < m → m ≤ high →
    slice_get table m ≡ Some (a ∷ more) → first ≤ a.level
none_between first high zero a more few some low within e = absurd (omega (arith, low))
none_between first high (suc zero) a more few some low within e = absurd (omega (arith, low, some))
none_between first high (suc (suc zero)) a more few some low within e =
    let is : holder_entry ≡ a = cc e in
    subst (λ (x : Around). first ≤ x.level) is (omega (arith, low))
none_between first high (suc (suc (suc zero))) a more few some low within e =
    let is : step_entry ≡ a = cc e in
    subst (λ (x : Around). first ≤ x.level) is (omega (arith, low))
none_between first high (suc (suc (suc (suc n)))) a more few some low within e = absurd (omega (arith, few, within))

holder_nested : AreNested table
holder_nested zero own outer e = absurd (cc e)
holder_nested (suc zero) own outer e =
    let is : [] ≡ outer = cc e in
    subst (λ os. IsBehind table 1 os) is tt
holder_nested (suc (suc zero)) own outer e =
    let is : main_entry ∷ [] ≡ outer = cc e in
    subst (λ os. IsBehind table 2 os) is
    (omega arith, λ m a more low high at. none_between 1 2 m a more (omega arith) (omega arith) low high at)
holder_nested (suc (suc (suc zero))) own outer e =
    let is : holder_entry ∷ main_entry ∷ [] ≡ outer = cc e in
    subst (λ os. IsBehind table 3 os) is
    (omega arith, λ m a more low high at. none_between 2 3 m a more (omega arith) (omega arith) low high at)
holder_nested (suc (suc (suc (suc n)))) own outer e = absurd (cc e)

holder_numbers : AreNumbered 4 (1 ∷ 2 ∷ 3 ∷ [])
holder_numbers = record { once = once; none = none; not_outermost = refl }
  where
    once : (n : ℕ) → 1 ≤ n → n < 4 → times n (1 ∷ 2 ∷ 3 ∷ []) ≡ 1
    once zero low high = absurd (omega (arith, low))
    once (suc zero) low high = refl
    once (suc (suc zero)) low high = refl
    once (suc (suc (suc zero))) low high = refl
    once (suc (suc (suc (suc n)))) low high = absurd (omega (arith, high))

    none : (n : ℕ) → 4 ≤ n → times n (1 ∷ 2 ∷ 3 ∷ []) ≡ 0
    none n low =
        simp (
          eqb-other n 1 (λ e. omega (arith, e, low)),
          eqb-other n 2 (λ e. omega (arith, e, low)),
          eqb-other n 3 (λ e. omega (arith, e, low)),
        ) refl

number_sound : (w : Where) (index : ℕ) → SoundVariable w index (number_declared [])
number_sound w index = record {
  members = (refl, tt);
  many = refl;
  dimensions = (refl, tt);
  leaves = (record { type_is = (omega arith, omega arith); bounds_are = tt; few = omega arith; initial_is = tt }, tt);
  areas = inl (tt, tt);
  refer = tt;
  kept = ((λ k. k, tt), tt);
  evaluations = tt;
}

parameter_sound : (w : Where) (index : ℕ) → SoundVariable w index parameter_declared
parameter_sound w index = record {
  members = (refl, tt);
  many = refl;
  dimensions = (refl, tt);
  leaves = (record { type_is = (omega arith, omega arith); bounds_are = tt; few = omega arith; initial_is = tt }, tt);
  areas = inl (tt, tt);
  refer = tt;
  kept = ((λ k. k, tt), tt);
  evaluations = tt;
}

holder_declares : (number : ℕ) → DeclaresSound table holder_program number
holder_declares zero around e = tt
holder_declares (suc zero) around e = (number_sound _ 0, tt)
holder_declares (suc (suc zero)) around e = (parameter_sound _ 0, (parameter_sound _ 1, tt))
holder_declares (suc (suc (suc zero))) around e = tt
holder_declares (suc (suc (suc (suc n)))) around e = absurd (cc e)

holder_well : IsWellFormed holder_program
holder_well = record {
  table = table;
  main = (refl, (refl, (omega arith, (omega arith, tt))));
  numbers = holder_numbers;
  entries = holder_entries;
  nested = holder_nested;
  procedures = (main_sound, (holder_sound, (step_sound, tt)));
  lists = refl;
  outermost = refl;
  variables = holder_declares;
}

-- ---- it is of the class

pub holder_program_is : IsNumberProgram holder_program
holder_program_is = record { well_formed = holder_well; numbers = refl }

pub holder_fits : FitsMemory (picture_of parts holder_program)
holder_fits =
    let n = linked_length (links_of (code_of parts holder_program)) 0 (code_of parts holder_program) in
    record { code_fits = omega (arith, n); statics_fit = omega arith }

-- ---- what it comes to

unfoldable flows : Unit {0}
unfolding F.give F.◌>>=◌ F.◌>>◌ F.looked F.stored F.act F.finish F.returns F.jumps F.choose F.given F.list_from
    F.leaving F.repeated_while M.met_after_act
flows = tt

unfoldable values : Unit {0}
unfolding V.number V.bit V.designated V.located V.numbers V.variable_designated V.part_designated V.stored_value
    R.or_error R.demanded R.value_of R.raised R.unit_run R.error R.error_unit_run P.element_stored M.assigned
values = tt

unfoldable writings : Unit {0}
unfolding S.put S.pairs_put S.items_put S.item_put S.next_item S.controls S.control_put S.shown_by V.computational
writings = tt

unfoldable calls : Unit {0}
unfolding V.called V.arguments V.argument V.all_passed_last V.passed_last V.procedure_entered V.returned
calls = tt

unfoldable makings : Unit {0}
unfolding K.variables_made K.automatic_made K.extents K.variable_made K.parameter_bound K.parameters_bound
makings = tt

unfoldable statements : Unit {0}
unfolding M.statement M.statements M.list M.list_with M.block_variables_made M.entry_act M.block_list M.block_body
    M.turn_due M.within_limit M.condition_met M.counter_number M.counter_value M.counter_started M.stepped M.limit_of
statements = tt

pub holder_ends :
    (input : List ℕ) →
    M.meaning holder_program input 23
    ≡ Some (record { acts = 23; output = 32 ∷ 54 ∷ 10 ∷ []; raised = []; end = E.Finished })
unfolding M.meaning M.run M.entered M.block_run flows values writings calls makings statements
holder_ends input = refl
