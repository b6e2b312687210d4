-- The worked row with calls: a program of the class, which is computed from its tree.
use Rattle.std.proofs.Common.{◌≡◌, ℕ, zero, suc, ◌≤◌, ◌<◌, List, [], ◌∷◌, Some, None, refl, subst, inl, inr}
use Rattle.std.proofs.Common.{arith}
use Rattle.std.specs.Prelude.{slice_get}
use Rattle.pli_typing.specs.TypedTree as Y
use Rattle.pli_meaning.specs.declared.outcome.End.TheVariants as E
use Rattle.pli_meaning.specs.Control as F
use Rattle.pli_meaning.specs.Evaluating as V
use Rattle.pli_meaning.specs.Executing as M
use Rattle.pli_meaning.specs.Making as K
use Rattle.pli_meaning.specs.Placing as P
use Rattle.pli_meaning.specs.Raising as R
use Rattle.pli_coding.specs.Images.{code_of, picture_of}
use Rattle.pli_coding.specs.Linking.{links_of}
use Rattle.well_formed_trees.specs.Blocks.{times}
use Rattle.well_formed_trees.specs.Declarations.{SoundVariable}
use Rattle.well_formed_trees.specs.References.{Designates, IsNumberScalar, IsScalar}
use Rattle.well_formed_trees.specs.Surroundings.{Around, Returns, Table, Where}
use Rattle.well_formed_trees.specs.WellFormed.{AreNested, AreNumbered, DeclaresSound, IsBehind, IsEntry, IsWellFormed}
use Rattle.well_formed_trees.specs.WellFormed.{SoundProcedure}
use Rattle.storage_relation.proofs.Holders.{eqb-other}
use Rattle.run_steps.proofs.Linking.{linked_length}
use Rattle.expression_runs.specs.Variables.{number_declared, whole}
use Rattle.pli_headline.specs.Headline.{FitsMemory, parts}
use Rattle.number_headlines.specs.CallRows.{calling_body, calling_main, calling_program, head_at, outer_spot, own_spot}
use Rattle.number_headlines.specs.CallRows.{step_body, step_procedure, twice_body, twice_function}
use Rattle.number_headlines.specs.Headlines.{IsNumberProgram}

-- ---- it is well formed

abbrev main_entry : Around
main_entry = record { number = 1; level = 0; outermost = []; inner = [] }

abbrev step_entry : Around
step_entry = record { number = 2; level = 1; outermost = []; inner = [] }

abbrev twice_entry : Around
twice_entry = record { number = 3; level = 1; outermost = []; inner = [] }

abbrev table : Table
table = [] ∷ (main_entry ∷ []) ∷ (step_entry ∷ main_entry ∷ []) ∷ (twice_entry ∷ main_entry ∷ []) ∷ []

abbrev in_main : Where
in_main = record { program = calling_program; table = table; around = main_entry ∷ []; returning = Returns None }

abbrev in_step : Where
in_step =
    record {
      program = calling_program;
      table = table;
      around = step_entry ∷ main_entry ∷ [];
      returning = Returns None;
    }

abbrev in_twice : Where
in_twice =
    record {
      program = calling_program;
      table = table;
      around = twice_entry ∷ main_entry ∷ [];
      returning = Returns (Some (Y.FixedLeaf 31));
    }

abbrev outer_in_main : Designates in_main (whole outer_spot)
outer_in_main = record {
  d = number_declared [];
  declared = record { found = refl; same_class = refl; block_around = inl (refl, refl) };
  dimensions = 0;
  member = record { place = 0; dimensions_are = refl; part_is = refl; some = omega arith; within = omega arith };
  subscripted = inl refl;
}

abbrev outer_in_step : Designates in_step (whole outer_spot)
outer_in_step = record {
  d = number_declared [];
  declared = record { found = refl; same_class = refl; block_around = inr (inl (refl, refl)) };
  dimensions = 0;
  member = record { place = 0; dimensions_are = refl; part_is = refl; some = omega arith; within = omega arith };
  subscripted = inl refl;
}

abbrev outer_in_twice : Designates in_twice (whole outer_spot)
outer_in_twice = record {
  d = number_declared [];
  declared = record { found = refl; same_class = refl; block_around = inr (inl (refl, refl)) };
  dimensions = 0;
  member = record { place = 0; dimensions_are = refl; part_is = refl; some = omega arith; within = omega arith };
  subscripted = inl refl;
}

abbrev own_in_twice : Designates in_twice (whole own_spot)
own_in_twice = record {
  d = number_declared [];
  declared = record { found = refl; same_class = refl; block_around = inl (refl, refl) };
  dimensions = 0;
  member = record { place = 0; dimensions_are = refl; part_is = refl; some = omega arith; within = omega arith };
  subscripted = inl refl;
}

main_scalar : IsScalar in_main (Y.FixedLeaf 31) (whole outer_spot)
main_scalar = record {
  designates = outer_in_main;
  leaf = record { type = Y.FixedLeaf 31; bounds = []; initial = [] };
  one = record { one = refl; leaf_is = refl };
  type_is = refl;
  many = refl;
}

step_scalar : IsScalar in_step (Y.FixedLeaf 31) (whole outer_spot)
step_scalar = record {
  designates = outer_in_step;
  leaf = record { type = Y.FixedLeaf 31; bounds = []; initial = [] };
  one = record { one = refl; leaf_is = refl };
  type_is = refl;
  many = refl;
}

twice_scalar : IsScalar in_twice (Y.FixedLeaf 31) (whole outer_spot)
twice_scalar = record {
  designates = outer_in_twice;
  leaf = record { type = Y.FixedLeaf 31; bounds = []; initial = [] };
  one = record { one = refl; leaf_is = refl };
  type_is = refl;
  many = refl;
}

own_scalar : IsScalar in_twice (Y.FixedLeaf 31) (whole own_spot)
own_scalar = record {
  designates = own_in_twice;
  leaf = record { type = Y.FixedLeaf 31; bounds = []; initial = [] };
  one = record { one = refl; leaf_is = refl };
  type_is = refl;
  many = refl;
}

main_number : IsNumberScalar in_main (whole outer_spot)
main_number = record { precision = 31; scalar = main_scalar }

main_sound : SoundProcedure table calling_program calling_main
main_sound = record {
  head = head_at 1 0 1;
  body = calling_body;
  is = refl;
  kind = refl;
  line = omega arith;
  outer = [];
  held = refl;
  listed = refl;
  statements = (
    (
      record { type = Y.FixedLeaf 31; scalar = main_scalar; fits = refl },
      ((outer_in_main, (tt, (tt, tt))), (((omega arith, omega arith), omega arith), omega arith)),
    ),
    (
      (
        ((main_number, (outer_in_main, (tt, (tt, tt)))), omega arith),
        (
          (
            (
              (omega arith, (main_number, (outer_in_main, (tt, (tt, tt))))),
              (
                (
                  (step_procedure, refl, refl),
                  (
                    (
                      record {
                        procedure = step_procedure;
                        is = record {
                          found = refl;
                          level_is = refl;
                          kind = refl;
                          own = step_entry;
                          holder = main_entry;
                          outer = [];
                          entry = refl;
                          holder_around = inl (refl, refl);
                        };
                        passed = tt;
                      },
                      tt,
                    ),
                    omega arith,
                  ),
                ),
                omega arith,
              ),
            ),
            (
              (
                record { type = Y.FixedLeaf 31; scalar = main_scalar; fits = refl },
                (
                  (outer_in_main, (tt, (tt, tt))),
                  (
                    (
                      (omega arith, omega arith),
                      (
                        (twice_function, refl, tt),
                        (
                          record {
                            procedure = twice_function;
                            is = record {
                              found = refl;
                              level_is = refl;
                              kind = refl;
                              own = twice_entry;
                              holder = main_entry;
                              outer = [];
                              entry = refl;
                              holder_around = inl (refl, refl);
                            };
                            passed = tt;
                          },
                          tt,
                        ),
                      ),
                    ),
                    omega arith,
                  ),
                ),
              ),
              tt,
            ),
          ),
          omega arith,
        ),
      ),
      tt,
    ),
  );
  labels = (tt, (tt, ((tt, (tt, tt)), tt)));
  parameters = tt;
  apart = tt;
  result = tt;
}

step_sound : SoundProcedure table calling_program step_procedure
step_sound = record {
  head = head_at 2 1 3;
  body = step_body;
  is = refl;
  kind = refl;
  line = omega arith;
  outer = main_entry ∷ [];
  held = (refl, refl);
  listed = refl;
  statements = (
    (
      record { type = Y.FixedLeaf 31; scalar = step_scalar; fits = refl },
      (
        (outer_in_step, (tt, (tt, tt))),
        (
          (
            (omega arith, omega arith),
            ((record { precision = 31; scalar = step_scalar }, (outer_in_step, (tt, (tt, tt)))), omega arith),
          ),
          omega arith,
        ),
      ),
    ),
    tt,
  );
  labels = (tt, (tt, tt));
  parameters = tt;
  apart = tt;
  result = tt;
}

twice_sound : SoundProcedure table calling_program twice_function
twice_sound = record {
  head = head_at 3 1 4;
  body = twice_body;
  is = refl;
  kind = refl;
  line = omega arith;
  outer = main_entry ∷ [];
  held = (refl, refl);
  listed = refl;
  statements = (
    (
      record { type = Y.FixedLeaf 31; scalar = own_scalar; fits = refl },
      (
        (own_in_twice, (tt, (tt, tt))),
        (
          (
            (omega arith, omega arith),
            (
              (record { precision = 31; scalar = twice_scalar }, (outer_in_twice, (tt, (tt, tt)))),
              (record { precision = 31; scalar = twice_scalar }, (outer_in_twice, (tt, (tt, tt)))),
            ),
          ),
          omega arith,
        ),
      ),
    ),
    (
      (
        refl,
        (
          refl,
          (
            (
              (omega arith, omega arith),
              (record { precision = 31; scalar = own_scalar }, (own_in_twice, (tt, (tt, tt)))),
            ),
            omega arith,
          ),
        ),
      ),
      tt,
    ),
  );
  labels = (tt, (tt, (tt, tt)));
  parameters = tt;
  apart = tt;
  result = (omega arith, omega arith);
}

calling_entries : (number : ℕ) → 1 ≤ number → number < 4 → IsEntry table number
calling_entries zero low high = absurd (omega (arith, low))
calling_entries (suc zero) low high =
    record { own = main_entry; outer = []; entry = refl; number_is = refl; shallow = omega arith }
calling_entries (suc (suc zero)) low high =
    record { own = step_entry; outer = main_entry ∷ []; entry = refl; number_is = refl; shallow = omega arith }
calling_entries (suc (suc (suc zero))) low high =
    record { own = twice_entry; outer = main_entry ∷ []; entry = refl; number_is = refl; shallow = omega arith }
calling_entries (suc (suc (suc (suc n)))) low high = absurd (omega (arith, high))

-- between the main procedure and one in it stand those of its level and none further out
none_between :
    (high m : ℕ) (a : Around) (more : List Around) → high < 4 → 1 < m → m ≤ high →
    slice_get table m ≡ Some (a ∷ more) → 0 < a.level
none_between high zero a more few low within e = absurd (omega (arith, low))
none_between high (suc zero) a more few low within e = absurd (omega (arith, low))
none_between high (suc (suc zero)) a more few low within e =
    let is : step_entry ≡ a = cc e in
    subst (λ (x : Around). 0 < x.level) is (omega arith)
none_between high (suc (suc (suc zero))) a more few low within e =
    let is : twice_entry ≡ a = cc e in
    subst (λ (x : Around). 0 < x.level) is (omega arith)
none_between high (suc (suc (suc (suc n)))) a more few low within e = absurd (omega (arith, few, within))

calling_nested : AreNested table
calling_nested zero own outer e = absurd (cc e)
calling_nested (suc zero) own outer e =
    let is : [] ≡ outer = cc e in
    subst (λ os. IsBehind table 1 os) is tt
calling_nested (suc (suc zero)) own outer e =
    let is : main_entry ∷ [] ≡ outer = cc e in
    subst (λ os. IsBehind table 2 os) is
    (omega arith, λ m a more low high at. none_between 2 m a more (omega arith) low high at)
calling_nested (suc (suc (suc zero))) own outer e =
    let is : main_entry ∷ [] ≡ outer = cc e in
    subst (λ os. IsBehind table 3 os) is
    (omega arith, λ m a more low high at. none_between 3 m a more (omega arith) low high at)
calling_nested (suc (suc (suc (suc n)))) own outer e = absurd (cc e)

calling_numbers : AreNumbered 4 (1 ∷ 2 ∷ 3 ∷ [])
calling_numbers = record { once = once; none = none; not_outermost = refl }
  where
    once : (n : ℕ) → 1 ≤ n → n < 4 → times n (1 ∷ 2 ∷ 3 ∷ []) ≡ 1
    once zero low high = absurd (omega (arith, low))
    once (suc zero) low high = refl
    once (suc (suc zero)) low high = refl
    once (suc (suc (suc zero))) low high = refl
    once (suc (suc (suc (suc n)))) low high = absurd (omega (arith, high))

    none : (n : ℕ) → 4 ≤ n → times n (1 ∷ 2 ∷ 3 ∷ []) ≡ 0
    none n low =
        simp (
          eqb-other n 1 (λ e. omega (arith, e, low)),
          eqb-other n 2 (λ e. omega (arith, e, low)),
          eqb-other n 3 (λ e. omega (arith, e, low)),
        ) refl

number_sound : (w : Where) → SoundVariable w 0 (number_declared [])
number_sound w = record {
  members = (refl, tt);
  many = refl;
  dimensions = (refl, tt);
  leaves = (record { type_is = (omega arith, omega arith); bounds_are = tt; few = omega arith; initial_is = tt }, tt);
  areas = inl (tt, tt);
  refer = tt;
  kept = ((λ k. k, tt), tt);
  evaluations = tt;
}

calling_declares : (number : ℕ) → DeclaresSound table calling_program number
calling_declares zero around e = tt
calling_declares (suc zero) around e = (number_sound _, tt)
calling_declares (suc (suc zero)) around e = tt
calling_declares (suc (suc (suc zero))) around e = (number_sound _, tt)
calling_declares (suc (suc (suc (suc n)))) around e = absurd (cc e)

calling_well : IsWellFormed calling_program
calling_well = record {
  table = table;
  main = (refl, (refl, (omega arith, (omega arith, tt))));
  numbers = calling_numbers;
  entries = calling_entries;
  nested = calling_nested;
  procedures = (main_sound, (step_sound, (twice_sound, tt)));
  lists = refl;
  outermost = refl;
  variables = calling_declares;
}

-- ---- it is of the class

pub calling_program_is : IsNumberProgram calling_program
calling_program_is = record { well_formed = calling_well; numbers = refl }

pub calling_fits : FitsMemory (picture_of parts calling_program)
calling_fits =
    let n = linked_length (links_of (code_of parts calling_program)) 0 (code_of parts calling_program) in
    record { code_fits = omega (arith, n); statics_fit = omega arith }

-- ---- what it comes to

unfoldable flows : Unit {0}
unfolding F.give F.◌>>=◌ F.◌>>◌ F.looked F.stored F.act F.finish F.returns F.jumps F.choose F.given F.list_from
    F.leaving F.repeated_while M.met_after_act
flows = tt

unfoldable values : Unit {0}
unfolding V.number V.bit V.designated V.located V.numbers V.variable_designated V.part_designated V.stored_value
    R.or_error R.demanded R.value_of R.raised R.unit_run R.error R.error_unit_run P.element_stored M.assigned
values = tt

unfoldable calls : Unit {0}
unfolding V.called V.all_passed_last V.procedure_entered V.returned
calls = tt

unfoldable makings : Unit {0}
unfolding K.variables_made K.automatic_made K.extents K.variable_made K.parameters_bound
makings = tt

unfoldable statements : Unit {0}
unfolding M.statement M.statements M.list M.list_with M.block_variables_made M.entry_act M.block_list M.block_body
statements = tt

pub calling_ends :
    (input : List ℕ) →
    M.meaning calling_program input 68 ≡ Some (record { acts = 68; output = []; raised = []; end = E.Finished })
unfolding M.meaning M.run M.entered M.block_run flows values calls makings statements
calling_ends input = refl
