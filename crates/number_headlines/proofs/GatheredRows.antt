-- The worked row with lists of arguments: it is computed from its tree.
use Rattle.std.proofs.Common.{◌≡◌, ℕ, zero, suc, ◌≤◌, ◌<◌, List, [], ◌∷◌, Some, None, refl, subst, inl, arith}
use Rattle.std.specs.Prelude.{slice_get}
use Rattle.pli_language.specs.Formats.{Putting, format_moves_data, formats_move_data}
use Rattle.pli_typing.specs.TypedTree as Y
use Rattle.pli_meaning.specs.declared.outcome.End.TheVariants as E
use Rattle.pli_meaning.specs.Control as F
use Rattle.pli_meaning.specs.Evaluating as V
use Rattle.pli_meaning.specs.Executing as M
use Rattle.pli_meaning.specs.Making as K
use Rattle.pli_meaning.specs.Placing as P
use Rattle.pli_meaning.specs.Raising as R
use Rattle.pli_meaning.specs.Streaming as S
use Rattle.pli_coding.specs.Images.{code_of, picture_of}
use Rattle.pli_coding.specs.Linking.{links_of}
use Rattle.well_formed_trees.specs.Blocks.{times}
use Rattle.well_formed_trees.specs.Declarations.{SoundVariable}
use Rattle.well_formed_trees.specs.Expressions.{IsScalarParameter}
use Rattle.well_formed_trees.specs.Ranges.{IsFormatList}
use Rattle.well_formed_trees.specs.References.{Designates, IsNumberScalar, IsScalar}
use Rattle.well_formed_trees.specs.Surroundings.{Around, Returns, Table, Where}
use Rattle.well_formed_trees.specs.WellFormed.{AreNested, AreNumbered, DeclaresSound, IsBehind, IsEntry, IsWellFormed}
use Rattle.well_formed_trees.specs.WellFormed.{SoundProcedure}
use Rattle.storage_relation.proofs.Holders.{eqb-other}
use Rattle.run_steps.proofs.Linking.{linked_length}
use Rattle.expression_runs.specs.Variables.{number_declared, whole}
use Rattle.argument_runs.specs.Parameters.{parameter, parameter_declared}
use Rattle.pli_headline.specs.Headline.{FitsMemory, parts}
use Rattle.number_headlines.specs.GatheredRows.{add_body, add_function, added_spot, gathered_body, gathered_formats}
use Rattle.number_headlines.specs.GatheredRows.{gathered_main, gathered_program, gathered_spot, head_at}
use Rattle.number_headlines.specs.Headlines.{IsNumberProgram}

-- ---- it is well formed

abbrev main_entry : Around
main_entry = record { number = 1; level = 0; outermost = []; inner = [] }

abbrev add_entry : Around
add_entry = record { number = 2; level = 1; outermost = []; inner = [] }

abbrev table : Table
table = [] ∷ (main_entry ∷ []) ∷ (add_entry ∷ main_entry ∷ []) ∷ []

abbrev in_main : Where
in_main = record { program = gathered_program; table = table; around = main_entry ∷ []; returning = Returns None }

abbrev in_add : Where
in_add =
    record {
      program = gathered_program;
      table = table;
      around = add_entry ∷ main_entry ∷ [];
      returning = Returns (Some (Y.FixedLeaf 31));
    }

abbrev sum_is : Designates in_main (whole (gathered_spot 0))
sum_is = record {
  d = number_declared [];
  declared = record { found = refl; same_class = refl; block_around = inl (refl, refl) };
  dimensions = 0;
  member = record { place = 0; dimensions_are = refl; part_is = refl; some = omega arith; within = omega arith };
  subscripted = inl refl;
}

sum_is_scalar : IsScalar in_main (Y.FixedLeaf 31) (whole (gathered_spot 0))
sum_is_scalar = record {
  designates = sum_is;
  leaf = record { type = Y.FixedLeaf 31; bounds = []; initial = [] };
  one = record { one = refl; leaf_is = refl };
  type_is = refl;
  many = refl;
}

sum_is_number : IsNumberScalar in_main (whole (gathered_spot 0))
sum_is_number = record { precision = 31; scalar = sum_is_scalar }

abbrev count_is : Designates in_main (whole (gathered_spot 1))
count_is = record {
  d = number_declared [];
  declared = record { found = refl; same_class = refl; block_around = inl (refl, refl) };
  dimensions = 0;
  member = record { place = 0; dimensions_are = refl; part_is = refl; some = omega arith; within = omega arith };
  subscripted = inl refl;
}

count_is_scalar : IsScalar in_main (Y.FixedLeaf 31) (whole (gathered_spot 1))
count_is_scalar = record {
  designates = count_is;
  leaf = record { type = Y.FixedLeaf 31; bounds = []; initial = [] };
  one = record { one = refl; leaf_is = refl };
  type_is = refl;
  many = refl;
}

count_is_number : IsNumberScalar in_main (whole (gathered_spot 1))
count_is_number = record { precision = 31; scalar = count_is_scalar }

abbrev first_is : Designates in_add (parameter (added_spot 0))
first_is = record {
  d = parameter_declared;
  declared = record { found = refl; same_class = refl; block_around = inl (refl, refl) };
  dimensions = 0;
  member = record { place = 0; dimensions_are = refl; part_is = refl; some = omega arith; within = omega arith };
  subscripted = inl refl;
}

first_is_scalar : IsScalar in_add (Y.FixedLeaf 31) (parameter (added_spot 0))
first_is_scalar = record {
  designates = first_is;
  leaf = record { type = Y.FixedLeaf 31; bounds = []; initial = [] };
  one = record { one = refl; leaf_is = refl };
  type_is = refl;
  many = refl;
}

first_is_number : IsNumberScalar in_add (parameter (added_spot 0))
first_is_number = record { precision = 31; scalar = first_is_scalar }

abbrev second_is : Designates in_add (parameter (added_spot 1))
second_is = record {
  d = parameter_declared;
  declared = record { found = refl; same_class = refl; block_around = inl (refl, refl) };
  dimensions = 0;
  member = record { place = 0; dimensions_are = refl; part_is = refl; some = omega arith; within = omega arith };
  subscripted = inl refl;
}

second_is_scalar : IsScalar in_add (Y.FixedLeaf 31) (parameter (added_spot 1))
second_is_scalar = record {
  designates = second_is;
  leaf = record { type = Y.FixedLeaf 31; bounds = []; initial = [] };
  one = record { one = refl; leaf_is = refl };
  type_is = refl;
  many = refl;
}

second_is_number : IsNumberScalar in_add (parameter (added_spot 1))
second_is_number = record { precision = 31; scalar = second_is_scalar }

taken : IsScalarParameter parameter_declared (Y.FixedLeaf 31)
taken = record {
  leaf = record { type = Y.FixedLeaf 31; bounds = []; initial = [] };
  one = refl;
  type_is = refl;
  none = refl;
}

gathered_format : IsFormatList Putting gathered_formats
unfolding formats_move_data format_moves_data
gathered_format = record {
  formats_are = ((omega arith, omega arith), ((omega arith, omega arith), tt));
  moves_data = refl;
}

main_sound : SoundProcedure table gathered_program gathered_main
main_sound = record {
  head = head_at 1 0 1;
  body = gathered_body;
  is = refl;
  kind = refl;
  line = omega arith;
  outer = [];
  held = refl;
  listed = refl;
  statements = (
    (
      record { type = Y.FixedLeaf 31; scalar = sum_is_scalar; fits = refl },
      ((sum_is, (tt, (tt, tt))), (((omega arith, omega arith), omega arith), omega arith)),
    ),
    (
      (
        (
          (count_is_scalar, (count_is, (tt, (tt, tt)))),
          (((omega arith, omega arith), omega arith), (omega arith, omega arith)),
        ),
        (
          tt,
          (
            (
              (
                record { type = Y.FixedLeaf 31; scalar = sum_is_scalar; fits = refl },
                (
                  (sum_is, (tt, (tt, tt))),
                  (
                    (
                      (omega arith, omega arith),
                      (
                        (add_function, refl, tt),
                        (
                          record {
                            procedure = add_function;
                            is = record {
                              found = refl;
                              level_is = refl;
                              kind = refl;
                              own = add_entry;
                              holder = main_entry;
                              outer = [];
                              entry = refl;
                              holder_around = inl (refl, refl);
                            };
                            passed = (
                              (parameter_declared, refl, (taken, refl)),
                              ((parameter_declared, refl, (taken, refl)), tt),
                            );
                          },
                          (
                            (
                              (omega arith, omega arith),
                              (
                                (add_function, refl, tt),
                                (
                                  record {
                                    procedure = add_function;
                                    is = record {
                                      found = refl;
                                      level_is = refl;
                                      kind = refl;
                                      own = add_entry;
                                      holder = main_entry;
                                      outer = [];
                                      entry = refl;
                                      holder_around = inl (refl, refl);
                                    };
                                    passed = (
                                      (parameter_declared, refl, (taken, refl)),
                                      ((parameter_declared, refl, (taken, refl)), tt),
                                    );
                                  },
                                  (
                                    (
                                      (omega arith, omega arith),
                                      ((sum_is_number, (sum_is, (tt, (tt, tt)))), omega arith),
                                    ),
                                    (
                                      (
                                        (omega arith, omega arith),
                                        ((count_is_number, (count_is, (tt, (tt, tt)))), omega arith),
                                      ),
                                      tt,
                                    ),
                                  ),
                                ),
                              ),
                            ),
                            (
                              (
                                (omega arith, omega arith),
                                (
                                  (count_is_number, (count_is, (tt, (tt, tt)))),
                                  (count_is_number, (count_is, (tt, (tt, tt)))),
                                ),
                              ),
                              tt,
                            ),
                          ),
                        ),
                      ),
                    ),
                    omega arith,
                  ),
                ),
              ),
              tt,
            ),
            omega arith,
          ),
        ),
      ),
      (
        (
          tt,
          (
            (
              (gathered_format, (((omega arith, omega arith), (sum_is_number, (sum_is, (tt, (tt, tt))))), tt)),
              tt,
            ),
            omega arith,
          ),
        ),
        tt,
      ),
    ),
  );
  labels = (tt, (tt, ((tt, tt), (tt, tt))));
  parameters = tt;
  apart = tt;
  result = tt;
}

add_sound : SoundProcedure table gathered_program add_function
add_sound = record {
  head = head_at 2 1 2;
  body = add_body;
  is = refl;
  kind = refl;
  line = omega arith;
  outer = main_entry ∷ [];
  held = (refl, refl);
  listed = refl;
  statements = (
    (
      refl,
      (
        refl,
        (
          (
            (omega arith, omega arith),
            ((first_is_number, (first_is, (tt, (tt, tt)))), (second_is_number, (second_is, (tt, (tt, tt))))),
          ),
          omega arith,
        ),
      ),
    ),
    tt,
  );
  labels = (tt, (tt, tt));
  parameters = (
    record { d = parameter_declared; found = refl; class_is = refl },
    (record { d = parameter_declared; found = refl; class_is = refl }, tt),
  );
  apart = (refl, (refl, tt));
  result = (omega arith, omega arith);
}

gathered_entries : (number : ℕ) → 1 ≤ number → number < 3 → IsEntry table number
gathered_entries zero low high = absurd (omega (arith, low))
gathered_entries (suc zero) low high =
    record { own = main_entry; outer = []; entry = refl; number_is = refl; shallow = omega arith }
gathered_entries (suc (suc zero)) low high =
    record { own = add_entry; outer = main_entry ∷ []; entry = refl; number_is = refl; shallow = omega arith }
gathered_entries (suc (suc (suc n))) low high = absurd (omega (arith, high))

-- between the main procedure and the one in it stands that
none_between :
    (high m : ℕ) (a : Around) (more : List Around) → high < 3 → 1 < m → m ≤ high →
    slice_get table m ≡ Some (a ∷ more) → 0 < a.level
none_between high zero a more few low within e = absurd (omega (arith, low))
none_between high (suc zero) a more few low within e = absurd (omega (arith, low))
none_between high (suc (suc zero)) a more few low within e =
    let is : add_entry ≡ a = cc e in
    subst (λ (x : Around). 0 < x.level) is (omega arith)
none_between high (suc (suc (suc n))) a more few low within e = absurd (omega (arith, few, within))

gathered_nested : AreNested table
gathered_nested zero own outer e = absurd (cc e)
gathered_nested (suc zero) own outer e =
    let is : [] ≡ outer = cc e in
    subst (λ os. IsBehind table 1 os) is tt
gathered_nested (suc (suc zero)) own outer e =
    let is : main_entry ∷ [] ≡ outer = cc e in
    subst (λ os. IsBehind table 2 os) is
    (omega arith, λ m a more low high at. none_between 2 m a more (omega arith) low high at)
gathered_nested (suc (suc (suc n))) own outer e = absurd (cc e)

gathered_numbers : AreNumbered 3 (1 ∷ 2 ∷ [])
gathered_numbers = record { once = once; none = none; not_outermost = refl }
  where
    once : (n : ℕ) → 1 ≤ n → n < 3 → times n (1 ∷ 2 ∷ []) ≡ 1
    once zero low high = absurd (omega (arith, low))
    once (suc zero) low high = refl
    once (suc (suc zero)) low high = refl
    once (suc (suc (suc n))) low high = absurd (omega (arith, high))

    none : (n : ℕ) → 3 ≤ n → times n (1 ∷ 2 ∷ []) ≡ 0
    none n low =
        simp (eqb-other n 1 (λ e. omega (arith, e, low)), eqb-other n 2 (λ e. omega (arith, e, low))) refl

number_sound : (w : Where) (index : ℕ) → SoundVariable w index (number_declared [])
number_sound w index = record {
  members = (refl, tt);
  many = refl;
  dimensions = (refl, tt);
  leaves = (record { type_is = (omega arith, omega arith); bounds_are = tt; few = omega arith; initial_is = tt }, tt);
  areas = inl (tt, tt);
  refer = tt;
  kept = ((λ k. k, tt), tt);
  evaluations = tt;
}

parameter_sound : (w : Where) (index : ℕ) → SoundVariable w index parameter_declared
parameter_sound w index = record {
  members = (refl, tt);
  many = refl;
  dimensions = (refl, tt);
  leaves = (record { type_is = (omega arith, omega arith); bounds_are = tt; few = omega arith; initial_is = tt }, tt);
  areas = inl (tt, tt);
  refer = tt;
  kept = ((λ k. k, tt), tt);
  evaluations = tt;
}

gathered_declares : (number : ℕ) → DeclaresSound table gathered_program number
gathered_declares zero around e = tt
gathered_declares (suc zero) around e = (number_sound _ 0, (number_sound _ 1, tt))
gathered_declares (suc (suc zero)) around e = (parameter_sound _ 0, (parameter_sound _ 1, tt))
gathered_declares (suc (suc (suc n))) around e = absurd (cc e)

gathered_well : IsWellFormed gathered_program
gathered_well = record {
  table = table;
  main = (refl, (refl, (omega arith, tt)));
  numbers = gathered_numbers;
  entries = gathered_entries;
  nested = gathered_nested;
  procedures = (main_sound, (add_sound, tt));
  lists = refl;
  outermost = refl;
  variables = gathered_declares;
}

-- ---- it is of the class

pub gathered_program_is : IsNumberProgram gathered_program
gathered_program_is = record { well_formed = gathered_well; numbers = refl }

pub gathered_fits : FitsMemory (picture_of parts gathered_program)
gathered_fits =
    let n = linked_length (links_of (code_of parts gathered_program)) 0 (code_of parts gathered_program) in
    record { code_fits = omega (arith, n); statics_fit = omega arith }

-- ---- what it comes to

unfoldable flows : Unit {0}
unfolding F.give F.◌>>=◌ F.◌>>◌ F.looked F.stored F.act F.finish F.returns F.jumps F.choose F.given F.list_from
    F.leaving F.repeated_while M.met_after_act
flows = tt

unfoldable values : Unit {0}
unfolding V.number V.bit V.designated V.located V.numbers V.variable_designated V.part_designated V.stored_value
    R.or_error R.demanded R.value_of R.raised R.unit_run R.error R.error_unit_run P.element_stored M.assigned
values = tt

unfoldable writings : Unit {0}
unfolding S.put S.pairs_put S.items_put S.item_put S.next_item S.controls S.control_put S.shown_by V.computational
writings = tt

unfoldable calls : Unit {0}
unfolding V.called V.arguments V.argument V.all_passed_last V.passed_last V.procedure_entered V.returned
calls = tt

unfoldable makings : Unit {0}
unfolding K.variables_made K.automatic_made K.extents K.variable_made K.parameter_bound K.parameters_bound
makings = tt

unfoldable statements : Unit {0}
unfolding M.statement M.statements M.list M.list_with M.block_variables_made M.entry_act M.block_list M.block_body
    M.turn_due M.within_limit M.condition_met M.counter_number M.counter_value M.counter_started M.stepped M.limit_of
statements = tt

pub gathered_ends :
    (input : List ℕ) →
    M.meaning gathered_program input 25
    ≡ Some (record { acts = 25; output = 50 ∷ 48 ∷ 10 ∷ []; raised = []; end = E.Finished })
unfolding M.meaning M.run M.entered M.block_run flows values writings calls makings statements
gathered_ends input = refl
