-- The worked row with loops that count: a program of the class, which is computed from its tree.
use Rattle.std.proofs.Common.{◌≡◌, ℕ, zero, suc, ◌≤◌, ◌<◌, List, [], ◌∷◌, Some, None, refl, subst, inl, inr}
use Rattle.std.proofs.Common.{arith}
use Rattle.std.specs.Prelude.{slice_get}
use Rattle.pli_typing.specs.TypedTree as Y
use Rattle.pli_meaning.specs.declared.outcome.End.TheVariants as E
use Rattle.pli_meaning.specs.Control as F
use Rattle.pli_meaning.specs.Evaluating as V
use Rattle.pli_meaning.specs.Executing as M
use Rattle.pli_meaning.specs.Making as K
use Rattle.pli_meaning.specs.Placing as P
use Rattle.pli_meaning.specs.Raising as R
use Rattle.pli_coding.specs.Images.{code_of, picture_of}
use Rattle.pli_coding.specs.Linking.{links_of}
use Rattle.well_formed_trees.specs.Blocks.{times}
use Rattle.well_formed_trees.specs.Declarations.{SoundVariable}
use Rattle.well_formed_trees.specs.References.{Designates, IsScalar}
use Rattle.well_formed_trees.specs.Surroundings.{Around, Returns, Table, Where}
use Rattle.well_formed_trees.specs.WellFormed.{AreNested, AreNumbered, DeclaresSound, IsBehind, IsEntry, IsWellFormed}
use Rattle.well_formed_trees.specs.WellFormed.{SoundProcedure}
use Rattle.storage_relation.proofs.Holders.{eqb-other}
use Rattle.run_steps.proofs.Linking.{linked_length}
use Rattle.expression_runs.specs.Variables.{number_declared, whole}
use Rattle.pli_headline.specs.Headline.{FitsMemory, parts}
use Rattle.number_headlines.specs.CountRows.{added_body, added_function, block_at_level, counting_body, counting_main}
use Rattle.number_headlines.specs.CountRows.{counting_program, spot_of_main}
use Rattle.number_headlines.specs.Headlines.{IsNumberProgram}

-- ---- it is well formed

abbrev main_entry : Around
main_entry = record { number = 1; level = 0; outermost = []; inner = [] }

abbrev added_entry : Around
added_entry = record { number = 2; level = 1; outermost = []; inner = [] }

abbrev table : Table
table = [] ∷ (main_entry ∷ []) ∷ (added_entry ∷ main_entry ∷ []) ∷ []

abbrev in_main : Where
in_main = record { program = counting_program; table = table; around = main_entry ∷ []; returning = Returns None }

abbrev in_added : Where
in_added =
    record {
      program = counting_program;
      table = table;
      around = added_entry ∷ main_entry ∷ [];
      returning = Returns (Some (Y.FixedLeaf 31));
    }

abbrev sum_in_main : Designates in_main (whole (spot_of_main 0))
sum_in_main = record {
  d = number_declared [];
  declared = record { found = refl; same_class = refl; block_around = inl (refl, refl) };
  dimensions = 0;
  member = record { place = 0; dimensions_are = refl; part_is = refl; some = omega arith; within = omega arith };
  subscripted = inl refl;
}

sum_main : IsScalar in_main (Y.FixedLeaf 31) (whole (spot_of_main 0))
sum_main = record {
  designates = sum_in_main;
  leaf = record { type = Y.FixedLeaf 31; bounds = []; initial = [] };
  one = record { one = refl; leaf_is = refl };
  type_is = refl;
  many = refl;
}

abbrev sum_in_added : Designates in_added (whole (spot_of_main 0))
sum_in_added = record {
  d = number_declared [];
  declared = record { found = refl; same_class = refl; block_around = inr (inl (refl, refl)) };
  dimensions = 0;
  member = record { place = 0; dimensions_are = refl; part_is = refl; some = omega arith; within = omega arith };
  subscripted = inl refl;
}

sum_added : IsScalar in_added (Y.FixedLeaf 31) (whole (spot_of_main 0))
sum_added = record {
  designates = sum_in_added;
  leaf = record { type = Y.FixedLeaf 31; bounds = []; initial = [] };
  one = record { one = refl; leaf_is = refl };
  type_is = refl;
  many = refl;
}

abbrev outer_in_main : Designates in_main (whole (spot_of_main 1))
outer_in_main = record {
  d = number_declared [];
  declared = record { found = refl; same_class = refl; block_around = inl (refl, refl) };
  dimensions = 0;
  member = record { place = 0; dimensions_are = refl; part_is = refl; some = omega arith; within = omega arith };
  subscripted = inl refl;
}

outer_main : IsScalar in_main (Y.FixedLeaf 31) (whole (spot_of_main 1))
outer_main = record {
  designates = outer_in_main;
  leaf = record { type = Y.FixedLeaf 31; bounds = []; initial = [] };
  one = record { one = refl; leaf_is = refl };
  type_is = refl;
  many = refl;
}

abbrev outer_in_added : Designates in_added (whole (spot_of_main 1))
outer_in_added = record {
  d = number_declared [];
  declared = record { found = refl; same_class = refl; block_around = inr (inl (refl, refl)) };
  dimensions = 0;
  member = record { place = 0; dimensions_are = refl; part_is = refl; some = omega arith; within = omega arith };
  subscripted = inl refl;
}

outer_added : IsScalar in_added (Y.FixedLeaf 31) (whole (spot_of_main 1))
outer_added = record {
  designates = outer_in_added;
  leaf = record { type = Y.FixedLeaf 31; bounds = []; initial = [] };
  one = record { one = refl; leaf_is = refl };
  type_is = refl;
  many = refl;
}

abbrev inner_in_main : Designates in_main (whole (spot_of_main 2))
inner_in_main = record {
  d = number_declared [];
  declared = record { found = refl; same_class = refl; block_around = inl (refl, refl) };
  dimensions = 0;
  member = record { place = 0; dimensions_are = refl; part_is = refl; some = omega arith; within = omega arith };
  subscripted = inl refl;
}

inner_main : IsScalar in_main (Y.FixedLeaf 31) (whole (spot_of_main 2))
inner_main = record {
  designates = inner_in_main;
  leaf = record { type = Y.FixedLeaf 31; bounds = []; initial = [] };
  one = record { one = refl; leaf_is = refl };
  type_is = refl;
  many = refl;
}

main_sound : SoundProcedure table counting_program counting_main
main_sound = record {
  head = block_at_level 1 0 1;
  body = counting_body;
  is = refl;
  kind = refl;
  line = omega arith;
  outer = [];
  held = refl;
  listed = refl;
  statements = (
    (
      record { type = Y.FixedLeaf 31; scalar = sum_main; fits = refl },
      ((sum_in_main, (tt, (tt, tt))), (((omega arith, omega arith), omega arith), omega arith)),
    ),
    (
      (
        (
          (outer_main, (outer_in_main, (tt, (tt, tt)))),
          (((omega arith, omega arith), omega arith), (omega arith, omega arith)),
        ),
        (
          tt,
          (
            (
              (
                (
                  (inner_main, (inner_in_main, (tt, (tt, tt)))),
                  (
                    (
                      (omega arith, omega arith),
                      (
                        record { precision = 31; scalar = outer_main },
                        (
                          outer_in_main,
                          (tt, (tt, tt)),
                        ),
                      ),
                    ),
                    (omega arith, omega arith),
                  ),
                ),
                (
                  tt,
                  (
                    (
                      (
                        record { type = Y.FixedLeaf 31; scalar = sum_main; fits = refl },
                        (
                          (sum_in_main, (tt, (tt, tt))),
                          (
                            (
                              (omega arith, omega arith),
                              (
                                (added_function, refl, tt),
                                (
                                  record {
                                    procedure = added_function;
                                    is = record {
                                      found = refl;
                                      level_is = refl;
                                      kind = refl;
                                      own = added_entry;
                                      holder = main_entry;
                                      outer = [];
                                      entry = refl;
                                      holder_around = inl (refl, refl);
                                    };
                                    passed = tt;
                                  },
                                  tt,
                                ),
                              ),
                            ),
                            omega arith,
                          ),
                        ),
                      ),
                      tt,
                    ),
                    omega arith,
                  ),
                ),
              ),
              tt,
            ),
            omega arith,
          ),
        ),
      ),
      tt,
    ),
  );
  labels = (tt, (tt, (((tt, tt), tt), tt)));
  parameters = tt;
  apart = tt;
  result = tt;
}

added_sound : SoundProcedure table counting_program added_function
added_sound = record {
  head = block_at_level 2 1 2;
  body = added_body;
  is = refl;
  kind = refl;
  line = omega arith;
  outer = main_entry ∷ [];
  held = (refl, refl);
  listed = refl;
  statements = (
    (
      refl,
      (
        refl,
        (
          (
            (omega arith, omega arith),
            (
              (record { precision = 31; scalar = sum_added }, (sum_in_added, (tt, (tt, tt)))),
              (record { precision = 31; scalar = outer_added }, (outer_in_added, (tt, (tt, tt)))),
            ),
          ),
          omega arith,
        ),
      ),
    ),
    tt,
  );
  labels = (tt, (tt, tt));
  parameters = tt;
  apart = tt;
  result = (omega arith, omega arith);
}

counting_entries : (number : ℕ) → 1 ≤ number → number < 3 → IsEntry table number
counting_entries zero low high = absurd (omega (arith, low))
counting_entries (suc zero) low high =
    record { own = main_entry; outer = []; entry = refl; number_is = refl; shallow = omega arith }
counting_entries (suc (suc zero)) low high =
    record { own = added_entry; outer = main_entry ∷ []; entry = refl; number_is = refl; shallow = omega arith }
counting_entries (suc (suc (suc n))) low high = absurd (omega (arith, high))

-- between the main procedure and one in it stand those of its level and none further out
none_between :
    (m : ℕ) (a : Around) (more : List Around) → 1 < m → m ≤ 2 → slice_get table m ≡ Some (a ∷ more) → 0 < a.level
none_between zero a more low within e = absurd (omega (arith, low))
none_between (suc zero) a more low within e = absurd (omega (arith, low))
none_between (suc (suc zero)) a more low within e =
    let is : added_entry ≡ a = cc e in
    subst (λ (x : Around). 0 < x.level) is (omega arith)
none_between (suc (suc (suc n))) a more low within e = absurd (omega (arith, within))

counting_nested : AreNested table
counting_nested zero own outer e = absurd (cc e)
counting_nested (suc zero) own outer e =
    let is : [] ≡ outer = cc e in
    subst (λ os. IsBehind table 1 os) is tt
counting_nested (suc (suc zero)) own outer e =
    let is : main_entry ∷ [] ≡ outer = cc e in
    subst (λ os. IsBehind table 2 os) is (omega arith, λ m a more low high at. none_between m a more low high at)
counting_nested (suc (suc (suc n))) own outer e = absurd (cc e)

counting_numbers : AreNumbered 3 (1 ∷ 2 ∷ [])
counting_numbers = record { once = once; none = none; not_outermost = refl }
  where
    once : (n : ℕ) → 1 ≤ n → n < 3 → times n (1 ∷ 2 ∷ []) ≡ 1
    once zero low high = absurd (omega (arith, low))
    once (suc zero) low high = refl
    once (suc (suc zero)) low high = refl
    once (suc (suc (suc n))) low high = absurd (omega (arith, high))

    none : (n : ℕ) → 3 ≤ n → times n (1 ∷ 2 ∷ []) ≡ 0
    none n low = simp (eqb-other n 1 (λ e. omega (arith, e, low)), eqb-other n 2 (λ e. omega (arith, e, low))) refl

number_sound : (w : Where) (n : ℕ) → SoundVariable w n (number_declared [])
number_sound w n = record {
  members = (refl, tt);
  many = refl;
  dimensions = (refl, tt);
  leaves = (record { type_is = (omega arith, omega arith); bounds_are = tt; few = omega arith; initial_is = tt }, tt);
  areas = inl (tt, tt);
  refer = tt;
  kept = ((λ k. k, tt), tt);
  evaluations = tt;
}

counting_declares : (number : ℕ) → DeclaresSound table counting_program number
counting_declares zero around e = tt
counting_declares (suc zero) around e = (number_sound _ 0, (number_sound _ 1, (number_sound _ 2, tt)))
counting_declares (suc (suc zero)) around e = tt
counting_declares (suc (suc (suc n))) around e = absurd (cc e)

counting_well : IsWellFormed counting_program
counting_well = record {
  table = table;
  main = (refl, (refl, (omega arith, tt)));
  numbers = counting_numbers;
  entries = counting_entries;
  nested = counting_nested;
  procedures = (main_sound, (added_sound, tt));
  lists = refl;
  outermost = refl;
  variables = counting_declares;
}

-- ---- it is of the class

pub counting_program_is : IsNumberProgram counting_program
counting_program_is = record { well_formed = counting_well; numbers = refl }

pub counting_fits : FitsMemory (picture_of parts counting_program)
counting_fits =
    let n = linked_length (links_of (code_of parts counting_program)) 0 (code_of parts counting_program) in
    record { code_fits = omega (arith, n); statics_fit = omega arith }

-- ---- what it comes to

unfoldable flows : Unit {0}
unfolding F.give F.◌>>=◌ F.◌>>◌ F.looked F.stored F.act F.finish F.returns F.jumps F.choose F.given F.list_from
    F.leaving F.repeated_while
flows = tt

unfoldable values : Unit {0}
unfolding V.number V.computational V.designated V.located V.numbers V.variable_designated V.part_designated
    V.stored_value
    R.or_error R.demanded R.value_of R.raised R.unit_run R.error R.error_unit_run P.element_stored M.assigned
values = tt

unfoldable calls : Unit {0}
unfolding V.called V.all_passed_last V.procedure_entered V.returned
calls = tt

unfoldable makings : Unit {0}
unfolding K.variables_made K.automatic_made K.extents K.variable_made K.parameters_bound
makings = tt

unfoldable statements : Unit {0}
unfolding M.statement M.statements M.list M.list_with M.block_variables_made M.entry_act M.block_list M.block_body
    M.turn_due M.within_limit M.condition_met M.counter_number M.counter_value M.counter_started M.stepped M.limit_of
statements = tt

pub counting_ends :
    (input : List ℕ) →
    M.meaning counting_program input 38 ≡ Some (record { acts = 38; output = []; raised = []; end = E.Finished })
unfolding M.meaning M.run M.entered M.block_run flows values calls makings statements
counting_ends input = refl
