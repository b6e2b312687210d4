-- The worked row with functions that return fewer bits: it is computed from its tree.
use Rattle.std.proofs.Common.{◌≡◌, ℕ, zero, suc, ◌≤◌, ◌<◌, List, [], ◌∷◌, Some, None, refl, subst, inl, inr}
use Rattle.std.proofs.Common.{arith}
use Rattle.std.specs.Prelude.{slice_get}
use Rattle.pli_typing.specs.TypedTree as Y
use Rattle.pli_meaning.specs.declared.outcome.End.TheVariants as E
use Rattle.pli_meaning.specs.Control as F
use Rattle.pli_meaning.specs.Evaluating as V
use Rattle.pli_meaning.specs.Executing as M
use Rattle.pli_meaning.specs.Making as K
use Rattle.pli_meaning.specs.Placing as P
use Rattle.pli_meaning.specs.Raising as R
use Rattle.pli_meaning.specs.Streaming as S
use Rattle.pli_coding.specs.Images.{code_of, picture_of}
use Rattle.pli_coding.specs.Linking.{links_of}
use Rattle.well_formed_trees.specs.Blocks.{times}
use Rattle.well_formed_trees.specs.Declarations.{SoundVariable}
use Rattle.well_formed_trees.specs.Expressions.{Passes}
use Rattle.well_formed_trees.specs.References.{Designates, IsNumberScalar, IsScalar}
use Rattle.well_formed_trees.specs.Surroundings.{Around, IsAround, Returning, Returns, Table, Where}
use Rattle.well_formed_trees.specs.WellFormed.{AreNested, AreNumbered, DeclaresSound, IsBehind, IsEntry, IsWellFormed}
use Rattle.well_formed_trees.specs.WellFormed.{SoundProcedure}
use Rattle.storage_relation.proofs.Holders.{eqb-other}
use Rattle.run_steps.proofs.Linking.{linked_length}
use Rattle.expression_runs.specs.Variables.{number_declared, whole}
use Rattle.argument_runs.specs.Parameters.{parameter, parameter_declared}
use Rattle.pli_headline.specs.Headline.{FitsMemory, parts}
use Rattle.number_headlines.specs.Headlines.{IsNumberProgram}
use Rattle.pli_language.specs.declared.condition.Condition.TheVariants as C
use Rattle.number_headlines.specs.FewerRows.{far_body, far_main, far_program, far_spot, head_at, now_body, now_function}
use Rattle.number_headlines.specs.FewerRows.{squared_body, squared_function, squared_spot}

-- ---- it is well formed

abbrev main_entry : Around
main_entry = record { number = 1; level = 0; outermost = []; inner = [] }

abbrev squared_entry : Around
squared_entry = record { number = 2; level = 1; outermost = []; inner = [] }

abbrev now_entry : Around
now_entry = record { number = 3; level = 1; outermost = []; inner = [] }

abbrev table : Table
table = [] ∷ (main_entry ∷ []) ∷ (squared_entry ∷ main_entry ∷ []) ∷ (now_entry ∷ main_entry ∷ []) ∷ []

abbrev inside : List Around → Returning → Where
inside around returning = record { program = far_program; table = table; around = around; returning = returning }

abbrev in_main : Where
in_main = inside (main_entry ∷ []) (Returns None)

abbrev in_squared : Where
in_squared = inside (squared_entry ∷ main_entry ∷ []) (Returns (Some (Y.FixedLeaf 15)))

abbrev in_now : Where
in_now = inside (now_entry ∷ main_entry ∷ []) (Returns (Some (Y.FixedLeaf 10)))

-- ---- what is named

abbrev far_is : (around : List Around) (r : Returning) → IsAround 1 0 around → Designates (inside around r) (whole
    far_spot)
far_is around r here = record {
  d = number_declared [];
  declared = record { found = refl; same_class = refl; block_around = here };
  dimensions = 0;
  member = record { place = 0; dimensions_are = refl; part_is = refl; some = omega arith; within = omega arith };
  subscripted = inl refl;
}

far_scalar : (around : List Around) (r : Returning) → IsAround 1 0 around →
    IsScalar (inside around r) (Y.FixedLeaf 31) (whole far_spot)
far_scalar around r here = record {
  designates = far_is around r here;
  leaf = record { type = Y.FixedLeaf 31; bounds = []; initial = [] };
  one = record { one = refl; leaf_is = refl };
  type_is = refl;
  many = refl;
}

abbrev main_is : Designates in_main (whole far_spot)
main_is = far_is (main_entry ∷ []) (Returns None) (inl (refl, refl))

main_scalar : IsScalar in_main (Y.FixedLeaf 31) (whole far_spot)
main_scalar = far_scalar (main_entry ∷ []) (Returns None) (inl (refl, refl))

abbrev now_is : Designates in_now (whole far_spot)
now_is = far_is (now_entry ∷ main_entry ∷ []) (Returns (Some (Y.FixedLeaf 10))) (inr (inl (refl, refl)))

now_number : IsNumberScalar in_now (whole far_spot)
now_number =
    record {
      precision = 31;
      scalar =
          far_scalar (now_entry ∷ main_entry ∷ []) (Returns (Some (Y.FixedLeaf 10))) (inr (inl (refl, refl)));
    }

abbrev squared_is : Designates in_squared (parameter squared_spot)
squared_is = record {
  d = parameter_declared;
  declared = record { found = refl; same_class = refl; block_around = inl (refl, refl) };
  dimensions = 0;
  member = record { place = 0; dimensions_are = refl; part_is = refl; some = omega arith; within = omega arith };
  subscripted = inl refl;
}

squared_scalar : IsScalar in_squared (Y.FixedLeaf 31) (parameter squared_spot)
squared_scalar = record {
  designates = squared_is;
  leaf = record { type = Y.FixedLeaf 31; bounds = []; initial = [] };
  one = record { one = refl; leaf_is = refl };
  type_is = refl;
  many = refl;
}

squared_number : IsNumberScalar in_squared (parameter squared_spot)
squared_number = record { precision = 31; scalar = squared_scalar }

far_passes : Passes in_main parameter_declared (whole far_spot)
far_passes = record { given = record { designates = main_is; all = refl; none = refl }; taken = refl }

-- ---- procedures

main_sound : SoundProcedure table far_program far_main
main_sound = record {
  head = head_at 1 0 1;
  body = far_body;
  is = refl;
  kind = refl;
  line = omega arith;
  outer = [];
  held = refl;
  listed = refl;
  statements = (
    (
      record { type = Y.FixedLeaf 31; scalar = main_scalar; fits = refl },
      (
        (main_is, (tt, (tt, tt))),
        (((omega arith, omega arith), omega arith), omega arith),
      ),
    ),
    (
      (
        (
          (
            (now_function, refl, tt),
            (
              record {
                procedure = now_function;
                is = record {
                  found = refl;
                  level_is = refl;
                  kind = refl;
                  own = now_entry;
                  holder = main_entry;
                  outer = [];
                  entry = refl;
                  holder_around = inl (refl, refl);
                };
                passed = tt;
              },
              tt,
            ),
          ),
          omega arith,
        ),
        (
          (
            (
              record { type = Y.FixedLeaf 31; scalar = main_scalar; fits = refl },
              (
                (main_is, (tt, (tt, tt))),
                (
                  (
                    (omega arith, omega arith),
                    (
                      (squared_function, refl, tt),
                      (
                        record {
                          procedure = squared_function;
                          is = record {
                            found = refl;
                            level_is = refl;
                            kind = refl;
                            own = squared_entry;
                            holder = main_entry;
                            outer = [];
                            entry = refl;
                            holder_around = inl (refl, refl);
                          };
                          passed = ((parameter_declared, refl, far_passes), tt);
                        },
                        ((main_is, (tt, (tt, tt))), tt),
                      ),
                    ),
                  ),
                  omega arith,
                ),
              ),
            ),
            tt,
          ),
          omega arith,
        ),
      ),
      tt,
    ),
  );
  labels = (tt, (tt, ((tt, tt), tt)));
  parameters = tt;
  apart = tt;
  result = tt;
}

squared_sound : SoundProcedure table far_program squared_function
squared_sound = record {
  head = head_at 2 1 2;
  body = squared_body;
  is = refl;
  kind = refl;
  line = omega arith;
  outer = main_entry ∷ [];
  held = (refl, refl);
  listed = refl;
  statements = (
    (
      refl,
      (
        refl,
        (
          (
            (omega arith, omega arith),
            ((squared_number, (squared_is, (tt, (tt, tt)))), (squared_number, (squared_is, (tt, (tt, tt))))),
          ),
          omega arith,
        ),
      ),
    ),
    tt,
  );
  labels = (tt, (tt, tt));
  parameters = (record { d = parameter_declared; found = refl; class_is = refl }, tt);
  apart = (refl, tt);
  result = (omega arith, omega arith);
}

now_sound : SoundProcedure table far_program now_function
now_sound = record {
  head = head_at 3 1 5;
  body = now_body;
  is = refl;
  kind = refl;
  line = omega arith;
  outer = main_entry ∷ [];
  held = (refl, refl);
  listed = refl;
  statements = (
    (
      refl,
      (
        refl,
        (
          (
            (omega arith, omega arith),
            (
              now_number,
              (now_is, (tt, (tt, tt))),
            ),
          ),
          omega arith,
        ),
      ),
    ),
    tt,
  );
  labels = (tt, (tt, tt));
  parameters = tt;
  apart = tt;
  result = (omega arith, omega arith);
}

-- ---- the program

far_entries : (number : ℕ) → 1 ≤ number → number < 4 → IsEntry table number
far_entries zero low high = absurd (omega (arith, low))
far_entries (suc zero) low high =
    record { own = main_entry; outer = []; entry = refl; number_is = refl; shallow = omega arith }
far_entries (suc (suc zero)) low high =
    record { own = squared_entry; outer = main_entry ∷ []; entry = refl; number_is = refl; shallow = omega arith }
far_entries (suc (suc (suc zero))) low high =
    record { own = now_entry; outer = main_entry ∷ []; entry = refl; number_is = refl; shallow = omega arith }
far_entries (suc (suc (suc (suc n)))) low high = absurd (omega (arith, high))

none_between :
    (high m : ℕ) (a : Around) (more : List Around) → high < 4 → 1 < m → m ≤ high →
    slice_get table m ≡ Some (a ∷ more) → 0 < a.level
none_between high zero a more few low within e = absurd (omega (arith, low))
none_between high (suc zero) a more few low within e = absurd (omega (arith, low))
none_between high (suc (suc zero)) a more few low within e =
    let is : squared_entry ≡ a = cc e in
    subst (λ (x : Around). 0 < x.level) is (omega arith)
none_between high (suc (suc (suc zero))) a more few low within e =
    let is : now_entry ≡ a = cc e in
    subst (λ (x : Around). 0 < x.level) is (omega arith)
none_between high (suc (suc (suc (suc n)))) a more few low within e = absurd (omega (arith, few, within))

far_nested : AreNested table
far_nested zero own outer e = absurd (cc e)
far_nested (suc zero) own outer e =
    let is : [] ≡ outer = cc e in
    subst (λ os. IsBehind table 1 os) is tt
far_nested (suc (suc zero)) own outer e =
    let is : main_entry ∷ [] ≡ outer = cc e in
    subst (λ os. IsBehind table 2 os) is
    (omega arith, λ m a more low high at. none_between 2 m a more (omega arith) low high at)
far_nested (suc (suc (suc zero))) own outer e =
    let is : main_entry ∷ [] ≡ outer = cc e in
    subst (λ os. IsBehind table 3 os) is
    (omega arith, λ m a more low high at. none_between 3 m a more (omega arith) low high at)
far_nested (suc (suc (suc (suc n)))) own outer e = absurd (cc e)

far_numbers : AreNumbered 4 (1 ∷ 2 ∷ 3 ∷ [])
far_numbers = record { once = once; none = none; not_outermost = refl }
  where
    once : (n : ℕ) → 1 ≤ n → n < 4 → times n (1 ∷ 2 ∷ 3 ∷ []) ≡ 1
    once zero low high = absurd (omega (arith, low))
    once (suc zero) low high = refl
    once (suc (suc zero)) low high = refl
    once (suc (suc (suc zero))) low high = refl
    once (suc (suc (suc (suc n)))) low high = absurd (omega (arith, high))

    none : (n : ℕ) → 4 ≤ n → times n (1 ∷ 2 ∷ 3 ∷ []) ≡ 0
    none n low =
        simp (
          eqb-other n 1 (λ e. omega (arith, e, low)),
          eqb-other n 2 (λ e. omega (arith, e, low)),
          eqb-other n 3 (λ e. omega (arith, e, low)),
        ) refl

number_sound : (w : Where) (index : ℕ) → SoundVariable w index (number_declared [])
number_sound w index = record {
  members = (refl, tt);
  many = refl;
  dimensions = (refl, tt);
  leaves = (record { type_is = (omega arith, omega arith); bounds_are = tt; few = omega arith; initial_is = tt }, tt);
  areas = inl (tt, tt);
  refer = tt;
  kept = ((λ k. k, tt), tt);
  evaluations = tt;
}

parameter_sound : (w : Where) (index : ℕ) → SoundVariable w index parameter_declared
parameter_sound w index = record {
  members = (refl, tt);
  many = refl;
  dimensions = (refl, tt);
  leaves = (record { type_is = (omega arith, omega arith); bounds_are = tt; few = omega arith; initial_is = tt }, tt);
  areas = inl (tt, tt);
  refer = tt;
  kept = ((λ k. k, tt), tt);
  evaluations = tt;
}

far_declares : (number : ℕ) → DeclaresSound table far_program number
far_declares zero around e = tt
far_declares (suc zero) around e = (number_sound _ 0, tt)
far_declares (suc (suc zero)) around e = (parameter_sound _ 0, tt)
far_declares (suc (suc (suc zero))) around e = tt
far_declares (suc (suc (suc (suc n)))) around e = absurd (cc e)

far_well : IsWellFormed far_program
far_well = record {
  table = table;
  main = (refl, (refl, (omega arith, (omega arith, tt))));
  numbers = far_numbers;
  entries = far_entries;
  nested = far_nested;
  procedures = (main_sound, (squared_sound, (now_sound, tt)));
  lists = refl;
  outermost = refl;
  variables = far_declares;
}

-- ---- it is of the class

pub far_program_is : IsNumberProgram far_program
far_program_is = record { well_formed = far_well; numbers = refl }

pub far_fits : FitsMemory (picture_of parts far_program)
far_fits =
    let n = linked_length (links_of (code_of parts far_program)) 0 (code_of parts far_program) in
    record { code_fits = omega (arith, n); statics_fit = omega arith }

-- ---- what it comes to

unfoldable flows : Unit {0}
unfolding F.give F.◌>>=◌ F.◌>>◌ F.looked F.stored F.act F.finish F.returns F.jumps F.choose F.given F.list_from
    F.leaving F.repeated_while M.met_after_act
flows = tt

unfoldable values : Unit {0}
unfolding V.number V.bit V.designated V.located V.numbers V.variable_designated V.part_designated V.stored_value
    R.or_error R.demanded R.value_of R.raised R.unit_run R.error R.error_unit_run P.element_stored M.assigned
values = tt

unfoldable writings : Unit {0}
unfolding S.put S.pairs_put S.items_put S.item_put S.next_item S.controls S.control_put S.shown_by V.computational
writings = tt

unfoldable calls : Unit {0}
unfolding V.called V.arguments V.argument V.all_passed_last V.passed_last V.procedure_entered V.returned
calls = tt

unfoldable makings : Unit {0}
unfolding K.variables_made K.automatic_made K.extents K.variable_made K.parameter_bound K.parameters_bound
makings = tt

unfoldable statements : Unit {0}
unfolding M.statement M.statements M.list M.list_with M.block_variables_made M.entry_act M.block_list M.block_body
    M.turn_due M.within_limit M.condition_met M.counter_number M.counter_value M.counter_started M.stepped M.limit_of
statements = tt

pub far_ends :
    (input : List ℕ) →
    M.meaning far_program input 30
    ≡ Some (record {
      acts = 30;
      output = [];
      raised = (C.FixedOverflow, 20) ∷ (C.Error, 20) ∷ [];
      end = E.Error 20 3;
    })
unfolding M.meaning M.run M.entered M.block_run flows values writings calls makings statements
far_ends input = refl
