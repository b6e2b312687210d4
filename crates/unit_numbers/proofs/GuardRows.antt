-- The worked row with calls: a program of the class, which is computed from its tree.
use Rattle.std.proofs.Common.{◌≡◌, ℕ, zero, suc, ◌≤◌, ◌<◌, List, [], ◌∷◌, Some, None, refl, subst, inl, inr}
use Rattle.std.proofs.Common.{arith}
use Rattle.std.specs.Prelude.{slice_get}
use Rattle.pli_language.specs.declared.condition.Condition.TheVariants as C
use Rattle.pli_typing.specs.TypedTree as Y
use Rattle.pli_meaning.specs.declared.outcome.End.TheVariants as E
use Rattle.pli_meaning.specs.Control as F
use Rattle.pli_meaning.specs.Evaluating as V
use Rattle.pli_meaning.specs.Executing as M
use Rattle.pli_meaning.specs.Making as K
use Rattle.pli_meaning.specs.Placing as P
use Rattle.pli_meaning.specs.Raising as R
use Rattle.pli_coding.specs.Images.{code_of, picture_of}
use Rattle.pli_coding.specs.Linking.{links_of}
use Rattle.well_formed_trees.specs.Blocks.{times}
use Rattle.well_formed_trees.specs.Declarations.{SoundVariable}
use Rattle.well_formed_trees.specs.References.{Designates, IsNumberScalar, IsScalar}
use Rattle.well_formed_trees.specs.Surroundings.{Around, NoReturn, Returns, Table, Where}
use Rattle.well_formed_trees.specs.WellFormed.{AreNested, AreNumbered, DeclaresSound, IsBehind, IsEntry, IsWellFormed}
use Rattle.well_formed_trees.specs.WellFormed.{SoundProcedure}
use Rattle.storage_relation.proofs.Holders.{eqb-other}
use Rattle.run_steps.proofs.Linking.{linked_length}
use Rattle.expression_runs.specs.Variables.{number_declared, whole}
use Rattle.pli_headline.specs.Headline.{FitsMemory, parts}
use Rattle.unit_numbers.specs.GuardRows.{guard_body, guard_label, guard_main, guard_program, guard_spot, head_at}
use Rattle.unit_numbers.specs.GuardRows.{over_body, over_function, twice_body, twice_procedure}
use Rattle.unit_numbers.specs.Headlines.{IsUnitProgram}

-- ---- it is well formed

abbrev main_entry : Around
main_entry = record { number = 1; level = 0; outermost = guard_label ∷ []; inner = [] }

abbrev twice_entry : Around
twice_entry = record { number = 2; level = 1; outermost = []; inner = [] }

abbrev over_entry : Around
over_entry = record { number = 3; level = 1; outermost = []; inner = [] }

abbrev unit_entry : Around
unit_entry = record { number = 4; level = 1; outermost = []; inner = [] }

abbrev table : Table
table =
    [] ∷ (main_entry ∷ []) ∷ (twice_entry ∷ main_entry ∷ []) ∷ (over_entry ∷ main_entry ∷ [])
    ∷ (unit_entry ∷ main_entry ∷ []) ∷ []

abbrev in_main : Where
in_main = record { program = guard_program; table = table; around = main_entry ∷ []; returning = Returns None }

abbrev in_twice : Where
in_twice =
    record { program = guard_program; table = table; around = twice_entry ∷ main_entry ∷ []; returning = Returns None }

abbrev in_over : Where
in_over =
    record {
      program = guard_program;
      table = table;
      around = over_entry ∷ main_entry ∷ [];
      returning = Returns (Some (Y.FixedLeaf 31));
    }

abbrev in_one : Where
in_one =
    record { program = guard_program; table = table; around = unit_entry ∷ main_entry ∷ []; returning = NoReturn }

abbrev at_main : Designates in_main (whole guard_spot)
at_main = record {
  d = number_declared [];
  declared = record { found = refl; same_class = refl; block_around = inl (refl, refl) };
  dimensions = 0;
  member = record { place = 0; dimensions_are = refl; part_is = refl; some = omega arith; within = omega arith };
  subscripted = inl refl;
}

abbrev at_twice : Designates in_twice (whole guard_spot)
at_twice = record {
  d = number_declared [];
  declared = record { found = refl; same_class = refl; block_around = inr (inl (refl, refl)) };
  dimensions = 0;
  member = record { place = 0; dimensions_are = refl; part_is = refl; some = omega arith; within = omega arith };
  subscripted = inl refl;
}

abbrev at_over : Designates in_over (whole guard_spot)
at_over = record {
  d = number_declared [];
  declared = record { found = refl; same_class = refl; block_around = inr (inl (refl, refl)) };
  dimensions = 0;
  member = record { place = 0; dimensions_are = refl; part_is = refl; some = omega arith; within = omega arith };
  subscripted = inl refl;
}

abbrev at_one : Designates in_one (whole guard_spot)
at_one = record {
  d = number_declared [];
  declared = record { found = refl; same_class = refl; block_around = inr (inl (refl, refl)) };
  dimensions = 0;
  member = record { place = 0; dimensions_are = refl; part_is = refl; some = omega arith; within = omega arith };
  subscripted = inl refl;
}

main_scalar : IsScalar in_main (Y.FixedLeaf 31) (whole guard_spot)
main_scalar = record {
  designates = at_main;
  leaf = record { type = Y.FixedLeaf 31; bounds = []; initial = [] };
  one = record { one = refl; leaf_is = refl };
  type_is = refl;
  many = refl;
}

twice_scalar : IsScalar in_twice (Y.FixedLeaf 31) (whole guard_spot)
twice_scalar = record {
  designates = at_twice;
  leaf = record { type = Y.FixedLeaf 31; bounds = []; initial = [] };
  one = record { one = refl; leaf_is = refl };
  type_is = refl;
  many = refl;
}

over_scalar : IsScalar in_over (Y.FixedLeaf 31) (whole guard_spot)
over_scalar = record {
  designates = at_over;
  leaf = record { type = Y.FixedLeaf 31; bounds = []; initial = [] };
  one = record { one = refl; leaf_is = refl };
  type_is = refl;
  many = refl;
}

one_scalar : IsScalar in_one (Y.FixedLeaf 31) (whole guard_spot)
one_scalar = record {
  designates = at_one;
  leaf = record { type = Y.FixedLeaf 31; bounds = []; initial = [] };
  one = record { one = refl; leaf_is = refl };
  type_is = refl;
  many = refl;
}

main_sound : SoundProcedure table guard_program guard_main
main_sound = record {
  head = head_at 1 0 1;
  body = guard_body;
  is = refl;
  kind = refl;
  line = omega arith;
  outer = [];
  held = refl;
  listed = refl;
  statements = (
    (
      record { type = Y.FixedLeaf 31; scalar = main_scalar; fits = refl },
      ((at_main, (tt, (tt, tt))), (((omega arith, omega arith), omega arith), omega arith)),
    ),
    (
      (
        (tt, (record { line = omega arith; level = refl }, refl)),
        (
          (
            (
              record { type = Y.FixedLeaf 31; scalar = one_scalar; fits = refl },
              ((at_one, (tt, (tt, tt))), (((omega arith, omega arith), omega arith), omega arith)),
            ),
            tt,
          ),
          omega arith,
        ),
      ),
      (
        (
          (refl, (record { line = omega arith; level = refl }, tt)),
          (((inr (inl (refl, refl)), omega arith), tt), omega arith),
        ),
        (
          (
            (twice_procedure, refl, refl),
            (
              (
                record {
                  procedure = twice_procedure;
                  is = record {
                    found = refl;
                    level_is = refl;
                    kind = refl;
                    own = twice_entry;
                    holder = main_entry;
                    outer = [];
                    entry = refl;
                    holder_around = inl (refl, refl);
                  };
                  passed = tt;
                },
                tt,
              ),
              omega arith,
            ),
          ),
          (
            (
              record { type = Y.FixedLeaf 31; scalar = main_scalar; fits = refl },
              (
                (at_main, (tt, (tt, tt))),
                (
                  (
                    (omega arith, omega arith),
                    (
                      (over_function, refl, tt),
                      (
                        record {
                          procedure = over_function;
                          is = record {
                            found = refl;
                            level_is = refl;
                            kind = refl;
                            own = over_entry;
                            holder = main_entry;
                            outer = [];
                            entry = refl;
                            holder_around = inl (refl, refl);
                          };
                          passed = tt;
                        },
                        tt,
                      ),
                    ),
                  ),
                  omega arith,
                ),
              ),
            ),
            (omega arith, tt),
          ),
        ),
      ),
    ),
  );
  labels = ((refl, tt), (tt, ((tt, (tt, tt)), ((tt, (tt, tt)), (tt, (tt, (tt, tt)))))));
  parameters = tt;
  apart = tt;
  result = tt;
}

twice_sound : SoundProcedure table guard_program twice_procedure
twice_sound = record {
  head = head_at 2 1 3;
  body = twice_body;
  is = refl;
  kind = refl;
  line = omega arith;
  outer = main_entry ∷ [];
  held = (refl, refl);
  listed = refl;
  statements = (
    (
      record { type = Y.FixedLeaf 31; scalar = twice_scalar; fits = refl },
      (
        (at_twice, (tt, (tt, tt))),
        (
          (
            (omega arith, omega arith),
            (
              (record { precision = 31; scalar = twice_scalar }, (at_twice, (tt, (tt, tt)))),
              (record { precision = 31; scalar = twice_scalar }, (at_twice, (tt, (tt, tt)))),
            ),
          ),
          omega arith,
        ),
      ),
    ),
    tt,
  );
  labels = (tt, (tt, tt));
  parameters = tt;
  apart = tt;
  result = tt;
}

over_number : IsNumberScalar in_over (whole guard_spot)
over_number = record { precision = 31; scalar = over_scalar }

over_sound : SoundProcedure table guard_program over_function
over_sound = record {
  head = head_at 3 1 4;
  body = over_body;
  is = refl;
  kind = refl;
  line = omega arith;
  outer = main_entry ∷ [];
  held = (refl, refl);
  listed = refl;
  statements = (
    (
      refl,
      (
        refl,
        (
          (
            (omega arith, omega arith),
            (
              (over_number, (at_over, (tt, (tt, tt)))),
              ((over_number, (at_over, (tt, (tt, tt)))), (over_number, (at_over, (tt, (tt, tt))))),
            ),
          ),
          omega arith,
        ),
      ),
    ),
    tt,
  );
  labels = (tt, (tt, tt));
  parameters = tt;
  apart = tt;
  result = (omega arith, omega arith);
}

guard_entries : (number : ℕ) → 1 ≤ number → number < 5 → IsEntry table number
guard_entries zero low high = absurd (omega (arith, low))
guard_entries (suc zero) low high =
    record { own = main_entry; outer = []; entry = refl; number_is = refl; shallow = omega arith }
guard_entries (suc (suc zero)) low high =
    record { own = twice_entry; outer = main_entry ∷ []; entry = refl; number_is = refl; shallow = omega arith }
guard_entries (suc (suc (suc zero))) low high =
    record { own = over_entry; outer = main_entry ∷ []; entry = refl; number_is = refl; shallow = omega arith }
guard_entries (suc (suc (suc (suc zero)))) low high =
    record { own = unit_entry; outer = main_entry ∷ []; entry = refl; number_is = refl; shallow = omega arith }
guard_entries (suc (suc (suc (suc (suc n))))) low high = absurd (omega (arith, high))

-- between the main procedure and a block in it stand those of its level and none further out
none_between :
    (high m : ℕ) (a : Around) (more : List Around) → high < 5 → 1 < m → m ≤ high →
    slice_get table m ≡ Some (a ∷ more) → 0 < a.level
none_between high zero a more few low within e = absurd (omega (arith, low))
none_between high (suc zero) a more few low within e = absurd (omega (arith, low))
none_between high (suc (suc zero)) a more few low within e =
    let is : twice_entry ≡ a = cc e in
    subst (λ (x : Around). 0 < x.level) is (omega arith)
none_between high (suc (suc (suc zero))) a more few low within e =
    let is : over_entry ≡ a = cc e in
    subst (λ (x : Around). 0 < x.level) is (omega arith)
none_between high (suc (suc (suc (suc zero)))) a more few low within e =
    let is : unit_entry ≡ a = cc e in
    subst (λ (x : Around). 0 < x.level) is (omega arith)
none_between high (suc (suc (suc (suc (suc n))))) a more few low within e = absurd (omega (arith, few, within))

guard_nested : AreNested table
guard_nested zero own outer e = absurd (cc e)
guard_nested (suc zero) own outer e =
    let is : [] ≡ outer = cc e in
    subst (λ os. IsBehind table 1 os) is tt
guard_nested (suc (suc zero)) own outer e =
    let is : main_entry ∷ [] ≡ outer = cc e in
    subst (λ os. IsBehind table 2 os) is
    (omega arith, λ m a more low high at. none_between 2 m a more (omega arith) low high at)
guard_nested (suc (suc (suc zero))) own outer e =
    let is : main_entry ∷ [] ≡ outer = cc e in
    subst (λ os. IsBehind table 3 os) is
    (omega arith, λ m a more low high at. none_between 3 m a more (omega arith) low high at)
guard_nested (suc (suc (suc (suc zero)))) own outer e =
    let is : main_entry ∷ [] ≡ outer = cc e in
    subst (λ os. IsBehind table 4 os) is
    (omega arith, λ m a more low high at. none_between 4 m a more (omega arith) low high at)
guard_nested (suc (suc (suc (suc (suc n))))) own outer e = absurd (cc e)

guard_numbers : AreNumbered 5 (1 ∷ 4 ∷ 2 ∷ 3 ∷ [])
guard_numbers = record { once = once; none = none; not_outermost = refl }
  where
    once : (n : ℕ) → 1 ≤ n → n < 5 → times n (1 ∷ 4 ∷ 2 ∷ 3 ∷ []) ≡ 1
    once zero low high = absurd (omega (arith, low))
    once (suc zero) low high = refl
    once (suc (suc zero)) low high = refl
    once (suc (suc (suc zero))) low high = refl
    once (suc (suc (suc (suc zero)))) low high = refl
    once (suc (suc (suc (suc (suc n))))) low high = absurd (omega (arith, high))

    none : (n : ℕ) → 5 ≤ n → times n (1 ∷ 4 ∷ 2 ∷ 3 ∷ []) ≡ 0
    none n low =
        simp (
          eqb-other n 1 (λ e. omega (arith, e, low)),
          eqb-other n 4 (λ e. omega (arith, e, low)),
          eqb-other n 2 (λ e. omega (arith, e, low)),
          eqb-other n 3 (λ e. omega (arith, e, low)),
        ) refl

number_sound : (w : Where) → SoundVariable w 0 (number_declared [])
number_sound w = record {
  members = (refl, tt);
  many = refl;
  dimensions = (refl, tt);
  leaves = (record { type_is = (omega arith, omega arith); bounds_are = tt; few = omega arith; initial_is = tt }, tt);
  areas = inl (tt, tt);
  refer = tt;
  kept = ((λ k. k, tt), tt);
  evaluations = tt;
}

guard_declares : (number : ℕ) → DeclaresSound table guard_program number
guard_declares zero around e = tt
guard_declares (suc zero) around e = (number_sound _, tt)
guard_declares (suc (suc zero)) around e = tt
guard_declares (suc (suc (suc zero))) around e = tt
guard_declares (suc (suc (suc (suc zero)))) around e = tt
guard_declares (suc (suc (suc (suc (suc n))))) around e = absurd (cc e)

guard_well : IsWellFormed guard_program
guard_well = record {
  table = table;
  main = (refl, (refl, (omega arith, (omega arith, tt))));
  numbers = guard_numbers;
  entries = guard_entries;
  nested = guard_nested;
  procedures = (main_sound, (twice_sound, (over_sound, tt)));
  lists = refl;
  outermost = refl;
  variables = guard_declares;
}

-- ---- it is of the class

pub guard_program_is : IsUnitProgram guard_program
guard_program_is = record { well_formed = guard_well; units = refl }

pub guard_fits : FitsMemory (picture_of parts guard_program)
guard_fits =
    let n = linked_length (links_of (code_of parts guard_program)) 0 (code_of parts guard_program) in
    record { code_fits = omega (arith, n); statics_fit = omega arith }

-- ---- what it comes to

unfoldable flows : Unit {0}
unfolding F.give F.◌>>=◌ F.◌>>◌ F.looked F.stored F.act F.finish F.returns F.jumps F.choose F.given F.list_from
    F.leaving F.repeated_while M.met_after_act
flows = tt

unfoldable values : Unit {0}
unfolding V.number V.bit V.designated V.located V.numbers V.variable_designated V.part_designated V.stored_value
    R.or_error R.demanded R.value_of R.raised R.unit_run R.error R.error_unit_run P.element_stored M.assigned
values = tt

unfoldable calls : Unit {0}
unfolding V.called V.all_passed_last V.procedure_entered V.returned
calls = tt

unfoldable makings : Unit {0}
unfolding K.variables_made K.automatic_made K.extents K.variable_made K.parameters_bound
makings = tt

unfoldable statements : Unit {0}
unfolding M.statement M.statements M.list M.list_with M.block_variables_made M.entry_act M.block_list M.block_body
    M.established_by
statements = tt

pub guard_ends :
    (input : List ℕ) →
    M.meaning guard_program input 18
    ≡ Some (record {
      acts = 18;
      output = [];
      raised = (C.FixedOverflow, 20) ∷ (C.ZeroDivide, 30) ∷ [];
      end = E.Finished;
    })
unfolding M.meaning M.run M.entered M.block_run flows values calls makings statements
guard_ends input = refl
