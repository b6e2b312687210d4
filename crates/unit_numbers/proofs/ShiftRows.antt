-- The worked row whose units change in a loop: a program of the class, which is computed from its tree.
use Rattle.std.proofs.Common.{◌≡◌, ℕ, zero, suc, ◌≤◌, ◌<◌, List, [], ◌∷◌, Some, None, refl, subst, inl, inr}
use Rattle.std.proofs.Common.{arith}
use Rattle.std.specs.Prelude.{slice_get}
use Rattle.pli_language.specs.declared.condition.Condition.TheVariants as C
use Rattle.pli_typing.specs.TypedTree as Y
use Rattle.pli_meaning.specs.declared.outcome.End.TheVariants as E
use Rattle.pli_meaning.specs.Control as F
use Rattle.pli_meaning.specs.Evaluating as V
use Rattle.pli_meaning.specs.Executing as M
use Rattle.pli_meaning.specs.Making as K
use Rattle.pli_meaning.specs.Placing as P
use Rattle.pli_meaning.specs.Raising as R
use Rattle.pli_coding.specs.Images.{code_of, picture_of}
use Rattle.pli_coding.specs.Linking.{links_of}
use Rattle.well_formed_trees.specs.Blocks.{times}
use Rattle.well_formed_trees.specs.Declarations.{SoundVariable}
use Rattle.well_formed_trees.specs.References.{Designates, IsNumberScalar, IsScalar}
use Rattle.well_formed_trees.specs.Surroundings.{Around, NoReturn, Returns, Table, Where}
use Rattle.well_formed_trees.specs.WellFormed.{AreNested, AreNumbered, DeclaresSound, IsBehind, IsEntry, IsWellFormed}
use Rattle.well_formed_trees.specs.WellFormed.{SoundProcedure}
use Rattle.storage_relation.proofs.Holders.{eqb-other}
use Rattle.run_steps.proofs.Linking.{linked_length}
use Rattle.expression_runs.specs.Variables.{number_declared, whole}
use Rattle.pli_headline.specs.Headline.{FitsMemory, parts}
use Rattle.unit_numbers.specs.Headlines.{IsUnitProgram}
use Rattle.unit_numbers.specs.ShiftRows.{shift_body, shift_head, shift_label, shift_main, shift_program, shift_spot}

-- ---- it is well formed

abbrev main_entry : Around
main_entry = record { number = 1; level = 0; outermost = []; inner = [] }

abbrev unit_entry : (number : ℕ) → Around
unit_entry number = record { number = number; level = 1; outermost = []; inner = [] }

abbrev table : Table
table = [] ∷ (main_entry ∷ []) ∷ (unit_entry 2 ∷ main_entry ∷ []) ∷ (unit_entry 3 ∷ main_entry ∷ []) ∷ []

abbrev in_main : Where
in_main = record { program = shift_program; table = table; around = main_entry ∷ []; returning = Returns None }

abbrev in_the_unit : (number : ℕ) → Where
in_the_unit number =
    record {
      program = shift_program;
      table = table;
      around = unit_entry number ∷ main_entry ∷ [];
      returning = NoReturn;
    }

abbrev main_is : Designates in_main (whole shift_spot)
main_is = record {
  d = number_declared [];
  declared = record { found = refl; same_class = refl; block_around = inl (refl, refl) };
  dimensions = 0;
  member = record { place = 0; dimensions_are = refl; part_is = refl; some = omega arith; within = omega arith };
  subscripted = inl refl;
}

abbrev unit_is : (number : ℕ) → Designates (in_the_unit number) (whole shift_spot)
unit_is number = record {
  d = number_declared [];
  declared = record { found = refl; same_class = refl; block_around = inr (inl (refl, refl)) };
  dimensions = 0;
  member = record { place = 0; dimensions_are = refl; part_is = refl; some = omega arith; within = omega arith };
  subscripted = inl refl;
}

main_scalar : IsScalar in_main (Y.FixedLeaf 31) (whole shift_spot)
main_scalar = record {
  designates = main_is;
  leaf = record { type = Y.FixedLeaf 31; bounds = []; initial = [] };
  one = record { one = refl; leaf_is = refl };
  type_is = refl;
  many = refl;
}

unit_scalar : (number : ℕ) → IsScalar (in_the_unit number) (Y.FixedLeaf 31) (whole shift_spot)
unit_scalar number = record {
  designates = unit_is number;
  leaf = record { type = Y.FixedLeaf 31; bounds = []; initial = [] };
  one = record { one = refl; leaf_is = refl };
  type_is = refl;
  many = refl;
}

main_number : IsNumberScalar in_main (whole shift_spot)
main_number = record { precision = 31; scalar = main_scalar }

shift_sound : SoundProcedure table shift_program shift_main
shift_sound = record {
  head = shift_head;
  body = shift_body;
  is = refl;
  kind = refl;
  line = omega arith;
  outer = [];
  held = refl;
  listed = refl;
  statements = (
    (
      record { type = Y.FixedLeaf 31; scalar = main_scalar; fits = refl },
      ((main_is, (tt, (tt, tt))), (((omega arith, omega arith), omega arith), omega arith)),
    ),
    (
      omega arith,
      (
        (
          ((main_number, (main_is, (tt, (tt, tt)))), omega arith),
          (
            (
              (
                ((main_number, (main_is, (tt, (tt, tt)))), omega arith),
                (
                  (
                    (tt, (record { line = omega arith; level = refl }, refl)),
                    (
                      (
                        (
                          record { type = Y.FixedLeaf 31; scalar = unit_scalar 2; fits = refl },
                          ((unit_is 2, (tt, (tt, tt))), (((omega arith, omega arith), omega arith), omega arith)),
                        ),
                        tt,
                      ),
                      omega arith,
                    ),
                  ),
                  (
                    (
                      (
                        (
                          (tt, (record { line = omega arith; level = refl }, refl)),
                          (
                            (
                              (
                                record { type = Y.FixedLeaf 31; scalar = unit_scalar 3; fits = refl },
                                ((unit_is 3, (tt, (tt, tt))), (((omega arith, omega arith), omega arith), omega arith)),
                              ),
                              tt,
                            ),
                            omega arith,
                          ),
                        ),
                        tt,
                      ),
                      omega arith,
                    ),
                    omega arith,
                  ),
                ),
              ),
              (
                (
                  ((omega arith, (main_number, (main_is, (tt, (tt, tt))))), (main_number, (main_is, (tt, (tt, tt))))),
                  (omega arith, omega arith),
                ),
                tt,
              ),
            ),
            omega arith,
          ),
        ),
        (
          omega arith,
          (
            (
              record { type = Y.FixedLeaf 31; scalar = main_scalar; fits = refl },
              (
                (main_is, (tt, (tt, tt))),
                (
                  (
                    (omega arith, omega arith),
                    (
                      omega arith,
                      (
                        main_number,
                        (
                          main_is,
                          (
                            tt,
                            (tt, tt),
                          ),
                        ),
                      ),
                    ),
                  ),
                  omega arith,
                ),
              ),
            ),
            tt,
          ),
        ),
      ),
    ),
  );
  labels = (
    (refl, tt),
    (tt, (tt, ((((tt, (tt, tt)), ((tt, (tt, tt)), tt)), (tt, tt)), (tt, (tt, tt))))),
  );
  parameters = tt;
  apart = tt;
  result = tt;
}

shift_entries : (number : ℕ) → 1 ≤ number → number < 4 → IsEntry table number
shift_entries zero low high = absurd (omega (arith, low))
shift_entries (suc zero) low high =
    record { own = main_entry; outer = []; entry = refl; number_is = refl; shallow = omega arith }
shift_entries (suc (suc zero)) low high =
    record { own = unit_entry 2; outer = main_entry ∷ []; entry = refl; number_is = refl; shallow = omega arith }
shift_entries (suc (suc (suc zero))) low high =
    record { own = unit_entry 3; outer = main_entry ∷ []; entry = refl; number_is = refl; shallow = omega arith }
shift_entries (suc (suc (suc (suc n)))) low high = absurd (omega (arith, high))

-- only units stand behind the beginning of the main procedure
none_between :
    (high m : ℕ) (a : Around) (more : List Around) → high < 4 → 1 < m → m ≤ high →
    slice_get table m ≡ Some (a ∷ more) → 0 < a.level
none_between high zero a more few low within e = absurd (omega (arith, low))
none_between high (suc zero) a more few low within e = absurd (omega (arith, low))
none_between high (suc (suc zero)) a more few low within e =
    let is : unit_entry 2 ≡ a = cc e in
    subst (λ (x : Around). 0 < x.level) is (omega arith)
none_between high (suc (suc (suc zero))) a more few low within e =
    let is : unit_entry 3 ≡ a = cc e in
    subst (λ (x : Around). 0 < x.level) is (omega arith)
none_between high (suc (suc (suc (suc n)))) a more few low within e = absurd (omega (arith, few, within))

shift_nested : AreNested table
shift_nested zero own outer e = absurd (cc e)
shift_nested (suc zero) own outer e =
    let is : [] ≡ outer = cc e in
    subst (λ os. IsBehind table 1 os) is tt
shift_nested (suc (suc zero)) own outer e =
    let is : main_entry ∷ [] ≡ outer = cc e in
    subst (λ os. IsBehind table 2 os) is
    (omega arith, λ m a more low high at. none_between 2 m a more (omega arith) low high at)
shift_nested (suc (suc (suc zero))) own outer e =
    let is : main_entry ∷ [] ≡ outer = cc e in
    subst (λ os. IsBehind table 3 os) is
    (omega arith, λ m a more low high at. none_between 3 m a more (omega arith) low high at)
shift_nested (suc (suc (suc (suc n)))) own outer e = absurd (cc e)

shift_numbers : AreNumbered 4 (1 ∷ 2 ∷ 3 ∷ [])
shift_numbers = record { once = once; none = none; not_outermost = refl }
  where
    once : (n : ℕ) → 1 ≤ n → n < 4 → times n (1 ∷ 2 ∷ 3 ∷ []) ≡ 1
    once zero low high = absurd (omega (arith, low))
    once (suc zero) low high = refl
    once (suc (suc zero)) low high = refl
    once (suc (suc (suc zero))) low high = refl
    once (suc (suc (suc (suc n)))) low high = absurd (omega (arith, high))

    none : (n : ℕ) → 4 ≤ n → times n (1 ∷ 2 ∷ 3 ∷ []) ≡ 0
    none n low =
        simp (
          eqb-other n 1 (λ e. omega (arith, e, low)),
          eqb-other n 2 (λ e. omega (arith, e, low)),
          eqb-other n 3 (λ e. omega (arith, e, low)),
        ) refl

number_sound : (w : Where) → SoundVariable w 0 (number_declared [])
number_sound w = record {
  members = (refl, tt);
  many = refl;
  dimensions = (refl, tt);
  leaves = (record { type_is = (omega arith, omega arith); bounds_are = tt; few = omega arith; initial_is = tt }, tt);
  areas = inl (tt, tt);
  refer = tt;
  kept = ((λ k. k, tt), tt);
  evaluations = tt;
}

shift_declares : (number : ℕ) → DeclaresSound table shift_program number
shift_declares zero around e = tt
shift_declares (suc zero) around e = (number_sound _, tt)
shift_declares (suc (suc zero)) around e = tt
shift_declares (suc (suc (suc zero))) around e = tt
shift_declares (suc (suc (suc (suc n)))) around e = absurd (cc e)

shift_well : IsWellFormed shift_program
shift_well = record {
  table = table;
  main = (refl, (refl, tt));
  numbers = shift_numbers;
  entries = shift_entries;
  nested = shift_nested;
  procedures = (shift_sound, tt);
  lists = refl;
  outermost = refl;
  variables = shift_declares;
}

-- ---- it is of the class

pub shift_program_is : IsUnitProgram shift_program
shift_program_is = record { well_formed = shift_well; units = refl }

pub shift_fits : FitsMemory (picture_of parts shift_program)
shift_fits =
    let n = linked_length (links_of (code_of parts shift_program)) 0 (code_of parts shift_program) in
    record { code_fits = omega (arith, n); statics_fit = omega arith }

-- ---- what it comes to

unfoldable flows : Unit {0}
unfolding F.give F.◌>>=◌ F.◌>>◌ F.looked F.stored F.act F.finish F.returns F.jumps F.choose F.given F.list_from
    F.leaving F.repeated_while
flows = tt

unfoldable values : Unit {0}
unfolding V.number V.bit V.designated V.located V.numbers V.variable_designated V.part_designated V.stored_value
    R.or_error R.demanded R.value_of R.raised R.unit_run R.error R.error_unit_run P.element_stored M.assigned
values = tt

unfoldable makings : Unit {0}
unfolding K.variables_made K.automatic_made K.extents K.variable_made K.parameters_bound
makings = tt

unfoldable statements : Unit {0}
unfolding M.statement M.statements M.list M.list_with M.block_variables_made M.entry_act M.block_list M.block_body
    M.established_by M.met_after_act
statements = tt

pub shift_ends :
    (input : List ℕ) →
    M.meaning shift_program input 40
    ≡ Some (record {
      acts = 25;
      output = [];
      raised = (C.FixedOverflow, 20) ∷ (C.FixedOverflow, 20) ∷ (C.FixedOverflow, 20) ∷ (C.Error, 20) ∷ [];
      end = E.Error 20 10;
    })
unfolding M.meaning M.run M.entered M.block_run flows values makings statements
shift_ends input = refl
