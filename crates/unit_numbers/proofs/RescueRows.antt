-- The worked row with a unit for ERROR: a program of the class, which is computed from its tree.
use Rattle.std.proofs.Common.{◌≡◌, ℕ, zero, suc, ◌≤◌, ◌<◌, List, [], ◌∷◌, Some, None, refl, subst, inl, inr}
use Rattle.std.proofs.Common.{arith}
use Rattle.std.specs.Prelude.{slice_get}
use Rattle.pli_language.specs.declared.condition.Condition.TheVariants as C
use Rattle.pli_typing.specs.TypedTree as Y
use Rattle.pli_meaning.specs.declared.outcome.End.TheVariants as E
use Rattle.pli_meaning.specs.Control as F
use Rattle.pli_meaning.specs.Evaluating as V
use Rattle.pli_meaning.specs.Executing as M
use Rattle.pli_meaning.specs.Making as K
use Rattle.pli_meaning.specs.Placing as P
use Rattle.pli_meaning.specs.Raising as R
use Rattle.pli_coding.specs.Images.{code_of, picture_of}
use Rattle.pli_coding.specs.Linking.{links_of}
use Rattle.well_formed_trees.specs.Blocks.{times}
use Rattle.well_formed_trees.specs.Declarations.{SoundVariable}
use Rattle.well_formed_trees.specs.References.{Designates, IsNumberScalar, IsScalar}
use Rattle.well_formed_trees.specs.Surroundings.{Around, NoReturn, Returns, Table, Where}
use Rattle.well_formed_trees.specs.WellFormed.{AreNested, AreNumbered, DeclaresSound, IsBehind, IsEntry, IsWellFormed}
use Rattle.well_formed_trees.specs.WellFormed.{SoundProcedure}
use Rattle.storage_relation.proofs.Holders.{eqb-other}
use Rattle.run_steps.proofs.Linking.{linked_length}
use Rattle.expression_runs.specs.Variables.{number_declared, whole}
use Rattle.pli_headline.specs.Headline.{FitsMemory, parts}
use Rattle.unit_numbers.specs.Headlines.{IsUnitProgram}
use Rattle.unit_numbers.specs.RescueRows.{rescue_body, rescue_head, rescue_label, rescue_main, rescue_program}
use Rattle.unit_numbers.specs.RescueRows.{rescue_spot}

-- ---- it is well formed

abbrev main_entry : Around
main_entry = record { number = 1; level = 0; outermost = rescue_label ∷ []; inner = [] }

abbrev unit_entry : Around
unit_entry = record { number = 2; level = 1; outermost = []; inner = [] }

abbrev table : Table
table = [] ∷ (main_entry ∷ []) ∷ (unit_entry ∷ main_entry ∷ []) ∷ []

abbrev in_main : Where
in_main = record { program = rescue_program; table = table; around = main_entry ∷ []; returning = Returns None }

abbrev in_the_unit : Where
in_the_unit =
    record { program = rescue_program; table = table; around = unit_entry ∷ main_entry ∷ []; returning = NoReturn }

abbrev main_is : Designates in_main (whole rescue_spot)
main_is = record {
  d = number_declared [];
  declared = record { found = refl; same_class = refl; block_around = inl (refl, refl) };
  dimensions = 0;
  member = record { place = 0; dimensions_are = refl; part_is = refl; some = omega arith; within = omega arith };
  subscripted = inl refl;
}

abbrev unit_is : Designates in_the_unit (whole rescue_spot)
unit_is = record {
  d = number_declared [];
  declared = record { found = refl; same_class = refl; block_around = inr (inl (refl, refl)) };
  dimensions = 0;
  member = record { place = 0; dimensions_are = refl; part_is = refl; some = omega arith; within = omega arith };
  subscripted = inl refl;
}

main_scalar : IsScalar in_main (Y.FixedLeaf 31) (whole rescue_spot)
main_scalar = record {
  designates = main_is;
  leaf = record { type = Y.FixedLeaf 31; bounds = []; initial = [] };
  one = record { one = refl; leaf_is = refl };
  type_is = refl;
  many = refl;
}

unit_scalar : IsScalar in_the_unit (Y.FixedLeaf 31) (whole rescue_spot)
unit_scalar = record {
  designates = unit_is;
  leaf = record { type = Y.FixedLeaf 31; bounds = []; initial = [] };
  one = record { one = refl; leaf_is = refl };
  type_is = refl;
  many = refl;
}

main_number : IsNumberScalar in_main (whole rescue_spot)
main_number = record { precision = 31; scalar = main_scalar }

rescue_sound : SoundProcedure table rescue_program rescue_main
rescue_sound = record {
  head = rescue_head;
  body = rescue_body;
  is = refl;
  kind = refl;
  line = omega arith;
  outer = [];
  held = refl;
  listed = refl;
  statements = (
    (
      record { type = Y.FixedLeaf 31; scalar = main_scalar; fits = refl },
      ((main_is, (tt, (tt, tt))), (((omega arith, omega arith), omega arith), omega arith)),
    ),
    (
      (
        (tt, (record { line = omega arith; level = refl }, refl)),
        (
          (
            (
              record { type = Y.FixedLeaf 31; scalar = unit_scalar; fits = refl },
              ((unit_is, (tt, (tt, tt))), (((omega arith, omega arith), tt), omega arith)),
            ),
            ((inr (inl (refl, refl)), omega arith), tt),
          ),
          omega arith,
        ),
      ),
      (
        (
          record { type = Y.FixedLeaf 31; scalar = main_scalar; fits = refl },
          (
            (main_is, (tt, (tt, tt))),
            (
              (
                (omega arith, omega arith),
                (omega arith, (main_number, (main_is, (tt, (tt, tt))))),
              ),
              omega arith,
            ),
          ),
        ),
        (
          (((main_number, (main_is, (tt, (tt, tt)))), omega arith), (omega arith, omega arith)),
          tt,
        ),
      ),
    ),
  );
  labels = ((refl, tt), (tt, ((tt, (tt, (tt, tt))), (tt, (tt, tt)))));
  parameters = tt;
  apart = tt;
  result = tt;
}

rescue_entries : (number : ℕ) → 1 ≤ number → number < 3 → IsEntry table number
rescue_entries zero low high = absurd (omega (arith, low))
rescue_entries (suc zero) low high =
    record { own = main_entry; outer = []; entry = refl; number_is = refl; shallow = omega arith }
rescue_entries (suc (suc zero)) low high =
    record { own = unit_entry; outer = main_entry ∷ []; entry = refl; number_is = refl; shallow = omega arith }
rescue_entries (suc (suc (suc n))) low high = absurd (omega (arith, high))

-- only the unit stands behind the beginning of the main procedure
none_between :
    (high m : ℕ) (a : Around) (more : List Around) → high < 3 → 1 < m → m ≤ high →
    slice_get table m ≡ Some (a ∷ more) → 0 < a.level
none_between high zero a more few low within e = absurd (omega (arith, low))
none_between high (suc zero) a more few low within e = absurd (omega (arith, low))
none_between high (suc (suc zero)) a more few low within e =
    let is : unit_entry ≡ a = cc e in
    subst (λ (x : Around). 0 < x.level) is (omega arith)
none_between high (suc (suc (suc n))) a more few low within e = absurd (omega (arith, few, within))

rescue_nested : AreNested table
rescue_nested zero own outer e = absurd (cc e)
rescue_nested (suc zero) own outer e =
    let is : [] ≡ outer = cc e in
    subst (λ os. IsBehind table 1 os) is tt
rescue_nested (suc (suc zero)) own outer e =
    let is : main_entry ∷ [] ≡ outer = cc e in
    subst (λ os. IsBehind table 2 os) is
    (omega arith, λ m a more low high at. none_between 2 m a more (omega arith) low high at)
rescue_nested (suc (suc (suc n))) own outer e = absurd (cc e)

rescue_numbers : AreNumbered 3 (1 ∷ 2 ∷ [])
rescue_numbers = record { once = once; none = none; not_outermost = refl }
  where
    once : (n : ℕ) → 1 ≤ n → n < 3 → times n (1 ∷ 2 ∷ []) ≡ 1
    once zero low high = absurd (omega (arith, low))
    once (suc zero) low high = refl
    once (suc (suc zero)) low high = refl
    once (suc (suc (suc n))) low high = absurd (omega (arith, high))

    none : (n : ℕ) → 3 ≤ n → times n (1 ∷ 2 ∷ []) ≡ 0
    none n low = simp (eqb-other n 1 (λ e. omega (arith, e, low)), eqb-other n 2 (λ e. omega (arith, e, low))) refl

number_sound : (w : Where) → SoundVariable w 0 (number_declared [])
number_sound w = record {
  members = (refl, tt);
  many = refl;
  dimensions = (refl, tt);
  leaves = (record { type_is = (omega arith, omega arith); bounds_are = tt; few = omega arith; initial_is = tt }, tt);
  areas = inl (tt, tt);
  refer = tt;
  kept = ((λ k. k, tt), tt);
  evaluations = tt;
}

rescue_declares : (number : ℕ) → DeclaresSound table rescue_program number
rescue_declares zero around e = tt
rescue_declares (suc zero) around e = (number_sound _, tt)
rescue_declares (suc (suc zero)) around e = tt
rescue_declares (suc (suc (suc n))) around e = absurd (cc e)

rescue_well : IsWellFormed rescue_program
rescue_well = record {
  table = table;
  main = (refl, (refl, tt));
  numbers = rescue_numbers;
  entries = rescue_entries;
  nested = rescue_nested;
  procedures = (rescue_sound, tt);
  lists = refl;
  outermost = refl;
  variables = rescue_declares;
}

-- ---- it is of the class

pub rescue_program_is : IsUnitProgram rescue_program
rescue_program_is = record { well_formed = rescue_well; units = refl }

pub rescue_fits : FitsMemory (picture_of parts rescue_program)
rescue_fits =
    let n = linked_length (links_of (code_of parts rescue_program)) 0 (code_of parts rescue_program) in
    record { code_fits = omega (arith, n); statics_fit = omega arith }

-- ---- what it comes to

unfoldable flows : Unit {0}
unfolding F.give F.◌>>=◌ F.◌>>◌ F.looked F.stored F.act F.finish F.returns F.jumps F.choose F.given F.list_from
    F.leaving F.repeated_while M.met_after_act
flows = tt

unfoldable values : Unit {0}
unfolding V.number V.bit V.designated V.located V.numbers V.variable_designated V.part_designated V.stored_value
    R.or_error R.demanded R.value_of R.raised R.unit_run R.error R.error_unit_run P.element_stored M.assigned
    V.computational
values = tt

unfoldable makings : Unit {0}
unfolding K.variables_made K.automatic_made K.extents K.variable_made K.parameters_bound
makings = tt

unfoldable statements : Unit {0}
unfolding M.statement M.statements M.list M.list_with M.block_variables_made M.entry_act M.block_list M.block_body
    M.established_by
statements = tt

pub rescue_ends :
    (input : List ℕ) →
    M.meaning rescue_program input 40
    ≡ Some (record {
      acts = 18;
      output = [];
      raised = (C.ZeroDivide, 30) ∷ (C.Error, 30) ∷ (C.FixedOverflow, 20) ∷ (C.Error, 20) ∷ [];
      end = E.Finished;
    })
unfolding M.meaning M.run M.entered M.block_run M.signalled flows values makings statements
rescue_ends input = refl
