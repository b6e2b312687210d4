-- The worked row with loops that count: a program of the class, which is computed from its tree.
use Rattle.std.proofs.Common.{◌≡◌, ℕ, zero, suc, ◌≤◌, ◌<◌, ◌^◌, List, [], ◌∷◌, Some, None, refl, subst, inl, inr}
use Rattle.std.proofs.Common.{arith}
use Rattle.std.specs.Prelude.{slice_get}
use Rattle.pli_language.specs.declared.condition.Condition.TheVariants as C
use Rattle.pli_typing.specs.Signatures.{Bounds}
use Rattle.pli_typing.specs.TypedTree as Y
use Rattle.pli_meaning.specs.declared.outcome.End.TheVariants as E
use Rattle.pli_meaning.specs.Control as F
use Rattle.pli_meaning.specs.Evaluating as V
use Rattle.pli_meaning.specs.Executing as M
use Rattle.pli_meaning.specs.Making as K
use Rattle.pli_meaning.specs.Placing as P
use Rattle.pli_meaning.specs.Raising as R
use Rattle.pli_coding.specs.Images.{code_of, picture_of}
use Rattle.pli_coding.specs.Linking.{links_of}
use Rattle.well_formed_trees.specs.Blocks.{times}
use Rattle.well_formed_trees.specs.Declarations.{SoundVariable}
use Rattle.well_formed_trees.specs.Expressions.{SoundNumber}
use Rattle.well_formed_trees.specs.References.{Designates, IsScalar}
use Rattle.well_formed_trees.specs.Statements.{SoundStmt}
use Rattle.well_formed_trees.specs.Surroundings.{Around, IsDeclared, NoReturn, Returns, Table, Where}
use Rattle.well_formed_trees.specs.WellFormed.{AreNested, AreNumbered, DeclaresSound, IsBehind, IsEntry, IsWellFormed}
use Rattle.well_formed_trees.specs.WellFormed.{SoundProcedure}
use Rattle.storage_relation.proofs.Holders.{eqb-other}
use Rattle.run_steps.proofs.Linking.{linked_length}
use Rattle.expression_runs.specs.Variables.{Spot, number_declared, variable_of, whole}
use Rattle.element_runs.specs.Arrays.{array_declared, array_leaf, element}
use Rattle.element_runs.specs.Laws.{element_assigned}
use Rattle.pli_headline.specs.Headline.{FitsMemory, parts}
use Rattle.unit_numbers.specs.Headlines.{IsUnitProgram}
use Rattle.unit_numbers.specs.TallyRows.{first_tally, number_at, spot_at, tally_body, tally_bounds, tally_head}
use Rattle.unit_numbers.specs.TallyRows.{tally_main, tally_program}

-- ---- it is well formed

abbrev main_entry : Around
main_entry = record { number = 1; level = 0; outermost = []; inner = [] }

abbrev unit_entry : Around
unit_entry = record { number = 2; level = 1; outermost = []; inner = [] }

abbrev table : Table
table = [] ∷ (main_entry ∷ []) ∷ (unit_entry ∷ main_entry ∷ []) ∷ []

abbrev in_main : Where
in_main = record { program = tally_program; table = table; around = main_entry ∷ []; returning = Returns None }

abbrev in_the_unit : Where
in_the_unit =
    record { program = tally_program; table = table; around = unit_entry ∷ main_entry ∷ []; returning = NoReturn }

-- a number, and an element, where they are declared
number_designated :
    (w : Where) (x : Spot) → IsDeclared w (variable_of x) (number_declared []) → Designates w (whole x)
number_designated w x declared = record {
  d = number_declared [];
  declared = declared;
  dimensions = 0;
  member = record { place = 0; dimensions_are = refl; part_is = refl; some = omega arith; within = omega arith };
  subscripted = inl refl;
}

number_scalar :
    (w : Where) (x : Spot) → IsDeclared w (variable_of x) (number_declared []) →
    IsScalar w (Y.FixedLeaf 31) (whole x)
unfolding number_designated
number_scalar w x declared = record {
  designates = number_designated w x declared;
  leaf = record { type = Y.FixedLeaf 31; bounds = []; initial = [] };
  one = record { one = refl; leaf_is = refl };
  type_is = refl;
  many = refl;
}

number_sound :
    (w : Where) (x : Spot) → IsDeclared w (variable_of x) (number_declared []) →
    SoundNumber w (Y.NumberIn (whole x))
number_sound w x declared = (
  record { precision = 31; scalar = number_scalar w x declared },
  (number_designated w x declared, (tt, (tt, tt))),
)

element_designated :
    (w : Where) (x : Spot) (b : Bounds) (y : Y.Number) → IsDeclared w (variable_of x) (array_declared b []) →
    Designates w (element x y)
element_designated w x b y declared = record {
  d = array_declared b [];
  declared = declared;
  dimensions = 1;
  member = record { place = 0; dimensions_are = refl; part_is = refl; some = omega arith; within = omega arith };
  subscripted = inr refl;
}

element_scalar :
    (w : Where) (x : Spot) (b : Bounds) (y : Y.Number) → IsDeclared w (variable_of x) (array_declared b []) →
    IsScalar w (Y.FixedLeaf 31) (element x y)
unfolding element_designated
element_scalar w x b y declared = record {
  designates = element_designated w x b y declared;
  leaf = array_leaf b [];
  one = record { one = refl; leaf_is = refl };
  type_is = refl;
  many = refl;
}

tally_assigned :
    (w : Where) (x : Spot) (b : Bounds) (y z : Y.Number) (line : ℕ) →
    IsDeclared w (variable_of x) (array_declared b []) → SoundNumber w y → SoundNumber w z → line < 2 ^ 31 →
    SoundStmt w (element_assigned x y z line)
tally_assigned w x b y z line declared subscript value few = (
  record { type = Y.FixedLeaf 31; scalar = element_scalar w x b y declared; fits = refl },
  (
    (element_designated w x b y declared, (tt, (tt, (subscript, tt)))),
    (((omega arith, omega arith), value), few),
  ),
)

-- ---- its main procedure

tallies_in : IsDeclared in_main (variable_of (spot_at 0)) (array_declared tally_bounds [])
tallies_in = record { found = refl; same_class = refl; block_around = inl (refl, refl) }

counter_in : IsDeclared in_main (variable_of (spot_at 1)) (number_declared [])
counter_in = record { found = refl; same_class = refl; block_around = inl (refl, refl) }

outer_tallies : IsDeclared in_the_unit (variable_of (spot_at 0)) (array_declared tally_bounds [])
outer_tallies = record { found = refl; same_class = refl; block_around = inr (inl (refl, refl)) }

outer_counter : IsDeclared in_the_unit (variable_of (spot_at 2)) (number_declared [])
outer_counter = record { found = refl; same_class = refl; block_around = inr (inl (refl, refl)) }

first_sound : SoundNumber in_main first_tally
first_sound = (
  record {
    precision = 31;
    scalar = element_scalar in_main (spot_at 0) tally_bounds (Y.NumberConstant 1) tallies_in;
  },
  (
    element_designated in_main (spot_at 0) tally_bounds (Y.NumberConstant 1) tallies_in,
    (tt, (tt, (omega arith, tt))),
  ),
)

tally_sound : SoundProcedure table tally_program tally_main
tally_sound = record {
  head = tally_head;
  body = tally_body;
  is = refl;
  kind = refl;
  line = omega arith;
  outer = [];
  held = refl;
  listed = refl;
  statements = (
    tally_assigned in_main (spot_at 0) tally_bounds (Y.NumberConstant 1) (Y.NumberConstant 2147483647) 3 tallies_in
        (omega arith) (omega arith) (omega arith),
    (
      (
        (tt, (record { line = omega arith; level = refl }, refl)),
        (
          (
            (
              (
                (
                  number_scalar in_the_unit (spot_at 2) outer_counter,
                  (number_designated in_the_unit (spot_at 2) outer_counter, (tt, (tt, tt))),
                ),
                (((omega arith, omega arith), omega arith), (omega arith, omega arith)),
              ),
              (
                tt,
                (
                  (
                    tally_assigned in_the_unit (spot_at 0) tally_bounds (number_at 2) (number_at 2) 5 outer_tallies
                        (number_sound in_the_unit (spot_at 2) outer_counter)
                        (number_sound in_the_unit (spot_at 2) outer_counter) (omega arith),
                    tt,
                  ),
                  omega arith,
                ),
              ),
            ),
            tt,
          ),
          omega arith,
        ),
      ),
      (
        (
          (
            (
              number_scalar in_main (spot_at 1) counter_in,
              (number_designated in_main (spot_at 1) counter_in, (tt, (tt, tt))),
            ),
            (((omega arith, omega arith), omega arith), (omega arith, omega arith)),
          ),
          (
            tt,
            (
              (
                tally_assigned in_main (spot_at 0) tally_bounds (number_at 1)
                    (Y.Calculated Y.Sum first_tally first_tally) 7 tallies_in
                    (number_sound in_main (spot_at 1) counter_in) (first_sound, first_sound) (omega arith),
                tt,
              ),
              omega arith,
            ),
          ),
        ),
        tt,
      ),
    ),
  );
  labels = (tt, (tt, ((tt, ((tt, tt), tt)), ((tt, tt), tt))));
  parameters = tt;
  apart = tt;
  result = tt;
}

-- ---- its blocks

tally_entries : (number : ℕ) → 1 ≤ number → number < 3 → IsEntry table number
tally_entries zero low high = absurd (omega (arith, low))
tally_entries (suc zero) low high =
    record { own = main_entry; outer = []; entry = refl; number_is = refl; shallow = omega arith }
tally_entries (suc (suc zero)) low high =
    record { own = unit_entry; outer = main_entry ∷ []; entry = refl; number_is = refl; shallow = omega arith }
tally_entries (suc (suc (suc n))) low high = absurd (omega (arith, high))

-- only the unit stands behind the beginning of the main procedure
none_between :
    (high m : ℕ) (a : Around) (more : List Around) → high < 3 → 1 < m → m ≤ high →
    slice_get table m ≡ Some (a ∷ more) → 0 < a.level
none_between high zero a more few low within e = absurd (omega (arith, low))
none_between high (suc zero) a more few low within e = absurd (omega (arith, low))
none_between high (suc (suc zero)) a more few low within e =
    let is : unit_entry ≡ a = cc e in
    subst (λ (x : Around). 0 < x.level) is (omega arith)
none_between high (suc (suc (suc n))) a more few low within e = absurd (omega (arith, few, within))

tally_nested : AreNested table
tally_nested zero own outer e = absurd (cc e)
tally_nested (suc zero) own outer e =
    let is : [] ≡ outer = cc e in
    subst (λ os. IsBehind table 1 os) is tt
tally_nested (suc (suc zero)) own outer e =
    let is : main_entry ∷ [] ≡ outer = cc e in
    subst (λ os. IsBehind table 2 os) is
    (omega arith, λ m a more low high at. none_between 2 m a more (omega arith) low high at)
tally_nested (suc (suc (suc n))) own outer e = absurd (cc e)

tally_numbers : AreNumbered 3 (1 ∷ 2 ∷ [])
tally_numbers = record { once = once; none = none; not_outermost = refl }
  where
    once : (n : ℕ) → 1 ≤ n → n < 3 → times n (1 ∷ 2 ∷ []) ≡ 1
    once zero low high = absurd (omega (arith, low))
    once (suc zero) low high = refl
    once (suc (suc zero)) low high = refl
    once (suc (suc (suc n))) low high = absurd (omega (arith, high))

    none : (n : ℕ) → 3 ≤ n → times n (1 ∷ 2 ∷ []) ≡ 0
    none n low = simp (eqb-other n 1 (λ e. omega (arith, e, low)), eqb-other n 2 (λ e. omega (arith, e, low))) refl

tallies_declared : (w : Where) → SoundVariable w 0 (array_declared tally_bounds [])
tallies_declared w = record {
  members = (refl, tt);
  many = refl;
  dimensions = (refl, tt);
  leaves = (
    record {
      type_is = (omega arith, omega arith);
      bounds_are = (((omega arith, omega arith), ((refl, tt), tt)), tt);
      few = omega arith;
      initial_is = tt;
    },
    tt,
  );
  areas = inl (tt, tt);
  refer = tt;
  kept = ((λ k. k, (λ e. absurd (cc e), tt)), tt);
  evaluations = tt;
}

number_variable : (w : Where) (index : ℕ) → SoundVariable w index (number_declared [])
number_variable w index = record {
  members = (refl, tt);
  many = refl;
  dimensions = (refl, tt);
  leaves = (record { type_is = (omega arith, omega arith); bounds_are = tt; few = omega arith; initial_is = tt }, tt);
  areas = inl (tt, tt);
  refer = tt;
  kept = ((λ k. k, tt), tt);
  evaluations = tt;
}

tally_declares : (number : ℕ) → DeclaresSound table tally_program number
tally_declares zero around e = tt
tally_declares (suc zero) around e = (tallies_declared _, (number_variable _ 1, (number_variable _ 2, tt)))
tally_declares (suc (suc zero)) around e = tt
tally_declares (suc (suc (suc n))) around e = absurd (cc e)

tally_well : IsWellFormed tally_program
tally_well = record {
  table = table;
  main = (refl, (refl, tt));
  numbers = tally_numbers;
  entries = tally_entries;
  nested = tally_nested;
  procedures = (tally_sound, tt);
  lists = refl;
  outermost = refl;
  variables = tally_declares;
}

-- ---- it is of the class

pub tally_program_is : IsUnitProgram tally_program
tally_program_is = record { well_formed = tally_well; units = refl }

pub tally_fits : FitsMemory (picture_of parts tally_program)
tally_fits =
    let n = linked_length (links_of (code_of parts tally_program)) 0 (code_of parts tally_program) in
    record { code_fits = omega (arith, n); statics_fit = omega arith }

-- ---- what it comes to

unfoldable flows : Unit {0}
unfolding F.give F.◌>>=◌ F.◌>>◌ F.looked F.stored F.act F.finish F.returns F.jumps F.choose F.given F.list_from
    F.leaving F.repeated_while
flows = tt

unfoldable values : Unit {0}
unfolding V.number V.computational V.designated V.located V.numbers V.variable_designated V.part_designated
    V.stored_value R.or_error R.demanded R.value_of R.raised R.unit_run R.error R.error_unit_run P.element_stored
    M.assigned
values = tt

unfoldable makings : Unit {0}
unfolding K.variables_made K.automatic_made K.extents K.variable_made K.parameters_bound
makings = tt

unfoldable statements : Unit {0}
unfolding M.statement M.statements M.list M.list_with M.block_variables_made M.entry_act M.block_list M.block_body
    M.established_by M.turn_due M.within_limit M.condition_met M.counter_number M.counter_value M.counter_started
    M.stepped M.limit_of
statements = tt

pub tally_ends :
    (input : List ℕ) →
    M.meaning tally_program input 18
    ≡ Some (record { acts = 18; output = []; raised = (C.FixedOverflow, 20) ∷ []; end = E.Finished })
unfolding M.meaning M.run M.entered M.block_run flows values makings statements
tally_ends input = refl
