-- The worked row with an array: a program of the class, which is computed from its tree.
use Rattle.std.proofs.Common.{◌≡◌, ℕ, zero, suc, ◌≤◌, ◌<◌, ◌^◌, List, [], ◌∷◌, Some, None, refl, subst, inl, inr}
use Rattle.std.proofs.Common.{arith}
use Rattle.std.specs.Prelude.{slice_get}
use Rattle.pli_language.specs.declared.condition.Condition.TheVariants as C
use Rattle.pli_typing.specs.Signatures.{Bounds}
use Rattle.pli_typing.specs.TypedTree as Y
use Rattle.pli_meaning.specs.declared.outcome.End.TheVariants as E
use Rattle.pli_meaning.specs.Control as F
use Rattle.pli_meaning.specs.Evaluating as V
use Rattle.pli_meaning.specs.Executing as M
use Rattle.pli_meaning.specs.Making as K
use Rattle.pli_meaning.specs.Placing as P
use Rattle.pli_meaning.specs.Raising as R
use Rattle.pli_coding.specs.Images.{code_of, picture_of}
use Rattle.pli_coding.specs.Linking.{links_of}
use Rattle.well_formed_trees.specs.Blocks.{times}
use Rattle.well_formed_trees.specs.Declarations.{SoundVariable}
use Rattle.well_formed_trees.specs.Expressions.{SoundNumber}
use Rattle.well_formed_trees.specs.References.{Designates, IsScalar}
use Rattle.well_formed_trees.specs.Statements.{SoundStmt}
use Rattle.well_formed_trees.specs.Surroundings.{Around, IsDeclared, Returns, Table, Where}
use Rattle.well_formed_trees.specs.WellFormed.{AreNested, AreNumbered, DeclaresSound, IsBehind, IsEntry, IsWellFormed}
use Rattle.well_formed_trees.specs.WellFormed.{SoundProcedure}
use Rattle.storage_relation.proofs.Holders.{eqb-other}
use Rattle.run_steps.proofs.Linking.{linked_length}
use Rattle.expression_runs.specs.Assignments.{assignment}
use Rattle.expression_runs.specs.Variables.{Spot, number_declared, variable_of, whole}
use Rattle.element_runs.specs.Arrays.{array_declared, array_leaf, element}
use Rattle.pli_headline.specs.Headline.{FitsMemory, parts}
use Rattle.number_headlines.specs.ArrayRows.{flag, flag_bounds, flags_spot, next_struck, place_body, place_function}
use Rattle.number_headlines.specs.ArrayRows.{prime, prime_spot, sieve_body, sieve_main, sieve_program, strike}
use Rattle.number_headlines.specs.ArrayRows.{next_prime, struck, struck_spot}
use Rattle.number_headlines.specs.CallRows.{head_at}
use Rattle.number_headlines.specs.Headlines.{IsNumberProgram}

-- ---- it is well formed

abbrev main_entry : Around
main_entry = record { number = 1; level = 0; outermost = []; inner = [] }

abbrev place_entry : Around
place_entry = record { number = 2; level = 1; outermost = []; inner = [] }

abbrev table : Table
table = [] ∷ (main_entry ∷ []) ∷ (place_entry ∷ main_entry ∷ []) ∷ []

-- also in the lists of loops
abbrev in_main : Where
in_main = record { program = sieve_program; table = table; around = main_entry ∷ []; returning = Returns None }

abbrev in_place : Where
in_place =
    record {
      program = sieve_program;
      table = table;
      around = place_entry ∷ main_entry ∷ [];
      returning = Returns (Some (Y.FixedLeaf 31));
    }

-- a number, and an element, where they are declared
number_designated :
    (w : Where) (x : Spot) → IsDeclared w (variable_of x) (number_declared []) → Designates w (whole x)
number_designated w x declared = record {
  d = number_declared [];
  declared = declared;
  dimensions = 0;
  member = record { place = 0; dimensions_are = refl; part_is = refl; some = omega arith; within = omega arith };
  subscripted = inl refl;
}

number_scalar :
    (w : Where) (x : Spot) → IsDeclared w (variable_of x) (number_declared []) →
    IsScalar w (Y.FixedLeaf 31) (whole x)
unfolding number_designated
number_scalar w x declared = record {
  designates = number_designated w x declared;
  leaf = record { type = Y.FixedLeaf 31; bounds = []; initial = [] };
  one = record { one = refl; leaf_is = refl };
  type_is = refl;
  many = refl;
}

number_sound :
    (w : Where) (x : Spot) → IsDeclared w (variable_of x) (number_declared []) →
    SoundNumber w (Y.NumberIn (whole x))
number_sound w x declared = (
  record { precision = 31; scalar = number_scalar w x declared },
  (number_designated w x declared, (tt, (tt, tt))),
)

assigned_sound :
    (w : Where) (x : Spot) (y : Y.Number) (line : ℕ) → IsDeclared w (variable_of x) (number_declared []) →
    SoundNumber w y → line < 2 ^ 31 → SoundStmt w (assignment x y line)
assigned_sound w x y line declared sound few = (
  record { type = Y.FixedLeaf 31; scalar = number_scalar w x declared; fits = refl },
  ((number_designated w x declared, (tt, (tt, tt))), (((omega arith, omega arith), sound), few)),
)

element_designated :
    (w : Where) (x : Spot) (b : Bounds) (y : Y.Number) → IsDeclared w (variable_of x) (array_declared b []) →
    Designates w (element x y)
element_designated w x b y declared = record {
  d = array_declared b [];
  declared = declared;
  dimensions = 1;
  member = record { place = 0; dimensions_are = refl; part_is = refl; some = omega arith; within = omega arith };
  subscripted = inr refl;
}

element_scalar :
    (w : Where) (x : Spot) (b : Bounds) (y : Y.Number) → IsDeclared w (variable_of x) (array_declared b []) →
    IsScalar w (Y.FixedLeaf 31) (element x y)
unfolding element_designated
element_scalar w x b y declared = record {
  designates = element_designated w x b y declared;
  leaf = array_leaf b [];
  one = record { one = refl; leaf_is = refl };
  type_is = refl;
  many = refl;
}

-- ---- its main procedure

flags_in : IsDeclared in_main (variable_of flags_spot) (array_declared flag_bounds [])
flags_in = record { found = refl; same_class = refl; block_around = inl (refl, refl) }

prime_in : IsDeclared in_main (variable_of prime_spot) (number_declared [])
prime_in = record { found = refl; same_class = refl; block_around = inl (refl, refl) }

struck_in : IsDeclared in_main (variable_of struck_spot) (number_declared [])
struck_in = record { found = refl; same_class = refl; block_around = inl (refl, refl) }

prime_sound : SoundNumber in_main prime
prime_sound = number_sound in_main prime_spot prime_in

struck_sound : SoundNumber in_main struck
struck_sound = number_sound in_main struck_spot struck_in

next_struck_sound : SoundNumber in_main next_struck
next_struck_sound = (
  (place_function, refl, tt),
  (
    record {
      procedure = place_function;
      is = record {
        found = refl;
        level_is = refl;
        kind = refl;
        own = place_entry;
        holder = main_entry;
        outer = [];
        entry = refl;
        holder_around = inl (refl, refl);
      };
      passed = tt;
    },
    tt,
  ),
)

flag_sound : SoundNumber in_main flag
flag_sound = (
  record { precision = 31; scalar = element_scalar in_main flags_spot flag_bounds prime flags_in },
  (element_designated in_main flags_spot flag_bounds prime flags_in, (tt, (tt, (prime_sound, tt)))),
)

strike_sound : (line : ℕ) → line < 2 ^ 31 → SoundStmt in_main (strike line)
strike_sound line few = (
  record {
    type = Y.FixedLeaf 31;
    scalar = element_scalar in_main flags_spot flag_bounds next_struck flags_in;
    fits = refl;
  },
  (
    (
      element_designated in_main flags_spot flag_bounds next_struck flags_in,
      (tt, (tt, (next_struck_sound, tt))),
    ),
    (((omega arith, omega arith), omega arith), few),
  ),
)

next_prime_sound : (line : ℕ) → line < 2 ^ 31 → SoundStmt in_main (next_prime line)
next_prime_sound line few =
    assigned_sound in_main prime_spot (Y.Calculated Y.Sum prime (Y.NumberConstant 1)) line prime_in
    (prime_sound, omega arith) few

main_sound : SoundProcedure table sieve_program sieve_main
main_sound = record {
  head = head_at 1 0 1;
  body = sieve_body;
  is = refl;
  kind = refl;
  line = omega arith;
  outer = [];
  held = refl;
  listed = refl;
  statements = (
    assigned_sound in_main prime_spot (Y.NumberConstant 2) 6 prime_in (omega arith) (omega arith),
    (
      (
        (prime_sound, omega arith),
        (
          (
            assigned_sound in_main struck_spot prime 8 struck_in prime_sound (omega arith),
            (
              (
                (struck_sound, (omega arith, prime_sound)),
                ((strike_sound 10 (omega arith), tt), omega arith),
              ),
              (next_prime_sound 12 (omega arith), tt),
            ),
          ),
          omega arith,
        ),
      ),
      (
        assigned_sound in_main prime_spot (Y.NumberConstant 2) 14 prime_in (omega arith) (omega arith),
        (
          (
            (flag_sound, omega arith),
            ((next_prime_sound 15 (omega arith), tt), omega arith),
          ),
          (strike_sound 16 (omega arith), tt),
        ),
      ),
    ),
  );
  labels = (tt, (tt, ((tt, ((tt, tt), (tt, tt))), (tt, ((tt, tt), (tt, tt))))));
  parameters = tt;
  apart = tt;
  result = tt;
}

-- ---- its function

outer_prime : IsDeclared in_place (variable_of prime_spot) (number_declared [])
outer_prime = record { found = refl; same_class = refl; block_around = inr (inl (refl, refl)) }

outer_struck : IsDeclared in_place (variable_of struck_spot) (number_declared [])
outer_struck = record { found = refl; same_class = refl; block_around = inr (inl (refl, refl)) }

place_sound : SoundProcedure table sieve_program place_function
place_sound = record {
  head = head_at 2 1 3;
  body = place_body;
  is = refl;
  kind = refl;
  line = omega arith;
  outer = main_entry ∷ [];
  held = (refl, refl);
  listed = refl;
  statements = (
    assigned_sound in_place struck_spot (Y.Calculated Y.Sum struck prime) 4 outer_struck
        (number_sound in_place struck_spot outer_struck, number_sound in_place prime_spot outer_prime) (omega arith),
    (
      (refl, (refl, (((omega arith, omega arith), number_sound in_place struck_spot outer_struck), omega arith))),
      tt,
    ),
  );
  labels = (tt, (tt, (tt, tt)));
  parameters = tt;
  apart = tt;
  result = (omega arith, omega arith);
}

-- ---- its blocks

sieve_entries : (number : ℕ) → 1 ≤ number → number < 3 → IsEntry table number
sieve_entries zero low high = absurd (omega (arith, low))
sieve_entries (suc zero) low high =
    record { own = main_entry; outer = []; entry = refl; number_is = refl; shallow = omega arith }
sieve_entries (suc (suc zero)) low high =
    record { own = place_entry; outer = main_entry ∷ []; entry = refl; number_is = refl; shallow = omega arith }
sieve_entries (suc (suc (suc n))) low high = absurd (omega (arith, high))

-- between the main procedure and one in it stand those of its level and none further out
none_between :
    (high m : ℕ) (a : Around) (more : List Around) → high < 3 → 1 < m → m ≤ high →
    slice_get table m ≡ Some (a ∷ more) → 0 < a.level
none_between high zero a more few low within e = absurd (omega (arith, low))
none_between high (suc zero) a more few low within e = absurd (omega (arith, low))
none_between high (suc (suc zero)) a more few low within e =
    let is : place_entry ≡ a = cc e in
    subst (λ (x : Around). 0 < x.level) is (omega arith)
none_between high (suc (suc (suc n))) a more few low within e = absurd (omega (arith, few, within))

sieve_nested : AreNested table
sieve_nested zero own outer e = absurd (cc e)
sieve_nested (suc zero) own outer e =
    let is : [] ≡ outer = cc e in
    subst (λ os. IsBehind table 1 os) is tt
sieve_nested (suc (suc zero)) own outer e =
    let is : main_entry ∷ [] ≡ outer = cc e in
    subst (λ os. IsBehind table 2 os) is
    (omega arith, λ m a more low high at. none_between 2 m a more (omega arith) low high at)
sieve_nested (suc (suc (suc n))) own outer e = absurd (cc e)

sieve_numbers : AreNumbered 3 (1 ∷ 2 ∷ [])
sieve_numbers = record { once = once; none = none; not_outermost = refl }
  where
    once : (n : ℕ) → 1 ≤ n → n < 3 → times n (1 ∷ 2 ∷ []) ≡ 1
    once zero low high = absurd (omega (arith, low))
    once (suc zero) low high = refl
    once (suc (suc zero)) low high = refl
    once (suc (suc (suc n))) low high = absurd (omega (arith, high))

    none : (n : ℕ) → 3 ≤ n → times n (1 ∷ 2 ∷ []) ≡ 0
    none n low =
        simp (
          eqb-other n 1 (λ e. omega (arith, e, low)),
          eqb-other n 2 (λ e. omega (arith, e, low)),
        ) refl

flags_declared : (w : Where) → SoundVariable w 0 (array_declared flag_bounds [])
flags_declared w = record {
  members = (refl, tt);
  many = refl;
  dimensions = (refl, tt);
  leaves = (
    record {
      type_is = (omega arith, omega arith);
      bounds_are = (((omega arith, omega arith), ((refl, tt), tt)), tt);
      few = omega arith;
      initial_is = tt;
    },
    tt,
  );
  areas = inl (tt, tt);
  refer = tt;
  kept = ((λ k. k, (λ e. absurd (cc e), tt)), tt);
  evaluations = tt;
}

number_variable : (w : Where) (index : ℕ) → SoundVariable w index (number_declared [])
number_variable w index = record {
  members = (refl, tt);
  many = refl;
  dimensions = (refl, tt);
  leaves = (record { type_is = (omega arith, omega arith); bounds_are = tt; few = omega arith; initial_is = tt }, tt);
  areas = inl (tt, tt);
  refer = tt;
  kept = ((λ k. k, tt), tt);
  evaluations = tt;
}

sieve_declares : (number : ℕ) → DeclaresSound table sieve_program number
sieve_declares zero around e = tt
sieve_declares (suc zero) around e = (flags_declared _, (number_variable _ 1, (number_variable _ 2, tt)))
sieve_declares (suc (suc zero)) around e = tt
sieve_declares (suc (suc (suc n))) around e = absurd (cc e)

sieve_well : IsWellFormed sieve_program
sieve_well = record {
  table = table;
  main = (refl, (refl, (omega arith, tt)));
  numbers = sieve_numbers;
  entries = sieve_entries;
  nested = sieve_nested;
  procedures = (main_sound, (place_sound, tt));
  lists = refl;
  outermost = refl;
  variables = sieve_declares;
}

-- ---- it is of the class

pub sieve_program_is : IsNumberProgram sieve_program
sieve_program_is = record { well_formed = sieve_well; numbers = refl }

pub sieve_fits : FitsMemory (picture_of parts sieve_program)
sieve_fits =
    let n = linked_length (links_of (code_of parts sieve_program)) 0 (code_of parts sieve_program) in
    record { code_fits = omega (arith, n); statics_fit = omega arith }

-- ---- what it comes to

unfoldable flows : Unit {0}
unfolding F.give F.◌>>=◌ F.◌>>◌ F.looked F.stored F.act F.finish F.returns F.jumps F.choose F.given F.list_from
    F.leaving F.repeated_while M.met_after_act
flows = tt

unfoldable values : Unit {0}
unfolding V.number V.bit V.designated V.located V.numbers V.variable_designated V.part_designated V.stored_value
    R.or_error R.demanded R.value_of R.raised R.unit_run R.error R.error_unit_run P.element_stored M.assigned
values = tt

unfoldable calls : Unit {0}
unfolding V.called V.all_passed_last V.procedure_entered V.returned
calls = tt

unfoldable makings : Unit {0}
unfolding K.variables_made K.automatic_made K.extents K.variable_made K.parameters_bound
makings = tt

unfoldable statements : Unit {0}
unfolding M.statement M.statements M.list M.list_with M.block_variables_made M.entry_act M.block_list M.block_body
statements = tt

pub sieve_ends :
    (input : List ℕ) →
    M.meaning sieve_program input 57
    ≡ Some (record { acts = 57; output = []; raised = (C.Error, 102) ∷ []; end = E.Error 102 16 })
unfolding M.meaning M.run M.entered M.block_run flows values calls makings statements
sieve_ends input = refl
